-- The specification of a block and a machine laid out in tables, at state * 16 + input its output and its next state; and their product.
use Rattle.std.specs.Prelude.{ℕ, ◌/◌, ◌%◌, ◌<◌, cond, ◌&&◌, List, eqb, ltb, get_or}
use Rattle.lists.specs.Lists.{maybe}
use Rattle.model.specs.Machine.{Move, Pair}
use Rattle.model.specs.Mutant.{idle}
use Rattle.block.specs.Layout.{pair, states_of, inputs_of}
use Rattle.block.specs.Tabulated.{Wf, rule_of}
use Rattle.machine.specs.declared.product.Led.{Led}
use Rattle.machine.specs.declared.product.Led.TheVariants as led

unfoldable pub moves_in : List ℕ → List ℕ → List ℕ → ℕ → ℕ → Move
moves_in m outputs targets = λ s x.
    cond (ltb s (states_of m) && ltb x (inputs_of m)) (record { output = get_or outputs (pair s x) 0; target = get_or targets (pair s x) 0 }) idle

-- the block's specification, and the machine with its start
abbrev pub tables : List ℕ → ℕ → List ℕ → List ℕ → Pair
tables m start outputs targets =
    record { states = states_of m; inputs = inputs_of m; start = start; rule = rule_of m; move = moves_in m outputs targets }

-- what the functions ask: the machine stays among the states
pub record Valid (m targets : List ℕ) : Type 0 where
  pub formed : Wf m
  pub below : (s x : ℕ) → s < states_of m → x < inputs_of m → get_or targets (pair s x) 0 < states_of m

-- what the input x does at the pair v of the states v / 16, the specification's, and v % 16, the machine's
unfoldable pub leads : Pair → ℕ → ℕ → Led
leads m v x =
    let t = m.move (v % 16) x in
    maybe (m.rule (v / 16) x) led.Undefined (λ r. cond (eqb r.output t.output) (led.To (pair r.target t.target)) led.Apart)
