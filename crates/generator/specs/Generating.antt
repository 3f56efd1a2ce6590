-- 02's Point 4: a sheet from a seed.
use Rattle.std.specs.Prelude.{ℕ, zero, suc, ◌+◌, ◌*◌, ◌/◌, ◌%◌, ◌^◌, Bool, false, cond, not, ◌&&◌, List, [], ◌∷◌, ◌++◌, length, ◌==◌, bit_xor, nat_le, nat_lt}
use Rattle.sheet.specs.declared.Row.{Row}
use Rattle.sheet.specs.declared.Size.{Size}
use Rattle.sheet.specs.Sheet.{Sheet}
use Rattle.sheet.specs.Encode.{encode}
use Rattle.sheet.specs.Reading.{Result, accepted, refused, size_in_range}

-- a draw adds this to the seed, wrapping at 32 bits, and keeps the sum as the new seed
abbrev pub next_seed : ℕ → ℕ
next_seed seed = (seed + 0x9E3779B9) % 2 ^ 32

-- the number drawn below a bound, by the new seed: it and itself shifted right 16, by exclusive or
unfoldable pub drawn : ℕ → ℕ → ℕ
drawn bound seed = bit_xor seed (seed / 2 ^ 16) % bound

-- the seeds of a pair's three draws, by the seed before them
abbrev pub second : ℕ → ℕ
second seed = next_seed (next_seed seed)

abbrev pub third : ℕ → ℕ
third seed = next_seed (second seed)

-- the rule of the state s and the input x: an output, then a next state; input 0 leads to the state after s in place of the one drawn
unfoldable pub rule_from : Size → ℕ → ℕ → ℕ → Row
rule_from z seed s x =
    record {
      source = s;
      input = x;
      output = drawn z.outputs (next_seed seed);
      target = cond (x == 0) ((s + 1) % z.states) (drawn z.states (second seed));
    }

-- the pair gets a fault: the third draw is 0, there are two outputs at least, and fewer than 32 faults stand
unfoldable pub is_faulty : Size → ℕ → ℕ → Bool
is_faulty z lot standing = lot == 0 && (nat_le 2 z.outputs && nat_lt standing 32)

-- the fault of a rule: the next output, the same next state
abbrev pub fault_of : Size → Row → Row
fault_of z r = record { source = r.source; input = r.input; output = (r.output + 1) % z.outputs; target = r.target }

-- the seed, the rules and the faults so far
pub record Draft : Type 0 where
  pub seed : ℕ
  pub rules : List Row
  pub faults : List Row

-- with the pair of the state s and the input x
unfoldable pub with_pair : Size → Draft → ℕ → ℕ → Draft
with_pair z d s x =
    let rule = rule_from z d.seed s x in
    record {
      seed = third d.seed;
      rules = d.rules ++ rule ∷ [];
      faults = d.faults ++ cond (is_faulty z (drawn 8 (third d.seed)) (length d.faults)) (fault_of z rule ∷ []) [];
    }

-- the first i pairs in ascending order: pair i is that of the state i / k and the input i % k
unfoldable pub drafted : Size → ℕ → ℕ → Draft
drafted z seed zero = record { seed = seed; rules = []; faults = [] }
drafted z seed (suc i) = with_pair z (drafted z seed i) (i / z.inputs) (i % z.inputs)

-- all pairs, no QUIET, no STARTs and no tests
unfoldable pub sheet_from : ℕ → Size → Sheet
sheet_from seed z =
    let d = drafted z seed (z.states * z.inputs) in
    record { size = z; quiet = false; rules = d.rules; faults = d.faults; starts = []; tests = [] }

-- 4 for a size out of range, then 16 for a buffer below 16,384 bytes; then the sheet
unfoldable pub generating : ℕ → Size → ℕ → Result (List ℕ)
generating seed z room = cond (not (size_in_range z)) (refused 4 0) (cond (nat_lt room 16384) (refused 16 0) (accepted (encode (sheet_from seed z))))
