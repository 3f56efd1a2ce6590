-- Where the tables of a sheet and its mutants stand in the block.
use Rattle.std.specs.Prelude.{List, ℕ, ◌+◌, ◌*◌, get_or}

-- The tables are one block of bytes. By pair k = state * 16 + input: the rule's output at k and next state at 256 + k (255: no
-- rule), the index of its first fault at 512 + k. By fault f: its output at 768 + f, its next state at 1024 + f. By slot i: its last
-- choice at 1280 + i. Then the numbers of states, inputs and slots. From 1315 on which suspect each pair is (255: none), and after
-- the pairs which the waking state is. By choice c of the waking state: that state at 1572 + c. From 1588 on the pair of each
-- suspect, of which nothing is promised.
abbrev pub pair : ℕ → ℕ → ℕ
pair s x = s * 16 + x

-- the waking state, which a mutant takes after each reset, is the next state of one more pair, as it were of state 16 and input 0
abbrev pub waking : ℕ
waking = 256

abbrev pub rule_output : List ℕ → ℕ → ℕ
rule_output m k = get_or m k 0

abbrev pub rule_target : List ℕ → ℕ → ℕ
rule_target m k = get_or m (256 + k) 0

abbrev pub first_fault : List ℕ → ℕ → ℕ
first_fault m k = get_or m (512 + k) 0

abbrev pub mutated : List ℕ → ℕ → ℕ
mutated m f = get_or m (768 + f) 0

abbrev pub diverted : List ℕ → ℕ → ℕ
diverted m f = get_or m (1024 + f) 0

abbrev pub choices_of : List ℕ → ℕ → ℕ
choices_of m i = get_or m (1280 + i) 0 + 1

abbrev pub states_of : List ℕ → ℕ
states_of m = get_or m 1312 0

abbrev pub inputs_of : List ℕ → ℕ
inputs_of m = get_or m 1313 0

abbrev pub slots_of : List ℕ → ℕ
slots_of m = get_or m 1314 0

abbrev pub site_at : List ℕ → ℕ → ℕ
site_at m k = get_or m (1315 + k) 0

abbrev pub wake_at : List ℕ → ℕ → ℕ
wake_at m c = get_or m (1572 + c) 0
