-- An accepted sheet as the reading layer hands it over, and its tables in the block.
use Rattle.std.specs.Prelude.{ℕ, ◌/◌, ◌%◌, ◌≤◌, ◌<◌, ◌≡◌, List, length, get_or}
use Rattle.sheet.specs.declared.Summary.{Summary}
use Rattle.lists.specs.Lists.{maybe}
use Rattle.sheet.specs.Sheet.{Sheet, rule_at, wakings}
use Rattle.sheet.specs.Encode.{encode}
use Rattle.sheet.specs.Reading.{accepted, reading, summary_of}
use Rattle.sheet.specs.declared.Tables.{Tables}
use Rattle.sheet.specs.Tables.{tables_of, first_fault as first_row, no_row}
use Rattle.sheet.specs.WellFormed.{WellFormed}
use Rattle.model.specs.Mutant.{slots, site_of, start_slot}
use Rattle.block.specs.declared.packing.Loaded.{Loaded}
use Rattle.block.specs.Layout.{waking, rule_output, rule_target, site_at, first_fault, mutated, diverted, choices_of, states_of, inputs_of, slots_of, wake_at}

pub record Read (sh : Sheet) (size : Summary) (tables : Tables) : Type 0 where
  pub formed : WellFormed sh
  pub summary : size ≡ summary_of sh
  pub tabled : tables ≡ tables_of sh

-- the block holds the sheet's rules (255 for none), which slot each pair and the waking state use (255 for none), the faults, how many
-- choices each slot has (1 past the last), the waking states, and the numbers of states, inputs and slots
pub record Tabled (sh : Sheet) (m : List ℕ) : Type 0 where
  pub formed : WellFormed sh
  pub outputs : (k : ℕ) → k < 256 → rule_output m k ≡ maybe (rule_at sh.rules (k / 16) (k % 16)) 255 (λ r. r.output)
  pub targets : (k : ℕ) → k < 256 → rule_target m k ≡ maybe (rule_at sh.rules (k / 16) (k % 16)) 255 (λ r. r.target)
  pub sites : (k : ℕ) → k < 256 → site_at m k ≡ maybe (site_of sh (k / 16) (k % 16)) 255 (λ i. i)
  pub firsts : (k : ℕ) → k < 256 → first_fault m k ≡ first_row sh.faults (k / 16) (k % 16)
  pub fault-outputs : (f : ℕ) → f < 256 → mutated m f ≡ (get_or sh.faults f no_row).output
  pub fault-targets : (f : ℕ) → f < 256 → diverted m f ≡ (get_or sh.faults f no_row).target
  pub choices : (i : ℕ) → i < 32 → choices_of m i ≡ get_or (slots sh) i 1
  pub states : states_of m ≡ sh.size.states
  pub inputs : inputs_of m ≡ sh.size.inputs
  pub count : slots_of m ≡ length (slots sh)
  pub waking-site : site_at m waking ≡ maybe (start_slot sh) 255 (λ i. i)
  pub wakings : (c : ℕ) → c < 16 → wake_at m c ≡ get_or (wakings sh) c 0

-- what is loaded of it: its tables in the block, and where its tests stand
pub record Loads (sh : Sheet) (m starts lengths : List ℕ) : Type 0 where
  pub tabled : Tabled sh m
  pub starts-are : starts ≡ (tables_of sh).starts
  pub lengths-are : lengths ≡ (tables_of sh).lengths

-- an accepted sheet as it is loaded: its bytes, where its tests stand in them and how many they are, and its tables in the block
pub record ReadFrom (sh : Sheet) (s starts lengths : List ℕ) (tests : ℕ) (m : List ℕ) : Type 0 where
  pub loads : Loads sh m starts lengths
  pub bytes : encode sh ≡ s
  pub many : tests ≡ length sh.tests
  pub short : length s ≤ 16384

-- the same, of what loading gives
abbrev pub LoadedFrom : Sheet → Loaded → Type 0
LoadedFrom sh l = ReadFrom sh l.sheet.now l.starts l.lengths l.size.tests l.block

-- the bytes are an accepted sheet, and this is what loading gives of it
pub record Opened (s : List ℕ) (l : Loaded) : Type 0 where
  pub sheet : Sheet
  pub is : reading s ≡ accepted sheet
  pub bytes : l.sheet.now ≡ s
  pub size : l.size ≡ summary_of sheet
  pub holds : LoadedFrom sheet l
