-- `spell`: one part after another, each where the one before ended.
use Rattle.std.proofs.Common.{ℕ, ◌≤◌, List, [], ◌∷◌, ◌++◌, length, refl, arith}
use Rattle.sheet.specs.Sheet.{Sheet}
use Rattle.sheet.specs.Encode.{size_bytes, quiet_bytes, row_bytes, start_bytes, test_bytes, encode}
use Rattle.sheet.specs.laws.InjectiveLaw.{encode-parts, rules_on, faults_on, starts_on, tests_on}
use Rattle.writing.specs.words.Spelled.{Spelled}
use Rattle.writing.specs.Drawing.{Drawing, rows_of, tests_of, sheet_of}
use Rattle.writing.proofs.laws.SpelledLaw.{Spelling, Next, spelling-start, spelling-room, spelling-more, spelling-end}
use Rattle.writing.proofs.Drawing.spell.Goals as goal

abbrev sheet_by : Drawing → Sheet
sheet_by d =
    record { size = d.size; quiet = d.quiet; rules = rows_of d.rules; faults = rows_of d.faults; starts = d.starts; tests = tests_of d.lengths d.presses }

abbrev quiet_on : Sheet → List ℕ
quiet_on sh = quiet_bytes sh.quiet ++ rules_on sh

first : (sh : Sheet) → Next (encode sh) (1 ∷ sh.size.states ∷ sh.size.inputs ∷ sh.size.outputs ∷ []) (quiet_on sh)
unfolding size_bytes
first sh = record { is = encode-parts sh }

next : (part later : List ℕ) → Next (part ++ later) part later
next part later = record { is = refl }

-- what is left to spell after each part
module _ (d : Drawing) {old : List ℕ} (room : length (encode (sheet_of d)) ≤ length old) where
  begun : Spelling old old 0 0 (encode (sheet_by d)) (encode (sheet_by d))
  unfolding sheet_of
  begun = spelling-start (omega (arith, room))

  module _ {new₁ : List ℕ} {to₁ : ℕ} (p₁ : Spelled old new₁ 0 to₁ (1 ∷ d.size.states ∷ d.size.inputs ∷ d.size.outputs ∷ [])) where
    sized : Spelling old new₁ 0 to₁ (encode (sheet_by d)) (quiet_on (sheet_by d))
    sized = spelling-more begun (first (sheet_by d)) p₁

    module _ {new₂ : List ℕ} {to₂ : ℕ} (p₂ : Spelled new₁ new₂ to₁ to₂ (quiet_bytes d.quiet)) where
      silenced : Spelling old new₂ 0 to₂ (encode (sheet_by d)) (rules_on (sheet_by d))
      silenced = spelling-more sized (next _ _) p₂

      module _ {new₃ : List ℕ} {to₃ : ℕ} (p₃ : Spelled new₂ new₃ to₂ to₃ (row_bytes 2 (rows_of d.rules))) where
        ruled : Spelling old new₃ 0 to₃ (encode (sheet_by d)) (faults_on (sheet_by d))
        ruled = spelling-more silenced (next _ _) p₃

        module _ {new₄ : List ℕ} {to₄ : ℕ} (p₄ : Spelled new₃ new₄ to₃ to₄ (row_bytes 3 (rows_of d.faults))) where
          faulted : Spelling old new₄ 0 to₄ (encode (sheet_by d)) (starts_on (sheet_by d))
          faulted = spelling-more ruled (next _ _) p₄

          module _ {new₅ : List ℕ} {to₅ : ℕ} (p₅ : Spelled new₄ new₅ to₄ to₅ (start_bytes d.starts)) where
            started : Spelling old new₅ 0 to₅ (encode (sheet_by d)) (tests_on (sheet_by d))
            started = spelling-more faulted (next _ _) p₅

            module _ {new₆ : List ℕ} {to₆ : ℕ} (p₆ : Spelled new₅ new₆ to₅ to₆ (test_bytes (tests_of d.lengths d.presses))) where
              tested : Spelling old new₆ 0 to₆ (encode (sheet_by d)) (6 ∷ [])
              tested = spelling-more started (next _ _) p₆

pub command-sized-requires : goal.command-sized-requires
command-sized-requires c = spelling-room (begun _ c.requires.inputs_in_bounds) (first _)

pub quieted-ruled-requires : goal.quieted-ruled-requires
quieted-ruled-requires c = spelling-room (sized _ c.requires.inputs_in_bounds c.command-sized.ensures) (next _ _)

pub rows-faulted-requires : goal.rows-faulted-requires
rows-faulted-requires c = spelling-room (silenced _ c.requires.inputs_in_bounds c.command-sized.ensures c.quieted-ruled.ensures) (next _ _)

pub rows-started-requires : goal.rows-started-requires
rows-started-requires c = spelling-room (ruled _ c.requires.inputs_in_bounds c.command-sized.ensures c.quieted-ruled.ensures c.rows-faulted.ensures) (next _ _)

pub operands-tested-requires : goal.operands-tested-requires
operands-tested-requires c =
    spelling-room (faulted _ c.requires.inputs_in_bounds c.command-sized.ensures c.quieted-ruled.ensures c.rows-faulted.ensures c.rows-started.ensures) (next _ _)

pub tests-ended-requires : goal.tests-ended-requires
tests-ended-requires c =
    let s = started _ c.requires.inputs_in_bounds c.command-sized.ensures c.quieted-ruled.ensures c.rows-faulted.ensures c.rows-started.ensures c.operands-tested.ensures in
    record { lengths_in_bounds = c.requires.lengths_in_bounds; inputs_in_bounds = spelling-room s (next _ _) }

pub byte-requires : goal.byte-requires
byte-requires c =
    let s = tested _ c.requires.inputs_in_bounds c.command-sized.ensures c.quieted-ruled.ensures c.rows-faulted.ensures c.rows-started.ensures c.operands-tested.ensures c.tests-ended.ensures in
    omega (arith, spelling-room s (next (6 ∷ []) []))

pub returns : goal.returns
unfolding sheet_of
returns c =
    let s = tested _ c.requires.inputs_in_bounds c.command-sized.ensures c.quieted-ruled.ensures c.rows-faulted.ensures c.rows-started.ensures c.operands-tested.ensures c.tests-ended.ensures in
    spelling-end (spelling-more s (next _ []) c.byte.ensures) refl
