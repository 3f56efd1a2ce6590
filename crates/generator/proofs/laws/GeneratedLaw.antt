-- The sheet of every seed and every size in range is accepted, and is what Generated says.
use Rattle.std.specs.Prelude.{◌≡◌, ℕ, zero, suc, ◌+◌, ◌*◌, ◌%◌, ◌<◌, ◌≤◌, Bool, true, false, List, [], ◌∷◌, ◌++◌, length, ◌==◌, ◌≢◌}
use Rattle.std.proofs.Math.Nat.{mod-eq_of_lt, mod_self}
use Rattle.std.proofs.Common.{mul-le-mul, sym, ◌∙◌, ap, eqb-true}
use native.Mathlib.Omega.{arith}
use Rattle.std.proofs.Math.Arith.{digits_div, digits_mod, digits_lt}
use Rattle.std.proofs.Math.Path.{refl}
use Rattle.std.proofs.lemmas.Bool.{eqb-false}
use Rattle.sheet.specs.declared.Row.{Row}
use Rattle.sheet.specs.declared.Size.{Size}
use Rattle.lists.specs.Lists.{All, Ascending}
use Rattle.sheet.specs.Sheet.{Sheet, after, open_slots}
use Rattle.sheet.specs.Reading.{accepted, reading}
use Rattle.sheet.specs.Encode.{quiet_bytes, operand_bytes, test_bytes, encode}
use Rattle.sheet.specs.WellFormed.{SizeIn, RowIn, Mutates, Reachable, WellFormed}
use Rattle.sheet.specs.laws.RowLaw.{rule-has, after-snoc}
use Rattle.sheet.specs.laws.WakingLaw.{no-choice, open-slots}
use Rattle.sheet.specs.laws.AcceptsLaw.{accepts}
use Rattle.writing.proofs.laws.LengthLaw.{parts-length}
use Rattle.generator.specs.Generating.{Draft, drafted, sheet_from}
use Rattle.generator.specs.Generated.{Ruled, Faulty, Generated}
use Rattle.generator.proofs.laws.RowLaw.{rows-length}
use Rattle.generator.proofs.laws.OpenLaw.{few-open}
use Rattle.generator.proofs.laws.DraftLaw.{Drafted, drafts}

-- there are 256 pairs at most
pub few-pairs : (z : Size) → SizeIn z → z.states * z.inputs ≤ 256
few-pairs z w = mul-le-mul w.states.few w.inputs.few

-- the next output is another, where there are two
other-output : (m o : ℕ) → 2 ≤ m → o < m → (o + 1) % m ≢ o
other-output m o h k e = one (o + 1 == m) refl
  where
    one : (b : Bool) → (o + 1 == m) ≢ b
    one true q =
        let is = eqb-true (o + 1) m q in
        let none : (o + 1) % m ≡ 0 = ap (λ (n : ℕ). n % m) is ∙ mod_self m in
        omega arith
    one false q = let not-all = eqb-false (o + 1) m q in omega (arith, mod-eq_of_lt {n = o + 1} {m = m} (omega arith))

module _ (seed : ℕ) (z : Size) (w : SizeIn z) where
  abbrev draft : Draft
  draft = drafted z seed (z.states * z.inputs)

  abbrev sheet : Sheet
  sheet = record { size = z; quiet = false; rules = draft.rules; faults = draft.faults; starts = []; tests = [] }

  holds : Drafted z (z.states * z.inputs) draft
  holds = drafts z w seed (z.states * z.inputs) (omega arith)

  ruled : (s x : ℕ) → s < z.states → x < z.inputs → Ruled z draft.rules s x
  ruled s x hs hx =
      rw (digits_div s hx, digits_mod s hx) at (holds.rules.ruled (s * z.inputs + x) (digits_lt hs hx))

  -- input 0 leads from state to state
  reached : (t : ℕ) → t < z.states → Reachable sheet t
  unfolding after
  reached zero h = record { inputs = []; leads = refl }
  reached (suc t) h =
      let r = reached t (omega arith) in
      let u = ruled t 0 (omega arith) w.inputs.some in
      let next : u.rule.target ≡ suc t = u.onward refl ∙ mod-eq_of_lt (omega arith) ∙ omega arith in
      record {
        inputs = r.inputs ++ 0 ∷ [];
        leads = after-snoc draft.rules 0 r.inputs 0 ∙ rw (r.leads, u.there, next) refl;
      }

  mutates : 2 ≤ z.outputs → (r : Row) → Faulty z draft.rules r → Mutates draft.rules r
  mutates h r f =
      record {
        rule = f.rule;
        there = f.there;
        other = λ e.
            other-output z.outputs f.rule.output h (rule-has r.source r.input (RowIn z) draft.rules f.rule holds.rules.before.inside f.there).output
            (ap (λ (q : Row). q.output) (sym f.is ∙ e));
      }

  all-mutate : (l : List Row) → (0 < length l → 2 ≤ z.outputs) → All (Faulty z draft.rules) l → All (Mutates draft.rules) l
  all-mutate [] h a = tt
  all-mutate (r ∷ l) h a = (mutates (h (omega arith)) r a.0, all-mutate l (λ k. h (omega arith)) a.1)

  few-slots : open_slots sheet ≤ 32
  few-slots =
      omega (arith, open-slots sheet, no-choice sheet refl, holds.faults.few, few-open sheet (λ s x hs hx. let u = ruled s x hs hx in (u.rule, u.there)))

  well-formed : WellFormed sheet
  unfolding Ascending
  well-formed =
      record {
        size = w;
        rules = holds.rules.before.inside;
        rules-ascend = holds.rules.ascend;
        faults = holds.faults.before.inside;
        faults-ascend = holds.faults.ascend;
        faults-mutate = all-mutate draft.faults holds.faults.several holds.faults.faulty;
        few-faults = omega (arith, holds.faults.few);
        starts = tt;
        starts-ascend = tt;
        few-tests = omega arith;
        tests = tt;
        reached = reached;
        few-open = few-slots;
      }

  pub short : length (encode (sheet_from seed z)) ≤ 16384
  unfolding sheet_from quiet_bytes operand_bytes test_bytes
  short =
      omega (arith, parts-length sheet, rows-length 2 draft.rules, rows-length 3 draft.faults, holds.rules.many, holds.faults.few, few-pairs z w)

  pub read_back : reading (encode (sheet_from seed z)) ≡ accepted (sheet_from seed z)
  unfolding sheet_from
  read_back = accepts sheet well-formed short

  pub generated : Generated z (encode (sheet_from seed z))
  unfolding sheet_from
  generated =
      record {
        sheet = sheet;
        reads = read_back;
        size = refl;
        loud = refl;
        unstarted = refl;
        untested = refl;
        ruled = ruled;
        few = holds.faults.few;
        faulty = holds.faults.faulty;
      }
