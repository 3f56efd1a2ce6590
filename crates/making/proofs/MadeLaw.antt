-- From an accepted sheet to the answer.
use Rattle.std.specs.Prelude.{Ok, Err}
use Prim.Native.Nat.{ℕ, ◌-◌, ◌≤◌, ◌<◌}
use native.Mathlib.Omega.{arith}
use mathlib.Core.Path.{◌≡◌, refl, sym, ◌∙◌, ap, subst}
use mathlib.Core.Logic.{◌⊎◌, inl, inr}
use mathlib.Core.List.{List, [], ◌∷◌, ◌++◌}
use borrow.Author.Tests.{lt-ltb, le-ltb}
use lib.ListN.{length, take, drop}
use lib.Seq.{length-take-le, take_at, take-take}
use Rattle.lists.specs.Lists.{overlay}
use Rattle.lists.specs.laws.TestLaw.{never}
use Rattle.sheet.specs.Sheet.{Sheet}
use Rattle.sheet.specs.Encode.{body, encode}
use Rattle.sheet.specs.Reading.{Result, accepted, refused, Reading, reading}
use Rattle.sheet.specs.declared.Refusal.{Refusal}
use Rattle.sheet.specs.Tables.{refusal_of}
use Rattle.writing.specs.words.Spelled.{Spelled}
use Rattle.writing.proofs.laws.SpelledLaw.{spelled-front}
use Rattle.model.specs.Making.{Grown, grow_from, make_on, making, MadeMeans}
use Rattle.model.proofs.laws.MakingLaw.{made_told}
use Rattle.block.specs.Tabled.{ReadFrom}
use Rattle.logs.specs.Suites.{Logged}
use Rattle.making.specs.declared.Made.{Made}
use Rattle.making.specs.Answers.{MadeAnswer, Makes, MadeSays, ToldMade}
use Rattle.making.specs.words.Growing.{Growing, Complete}
use Rattle.making.proofs.AppendLaw.{encode-long}

-- ---- the start
-- all but END stands before its place
but-end : (sh : Sheet) {s bytes old : List ℕ} {len : ℕ} → encode sh ≡ s → Spelled old bytes 0 len s → take (len - 1) bytes ≡ body sh
unfolding encode
but-end sh {bytes = bytes} {len = len} is sp =
    let less : len - 1 ≡ length (body sh) = omega (arith, encode-long sh, ap length is, sp.many) in
    let front : take len bytes ≡ body sh ++ 6 ∷ [] = sp.front ∙ sym is in
    rw less
    (sym (take-take (length (body sh)) len bytes (omega (arith, less, encode-long sh, ap length is, sp.many)))
    ∙ ap (take (length (body sh))) front ∙ take_at (body sh) (6 ∷ []) (length (body sh)) refl)

module _ {sh : Sheet} {s starts lengths m : List ℕ} {tests : ℕ} (rd : ReadFrom sh s starts lengths tests m) where
  pub few-tests : tests ≤ 256
  few-tests = omega (arith, rd.many, rd.loads.tabled.formed.few-tests)

  pub some_bytes : 1 ≤ length s
  some_bytes = omega (arith, encode-long sh, ap length rd.bytes)

  pub grown-none : {old bytes log : List ℕ} {observed len : ℕ} → Logged sh log observed → length log ≡ 24576 → Spelled old bytes 0 len s → length old ≡ 16384 →
      Growing (grow_from (256 - length sh.tests) 0 sh) sh m bytes log (len - 1) observed (256 - tests) 0
  grown-none lg ll sp lo =
      record {
        leads = rw rd.many refl;
        tests = omega (arith, rd.many, rd.loads.tabled.formed.few-tests);
        few = omega arith;
        held = record {
          suite = record { tabled = rd.loads.tabled; suite = lg.is };
          inside = lg.inside;
          recorded = lg.bytes;
          spelled = but-end sh rd.bytes sp;
          short = omega (arith, encode-long sh, ap length rd.bytes, sp.many, rd.short);
          long = sp.long ∙ lo;
          log-long = ll;
        };
      }

-- ---- the end
pub made_inside : {result : Result Grown} {bytes : List ℕ} {end appended : ℕ} → Complete result bytes end appended → end ≤ length bytes
made_inside c = omega (arith, c.short, c.long)

pub made-long : {result : Result Grown} {bytes : List ℕ} {end appended : ℕ} → Complete result bytes end appended → length (take end bytes) < 16384
made-long {bytes = bytes} {end = end} c = omega (arith, length-take-le end bytes (made_inside c), c.short)

pub makes-whole : {result : Result Grown} {bytes old new : List ℕ} {end len appended : ℕ} → Complete result bytes end appended → Spelled old new 0 len (take end bytes ++ 6 ∷ []) →
    Makes result (Ok (record { length = len; appended = appended })) old new
unfolding encode
makes-whole {result} {bytes} {old} {new} {end} {len} {appended} c sp =
    let whole : take end bytes ++ 6 ∷ [] ≡ encode c.sheet = ap (λ (l : List ℕ). l ++ 6 ∷ []) c.spelled in
    let long : len ≡ length (encode c.sheet) = omega (arith, sp.many, ap length whole) in
    record { answer = rw (c.is, long) refl; bytes = rw c.is (spelled-front sp ∙ ap (λ (l : List ℕ). overlay l old) whole) }

-- it does not fit
pub makes_none : {result : Result Grown} {why : Refusal} (old : List ℕ) → (result ≡ refused 18 0) × (why ≡ refusal_of 18 0) → Makes result (Err why) old old
makes_none old (e, w) = record { answer = rw (e, w) refl; bytes = rw e refl }

-- ---- the buffer
module _ (sh : Sheet) (old : List ℕ) where
  pub makes-short : length old < 16384 → Makes (make_on sh (length old)) (Err (refusal_of 16 0)) old old
  unfolding make_on
  makes-short l = let h = lt-ltb (length old) 16384 l in record { answer = rw h refl; bytes = rw h refl }

  make-is : 16384 ≤ length old → make_on sh (length old) ≡ grow_from (256 - length sh.tests) 0 sh
  unfolding make_on
  make-is l = rw (le-ltb (length old) 16384 l) refl

  pub makes-room : {r : MadeAnswer} {new : List ℕ} → 16384 ≤ length old → Makes (grow_from (256 - length sh.tests) 0 sh) r old new → Makes (make_on sh (length old)) r old new
  makes-room {r} {new} l mk = subst (λ (o : Result Grown). Makes o r old new) (sym (make-is l)) mk

-- ---- what it tells
module _ (s old : List ℕ) where
  -- a sheet refused on reading: the same number and place, and nothing is written
  pub made-refused : (why : Refusal) → reading s ≡ refused why.number why.place → {r : MadeAnswer} → r ≡ Err why → Makes (making s (length old)) r old old × ToldMade s (length old) r old
  unfolding making ToldMade
  made-refused why h e = (
    record { answer = rw (h, e) refl; bytes = rw h refl },
    λ sh es. let same : ◌≡◌ {A = Reading} (accepted sh) (refused why.number why.place) = sym es ∙ h in never (cc),
  )

  says : (sh : Sheet) (result : Result Grown) → MadeMeans sh result → {r : MadeAnswer} {new : List ℕ} → Makes result r old new → MadeSays sh r new
  says sh (accepted g) means {r} {new} mk =
      let front : take (length (encode g.sheet)) new ≡ encode g.sheet = rw mk.bytes (take_at (encode g.sheet) (drop (length (encode g.sheet)) old) (length (encode g.sheet)) refl) in
      rw mk.answer (record { sheet = g.sheet; reads = rw front means.1; made = means.0 })
  says sh (refused number place) means mk = rw mk.answer means

  -- an accepted one
  pub made-accepted : (sh : Sheet) → reading s ≡ accepted sh → {r : MadeAnswer} {new : List ℕ} → Makes (make_on sh (length old)) r old new → Makes (making s (length old)) r old new × ToldMade s (length old) r new
  unfolding making ToldMade
  made-accepted sh e {r} {new} mk = (rw e mk, told)
    where
      told : (sh' : Sheet) → reading s ≡ accepted sh' → 16384 ≤ length old → MadeSays sh' r new
      told sh' e' l =
          let same : sh ≡ sh' = (let z : ◌≡◌ {A = Reading} (accepted sh) (accepted sh') = sym e ∙ e' in cc) in
          says sh' (grow_from (256 - length sh'.tests) 0 sh') (made_told s sh' e')
          (subst (λ (t : Sheet). Makes (grow_from (256 - length t.tests) 0 t) r old new) same (subst (λ (o : Result Grown). Makes o r old new) (make-is sh old l) mk))
