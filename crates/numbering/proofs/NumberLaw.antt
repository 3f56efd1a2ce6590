-- From the bytes to the answer.
use Rattle.std.specs.Prelude.{◌/◌, ◌%◌, ◌<◌, ◌≤◌, ◌≡◌}
use Rattle.lists.specs.Proving.{arith, ℕ, refl, sym, ◌∙◌, ap, subst, cond, List, length, get_or, take, lt-ltb, never}
use Rattle.lists.specs.Lists.{overlay}
use Rattle.std.specs.Prelude.{Result as Answer}
use Rattle.std.specs.Prelude.{Ok, Err}
use Rattle.sheet.specs.declared.Refusal.{Refusal}
use Rattle.sheet.specs.declared.Summary.{Summary}
use Rattle.sheet.specs.Sheet.{Sheet, rule_at, wakings, waking_choices}
use Rattle.sheet.specs.Encode.{encode}
use Rattle.sheet.specs.Reading.{Reading, accepted, refused, reading, summary_of}
use Rattle.sheet.specs.declared.Tables.{Tables}
use Rattle.sheet.specs.Tables.{refusal_of, tables_of, read_answer, loaded_of}
use Rattle.sheet.specs.words.Tabled.{ByPair, place_of, rule_target}
use Rattle.sheet.specs.laws.AcceptedLaw.{well-formed, short-enough}
use Rattle.sheet.specs.laws.RefusalLaw.{refused-by}
use Rattle.sheet.specs.laws.EncodedLaw.{encoded}
use Rattle.sheet.specs.laws.TablesLaw.{table-length, table_at}
use Rattle.writing.specs.Writing.{written_answer, sheet_writes}
use Rattle.writing.specs.words.Spelled.{Spelled}
use Rattle.writing.proofs.laws.SpelledLaw.{spelled-front}
use Rattle.writing.proofs.laws.LengthLaw.{parts-length}
use Rattle.writing.proofs.laws.WritingLaw.{refuses, writes}
use Rattle.renaming.specs.Renaming.{renamed, Renames, number_of, numbered, numbering, Numbers}
use Rattle.renaming.proofs.laws.AgainLaw.{renamed-same}
use Rattle.renaming.proofs.laws.MetLaw.{numbers}
use Rattle.renaming.proofs.laws.NumberedLaw.{rows-length}
use Rattle.renaming.proofs.laws.NumberingLaw.{numbering-is, numbered-told}
use Rattle.reading.specs.declared.layout.Layout.{Layout}
use Rattle.reading.specs.Layout.{layout_of}
use Rattle.numbering.specs.words.Searched.{Searched}
use Rattle.numbering.specs.words.Ordered.{named, Parted}
use Rattle.numbering.specs.Told.{ToldNumbered}

-- what was read of an accepted sheet
pub record Opened (s : List ℕ) (size : Summary) (t : Tables) : Type 0 where
  pub sheet : Sheet
  pub is : reading s ≡ accepted sheet
  pub summary : size ≡ summary_of sheet
  pub tabled : t ≡ tables_of sheet

pub opened : (s : List ℕ) {size : Summary} {t : Tables} → read_answer (reading s) ≡ Ok size → t ≡ loaded_of (reading s) → Opened s size t
opened s {size} {t} e et = go (reading s) refl
  where
    go : (d : Reading) → reading s ≡ d → Opened s size t
    go (accepted sh) is =
        let a : Ok size ≡ read_answer (accepted sh) = sym e ∙ ap read_answer is in
        record { sheet = sh; is = is; summary = cc; tabled = et ∙ ap loaded_of is }
    go (refused number place) is = let a : Ok size ≡ read_answer (refused number place) = sym e ∙ ap read_answer is in never (cc)

module _ {s : List ℕ} {size : Summary} {t : Tables} (o : Opened s size t) where
  abbrev sh : Sheet
  sh = o.sheet

  pub searched : Searched sh t.target size.inputs
  unfolding tables_of summary_of
  searched =
      record {
        formed = well-formed s sh o.is;
        width = ap (λ (z : Summary). z.inputs) o.summary;
        table = subst (λ (l : List ℕ). ByPair l (λ s x. rule_target (rule_at sh.rules s x))) (sym (ap (λ (t : Tables). t.target) o.tabled))
            (record { size = table-length _; at = λ s x hs hx. let a : place_of s x / 16 ≡ s = omega arith in let b : place_of s x % 16 ≡ x = omega arith in table_at _ (place_of s x) (omega arith) ∙ rw (a, b) refl });
      }

  pub states-are : size.states ≡ sh.size.states
  unfolding summary_of
  states-are = ap (λ (z : Summary). z.states) o.summary

  module _ (number : List ℕ) (long : length number ≡ 16) (is : (t : ℕ) → t < sh.size.states → get_or number t 0 ≡ number_of sh t) where
    renames : Renames sh.size.states (named number)
    renames =
        let wf = well-formed s sh o.is in
        let n = numbers sh wf in
        let some = wf.size.states.some in
        record {
          zeroth = is 0 (omega arith) ∙ n.zeroth;
          into = λ s l. let k = n.into s l in omega (arith, is s l);
          apart = λ s t ls lt e. n.apart s t ls lt (sym (is s ls) ∙ e ∙ is t lt);
        }

    pub parted : {layout : Layout} {buffer : List ℕ} → layout ≡ layout_of sh → length s ≤ length buffer → Parted sh s layout number buffer
    parted e room =
        record {
          formed = well-formed s sh o.is;
          bytes = sym (encoded s sh o.is);
          laid = e;
          names = record { long = long };
          renames = renames;
          room = room;
        }

    numbered-by : renamed (named number) sh ≡ numbered sh
    unfolding numbered
    numbered-by = renamed-same sh (well-formed s sh o.is) (named number) (number_of sh) is

-- ---- what the answer tells
abbrev Promised : List ℕ → Answer ℕ Refusal → List ℕ → List ℕ → Type 0
Promised s r old new =
    (r ≡ written_answer (numbering s (length old))) × (new ≡ overlay (sheet_writes (numbering s (length old))) old) × ToldNumbered s r old new

unread : (s : List ℕ) (room number place : ℕ) → reading s ≡ refused number place → numbering s room ≡ refused number place
unfolding numbering
unread s room number place e = rw e refl

short : (s : List ℕ) (sh : Sheet) (room : ℕ) → reading s ≡ accepted sh → room < length s → numbering s room ≡ refused 16 0
unfolding numbering
short s sh room e l = rw (e, lt-ltb room (length s) l) refl

promised : (s : List ℕ) (r : Answer ℕ Refusal) (old new : List ℕ) → r ≡ written_answer (numbering s (length old)) → new ≡ overlay (sheet_writes (numbering s (length old))) old → Promised s r old new
promised s r old new a b =
    let room = length old in
    let out = numbering s room in (
      a,
      b,
      record {
        unread = λ number place e. (a ∙ ap written_answer (unread s room number place e), b ∙ ap (λ x. overlay (sheet_writes x) old) (unread s room number place e));
        short = λ sh e l. refuses out r old new a b 16 (short s sh room e l);
        numbers = λ sh e l.
            let w = writes out r old new a b (numbering-is s sh room e l) in
            let told = numbered-told s sh e in
            (w.answer ∙ ap Ok told.long, subst (Numbers s sh) (sym (ap (λ n. take n new) (sym told.long) ∙ w.front)) told);
      },
    )

pub told-unread : (s : List ℕ) (old : List ℕ) {why : Refusal} {w : Answer ℕ Refusal} → read_answer (reading s) ≡ Err why → w ≡ Err why → Promised s w old old
told-unread s old {why} e k =
    let out = unread s (length old) why.number why.place (refused-by why (reading s) e) in
    promised s _ old old (k ∙ sym (ap written_answer out)) (sym (ap (λ x. overlay (sheet_writes x) old) out))

module _ {s : List ℕ} {size : Summary} {t : Tables} (o : Opened s size t) (old : List ℕ) where
  pub told-short : {why : Refusal} → why ≡ refusal_of 16 0 → length old < length s → Promised s (Err why) old old
  told-short {why} e l =
      let out = short s o.sheet (length old) o.is l in
      promised s (Err why) old old (ap Err e ∙ sym (ap written_answer out)) (sym (ap (λ x. overlay (sheet_writes x) old) out))

  pub told-numbered : (number : List ℕ) {new : List ℕ} {r : ℕ} → length number ≡ 16 → ((t : ℕ) → t < o.sheet.size.states → get_or number t 0 ≡ number_of o.sheet t) → length s ≤ length old →
      Spelled old new 0 r (encode (renamed (named number) o.sheet)) → Promised s (Ok r) old new
  told-numbered number {new} {r} long is room sp =
      let out = numbering-is s o.sheet (length old) o.is room in
      let bytes : encode (renamed (named number) o.sheet) ≡ encode (numbered o.sheet) = ap encode (numbered-by o number long is) in
      let many : r ≡ length (encode (numbered o.sheet)) = omega (arith, sp.many, ap length bytes) in
      promised s (Ok r) old new (ap Ok many ∙ sym (ap written_answer out))
      (spelled-front sp ∙ ap (λ (l : List ℕ). overlay l old) bytes ∙ sym (ap (λ x. overlay (sheet_writes x) old) out))
