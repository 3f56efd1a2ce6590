-- What reading hands over of an accepted sheet, for the block.
use Rattle.std.specs.Prelude.{◌≡◌, Ok, Err}
use Rattle.std.specs.Prelude.{Result as Answer}
use Rattle.lists.specs.Proving.{ℕ, refl, sym, ◌∙◌, ap, List, never}
use Rattle.sheet.specs.declared.Refusal.{Refusal}
use Rattle.sheet.specs.declared.Summary.{Summary}
use Rattle.sheet.specs.declared.Tables.{Tables}
use Rattle.sheet.specs.Sheet.{Sheet}
use Rattle.sheet.specs.Reading.{Reading, accepted, refused, reading, summary_of}
use Rattle.sheet.specs.Tables.{refusal_of, read_answer, loaded_of}
use Rattle.sheet.specs.laws.AcceptedLaw.{well-formed, short-enough}
use Rattle.sheet.specs.laws.EncodedLaw.{encoded}
use Rattle.block.specs.declared.packing.Loaded.{Loaded}
use Rattle.block.specs.Tabled.{Read, Tabled, ReadFrom, Opened}

-- of a sheet that was read: it is accepted, and these are its tables
pub record Accepts (s : List ℕ) (size : Summary) (t : Tables) : Type 0 where
  pub sheet : Sheet
  pub is : reading s ≡ accepted sheet
  pub read : Read sheet size t

module _ {s : List ℕ} {size : Summary} {t : Tables} {r : Answer Summary Refusal} (was : r ≡ Ok size) (e : r ≡ read_answer (reading s)) (et : t ≡ loaded_of (reading s)) where
  pub accepts : Accepts s size t
  accepts = go (reading s) refl
    where
      go : (d : Reading) → reading s ≡ d → Accepts s size t
      go (accepted sh) is =
          let a : Ok size ≡ Ok (summary_of sh) = sym was ∙ e ∙ ap read_answer is in
          record { sheet = sh; is = is; read = record { formed = well-formed s sh is; summary = cc; tabled = et ∙ ap loaded_of is } }
      go (refused number place) is = let a : Ok size ≡ Err (refusal_of number place) = sym was ∙ e ∙ ap read_answer is in never (cc)

-- and where its tests stand
pub loads : {s : List ℕ} {size : Summary} {t : Tables} {m : List ℕ} (a : Accepts s size t) → Tabled a.sheet m → ReadFrom a.sheet s t.starts t.lengths size.tests m
unfolding summary_of
loads {s} a tb = record {
  loads = record { tabled = tb; starts-are = ap (λ (t : Tables). t.starts) a.read.tabled; lengths-are = ap (λ (t : Tables). t.lengths) a.read.tabled };
  bytes = encoded s a.sheet a.is;
  many = ap (λ (z : Summary). z.tests) a.read.summary;
  short = short-enough s a.sheet a.is;
}

-- what loading gives of it
pub gives : {s : List ℕ} {l : Loaded} {t : Tables} (a : Accepts s l.size t) → l.sheet.now ≡ s → l.starts ≡ t.starts → l.lengths ≡ t.lengths → ((sh : Sheet) → Read sh l.size t → Tabled sh l.block) → Opened s l
gives a es est el tb = record { sheet = a.sheet; is = a.is; bytes = es; size = a.read.summary; holds = rw (es, est, el) (loads a (tb a.sheet a.read)) }
