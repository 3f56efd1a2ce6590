-- The parts of a sheet's bytes: where they end, and the commands they hold.
use Rattle.std.specs.Prelude.{◌+◌, ◌-◌, ◌*◌, ◌≤◌, ◌≡◌, ◌∷◌, ◌++◌}
use Rattle.lists.specs.Proving.{arith, eq-eqb, le-ltb, ℕ, refl, sym, ◌∙◌, ap, Bool, true, false, cond, inr, List, [], length, take, drop, length-append}
use mathlib.Core.List.{map, append_assoc}
use lib.Seq.{take_at, drop-drop, drop-append_seam}
use Rattle.lists.specs.Lists.{Before, precedes, joined}
use Rattle.lists.specs.laws.AllLaw.{all-every, all_map}
use Rattle.lists.specs.laws.MemberLaw.{ascending-map}
use Rattle.sheet.specs.declared.Row.{Row}
use Rattle.sheet.specs.declared.Summary.{Summary}
use Rattle.sheet.specs.Sheet.{Sheet, row_of, wakings, waking_choices}
use Rattle.sheet.specs.Encode.{size_bytes, quiet_bytes, row_bytes, operand_bytes, start_bytes, test_bytes, encode}
use Rattle.std.specs.Prelude.{Ok}
use denote.Ref.{Bor}
use Rattle.sheet.specs.Reading.{accepted, reading, summary_of}
use Rattle.sheet.specs.Tables.{read_answer}
use Rattle.reading.specs.Layout.{layout_of}
use Rattle.sheet.specs.laws.EncodedLaw.{encoded}
use Rattle.sheet.specs.laws.InjectiveLaw.{encode-parts}
use Rattle.sheet.specs.laws.AcceptedLaw.{well-formed, short-enough}
use Rattle.sheet.specs.laws.PartLaw.{operands-length}
use Rattle.sheet.specs.laws.WakingLaw.{few-starts}
use Rattle.renaming.specs.Ordering.{insert, union, only}
use Rattle.renaming.proofs.laws.PlaceLaw.{rises-only}
use Rattle.merging.specs.declared.outline.Outline.{Outline}
use Rattle.merging.specs.words.Uniting.{itself, flat, united, Part}
use Rattle.reading.specs.declared.layout.Layout.{Layout}
use Rattle.merging.specs.words.Outlined.{head_bytes, Laid}

-- ---- lengths
pub rows-length : (b : ℕ) (rows : List Row) → length (row_bytes b rows) ≡ 5 * length rows
unfolding row_bytes
rows-length b [] = refl
rows-length b (r ∷ rows) = omega (arith, rows-length b rows)

head-length : (sh : Sheet) → length (head_bytes sh) ≡ 4 + length (quiet_bytes sh.quiet) + 5 * length sh.rules
unfolding size_bytes
head-length sh = simp length-append (omega (arith, rows-length 2 sh.rules))

-- ---- where they stand
module _ (sh : Sheet) where
  pub in_parts : encode sh ≡ head_bytes sh ++ (row_bytes 3 sh.faults ++ (start_bytes sh.starts ++ (test_bytes sh.tests ++ 6 ∷ [])))
  in_parts = encode-parts sh ∙ sym (append_assoc (size_bytes sh.size) (quiet_bytes sh.quiet ++ row_bytes 2 sh.rules) (row_bytes 3 sh.faults ++ (start_bytes sh.starts ++ (test_bytes sh.tests ++ 6 ∷ [])))
      ∙ ap (λ (l : List ℕ). size_bytes sh.size ++ l) (append_assoc (quiet_bytes sh.quiet) (row_bytes 2 sh.rules) (row_bytes 3 sh.faults ++ (start_bytes sh.starts ++ (test_bytes sh.tests ++ 6 ∷ [])))))

  pub parts-long : length (encode sh) ≡ length (head_bytes sh) + length (row_bytes 3 sh.faults) + length (start_bytes sh.starts) + length (test_bytes sh.tests) + 1
  parts-long =
      let H = head_bytes sh in
      let F = row_bytes 3 sh.faults in
      let S = start_bytes sh.starts in
      let T = test_bytes sh.tests in
      omega (
        arith,
        ap length in_parts,
        length-append H (F ++ (S ++ (T ++ 6 ∷ []))),
        length-append F (S ++ (T ++ 6 ∷ [])),
        length-append S (T ++ 6 ∷ []),
        length-append T (6 ∷ []),
      )

-- a part that stands from one place to another in bytes
module _ (s part rest : List ℕ) (i j : ℕ) (h : drop i s ≡ part ++ rest) (e : j ≡ i + length part) where
  part-there : take (j - i) (drop i s) ≡ part
  part-there = ap (take (j - i)) h ∙ take_at part rest (j - i) (omega (arith, e))

  rest-there : drop j s ≡ rest
  rest-there = ap (λ n. drop n s) e ∙ sym (drop-drop (length part) i s) ∙ ap (drop (length part)) h ∙ drop-append_seam part rest

-- what reading told of an accepted sheet, and the layout of its parts
pub outlined : (sheet : Bor (List ℕ)) {summary : Summary} {layout : Layout} (sh : Sheet) → reading sheet.now ≡ accepted sh → Ok summary ≡ read_answer (reading sheet.now) → layout ≡ layout_of sh →
    Laid sh (record { sheet = sheet; layout = layout; count = summary.tests })
unfolding summary_of
outlined sheet {summary} sh e h el =
    let told : Ok summary ≡ read_answer (accepted sh) = h ∙ ap read_answer e in
    let same : summary ≡ summary_of sh = cc in
    record {
      formed = well-formed sheet.now sh e;
      short = short-enough sheet.now sh e;
      bytes = sym (encoded sheet.now sh e);
      laid = el;
      many = ap (λ (z : Summary). z.tests) same;
    }

-- the parts of an outline
module _ {sh : Sheet} {o : Outline} (l : Laid sh o) where
  faults-at : o.layout.faults ≡ length (head_bytes sh)
  faults-at = omega (arith, ap (λ (z : Layout). z.faults) l.laid, head-length sh)

  starts-at : o.layout.starts ≡ o.layout.faults + length (row_bytes 3 sh.faults)
  starts-at = omega (arith, ap (λ (z : Layout). z.starts) l.laid, ap (λ (z : Layout). z.faults) l.laid, rows-length 3 sh.faults)

  tests-at : o.layout.tests ≡ o.layout.starts + length (start_bytes sh.starts)
  tests-at = omega (arith, ap (λ (z : Layout). z.tests) l.laid, ap (λ (z : Layout). z.starts) l.laid, operands-length 7 sh.starts)

  end-at : length o.sheet.now - 1 ≡ o.layout.tests + length (test_bytes sh.tests)
  end-at = omega (arith, ap length l.bytes, parts-long sh, faults-at, starts-at, tests-at)

  pub in_order : (o.layout.faults ≤ o.layout.starts) × (o.layout.starts ≤ o.layout.tests) × (o.layout.tests + 1 ≤ length o.sheet.now)
  in_order = (omega (arith, starts-at), omega (arith, tests-at), omega (arith, ap length l.bytes, parts-long sh, faults-at, starts-at, tests-at))

  pub head-there : take o.layout.faults o.sheet.now ≡ head_bytes sh
  head-there = ap (take o.layout.faults) (l.bytes ∙ in_parts sh) ∙ take_at (head_bytes sh) (row_bytes 3 sh.faults ++ (start_bytes sh.starts ++ (test_bytes sh.tests ++ 6 ∷ []))) o.layout.faults (sym faults-at)

  faults_from : drop o.layout.faults o.sheet.now ≡ row_bytes 3 sh.faults ++ (start_bytes sh.starts ++ (test_bytes sh.tests ++ 6 ∷ []))
  faults_from = rest-there o.sheet.now (head_bytes sh) (row_bytes 3 sh.faults ++ (start_bytes sh.starts ++ (test_bytes sh.tests ++ 6 ∷ []))) 0 o.layout.faults (l.bytes ∙ in_parts sh) (omega (arith, faults-at))

  pub faults-there : take (o.layout.starts - o.layout.faults) (drop o.layout.faults o.sheet.now) ≡ row_bytes 3 sh.faults
  faults-there = part-there o.sheet.now (row_bytes 3 sh.faults) (start_bytes sh.starts ++ (test_bytes sh.tests ++ 6 ∷ [])) o.layout.faults o.layout.starts faults_from starts-at

  starts_from : drop o.layout.starts o.sheet.now ≡ start_bytes sh.starts ++ (test_bytes sh.tests ++ 6 ∷ [])
  starts_from = rest-there o.sheet.now (row_bytes 3 sh.faults) (start_bytes sh.starts ++ (test_bytes sh.tests ++ 6 ∷ [])) o.layout.faults o.layout.starts faults_from starts-at

  pub starts-there : take (o.layout.tests - o.layout.starts) (drop o.layout.starts o.sheet.now) ≡ start_bytes sh.starts
  starts-there = part-there o.sheet.now (start_bytes sh.starts) (test_bytes sh.tests ++ 6 ∷ []) o.layout.starts o.layout.tests starts_from tests-at

  tests_from : drop o.layout.tests o.sheet.now ≡ test_bytes sh.tests ++ 6 ∷ []
  tests_from = rest-there o.sheet.now (start_bytes sh.starts) (test_bytes sh.tests ++ 6 ∷ []) o.layout.starts o.layout.tests starts_from tests-at

  pub tests-there : take (length o.sheet.now - 1 - o.layout.tests) (drop o.layout.tests o.sheet.now) ≡ test_bytes sh.tests
  tests-there = part-there o.sheet.now (test_bytes sh.tests) (6 ∷ []) o.layout.tests (length o.sheet.now - 1) tests_from end-at

-- ---- as commands
abbrev pub fault : Row → List ℕ
fault r = 3 ∷ row_of r

abbrev pub wakes : ℕ → List ℕ
wakes t = 7 ∷ only t

pub faults-flat : (rows : List Row) → row_bytes 3 rows ≡ flat (map fault rows)
unfolding row_bytes joined
faults-flat [] = refl
faults-flat (r ∷ rows) = ap (λ (l : List ℕ). fault r ++ l) (faults-flat rows)

pub starts-flat : (starts : List ℕ) → start_bytes starts ≡ flat (map wakes starts)
unfolding operand_bytes joined
starts-flat [] = refl
starts-flat (t ∷ starts) = ap (λ (l : List ℕ). wakes t ++ l) (starts-flat starts)

-- commands with one first byte stand in the order of their operands
same-order : (b : ℕ) (x y : List ℕ) → precedes (b ∷ x) (b ∷ y) ≡ precedes x y
unfolding precedes
same-order b x y = simp (le-ltb b b (omega arith), eq-eqb b b refl)

map-insert : {A : Type 0} (key : A → List ℕ) (b : ℕ) (x : A) (l : List A) → map (λ z. b ∷ key z) (insert key x l) ≡ insert itself (b ∷ key x) (map (λ z. b ∷ key z) l)
unfolding insert
map-insert {A} key b x [] = refl
map-insert {A} key b x (y ∷ l) = rw (same-order b (key x) (key y), same-order b (key y) (key x)) (go (precedes (key x) (key y)) (precedes (key y) (key x)) (map-insert key b x l))
  where
    go : (c d : Bool) → map (λ z. b ∷ key z) (insert key x l) ≡ insert itself (b ∷ key x) (map (λ z. b ∷ key z) l) →
        map (λ z. b ∷ key z) (cond c (x ∷ y ∷ l) (cond d (y ∷ insert key x l) (y ∷ l)))
        ≡ cond c ((b ∷ key x) ∷ (b ∷ key y) ∷ map (λ z. b ∷ key z) l) (cond d ((b ∷ key y) ∷ insert itself (b ∷ key x) (map (λ z. b ∷ key z) l)) ((b ∷ key y) ∷ map (λ z. b ∷ key z) l))
    go true d h = refl
    go false true h = ap (λ (m : List (List ℕ)). (b ∷ key y) ∷ m) h
    go false false h = refl

map-union : {A : Type 0} (key : A → List ℕ) (b : ℕ) (xs ys : List A) → map (λ z. b ∷ key z) (union key xs ys) ≡ united (map (λ z. b ∷ key z) xs) (map (λ z. b ∷ key z) ys)
unfolding union
map-union key b [] ys = refl
map-union key b (x ∷ xs) ys = map-insert key b x (union key xs ys) ∙ ap (insert itself (b ∷ key x)) (map-union key b xs ys)

pub faults-united : (xs ys : List Row) → flat (united (map fault xs) (map fault ys)) ≡ row_bytes 3 (union row_of xs ys)
faults-united xs ys = ap flat (sym (map-union row_of 3 xs ys)) ∙ sym (faults-flat (union row_of xs ys))

pub starts-united : (xs ys : List ℕ) → flat (united (map wakes xs) (map wakes ys)) ≡ start_bytes (union only xs ys)
starts-united xs ys = ap flat (sym (map-union only 7 xs ys)) ∙ sym (starts-flat (union only xs ys))

one-byte-more : (b : ℕ) (x y : List ℕ) → Before x y → Before (b ∷ x) (b ∷ y)
unfolding Before
one-byte-more b x y h = inr (refl, h)

module _ {sh : Sheet} {o : Outline} (l : Laid sh o) where
  -- no part is longer than a sheet
  pub head-short : length (head_bytes sh) ≤ 16384
  head-short = omega (arith, parts-long sh, ap length l.bytes, l.short)

  pub tests-short : length (test_bytes sh.tests) ≤ 16384
  tests-short = omega (arith, parts-long sh, ap length l.bytes, l.short)

  pub fault-room : length (row_bytes 3 sh.faults) ≤ 1280
  fault-room = omega (arith, rows-length 3 sh.faults, l.formed.few-faults)

  pub start-room : length (start_bytes sh.starts) ≤ 30
  start-room = omega (arith, operands-length 7 sh.starts, few-starts l.formed)

  pub fault-part : {s : List ℕ} → s ≡ row_bytes 3 sh.faults → Part 5 (map fault sh.faults) s
  fault-part e =
      record {
        some = omega arith;
        wide = all_map (λ x. length x ≡ 5) fault sh.faults (all-every (λ r. length (fault r) ≡ 5) (λ r. refl) sh.faults);
        up = ascending-map (λ q r. Before (row_of q) (row_of r)) Before fault (λ q r h. one-byte-more 3 (row_of q) (row_of r) h) sh.faults l.formed.faults-ascend;
        is = e ∙ faults-flat sh.faults;
      }

  pub start-part : {s : List ℕ} → s ≡ start_bytes sh.starts → Part 2 (map wakes sh.starts) s
  start-part e =
      record {
        some = omega arith;
        wide = all_map (λ x. length x ≡ 2) wakes sh.starts (all-every (λ t. length (wakes t) ≡ 2) (λ t. refl) sh.starts);
        up = ascending-map (λ s t. Before (only s) (only t)) Before wakes (λ s t h. one-byte-more 7 (only s) (only t) h) sh.starts (rises-only sh.starts l.formed.starts-ascend);
        is = e ∙ starts-flat sh.starts;
      }
