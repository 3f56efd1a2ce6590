-- The digits of a number, and numbers piece by piece.
use Rattle.std.specs.Prelude.{ℕ, zero, suc, ◌+◌, ◌/◌, ◌%◌, ◌^◌, ◌<◌, ◌≤◌, ◌≡◌, refl, Bool, true, false, cond, List, [], ◌∷◌, ◌++◌, ltb, length, get_or, take, drop}
use Rattle.std.proofs.Common.{pow-suc, arith, add-one, Fits, sym, ◌∙◌, ap, append_assoc, append-nil, length-append, length-take, take-suc, take_all, lt-ltb, le-ltb, ltb-true, ltb-false}
use Rattle.std.specs.Int.{w8, w64}
use Rattle.writing.specs.words.Spelled.{Spelled}
use Rattle.writing.proofs.laws.SpelledLaw.{spelled_none, spelled-both}
use Rattle.report.specs.Text.{decimal_from, decimal, fields, Prints}

-- more fuel changes nothing
fuelled : (f g n : ℕ) → n < f → n < g → decimal_from f n ≡ decimal_from g n
unfolding decimal_from
fuelled zero g n hf hg = absurd (omega arith)
fuelled (suc f) zero n hf hg = absurd (omega arith)
fuelled (suc f) (suc g) n hf hg = go (ltb n 10) refl (fuelled f g (n / 10))
  where
    go : (b : Bool) → ltb n 10 ≡ b → (n / 10 < f → n / 10 < g → decimal_from f (n / 10) ≡ decimal_from g (n / 10)) →
        cond b ((48 + n % 10) ∷ []) (decimal_from f (n / 10) ++ (48 + n % 10) ∷ []) ≡ cond b ((48 + n % 10) ∷ []) (decimal_from g (n / 10) ++ (48 + n % 10) ∷ [])
    go true e ih = refl
    go false e ih = let k = ltb-false n 10 e in rw (ih (omega arith) (omega arith)) refl

pub decimal-one : (n : ℕ) → n < 10 → decimal n ≡ (48 + n % 10) ∷ []
unfolding decimal decimal_from
decimal-one n h = rw (lt-ltb n 10 h) refl

pub decimal-more : (n : ℕ) → 10 ≤ n → decimal n ≡ decimal (n / 10) ++ (48 + n % 10) ∷ []
unfolding decimal decimal_from
decimal-more n h = rw (le-ltb n 10 h) (ap (λ (l : List ℕ). l ++ (48 + n % 10) ∷ []) (fuelled n (suc (n / 10)) (n / 10) (omega arith) (omega arith)))

pub decimal-longer : (n : ℕ) → 10 ≤ n → length (decimal n) ≡ length (decimal (n / 10)) + 1
decimal-longer n h = rw (decimal-more n h) (length-append (decimal (n / 10)) ((48 + n % 10) ∷ []))

pub decimal-some : (n : ℕ) → 1 ≤ length (decimal n)
decimal-some n = go (ltb n 10) refl
  where
    go : (b : Bool) → ltb n 10 ≡ b → 1 ≤ length (decimal n)
    go true e = rw (decimal-one n (ltb-true n 10 e)) (omega arith)
    go false e = rw (decimal-longer n (ltb-false n 10 e)) (omega arith)

pub number-one : {a b : List ℕ} {i j : ℕ} (n : ℕ) → n < 10 → Spelled a b i j ((48 + n % 10) ∷ []) → Spelled a b i j (decimal n)
number-one n h p = rw (decimal-one n h) p

pub number_more : {a b c : List ℕ} {i j k : ℕ} (n : ℕ) → 10 ≤ n → Spelled a b i j (decimal (n / 10)) → Spelled b c j k ((48 + n % 10) ∷ []) → Spelled a c i k (decimal n)
number_more n h p q = rw (decimal-more n h) (spelled-both p q)

-- a number below 10 to the k has at most k digits
pub few-digits : (k n : ℕ) → n < 10 ^ suc k → length (decimal n) ≤ suc k
few-digits zero n h = rw (decimal-one n h) (omega arith)
few-digits (suc k) n h = go (ltb n 10) refl (few-digits k (n / 10) (omega (arith, pow-suc 10 (suc k))))
  where
    go : (b : Bool) → ltb n 10 ≡ b → length (decimal (n / 10)) ≤ suc k → length (decimal n) ≤ suc (suc k)
    go true e up = rw (decimal-one n (ltb-true n 10 e)) (omega arith)
    go false e up = rw (decimal-longer n (ltb-false n 10 e)) (omega arith)

-- a byte has at most three
pub byte-digits : (n : ℕ) → Fits w8 n → length (decimal n) ≤ 3
byte-digits n h = few-digits 2 n (omega arith)

-- a place has at most twenty
pub place-digits : (n : ℕ) → Fits w64 n → length (decimal n) ≤ 20
place-digits n h = few-digits 19 n (omega arith)

fields-append : (xs ys : List ℕ) → fields (xs ++ ys) ≡ fields xs ++ fields ys
unfolding fields
fields-append [] ys = refl
fields-append (x ∷ xs) ys = rw (fields-append xs ys) (ap (λ (l : List ℕ). 32 ∷ l) (sym (append_assoc (decimal x) (fields xs) (fields ys))))

-- the fields of one number more
fields-take : (xs : List ℕ) (n : ℕ) → n < length xs → fields (take (n + 1) xs) ≡ fields (take n xs) ++ (32 ∷ decimal (get_or xs n 0))
unfolding fields
fields-take xs n h =
    rw (add-one, take-suc xs n 0 h, fields-append (take n xs) (get_or xs n 0 ∷ []))
    (ap (λ (l : List ℕ). fields (take n xs) ++ 32 ∷ l) (append-nil (decimal (get_or xs n 0))))

pub field-more : {a b c d : List ℕ} {i j k l : ℕ} (xs : List ℕ) (n : ℕ) → Spelled a b i j (fields (take n xs)) → Spelled b c j k (32 ∷ []) → Spelled c d k l (decimal (get_or xs n 0)) → n < length xs → Spelled a d i l (fields (take (n + 1) xs))
field-more xs n p q r h = rw (fields-take xs n h) (spelled-both p (spelled-both q r))

-- the same, of a blank and a number together
pub field-next : {a b c : List ℕ} {i j k : ℕ} (xs : List ℕ) (n : ℕ) → Spelled a b i j (fields (take n xs)) → Spelled b c j k (32 ∷ decimal (get_or xs n 0)) → n < length xs → Spelled a c i k (fields (take (n + 1) xs))
field-next xs n p q h = rw (fields-take xs n h) (spelled-both p q)

pub fields-none : (l : List ℕ) (at : ℕ) → Spelled l l at at (fields [])
unfolding fields
fields-none l at = spelled_none

pub fields-all : {a b : List ℕ} {i j : ℕ} (xs : List ℕ) (n : ℕ) → Spelled a b i j (fields (take n xs)) → length xs ≤ n → Spelled a b i j (fields xs)
fields-all xs n p h = rw (take_all n xs h) at p

-- text at a buffer's front ends within it
pub prints-inside : {old new text : List ℕ} {r : ℕ} → Prints old new r text → (r ≤ length new) × (r ≡ length (take r new))
prints-inside {old} {new} {text} {r} p =
    let long : length new ≡ length text + length (drop (length text) old) = ap length p.bytes ∙ length-append text (drop (length text) old) in
    (omega (arith, p.answer), omega (arith, p.answer, length-take r new))
