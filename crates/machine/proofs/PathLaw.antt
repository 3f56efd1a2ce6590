-- The inputs that lead to an entry: how many they are, and how they are written from the last on.
use Prim.Native.Nat.{ℕ, zero, suc, ◌+◌, ◌-◌, ◌/◌, ◌%◌, ◌≤◌, ◌<◌}
use native.Mathlib.Numerals.{add-one}
use native.Mathlib.Decide.{ℕ_discrete}
use native.Mathlib.Omega.{arith}
use mathlib.Core.Path.{◌≡◌, refl, sym, ap, ◌∙◌}
use mathlib.Core.Logic.{by_cases}
use mathlib.Core.List.{List, [], ◌∷◌, ◌++◌, append_assoc}
use lib.ListN.{length, get_or, set, take, drop, length-append, length-set}
use lib.Seq.{set_split, set-get_or, get_or-set_same, drop-set-lt}
use Rattle.lists.specs.Lists.{overlay}
use Rattle.machine.specs.Tree.{link_at, Paths}

-- fewer entries
pub paths-fewer : {entries : List ℕ} {n : ℕ} {path : ℕ → List ℕ} (k : ℕ) → k ≤ n → Paths entries n path → Paths entries k path
paths-fewer k l p = record { root = p.root; back = λ i pos li. p.back i pos (omega arith); step = λ i pos li. p.step i pos (omega arith) }

module _ {entries : List ℕ} {n : ℕ} {path : ℕ → List ℕ} (p : Paths entries n path) where
  -- one input more than to the entry before
  pub path-longer : (i : ℕ) → 0 < i → i < n → length (path i) ≡ length (path (link_at entries i / 16)) + 1
  path-longer i pos l = ap length (p.step i pos l) ∙ length-append (path (link_at entries i / 16)) (link_at entries i % 16 ∷ [])

  pub path-none : (i : ℕ) → i ≤ 0 → length (path i) ≡ 0
  path-none i l = let z : i ≡ 0 = omega arith in rw (z, p.root) refl

-- the inputs to entry h and x after them are written from the last on, up to those that lead to entry i
pub record Written (path : ℕ → List ℕ) (h x i n : ℕ) (buf₀ buf : List ℕ) : Type 0 where
  pub rest : List ℕ
  pub whole : path h ++ x ∷ [] ≡ path i ++ rest
  pub left : n ≡ length (path i)
  pub written : buf ≡ take n buf₀ ++ (rest ++ drop (length (path h) + 1) buf₀)

pub written_last : (path : ℕ → List ℕ) (h x n : ℕ) (old : List ℕ) → n ≡ length (path h) → n < length old → Written path h x h n (set old n x) (set old n x)
written_last path h x n old e l =
    let here = get_or-set_same old n x 0 l in
    let split = set_split (set old n x) n (get_or (set old n x) n 0) (rw (length-set old n x) l) in
    record { rest = x ∷ []; whole = refl; left = e; written = rw (← e, add-one) (sym (set-get_or (set old n x) n 0) ∙ split ∙ ap (λ (y : ℕ). take n (set old n x) ++ y ∷ drop (suc n) (set old n x)) here) }

set_front : (n v : ℕ) (xs ys : List ℕ) → n < length xs → set (take (suc n) xs ++ ys) n v ≡ take n xs ++ v ∷ ys
set_front n v [] ys l = absurd (omega arith)
set_front zero v (x ∷ xs) ys l = refl
set_front (suc n) v (x ∷ xs) ys l = ap (λ (zs : List ℕ). x ∷ zs) (set_front n v xs ys (omega arith))

-- there is an input to write: entry i is not the first
module _ {entries buf₀ buf : List ℕ} {path : ℕ → List ℕ} {h x i n : ℕ} (p : Paths entries (h + 1) path) (w : Written path h x i n buf₀ buf) (pos : 0 < n) (li : i ≤ h) where
  written-some : 0 < i
  written-some = by_cases (ℕ_discrete i 0) (λ z. absurd (omega (arith, w.left, path-none p i (omega arith)))) (λ nz. omega arith)

  pub written_back : link_at entries i / 16 < i
  written_back = p.back i written-some (omega arith)

  pub written-more : n ≤ length buf₀ → Written path h x (link_at entries i / 16) (n - 1) buf₀ (set buf (n - 1) (link_at entries i % 16))
  written-more ln =
      let e : n ≡ suc (n - 1) = omega arith in
      let back = link_at entries i / 16 in
      let last = link_at entries i % 16 in
      record {
        rest = last ∷ w.rest;
        whole = w.whole ∙ ap (λ (xs : List ℕ). xs ++ w.rest) (p.step i written-some (omega arith)) ∙ append_assoc (path back) (last ∷ []) w.rest;
        left = omega (arith, w.left, path-longer p i written-some (omega arith));
        written =
            ap (λ (xs : List ℕ). set xs (n - 1) last) (w.written ∙ ap (λ (k : ℕ). take k buf₀ ++ (w.rest ++ drop (length (path h) + 1) buf₀)) e)
            ∙ set_front (n - 1) last buf₀ (w.rest ++ drop (length (path h) + 1) buf₀) (omega arith);
      }

pub written_all : (old : List ℕ) {buf : List ℕ} {path : ℕ → List ℕ} {h x i n d : ℕ} → d ≡ length (path h) → n ≤ 0 → Written path h x i n (set old d x) buf →
    buf ≡ overlay (path h ++ x ∷ []) old
written_all old {buf} {path} {h} {x} {i} {n} {d} e z w =
    let none_left : n ≡ 0 = omega arith in
    let all : path h ++ x ∷ [] ≡ w.rest = w.whole ∙ ap (λ (xs : List ℕ). xs ++ w.rest) (empty (path i) (omega (arith, w.left))) in
    rw (w.written, none_left, ← all, length-append (path h) (x ∷ []), ← e) (ap (λ (xs : List ℕ). (path h ++ x ∷ []) ++ xs) (drop-set-lt (d + 1) old d x (omega arith)))
  where
    empty : (xs : List ℕ) → length xs ≡ 0 → xs ≡ []
    empty [] e = refl
    empty (y ∷ ys) e = absurd (omega arith)
