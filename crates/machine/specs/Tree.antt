-- The tree of a search, breadth first, in the product of a specification and a machine. Entry i is a pair of states, with the link by
-- which it was reached: the number of the entry before it, times 16, and the input.
use Rattle.std.specs.Prelude.{Option as Maybe, Some, None, ℕ, ◌+◌, ◌*◌, ◌/◌, ◌%◌, ◌≤◌, ◌<◌, ◌≡◌, ◌⊎◌, List, [], ◌∷◌, ◌++◌, eqb, length, get_or, set}
use Rattle.lists.specs.Lists.{count}
use Rattle.model.specs.Machine.{Pair}
use Rattle.machine.specs.declared.product.Led.{Led}
use Rattle.machine.specs.declared.product.Led.TheVariants as led
use Rattle.machine.specs.Product.{leads}

abbrev pub pair_at : List ℕ → ℕ → ℕ
pair_at entries i = get_or entries i 0 % 256

abbrev pub link_at : List ℕ → ℕ → ℕ
link_at entries i = get_or entries i 0 / 256

-- how many of the first n pairs were not seen
abbrev pub unseen : List ℕ → ℕ → ℕ
unseen seen n = count (λ v. eqb (get_or seen v 0) 0) n

-- there is an entry for each pair that was not seen
pub record Spare (entries seen : List ℕ) (n : ℕ) : Type 0 where
  pub entries-long : length entries ≡ 256
  pub seen-long : length seen ≡ 256
  pub room : n + unseen seen 256 ≤ 256

-- the pair that a link leads to becomes entry n, if it was not seen
pub record EnteredPair (entries seen : List ℕ) (n link : ℕ) (r : Led) (entries' seen' : List ℕ) (n' : ℕ) : Type 0 where
  pub same : ((v : ℕ) → r ≡ led.To v → get_or seen v 0 ≡ 0 → ⊥) → (entries' ≡ entries) × (seen' ≡ seen) × (n' ≡ n)
  pub new : (v : ℕ) → r ≡ led.To v → get_or seen v 0 ≡ 0 →
      (entries' ≡ set entries n (256 * link + v)) × (seen' ≡ set seen v 1) × (n' ≡ n + 1)

-- `path` has the inputs that lead to each of the first n entries
pub record Paths (entries : List ℕ) (n : ℕ) (path : ℕ → List ℕ) : Type 0 where
  pub root : path 0 ≡ []
  pub back : (i : ℕ) → 0 < i → i < n → link_at entries i / 16 < i
  pub step : (i : ℕ) → 0 < i → i < n → path i ≡ path (link_at entries i / 16) ++ link_at entries i % 16 ∷ []

-- the input l % 16 is not specified at entry l / 16, or leads to an entry that was reached by no later link
abbrev pub LinkSettled : Pair → List ℕ → ℕ → ℕ → Type 0
LinkSettled m entries n l =
    (leads m (pair_at entries (l / 16)) (l % 16) ≡ led.Undefined)
    ⊎ ((i : ℕ) × (i < n) × (leads m (pair_at entries (l / 16)) (l % 16) ≡ led.To (pair_at entries i)) × (0 < i → link_at entries i ≤ l))

-- n entries, the first of which is the pair of the starts; the links below `at` are settled
pub record Tree (m : Pair) (entries seen : List ℕ) (n at : ℕ) : Type 0 where
  pub sized : Spare entries seen n
  pub some : 0 < n
  pub root : pair_at entries 0 ≡ m.start
  pub path : ℕ → List ℕ
  pub paths : Paths entries n path
  pub inside : (i : ℕ) → i < n → (pair_at entries i / 16 < m.states) × (pair_at entries i % 16 < m.states)
  pub came : (i : ℕ) → 0 < i → i < n → leads m (pair_at entries (link_at entries i / 16)) (link_at entries i % 16) ≡ led.To (pair_at entries i)
  pub order : (i j : ℕ) → 0 < i → i < j → j < n → link_at entries i < link_at entries j
  pub made : (i : ℕ) → 0 < i → i < n → link_at entries i < at
  pub kept : (v : ℕ) → v < 256 → (get_or seen v 0 ≡ 0 → ⊥) → (i : ℕ) × (i < n) × (pair_at entries i ≡ v)
  pub done : (l : ℕ) → l < at → l % 16 < m.inputs → LinkSettled m entries n l

-- entry h was expanded; or its input x shows another output, and the links before that are settled
abbrev pub ExpandedOk : Pair → List ℕ → List ℕ → ℕ → ℕ → Maybe ℕ → Type 0
ExpandedOk m entries seen n h None = (h < n) × Tree m entries seen n (16 * (h + 1))
ExpandedOk m entries seen n h (Some x) = (h < n) × (x < m.inputs) × Tree m entries seen n (16 * h + x) × (leads m (pair_at entries h) x ≡ led.Apart)
