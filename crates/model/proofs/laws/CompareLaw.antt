-- Laws of comparing: `within` says what it should, n × n inputs are enough, and `compare_from` gives the shortest, then
-- smallest, distinguishing sequence.
use Prim.Native.Nat.{ℕ, zero, suc, ◌*◌, ◌≤◌, ◌<◌, suc-le-suc}
use Rattle.std.proofs.Common.{not-suc-le-zero, le_of_suc-le-suc, mul-one, eq-or-lt_of_le, arith, sym, ◌∙◌, ap, subst, inl, inr, ⊎_elim, eqb-true, lt-ltb, ltb-true}
use Rattle.std.proofs.Math.Decide.{dec_lt, ℕ_discrete}
use Rattle.std.specs.Prelude.{◌≡◌, ◌⊎◌, Bool, eqb, length}
use Rattle.std.proofs.Math.Path.{refl}
use Rattle.std.proofs.Math.Logic.{by_cases}
use Rattle.std.proofs.Math.Bool.{true, false, cond}
use Rattle.std.proofs.Math.Option.{Option, none, some}
use mathlib.Core.List.{List, [], ◌∷◌, List-discrete}
use Rattle.std.proofs.lemmas.Bool.{eqb-false}
use Rattle.lists.specs.Lists.{maybe, Before}
use Rattle.lists.specs.laws.TestLaw.{never}
use Rattle.model.specs.Machine.{Move, Pair, prepend, outputs_from, specified_from, DistinguishesFrom, ConformingFrom}
use Rattle.model.specs.Compare.{least, target, shows, within, best, shortest, distance, compare_from}
use Rattle.model.specs.Verdict.{After}
use Rattle.lists.specs.laws.TestLaw.{clash, not-true-false}
use Rattle.model.proofs.laws.LeastLaw.{least-le, least-true, least-false, least_at, least-unique}
use Rattle.model.proofs.laws.SumLaw.{sum, sum-const, sum-grow-pairs}
use Rattle.model.proofs.laws.StaysLaw.{Closed}

-- the input x is specified, and shows another output or leads to states of which P holds
unfoldable pub Shown : Pair → (ℕ → ℕ → Type 0) → ℕ → ℕ → ℕ → Type 0
Shown m P p q x =
    (r : Move) × (m.rule p x ≡ some r) × ((r.output ≡ (m.move q x).output → ⊥) ⊎ P r.target (m.move q x).target)

-- `shows` computes `Shown`
pub shows-shown : (m : Pair) (w : ℕ → ℕ → Bool) (p q x : ℕ) → shows m w p q x ≡ true → Shown m (λ a b. w a b ≡ true) p q x
unfolding shows Shown
shows-shown m w p q x h = go (m.rule p x) refl h
  where
    pick : (r : Move) (b : Bool) → eqb r.output (m.move q x).output ≡ b → cond b (w r.target (m.move q x).target) true ≡ true →
        (r.output ≡ (m.move q x).output → ⊥) ⊎ (w r.target (m.move q x).target ≡ true)
    pick r true e h' = inr h'
    pick r false e h' = inl (eqb-false r.output (m.move q x).output e)

    go : (o : Option Move) → m.rule p x ≡ o →
        maybe o false (λ r. cond (eqb r.output (m.move q x).output) (w r.target (m.move q x).target) true) ≡ true →
        (r : Move) × (m.rule p x ≡ some r) × ((r.output ≡ (m.move q x).output → ⊥) ⊎ (w r.target (m.move q x).target ≡ true))
    go none e h' = clash false h' refl
    go (some r) e h' = (r, e, pick r (eqb r.output (m.move q x).output) refl h')

-- `Shown` is computed by `shows`
pub shown-shows : (m : Pair) (w : ℕ → ℕ → Bool) (p q x : ℕ) → Shown m (λ a b. w a b ≡ true) p q x → shows m w p q x ≡ true
unfolding shows Shown
shown-shows m w p q x (r, e, d) = rw (e) (go (eqb r.output (m.move q x).output) refl d)
  where
    go : (b : Bool) → eqb r.output (m.move q x).output ≡ b →
        (r.output ≡ (m.move q x).output → ⊥) ⊎ (w r.target (m.move q x).target ≡ true) →
        cond b (w r.target (m.move q x).target) true ≡ true
    go false e' d' = refl
    go true e' (inl ne) = absurd (ne (eqb-true r.output (m.move q x).output e'))
    go true e' (inr h) = h

-- some input below `inputs` shows it
pub within-some : (m : Pair) (j p q x : ℕ) → x < m.inputs → shows m (within m j) p q x ≡ true → within m (suc j) p q ≡ true
unfolding within
within-some m j p q x l h =
    lt-ltb (least m.inputs (shows m (within m j) p q)) m.inputs
    (omega (arith, least_at m.inputs (shows m (within m j) p q) x h))

-- the best input is one, where there is any
pub best-below : (m : Pair) (j p q : ℕ) → within m (suc j) p q ≡ true → best m j p q < m.inputs
unfolding within best
best-below m j p q h = ltb-true _ _ h

-- the best input shows it, where there is any
pub best-shows : (m : Pair) (j p q : ℕ) → within m (suc j) p q ≡ true → shows m (within m j) p q (best m j p q) ≡ true
unfolding within best
best-shows m j p q h = least-true m.inputs (shows m (within m j) p q) (ltb-true _ _ h)

-- `Shown` follows what it speaks of
pub shown-map : (m : Pair) (P Q : ℕ → ℕ → Type 0) (p q x : ℕ) → ((a b : ℕ) → P a b → Q a b) → Shown m P p q x → Shown m Q p q x
unfolding Shown
shown-map m P Q p q x f (r, e, d) = (r, e, ⊎_elim (λ ne. inl ne) (λ h. inr (f r.target (m.move q x).target h)) d)

-- the same on the states below n
pub shown-map-below : (m : Pair) (P Q : ℕ → ℕ → Type 0) (p q x : ℕ) → Closed m → p < m.states → q < m.states →
    ((a b : ℕ) → a < m.states → b < m.states → P a b → Q a b) → Shown m P p q x → Shown m Q p q x
unfolding Shown
shown-map-below m P Q p q x cl lp lq f (r, e, d) = (
  r,
  e,
  ⊎_elim (λ ne. inl ne)
      (λ h. inr (f r.target (m.move q x).target (cl.rule-below p x r lp e) (cl.move-below q x lq (cl.input-below p x r e)) h))
      d,
)

shown-input : (m : Pair) (P : ℕ → ℕ → Type 0) (p q x : ℕ) → Closed m → Shown m P p q x → x < m.inputs
unfolding Shown
shown-input m P p q x cl (r, e, d) = cl.input-below p x r e

-- a sequence that distinguishes: its first input shows it, or leads to states that the others distinguish
pub dist-uncons : (m : Pair) (p q x : ℕ) (xs : List ℕ) → DistinguishesFrom m p q (x ∷ xs) →
    Shown m (λ a b. DistinguishesFrom m a b xs) p q x
unfolding Shown DistinguishesFrom specified_from outputs_from
dist-uncons m p q x xs (os, e, ne) = go (m.rule p x) refl e
  where
    rest : (r : Move) (w : Option (List ℕ)) → specified_from m.rule r.target xs ≡ w → prepend r.output w ≡ some os →
        (r.output ≡ (m.move q x).output → ⊥) ⊎ DistinguishesFrom m r.target (m.move q x).target xs
    rest r none ew h = never (cc)
    rest r (some os') ew h =
        by_cases (ℕ_discrete r.output (m.move q x).output)
        (λ same. inr (os', ew, λ eo. ne (cc)))
        (λ differ. inl differ)

    go : (o : Option Move) → m.rule p x ≡ o → maybe o none (λ r. prepend r.output (specified_from m.rule r.target xs)) ≡ some os →
        (r : Move) × (m.rule p x ≡ some r) × ((r.output ≡ (m.move q x).output → ⊥) ⊎ DistinguishesFrom m r.target (m.move q x).target xs)
    go none er h = never (cc)
    go (some r) er h = (r, er, rest r (specified_from m.rule r.target xs) refl h)

-- one input that shows another output
pub dist-one : (m : Pair) (p q x : ℕ) (r : Move) → m.rule p x ≡ some r → (r.output ≡ (m.move q x).output → ⊥) →
    DistinguishesFrom m p q (x ∷ [])
unfolding DistinguishesFrom specified_from outputs_from
dist-one m p q x r e ne = (r.output ∷ [], rw e refl, λ eo. ne (cc))

-- one input before a distinguishing sequence
pub dist-cons : (m : Pair) (p q x : ℕ) (xs : List ℕ) (r : Move) → m.rule p x ≡ some r →
    DistinguishesFrom m r.target (m.move q x).target xs → DistinguishesFrom m p q (x ∷ xs)
unfolding DistinguishesFrom specified_from outputs_from
dist-cons m p q x xs r e (os, eo, ne) = (r.output ∷ os, rw (e, eo) refl, λ h. ne (cc))

pub dist-nil : (m : Pair) (p q : ℕ) → DistinguishesFrom m p q [] → ⊥
unfolding DistinguishesFrom specified_from outputs_from
dist-nil m p q (os, e, ne) = ne (cc)

-- where `within m j` says so, there is a distinguishing sequence of at most j inputs
pub within-sound : (m : Pair) (j p q : ℕ) → within m j p q ≡ true → (xs : List ℕ) × (length xs ≤ j) × DistinguishesFrom m p q xs
unfolding within Shown
within-sound m zero p q h = clash false h refl
within-sound m (suc j) p q h =
    go (within-sound m j) (shows-shown m (within m j) p q (best m j p q) (best-shows m j p q h))
  where
    go : ((a b : ℕ) → within m j a b ≡ true → (xs : List ℕ) × (length xs ≤ j) × DistinguishesFrom m a b xs) →
        Shown m (λ a b. within m j a b ≡ true) p q (best m j p q) →
        (xs : List ℕ) × (length xs ≤ suc j) × DistinguishesFrom m p q xs
    go ih (r, e, inl ne) = (best m j p q ∷ [], omega arith, dist-one m p q (best m j p q) r e ne)
    go ih (r, e, inr w) =
        let t = ih r.target (m.move q (best m j p q)).target w in
        (best m j p q ∷ t.0, suc-le-suc t.1, dist-cons m p q (best m j p q) t.0 r e t.2)

-- where there is a distinguishing sequence of at most j inputs, `within m j` says so
pub within-complete : (m : Pair) (j p q : ℕ) (xs : List ℕ) → Closed m → DistinguishesFrom m p q xs → length xs ≤ j → within m j p q ≡ true
within-complete m j p q [] cl d l = absurd (dist-nil m p q d)
within-complete m zero p q (x ∷ xs) cl d l = absurd (not-suc-le-zero l)
within-complete m (suc j) p q (x ∷ xs) cl d l =
    let s = shown-map m (λ a b. DistinguishesFrom m a b xs) (λ a b. within m j a b ≡ true) p q x
    (λ a b h. within-complete m j a b xs cl h (le_of_suc-le-suc l)) (dist-uncons m p q x xs d) in
    within-some m j p q x (shown-input m (λ a b. within m j a b ≡ true) p q x cl s) (shown-shows m (within m j) p q x s)

-- more inputs distinguish no less
pub within-mono : (m : Pair) (i j p q : ℕ) → Closed m → i ≤ j → within m i p q ≡ true → within m j p q ≡ true
unfolding within
within-mono m i j p q cl l h =
    let s = within-sound m i p q h in
    within-complete m j p q s.0 cl s.2 (omega (arith, s.1))

-- states that are distinguished within suc j are distinguished within j
unfoldable pub Stable : Pair → ℕ → Type 0
Stable m j = (p q : ℕ) → p < m.states → q < m.states → within m (suc j) p q ≡ true → within m j p q ≡ true

-- one step of `within`, through a rule for all states below n
pub within_step : (m : Pair) (i j p q : ℕ) → Closed m → p < m.states → q < m.states →
    ((a b : ℕ) → a < m.states → b < m.states → within m i a b ≡ true → within m j a b ≡ true) →
    within m (suc i) p q ≡ true → within m (suc j) p q ≡ true
within_step m i j p q cl lp lq f h =
    within-some m j p q (best m i p q) (best-below m i p q h)
    (shown-shows m (within m j) p q (best m i p q)
    (shown-map-below m (λ a b. within m i a b ≡ true) (λ a b. within m j a b ≡ true) p q (best m i p q) cl lp lq f
    (shows-shown m (within m i) p q (best m i p q) (best-shows m i p q h))))

-- where a round adds nothing, no later round does
pub stable-all : (m : Pair) (j : ℕ) → Closed m → Stable m j → (i p q : ℕ) → p < m.states → q < m.states →
    within m i p q ≡ true → within m j p q ≡ true
unfolding Stable within
stable-all m j cl st zero p q lp lq h = clash false h refl
stable-all m j cl st (suc i) p q lp lq h = st p q lp lq (within_step m i j p q cl lp lq (stable-all m j cl st i) h)

one : Bool → ℕ
one true = 1
one false = 0

-- the number of pairs of states that j inputs distinguish
count : Pair → ℕ → ℕ
count m j = sum m.states (λ p. sum m.states (λ q. one (within m j p q)))

one-mono : (a b : Bool) → (a ≡ true → b ≡ true) → one a ≤ one b
unfolding one
one-mono false b h = omega arith
one-mono true true h = omega arith
one-mono true false h = clash false (h refl) refl

one-le : (a b : Bool) → one b ≤ one a → b ≡ true → a ≡ true
unfolding one
one-le true b h e = refl
one-le false true h e = absurd (omega arith)
one-le false false h e = e

one-most : (a : Bool) → one a ≤ 1
unfolding one
one-most true = omega arith
one-most false = omega arith

one-full : (a : Bool) → 1 ≤ one a → a ≡ true
unfolding one
one-full true h = refl
one-full false h = absurd (omega arith)

-- a round adds nothing, or a pair
round : (m : Pair) (j : ℕ) → Closed m → Stable m j ⊎ (count m j < count m (suc j))
unfolding Stable count
round m j cl =
    ⊎_elim (λ f. inl (λ p q lp lq h. one-le (within m j p q) (within m (suc j) p q) (f p q lp lq) h)) (λ l. inr l)
    (sum-grow-pairs m.states (λ p q. one (within m j p q)) (λ p q. one (within m (suc j) p q))
    (λ p q. one-mono (within m j p q) (within m (suc j) p q) (λ h. within-mono m j (suc j) p q cl (omega arith) h)))

grown : (m : Pair) (j : ℕ) → Closed m → Stable m j ⊎ (j ≤ count m j)
unfolding Stable
grown m zero cl = inr (omega arith)
grown m (suc j) cl = ⊎_elim (λ st. inl (next st)) (λ le. ⊎_elim (λ st. inl (next st)) (λ lt. inr (omega arith)) (round m j cl)) (grown m j cl)
  where
    next : Stable m j → Stable m (suc j)
    next st p q lp lq h = within-mono m j (suc j) p q cl (omega arith) (stable-all m j cl st (suc (suc j)) p q lp lq h)

ones : (n : ℕ) → sum n (λ p. sum n (λ q. 1)) ≡ n * n
ones n = simp (sum-const, mul-one)

-- after n × n rounds nothing is added: either a round added nothing before, or every pair is distinguished
pub stable-bound : (m : Pair) → Closed m → Stable m (m.states * m.states)
unfolding Stable count
stable-bound m cl = ⊎_elim (λ st. st) full (grown m (m.states * m.states) cl)
  where
    full : m.states * m.states ≤ count m (m.states * m.states) → Stable m (m.states * m.states)
    full le p q lp lq h =
        ⊎_elim (λ f. one-full (within m (m.states * m.states) p q) (f p q lp lq)) (λ l. absurd (omega (arith, ones m.states)))
        (sum-grow-pairs m.states (λ a b. one (within m (m.states * m.states) a b)) (λ a b. 1)
        (λ a b. one-most (within m (m.states * m.states) a b)))

-- n × n inputs distinguish all that can be distinguished
pub within-bound : (m : Pair) (j p q : ℕ) → Closed m → p < m.states → q < m.states → within m j p q ≡ true →
    within m (m.states * m.states) p q ≡ true
within-bound m j p q cl lp lq h = stable-all m (m.states * m.states) cl (stable-bound m cl) j p q lp lq h

-- `shows` and `least` ask w only of states below n
shows-agree : (m : Pair) (w v : ℕ → ℕ → Bool) (p q x : ℕ) → Closed m → p < m.states → q < m.states →
    ((a b : ℕ) → a < m.states → b < m.states → w a b ≡ v a b) → shows m w p q x ≡ true → shows m v p q x ≡ true
shows-agree m w v p q x cl lp lq same h =
    shown-shows m v p q x
    (shown-map-below m (λ a b. w a b ≡ true) (λ a b. v a b ≡ true) p q x cl lp lq (λ a b la lb e. sym (same a b la lb) ∙ e)
    (shows-shown m w p q x h))

-- the best input under a test that agrees with `within`
pub best-agrees : (m : Pair) (w : ℕ → ℕ → Bool) (j p q : ℕ) → Closed m → p < m.states → q < m.states →
    ((a b : ℕ) → a < m.states → b < m.states → w a b ≡ within m j a b) → least m.inputs (shows m w p q) ≡ best m j p q
unfolding best
best-agrees m w j p q cl lp lq same =
    let g = shows m (within m j) p q in
    least-unique m.inputs (shows m w p q) (least m.inputs g) (least-le m.inputs g)
    (λ i l. not-true-false (shows m w p q i)
    (λ t. clash (g i) (shows-agree m w (within m j) p q i cl lp lq same t) (least-false m.inputs g i l)))
    (λ l. shows-agree m (within m j) w p q _ cl lp lq (λ a b la lb. sym (same a b la lb)) (least-true m.inputs g l))

-- `shortest` is as long as said
pub shortest-length : (m : Pair) (j p q : ℕ) → length (shortest m j p q) ≡ j
unfolding shortest
shortest-length m zero p q = refl
shortest-length m (suc j) p q = ap suc (shortest-length m j _ _)

-- where more than suc j inputs are wanted, an input shows no other output, and leads to states where more than j are wanted
pub exact-next : (m : Pair) (j p q x : ℕ) (r : Move) (P : Type 0) → Closed m → within m (suc j) p q ≡ false → m.rule p x ≡ some r →
    (r.output ≡ (m.move q x).output → ⊥) ⊎ P → P × (within m j r.target (m.move q x).target ≡ false)
unfolding Shown
exact-next m j p q x r P cl f e d =
    (⊎_elim (λ ne. found (inl ne)) (λ h. h) d, go (within m j r.target (m.move q x).target) refl)
  where
    found : {A : Type 0} → (r.output ≡ (m.move q x).output → ⊥) ⊎ (within m j r.target (m.move q x).target ≡ true) → A
    found d' = clash (within m (suc j) p q) (within-some m j p q x (cl.input-below p x r e) (shown-shows m (within m j) p q x (r, e, d'))) f

    go : (b : Bool) → within m j r.target (m.move q x).target ≡ b → b ≡ false
    go true h = found (inr h)
    go false h = refl

-- `shortest` distinguishes, where suc j inputs do and j do not
pub shortest-distinguishes : (m : Pair) (j p q : ℕ) → Closed m → within m (suc j) p q ≡ true → within m j p q ≡ false →
    DistinguishesFrom m p q (shortest m (suc j) p q)
unfolding shortest within Shown
shortest-distinguishes m zero p q cl h f = go (shows-shown m (within m zero) p q (best m zero p q) (best-shows m zero p q h))
  where
    go : Shown m (λ a b. within m zero a b ≡ true) p q (best m zero p q) → DistinguishesFrom m p q (best m zero p q ∷ [])
    go (r, e, inl ne) = dist-one m p q (best m zero p q) r e ne
    go (r, e, inr w) = clash false w refl
shortest-distinguishes m (suc j) p q cl h f =
    let x = best m (suc j) p q in
    let s = shows-shown m (within m (suc j)) p q x (best-shows m (suc j) p q h) in
    let r = s.0 in
    let t = (m.move q x).target in
    let n = exact-next m j p q x r (within m (suc j) r.target t ≡ true) cl f s.1 s.2 in
    dist-cons m p q x (shortest m (suc j) (target (m.rule p x)) t) r s.1
    (subst (λ (a : ℕ). DistinguishesFrom m r.target t (shortest m (suc j) a t)) (sym (ap target s.1))
    (shortest-distinguishes m j r.target t cl n.0 n.1))

-- a distinguishing sequence does not begin with a smaller input
best-first : (m : Pair) (j p q y : ℕ) (ys : List ℕ) → Closed m → DistinguishesFrom m p q (y ∷ ys) → length ys ≤ j → best m j p q ≤ y
unfolding best
best-first m j p q y ys cl d l =
    least_at m.inputs (shows m (within m j) p q) y
    (shown-shows m (within m j) p q y
    (shown-map m (λ a b. DistinguishesFrom m a b ys) (λ a b. within m j a b ≡ true) p q y
    (λ a b h. within-complete m j a b ys cl h l) (dist-uncons m p q y ys d)))

-- one more input before two sequences
lex-cons : (x y : ℕ) (xs ys : List ℕ) → x ≤ y → (x ≡ y → (ys ≡ xs) ⊎ Before xs ys) → ((y ∷ ys) ≡ (x ∷ xs)) ⊎ Before (x ∷ xs) (y ∷ ys)
unfolding Before
lex-cons x y xs ys le h =
    ⊎_elim (λ e. ⊎_elim (λ q. inl (cc)) (λ b. inr (inr (e, b))) (h e)) (λ lt. inr (inl lt)) (eq-or-lt_of_le le)

-- of the distinguishing sequences of its length `shortest` is the first
pub shortest-least : (m : Pair) (j p q : ℕ) (ys : List ℕ) → Closed m → within m j p q ≡ false → DistinguishesFrom m p q ys →
    length ys ≡ suc j →
    (ys ≡ shortest m (suc j) p q) ⊎ Before (shortest m (suc j) p q) ys
unfolding shortest Shown best
shortest-least m j p q [] cl f d l = absurd (dist-nil m p q d)
shortest-least m zero p q (y ∷ z ∷ ys) cl f d l = absurd (omega arith)
shortest-least m zero p q (y ∷ []) cl f d l =
    lex-cons (best m zero p q) y [] [] (best-first m zero p q y [] cl d (omega arith)) (λ _. inl refl)
shortest-least m (suc j) p q (y ∷ ys) cl f d l =
    let u = dist-uncons m p q y ys d in
    let r = u.0 in
    let t = (m.move q y).target in
    let n = exact-next m j p q y r (DistinguishesFrom m r.target t ys) cl f u.1 u.2 in
    let ih = shortest-least m j r.target t ys cl n.1 n.0 (omega arith) in
    let x = best m (suc j) p q in
    lex-cons x y (shortest m (suc j) (target (m.rule p x)) (m.move q x).target) ys (best-first m (suc j) p q y ys cl d (omega arith))
    (λ e. subst Next (sym e) (subst (Rest t) (sym (ap target u.1)) ih))
  where
    Rest : ℕ → ℕ → Type 0
    Rest t a = (ys ≡ shortest m (suc j) a t) ⊎ Before (shortest m (suc j) a t) ys

    Next : ℕ → Type 0
    Next x = Rest (m.move q x).target (target (m.rule p x))

-- the distance is enough inputs, where there are any
pub distance-within : (m : Pair) (p q : ℕ) → within m (m.states * m.states) p q ≡ true → within m (distance m p q) p q ≡ true
unfolding distance
distance-within m p q w =
    ⊎_elim (λ e. subst (λ (d : ℕ). within m d p q ≡ true) (sym e) w)
    (λ lt. least-true (m.states * m.states) (λ j. within m j p q) lt)
    (eq-or-lt_of_le (least-le (m.states * m.states) (λ j. within m j p q)))

-- fewer inputs than the distance do not distinguish
pub distance-fewest : (m : Pair) (p q j : ℕ) → j < distance m p q → within m j p q ≡ false
unfolding distance
distance-fewest m p q j l = least-false (m.states * m.states) (λ i. within m i p q) j l

-- the distance is at most n × n
pub distance-le : (m : Pair) (p q : ℕ) → distance m p q ≤ m.states * m.states
unfolding distance
distance-le m p q = least-le (m.states * m.states) (λ i. within m i p q)

-- xs distinguishes the states p and q, has at most n × n inputs, and every other such sequence stands after it
pub record Shortest (m : Pair) (p q : ℕ) (xs : List ℕ) : Type 0 where
  pub distinguishes : DistinguishesFrom m p q xs
  pub short : length xs ≤ m.states * m.states
  pub least : (ys : List ℕ) → DistinguishesFrom m p q ys → (ys ≡ xs) ⊎ After xs ys

-- what is found at the distance d
found_at : (m : Pair) (p q d : ℕ) → Closed m → d ≤ m.states * m.states → within m d p q ≡ true →
    ((j : ℕ) → j < d → within m j p q ≡ false) →
    Shortest m p q (shortest m d p q)
unfolding within
found_at m p q zero cl le w f = clash false w refl
found_at m p q (suc j) cl le w f =
    record {
      distinguishes = shortest-distinguishes m j p q cl w (f j (omega arith));
      short = omega (arith, shortest-length m (suc j) p q);
      least = first;
    }
  where
    long : (ys : List ℕ) → DistinguishesFrom m p q ys → suc j ≤ length ys
    long ys d =
        by_cases (dec_lt (length ys) (suc j))
        (λ l. clash (within m (length ys) p q) (within-complete m (length ys) p q ys cl d (omega arith)) (f (length ys) l))
        (λ nl. omega arith)

    first : (ys : List ℕ) → DistinguishesFrom m p q ys → (ys ≡ shortest m (suc j) p q) ⊎ After (shortest m (suc j) p q) ys
    first ys d =
        ⊎_elim
        (λ e. ⊎_elim (λ same. inl same) (λ b. inr (inr (shortest-length m (suc j) p q ∙ e, b)))
        (shortest-least m j p q ys cl (f j (omega arith)) d (sym e)))
        (λ lt. inr (inl (omega (arith, shortest-length m (suc j) p q))))
        (eq-or-lt_of_le (long ys d))

-- of states below n
module _ (m : Pair) (p q : ℕ) (cl : Closed m) (lp : p < m.states) (lq : q < m.states) where
  -- what any sequence distinguishes, n × n inputs do
  pub within_all : (ys : List ℕ) → DistinguishesFrom m p q ys → within m (m.states * m.states) p q ≡ true
  within_all ys d = within-bound m (length ys) p q cl lp lq (within-complete m (length ys) p q ys cl d (omega arith))

  -- a distinguishing sequence of at most n × n inputs exists whenever any does
  pub short-exists : (ys : List ℕ) → DistinguishesFrom m p q ys →
      (xs : List ℕ) × (length xs ≤ m.states * m.states) × DistinguishesFrom m p q xs
  short-exists ys d = within-sound m (m.states * m.states) p q (within_all ys d)

  -- where no n × n inputs distinguish, the states conform
  pub within_none : within m (m.states * m.states) p q ≡ false → ConformingFrom m p q
  unfolding ConformingFrom DistinguishesFrom
  within_none f xs os e =
      by_cases (List-discrete ℕ_discrete (outputs_from m.move q xs) os) (λ same. same)
      (λ ne. clash (within m (m.states * m.states) p q) (within_all xs (os, e, ne)) f)

  -- no answer: conforming
  pub compare-none : compare_from m p q ≡ none → ConformingFrom m p q
  unfolding compare_from
  compare-none h = go (within m (m.states * m.states) p q) refl h
    where
      go : (b : Bool) → within m (m.states * m.states) p q ≡ b → cond b (some (shortest m (distance m p q) p q)) none ≡ none →
          ConformingFrom m p q
      go true w h' = never (cc)
      go false w h' = within_none w

  -- an answer: the shortest, then smallest, distinguishing sequence
  pub compare-some : (xs : List ℕ) → compare_from m p q ≡ some xs → Shortest m p q xs
  unfolding compare_from
  compare-some xs h = go (within m (m.states * m.states) p q) refl h
    where
      d : ℕ
      d = distance m p q

      go : (b : Bool) → within m (m.states * m.states) p q ≡ b → cond b (some (shortest m d p q)) none ≡ some xs → Shortest m p q xs
      go false w h' = never (cc)
      go true w h' =
          let e : shortest m d p q ≡ xs = cc in
          subst (Shortest m p q) e (found_at m p q d cl (distance-le m p q) (distance-within m p q w) (distance-fewest m p q))

  -- two states conform, or some sequence distinguishes them
  pub conforms-or-distinguished : ConformingFrom m p q ⊎ ((xs : List ℕ) × DistinguishesFrom m p q xs)
  conforms-or-distinguished = go (compare_from m p q) refl
    where
      go : (o : Option (List ℕ)) → compare_from m p q ≡ o → ConformingFrom m p q ⊎ ((xs : List ℕ) × DistinguishesFrom m p q xs)
      go none e = inl (compare-none e)
      go (some xs) e = inr (xs, (compare-some xs e).distinguishes)

-- what conforms is not distinguished
pub conforming-not : (m : Pair) (p q : ℕ) (xs : List ℕ) → ConformingFrom m p q → DistinguishesFrom m p q xs → ⊥
unfolding ConformingFrom DistinguishesFrom
conforming-not m p q xs c (os, e, ne) = ne (c xs os e)
