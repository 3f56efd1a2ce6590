-- A mutant with two states exchanged gives the same outputs, and is sought if the other is; there is one if the states can be exchanged.
use Rattle.std.specs.Prelude.{◌/◌, ◌%◌, ◌<◌, ◌≤◌, ◌≡◌, ◌∷◌}
use Rattle.lists.specs.Proving.{arith, ℕ, zero, suc, refl, sym, ◌∙◌, ap, ap₂, subst, List, [], length, get_or, ℕ_discrete, dec_lt, lt-ltb, le-ltb}
use native.Mathlib.Nat.{div-add-mod'}
use Rattle.model.specs.Machine.{Move, outputs_from, ConformingFrom}
use Rattle.model.specs.Mutant.{idle}
use Rattle.model.specs.Log.{Observation, reset, seen, GivesFrom}
use Rattle.block.specs.Layout.{pair, waking, site_at, states_of, inputs_of, choices_of}
use Rattle.block.specs.Tabulated.{Wf, Ranged, choice_of, chosen, step_of, start_of}
use Rattle.block.specs.Logged.{GivesOf, observations}
use Rattle.block.specs.laws.ChoiceLaw.{choices-none, choices-some, chosen_none, chosen-some, chosen-low, step-inside, start_is}
use Rattle.cubes.specs.Cube.{Sought, Meets}
use Rattle.cubes.specs.declared.goal.Goal.{Goal}
use Rattle.cubes.specs.declared.goal.Goal.TheVariants.{Any, Nonconforming}
use Rattle.cubes.specs.laws.SuspectedLaw.{place-low}
use Rattle.mirror.specs.Mirror.{other, turned, Offers, Exchangeable}
use Rattle.mirror.proofs.OtherLaw.{other-rest, other-twice, other-low}

-- ---- the outputs
module _ (f g : ℕ → ℕ → Move) (a b start : ℕ) (e : (s x : ℕ) → g (other a b s) x ≡ turned a b (f s x)) where
  same-outputs : (xs : List ℕ) (s : ℕ) → outputs_from g (other a b s) xs ≡ outputs_from f s xs
  unfolding outputs_from
  same-outputs [] s = refl
  same-outputs (x ∷ xs) s = ap₂ (λ (o : ℕ) (os : List ℕ). o ∷ os) (ap (λ (v : Move). v.output) (e s x)) (ap (λ (v : Move). outputs_from g v.target xs) (e s x) ∙ same-outputs xs (f s x).target)

  same_log : (l : List Observation) (s : ℕ) → GivesFrom f start s l → GivesFrom g (other a b start) (other a b s) l
  unfolding GivesFrom
  same_log [] s h = tt
  same_log (reset ∷ l) s h = same_log l start h
  same_log (seen x o ∷ l) s h = (
    ap (λ (v : Move). v.output) (e s x) ∙ h.0,
    subst (λ (v : Move). GivesFrom g (other a b start) v.target l) (sym (e s x)) (same_log l (f s x).target h.1),
  )

-- d is c with a and b exchanged
record Mirrored (m : List ℕ) (a b : ℕ) (c d : List ℕ) : Type 0 where
  start : start_of m d ≡ other a b (start_of m c)
  step : (s x : ℕ) → step_of m d (other a b s) x ≡ turned a b (step_of m c s x)

mirror-sought : {m c d : List ℕ} {a b : ℕ} → Mirrored m a b c d → (goal : Goal) (log : List ℕ) → Sought goal m log c → Sought goal m log d
unfolding Sought GivesOf ConformingFrom
mirror-sought {m} {c} {d} {a} {b} mi goal log h = (
  subst (λ (q : ℕ). GivesFrom (step_of m d) q q (observations log)) (sym mi.start) (same_log (step_of m c) (step_of m d) a b (start_of m c) mi.step (observations log) (start_of m c) h.0),
  meets goal h.1,
)
  where
    meets : (goal : Goal) → Meets goal m c → Meets goal m d
    meets Any h = tt
    meets Nonconforming h = λ k. h (λ xs os y. sym (ap (λ (q : ℕ). outputs_from (step_of m d) q xs) mi.start ∙ same-outputs (step_of m c) (step_of m d) a b 0 mi.step xs (start_of m c)) ∙ k xs os y)

-- ---- there is such a mutant
-- a list of numbers, each with a property
record Listed (P : ℕ → ℕ → Type 0) (n : ℕ) : Type 0 where
  list : List ℕ
  long : length list ≡ n
  at : (i : ℕ) → i < n → P i (get_or list i 0)

listed_more : (P : ℕ → ℕ → Type 0) (n v : ℕ) → P 0 v → Listed (λ i w. P (suc i) w) n → Listed P (suc n)
listed_more P n v h rest = record { list = v ∷ rest.list; long = ap suc rest.long; at = go }
  where
    go : (i : ℕ) → i < suc n → P i (get_or (v ∷ rest.list) i 0)
    go zero l = h
    go (suc i) l = rest.at i (omega arith)

listed : (P : ℕ → ℕ → Type 0) (n : ℕ) → ((i : ℕ) → i < n → (v : ℕ) × P i v) → Listed P n
listed P zero f = record { list = []; long = refl; at = λ i l. absurd (omega arith) }
listed P (suc n) f = listed_more P n (f 0 (omega arith)).0 (f 0 (omega arith)).1 (listed (λ i w. P (suc i) w) n (λ i l. f (suc i) (omega arith)))

step-outside : (m b : List ℕ) (s x : ℕ) → (s < states_of m → x < inputs_of m → ⊥) → step_of m b s x ≡ idle
unfolding step_of
step-outside m b s x n = go (dec_lt s (states_of m)) (dec_lt x (inputs_of m))
  where
    go : Dec (s < states_of m) → Dec (x < inputs_of m) → step_of m b s x ≡ idle
    go (yes l) (yes h) = absurd (n l h)
    go (yes l) (no h) = rw (lt-ltb _ _ l, le-ltb x (inputs_of m) (omega (arith, h)))
    go (no l) h = rw (le-ltb s (states_of m) (omega (arith, l)))

-- the image of a pair
abbrev pub over : ℕ → ℕ → ℕ → ℕ
over a b k = pair (other a b (k / 16)) (k % 16)

-- that of the waking state is itself
pub over-waking : (m : List ℕ) (a b : ℕ) → Wf m → Exchangeable m a b → over a b waking ≡ waking
over-waking m a b wf ex = ap (λ (q : ℕ). pair q 0) (other-rest a b 16 (λ e. omega (arith, e, ex.a-low, wf.few-states)) (λ e. omega (arith, e, ex.b-low, wf.few-states)))

-- a mutant that does at every suspect what c does at the image, exchanged, and is sought if c is
pub record Image (m : List ℕ) (a b : ℕ) (c : List ℕ) : Type 0 where
  pub list : List ℕ
  pub ranged : Ranged m list
  pub choice : (k : ℕ) → k < 257 → (site_at m k ≡ 255 → ⊥) → choice_of m k (chosen m list k) ≡ turned a b (choice_of m (over a b k) (chosen m c (over a b k)))
  pub sought : (goal : Goal) (log : List ℕ) → Sought goal m log c → Sought goal m log list

module _ (m c : List ℕ) (a b : ℕ) (wf : Wf m) (ex : Exchangeable m a b) (r : Ranged m c) where
  -- what the image has to do at the pair k
  abbrev due : ℕ → Move
  due k = turned a b (choice_of m (over a b k) (chosen m c (over a b k)))

  offer : (k : ℕ) → k / 16 < states_of m → k % 16 < inputs_of m → Offers m k (due k)
  offer k ls lx =
      let lq : other a b (k / 16) < states_of m = other-low a b (k / 16) (states_of m) ex.a-low ex.b-low ls in
      let back : pair (other a b (other a b (k / 16))) (k % 16) ≡ k = ap (λ (t : ℕ). pair t (k % 16)) (other-twice a b (k / 16)) ∙ div-add-mod' k 16 in
      subst (λ (j : ℕ). Offers m j (due k)) back (((ex.rows.at (other a b (k / 16)) lq).at (k % 16) lx).at (chosen m c (over a b k)) (chosen-low wf r (over a b k) (omega (arith, place-low wf lq lx))))

  -- no mutant wakes in a state that is exchanged
  due-waking : due waking ≡ choice_of m waking (chosen m c waking)
  due-waking =
      let same : start_of m c ≡ (choice_of m waking (chosen m c waking)).target = start_is m c in
      ap (λ (k : ℕ). turned a b (choice_of m k (chosen m c k))) (over-waking m a b wf ex)
      ∙ ap₂ {C = Move} (λ (o t : ℕ). record { output = o; target = t }) refl
      (other-rest a b (choice_of m waking (chosen m c waking)).target (λ e. ex.a-free.start c r (same ∙ e)) (λ e. ex.b-free.start c r (same ∙ e)))

  suspect-offer : (k : ℕ) → k < 257 → (site_at m k ≡ 255 → ⊥) → Offers m k (due k)
  suspect-offer k lk nk = go (dec_lt k 256)
    where
      go : Dec (k < 256) → Offers m k (due k)
      go (yes l) = offer k (wf.inside k l nk).0 (wf.inside k l nk).1
      go (no n) =
          let e : k ≡ waking = omega (arith, n, lk) in
          subst (λ (j : ℕ). Offers m j (due j)) (sym e) (record { choice = chosen m c waking; low = chosen-low wf r waking (omega arith); is = sym due-waking })

  -- a choice of the suspect i that does it, looked for among the pairs below n; c's own where there is none
  record Slot (i n v : ℕ) : Type 0 where
    low : v < choices_of m i
    is : (k : ℕ) → k < n → site_at m k ≡ i → choice_of m k v ≡ due k

  slot-more : (i n : ℕ) → i < 32 → n < 257 → (v : ℕ) × Slot i n v → (v : ℕ) × Slot i (suc n) v
  slot-more i n li ln old = go (ℕ_discrete (site_at m n) i)
    where
      go : Dec (site_at m n ≡ i) → (v : ℕ) × Slot i (suc n) v
      go (yes e) =
          let some : site_at m n ≡ 255 → ⊥ = λ w. omega (arith, e, w, li) in
          let o = suspect-offer n ln some in (
            o.choice,
            record {
              low = subst (λ (j : ℕ). o.choice < choices_of m j) e (rw (choices-some m n some) at o.low);
              is = λ k lk f. subst (λ (j : ℕ). choice_of m j o.choice ≡ due j) (sym (wf.once n k ln (omega arith) some (f ∙ sym e))) o.is;
            },
          )
      go (no d) = (
        old.0,
        record { low = old.1.low; is = λ k lk f. let w : k ≡ n → ⊥ = λ y. d (ap (λ (j : ℕ). site_at m j) (sym y) ∙ f) in old.1.is k (omega (arith, w)) f },
      )

  slot : (i : ℕ) → i < 32 → (n : ℕ) → n ≤ 257 → (v : ℕ) × Slot i n v
  slot i li zero l = (get_or c i 0, record { low = r.at i li; is = λ k h. absurd (omega arith) })
  slot i li (suc n) l = slot-more i n li (omega arith) (slot i li n (omega arith))

  slots : Listed (λ i v. Slot i 257 v) 32
  slots = listed (λ i v. Slot i 257 v) 32 (λ i l. slot i l 257 (omega arith))

  suspect-due : (k : ℕ) → k < 257 → (site_at m k ≡ 255 → ⊥) → choice_of m k (chosen m slots.list k) ≡ due k
  suspect-due k lk nk = ap (λ (v : ℕ). choice_of m k v) (chosen-some m slots.list k nk) ∙ (slots.at (site_at m k) (wf.sites k lk nk)).is k lk refl

  start-same : start_of m slots.list ≡ start_of m c
  start-same = start_is m slots.list ∙ ap (λ (v : Move). v.target) (go (ℕ_discrete (site_at m waking) 255)) ∙ sym (start_is m c)
    where
      go : Dec (site_at m waking ≡ 255) → choice_of m waking (chosen m slots.list waking) ≡ choice_of m waking (chosen m c waking)
      go (yes e) = ap (λ (v : ℕ). choice_of m waking v) (chosen_none m slots.list waking e ∙ sym (chosen_none m c waking e))
      go (no n) = suspect-due waking (omega arith) n ∙ due-waking

  choice-due : (k : ℕ) → k < 256 → k / 16 < states_of m → k % 16 < inputs_of m → choice_of m k (chosen m slots.list k) ≡ due k
  choice-due k lk ls lx = go (ℕ_discrete (site_at m k) 255)
    where
      go : Dec (site_at m k ≡ 255) → choice_of m k (chosen m slots.list k) ≡ due k
      go (yes e) =
          let o = offer k ls lx in
          let first : o.choice ≡ 0 = omega (arith, o.low, choices-none m k e) in
          ap (λ (v : ℕ). choice_of m k v) (chosen_none m slots.list k e ∙ sym first) ∙ o.is
      go (no n) = suspect-due k (omega (arith, lk)) n

  step_same : (s x : ℕ) → step_of m slots.list (other a b s) x ≡ turned a b (step_of m c s x)
  step_same s x = go (dec_lt s (states_of m)) (dec_lt x (inputs_of m))
    where
      outside : (s < states_of m → x < inputs_of m → ⊥) → step_of m slots.list (other a b s) x ≡ turned a b (step_of m c s x)
      outside n =
          step-outside m slots.list (other a b s) x (λ ls. n (subst (λ (q : ℕ). q < states_of m) (other-twice a b s) (other-low a b (other a b s) (states_of m) ex.a-low ex.b-low ls)))
          ∙ ap (λ (q : ℕ). record { output = 0; target = q }) (sym (other-rest a b 0 (λ e. ex.a-free.zero (sym e)) (λ e. ex.b-free.zero (sym e))))
          ∙ ap (λ (v : Move). turned a b v) (sym (step-outside m c s x n))

      inside : s < states_of m → x < inputs_of m → step_of m slots.list (other a b s) x ≡ turned a b (step_of m c s x)
      inside ls lx =
          let lq : other a b s < states_of m = other-low a b s (states_of m) ex.a-low ex.b-low ls in
          let es : pair (other a b s) x / 16 ≡ other a b s = omega (arith, wf.few-inputs) in
          let ex : pair (other a b s) x % 16 ≡ x = omega (arith, wf.few-inputs) in
          let back : over a b (pair (other a b s) x) ≡ pair s x = ap₂ (λ (q y : ℕ). pair (other a b q) y) es ex ∙ ap (λ (q : ℕ). pair q x) (other-twice a b s) in
          step-inside m slots.list (other a b s) x lq lx
          ∙ choice-due (pair (other a b s) x) (place-low wf lq lx) (rw es lq) (rw ex lx)
          ∙ ap (λ (k : ℕ). turned a b (choice_of m k (chosen m c k))) back
          ∙ ap (λ (v : Move). turned a b v) (sym (step-inside m c s x ls lx))

      go : Dec (s < states_of m) → Dec (x < inputs_of m) → step_of m slots.list (other a b s) x ≡ turned a b (step_of m c s x)
      go (yes ls) (yes lx) = inside ls lx
      go (yes ls) (no n) = outside (λ l. n)
      go (no n) z = outside (λ l. absurd (n l))

  pub image-of : Image m a b c
  image-of = record {
    list = slots.list;
    ranged = record { short = omega (arith, slots.long); at = λ i l. (slots.at i l).low };
    choice = suspect-due;
    sought = mirror-sought (record {
      start = start-same ∙ sym (other-rest a b (start_of m c) (ex.a-free.start c r) (ex.b-free.start c r));
      step = step_same;
    });
  }
