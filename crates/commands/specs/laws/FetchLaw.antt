-- What stands at a place.
use Rattle.std.proofs.Common.{◌≡◌, ℕ, ◌+◌, ◌<◌, ◌≤◌, Bool, true, false, cond, List, length, get_or, refl, ap, sym, ◌∙◌, arith}
use Rattle.std.specs.Prelude.{eqb, leb, ltb, Some, None, Ok, Err}
use Rattle.std.specs.Prelude.{Option as Maybe}
use Rattle.std.specs.Prelude.{Result as Answer}
use Rattle.std.specs.Result.{result_ok}
use borrow.Author.Tests.{le-leb, lt-leb, leb-true, leb-false, ltb-true, ltb-false, eqb-true, eqb-false, ne_eqb}
use Rattle.lists.specs.laws.TestLaw.{never}
use Rattle.sheet.specs.Reading.{width, command_of}
use Rattle.commands.specs.declared.fetch.Command.{Command as Code}
use Rattle.commands.specs.declared.fetch.Missing.{Missing}
use Rattle.commands.specs.declared.fetch.Missing.TheVariants.{Nothing, Short, Unknown}
use Rattle.commands.specs.words.Fetch.{byte_of, says, command_by, command_at, fetch_by, fetch_at}

-- a whole command stands there, says what the definition's does, and the next place is the definition's
pub record WholeAt (s : List ℕ) (at : ℕ) (command : Code) : Type 0 where
  pub here : at < length s
  pub all : at + width (get_or s at 0) ≤ length s
  pub item : command_by s at (get_or s at 0) ≡ Some command
  pub byte : byte_of command ≡ get_or s at 0
  pub says : says command ≡ command_of (get_or s at 0) s at
  pub next : at + width (byte_of command) ≡ at + width (get_or s at 0)

-- a command's byte stands there, and its operands are missing
pub record ShortAt (s : List ℕ) (at b : ℕ) : Type 0 where
  pub here : at < length s
  pub few : length s < at + width (get_or s at 0)
  pub byte : b ≡ get_or s at 0

-- a byte stands there that is no command's
pub record UnknownAt (s : List ℕ) (at b : ℕ) : Type 0 where
  pub here : at < length s
  pub all : at + width (get_or s at 0) ≤ length s
  pub byte : b ≡ get_or s at 0
  pub unknown : 1 ≤ b → b ≤ 8 → ⊥

-- what each answer says of the bytes
abbrev pub FetchedAt : List ℕ → ℕ → Answer Code Missing → Type 0
FetchedAt s at (Ok command) = WholeAt s at command
FetchedAt s at (Err Nothing) = length s ≤ at
FetchedAt s at (Err (Short b)) = ShortAt s at b
FetchedAt s at (Err (Unknown b)) = UnknownAt s at b

-- each command takes a byte at least
pub wide : (b : ℕ) → 1 ≤ width b
wide b =
    one (eqb b 1) _ _ (omega arith) (one (eqb b 2) _ _ (omega arith) (one (eqb b 3) _ _ (omega arith)
    (one (eqb b 5) _ _ (omega arith) (one (eqb b 7) _ _ (omega arith) (omega arith)))))
  where
    one : (p : Bool) (m n : ℕ) → 1 ≤ m → 1 ≤ n → 1 ≤ cond p m n
    one true m n h k = h
    one false m n h k = k

-- a byte that is no command's names none, and is alone
module _ (b : ℕ) (u : 1 ≤ b → b ≤ 8 → ⊥) where
  other : (n : ℕ) → leb 1 n ≡ true → leb n 8 ≡ true → eqb b n ≡ false
  other n l k = ne_eqb b n (λ e. u (omega (arith, e, leb-true 1 n l)) (omega (arith, e, leb-true n 8 k)))

  alone : width b ≡ 1
  alone = rw (other 1 refl refl, other 2 refl refl, other 3 refl refl, other 5 refl refl, other 7 refl refl)

  nameless : (s : List ℕ) (at : ℕ) → command_by s at b ≡ None
  nameless s at =
      rw (
        other 1 refl refl,
        other 2 refl refl,
        other 3 refl refl,
        other 4 refl refl,
        other 5 refl refl,
        other 6 refl refl,
        other 7 refl refl,
        other 8 refl refl,
      )

-- what the command with a byte is; none has a byte above 8
abbrev Named : List ℕ → ℕ → ℕ → Maybe Code → Type 0
Named s at b (Some command) = (byte_of command ≡ b) × (says command ≡ command_of b s at)
Named s at b None = 1 ≤ b → b ≤ 8 → ⊥

named : (s : List ℕ) (at b : ℕ) → Named s at b (command_by s at b)
named s at b = one (eqb b 1) refl (eqb b 2) refl (eqb b 3) refl (eqb b 4) refl (eqb b 5) refl (eqb b 6) refl (eqb b 7) refl (eqb b 8) refl
  where
    one : (a : Bool) → eqb b 1 ≡ a → (d : Bool) → eqb b 2 ≡ d → (f : Bool) → eqb b 3 ≡ f → (g : Bool) → eqb b 4 ≡ g → (h : Bool) → eqb b 5 ≡ h
        → (i : Bool) → eqb b 6 ≡ i → (j : Bool) → eqb b 7 ≡ j → (k : Bool) → eqb b 8 ≡ k → Named s at b (command_by s at b)
    one true e d _ f _ g _ h _ i _ j _ k _ = rw (eqb-true b 1 e) (refl, refl)
    one false e₁ true e f _ g _ h _ i _ j _ k _ = rw (eqb-true b 2 e) (refl, refl)
    one false e₁ false e₂ true e g _ h _ i _ j _ k _ = rw (eqb-true b 3 e) (refl, refl)
    one false e₁ false e₂ false e₃ true e h _ i _ j _ k _ = rw (eqb-true b 4 e) (refl, refl)
    one false e₁ false e₂ false e₃ false e₄ true e i _ j _ k _ = rw (eqb-true b 5 e) (refl, refl)
    one false e₁ false e₂ false e₃ false e₄ false e₅ true e j _ k _ = rw (eqb-true b 6 e) (refl, refl)
    one false e₁ false e₂ false e₃ false e₄ false e₅ false e₆ true e k _ = rw (eqb-true b 7 e) (refl, refl)
    one false e₁ false e₂ false e₃ false e₄ false e₅ false e₆ false e₇ true e = rw (eqb-true b 8 e) (refl, refl)
    one false e₁ false e₂ false e₃ false e₄ false e₅ false e₆ false e₇ false e₈ =
        let n₁ = eqb-false b 1 e₁ in
        let n₂ = eqb-false b 2 e₂ in
        let n₃ = eqb-false b 3 e₃ in
        let n₄ = eqb-false b 4 e₄ in
        let n₅ = eqb-false b 5 e₅ in
        let n₆ = eqb-false b 6 e₆ in
        let n₇ = eqb-false b 7 e₇ in
        let n₈ = eqb-false b 8 e₈ in
        simp (e₁, e₂, e₃, e₄, e₅, e₆, e₇, e₈) (λ l k. omega arith)

module _ (s : List ℕ) (at : ℕ) where
  -- by the bytes: all of them are there, some are missing, none is there
  pub whole : at + width (get_or s at 0) ≤ length s → command_at s at ≡ command_by s at (get_or s at 0)
  whole h = simp (le-leb (at + width (get_or s at 0)) (length s) h)

  pub short : length s < at + width (get_or s at 0) → command_at s at ≡ None
  short h = simp (lt-leb (at + width (get_or s at 0)) (length s) h)

  pub none : length s ≤ at → command_at s at ≡ None
  none h = short (omega (arith, wide (get_or s at 0)))

  -- the same, with what is missing
  pub fetch-whole : (command : Code) → at + width (get_or s at 0) ≤ length s → command_by s at (get_or s at 0) ≡ Some command → fetch_at s at ≡ Ok command
  fetch-whole command h i = rw (lt-leb (length s) at (omega (arith, wide (get_or s at 0))), le-leb (at + width (get_or s at 0)) (length s) h, i) refl

  pub fetch-short : at < length s → length s < at + width (get_or s at 0) → fetch_at s at ≡ Err (Short (get_or s at 0))
  fetch-short h k = rw (lt-leb (length s) at h, lt-leb (at + width (get_or s at 0)) (length s) k) (one (command_by s at (get_or s at 0)) (named s at (get_or s at 0)))
    where
      one : (o : Maybe Code) → Named s at (get_or s at 0) o → fetch_by (get_or s at 0) false o ≡ Err (Short (get_or s at 0))
      one (Some c) n = refl
      one None n = absurd (omega (arith, alone (get_or s at 0) n))

  pub fetch-none : length s ≤ at → fetch_at s at ≡ Err Nothing
  fetch-none h = rw (le-leb (length s) at h) refl

  pub fetch-unknown : at < length s → (1 ≤ get_or s at 0 → get_or s at 0 ≤ 8 → ⊥) → fetch_at s at ≡ Err (Unknown (get_or s at 0))
  fetch-unknown h u = rw (lt-leb (length s) at h, nameless (get_or s at 0) u s at) refl

  -- what is fetched says what stands there
  fetched-by : (past : Bool) → leb (length s) at ≡ past → (all : Bool) → leb (at + width (get_or s at 0)) (length s) ≡ all
      → (o : Maybe Code) → command_by s at (get_or s at 0) ≡ o → Named s at (get_or s at 0) o
      → FetchedAt s at (cond past (Err Nothing) (fetch_by (get_or s at 0) all o))
  fetched-by true e all g o i n = leb-true (length s) at e
  fetched-by false e true g (Some command) i n =
      record {
        here = leb-false (length s) at e;
        all = leb-true (at + width (get_or s at 0)) (length s) g;
        item = i;
        byte = n.0;
        says = n.1;
        next = ap (λ (b : ℕ). at + width b) n.0;
      }
  fetched-by false e false g (Some command) i n =
      record { here = leb-false (length s) at e; few = leb-false (at + width (get_or s at 0)) (length s) g; byte = refl }
  fetched-by false e all g None i n =
      let here : at < length s = leb-false (length s) at e in
      record { here = here; all = omega (arith, here, alone (get_or s at 0) n); byte = refl; unknown = n }

  pub fetched : FetchedAt s at (fetch_at s at)
  fetched = fetched-by (leb (length s) at) refl (leb (at + width (get_or s at 0)) (length s)) refl (command_by s at (get_or s at 0)) refl (named s at (get_or s at 0))

  pub fetched-whole : (command : Code) → fetch_at s at ≡ Ok command → WholeAt s at command
  fetched-whole command e = rw e at fetched

  pub fetched-short : (b : ℕ) → fetch_at s at ≡ Err (Short b) → ShortAt s at b
  fetched-short b e = rw e at fetched

  pub fetched-none : fetch_at s at ≡ Err Nothing → length s ≤ at
  fetched-none e = rw e at fetched

  pub fetched-unknown : (b : ℕ) → fetch_at s at ≡ Err (Unknown b) → UnknownAt s at b
  fetched-unknown b e = rw e at fetched

  -- the command alone is what is fetched, without what is missing
  pub fetched-command : command_at s at ≡ result_ok (fetch_at s at)
  fetched-command = one (leb (length s) at) refl (leb (at + width (get_or s at 0)) (length s)) refl (command_by s at (get_or s at 0))
    where
      one : (past : Bool) → leb (length s) at ≡ past → (all : Bool) → leb (at + width (get_or s at 0)) (length s) ≡ all → (o : Maybe Code)
          → cond all o None ≡ result_ok (cond past (Err Nothing) (fetch_by (get_or s at 0) all o))
      one true e true g o = absurd (omega (arith, wide (get_or s at 0), leb-true (length s) at e, leb-true (at + width (get_or s at 0)) (length s) g))
      one true e false g o = refl
      one false e true g (Some c) = refl
      one false e true g None = refl
      one false e false g (Some c) = refl
      one false e false g None = refl

  -- and so it says what stands there
  pub found-whole : (command : Code) → command_at s at ≡ Some command → WholeAt s at command
  found-whole command e = one (fetch_at s at) fetched (sym fetched-command ∙ e)
    where
      one : (r : Answer Code Missing) → FetchedAt s at r → result_ok r ≡ Some command → WholeAt s at command
      one (Ok c) w i = let same : c ≡ command = cc in rw (← same) w
      one (Err why) w i = never (cc)

  pub found-short : (b : ℕ) → command_at s at ≡ None → at < length s → b ≡ get_or s at 0 → 1 ≤ b → b ≤ 8 → ShortAt s at b
  found-short b i h e l k = one (fetch_at s at) fetched (sym fetched-command ∙ i)
    where
      one : (r : Answer Code Missing) → FetchedAt s at r → result_ok r ≡ None → ShortAt s at b
      one (Ok c) w i = never (cc)
      one (Err Nothing) w i = absurd (omega arith)
      one (Err (Short d)) w i = record { here = h; few = w.few; byte = e }
      one (Err (Unknown d)) w i = absurd (w.unknown (omega (arith, w.byte)) (omega (arith, w.byte)))

  -- none, though a byte would begin a whole command: no byte is there
  pub found-none : command_at s at ≡ None → (at < length s → (1 ≤ get_or s at 0) × (get_or s at 0 ≤ 8) × (at + width (get_or s at 0) ≤ length s)) → length s ≤ at
  found-none i k = one (ltb at (length s)) refl
    where
      one : (there : Bool) → ltb at (length s) ≡ there → length s ≤ at
      one true e =
          let h = ltb-true at (length s) e in
          let t = k h in
          absurd (omega (arith, (found-short (get_or s at 0) i h refl t.0 t.1).few))
      one false e = ltb-false at (length s) e
