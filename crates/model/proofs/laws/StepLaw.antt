-- What a mutant does at a state and an input, by the byte that it uses there.
use Prim.Native.Nat.{ℕ, zero, ◌<◌}
use Rattle.std.proofs.Common.{arith, ◌∙◌}
use Rattle.std.specs.Prelude.{◌≡◌, Bool, ◌&&◌, List}
use Rattle.std.proofs.Math.Path.{refl}
use Rattle.std.proofs.Math.Bool.{true, false, cond}
use Rattle.std.proofs.Math.Option.{Option, none, some}
use borrow.Author.Tests.{lt-ltb, ltb-true}
use Rattle.std.proofs.Math.Dec.{ltb}
use Rattle.std.proofs.Math.ListN.{get_or}
use Rattle.lists.specs.Lists.{maybe}
use Rattle.sheet.specs.Sheet.{Sheet, choices_at, is_open}
use Rattle.sheet.specs.WellFormed.{WellFormed}
use Rattle.model.specs.Mutant.{transitions, slots, site_of, IsMutant, idle, acts, step}
use Rattle.model.proofs.laws.SuspectLaw.{slots_before, site-none, site-open, site-is}
use Rattle.model.proofs.laws.TransitionLaw.{choices-some}
use Rattle.model.proofs.laws.OperationLaw.{mutant-length, in-range-at}

-- the mutant's choice at a state and an input
abbrev pub choice_of : Sheet → List ℕ → ℕ → ℕ → ℕ
choice_of sh b s x = maybe (site_of sh s x) zero (λ i. get_or b i 0)

module _ (sh : Sheet) (b : List ℕ) (s x : ℕ) where
  -- it takes the transition that its choice names
  pub step-at : s < sh.size.states → x < sh.size.inputs → step sh b s x ≡ get_or (transitions sh s x) (choice_of sh b s x) idle
  unfolding step acts site_of
  step-at ls lx = rw (lt-ltb s sh.size.states ls, lt-ltb x sh.size.inputs lx) refl

  -- at an open pair the one of its byte
  pub step-open : s < sh.size.states → x < sh.size.inputs → is_open sh s x ≡ true →
      step sh b s x ≡ get_or (transitions sh s x) (get_or b (slots_before sh s x) 0) idle
  step-open ls lx e = step-at ls lx ∙ rw (site-open sh s x ls lx e) refl

  -- otherwise the only one
  pub step-only : s < sh.size.states → x < sh.size.inputs → is_open sh s x ≡ false → step sh b s x ≡ get_or (transitions sh s x) 0 idle
  step-only ls lx e = step-at ls lx ∙ rw (site-none sh s x e) refl

  -- it uses the byte of an open pair, and none elsewhere
  pub used-open : s < sh.size.states → x < sh.size.inputs → is_open sh s x ≡ true → (acts sh b s x).used ≡ some (slots_before sh s x)
  unfolding acts site_of
  used-open ls lx e = site-open sh s x ls lx e

  pub used-none : is_open sh s x ≡ false → (acts sh b s x).used ≡ none
  unfolding acts site_of
  used-none e = site-none sh s x e

  -- outside the sheet's states and inputs it is idle
  pub step-outside : (s < sh.size.states → x < sh.size.inputs → ⊥) → step sh b s x ≡ idle
  unfolding step acts site_of
  step-outside out = go (ltb s sh.size.states) refl (ltb x sh.size.inputs) refl
    where
      go : (c : Bool) → ltb s sh.size.states ≡ c → (d : Bool) → ltb x sh.size.inputs ≡ d →
          cond (c && d) (get_or (transitions sh s x) (choice_of sh b s x) idle) idle ≡ idle
      go true ec true ed = absurd (out (ltb-true s sh.size.states ec) (ltb-true x sh.size.inputs ed))
      go true ec false ed = refl
      go false ec d ed = refl

  -- a mutant's choice is one of the pair's choices
  pub choice-below : WellFormed sh → IsMutant sh b → choice_of sh b s x < choices_at sh s x
  unfolding IsMutant
  choice-below wf mutant = go (site_of sh s x) refl
    where
      go : (o : Option ℕ) → site_of sh s x ≡ o → maybe o zero (λ i. get_or b i 0) < choices_at sh s x
      go none e = choices-some sh wf s x
      go (some i) e =
          let h = site-is sh s x i e in
          omega (arith, h.1, in-range-at (slots sh) b mutant i (omega (arith, h.0, mutant-length sh b mutant)))
