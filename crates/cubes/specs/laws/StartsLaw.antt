-- Where the mutants of a cube start.
use Rattle.std.specs.Prelude.{◌+◌, ◌*◌, ◌%◌, ◌^◌, ◌<◌, ◌≤◌, ◌≡◌}
use Rattle.lists.specs.Proving.{arith, ℕ, sym, ◌∙◌, ap, subst, by_cases, List, get_or, ℕ_discrete}
use Rattle.model.specs.Machine.{Move}
use Rattle.block.specs.Layout.{waking, site_at}
use Rattle.block.specs.Tabulated.{Wf, Ranged, choice_of, chosen, start_of, StepIs}
use Rattle.block.specs.declared.layout.Step.{Step}
use Rattle.block.specs.laws.ChoiceLaw.{choice-waking, choice-low, choice-lone, chosen_none, start_is}
use Rattle.cubes.specs.Sets.{Has}
use Rattle.cubes.specs.Cube.{Given, In, StartsOk, GoingOk}
use Rattle.cubes.specs.laws.SetLaw.{one_same}
use Rattle.cubes.specs.laws.SuspectedLaw.{suspected-at}

-- a waking state that is no suspect
pub starts-lone : {m cube : List ℕ} {i r : ℕ} {s : Step} → Wf m → i ≡ site_at m waking → 32 ≤ i → StepIs m waking 0 s → r ≡ 2 ^ (s.target % 16) → StartsOk m cube r
starts-lone {m} {cube} {i} {r} {s} wf ei li is er = record { at = λ b rg g. subst (λ (n : ℕ). Has n (start_of m b)) (sym er) (subst (λ (t : ℕ). Has (2 ^ (s.target % 16)) t) (there b) (one_same (s.target % 16))) }
  where
    none : site_at m waking ≡ 255
    none = by_cases (ℕ_discrete (site_at m waking) 255) (λ e. e) (λ n. absurd (omega (arith, ei, li, wf.sites waking (omega arith) n)))

    there : (b : List ℕ) → s.target % 16 ≡ start_of m b
    there b =
        let lone = choice-lone m waking none in
        let same : s.target ≡ (choice_of m waking 0).target = is.target wf lone in
        let low : s.target % 16 ≡ s.target = omega (arith, same, choice-low waking 0 wf (omega arith) lone, wf.few-states) in
        low ∙ same ∙ sym (start_is m b ∙ ap (λ (c : ℕ). (choice_of m waking c).target) (chosen_none m b waking none))

-- one that is: where its literal leads
pub starts-freed : {m facts cube : List ℕ} {i l r : ℕ} → Given m facts → i ≡ site_at m waking → i < 32 → l ≡ get_or cube i 0 → GoingOk facts l i 0 r → StartsOk m cube r
starts-freed {m} {facts} {cube} {i} {l} {r} gi ei li el go = record { at = λ b rg g. rw (start_is m b) (lead b rg g) }
  where
    lead : (b : List ℕ) → Ranged m b → In m cube b → Has r (choice_of m waking (chosen m b waking)).target
    lead b rg g =
        let v = choice_of m waking (chosen m b waking) in
        let s = suspected-at waking gi.wf (omega arith) ei (λ z. omega (arith, z, ei, li)) el rg g in
        let quiet : v.output ≡ 0 = ap (λ (w : Move). w.output) (choice-waking m (chosen m b waking)) in
        go.at v s.means quiet (subst (λ (o : ℕ). Has (get_or facts (i * 16 + o) 0) v.target) quiet (s.at (λ j w. Has (get_or facts (j * 16 + w.output) 0) w.target) gi.tables.going))
