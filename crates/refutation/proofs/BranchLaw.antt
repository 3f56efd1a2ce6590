-- The choices of a suspect in turn, each refuted by a cube.
use Rattle.std.specs.Prelude.{◌+◌, ◌-◌, ◌<◌, ◌≤◌, ◌≡◌, None}
use Rattle.lists.specs.Proving.{arith, ℕ, sym, ◌∙◌, ap, subst, List, length, get_or, set, replicate, length-replicate, get_or-replicate, List·getD-eq-default, dec_lt}
use Rattle.model.specs.Machine.{Move}
use Rattle.block.specs.Layout.{site_at}
use Rattle.block.specs.Tabulated.{Wf, choices_at, choice_of, StepIs}
use Rattle.block.specs.declared.layout.Step.{Step}
use Rattle.block.specs.laws.ChoiceLaw.{choice-at}
use Rattle.cubes.specs.Sets.{Has}
use Rattle.cubes.specs.Cube.{MeansStep, NoneIn, Joining, Adds, MeetsAll, AddsOk}
use Rattle.cubes.specs.declared.goal.Goal.{Goal}
use Rattle.cubes.specs.laws.JoinLaw.{DoneTo, join-none, join_more, join-all, done-skip, done_all}
use Rattle.mirror.specs.Reflect.{ReflectedOk}
use Rattle.mirror.specs.laws.MirrorLaw.{under-meets}
use Rattle.refutation.specs.Branching.{SplitOk, TurnOk, JoinedOk}
use Rattle.refutation.specs.declared.branch.Split.{Split}
use Rattle.refutation.specs.declared.branch.Turn.{Turn}

-- ---- one cube
pub joined : {m cube all done mid more wider : List ℕ} {k : ℕ} {s : Step} (i l : ℕ) → Wf m → k < 257 → site_at m k < 32 → i ≡ site_at m k → l ≡ get_or cube i 0 → (l ≡ 4294967295 → ⊥) → s.output < 16 → MeansStep l s.output s.target
    → AddsOk done mid l → MeetsAll all cube more → ReflectedOk m cube mid wider k → JoinedOk m cube all done more wider k s
joined {m} {cube} {all} {done} {mid} {more} {wider} {k} {s} i l wf lk ls ei el nl lo ms ad me re = record {
  all-long = me.long;
  done-long = re.long;
  joins = λ g log ns jo. re.joins g log more ns (under-meets me) (join_more wf lk (λ e. omega (arith, e, ls)) jo ns me (subst (λ (y : ℕ). Adds done mid y) (el ∙ ap (λ (y : ℕ). get_or cube y 0) ei) ad.adds));
  keeps = λ v h. re.keeps v (ad.keeps v h);
  here = re.keeps (record { output = s.output; target = s.target }) (ad.here (record { output = s.output; target = s.target }) lo nl ms);
}

-- ---- the turns: n in each of two rounds; in the second each choice before is done
pub record Trying (goal : Goal) (m log all done : List ℕ) (k n r : ℕ) : Type 0 where
  pub all-long : length all ≡ 32
  pub done-long : length done ≡ 16
  pub joining : Joining goal m log all done k
  pub done-to : DoneTo m done k (r - n)

zeros : (o : ℕ) → Dec (o < 16) → ◌≡◌ {A = ℕ} (get_or (replicate 16 0) o 0) 0
zeros o (yes l) = get_or-replicate {A = ℕ} 16 o 0 0 l
zeros o (no n) = List·getD-eq-default (replicate {A = ℕ} 16 0) 0 {n = o} (omega (arith, length-replicate {A = ℕ} 16 0, n))

pub trying_start : {goal : Goal} {m log : List ℕ} {k n : ℕ} → Trying goal m log (replicate 32 4294967295) (replicate 16 0) k n 0
trying_start = record {
  all-long = length-replicate {A = ℕ} 32 4294967295;
  done-long = length-replicate {A = ℕ} 16 0;
  joining = join-none (λ o. zeros o (dec_lt o 16));
  done-to = record { at = λ d l. absurd (omega arith) };
}

module _ {m : List ℕ} {left : ℕ} {sp : Split} (wf : Wf m) (ok : SplitOk m left sp) where
  module _ {r : ℕ} {t : Turn} {goal : Goal} {log all done : List ℕ} (lr : r < sp.n + sp.n) (tu : sp.n ≤ r → TurnOk m done sp.k (r - sp.n) t) (tr : Trying goal m log all done sp.k sp.n r) where
    -- at its end the choice is done, if the round is the second
    done-turn : {wider : List ℕ} → ((v : Move) → Has (get_or done v.output 0) v.target → Has (get_or wider v.output 0) v.target) → (sp.n ≤ r → Has (get_or wider t.step.output 0) t.step.target) → DoneTo m wider sp.k (r + 1 - sp.n)
    done-turn {wider} keeps h = go (dec_lt r sp.n)
      where
        go : Dec (r < sp.n) → DoneTo m wider sp.k (r + 1 - sp.n)
        go (yes l) = record { at = λ x lx. absurd (omega arith) }
        go (no l) =
            let le : sp.n ≤ r = omega (arith, l) in
            let c : ℕ = r - sp.n in
            let low : c < choices_at m sp.k = choice-at m sp.k sp.i c ok.is ok.low (omega (arith, ok.count)) in
            let step : StepIs m sp.k c t.step = (tu le).is in
            let has : Has (get_or wider (choice_of m sp.k c).output 0) (choice_of m sp.k c).target = subst (λ (y : ℕ). Has (get_or wider (choice_of m sp.k c).output 0) y) (step.target wf low) (subst (λ (y : ℕ). Has (get_or wider y 0) t.step.target) (step.output wf low) (h le)) in
            subst (λ (y : ℕ). DoneTo m wider sp.k y) (omega arith) (done-skip (record { at = λ d ld. keeps (choice_of m sp.k d) (tr.done-to.at d ld) }) has)

    pub trying-skip : t.hint ≡ None → Trying goal m log all done sp.k sp.n (r + 1)
    trying-skip e = record { all-long = tr.all-long; done-long = tr.done-long; joining = tr.joining; done-to = done-turn (λ v h. h) (λ le. (tu le).has e) }

    pub trying-more : {cube more wider : List ℕ} → NoneIn goal m log cube → JoinedOk m cube all done more wider sp.k t.step → Trying goal m log more wider sp.k sp.n (r + 1)
    trying-more ns jo = record {
      all-long = jo.all-long;
      done-long = jo.done-long;
      joining = jo.joins goal log ns tr.joining;
      done-to = done-turn jo.keeps (λ le. jo.here);
    }

  pub trying-end : {goal : Goal} {log all done cube : List ℕ} {r : ℕ} → Trying goal m log all done sp.k sp.n r → sp.n + sp.n ≤ r → cube ≡ set all sp.i 4294967295 → NoneIn goal m log cube
  trying-end {goal} {log} {all} {done} {cube} {r} tr l e = subst (λ (y : List ℕ). NoneIn goal m log y) (ap (λ (y : ℕ). set all y 4294967295) ok.is ∙ sym e)
      (join-all wf ok.pair (λ z. omega (arith, z, ok.is, ok.low)) tr.joining (done_all tr.done-to (rw ok.is (omega (arith, ok.count)))))
