-- `taken`: by the command's byte.
use Rattle.lists.specs.Proving.{sym, ◌∙◌}
use Rattle.records.proofs.AlongLaw.{takes-pulse, takes-unknown, takes-early, takes-over, takes-seen}
use Rattle.records.proofs.scan.taken.Goals.{else-v-eq-SEEN-via-then-v-eq-SEEN+then-pulsed+else-in_range, else-v-eq-SEEN-via-then-v-eq-SEEN+else-pulsed, else-v-eq-SEEN-via-else-v-eq-SEEN}
use Rattle.records.proofs.scan.taken.Goals as goal

pub returns-then-v-eq-PULSE : goal.returns-then-v-eq-PULSE
returns-then-v-eq-PULSE c = takes-pulse _ _ _ _ c.args.pulsed c.if-v-eq-PULSE.true

pub returns-then-in_range : goal.returns-then-in_range
returns-then-in_range c = takes-seen _ _ _ _ c.args.pulsed c.if-v-eq-SEEN.true c.if-pulsed.true (sym c.in_range.ensures ∙ c.if-in_range.true)

pub returns : goal.returns
returns c = elim c.else-v-eq-SEEN.branch [
  | else-v-eq-SEEN-via-then-v-eq-SEEN+then-pulsed+else-in_range w ↦ takes-over _ _ _ _ c.args.pulsed c.if-v-eq-PULSE.false (sym w.in_range.ensures ∙ w.if-in_range.false)
  | else-v-eq-SEEN-via-then-v-eq-SEEN+else-pulsed w ↦ takes-early _ _ _ _ c.args.pulsed c.if-v-eq-PULSE.false w.if-pulsed.false
  | else-v-eq-SEEN-via-else-v-eq-SEEN w ↦ takes-unknown _ _ _ _ c.args.pulsed c.if-v-eq-PULSE.false w.if-v-eq-SEEN.false
]
