use Rattle.std.proofs.Common.{◌<◌, ◌≤◌, ◌≡◌, inl, inr, ◌∙◌, ℕ, Bool, get_or, not, length, arith, ap, sym, below_more}
use Rattle.std.proofs.lemmas.Bool.{cases_lt}
use Rattle.interval_model.specs.Interval.{Interval}
use Rattle.interval_model.specs.Space.{Domain, Space, domain_interval}
use Rattle.ival.specs.SpaceViews.{space_of, domain_of}
use Rattle.ival.proofs.Lists.{interval_at, no_interval}
use Rattle.width_plan.specs.Plan.{is_far, reaches_far}
use Rattle.width_plan.proofs.Far.{nothing_is_near}
use Rattle.width_plan.proofs.plan.first_far.Goals as goal

-- whether this axis reaches too far
tested : (bits axis : ℕ) (space : Space) (d : Domain) (r : Bool) → axis < length space →
    d ≡ get_or space axis d → r ≡ reaches_far bits (domain_interval d) → is_far space bits axis ≡ r
tested bits axis space d r inside e f = ap (reaches_far bits) (interval_at space axis d inside ∙ ap domain_interval (sym e)) ∙ sym f

pub returns-then-reaches_far : goal.returns-then-reaches_far
returns-then-reaches_far c =
    let inside : c.loop-axis.axis < length (space_of c.args.root.now) = omega (arith, c.loop-axis-test.true, c.len-axis-end.ensures) in
    (tested c.args.bits c.loop-axis.axis (space_of c.args.root.now) (domain_of c.get.result) c.reaches_far.result inside c.get.ensures c.reaches_far.ensures ∙ c.if-reaches_far.true, c.loop-axis.invariant)

pub loop-axis-preserved : goal.loop-axis-preserved
loop-axis-preserved c =
    let inside : c.loop-axis.axis < length (space_of c.args.root.now) = omega (arith, c.loop-axis-test.true, c.len-axis-end.ensures) in
    let e = tested c.args.bits c.loop-axis.axis (space_of c.args.root.now) (domain_of c.get.result) c.reaches_far.result inside c.get.ensures c.reaches_far.ensures ∙ c.if-reaches_far.false in
    below_more _ _ c.loop-axis.invariant (ap not e)

pub returns : goal.returns
returns c = λ i. elim (cases_lt i c.loop-axis.axis) [
  | inl l ↦ c.loop-axis.invariant i l
  | inr h ↦ let past : length (space_of c.args.root.now) ≤ i = omega (arith, c.loop-axis-test.false, c.len-axis-end.ensures) in
      ap (λ (x : Interval). not (reaches_far c.args.bits x)) (no_interval (space_of c.args.root.now) i past) ∙ nothing_is_near c.args.bits
]
