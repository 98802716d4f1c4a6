use Rattle.std.proofs.Common.{set, subst, sym}
use Rattle.cert_join.specs.declared.joiner.Step.{Step}
use Rattle.cert_join.specs.Spot.{Spot}
use Rattle.cert_join.specs.Weighed.{IsWeighStep}
use Rattle.cert_join.specs.Due.{IsDueBehind, stacked}
use Rattle.cert_join.proofs.Differing.{weighed_on, weighed_over, weighed_there}
use Rattle.cert_join.proofs.trees.Trees.step_to_weigh.Goals as goal

pub returns-in-On : goal.returns-in-On
returns-in-On c k text d =
    let P : Step → Type 0 = λ z. IsWeighStep d.certs d.taken d.ends c.step.new.self c.step.new.cursors z in
    weighed_on k _ _ _ _ _ _ d c.step.auto.cursors (subst P c.in-On.is (c.step.ensures d.certs d.taken d.ends d.weighing))

pub returns-in-Read : goal.returns-in-Read
returns-in-Read c k text d =
    let P : Step → Type 0 = λ z. IsWeighStep d.certs d.taken d.ends c.step.new.self c.step.new.cursors z in
    weighed_on k _ _ _ _ _ _ d c.step.auto.cursors (subst P c.in-Read.is (c.step.ensures d.certs d.taken d.ends d.weighing))

pub returns-in_default : goal.returns-in_default
returns-in_default c k text d =
    let P : Step → Type 0 = λ z. IsWeighStep d.certs d.taken d.ends c.step.new.self c.step.new.cursors z in
    let w = subst P c.in-Over.is (c.step.ensures d.certs d.taken d.ends d.weighing) in
    absurd (c.in_default.ensures d.certs d.taken w.choosing)

pub returns-then-part-cursors : goal.returns-then-part-cursors
returns-then-part-cursors c k text d =
    let P : Step → Type 0 = λ z. IsWeighStep d.certs d.taken d.ends c.step.new.self c.step.new.cursors z in
    let w = subst P c.in-Over.is (c.step.ensures d.certs d.taken d.ends d.weighing) in
    absurd (weighed_there k _ _ _ _ _ c.in-Some.part c.in-Some.mark d c.step.auto.cursors (c.in-Some.ensures d.certs d.taken w.choosing) c.if-part-cursors.true)

pub returns : goal.returns
returns c k text d =
    let P : Step → Type 0 = λ z. IsWeighStep d.certs d.taken d.ends c.step.new.self c.step.new.cursors z in
    let w = subst P c.in-Over.is (c.step.ensures d.certs d.taken d.ends d.weighing) in
    let Q : Spot → Type 0 = λ z. IsDueBehind k c.in-Some.part 1 (stacked c.args.self.now.places.items) text (set c.step.new.cursors c.in-Some.part z) in
    subst Q (sym c.rewind.ensures) (weighed_over k _ _ _ _ _ _ _ c.in-Some.mark d c.step.auto.cursors w (c.in-Some.ensures d.certs d.taken w.choosing))
