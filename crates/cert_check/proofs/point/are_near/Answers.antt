use Rattle.std.proofs.Common.{List, length, get_or, refl, sym, ap, ◌∙◌, arith}
use Rattle.std.proofs.lemmas.List.{length-map}
use Rattle.dyadic.specs.Rounding.{exact}
use Rattle.cover_model.specs.State.{delta_of}
use Rattle.poly_graph.specs.Problem.{Axis}
use Rattle.poly_graph.specs.ProblemViews.{axis_of}
use Rattle.ival.specs.SpaceViews.{domain_of, space_of}
use Rattle.cert_model.specs.Due.{are_near, coordinates}
use Rattle.cert_check.specs.States.{loosenings_of}
use Rattle.cert_check.proofs.Near.{near_fails, near_next}
use Rattle.cert_check.proofs.point.are_near.Goals as goal

pub returns-then-not-is_near : goal.returns-then-not-is_near
returns-then-not-is_near c =
    let m = exact (delta_of (loosenings_of c.args.s)) in let axes = c.axes-axes.result.now in let space = space_of c.args.space.now in let n = c.loop-axis.axis in
    let lengths = sym (length-map axes axis_of) ∙ ap length c.axes-axes.ensures.axes in
    sym (ap (λ (xs : List Axis). are_near m xs (coordinates space)) (sym c.axes-axes.ensures.axes) ∙ c.loop-axis.invariant
    ∙ near_fails m axes space n c.index-axes-axis.result (get_or axes n c.index-axes-axis.result) (domain_of c.get.result) c.loop-axis-test.true (omega (arith, c.loop-axis-test.true, lengths, c.requires)) refl c.get.ensures
    c.is_near.result c.is_near.ensures c.if-not-is_near.true)

pub loop-axis-preserved : goal.loop-axis-preserved
loop-axis-preserved c =
    let m = exact (delta_of (loosenings_of c.args.s)) in let axes = c.axes-axes.result.now in let space = space_of c.args.space.now in let n = c.loop-axis.axis in
    let lengths = sym (length-map axes axis_of) ∙ ap length c.axes-axes.ensures.axes in
    c.loop-axis.invariant
    ∙ near_next m axes space n c.index-axes-axis.result (get_or axes n c.index-axes-axis.result) (domain_of c.get.result) c.loop-axis-test.true (omega (arith, c.loop-axis-test.true, lengths, c.requires)) refl c.get.ensures
    c.is_near.result c.is_near.ensures c.if-not-is_near.false
