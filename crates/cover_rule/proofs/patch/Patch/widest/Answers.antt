use Rattle.std.proofs.Common.{◌∙◌, ap, sym, arith, length}
use Rattle.poly_graph.specs.ProblemViews.{problem_of}
use Rattle.ival.specs.SpaceViews.{space_of}
use Rattle.cover_rule.proofs.Axes.{fits_length}
use Rattle.cover_rule.proofs.Cuts.{found_below}
use Rattle.cover_rule.proofs.patch.Patch.widest.Goals as goal

pub overflow_cast-result : goal.overflow_cast-result
overflow_cast-result c =
    let i = c.self.inside in let h = c.self.invariant in
    omega (arith, found_below (space_of c.space.result.now) c.in-Some.axis (sym c.widest.ensures ∙ c.in-Some.is), ap length c.space.ensures, fits_length (problem_of i.problem.now).axes i.kept.reached.space h.run.sound.reached.axes, h.numbered.axes)
