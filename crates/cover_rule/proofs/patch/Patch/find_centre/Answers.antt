use Rattle.std.proofs.Common.{◌∙◌, ap, length}
use Rattle.poly_graph.specs.ProblemViews.{problem_of}
use Rattle.cover_rule.proofs.Axes.{fits_length}
use Rattle.cover_rule.proofs.patch.Patch.find_centre.Goals as goal

pub find_centre-requires-clause-space : goal.find_centre-requires-clause-space
find_centre-requires-clause-space c = let i = c.self.inside in
    ap length c.space.ensures ∙ fits_length (problem_of i.problem.now).axes i.kept.reached.space c.self.invariant.run.sound.reached.axes
