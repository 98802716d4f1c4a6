use Rattle.std.proofs.Common.{◌∙◌, ap, length}
use Rattle.poly_graph.specs.ProblemViews.{problem_of}
use Rattle.cover_rule.proofs.Axes.{fits_length}
use Rattle.cover_rule.proofs.patch.Patch.begin.Goals as goal

pub new-requires : goal.new-requires
new-requires c = ap length c.space.ensures ∙ fits_length (problem_of c.args.problem.now).axes c.args.state.space c.requires.state.axes
