use Rattle.std.proofs.Common.{arith}
use Rattle.poly_graph.specs.ProblemViews.{problem_of}
use Rattle.cover_rule.proofs.Axes.{fits_length}
use Rattle.cover_rule.proofs.branches.flip.Goals as goal

pub is_decided_axis-requires : goal.is_decided_axis-requires
is_decided_axis-requires c = omega (arith, c.requires.axis, fits_length (problem_of c.args.problem.now).axes c.args.kept.now.reached.space c.requires.held.run.sound.reached.axes)

pub is_undecided_axis-requires : goal.is_undecided_axis-requires
is_undecided_axis-requires c = omega (arith, c.requires.axis, fits_length (problem_of c.args.problem.now).axes c.args.kept.now.reached.space c.requires.held.run.sound.reached.axes)
