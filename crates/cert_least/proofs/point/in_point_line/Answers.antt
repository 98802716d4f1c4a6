use Rattle.poly_graph.specs.ProblemViews.{problem_of}
use Rattle.cert_read.specs.Views.{line_of}
use Rattle.cert_least.proofs.Lines.{in_point_on}
use Rattle.cert_least.proofs.point.in_point_line.Goals as goal

pub returns : goal.returns
returns c a d h e = in_point_on a (line_of c.args.line.now) c.args.loosenings c.args.lower d e c.give.new.checker c.give.result (c.give.ensures (problem_of a.problem) a.bound d h)
