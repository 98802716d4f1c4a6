use Rattle.std.proofs.Common.{◌∙◌, sym, arith}
use Rattle.poly_graph.specs.ProblemViews.{problem_of}
use Rattle.cover_data.specs.Margins.{loosenings_of}
use Rattle.cover_rule.proofs.Sides.{below_step}
use Rattle.cover_rule.proofs.stuck.none_stuck_below.Goals as goal

pub loop-i-preserved : goal.loop-i-preserved
loop-i-preserved c = record {
  below = omega (arith, c.loop-i.invariant.below, c.loop-i-test.true);
  rest = c.loop-i.invariant.rest ∙ below_step (problem_of c.args.problem.now) (loosenings_of c.args.margins.now) c.args.state.now c.loop-i.i c.loop-i-test.true (sym c.is_stuck_atom.ensures ∙ c.if-is_stuck_atom.false);
}
