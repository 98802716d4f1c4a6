use Rattle.poly_graph.specs.ProblemViews.{problem_of}
use Rattle.width_plan.specs.Views.{answer_of}
use Rattle.width_plan.proofs.Finds.{narrow_by}
use Rattle.width_plan.proofs.plan.plan_in.Goals as goal

pub returns-clause-narrow : goal.returns-clause-narrow
returns-clause-narrow c = narrow_by (problem_of c.args.problem.now) c.graph-graph.ensures.whole.problem c.args.delta_bits c.args.margin_bits (answer_of c.search.result) c.search.ensures
