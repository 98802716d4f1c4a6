use Rattle.std.proofs.Common.{◌≡◌, drop}
use Rattle.interval_model.specs.Space.{Space as Domains}
use Rattle.poly_graph.specs.ProblemViews.{problem_of}
use Rattle.cover_model.specs.State.{state_of}
use Rattle.cover_model.specs.Rules.{are_combinable}
use Rattle.cover_model.specs.Views.{multipliers_of}
use Rattle.form_truth.proofs.combinable.are_combinable.Given as goal

abbrev pub invariant-loop-pair : goal.invariant-loop-pair
invariant-loop-pair l = (space : Domains) → let S = state_of space l.lits in
    are_combinable (problem_of l.problem) S (multipliers_of l.multipliers) ≡ are_combinable (problem_of l.problem) S (multipliers_of (drop l.pair-index l.multipliers))
