use Rattle.std.proofs.Common.{◌≡◌, ◌≤◌, [], length}
use Rattle.cover_model.specs.Combination.{swept}
use Rattle.ival.specs.Views.{interval_of}
use Rattle.ival.specs.RowViews.{rows_of}
use Rattle.ival.specs.Options.{option_at}
use Rattle.plain_eval.specs.Parts.{expansion_on}
use Rattle.plain_eval.specs.Rest.{expansion_with}
use Rattle.plain_eval.specs.Suits.{AreFor, AreUnder}
use Rattle.plain_eval.proofs.sweep.sweep.Given as goal

-- what is left to sweep makes of the parts and the rest so far the same expansion
abbrev pub invariant-loop-n : goal.invariant-loop-n
invariant-loop-n l = record {
  inside : l.place ≤ length l.graph;
  count : AreFor l.graph l.coefficients;
  under : AreUnder l.coefficients;
  same : swept l.graph (rows_of l.rows) (rows_of l.centre_rows) (length l.graph) (option_at l.initial.coefficients.linear) (option_at l.initial.coefficients.square) (expansion_with [] (interval_of l.initial.rest))
      ≡ swept l.graph (rows_of l.rows) (rows_of l.centre_rows) l.place (option_at l.coefficients.linear) (option_at l.coefficients.square) (expansion_on l.graph (option_at l.coefficients.linear) (option_at l.coefficients.square) l.place (interval_of l.rest));
}

abbrev pub decreases-loop-n : goal.decreases-loop-n
decreases-loop-n l = l.place
