-- The code's steps, ends and kept patches as the definitions see them.
use Rattle.std.specs.Prelude.{Option, Some, None, map}
use Rattle.cover_line.specs.Views.{blocks_of, marking_of, branching_of}
use Rattle.cover_data.specs.declared.step.Narrowing.{Narrowing as CodeNarrowing}
use Rattle.cover_data.specs.declared.step.Narrowing.TheVariants as narrowing
use Rattle.cover_data.specs.declared.step.Step.{Step}
use Rattle.cover_data.specs.declared.step.Step.TheVariants as steps
use Rattle.cover_data.specs.declared.step.Closing.{Closing}
use Rattle.cover_data.specs.declared.step.Closing.TheVariants as closing
use Rattle.cover_data.specs.declared.step.End.{End}
use Rattle.cover_data.specs.declared.step.End.TheVariants as ends
use Rattle.cover_data.specs.declared.kept.KeptPatch.{KeptPatch}
use Rattle.cover_model.specs.Rules.{Line, narrow_by, end_by, mark_by, branch_by, Narrowing, by_range, by_off_range, by_combination, Ending, void_by, by_squares, false_form, by_lemma, stuck}
use Rattle.cover_model.specs.Views.{multipliers_of}
use Rattle.cover_data.specs.Models.{KeptModel}

abbrev pub narrowing_of : CodeNarrowing → Narrowing
narrowing_of (narrowing.Pull j) = by_range j
narrowing_of (narrowing.Push j) = by_off_range j
narrowing_of (narrowing.Combine c) = by_combination (multipliers_of c.pairs.items)

abbrev pub closing_of : Closing → Ending
closing_of (closing.Void n) = void_by (narrowing_of n)
closing_of (closing.Squares s) = by_squares (multipliers_of s.pairs.items) (blocks_of s.blocks.items)
closing_of closing.False = false_form
closing_of (closing.By i) = by_lemma i

abbrev pub step_line : Step → Line
step_line (steps.Narrow n) = narrow_by (narrowing_of n)
step_line (steps.Mark m) = mark_by (marking_of m)

abbrev pub end_line : End → Line
end_line (ends.Close c) = end_by (closing_of c)
end_line (ends.Part b) = branch_by (branching_of b)
end_line (ends.Stuck j) = stuck j

abbrev pub end_of : Option End → Option Line
end_of None = None
end_of (Some e) = Some (end_line e)

abbrev pub kept_of : KeptPatch → KeptModel
kept_of k = record { first = k.first; steps = map step_line k.steps.items; quoted = k.quoted.items; end = end_of k.end; reached = k.reached }
