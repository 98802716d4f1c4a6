use Rattle.std.proofs.Common.{◌≡◌, ◌+◌, ◌/◌, ◌∙◌, ap, map, replicate, rules, length}
use Rattle.ival.specs.declared.ends.Ival.TheVariants.{Empty}
use Rattle.ival.specs.Views.{interval_of}
use Rattle.ival.specs.RowViews.{marks_of}
use Rattle.ival.proofs.Lists.{map_replicate}
use Rattle.ival.proofs.MarkWords.{no_marks}
use Rattle.ival.proofs.row_parts.Rows.new.Goals as goal

pub returns-clause-rows : goal.returns-clause-rows
returns-clause-rows c =
    let e : c.in_ok-intervals.intervals.items ≡ replicate c.args.count Empty = search rules in
    ap (map interval_of) e ∙ map_replicate interval_of Empty c.args.count

pub returns-clause-marks : goal.returns-clause-marks
unfolding marks_of
returns-clause-marks c =
    let count : length c.in_ok-intervals.intervals.items ≡ c.args.count = search rules in
    let words : c.in_ok-words.words.items ≡ replicate (c.args.count / 64 + 1) 0 = search rules in
    no_marks c.in_ok-words.words.items (length c.in_ok-intervals.intervals.items) c.args.count (c.args.count / 64 + 1) count words
