use Rattle.std.proofs.Common.{ℕ, ap}
use Rattle.std.proofs.lemmas.List.{map-set, length-set}
use Rattle.ival.specs.Views.{interval_of}
use Rattle.ival.specs.RowViews.{marks_of}
use Rattle.ival.proofs.MarkWords.{marks_in}
use Rattle.ival.proofs.row_parts.Rows.set.Goals as goal

pub returns-clause-rows : goal.returns-clause-rows
returns-clause-rows c = map-set interval_of c.args.self.now.intervals.items c.args.place c.args.interval

pub returns-clause-marks : goal.returns-clause-marks
unfolding marks_of
returns-clause-marks c = let r = c.args.self.now in ap (λ (n : ℕ). marks_in n r.words.items) (length-set r.intervals.items c.args.place c.args.interval)
