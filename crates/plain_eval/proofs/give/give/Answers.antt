use Rattle.std.proofs.Common.{◌≡◌, set, Some, ap, ◌∙◌, true}
use Rattle.interval_model.specs.Interval.{Interval}
use Rattle.std.specs.Prelude.{Option, Bool, List}
use Rattle.cover_model.specs.Combination.{joined}
use Rattle.ival.specs.Views.{interval_of}
use Rattle.ival.specs.RowViews.{marks_of}
use Rattle.ival.specs.Options.{option_at}
use Rattle.ival.proofs.Optional.{set_option}
use Rattle.plain_eval.proofs.Giving.{handed_is}
use Rattle.plain_eval.proofs.give.give.Goals as goal

pub returns-clause-all : goal.returns-clause-all
returns-clause-all c =
    let old = c.args.rows.now in let new = c.mark.new.self in let a = c.args.node in let i = interval_of c.args.more in let sum = interval_of c.joined-sum.result in
    let marks : marks_of new ≡ set (marks_of old) a true = c.mark.ensures.marks ∙ ap (λ (ms : List Bool). set ms a true) c.set.ensures.marks in
    let put = set_option old new a sum c.requires (c.mark.ensures.rows ∙ c.set.ensures.rows) marks in
    handed_is (option_at old) (option_at new) a i
    (put.0 ∙ ap (λ (j : Interval). Some j) (c.joined-sum.ensures ∙ ap (λ (o : Option Interval). joined o i) c.entry.ensures)) put.1
