use Rattle.std.proofs.Common.{◌≡◌, ◌<◌, List, set, length, Some, ap, sym, ◌∙◌}
use Rattle.interval_model.specs.Interval.{Interval, interval_sum}
use Rattle.cover_model.specs.Combination.{joined}
use Rattle.ival.specs.Views.{interval_of}
use Rattle.ival.specs.RowViews.{rows_of}
use Rattle.ival.specs.Options.{option_at}
use Rattle.ival.proofs.Optional.{set_option, no_option, has_option}
use Rattle.std.specs.Prelude.{Option}
use Rattle.combine.proofs.Handing.{handed_at}
use Rattle.combine.proofs.hand.hand.Goals as goal
use Rattle.combine.proofs.hand.hand.Goals.{then-marked, else-marked}

pub returns-clause-all : goal.returns-clause-all
returns-clause-all c =
    let old = c.args.into.now in let new = c.set.new.self in let a = c.args.a in let i = interval_of c.args.coefficient in
    let inside : a < length (rows_of old) = c.requires in
    let sum : interval_of c.if-marked.sum ≡ joined (option_at old a) i = elim c.if-marked.branch [
      | then-marked w ↦ ap interval_of w.sum-is ∙ w.add-sum.ensures ∙ ap (λ (j : Interval). interval_sum j i) w.get.ensures
          ∙ ap (λ (o : Option Interval). joined o i) (sym (has_option old a (sym w.if-marked.ensures)))
      | else-marked w ↦ ap interval_of w.sum-is ∙ ap (λ (o : Option Interval). joined o i) (sym (no_option old a (sym w.if-marked.ensures)))
    ] in
    let rows : rows_of new ≡ set (rows_of old) a (interval_of c.if-marked.sum) = c.set.ensures.rows ∙ ap (λ (xs : List Interval). set xs a (interval_of c.if-marked.sum)) c.mark.ensures.rows in
    let put = set_option old new a (interval_of c.if-marked.sum) inside rows (c.set.ensures.marks ∙ c.mark.ensures.marks) in
    handed_at (option_at old) (option_at new) a i (put.0 ∙ ap (λ (j : Interval). Some j) sum) put.1
