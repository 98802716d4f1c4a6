use Rattle.std.proofs.Common.{◌≡◌, ◌<◌, List, Bool, set, length, true, Some, ap, sym, ◌∙◌, arith}
use Rattle.interval_model.specs.Interval.{Interval, met}
use Rattle.ival.specs.declared.ends.Ival.{Ival}
use Rattle.ival.specs.Views.{interval_of}
use Rattle.ival.specs.RowViews.{rows_of, marks_of}
use Rattle.ival.proofs.Optional.{set_option, no_option, has_option}
use Rattle.plain_eval.specs.Leaving.{left_more}
use Rattle.plain_eval.proofs.left.leave.Goals as goal
use Rattle.plain_eval.proofs.left.leave.Goals.{then-marked, else-marked}

pub returns-clause-at : goal.returns-clause-at
returns-clause-at c =
    let old = c.args.scratch.now in let new = c.mark.new.self in let s = c.args.s in let es = rows_of c.args.rows.now in let interval = interval_of c.args.interval in
    let inside : s < length (rows_of old) = omega (arith, c.requires.rows, c.requires.scratch) in
    let marks : marks_of new ≡ set (marks_of old) s true = c.mark.ensures.marks ∙ ap (λ (ms : List Bool). set ms s true) c.set.ensures.marks in
    let put = set_option old new s (interval_of c.meet.result) inside (c.mark.ensures.rows ∙ c.set.ensures.rows) marks in
    put.0 ∙ ap (λ (i : Interval). Some i) c.meet.ensures ∙ elim c.if-marked.branch [
      | then-marked w ↦ ap (λ (i : Ival). Some (met (interval_of i) interval)) w.before-is ∙ ap (λ (i : Interval). Some (met i interval)) w.get-before.ensures
          ∙ ap (left_more es s interval) (sym (has_option old s (sym w.if-marked.ensures)))
      | else-marked w ↦ ap (λ (i : Ival). Some (met (interval_of i) interval)) w.before-is ∙ ap (λ (i : Interval). Some (met i interval)) w.get-before-else-marked.ensures
          ∙ ap (left_more es s interval) (sym (no_option old s (sym w.if-marked.ensures)))
    ]

pub returns-clause-others : goal.returns-clause-others
returns-clause-others c =
    let old = c.args.scratch.now in let new = c.mark.new.self in let s = c.args.s in
    let inside : s < length (rows_of old) = omega (arith, c.requires.rows, c.requires.scratch) in
    let marks : marks_of new ≡ set (marks_of old) s true = c.mark.ensures.marks ∙ ap (λ (ms : List Bool). set ms s true) c.set.ensures.marks in
    (set_option old new s (interval_of c.meet.result) inside (c.mark.ensures.rows ∙ c.set.ensures.rows) marks).1
