use Rattle.std.proofs.Common.{◌≡◌, ◌<◌, List, set, length, Some, ap, sym, ◌∙◌, arith}
use Rattle.interval_model.specs.Interval.{Interval, met}
use Rattle.ival.specs.declared.ends.Ival.{Ival}
use Rattle.ival.specs.Views.{interval_of}
use Rattle.ival.specs.RowViews.{rows_of}
use Rattle.ival.proofs.Optional.{set_option, no_option, has_option}
use Rattle.hc4.specs.Pushed.{pushed}
use Rattle.hc4.proofs.push.push_to.Goals as goal
use Rattle.hc4.proofs.push.push_to.Goals.{then-marked, else-marked}

pub returns-clause-at : goal.returns-clause-at
returns-clause-at c =
    let old = c.args.scratch.now in let new = c.set.new.self in let s = c.args.s in let es = rows_of c.args.rows.now in let left = interval_of c.args.left in
    let inside : s < length (rows_of old) = omega (arith, c.requires.rows, c.requires.scratch) in
    let rows : rows_of new ≡ set (rows_of old) s (interval_of c.meet.result) = c.set.ensures.rows ∙ ap (λ (xs : List Interval). set xs s (interval_of c.meet.result)) c.mark.ensures.rows in
    let put = set_option old new s (interval_of c.meet.result) inside rows (c.set.ensures.marks ∙ c.mark.ensures.marks) in
    put.0 ∙ ap (λ (i : Interval). Some i) c.meet.ensures ∙ elim c.if-marked.branch [
      | then-marked w ↦ ap (λ (i : Ival). Some (met (interval_of i) left)) w.own-is ∙ ap (λ (i : Interval). Some (met i left)) w.get-own.ensures
          ∙ ap (pushed es s left) (sym (has_option old s (sym w.if-marked.ensures)))
      | else-marked w ↦ ap (λ (i : Ival). Some (met (interval_of i) left)) w.own-is ∙ ap (λ (i : Interval). Some (met i left)) w.get-own-else-marked.ensures
          ∙ ap (pushed es s left) (sym (no_option old s (sym w.if-marked.ensures)))
    ]

pub returns-clause-others : goal.returns-clause-others
returns-clause-others c =
    let old = c.args.scratch.now in let new = c.set.new.self in let s = c.args.s in
    let inside : s < length (rows_of old) = omega (arith, c.requires.rows, c.requires.scratch) in
    let rows : rows_of new ≡ set (rows_of old) s (interval_of c.meet.result) = c.set.ensures.rows ∙ ap (λ (xs : List Interval). set xs s (interval_of c.meet.result)) c.mark.ensures.rows in
    (set_option old new s (interval_of c.meet.result) inside rows (c.set.ensures.marks ∙ c.mark.ensures.marks)).1
