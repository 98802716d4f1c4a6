use Rattle.std.proofs.Common.{◌≡◌, ◌<◌, List, Bool, set, length, true, Some, ap, sym, ◌∙◌, arith}
use Rattle.interval_model.specs.Interval.{Interval}
use Rattle.ival.specs.Views.{interval_of}
use Rattle.ival.specs.RowViews.{rows_of, marks_of}
use Rattle.ival.proofs.Optional.{set_option, no_option, has_option}
use Rattle.plain_eval.specs.Leaving.{left_all}
use Rattle.plain_eval.proofs.left.leave_all.Goals as goal

pub returns-then-marked-clause-at : goal.returns-then-marked-clause-at
returns-then-marked-clause-at c =
    let old = c.args.scratch.now in let s = c.args.s in let es = rows_of c.args.rows.now in
    let here = has_option old s (sym c.if-marked.ensures) in
    here ∙ ap (left_all es s) (sym here)

pub returns-clause-at : goal.returns-clause-at
returns-clause-at c =
    let old = c.args.scratch.now in let new = c.mark.new.self in let s = c.args.s in let es = rows_of c.args.rows.now in
    let inside : s < length (rows_of old) = omega (arith, c.requires.rows, c.requires.scratch) in
    let marks : marks_of new ≡ set (marks_of old) s true = c.mark.ensures.marks ∙ ap (λ (ms : List Bool). set ms s true) c.set.ensures.marks in
    let put = set_option old new s (interval_of c.get.result) inside (c.mark.ensures.rows ∙ c.set.ensures.rows) marks in
    put.0 ∙ ap (λ (i : Interval). Some i) c.get.ensures ∙ ap (left_all es s) (sym (no_option old s (sym c.if-marked.ensures)))

pub returns-clause-others : goal.returns-clause-others
returns-clause-others c =
    let old = c.args.scratch.now in let new = c.mark.new.self in let s = c.args.s in
    let inside : s < length (rows_of old) = omega (arith, c.requires.rows, c.requires.scratch) in
    let marks : marks_of new ≡ set (marks_of old) s true = c.mark.ensures.marks ∙ ap (λ (ms : List Bool). set ms s true) c.set.ensures.marks in
    (set_option old new s (interval_of c.get.result) inside (c.mark.ensures.rows ∙ c.set.ensures.rows) marks).1
