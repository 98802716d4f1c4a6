use Rattle.std.proofs.Common.{◌≡◌, List, set, Some, true, ap, sym, ◌∙◌, get_or-set_other}
use Rattle.std.specs.Prelude.{Bool}
use Rattle.interval_model.specs.Interval.{Interval, nothing, is_nothing, interval_sum}
use Rattle.cover_model.specs.Combination.{left_to}
use Rattle.cover_model.specs.NodeEnclosure.{row}
use Rattle.ival.specs.Views.{interval_of}
use Rattle.ival.specs.RowViews.{rows_of, marks_of}
use Rattle.ival.specs.SpaceViews.{space_of}
use Rattle.ival.proofs.Optional.{set_option}
use Rattle.plain_eval.specs.Parts.{left_to_part, option_part, part_of}
use Rattle.plain_eval.proofs.parts.leave_to.Goals as goal

pub returns-clause-put : goal.returns-clause-put
returns-clause-put c =
    let old = c.args.left.now in let new = c.mark.new.self in let k = c.args.place in let i = interval_of c.left-interval.result in
    let space = space_of c.args.space.now in let centre = space_of c.args.centre.now in let allowed = interval_of c.args.allowed in let x = c.in-Some.part in
    let others : interval_of c.add-others.result ≡ interval_sum (interval_of c.args.before) (row (rows_of old) k) =
    c.add-others.ensures ∙ ap (λ (j : Interval). interval_sum (interval_of c.args.before) j) c.get.ensures in
    let is : i ≡ left_to space centre allowed (interval_sum (interval_of c.args.before) (row (rows_of old) k)) (part_of x) =
    c.left-interval.ensures ∙ ap (λ (j : Interval). left_to space centre allowed j (part_of x)) others in
    let part : left_to_part space centre allowed (interval_of c.args.before) (row (rows_of old) k) (option_part c.args.part) ≡ Some i = rw c.in-Some.is (ap (λ (j : Interval). Some j) (sym is)) in
    let marks : marks_of new ≡ set (marks_of old) k true = c.mark.ensures.marks ∙ ap (λ (ms : List Bool). set ms k true) c.set.ensures.marks in
    let rows : rows_of new ≡ set (rows_of old) k i = c.mark.ensures.rows ∙ c.set.ensures.rows in
    let put = set_option old new k i c.requires.place rows marks in (
      record {
        at = put.0 ∙ sym part;
        others = put.1;
        rows = λ j o. ap (λ (is : List Interval). row is j) rows ∙ get_or-set_other (rows_of old) k j i nothing o;
      },
      λ e. let same : Some i ≡ Some nothing = sym part ∙ e in let empty : i ≡ nothing = cc in let t = ap is_nothing empty in let f = c.if-is_empty.ensures in cc,
    )
