use Rattle.std.proofs.Common.{◌≡◌, ℕ, ◌<◌, ◌∙◌, length, get_or, true, below_more, ap, arith}
use Rattle.ival.specs.RowViews.{marks_of, is_marked}
use Rattle.ival.proofs.MarkWords.{length_marks}
use Rattle.plain_eval.proofs.Upwards.{marked_more}
use Rattle.plain_eval.proofs.following.mark_all.Goals as goal

pub loop-place-preserved : goal.loop-place-preserved
loop-place-preserved c =
    let rows = c.loop-place.rows in let new = c.mark.new.self in let i = c.loop-place.place-index in let x : ℕ = get_or c.args.places.now i 0 in
    let inside : x < length (marks_of rows) = omega (arith, c.requires i 0 c.loop-place-test.true, ap length c.loop-place.invariant.rows, length_marks rows) in
    let more = marked_more (marks_of rows) (marks_of new) x c.mark.ensures.marks inside in
    record {
      rows = c.mark.ensures.rows ∙ c.loop-place.invariant.rows;
      others = λ k h. c.loop-place.invariant.others k (more.0 k h);
      all = below_more (λ j. is_marked (marks_of new) (get_or c.args.places.now j 0) ≡ true) i (λ j h. more.2 (get_or c.args.places.now j 0) (c.loop-place.invariant.all j h)) more.1;
    }
