use Rattle.std.proofs.Common.{◌≡◌, ℕ, ◌/◌, ◌<◌, ◌∙◌, length, get_or, false, refl, ap, arith}
use Rattle.std.proofs.lemmas.List.{length-map}
use Rattle.std.specs.Int.{bit_at}
use Rattle.ival.specs.Views.{interval_of}
use Rattle.ival.specs.RowViews.{marks_of}
use Rattle.ival.proofs.MarkWords.{changed_marks, read_zero}
use Rattle.ival.proofs.row_parts.Rows.unmark.Goals as goal

pub returns-clause-marks : goal.returns-clause-marks
unfolding marks_of
returns-clause-marks c =
    let r = c.args.self.now in let place = c.args.place in
    let inside : place / 64 < length r.words.items = omega (arith, c.requires, length-map r.intervals.items interval_of, r.enough) in
    let read : c.index.result.now ≡ get_or r.words.items (place / 64) 0 = read_zero r.words.items (place / 64) c.index.result.now inside c.index.ensures in
    changed_marks r.words.items place c.without_bit.result inside (length r.intervals.items) 0 false c.without_bit.ensures.clear refl
    (λ i l o. c.without_bit.ensures.others i l o ∙ ap (λ (x : ℕ). bit_at x i) read)
