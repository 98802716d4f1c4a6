use Rattle.std.proofs.Common.{◌≡◌, ℕ, ◌/◌, ◌%◌, ◌<◌, ◌∙◌, length, get_or, nat_eq, ap, sym, arith}
use Rattle.std.proofs.lemmas.List.{length-map}
use Rattle.std.specs.Int.{bit_at}
use Rattle.ival.specs.Views.{interval_of}
use Rattle.ival.specs.RowViews.{marks_of}
use Rattle.ival.proofs.MarkWords.{marked_at, read_zero}
use Rattle.ival.proofs.row_parts.Rows.marked.Goals as goal

pub returns : goal.returns
unfolding marks_of
returns c =
    let r = c.args.self.now in let place = c.args.place in
    let count : place < length r.intervals.items = omega (arith, c.requires, length-map r.intervals.items interval_of) in
    let inside : place / 64 < length r.words.items = omega (arith, count, r.enough) in
    let read : c.index.result.now ≡ get_or r.words.items (place / 64) 0 = read_zero r.words.items (place / 64) c.index.result.now inside c.index.ensures in
    c.has_bit.ensures ∙ ap (λ (x : ℕ). nat_eq (bit_at x (place % 64)) 1) read ∙ sym (marked_at r.words.items (length r.intervals.items) place count)
