use Rattle.std.proofs.Common.{◌≡◌, ℕ, ◌+◌, ◌*◌, ◌/◌, ◌<◌, ◌∙◌, length, get_or, ap, inl, inr, arith}
use Rattle.std.proofs.lemmas.Bool.{cases_lt}
use Rattle.std.proofs.lemmas.List.{length-map}
use Rattle.std.specs.Int.{bit_at}
use Rattle.ival.specs.Views.{interval_of}
use Rattle.ival.specs.RowViews.{rows_of, marks_of}
use Rattle.ival.proofs.MarkWords.{read_zero, above_here, above_in, none_after, none_in, next_above, past_end}
use Rattle.ival.proofs.row_parts.Rows.next_marked_above.Goals as goal

pub returns-then-word-ne0 : goal.returns-then-word-ne0
unfolding marks_of
returns-then-word-ne0 c =
    let r = c.args.self.now in let place = c.args.place in let words = r.words.items in
    let count = length-map r.intervals.items interval_of in
    let inside : (place + 1) / 64 < length words = omega (arith, c.requires, count, r.enough) in
    let read : c.index.result.now ≡ get_or words ((place + 1) / 64) 0 = read_zero words ((place + 1) / 64) c.index.result.now inside c.index.ensures in
    next_above words (length r.intervals.items) (length (rows_of r)) place ((place + 1) / 64 * 64 + c.lowest_bit.result) c.within.result count
    (above_here words (length r.intervals.items) place c.bits_from-word.result c.lowest_bit.result c.lowest_bit.ensures.within
    (λ i h l. c.bits_from-word.ensures.kept i h l ∙ ap (λ (x : ℕ). bit_at x i) read) c.bits_from-word.ensures.cleared c.lowest_bit.ensures.set c.lowest_bit.ensures.below)
    c.within.ensures

pub loop-at-init : goal.loop-at-init
unfolding marks_of
loop-at-init c =
    let r = c.args.self.now in let place = c.args.place in let words = r.words.items in
    let inside : (place + 1) / 64 < length words = omega (arith, c.requires, length-map r.intervals.items interval_of, r.enough) in
    let read : c.index.result.now ≡ get_or words ((place + 1) / 64) 0 = read_zero words ((place + 1) / 64) c.index.result.now inside c.index.ensures in
    none_after words (length r.intervals.items) place c.bits_from-word.result c.if-word-ne0.false (λ i h l. c.bits_from-word.ensures.kept i h l ∙ ap (λ (x : ℕ). bit_at x i) read)

pub loop-at-preserved : goal.loop-at-preserved
unfolding marks_of
loop-at-preserved c k l h =
    let r = c.args.self.now in let words = r.words.items in let at : ℕ = c.loop-at.at in
    let inside : at < length words = omega (arith, c.loop-at-test.true, c.len-at-end.ensures) in
    let read : c.index-word.result.now ≡ get_or words at 0 = read_zero words at c.index-word.result.now inside c.index-word.ensures in
    elim (cases_lt k (at * 64)) [
      | inl before ↦ c.loop-at.invariant k l before
      | inr here ↦ none_in words (length r.intervals.items) at c.index-word.result.now read c.if-word-ne0-2.false k here h
    ]

pub returns-then-word-ne0-2 : goal.returns-then-word-ne0-2
unfolding marks_of
returns-then-word-ne0-2 c =
    let r = c.args.self.now in let place = c.args.place in let words = r.words.items in let at : ℕ = c.loop-at.at in let w : ℕ = c.index-word.result.now in
    let inside : at < length words = omega (arith, c.loop-at-test.true, c.len-at-end.ensures) in
    let read : w ≡ get_or words at 0 = read_zero words at w inside c.index-word.ensures in
    let low = c.lowest_bit-then-word-ne0-2 in
    next_above words (length r.intervals.items) (length (rows_of r)) place (at * 64 + low.result) c.within-then-word-ne0-2.result (length-map r.intervals.items interval_of)
    (above_in words (length r.intervals.items) place at w low.result (omega (arith, c.loop-at.auto.at)) low.ensures.within read c.loop-at.invariant low.ensures.set low.ensures.below)
    c.within-then-word-ne0-2.ensures

pub returns : goal.returns
unfolding marks_of
returns c k h =
    let r = c.args.self.now in
    elim (cases_lt k (c.loop-at.at * 64)) [
      | inl before ↦ c.loop-at.invariant k h before
      | inr past ↦ past_end (length r.intervals.items) k r.words.items (omega (arith, past, c.loop-at-test.false, c.len-at-end.ensures, r.enough))
    ]
