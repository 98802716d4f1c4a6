use Rattle.std.proofs.Common.{◌≡◌, ℕ, ◌-◌, ◌*◌, ◌/◌, ◌<◌, ◌≤◌, ◌∙◌, length, get_or, ap, inl, inr, arith}
use Rattle.std.proofs.lemmas.Bool.{cases_lt}
use Rattle.std.proofs.lemmas.List.{length-map}
use Rattle.std.specs.Int.{bit_at}
use Rattle.ival.specs.Views.{interval_of}
use Rattle.ival.specs.RowViews.{marks_of}
use Rattle.ival.proofs.MarkWords.{read_zero, below_here, below_in, none_here, none_in}
use Rattle.ival.proofs.row_parts.Rows.next_marked_below.Goals as goal

pub returns-then-word-ne0 : goal.returns-then-word-ne0
unfolding marks_of
returns-then-word-ne0 c =
    let r = c.args.self.now in let place = c.args.place in let words = r.words.items in
    let count : place ≤ length r.intervals.items = omega (arith, c.requires, length-map r.intervals.items interval_of) in
    let inside : place / 64 < length words = omega (arith, count, r.enough) in
    let read : c.index.result.now ≡ get_or words (place / 64) 0 = read_zero words (place / 64) c.index.result.now inside c.index.ensures in
    below_here words (length r.intervals.items) place c.bits_below-word.result c.highest_bit.result count c.highest_bit.ensures.within
    (λ i h. c.bits_below-word.ensures.kept i h ∙ ap (λ (x : ℕ). bit_at x i) read) c.bits_below-word.ensures.cleared c.highest_bit.ensures.set c.highest_bit.ensures.above

pub loop-at-init : goal.loop-at-init
unfolding marks_of
loop-at-init c =
    let r = c.args.self.now in let place = c.args.place in let words = r.words.items in
    let inside : place / 64 < length words = omega (arith, c.requires, length-map r.intervals.items interval_of, r.enough) in
    let read : c.index.result.now ≡ get_or words (place / 64) 0 = read_zero words (place / 64) c.index.result.now inside c.index.ensures in
    none_here words (length r.intervals.items) place c.bits_below-word.result c.if-word-ne0.false (λ i h. c.bits_below-word.ensures.kept i h ∙ ap (λ (x : ℕ). bit_at x i) read)

pub loop-at-preserved : goal.loop-at-preserved
unfolding marks_of
loop-at-preserved c k l h =
    let r = c.args.self.now in let words = r.words.items in let at : ℕ = c.loop-at.at - 1 in
    let inside : at < length words = omega (arith, c.requires, length-map r.intervals.items interval_of, r.enough, c.loop-at.auto.at) in
    let read : c.index-word.result.now ≡ get_or words at 0 = read_zero words at c.index-word.result.now inside c.index-word.ensures in
    elim (cases_lt k (c.loop-at.at * 64)) [
      | inl here ↦ none_in words (length r.intervals.items) at c.index-word.result.now read c.if-word-ne0-2.false k l (omega (arith, here, c.loop-at-test.true))
      | inr later ↦ c.loop-at.invariant k later h
    ]

pub returns-then-word-ne0-2 : goal.returns-then-word-ne0-2
unfolding marks_of
returns-then-word-ne0-2 c =
    let r = c.args.self.now in let place = c.args.place in let words = r.words.items in let at : ℕ = c.loop-at.at - 1 in let w : ℕ = c.index-word.result.now in
    let count : place ≤ length r.intervals.items = omega (arith, c.requires, length-map r.intervals.items interval_of) in
    let early : at < place / 64 = omega (arith, c.loop-at.auto.at, c.loop-at-test.true) in
    let inside : at < length words = omega (arith, count, r.enough, early) in
    let read : w ≡ get_or words at 0 = read_zero words at w inside c.index-word.ensures in
    let top = c.highest_bit-then-word-ne0-2 in
    below_in words (length r.intervals.items) place at w top.result count early top.ensures.within read
    (λ k l h. c.loop-at.invariant k (omega (arith, l, c.loop-at-test.true)) h) top.ensures.set top.ensures.above

pub returns : goal.returns
unfolding marks_of
returns c k h = c.loop-at.invariant k (omega (arith, c.loop-at-test.false)) h
