use Rattle.std.proofs.Common.{◌∷◌, [], ◌<◌, ℕ, length, arith}
use Rattle.std.specs.Prelude.{decimal}
use Rattle.std.proofs.lemmas.List.{get_or_default}
use Rattle.cert_read.specs.LineText.{IsCount}
use Rattle.cert_text.proofs.Words.{item_words, items_words, same_words, singles, count_word, all_more, all_of}
use Rattle.cert_text.proofs.squares.append_each.Goals as goal

pub loop-number-preserved : goal.loop-number-preserved
loop-number-preserved c =
    let i = c.loop-number.number-index in
    let h : i < length c.args.numbers.now = omega (arith, c.loop-number-test.true) in
    record {
      words = item_words (λ (n : ℕ). decimal n ∷ []) c.args.numbers.now c.args.text.now.items c.loop-number.text.items c.append_word_and_count.new.text.items i _ h (get_or_default c.args.numbers.now i _ _ h) c.loop-number.invariant.words
          (count_word _ _ _ c.append_word_and_count.ensures.count c.in_ok-append_word_and_count.ensures.text);
      counts = all_more IsCount c.args.numbers.now i _ h (get_or_default c.args.numbers.now i _ _ h) c.loop-number.invariant.counts c.append_word_and_count.ensures.count;
    }

pub returns-clause-words : goal.returns-clause-words
returns-clause-words c =
    same_words _ _ _ _ (singles decimal c.args.numbers.now)
    (items_words (λ (n : ℕ). decimal n ∷ []) c.args.numbers.now c.args.text.now.items c.loop-number.text.items c.loop-number.number-index (omega (arith, c.loop-number-test.false)) c.loop-number.invariant.words)

pub returns-clause-counts : goal.returns-clause-counts
returns-clause-counts c = all_of IsCount c.args.numbers.now c.loop-number.number-index (omega (arith, c.loop-number-test.false)) c.loop-number.invariant.counts
