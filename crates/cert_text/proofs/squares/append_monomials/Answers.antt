use Rattle.std.proofs.Common.{◌≡◌, ℕ, List, length, ◌∷◌, [], map, ap, subst, arith}
use Rattle.std.specs.Prelude.{decimal, Vec}
use Rattle.std.specs.Global.{Global}
use Rattle.std.specs.List.{AllByRecursion}
use Rattle.cover_line.specs.Views.{axes_of}
use Rattle.cert_read.specs.LineText.{IsCount}
use Rattle.cert_text.proofs.Words.{item_words, items_words, same_words, both_words, all_more, all_of, all_mapped}
use Rattle.cert_text.proofs.SquareWords.{axes_words, monomials_flat}
use Rattle.cert_text.proofs.squares.append_monomials.Goals as goal

pub loop-axes-preserved : goal.loop-axes-preserved
loop-axes-preserved c = record {
  words = item_words axes_words c.args.monomials.now c.args.text.now.items c.loop-axes.text.items c.append_each.new.text.items c.loop-axes.axes-index c.axes-item.result
      (omega (arith, c.loop-axes-test.true)) c.axes-item.is c.loop-axes.invariant.words
      (both_words _ _ _ _ _ (same_words _ _ _ _ (ap (λ (n : ℕ). decimal n ∷ []) (let many : c.len.result ≡ length c.axes-item.result.items = omega (arith, c.len.ensures, c.deref.ensures.len, ap length c.deref.ensures.value) in many)) c.in_ok-append_size.ensures)
      (same_words _ _ _ _ (ap (λ (xs : List ℕ). map decimal xs) c.deref.ensures.value) c.in_ok-append_each.ensures.words));
  counts = all_more (λ (v : Vec ℕ Global). AllByRecursion IsCount v.items) c.args.monomials.now c.loop-axes.axes-index c.axes-item.result
      (omega (arith, c.loop-axes-test.true)) c.axes-item.is c.loop-axes.invariant.counts (subst (λ (xs : List ℕ). AllByRecursion IsCount xs) c.deref.ensures.value c.in_ok-append_each.ensures.counts);
}

pub returns-clause-words : goal.returns-clause-words
returns-clause-words c =
    same_words _ _ _ _ (monomials_flat c.args.monomials.now)
    (items_words axes_words c.args.monomials.now c.args.text.now.items c.loop-axes.text.items c.loop-axes.axes-index (omega (arith, c.loop-axes-test.false)) c.loop-axes.invariant.words)

pub returns-clause-counts : goal.returns-clause-counts
returns-clause-counts c =
    all_mapped (AllByRecursion IsCount) axes_of c.args.monomials.now
    (all_of (λ (v : Vec ℕ Global). AllByRecursion IsCount v.items) c.args.monomials.now c.loop-axes.axes-index (omega (arith, c.loop-axes-test.false)) c.loop-axes.invariant.counts)
