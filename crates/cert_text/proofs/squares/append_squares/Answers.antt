use Rattle.std.proofs.Common.{◌∷◌, [], ℕ, ap, sym}
use Rattle.std.specs.Prelude.{decimal}
use Rattle.std.proofs.lemmas.List.{length-map}
use Rattle.cert_text.proofs.Words.{same_words}
use Rattle.cover_line.specs.Views.{multipliers_of}
use Rattle.cert_text.proofs.SquareWords.{both_ok, square_operands}
use Rattle.cert_text.proofs.squares.append_squares.Goals as goal

pub returns : goal.returns
returns c =
    both_ok c.append_blocks.result
    (λ w k. square_operands (multipliers_of c.args.pairs.now) c.args.blocks.now _ _ _ _ (same_words _ _ _ _ (ap (λ (n : ℕ). decimal n ∷ []) (sym (length-map c.args.pairs.now _))) c.in_ok-append_size.ensures) c.in_ok-append_pairs.ensures w k)
    c.append_blocks.ensures.words c.append_blocks.ensures.counts
