use Rattle.std.proofs.Common.{◌≡◌, ◌∷◌, [], ℕ, List, length, arith, map, ap, sym, ◌∙◌}
use Rattle.std.specs.Prelude.{decimal, Vec}
use Rattle.std.specs.Global.{Global}
use Rattle.std.proofs.lemmas.List.{length-map}
use Rattle.std.proofs.lemmas.Result.{on_ok_weaker}
use Rattle.dyadic.specs.declared.dy.Dy.{Dy}
use Rattle.cover_line.specs.Views.{axes_of, numbers_of}
use Rattle.cert_read.specs.LineText.{monomial_words, row_words}
use Rattle.cert_text.proofs.Words.{same_words}
use Rattle.cert_text.proofs.SquareWords.{block_has}
use Rattle.cert_text.proofs.squares.append_block.Goals as goal

pub returns-clause-words : goal.returns-clause-words
returns-clause-words c =
    let many : c.len.result ≡ length c.args.block.now.monomials.items = omega (arith, c.len.ensures, c.deref.ensures.len, ap length c.deref.ensures.value) in
    on_ok_weaker c.append_rows.result
    (λ h. block_has c.args.block.now _ _ _ _ _ c.in_ok-append_factor.ensures.words
    (same_words _ _ _ _ (ap (λ (n : ℕ). decimal n ∷ []) (many ∙ sym (length-map c.args.block.now.monomials.items axes_of))) c.in_ok-append_size.ensures)
    (same_words _ _ _ _ (ap (λ (ms : List (Vec ℕ Global)). monomial_words (map axes_of ms)) c.deref.ensures.value) c.in_ok-append_monomials.ensures.words)
    (same_words _ _ _ _ (ap (λ (rs : List (Vec Dy Global)). row_words (map numbers_of rs)) c.deref-2.ensures.value) h))
    c.append_rows.ensures
