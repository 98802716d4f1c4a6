use Rattle.std.proofs.Common.{◌∙◌, ◌++◌, ℕ, List, ap, arith}
use Rattle.std.proofs.lemmas.Result.{on_ok_weaker}
use Rattle.cert_text.proofs.Words.{size_word, on_ok_if}
use Rattle.cert_text.proofs.squares.append_size.Goals as goal

pub returns : goal.returns
returns c =
    let a = c.extend_from_slice.new.self.items in
    on_ok_weaker c.extend_from_slice-2.result
    (λ e. size_word c.args.size _ _ _ (omega (arith, c.ranges.size.fits)) c.in_ok-extend_from_slice.ensures.items (e ∙ ap (λ (t : List ℕ). a ++ t) (c.as_bytes.ensures.value ∙ c.format.ensures.text)))
    (on_ok_if c.extend_from_slice-2.result c.extend_from_slice-2.new.self.items (a ++ c.as_bytes.result.now) a c.extend_from_slice-2.ensures.items)
