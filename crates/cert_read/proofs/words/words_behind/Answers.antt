use Rattle.std.proofs.Common.{◌≡◌, ◌∷◌, ℕ, List, Option, Bor, option_copied, ap, ◌∙◌}
use Rattle.cert_read.specs.Lines.{words_of}
use Rattle.cert_read.specs.Words.{words_behind}
use Rattle.cert_read.proofs.Parts.{split_some}
use Rattle.cert_read.proofs.words.words_behind.Goals as goal

pub returns-in-Some-rest-2 : goal.returns-in-Some-rest-2
returns-in-Some-rest-2 c =
    let first = c.cut.result.0.now in
    let second = c.cut-2.result.0.now in
    let s = split_some 32 c.in-Some-rest-2.field-0.now in
    let e : words_of c.in-Some.text.now ≡ first ∷ words_of c.in-Some-rest.text.now = rw c.in-Some-rest.is at c.cut.ensures.words in
    let f : words_of c.in-Some-rest.text.now ≡ second ∷ words_of c.in-Some-rest-2.field-0.now = rw c.in-Some-rest-2.is at c.cut-2.ensures.words in (
      first,
      second,
      s.0,
      s.1,
      ap (λ (o : Option (Bor (List ℕ))). words_behind (option_copied o)) c.in-Some.is ∙ e
          ∙ ap (λ (ws : List (List ℕ)). first ∷ ws) (f ∙ ap (λ (ws : List (List ℕ)). second ∷ ws) s.2),
    )
