use Rattle.std.proofs.Common.{◌++◌, ap, sym, ◌∙◌}
use Rattle.std.specs.Prelude.{decimal}
use Rattle.cert_join.proofs.RuleWords.{front_ends, its_number, number_counts, decimal_lacks}
use Rattle.cert_join.proofs.line.last_number.Goals as goal

pub returns : goal.returns
returns c r i e s h =
    let f = front_ends r i h in
    let below = number_counts r i h s in
    let cut = c.last_word.ensures f.0 (decimal i) (e ∙ its_number r i h ∙ ap (λ xs. xs ++ decimal i) f.1) (decimal_lacks i below) in
    (cut.0 ∙ sym f.1, c.number_of.ensures.found i below cut.1)
