use Rattle.std.proofs.Common.{ap, ◌∙◌}
use Rattle.cover_line.specs.Views.{axes_of}
use Rattle.ival.specs.Views.{interval_of}
use Rattle.square_model.specs.Polynomial as model
use Rattle.square_model.specs.Polynomial.{polynomial_sum}
use Rattle.squares.specs.Views.{terms_of}
use Rattle.squares.proofs.Copying.{given_to_nothing}
use Rattle.squares.proofs.polynomial.Polynomial.sum.Goals as goal

pub returns : goal.returns
returns c = let own = terms_of c.args.self.now in let other = terms_of c.args.other.now in
    c.in_ok-add-2.ensures
    ∙ ap (λ (p : model.Polynomial). polynomial_sum p other)
    (c.in_ok-add.ensures ∙ ap (λ (p : model.Polynomial). polynomial_sum p own) c.new-sum.ensures ∙ given_to_nothing axes_of interval_of c.args.self.now.terms.entries c.ascends.ensures)
