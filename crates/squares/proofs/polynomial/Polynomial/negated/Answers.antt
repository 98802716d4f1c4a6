use Rattle.std.proofs.Common.{ap, ◌∙◌}
use Rattle.cover_line.specs.Views.{axes_of}
use Rattle.ival.specs.Views.{interval_of}
use Rattle.square_model.specs.Polynomial as model
use Rattle.square_model.specs.Polynomial.{polynomial_negated, polynomial_sum}
use Rattle.squares.specs.Views.{terms_of}
use Rattle.squares.proofs.Copying.{opposites_given_to_nothing}
use Rattle.squares.proofs.polynomial.Polynomial.negated.Goals as goal

pub returns : goal.returns
returns c = let own = terms_of c.args.self.now in
    c.in_ok-subtract.ensures
    ∙ ap (λ (p : model.Polynomial). polynomial_sum p (polynomial_negated own)) c.new-negated.ensures
    ∙ opposites_given_to_nothing axes_of interval_of c.args.self.now.terms.entries c.ascends.ensures
