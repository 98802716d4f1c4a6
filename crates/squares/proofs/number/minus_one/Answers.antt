use Rattle.std.proofs.Common.{ap, ◌∙◌}
use Rattle.dyadic.specs.End.{negated_dyadic}
use Rattle.square_model.specs.Polynomial.{only}
use Rattle.squares.proofs.number.minus_one.Goals as goal

pub returns : goal.returns
returns c = c.only.ensures ∙ ap only (c.neg.ensures ∙ ap negated_dyadic c.pow2.ensures)
