use Rattle.std.proofs.Common.{ap, ◌∙◌}
use Rattle.square_model.specs.Polynomial.{only}
use Rattle.squares.proofs.number.one.Goals as goal

pub returns : goal.returns
returns c = c.only.ensures ∙ ap only c.pow2.ensures
