use Rattle.headline.proofs.Headline.{unsat_is_exact}
use Rattle.headline.proofs.unsat_is_exact.Goals as goal

pub returns : goal.returns
returns c = unsat_is_exact
