use Rattle.headline.proofs.Headline.{delta_sat_is}
use Rattle.headline.proofs.delta_sat_means.Goals as goal

pub returns : goal.returns
returns c = delta_sat_is
