use Rattle.headline.proofs.Least.{upper_means}
use Rattle.headline.proofs.upper_means.Goals as goal

pub returns : goal.returns
returns c = upper_means
