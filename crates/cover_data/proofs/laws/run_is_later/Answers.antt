use Rattle.cover_data.proofs.Later.{run_is_later}
use Rattle.cover_data.proofs.laws.run_is_later.Goals as goal

pub returns : goal.returns
returns c = run_is_later
