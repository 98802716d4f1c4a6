use Rattle.cert_upgrade.proofs.Upgrades
use Rattle.cert_upgrade.proofs.upgraded_is_accepted_of_goal.Goals as goal

pub returns : goal.returns
returns c = Upgrades.upgraded_is_accepted_of_goal
