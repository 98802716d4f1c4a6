use Rattle.std.proofs.Common.{◌<◌, length, arith}
use Rattle.std.proofs.lemmas.Grind.{common_steps}
use Rattle.cert_upgrade.proofs.Breaks.{lacks_so}
use Rattle.cert_upgrade.proofs.lacks_break.Goals as goal

pub returns-then-not-is_empty : goal.returns-then-not-is_empty
returns-then-not-is_empty c =
    let some : 0 < length c.args.rest.now = grind (arith, common_steps) in
    lacks_so c.args.rest.now some
