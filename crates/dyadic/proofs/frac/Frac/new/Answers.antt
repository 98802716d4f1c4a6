use Rattle.std.proofs.Common.{rules}
use Rattle.dyadic.proofs.frac.Frac.new.Goals as goal

pub returns : goal.returns
returns c = search rules
