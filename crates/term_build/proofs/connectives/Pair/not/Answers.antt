use Rattle.std.proofs.Common.{refl}
use Rattle.term_build.proofs.Pairs.{not_draws}
use Rattle.term_build.proofs.connectives.Pair.not.Goals as goal

pub returns-clause-negates : goal.returns-clause-negates
returns-clause-negates c = λ ts ds u h. not_draws ts ds u c.args.self _ refl h
