use Rattle.problem_build.proofs.One.{built_one}
use Rattle.problem_build.proofs.built_is_one.Goals as goal

pub returns : goal.returns
returns c = built_one
