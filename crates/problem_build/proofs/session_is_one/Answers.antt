use Rattle.problem_build.proofs.One.{session_one}
use Rattle.problem_build.proofs.session_is_one.Goals as goal

pub returns : goal.returns
returns c = session_one
