use Rattle.problem_build.proofs.Parts.{parts_problem}
use Rattle.problem_build.proofs.parts_are_problem.Goals as goal

pub returns : goal.returns
returns c = parts_problem
