use Rattle.cover_book.proofs.Grown
use Rattle.cover_book.proofs.laws.steps_keep_problem.Goals as goal

pub returns : goal.returns
returns c = Grown.step_keeps_problem
