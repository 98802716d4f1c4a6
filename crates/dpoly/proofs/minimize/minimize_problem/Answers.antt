use Rattle.std.proofs.Common.{subst}
use Rattle.least_search.specs.declared.found.Least.{Least}
use Rattle.least_search.specs.Found.{IsLeast}
use Rattle.dpoly.specs.Minimize.{first_options}
use Rattle.dpoly.proofs.Minimizing.{first_left}
use Rattle.dpoly.proofs.minimize.minimize_problem.Goals as goal

pub tell_left-requires-clause-left : goal.tell_left-requires-clause-left
tell_left-requires-clause-left g c =
    first_left c.args.problem.now c.args.asked.now.options c.in-NoPoint.book
    (subst (λ (x : Least). IsLeast c.args.problem.now c.args.goal c.args.asked.now.gap_bits (first_options c.args.asked.now.options) x) c.in-NoPoint.is c.in_ok-book.ensures)
