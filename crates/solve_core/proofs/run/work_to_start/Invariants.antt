use Rattle.std.proofs.Common.{◌≡◌}
use Rattle.solve_core.specs.Reaches.{Reaches}
use Rattle.solve_core.specs.Search.{IsSearch, work_left}
use Rattle.solve_core.proofs.run.work_to_start.Given as goal

abbrev pub invariant-loop : goal.invariant-loop
invariant-loop g l = record { search : IsSearch l.search l.search.waiting.items; reached : Reaches l.fn.search.book l.search.book; room : l.room ≡ l.search.book.problem }

abbrev pub decreases-loop : goal.decreases-loop
decreases-loop g l = work_left l.search
