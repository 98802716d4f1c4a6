use Rattle.std.proofs.Common.{◌≡◌, length}
use Rattle.problem_build.specs.Names.{work_at, bounding_at}
use Rattle.problem_build.specs.Walking.{Leaves}
use Rattle.problem_build.proofs.Sizes.{left}
use Rattle.problem_build.proofs.Stacked.{Within}
use Rattle.problem_build.proofs.walk.expression.Given as goal

abbrev pub invariant-turns : goal.invariant-turns
invariant-turns l = record {
  sorts : l.maker.made.sorts ≡ l.initial.maker.made.sorts;
  walks : Within (Leaves l.maker l.sexps l.top l.next) l.initial.maker l.maker l.sexps l.top l.stack.items
      (work_at l.sexps l.top l.fn.at) (bounding_at l.sexps l.top l.fn.at);
}

abbrev pub decreases-turns : goal.decreases-turns
decreases-turns l = left l.maker (length l.stack.items) l.next
