use Rattle.least_search.specs.Aims.{IsReady, IsSameAim}
use Rattle.least_search.specs.Found.{AreBoundsOf, weight}
use Rattle.least_search.proofs.search.improve.Given as goal

abbrev pub invariant-loop-ending : goal.invariant-loop-ending
invariant-loop-ending g l = record {
  ready : IsReady l.aim;
  same : IsSameAim l.fn.aim l.aim;
  bounds : AreBoundsOf l.fn.aim l.bounds;
}

abbrev pub decreases-loop-ending : goal.decreases-loop-ending
decreases-loop-ending g l = weight l.bounds
