use Rattle.std.proofs.Common.{◌≡◌, true}
use Rattle.dyadic.specs.Rounding.{ext_at_most}
use Rattle.dyadic.specs.Views.{ext_of}
use Rattle.least_search.specs.Aims.{IsReady, IsSameAim}
use Rattle.least_search.specs.Found.{AreBoundsOf}
use Rattle.least_search.proofs.descent.descents.Given as goal

abbrev pub invariant-loop : goal.invariant-loop
invariant-loop l = record {
  ready : IsReady l.aim;
  same : IsSameAim l.fn.aim l.aim;
  bounds : AreBoundsOf l.fn.aim l.bounds;
  better : ext_at_most (ext_of l.bounds.upper) (ext_of l.fn.bounds.upper) ≡ true;
  budget : l.bounds.budget ≡ l.fn.bounds.budget;
  lower : l.bounds.lower ≡ l.fn.bounds.lower;
}
