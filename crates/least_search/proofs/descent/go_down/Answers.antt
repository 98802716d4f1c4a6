use Rattle.std.proofs.Common.{sym, subst}
use Rattle.least_search.specs.Found.{AreBoundsOf}
use Rattle.least_search.proofs.Searches.{phased_bounds}
use Rattle.least_search.proofs.descent.go_down.Goals as goal
use Rattle.least_search.proofs.descent.go_down.Goals.{then-has_fallen, else-has_fallen}

pub returns-clause-bounds : goal.returns-clause-bounds
returns-clause-bounds c =
    let a = c.args.aim.now in let b = c.descents.new.bounds in
    elim c.if-has_fallen.branch [
      | then-has_fallen w ↦ subst (AreBoundsOf a) (sym w.bounds-is) (phased_bounds a b _ c.descents.ensures.bounds)
      | else-has_fallen w ↦ subst (AreBoundsOf a) (sym w.bounds-is) c.descents.ensures.bounds
    ]
