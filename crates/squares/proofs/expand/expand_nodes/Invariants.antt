use Rattle.std.proofs.Common.{map}
use Rattle.ival.specs.SpaceViews.{space_of}
use Rattle.squares.specs.Expanding.{IsExpandedTo}
use Rattle.squares.specs.Views.{terms_of}
use Rattle.squares.proofs.expand.expand_nodes.Given as goal

abbrev pub invariant-loop-n : goal.invariant-loop-n
invariant-loop-n l = IsExpandedTo (space_of l.centre) l.graph l.marks l.n (map terms_of l.polynomials.items) l.budget.left l.fn.budget.left
