use Rattle.std.proofs.Common.{◌≡◌, ◌+◌, map, drop}
use Rattle.cover_line.specs.Views.{axes_of}
use Rattle.square_model.specs.Positive.{sizes_of}
use Rattle.squares.proofs.count.without_axes.Given as goal

-- those before are taken away
abbrev pub invariant-loop-axes : goal.invariant-loop-axes
invariant-loop-axes l = l.less + sizes_of (map axes_of l.monomials) ≡ l.left + sizes_of (map axes_of (drop l.axes-index l.monomials))
