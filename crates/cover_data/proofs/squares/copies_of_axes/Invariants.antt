use Rattle.std.proofs.Common.{◌≡◌, map, take}
use Rattle.cover_line.specs.Views.{axes_of}
use Rattle.cover_data.proofs.squares.copies_of_axes.Given as goal

-- those before are copied
abbrev pub invariant-loop-axes : goal.invariant-loop-axes
invariant-loop-axes l = map axes_of l.all.items ≡ map axes_of (take l.axes-index l.monomials)
