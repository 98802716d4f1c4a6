use Rattle.std.proofs.Common.{◌*◌, ◌^◌}
use Rattle.dyadic.specs.Size.{units}
use Rattle.dyadic.specs.Rounding.{size_below, whole_root}
use Rattle.dyadic.proofs.Floors.{representable_spelling}
use Rattle.dyadic.proofs.Roots.{root_down}
use Rattle.dyadic.proofs.RoundsRoots.{root_down_sizes, root_down_unique}
use Rattle.dyadic.proofs.root.size_down.Goals as goal

pub returns : goal.returns
returns c =
    let n = units c.args.a in
    let r = c.round_down.result in
    let known = root_down_sizes n c.args.a.spelled.in_range in
    root_down_unique (n * 2 ^ 120) (units r) (size_below (whole_root (n * 2 ^ 120))) (representable_spelling r.odd r.shift r.spelled) known.1
    (root_down _ _ _ _ _ c.root_bracket-bracket.ensures.tight c.round_down.ensures) known.0
