use Rattle.std.proofs.Common.{◌*◌, ◌^◌}
use Rattle.dyadic.specs.Size.{units}
use Rattle.dyadic.specs.Rounding.{size_above, root_above, whole_root}
use Rattle.dyadic.proofs.Floors.{representable_spelling}
use Rattle.dyadic.proofs.Roots.{root_up}
use Rattle.dyadic.proofs.RoundsRoots.{root_up_sizes, root_up_unique, root_in_range}
use Rattle.dyadic.proofs.root.size_up.Goals as goal

pub unreachable-requires : goal.unreachable-requires
unreachable-requires c = root_in_range (units c.args.a) _ _ _ c.args.a.spelled.in_range c.root_bracket-bracket.ensures.tight c.in-None.ensures

pub returns : goal.returns
returns c =
    let n = units c.args.a in
    let r = c.in-Some.size in
    let known = root_up_sizes n c.args.a.spelled.in_range in
    root_up_unique (n * 2 ^ 120) (units r) (size_above (root_above (n * 2 ^ 120) (whole_root (n * 2 ^ 120)))) (representable_spelling r.odd r.shift r.spelled) known.1
    (root_up _ _ _ _ _ c.root_bracket-bracket.ensures.tight c.in-Some.ensures) known.0
