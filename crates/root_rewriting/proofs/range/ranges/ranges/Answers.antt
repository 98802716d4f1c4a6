use Rattle.std.proofs.Common.{[], map, subst}
use Rattle.std.specs.Prelude.{Bool, IfOk}
use Rattle.script_roots.specs.TreeBounds.{in_box, range_of, ranges_from}
use Rattle.root_rewriting.specs.Constants.{constant_of}
use Rattle.root_rewriting.specs.Enclosures.{KnowsRanges}
use Rattle.root_rewriting.proofs.range.ranges.ranges.Goals as goal

pub returns : goal.returns
returns c = λ es h. let range = range_of c.args.bound es in
    subst (λ (empty : Bool). IfOk c.ranges_in.result (λ m. KnowsRanges m (ranges_from (in_box empty range) 0 [] (map constant_of c.args.constants.now))))
    (c.is_empty-empty.ensures es h) (c.ranges_in.ensures es h)
