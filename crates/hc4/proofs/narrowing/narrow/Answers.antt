use Rattle.std.proofs.Common.{◌∙◌, subst}
use Rattle.dyadic.specs.Rounding.{two_to_minus}
use Rattle.dyadic.specs.Views.{ext_of}
use Rattle.interval_model.specs.Interval.{Interval}
use Rattle.cover_model.specs.Space.{range}
use Rattle.cover_model.specs.Narrowed.{narrowed_by}
use Rattle.cover_model.proofs.Ranges.{range_proper}
use Rattle.poly_graph.specs.Views.{kind_of}
use Rattle.ival.specs.Narrows.{IsNarrowed}
use Rattle.ival.specs.SpaceViews.{space_of}
use Rattle.ival.proofs.Proper.{new_is, ends_from, low_of, high_of}
use Rattle.hc4.proofs.narrowing.narrow.Goals as goal

pub new-requires-clause-low : goal.new-requires-clause-low
new-requires-clause-low c = let l = ext_of c.range_ends-low.result.0 in let h = ext_of c.range_ends-low.result.1 in let kind = kind_of c.args.atom.now.kind in
    low_of l h (ends_from l h (range (two_to_minus c.args.loosen) kind) c.range_ends-low.ensures (range_proper c.args.loosen kind))

pub new-requires-clause-high : goal.new-requires-clause-high
new-requires-clause-high c = let l = ext_of c.range_ends-low.result.0 in let h = ext_of c.range_ends-low.result.1 in let kind = kind_of c.args.atom.now.kind in
    high_of l h (ends_from l h (range (two_to_minus c.args.loosen) kind) c.range_ends-low.ensures (range_proper c.args.loosen kind))

pub returns-clause-narrowed : goal.returns-clause-narrowed
returns-clause-narrowed c =
    let old = space_of c.args.space.now in let kind = kind_of c.args.atom.now.kind in
    let given = c.new.ensures ∙ new_is (ext_of c.range_ends-low.result.0) (ext_of c.range_ends-low.result.1) (range (two_to_minus c.args.loosen) kind) c.range_ends-low.ensures (range_proper c.args.loosen kind) in
    subst (λ (i : Interval). IsNarrowed old (space_of c.narrow_by.new.space) (narrowed_by c.args.graph.now c.args.atom.now.term i old) c.narrow_by.result) given c.narrow_by.ensures.narrowed
