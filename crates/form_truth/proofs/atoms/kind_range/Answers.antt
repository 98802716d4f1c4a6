use Rattle.std.proofs.Common.{◌∙◌}
use Rattle.dyadic.specs.Rounding.{two_to_minus}
use Rattle.dyadic.specs.Views.{ext_of}
use Rattle.cover_model.specs.Space.{range}
use Rattle.poly_graph.specs.Views.{kind_of}
use Rattle.cover_model.proofs.Ranges.{range_proper}
use Rattle.ival.proofs.Proper.{new_is, ends_from, low_of, high_of}
use Rattle.form_truth.proofs.atoms.kind_range.Goals as goal

pub new-requires-clause-low : goal.new-requires-clause-low
new-requires-clause-low c = let l = ext_of c.range_ends-low.result.0 in let h = ext_of c.range_ends-low.result.1 in let kind = kind_of c.args.kind in
    low_of l h (ends_from l h (range (two_to_minus c.args.loosen) kind) c.range_ends-low.ensures (range_proper c.args.loosen kind))

pub new-requires-clause-high : goal.new-requires-clause-high
new-requires-clause-high c = let l = ext_of c.range_ends-low.result.0 in let h = ext_of c.range_ends-low.result.1 in let kind = kind_of c.args.kind in
    high_of l h (ends_from l h (range (two_to_minus c.args.loosen) kind) c.range_ends-low.ensures (range_proper c.args.loosen kind))

pub returns : goal.returns
returns c = let kind = kind_of c.args.kind in
    c.new.ensures ∙ new_is (ext_of c.range_ends-low.result.0) (ext_of c.range_ends-low.result.1) (range (two_to_minus c.args.loosen) kind) c.range_ends-low.ensures (range_proper c.args.loosen kind)
