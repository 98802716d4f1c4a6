use Rattle.std.proofs.Common.{map, Some, refl, ap, sym, ◌∙◌, arith}
use Rattle.poly_graph.specs.Views.{node_of}
use Rattle.cover_model.specs.Combination.{product_rest}
use Rattle.ival.specs.Views.{interval_of}
use Rattle.ival.specs.RowViews.{rows_of}
use Rattle.ival.specs.Options.{option_of}
use Rattle.combine.specs.Parts.{part_of, parts_in, expansion_of}
use Rattle.combine.proofs.Sweeping.{expanded_other, needed_other}
use Rattle.combine.proofs.expand.expand.Goals as goal

pub returns : goal.returns
returns c =
    let es = rows_of c.args.enclosures.now.rows.now in let cs = rows_of c.args.enclosures.now.centre_rows.now in let g = c.args.gathered.now in let parts = map part_of (parts_in g) in
    let m = c.requires.measured in
    record {
      expansion = sym (expanded_other c.args.node c.in_default.not-Var es cs c.args.n (Some (interval_of c.args.linear)) (option_of c.args.square) (expansion_of g)
          ∙ ap (product_rest es cs (Some (interval_of c.args.linear)) (node_of c.args.node)) (c.with_square-rest.ensures parts) ∙ c.with_product-gathered.ensures parts);
      measured = record { within = m.within; parts = m.parts; sum = m.sum };
      first = let z = needed_other c.args.node c.in_default.not-Var in omega (arith, z);
      room = refl;
    }
