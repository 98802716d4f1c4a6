use Rattle.std.proofs.Common.{map, subst, sym, refl, []}
use Rattle.dyadic.specs.Point.{bool_sort}
use Rattle.script_model.specs.Declared.{bounds}
use Rattle.script_forms.specs.Atoms.{constant_tree}
use Rattle.term_build.specs.Built.{stand_of}
use Rattle.term_build.specs.Shapes.{sketch_of}
use Rattle.std.specs.Prelude.{Ok}
use Rattle.poly_graph.specs.Problem.{HasSort}
use Rattle.value_build.specs.Leaves.{MakesSwitch}
use Rattle.value_build.specs.Making.{Making, making}
use Rattle.value_build.specs.declared.value.Value.TheVariants as values
use Rattle.value_build.proofs.Operating.{bool_value}
use Rattle.value_build.proofs.leaves.switch.Goals as goal

pub invariant_of-maker : goal.invariant_of-maker
invariant_of-maker c = (c.bool_is.ensures c.maker.inside.builder (stand_of c.maker.inside.builder).trees c.maker.invariant (subst (λ (x : Making). HasSort bool_sort x.made.sorts c.args.axis) (sym c.maker.view_is) c.requires)).sketch

pub invariant_of-maker-in_err-list : goal.invariant_of-maker-in_err-list
invariant_of-maker-in_err-list c = (c.bool_is.ensures c.maker.inside.builder (stand_of c.maker.inside.builder).trees c.maker.invariant (subst (λ (x : Making). HasSort bool_sort x.made.sorts c.args.axis) (sym c.maker.view_is) c.requires)).sketch

pub returns-clause-does : goal.returns-clause-does
returns-clause-does c = subst (λ (x : Making). MakesSwitch x (making c.maker.inside.builder (map sketch_of c.bool_is.new.sketch.items) c.no_bounds.new.bounds) c.args.axis (Ok (values.Bool c.in_ok-pair.pair c.in_ok-list.list))) c.maker.view_is
    (bool_value c.maker.inside.builder (map sketch_of c.maker.inside.sketch.items) (map sketch_of c.bool_is.new.sketch.items) c.maker.inside.bounds c.no_bounds.new.bounds (constant_tree c.args.axis bool_sort) (bounds []) [] [] c.in_ok-pair.pair c.in_ok-list.list
    (c.in_ok-pair.ensures c.maker.inside.builder (stand_of c.maker.inside.builder).trees c.maker.invariant (subst (λ (x : Making). HasSort bool_sort x.made.sorts c.args.axis) (sym c.maker.view_is) c.requires)) c.in_ok-list.ensures tt refl)

pub invariant_of-maker-2 : goal.invariant_of-maker-2
invariant_of-maker-2 c = (c.bool_is.ensures c.maker.inside.builder (stand_of c.maker.inside.builder).trees c.maker.invariant (subst (λ (x : Making). HasSort bool_sort x.made.sorts c.args.axis) (sym c.maker.view_is) c.requires)).sketch
