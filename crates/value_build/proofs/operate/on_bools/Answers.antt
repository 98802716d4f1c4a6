use Rattle.std.proofs.Common.{map, subst, sym}
use Rattle.term_build.specs.Built.{stand_of}
use Rattle.term_build.specs.Shapes.{sketch_of}
use Rattle.value_build.proofs.Operating.{bools_done}
use Rattle.std.specs.Prelude.{Ok}
use Rattle.sort_check.specs.Views.{operator_of}
use Rattle.value_build.specs.Making.{Making, making}
use Rattle.value_build.specs.Operators.{ArePairs, BoolsDo}
use Rattle.value_build.specs.declared.value.Value.TheVariants as values
use Rattle.value_build.proofs.operate.on_bools.Goals as goal

pub invariant_of-maker : goal.invariant_of-maker
invariant_of-maker c = (c.connect.ensures c.maker.inside.builder (stand_of c.maker.inside.builder).trees (subst (λ (x : Making). ArePairs x.made x.drawn c.args.pairs.now) (sym c.maker.view_is) c.requires.drawn).0 c.maker.invariant (subst (λ (x : Making). ArePairs x.made x.drawn c.args.pairs.now) (sym c.maker.view_is) c.requires.drawn).1).sketch

pub invariant_of-maker-in_err-list : goal.invariant_of-maker-in_err-list
invariant_of-maker-in_err-list c = (c.connect.ensures c.maker.inside.builder (stand_of c.maker.inside.builder).trees (subst (λ (x : Making). ArePairs x.made x.drawn c.args.pairs.now) (sym c.maker.view_is) c.requires.drawn).0 c.maker.invariant (subst (λ (x : Making). ArePairs x.made x.drawn c.args.pairs.now) (sym c.maker.view_is) c.requires.drawn).1).sketch

pub returns-clause-does : goal.returns-clause-does
returns-clause-does c = subst (λ (x : Making). BoolsDo x (making c.maker.inside.builder (map sketch_of c.connect.new.sketch.items) c.connect_bounds.new.bounds) (operator_of c.args.operator) c.args.pairs.now c.args.lists.items (Ok (values.Bool c.in_ok-pair.pair c.in_ok-list.list))) c.maker.view_is
    (bools_done _ c.maker.inside.builder (map sketch_of c.maker.inside.sketch.items) (map sketch_of c.connect.new.sketch.items) c.maker.inside.bounds c.connect_bounds.new.bounds c.args.pairs.now c.args.lists.items c.in_ok-pair.pair c.in_ok-list.list c.maker.invariant c.in_ok-pair.ensures c.in_ok-list.ensures)

pub invariant_of-maker-2 : goal.invariant_of-maker-2
invariant_of-maker-2 c = (c.connect.ensures c.maker.inside.builder (stand_of c.maker.inside.builder).trees (subst (λ (x : Making). ArePairs x.made x.drawn c.args.pairs.now) (sym c.maker.view_is) c.requires.drawn).0 c.maker.invariant (subst (λ (x : Making). ArePairs x.made x.drawn c.args.pairs.now) (sym c.maker.view_is) c.requires.drawn).1).sketch
