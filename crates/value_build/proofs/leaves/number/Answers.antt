use Rattle.std.proofs.Common.{map, subst}
use Rattle.dyadic.specs.Views.{fraction_of_frac}
use Rattle.poly_graph.specs.Term.{constant}
use Rattle.term_build.specs.Shapes.{sketch_of}
use Rattle.std.specs.Prelude.{Ok, Err}
use Rattle.value_build.specs.Leaves.{MakesTree}
use Rattle.value_build.specs.Making.{Making, making}
use Rattle.value_build.specs.declared.value.Value.TheVariants as values
use Rattle.value_build.proofs.Leaf.{tree_made, tree_not, tree_sketch}
use Rattle.value_build.proofs.leaves.number.Goals as goal

pub returns-in-Ok-clause-does : goal.returns-in-Ok-clause-does
returns-in-Ok-clause-does c = subst (λ (x : Making). MakesTree x (making c.make.new.self (map sketch_of c.maker.inside.sketch.items) c.maker.inside.bounds) (constant (fraction_of_frac c.args.number)) (Ok (values.Real c.in-Ok.node))) c.maker.view_is
    (tree_made c.maker.inside.builder c.make.new.self (map sketch_of c.maker.inside.sketch.items) c.maker.inside.bounds (constant (fraction_of_frac c.args.number)) c.in-Ok.node c.in-Ok.ensures.does)

pub invariant_of-maker : goal.invariant_of-maker
invariant_of-maker c = tree_sketch c.maker.inside.builder c.make.new.self (map sketch_of c.maker.inside.sketch.items) (constant (fraction_of_frac c.args.number)) c.in-Ok.node c.in-Ok.ensures.does c.in-Ok.ensures.sorts c.maker.invariant

pub returns-in-Err-clause-does : goal.returns-in-Err-clause-does
returns-in-Err-clause-does c = subst (λ (x : Making). MakesTree x (making c.make.new.self (map sketch_of c.give_up.new.sketch.items) c.maker.inside.bounds) (constant (fraction_of_frac c.args.number)) (Err c.in-Err.stop)) c.maker.view_is
    (tree_not c.maker.inside.builder c.make.new.self (map sketch_of c.maker.inside.sketch.items) (map sketch_of c.give_up.new.sketch.items) c.maker.inside.bounds (constant (fraction_of_frac c.args.number)) c.in-Err.stop c.in-Err.ensures.does)
