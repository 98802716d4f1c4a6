use Rattle.std.proofs.Common.{map, ◌≡◌, sym, subst, List, true}
use Rattle.std.specs.Prelude.{Ok, Err}
use Rattle.smt_sexp.specs.Views.{place_of}
use Rattle.term_build.specs.Shapes.{sketch_of}
use Rattle.term_build.specs.declared.sketch.Arm.{Arm}
use Rattle.value_build.specs.Arms.{AreSomeValues}
use Rattle.value_build.specs.declared.value.Value.{Value}
use Rattle.value_build.proofs.Folds.{nil_of}
use Rattle.value_build.proofs.Arming.{first_value, later_values}
use Rattle.value_build.specs.Arithmetic.{operator_of_step}
use Rattle.value_build.specs.Arms.{ArmsMake, Calculates}
use Rattle.value_build.specs.declared.value.Value.TheVariants as values
use Rattle.value_build.specs.Arms.{hold_choice}
use Rattle.value_build.proofs.Joining.{arms_made, arms_stopped, arms_sketch, holds}
use Rattle.value_build.proofs.Taken.{some_held, calculates_no_tree}
use Rattle.value_build.specs.Making.{Making, making}
use Rattle.value_build.proofs.operate.calculate_arms.Goals as goal

pub unreachable-requires : goal.unreachable-requires
unreachable-requires c = some_held c.args.values.now c.requires.held (nil_of c.args.values.now c.in_default.ensures.cases)

pub unreachable-requires-in-Ok-Tree : goal.unreachable-requires-in-Ok-Tree
unreachable-requires-in-Ok-Tree c =
    let k = subst (λ (xs : List Value). AreSomeValues c.maker.inside.builder (map sketch_of c.maker.inside.sketch.items) xs) c.in-Some.ensures.cases.0 (subst (λ (x : Making). AreSomeValues x.made x.drawn c.args.values.now) (sym c.maker.view_is) (c.args.maker.now.bounds, c.requires.values.0, c.requires.values.1, c.requires.values.2)) in
    let h = subst (λ (xs : List Value). hold_choice xs ≡ true) c.in-Some.ensures.cases.0 (holds c.args.values.now c.requires.held c.requires.arms) in
    calculates_no_tree c.maker.inside.builder c.calculate_values.new.builder (map sketch_of c.maker.inside.sketch.items) (map sketch_of c.calculate_values.new.sketch.items) (place_of c.args.at) c.args.step c.in-Some.first.now c.in-Some.rest.now _
    (subst (λ (a : Arm). Calculates c.maker.inside.builder (map sketch_of c.maker.inside.sketch.items) c.calculate_values.new.builder (map sketch_of c.calculate_values.new.sketch.items) (place_of c.args.at) c.args.step c.in-Some.first.now c.in-Some.rest.now (Ok a)) c.in-Ok-Tree.field-0-is c.in-Ok-Tree.ensures.does) k h

pub calculate_values-requires-clause-known : goal.calculate_values-requires-clause-known
calculate_values-requires-clause-known c = let k = subst (λ (xs : List Value). AreSomeValues c.maker.inside.builder (map sketch_of c.maker.inside.sketch.items) xs) c.in-Some.ensures.cases.0 (subst (λ (x : Making). AreSomeValues x.made x.drawn c.args.values.now) (sym c.maker.view_is) (c.args.maker.now.bounds, c.requires.values.0, c.requires.values.1, c.requires.values.2)) in first_value c.maker.inside.builder (map sketch_of c.maker.inside.sketch.items) c.in-Some.first.now c.in-Some.rest.now k

pub calculate_values-requires-clause-rest : goal.calculate_values-requires-clause-rest
calculate_values-requires-clause-rest c = let k = subst (λ (xs : List Value). AreSomeValues c.maker.inside.builder (map sketch_of c.maker.inside.sketch.items) xs) c.in-Some.ensures.cases.0 (subst (λ (x : Making). AreSomeValues x.made x.drawn c.args.values.now) (sym c.maker.view_is) (c.args.maker.now.bounds, c.requires.values.0, c.requires.values.1, c.requires.values.2)) in later_values c.maker.inside.builder (map sketch_of c.maker.inside.sketch.items) c.in-Some.first.now c.in-Some.rest.now k

pub calculate_values-requires-clause-held : goal.calculate_values-requires-clause-held
calculate_values-requires-clause-held c = subst (λ (xs : List Value). hold_choice xs ≡ true) c.in-Some.ensures.cases.0 (holds c.args.values.now c.requires.held c.requires.arms)

pub returns-in-Ok-Choice-clause-does : goal.returns-in-Ok-Choice-clause-does
returns-in-Ok-Choice-clause-does c = subst (λ (x : Making). ArmsMake x (making c.calculate_values.new.builder (map sketch_of c.calculate_values.new.sketch.items) c.maker.inside.bounds) (place_of c.args.at) (operator_of_step c.args.step) c.args.values.now (Ok (values.Choice c.in-Ok-Choice.k))) c.maker.view_is
    (subst (λ (vs : List Value). ArmsMake (making c.maker.inside.builder (map sketch_of c.maker.inside.sketch.items) c.maker.inside.bounds) (making c.calculate_values.new.builder (map sketch_of c.calculate_values.new.sketch.items) c.maker.inside.bounds) (place_of c.args.at) (operator_of_step c.args.step) vs (Ok (values.Choice c.in-Ok-Choice.k))) (sym c.in-Some.ensures.cases.0)
    (arms_made c.maker.inside.builder c.calculate_values.new.builder (map sketch_of c.maker.inside.sketch.items) (map sketch_of c.calculate_values.new.sketch.items) c.maker.inside.bounds (place_of c.args.at) c.args.step c.in-Some.first.now c.in-Some.rest.now c.in-Ok-Choice.k (subst (λ (a : Arm). Calculates c.maker.inside.builder (map sketch_of c.maker.inside.sketch.items) c.calculate_values.new.builder (map sketch_of c.calculate_values.new.sketch.items) (place_of c.args.at) c.args.step c.in-Some.first.now c.in-Some.rest.now (Ok a)) c.in-Ok-Choice.field-0-is c.in-Ok-Choice.ensures.does)))

pub invariant_of-maker : goal.invariant_of-maker
invariant_of-maker c = let k = subst (λ (xs : List Value). AreSomeValues c.maker.inside.builder (map sketch_of c.maker.inside.sketch.items) xs) c.in-Some.ensures.cases.0 (subst (λ (x : Making). AreSomeValues x.made x.drawn c.args.values.now) (sym c.maker.view_is) (c.args.maker.now.bounds, c.requires.values.0, c.requires.values.1, c.requires.values.2)) in arms_sketch c.maker.inside.builder c.calculate_values.new.builder (map sketch_of c.maker.inside.sketch.items) (map sketch_of c.calculate_values.new.sketch.items) (place_of c.args.at) c.args.step c.in-Some.first.now c.in-Some.rest.now c.in-Ok-Choice.k (subst (λ (a : Arm). Calculates c.maker.inside.builder (map sketch_of c.maker.inside.sketch.items) c.calculate_values.new.builder (map sketch_of c.calculate_values.new.sketch.items) (place_of c.args.at) c.args.step c.in-Some.first.now c.in-Some.rest.now (Ok a)) c.in-Ok-Choice.field-0-is c.in-Ok-Choice.ensures.does) k

pub returns-in-Err-clause-does : goal.returns-in-Err-clause-does
returns-in-Err-clause-does c = subst (λ (x : Making). ArmsMake x (making c.calculate_values.new.builder (map sketch_of c.give_up.new.sketch.items) c.maker.inside.bounds) (place_of c.args.at) (operator_of_step c.args.step) c.args.values.now (Err c.in-Err.stop)) c.maker.view_is
    (subst (λ (vs : List Value). ArmsMake (making c.maker.inside.builder (map sketch_of c.maker.inside.sketch.items) c.maker.inside.bounds) (making c.calculate_values.new.builder (map sketch_of c.give_up.new.sketch.items) c.maker.inside.bounds) (place_of c.args.at) (operator_of_step c.args.step) vs (Err c.in-Err.stop)) (sym c.in-Some.ensures.cases.0)
    (arms_stopped c.maker.inside.builder c.calculate_values.new.builder (map sketch_of c.maker.inside.sketch.items) (map sketch_of c.calculate_values.new.sketch.items) (map sketch_of c.give_up.new.sketch.items) c.maker.inside.bounds (place_of c.args.at) c.args.step c.in-Some.first.now c.in-Some.rest.now c.in-Err.stop c.in-Err.ensures.does))
