use Rattle.std.proofs.Common.{map, ◌≡◌, subst, length, true, false}
use Rattle.smt_sexp.specs.Views.{place_of}
use Rattle.term_build.specs.Shapes.{sketch_of}
use Rattle.value_build.specs.Operators.{ArmsDo, are_arms}
use Rattle.value_build.proofs.Joining.{picked_arms, picks_sketch}
use Rattle.sort_check.specs.Views.{operator_of}
use Rattle.value_build.specs.Operators.{are_picked, takes_of}
use Rattle.value_build.proofs.Taken.{not_choice, some_apart, taken_reals}
use Rattle.script_model.specs.Reading.{choice}
use Rattle.value_build.specs.Making.{Making, making}
use Rattle.value_build.proofs.operate.on_arms.Goals as goal

pub pick_arm-requires : goal.pick_arm-requires
pick_arm-requires c = subst (λ (o : _). takes_of (operator_of o) (are_arms c.args.values.now) false (are_picked c.args.values.now) (length c.args.values.now) ≡ true) c.in-Choice.is c.requires.takes

pub over_arms-requires-clause-arms : goal.over_arms-requires-clause-arms
over_arms-requires-clause-arms c =
    let vs = c.args.values.now in
    (taken_reals (operator_of c.args.operator) (are_arms vs) (are_picked vs) (length vs) (some_apart vs c.requires.apart) (λ e. absurd (not_choice c.args.operator c.in_default.not-Choice e)) c.requires.takes).0

pub over_arms-requires-clause-takes : goal.over_arms-requires-clause-takes
over_arms-requires-clause-takes c =
    let vs = c.args.values.now in
    (taken_reals (operator_of c.args.operator) (are_arms vs) (are_picked vs) (length vs) (some_apart vs c.requires.apart) (λ e. absurd (not_choice c.args.operator c.in_default.not-Choice e)) c.requires.takes).1

pub returns-in-Choice-clause-does : goal.returns-in-Choice-clause-does
returns-in-Choice-clause-does c = rw c.in-Choice.is (subst (λ (x : Making). ArmsDo x (making c.maker.inside.builder (map sketch_of c.pick_arm.new.sketch.items) c.maker.inside.bounds) (place_of c.args.at) choice c.args.values.now c.pick_arm.result) c.maker.view_is
    (picked_arms c.maker.inside.builder (map sketch_of c.maker.inside.sketch.items) (map sketch_of c.pick_arm.new.sketch.items) c.maker.inside.bounds (place_of c.args.at) c.args.values.now c.pick_arm.result c.requires.apart c.pick_arm.ensures))

pub invariant_of-maker : goal.invariant_of-maker
invariant_of-maker c = picks_sketch c.maker.inside.builder (map sketch_of c.maker.inside.sketch.items) (map sketch_of c.pick_arm.new.sketch.items) c.args.values.now c.pick_arm.result c.maker.invariant c.pick_arm.ensures
