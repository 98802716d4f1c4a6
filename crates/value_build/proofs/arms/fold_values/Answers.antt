use Rattle.std.proofs.Common.{map, sym, subst, List, Ok, Err, Result}
use Rattle.smt_sexp.specs.Views.{place_of}
use Rattle.term_build.specs.Shapes.{sketch_of}
use Rattle.term_build.specs.declared.sketch.Arm.{Arm}
use Rattle.term_build.specs.declared.stop.Stop.{Stop}
use Rattle.term_build.proofs.Emits.{err_is}
use Rattle.value_build.specs.Arms.{IsSomeArm, LiftsTwo, Folds}
use Rattle.value_build.specs.Loops.{IsFoldingArms}
use Rattle.value_build.specs.declared.value.Value.{Value}
use Rattle.value_build.proofs.Folds.{nil_of}
use Rattle.value_build.proofs.Loops.{fold_begins, fold_second, fold_goes_on, fold_stops, fold_ends}
use Rattle.value_build.proofs.arms.fold_values.Goals as goal

pub loop-next-init : goal.loop-next-init
loop-next-init c = fold_begins (place_of c.args.at) c.args.step c.args.builder.now (map sketch_of c.args.sketch.now.items) c.args.first c.args.rest.now c.requires.known c.requires.rest c.requires.arms c.requires.sketched

pub lift_two-requires-clause-second : goal.lift_two-requires-clause-second
lift_two-requires-clause-second c =
    let F : List Value → Type 0 = IsFoldingArms (place_of c.args.at) c.args.step c.args.builder.now c.loop-next.builder (map sketch_of c.args.sketch.now.items) (map sketch_of c.loop-next.sketch.items) c.args.first c.args.rest.now c.loop-next.so_far in
    subst (λ (a : Arm). IsSomeArm c.loop-next.builder (map sketch_of c.loop-next.sketch.items) a) (sym c.arm_of.ensures)
    (fold_second (place_of c.args.at) c.args.step c.args.builder.now (map sketch_of c.args.sketch.now.items) c.args.first c.args.rest.now c.loop-next.builder (map sketch_of c.loop-next.sketch.items) c.loop-next.so_far c.in-Some.next.now c.in-Some.later.now (subst F c.in-Some.ensures.cases.0 c.loop-next.invariant))

pub returns-in_err-so_far-clause-does : goal.returns-in_err-so_far-clause-does
returns-in_err-so_far-clause-does c =
    let F : List Value → Type 0 = IsFoldingArms (place_of c.args.at) c.args.step c.args.builder.now c.loop-next.builder (map sketch_of c.args.sketch.now.items) (map sketch_of c.loop-next.sketch.items) c.args.first c.args.rest.now c.loop-next.so_far in
    let z = c.in_err-so_far.field-0.0 in
    subst (λ (r : Result Arm Stop). Folds c.args.builder.now (map sketch_of c.args.sketch.now.items) c.lift_two.new.builder (map sketch_of c.lift_two.new.sketch.items) (place_of c.args.at) c.args.step c.args.first c.args.rest.now r) (sym (err_is c.from_residual.result z c.from_residual.ensures))
    (fold_stops (place_of c.args.at) c.args.step c.args.builder.now (map sketch_of c.args.sketch.now.items) c.args.first c.args.rest.now c.loop-next.builder c.lift_two.new.builder (map sketch_of c.loop-next.sketch.items) (map sketch_of c.lift_two.new.sketch.items) c.loop-next.so_far c.in-Some.next.now c.in-Some.later.now z (subst F c.in-Some.ensures.cases.0 c.loop-next.invariant)
    (subst (λ (a : Arm). LiftsTwo c.loop-next.builder (map sketch_of c.loop-next.sketch.items) c.lift_two.new.builder (map sketch_of c.lift_two.new.sketch.items) (place_of c.args.at) c.args.step c.loop-next.so_far a (Err z)) c.arm_of.ensures c.in_err-so_far.ensures.does))

pub loop-next-preserved : goal.loop-next-preserved
loop-next-preserved c =
    let F : List Value → Type 0 = IsFoldingArms (place_of c.args.at) c.args.step c.args.builder.now c.loop-next.builder (map sketch_of c.args.sketch.now.items) (map sketch_of c.loop-next.sketch.items) c.args.first c.args.rest.now c.loop-next.so_far in
    fold_goes_on (place_of c.args.at) c.args.step c.args.builder.now (map sketch_of c.args.sketch.now.items) c.args.first c.args.rest.now c.loop-next.builder c.lift_two.new.builder (map sketch_of c.loop-next.sketch.items) (map sketch_of c.lift_two.new.sketch.items) c.loop-next.so_far c.in_ok-so_far.so_far c.in-Some.next.now c.in-Some.later.now (subst F c.in-Some.ensures.cases.0 c.loop-next.invariant)
    (subst (λ (a : Arm). LiftsTwo c.loop-next.builder (map sketch_of c.loop-next.sketch.items) c.lift_two.new.builder (map sketch_of c.lift_two.new.sketch.items) (place_of c.args.at) c.args.step c.loop-next.so_far a (Ok c.in_ok-so_far.so_far)) c.arm_of.ensures c.in_ok-so_far.ensures.does)
    c.in_ok-so_far.ensures.sorts

pub returns-clause-does : goal.returns-clause-does
returns-clause-does c =
    let F : List Value → Type 0 = IsFoldingArms (place_of c.args.at) c.args.step c.args.builder.now c.loop-next.builder (map sketch_of c.args.sketch.now.items) (map sketch_of c.loop-next.sketch.items) c.args.first c.args.rest.now c.loop-next.so_far in
    fold_ends (place_of c.args.at) c.args.step c.args.builder.now (map sketch_of c.args.sketch.now.items) c.args.first c.args.rest.now c.loop-next.builder (map sketch_of c.loop-next.sketch.items) c.loop-next.so_far (subst F (nil_of c.loop-next.left.now c.in_default.ensures.cases) c.loop-next.invariant)
