use Rattle.std.proofs.Common.{map, sym, subst, ◌∙◌, List, true≢false, eqb→eq}
use Rattle.std.specs.Bool.{passes}
use Rattle.smt_sexp.specs.Views.{place_of}
use Rattle.term_build.specs.Shapes.{sketch_of}
use Rattle.term_build.specs.Steps.{tree_of}
use Rattle.term_build.specs.declared.sketch.Arm.{Arm}
use Rattle.value_build.specs.Arms.{arm_of, IsSomeArm, LiftsOne, Folds, Calculates}
use Rattle.value_build.specs.declared.value.Value.{Value}
use Rattle.value_build.proofs.Folds.{nil_of, not_empty}
use Rattle.value_build.specs.declared.lift.Leaf.TheVariants as leaf
use Rattle.value_build.proofs.Arming.{arms_head, some_arm, opposite_calculates, quotient_stops, folds_calculate}
use Rattle.value_build.proofs.Taken.{arm_stands}
use Rattle.value_build.proofs.arms.calculate_values.Goals as goal
use Rattle.value_build.proofs.arms.calculate_values.Goals.{else-is_difference-via-then-is_difference+else-is_empty, else-is_difference-via-else-is_difference, else-is_quotient-via-then-is_quotient+else-hold_choice, else-is_quotient-via-else-is_quotient}

pub lift_one-requires-clause-first : goal.lift_one-requires-clause-first
lift_one-requires-clause-first c =
    let k = some_arm c.args.builder.now (map sketch_of c.args.sketch.now.items) c.args.first (arms_head c.args.first c.args.rest.now c.requires.arms) c.requires.known in
    arm_stands c.args.builder.now (map sketch_of c.args.sketch.now.items) k.0 (arm_of c.args.first) k.1

pub lift_one-requires-clause-known : goal.lift_one-requires-clause-known
lift_one-requires-clause-known c = subst (λ (a : Arm). IsSomeArm c.args.builder.now (map sketch_of c.args.sketch.now.items) a) (sym c.arm_of.ensures) (some_arm c.args.builder.now (map sketch_of c.args.sketch.now.items) c.args.first (arms_head c.args.first c.args.rest.now c.requires.arms) c.requires.known)

pub returns-then-is_empty-clause-does : goal.returns-then-is_empty-clause-does
returns-then-is_empty-clause-does c = subst (λ (vs : List Value). Calculates c.args.builder.now (map sketch_of c.args.sketch.now.items) c.lift_one.new.builder (map sketch_of c.lift_one.new.sketch.items) (place_of c.args.at) c.args.step c.args.first vs c.lift_one.result) (sym (nil_of c.args.rest.now (eqb→eq _ _ (passes _ (sym c.if-is_empty.ensures)))))
    (opposite_calculates c.args.builder.now c.lift_one.new.builder (map sketch_of c.args.sketch.now.items) (map sketch_of c.lift_one.new.sketch.items) (place_of c.args.at) c.args.step (tree_of c.args.builder.now 0) c.args.first c.lift_one.result (sym c.is_difference.ensures ∙ c.if-is_difference.true) (arms_head c.args.first c.args.rest.now c.requires.arms)
    (subst (λ (a : Arm). LiftsOne c.args.builder.now (map sketch_of c.args.sketch.now.items) c.lift_one.new.builder (map sketch_of c.lift_one.new.sketch.items) (place_of c.args.at) leaf.Opposite (tree_of c.args.builder.now 0) a c.lift_one.result) c.arm_of.ensures c.lift_one.ensures.does))

pub returns-then-hold_choice-clause-does : goal.returns-then-hold_choice-clause-does
returns-then-hold_choice-clause-does c = quotient_stops c.args.builder.now c.args.builder.now (map sketch_of c.args.sketch.now.items) (map sketch_of c.args.sketch.now.items) c.args.at c.args.step c.args.first c.args.rest.now (sym c.is_quotient.ensures ∙ c.if-is_quotient.true) (sym c.hold_choice.ensures ∙ c.if-hold_choice.true)

pub fold_values-requires-clause-known : goal.fold_values-requires-clause-known
fold_values-requires-clause-known c = subst (λ (a : Arm). IsSomeArm c.args.builder.now (map sketch_of c.args.sketch.now.items) a) (sym c.arm_of-2.ensures) (some_arm c.args.builder.now (map sketch_of c.args.sketch.now.items) c.args.first (arms_head c.args.first c.args.rest.now c.requires.arms) c.requires.known)

pub returns-clause-does : goal.returns-clause-does
returns-clause-does c = folds_calculate c.args.builder.now c.fold_values.new.builder (map sketch_of c.args.sketch.now.items) (map sketch_of c.fold_values.new.sketch.items) (place_of c.args.at) c.args.step c.args.first c.args.rest.now c.fold_values.result (arms_head c.args.first c.args.rest.now c.requires.arms) c.requires.held
    (λ d e. elim c.else-is_difference.branch [ else-is_difference-via-then-is_difference+else-is_empty w ↦ not_empty c.args.rest.now w.if-is_empty.ensures e | else-is_difference-via-else-is_difference w ↦ true≢false (sym d ∙ sym w.if-is_difference.ensures) ])
    (λ q. elim c.else-is_quotient.branch [ else-is_quotient-via-then-is_quotient+else-hold_choice w ↦ sym w.if-hold_choice.ensures | else-is_quotient-via-else-is_quotient w ↦ absurd (true≢false (sym q ∙ sym w.if-is_quotient.ensures)) ])
    (subst (λ (a : Arm). Folds c.args.builder.now (map sketch_of c.args.sketch.now.items) c.fold_values.new.builder (map sketch_of c.fold_values.new.sketch.items) (place_of c.args.at) c.args.step a c.args.rest.now c.fold_values.result) c.arm_of-2.ensures c.fold_values.ensures.does)
