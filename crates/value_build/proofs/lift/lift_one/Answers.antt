use Rattle.std.proofs.Common.{List, map, ap, sym, subst, Some}
use Rattle.std.specs.Prelude.{Result, Err}
use Rattle.smt_sexp.specs.Views.{place_of}
use Rattle.script_forms.specs.Terms.{Unfolded, term}
use Rattle.term_build.specs.Shapes.{sketch_of}
use Rattle.term_build.specs.Sketch.{SketchNode, IsSketch}
use Rattle.term_build.specs.Steps.{tree_of}
use Rattle.term_build.specs.declared.sketch.Arm.{Arm}
use Rattle.term_build.specs.declared.sketch.Arm.TheVariants as arm
use Rattle.term_build.specs.declared.stop.Stop.{Stop}
use Rattle.term_build.proofs.Emits.{err_is}
use Rattle.value_build.specs.Arms.{LiftsOne}
use Rattle.value_build.specs.Meetings.{Spread, Spreads}
use Rattle.value_build.specs.Values.{IsArm}
use Rattle.value_build.proofs.Gathering.{arms_lifted, can_gather_arms, tree_there}
use Rattle.value_build.proofs.lift.lift_one.Goals as goal

pub spread-requires-clause-first : goal.spread-requires-clause-first
spread-requires-clause-first c = (term (tree_of c.args.builder.now c.args.first), tree_there c.args.builder.now (map sketch_of c.deref.result.now) c.args.first c.requires.first)

pub returns-in_err-entries-clause-does : goal.returns-in_err-entries-clause-does
returns-in_err-entries-clause-does c =
    let stop = subst (λ (ds : List SketchNode). Spreads c.args.builder.now c.spread.new.builder ds (Some c.args.leaf) (place_of c.args.at) (arm.Tree c.args.first) c.args.arm (Err c.in_err-entries.field-0.0)) (ap (map sketch_of) c.deref.ensures.value) c.in_err-entries.ensures.does in
    subst (λ (r : Result Arm Stop). LiftsOne c.args.builder.now (map sketch_of c.args.sketch.now.items) c.spread.new.builder (map sketch_of c.args.sketch.now.items) (place_of c.args.at) c.args.leaf (tree_of c.args.builder.now c.args.first) c.args.arm r) (sym (err_is c.from_residual.result c.in_err-entries.field-0.0 c.from_residual.ensures))
    (λ u h. stop (term (tree_of c.args.builder.now c.args.first)) u (tree_there c.args.builder.now (map sketch_of c.args.sketch.now.items) c.args.first c.requires.first) h)

pub gather_arms-requires : goal.gather_arms-requires
gather_arms-requires c =
    let spread = subst (λ (ds : List SketchNode). (u v : Unfolded) → IsArm c.args.builder.now ds u (arm.Tree c.args.first) → IsArm c.args.builder.now ds v c.args.arm → Spread c.args.builder.now c.spread.new.builder ds (Some c.args.leaf) (place_of c.args.at) u v c.in_ok-entries.entries.items) (ap (map sketch_of) c.deref.ensures.value) c.in_ok-entries.ensures.does in
    let sketched = subst (λ (ds : List SketchNode). IsSketch c.spread.new.builder ds) (ap (map sketch_of) c.deref.ensures.value) c.in_ok-entries.ensures.sketched in
    can_gather_arms c.args.builder.now c.spread.new.builder (map sketch_of c.args.sketch.now.items) (place_of c.args.at) c.args.leaf c.in_ok-entries.entries.items sketched (arm.Tree c.args.first) c.args.arm (term (tree_of c.args.builder.now c.args.first), (tree_there c.args.builder.now (map sketch_of c.args.sketch.now.items) c.args.first c.requires.first)) c.requires.known spread

pub returns-clause-does : goal.returns-clause-does
returns-clause-does c = λ u h.
    let spread = subst (λ (ds : List SketchNode). (u v : Unfolded) → IsArm c.args.builder.now ds u (arm.Tree c.args.first) → IsArm c.args.builder.now ds v c.args.arm → Spread c.args.builder.now c.spread.new.builder ds (Some c.args.leaf) (place_of c.args.at) u v c.in_ok-entries.entries.items) (ap (map sketch_of) c.deref.ensures.value) c.in_ok-entries.ensures.does in
    let sketched = subst (λ (ds : List SketchNode). IsSketch c.spread.new.builder ds) (ap (map sketch_of) c.deref.ensures.value) c.in_ok-entries.ensures.sketched in
    arms_lifted c.args.builder.now c.spread.new.builder (map sketch_of c.args.sketch.now.items) (place_of c.args.at) c.args.leaf c.in_ok-entries.entries.items sketched (map sketch_of c.gather_arms.new.sketch.items) (term (tree_of c.args.builder.now c.args.first)) u c.in_ok-gather_arms.field-0 (spread (term (tree_of c.args.builder.now c.args.first)) u (tree_there c.args.builder.now (map sketch_of c.args.sketch.now.items) c.args.first c.requires.first) h) c.in_ok-gather_arms.ensures
