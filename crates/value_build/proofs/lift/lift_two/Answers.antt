use Rattle.std.proofs.Common.{List, map, ap, sym, subst, Some}
use Rattle.std.specs.Prelude.{Result, Err}
use Rattle.smt_sexp.specs.Views.{place_of}
use Rattle.script_forms.specs.Terms.{Unfolded}
use Rattle.term_build.specs.Shapes.{sketch_of}
use Rattle.term_build.specs.Sketch.{SketchNode, IsSketch}
use Rattle.term_build.specs.declared.sketch.Arm.{Arm}
use Rattle.term_build.specs.declared.stop.Stop.{Stop}
use Rattle.term_build.proofs.Emits.{err_is}
use Rattle.value_build.specs.Arms.{LiftsTwo}
use Rattle.value_build.specs.Meetings.{Spread, Spreads}
use Rattle.value_build.specs.Values.{IsArm}
use Rattle.value_build.specs.declared.lift.Leaf.TheVariants as leaf
use Rattle.value_build.proofs.Gathering.{arms_lifted, can_gather_arms}
use Rattle.value_build.proofs.lift.lift_two.Goals as goal

pub returns-in_err-entries-clause-does : goal.returns-in_err-entries-clause-does
returns-in_err-entries-clause-does c =
    let stop = subst (λ (ds : List SketchNode). Spreads c.args.builder.now c.spread.new.builder ds (Some (leaf.Of c.args.step)) (place_of c.args.at) c.args.arm c.args.second (Err c.in_err-entries.field-0.0)) (ap (map sketch_of) c.deref.ensures.value) c.in_err-entries.ensures.does in
    subst (λ (r : Result Arm Stop). LiftsTwo c.args.builder.now (map sketch_of c.args.sketch.now.items) c.spread.new.builder (map sketch_of c.args.sketch.now.items) (place_of c.args.at) c.args.step c.args.arm c.args.second r) (sym (err_is c.from_residual.result c.in_err-entries.field-0.0 c.from_residual.ensures))
    (λ u v h k. stop u v h k)

pub gather_arms-requires : goal.gather_arms-requires
gather_arms-requires c =
    let spread = subst (λ (ds : List SketchNode). (u v : Unfolded) → IsArm c.args.builder.now ds u c.args.arm → IsArm c.args.builder.now ds v c.args.second → Spread c.args.builder.now c.spread.new.builder ds (Some (leaf.Of c.args.step)) (place_of c.args.at) u v c.in_ok-entries.entries.items) (ap (map sketch_of) c.deref.ensures.value) c.in_ok-entries.ensures.does in
    let sketched = subst (λ (ds : List SketchNode). IsSketch c.spread.new.builder ds) (ap (map sketch_of) c.deref.ensures.value) c.in_ok-entries.ensures.sketched in
    can_gather_arms c.args.builder.now c.spread.new.builder (map sketch_of c.args.sketch.now.items) (place_of c.args.at) (leaf.Of c.args.step) c.in_ok-entries.entries.items sketched c.args.arm c.args.second c.requires.known c.requires.second spread

pub returns-clause-does : goal.returns-clause-does
returns-clause-does c = λ u v h k.
    let spread = subst (λ (ds : List SketchNode). (u v : Unfolded) → IsArm c.args.builder.now ds u c.args.arm → IsArm c.args.builder.now ds v c.args.second → Spread c.args.builder.now c.spread.new.builder ds (Some (leaf.Of c.args.step)) (place_of c.args.at) u v c.in_ok-entries.entries.items) (ap (map sketch_of) c.deref.ensures.value) c.in_ok-entries.ensures.does in
    let sketched = subst (λ (ds : List SketchNode). IsSketch c.spread.new.builder ds) (ap (map sketch_of) c.deref.ensures.value) c.in_ok-entries.ensures.sketched in
    arms_lifted c.args.builder.now c.spread.new.builder (map sketch_of c.args.sketch.now.items) (place_of c.args.at) (leaf.Of c.args.step) c.in_ok-entries.entries.items sketched (map sketch_of c.gather_arms.new.sketch.items) u v c.in_ok-gather_arms.field-0 (spread u v h k) c.in_ok-gather_arms.ensures
