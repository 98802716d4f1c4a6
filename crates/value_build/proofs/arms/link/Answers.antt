use Rattle.std.proofs.Common.{map, sym, subst, [], ◌∷◌}
use Rattle.std.specs.Prelude.{Ok, Err}
use Rattle.smt_sexp.specs.Views.{place_of}
use Rattle.poly_graph.specs.Views.{kind_of}
use Rattle.term_build.specs.Built.{stand_of}
use Rattle.term_build.specs.Shapes.{sketch_of}
use Rattle.term_build.specs.declared.sketch.Arm.{Arm}
use Rattle.value_build.specs.Arms.{arm_of, IsSomeArm, IsSomeValue, SaysTwo, arm_bounds, Links}
use Rattle.value_build.specs.Bounds.{AddsList}
use Rattle.value_build.specs.Making.{Making, making}
use Rattle.value_build.specs.declared.chains.Spread.TheVariants.{Next, Later}
use Rattle.value_build.specs.declared.value.Value.TheVariants as values
use Rattle.value_build.proofs.Arming.{arms_head, arms_tail, some_arm, link_stop, link_next, link_later, said_below, said_sketch}
use Rattle.value_build.proofs.arms.link.Goals as goal

pub compare_arms-requires-clause-known : goal.compare_arms-requires-clause-known
compare_arms-requires-clause-known c = (subst (λ (a : Arm). IsSomeArm c.maker.inside.builder (map sketch_of c.maker.inside.sketch.items) a) (sym c.arm_of-one.ensures) (some_arm c.maker.inside.builder (map sketch_of c.maker.inside.sketch.items) c.args.first (arms_head c.args.first (c.args.second ∷ []) c.requires.arms) (subst (λ (x : Making). IsSomeValue x.made x.drawn c.args.first) (sym c.maker.view_is) (c.args.maker.now.bounds, c.requires.first.0, c.requires.first.1, c.requires.first.2))))

pub compare_arms-requires-clause-second : goal.compare_arms-requires-clause-second
compare_arms-requires-clause-second c = (subst (λ (a : Arm). IsSomeArm c.maker.inside.builder (map sketch_of c.maker.inside.sketch.items) a) (sym c.arm_of-other.ensures) (some_arm c.maker.inside.builder (map sketch_of c.maker.inside.sketch.items) c.args.second (arms_tail c.args.first (c.args.second ∷ []) c.requires.arms) (subst (λ (x : Making). IsSomeValue x.made x.drawn c.args.second) (sym c.maker.view_is) (c.args.maker.now.bounds, c.requires.second.0, c.requires.second.1, c.requires.second.2))))

pub pair_bounds-requires-clause-first : goal.pair_bounds-requires-clause-first
pair_bounds-requires-clause-first c = said_below c.maker.inside.builder c.compare_arms.new.builder (map sketch_of c.maker.inside.sketch.items) (map sketch_of c.compare_arms.new.sketch.items) (kind_of c.args.comparing.kind) (place_of c.args.comparing.at) c.arm_of-one.result c.arm_of-other.result c.arm_of-one.result c.in-Ok.pair c.in-Ok.ensures.does (subst (λ (a : Arm). IsSomeArm c.maker.inside.builder (map sketch_of c.maker.inside.sketch.items) a) (sym c.arm_of-one.ensures) (some_arm c.maker.inside.builder (map sketch_of c.maker.inside.sketch.items) c.args.first (arms_head c.args.first (c.args.second ∷ []) c.requires.arms) (subst (λ (x : Making). IsSomeValue x.made x.drawn c.args.first) (sym c.maker.view_is) (c.args.maker.now.bounds, c.requires.first.0, c.requires.first.1, c.requires.first.2)))) (subst (λ (a : Arm). IsSomeArm c.maker.inside.builder (map sketch_of c.maker.inside.sketch.items) a) (sym c.arm_of-other.ensures) (some_arm c.maker.inside.builder (map sketch_of c.maker.inside.sketch.items) c.args.second (arms_tail c.args.first (c.args.second ∷ []) c.requires.arms) (subst (λ (x : Making). IsSomeValue x.made x.drawn c.args.second) (sym c.maker.view_is) (c.args.maker.now.bounds, c.requires.second.0, c.requires.second.1, c.requires.second.2)))) (subst (λ (a : Arm). IsSomeArm c.maker.inside.builder (map sketch_of c.maker.inside.sketch.items) a) (sym c.arm_of-one.ensures) (some_arm c.maker.inside.builder (map sketch_of c.maker.inside.sketch.items) c.args.first (arms_head c.args.first (c.args.second ∷ []) c.requires.arms) (subst (λ (x : Making). IsSomeValue x.made x.drawn c.args.first) (sym c.maker.view_is) (c.args.maker.now.bounds, c.requires.first.0, c.requires.first.1, c.requires.first.2))))

pub pair_bounds-requires-clause-second : goal.pair_bounds-requires-clause-second
pair_bounds-requires-clause-second c = said_below c.maker.inside.builder c.compare_arms.new.builder (map sketch_of c.maker.inside.sketch.items) (map sketch_of c.compare_arms.new.sketch.items) (kind_of c.args.comparing.kind) (place_of c.args.comparing.at) c.arm_of-one.result c.arm_of-other.result c.arm_of-other.result c.in-Ok.pair c.in-Ok.ensures.does (subst (λ (a : Arm). IsSomeArm c.maker.inside.builder (map sketch_of c.maker.inside.sketch.items) a) (sym c.arm_of-one.ensures) (some_arm c.maker.inside.builder (map sketch_of c.maker.inside.sketch.items) c.args.first (arms_head c.args.first (c.args.second ∷ []) c.requires.arms) (subst (λ (x : Making). IsSomeValue x.made x.drawn c.args.first) (sym c.maker.view_is) (c.args.maker.now.bounds, c.requires.first.0, c.requires.first.1, c.requires.first.2)))) (subst (λ (a : Arm). IsSomeArm c.maker.inside.builder (map sketch_of c.maker.inside.sketch.items) a) (sym c.arm_of-other.ensures) (some_arm c.maker.inside.builder (map sketch_of c.maker.inside.sketch.items) c.args.second (arms_tail c.args.first (c.args.second ∷ []) c.requires.arms) (subst (λ (x : Making). IsSomeValue x.made x.drawn c.args.second) (sym c.maker.view_is) (c.args.maker.now.bounds, c.requires.second.0, c.requires.second.1, c.requires.second.2)))) (subst (λ (a : Arm). IsSomeArm c.maker.inside.builder (map sketch_of c.maker.inside.sketch.items) a) (sym c.arm_of-other.ensures) (some_arm c.maker.inside.builder (map sketch_of c.maker.inside.sketch.items) c.args.second (arms_tail c.args.first (c.args.second ∷ []) c.requires.arms) (subst (λ (x : Making). IsSomeValue x.made x.drawn c.args.second) (sym c.maker.view_is) (c.args.maker.now.bounds, c.requires.second.0, c.requires.second.1, c.requires.second.2))))

pub invariant_of-maker : goal.invariant_of-maker
invariant_of-maker c = said_sketch c.maker.inside.builder c.compare_arms.new.builder (map sketch_of c.maker.inside.sketch.items) (map sketch_of c.compare_arms.new.sketch.items) (kind_of c.args.comparing.kind) (place_of c.args.comparing.at) c.arm_of-one.result c.arm_of-other.result c.in-Ok.pair c.in-Ok.ensures.does (subst (λ (a : Arm). IsSomeArm c.maker.inside.builder (map sketch_of c.maker.inside.sketch.items) a) (sym c.arm_of-one.ensures) (some_arm c.maker.inside.builder (map sketch_of c.maker.inside.sketch.items) c.args.first (arms_head c.args.first (c.args.second ∷ []) c.requires.arms) (subst (λ (x : Making). IsSomeValue x.made x.drawn c.args.first) (sym c.maker.view_is) (c.args.maker.now.bounds, c.requires.first.0, c.requires.first.1, c.requires.first.2)))) (subst (λ (a : Arm). IsSomeArm c.maker.inside.builder (map sketch_of c.maker.inside.sketch.items) a) (sym c.arm_of-other.ensures) (some_arm c.maker.inside.builder (map sketch_of c.maker.inside.sketch.items) c.args.second (arms_tail c.args.first (c.args.second ∷ []) c.requires.arms) (subst (λ (x : Making). IsSomeValue x.made x.drawn c.args.second) (sym c.maker.view_is) (c.args.maker.now.bounds, c.requires.second.0, c.requires.second.1, c.requires.second.2))))

pub invariant_of-maker-in-Next : goal.invariant_of-maker-in-Next
invariant_of-maker-in-Next c = said_sketch c.maker.inside.builder c.compare_arms.new.builder (map sketch_of c.maker.inside.sketch.items) (map sketch_of c.compare_arms.new.sketch.items) (kind_of c.args.comparing.kind) (place_of c.args.comparing.at) c.arm_of-one.result c.arm_of-other.result c.in-Ok.pair c.in-Ok.ensures.does (subst (λ (a : Arm). IsSomeArm c.maker.inside.builder (map sketch_of c.maker.inside.sketch.items) a) (sym c.arm_of-one.ensures) (some_arm c.maker.inside.builder (map sketch_of c.maker.inside.sketch.items) c.args.first (arms_head c.args.first (c.args.second ∷ []) c.requires.arms) (subst (λ (x : Making). IsSomeValue x.made x.drawn c.args.first) (sym c.maker.view_is) (c.args.maker.now.bounds, c.requires.first.0, c.requires.first.1, c.requires.first.2)))) (subst (λ (a : Arm). IsSomeArm c.maker.inside.builder (map sketch_of c.maker.inside.sketch.items) a) (sym c.arm_of-other.ensures) (some_arm c.maker.inside.builder (map sketch_of c.maker.inside.sketch.items) c.args.second (arms_tail c.args.first (c.args.second ∷ []) c.requires.arms) (subst (λ (x : Making). IsSomeValue x.made x.drawn c.args.second) (sym c.maker.view_is) (c.args.maker.now.bounds, c.requires.second.0, c.requires.second.1, c.requires.second.2))))

pub invariant_of-maker-in_err-list-in-Later : goal.invariant_of-maker-in_err-list-in-Later
invariant_of-maker-in_err-list-in-Later c = said_sketch c.maker.inside.builder c.compare_arms.new.builder (map sketch_of c.maker.inside.sketch.items) (map sketch_of c.compare_arms.new.sketch.items) (kind_of c.args.comparing.kind) (place_of c.args.comparing.at) c.arm_of-one.result c.arm_of-other.result c.in-Ok.pair c.in-Ok.ensures.does (subst (λ (a : Arm). IsSomeArm c.maker.inside.builder (map sketch_of c.maker.inside.sketch.items) a) (sym c.arm_of-one.ensures) (some_arm c.maker.inside.builder (map sketch_of c.maker.inside.sketch.items) c.args.first (arms_head c.args.first (c.args.second ∷ []) c.requires.arms) (subst (λ (x : Making). IsSomeValue x.made x.drawn c.args.first) (sym c.maker.view_is) (c.args.maker.now.bounds, c.requires.first.0, c.requires.first.1, c.requires.first.2)))) (subst (λ (a : Arm). IsSomeArm c.maker.inside.builder (map sketch_of c.maker.inside.sketch.items) a) (sym c.arm_of-other.ensures) (some_arm c.maker.inside.builder (map sketch_of c.maker.inside.sketch.items) c.args.second (arms_tail c.args.first (c.args.second ∷ []) c.requires.arms) (subst (λ (x : Making). IsSomeValue x.made x.drawn c.args.second) (sym c.maker.view_is) (c.args.maker.now.bounds, c.requires.second.0, c.requires.second.1, c.requires.second.2))))

pub invariant_of-maker-in-Later : goal.invariant_of-maker-in-Later
invariant_of-maker-in-Later c = said_sketch c.maker.inside.builder c.compare_arms.new.builder (map sketch_of c.maker.inside.sketch.items) (map sketch_of c.compare_arms.new.sketch.items) (kind_of c.args.comparing.kind) (place_of c.args.comparing.at) c.arm_of-one.result c.arm_of-other.result c.in-Ok.pair c.in-Ok.ensures.does (subst (λ (a : Arm). IsSomeArm c.maker.inside.builder (map sketch_of c.maker.inside.sketch.items) a) (sym c.arm_of-one.ensures) (some_arm c.maker.inside.builder (map sketch_of c.maker.inside.sketch.items) c.args.first (arms_head c.args.first (c.args.second ∷ []) c.requires.arms) (subst (λ (x : Making). IsSomeValue x.made x.drawn c.args.first) (sym c.maker.view_is) (c.args.maker.now.bounds, c.requires.first.0, c.requires.first.1, c.requires.first.2)))) (subst (λ (a : Arm). IsSomeArm c.maker.inside.builder (map sketch_of c.maker.inside.sketch.items) a) (sym c.arm_of-other.ensures) (some_arm c.maker.inside.builder (map sketch_of c.maker.inside.sketch.items) c.args.second (arms_tail c.args.first (c.args.second ∷ []) c.requires.arms) (subst (λ (x : Making). IsSomeValue x.made x.drawn c.args.second) (sym c.maker.view_is) (c.args.maker.now.bounds, c.requires.second.0, c.requires.second.1, c.requires.second.2))))

pub returns-in_ok-list-in-Next-clause-does : goal.returns-in_ok-list-in-Next-clause-does
returns-in_ok-list-in-Next-clause-does c = rw c.in-Next.is (subst (λ (x : Making). Links x (making c.compare_arms.new.builder (map sketch_of c.compare_arms.new.sketch.items) c.pair_bounds.new.bounds) Next (kind_of c.args.comparing.kind) (place_of c.args.comparing.at) c.args.first c.args.second (Ok (values.Bool c.in-Ok.pair c.in_ok-list-in-Next.list))) c.maker.view_is
    (link_next (kind_of c.args.comparing.kind) (place_of c.args.comparing.at) c.maker.inside.builder c.compare_arms.new.builder (map sketch_of c.maker.inside.sketch.items) (map sketch_of c.compare_arms.new.sketch.items) c.maker.inside.bounds c.pair_bounds.new.bounds c.args.first c.args.second c.requires.arms c.in-Ok.pair c.in_ok-list-in-Next.list (subst (λ (a : Arm). SaysTwo c.maker.inside.builder (map sketch_of c.maker.inside.sketch.items) c.compare_arms.new.builder (map sketch_of c.compare_arms.new.sketch.items) (kind_of c.args.comparing.kind) (place_of c.args.comparing.at) a (arm_of c.args.second) (Ok c.in-Ok.pair)) c.arm_of-one.ensures (subst (λ (a : Arm). SaysTwo c.maker.inside.builder (map sketch_of c.maker.inside.sketch.items) c.compare_arms.new.builder (map sketch_of c.compare_arms.new.sketch.items) (kind_of c.args.comparing.kind) (place_of c.args.comparing.at) c.arm_of-one.result a (Ok c.in-Ok.pair)) c.arm_of-other.ensures c.in-Ok.ensures.does))
    (subst (λ (a : Arm). AddsList c.maker.inside.bounds c.pair_bounds.new.bounds (arm_bounds (kind_of c.args.comparing.kind) (stand_of c.compare_arms.new.builder).trees a (arm_of c.args.second)) (Ok c.in_ok-list-in-Next.list)) c.arm_of-one.ensures
    (subst (λ (a : Arm). AddsList c.maker.inside.bounds c.pair_bounds.new.bounds (arm_bounds (kind_of c.args.comparing.kind) (stand_of c.compare_arms.new.builder).trees c.arm_of-one.result a) (Ok c.in_ok-list-in-Next.list)) c.arm_of-other.ensures c.in_ok-list-in-Next.ensures))))

pub returns-in_ok-list-in-Later-clause-does : goal.returns-in_ok-list-in-Later-clause-does
returns-in_ok-list-in-Later-clause-does c = rw c.in-Later.is (subst (λ (x : Making). Links x (making c.compare_arms.new.builder (map sketch_of c.compare_arms.new.sketch.items) c.no_bounds.new.bounds) Later (kind_of c.args.comparing.kind) (place_of c.args.comparing.at) c.args.first c.args.second (Ok (values.Bool c.not.result c.in_ok-list-in-Later.list))) c.maker.view_is
    (link_later (kind_of c.args.comparing.kind) (place_of c.args.comparing.at) c.maker.inside.builder c.compare_arms.new.builder (map sketch_of c.maker.inside.sketch.items) (map sketch_of c.compare_arms.new.sketch.items) c.maker.inside.bounds c.no_bounds.new.bounds c.args.first c.args.second c.requires.arms c.in-Ok.pair c.not.result c.in_ok-list-in-Later.list (subst (λ (a : Arm). SaysTwo c.maker.inside.builder (map sketch_of c.maker.inside.sketch.items) c.compare_arms.new.builder (map sketch_of c.compare_arms.new.sketch.items) (kind_of c.args.comparing.kind) (place_of c.args.comparing.at) a (arm_of c.args.second) (Ok c.in-Ok.pair)) c.arm_of-one.ensures (subst (λ (a : Arm). SaysTwo c.maker.inside.builder (map sketch_of c.maker.inside.sketch.items) c.compare_arms.new.builder (map sketch_of c.compare_arms.new.sketch.items) (kind_of c.args.comparing.kind) (place_of c.args.comparing.at) c.arm_of-one.result a (Ok c.in-Ok.pair)) c.arm_of-other.ensures c.in-Ok.ensures.does)) c.not.ensures.negates c.in_ok-list-in-Later.ensures))

pub returns-in-Err-clause-does : goal.returns-in-Err-clause-does
returns-in-Err-clause-does c = subst (λ (x : Making). Links x (making c.compare_arms.new.builder (map sketch_of c.give_up.new.sketch.items) c.maker.inside.bounds) c.args.comparing.spread (kind_of c.args.comparing.kind) (place_of c.args.comparing.at) c.args.first c.args.second (Err c.in-Err.stop)) c.maker.view_is
    (link_stop (kind_of c.args.comparing.kind) (place_of c.args.comparing.at) c.maker.inside.builder c.compare_arms.new.builder (map sketch_of c.maker.inside.sketch.items) (map sketch_of c.compare_arms.new.sketch.items) c.maker.inside.bounds c.maker.inside.bounds c.args.first c.args.second c.requires.arms c.args.comparing.spread (map sketch_of c.give_up.new.sketch.items) c.in-Err.stop (subst (λ (a : Arm). SaysTwo c.maker.inside.builder (map sketch_of c.maker.inside.sketch.items) c.compare_arms.new.builder (map sketch_of c.compare_arms.new.sketch.items) (kind_of c.args.comparing.kind) (place_of c.args.comparing.at) a (arm_of c.args.second) (Err c.in-Err.stop)) c.arm_of-one.ensures (subst (λ (a : Arm). SaysTwo c.maker.inside.builder (map sketch_of c.maker.inside.sketch.items) c.compare_arms.new.builder (map sketch_of c.compare_arms.new.sketch.items) (kind_of c.args.comparing.kind) (place_of c.args.comparing.at) c.arm_of-one.result a (Err c.in-Err.stop)) c.arm_of-other.ensures c.in-Err.ensures.does)))
