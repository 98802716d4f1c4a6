use Rattle.std.proofs.Common.{◌∷◌, map, List, ◌∙◌, ap, sym, subst, refl}
use Rattle.std.specs.Prelude.{Option, Result, Err}
use Rattle.smt_sexp.specs.Views.{place_of}
use Rattle.term_build.specs.Shapes.{sketch_of}
use Rattle.term_build.specs.Steps.{IsTreeOf, tree_of}
use Rattle.term_build.specs.declared.sketch.Arm.{Arm}
use Rattle.term_build.specs.declared.stop.Stop.{Stop}
use Rattle.term_build.proofs.Emits.{err_is}
use Rattle.value_build.specs.Arms.{IsSomeArm, events_of_leaf, tree_of_leaf}
use Rattle.value_build.specs.Meetings.{Looked, Looks}
use Rattle.value_build.specs.declared.lift.Leaf.{Leaf}
use Rattle.value_build.specs.declared.lift.Meeting.{Meeting}
use Rattle.value_build.specs.declared.lift.Entry.{Entry}
use Rattle.value_build.specs.declared.lift.Entry.TheVariants as entry
use Rattle.value_build.proofs.Meeting.{first_parted, first_stops, made_looked, made_stops, met_first, met_second, second_parted, second_stops, some_tree_below, trees_looked, turns_made, turns_parted}
use Rattle.value_build.proofs.lift.look.Goals as goal

pub part-requires : goal.part-requires
part-requires c = subst (λ (a : Arm). IsSomeArm c.args.builder.now (map sketch_of c.args.sketch.now) a) c.in-Choice-default.is-0 (met_first c.args.builder.now (map sketch_of c.args.sketch.now) c.requires.known.0 c.args.meeting c.args.left.now.items c.requires.known.1)

pub returns-in_err-condition-in-Choice-default-clause-does : goal.returns-in_err-condition-in-Choice-default-clause-does
returns-in_err-condition-in-Choice-default-clause-does c =
    subst (λ (r : Result Entry Stop). Looks c.args.builder.now c.part.new.builder (map sketch_of c.args.sketch.now) c.args.task (place_of c.args.at) c.args.meeting c.args.left.now.items c.args.left.now.items r)
    (sym (err_is c.from_residual.result c.in_err-condition-in-Choice-default.field-0.0 c.from_residual.ensures))
    (λ ps h. first_stops c.args.task (place_of c.args.at) c.args.builder.now c.part.new.builder (map sketch_of c.args.sketch.now) ps c.args.meeting c.args.left.now.items c.in-Choice-default.k c.in_err-condition-in-Choice-default.field-0.0 c.in-Choice-default.is-0 h
    c.in_err-condition-in-Choice-default.ensures.does)

pub part-requires-in-Tree-Choice : goal.part-requires-in-Tree-Choice
part-requires-in-Tree-Choice c = subst (λ (a : Arm). IsSomeArm c.args.builder.now (map sketch_of c.args.sketch.now) a) c.in-Tree-Choice.is-1 (met_second c.args.builder.now (map sketch_of c.args.sketch.now) c.requires.known.0 c.args.meeting c.args.left.now.items c.requires.known.1)

pub returns-in_err-condition-in-Tree-Choice-clause-does : goal.returns-in_err-condition-in-Tree-Choice-clause-does
returns-in_err-condition-in-Tree-Choice-clause-does c =
    subst (λ (r : Result Entry Stop). Looks c.args.builder.now c.part-in-Tree-Choice.new.builder (map sketch_of c.args.sketch.now) c.args.task (place_of c.args.at) c.args.meeting c.args.left.now.items c.args.left.now.items r)
    (sym (err_is c.from_residual-in_err-condition-in-Tree-Choice.result c.in_err-condition-in-Tree-Choice.field-0.0 c.from_residual-in_err-condition-in-Tree-Choice.ensures))
    (λ ps h. second_stops c.args.task (place_of c.args.at) c.args.builder.now c.part-in-Tree-Choice.new.builder (map sketch_of c.args.sketch.now) ps c.args.meeting c.args.left.now.items c.in-Tree-Choice.field-0-0 c.in-Tree-Choice.k c.in_err-condition-in-Tree-Choice.field-0.0
    c.in-Tree-Choice.is-0 c.in-Tree-Choice.is-1 h c.in_err-condition-in-Tree-Choice.ensures.does)

pub apply_leaf-requires-clause-first : goal.apply_leaf-requires-clause-first
apply_leaf-requires-clause-first c = some_tree_below c.args.builder.now (map sketch_of c.args.sketch.now) c.in-Tree-Tree.i
    (subst (λ (a : Arm). IsSomeArm c.args.builder.now (map sketch_of c.args.sketch.now) a) c.in-Tree-Tree.is-0 (met_first c.args.builder.now (map sketch_of c.args.sketch.now) c.requires.known.0 c.args.meeting c.args.left.now.items c.requires.known.1))

pub apply_leaf-requires-clause-second : goal.apply_leaf-requires-clause-second
apply_leaf-requires-clause-second c = some_tree_below c.args.builder.now (map sketch_of c.args.sketch.now) c.in-Tree-Tree.j
    (subst (λ (a : Arm). IsSomeArm c.args.builder.now (map sketch_of c.args.sketch.now) a) c.in-Tree-Tree.is-1 (met_second c.args.builder.now (map sketch_of c.args.sketch.now) c.requires.known.0 c.args.meeting c.args.left.now.items c.requires.known.1))

pub returns-in_err-apply_leaf-in-Some-clause-does : goal.returns-in_err-apply_leaf-in-Some-clause-does
returns-in_err-apply_leaf-in-Some-clause-does c =
    subst (λ (r : Result Entry Stop). Looks c.args.builder.now c.apply_leaf.new.builder (map sketch_of c.args.sketch.now) c.args.task (place_of c.args.at) c.args.meeting c.args.left.now.items c.args.left.now.items r)
    (sym (err_is c.from_residual-in_err-apply_leaf-in-Some.result c.in_err-apply_leaf-in-Some.field-0.0 c.from_residual-in_err-apply_leaf-in-Some.ensures))
    (subst (λ (t : Option Leaf). Looks c.args.builder.now c.apply_leaf.new.builder (map sketch_of c.args.sketch.now) t (place_of c.args.at) c.args.meeting c.args.left.now.items c.args.left.now.items (Err c.in_err-apply_leaf-in-Some.field-0.0)) (sym c.in-Some.is)
    (λ ps h. made_stops (place_of c.args.at) c.args.builder.now (map sketch_of c.args.sketch.now) c.in-Some.leaf c.apply_leaf.new.builder ps c.args.meeting c.args.left.now.items c.in-Tree-Tree.i c.in-Tree-Tree.j c.in_err-apply_leaf-in-Some.field-0.0 c.in-Tree-Tree.is-0 c.in-Tree-Tree.is-1 h
    c.in_err-apply_leaf-in-Some.ensures.does))

pub returns-in_ok-push_front-in-Choice-default-2-clause-does : goal.returns-in_ok-push_front-in-Choice-default-2-clause-does
returns-in_ok-push_front-in-Choice-default-2-clause-does c = λ ps h.
    let y : Meeting = record { first = c.in_ok-condition-in-Choice-default.one; second = c.args.meeting.second } in
    let z : Meeting = record { first = c.in_ok-condition-in-Choice-default.other; second = c.args.meeting.second } in
    first_parted c.args.task (place_of c.args.at) c.args.builder.now c.part.new.builder (map sketch_of c.args.sketch.now) ps c.args.meeting y z c.args.left.now.items c.push_front-in-Choice-default.new.self.items c.in-Choice-default.k c.in_ok-condition-in-Choice-default.condition
    c.in_ok-condition-in-Choice-default.one c.in_ok-condition-in-Choice-default.other c.in-Choice-default.is-0 h c.in_ok-condition-in-Choice-default.ensures.parts c.in_ok-condition-in-Choice-default.ensures.does.0 refl refl
    (c.in_ok-push_front-in-Choice-default-2.ensures.items ∙ ap (λ (l : List Meeting). y ∷ l) c.in_ok-push_front-in-Choice-default.ensures.items)

pub returns-in_ok-push_front-in-Choice-default-2-clause-turns : goal.returns-in_ok-push_front-in-Choice-default-2-clause-turns
returns-in_ok-push_front-in-Choice-default-2-clause-turns c =
    let y : Meeting = record { first = c.in_ok-condition-in-Choice-default.one; second = c.args.meeting.second } in
    let z : Meeting = record { first = c.in_ok-condition-in-Choice-default.other; second = c.args.meeting.second } in
    turns_parted c.args.builder.now c.part.new.builder y z c.args.meeting c.args.left.now.items c.push_front-in-Choice-default.new.self.items c.in_ok-condition-in-Choice-default.ensures.does.0
    (c.in_ok-push_front-in-Choice-default-2.ensures.items ∙ ap (λ (l : List Meeting). y ∷ l) c.in_ok-push_front-in-Choice-default.ensures.items)

pub returns-in_ok-push_front-in-Tree-Choice-2-clause-does : goal.returns-in_ok-push_front-in-Tree-Choice-2-clause-does
returns-in_ok-push_front-in-Tree-Choice-2-clause-does c = λ ps h.
    let y : Meeting = record { first = c.args.meeting.first; second = c.in_ok-condition-in-Tree-Choice.one } in
    let z : Meeting = record { first = c.args.meeting.first; second = c.in_ok-condition-in-Tree-Choice.other } in
    second_parted c.args.task (place_of c.args.at) c.args.builder.now c.part-in-Tree-Choice.new.builder (map sketch_of c.args.sketch.now) ps c.args.meeting y z c.args.left.now.items c.push_front-in-Tree-Choice-2.new.self.items c.in-Tree-Choice.field-0-0 c.in-Tree-Choice.k
    c.in_ok-condition-in-Tree-Choice.condition c.in_ok-condition-in-Tree-Choice.one c.in_ok-condition-in-Tree-Choice.other c.in-Tree-Choice.is-0 c.in-Tree-Choice.is-1 h c.in_ok-condition-in-Tree-Choice.ensures.parts c.in_ok-condition-in-Tree-Choice.ensures.does.0 refl refl
    (c.in_ok-push_front-in-Tree-Choice-2.ensures.items ∙ ap (λ (l : List Meeting). y ∷ l) c.in_ok-push_front-in-Tree-Choice.ensures.items)

pub returns-in_ok-push_front-in-Tree-Choice-2-clause-turns : goal.returns-in_ok-push_front-in-Tree-Choice-2-clause-turns
returns-in_ok-push_front-in-Tree-Choice-2-clause-turns c =
    let y : Meeting = record { first = c.args.meeting.first; second = c.in_ok-condition-in-Tree-Choice.one } in
    let z : Meeting = record { first = c.args.meeting.first; second = c.in_ok-condition-in-Tree-Choice.other } in
    turns_parted c.args.builder.now c.part-in-Tree-Choice.new.builder y z c.args.meeting c.args.left.now.items c.push_front-in-Tree-Choice-2.new.self.items c.in_ok-condition-in-Tree-Choice.ensures.does.0
    (c.in_ok-push_front-in-Tree-Choice-2.ensures.items ∙ ap (λ (l : List Meeting). y ∷ l) c.in_ok-push_front-in-Tree-Choice.ensures.items)

pub returns-in_ok-apply_leaf-in-Some-clause-does : goal.returns-in_ok-apply_leaf-in-Some-clause-does
returns-in_ok-apply_leaf-in-Some-clause-does c = λ ps h.
    subst (λ (t : Option Leaf). Looked c.args.builder.now c.apply_leaf.new.builder (map sketch_of c.args.sketch.now) t (place_of c.args.at) ps c.args.left.now.items (entry.Made c.in_ok-apply_leaf-in-Some.field-0)) (sym c.in-Some.is)
    (made_looked (place_of c.args.at) c.args.builder.now (map sketch_of c.args.sketch.now) c.in-Some.leaf c.apply_leaf.new.builder ps c.args.meeting c.args.left.now.items c.in-Tree-Tree.i c.in-Tree-Tree.j c.in_ok-apply_leaf-in-Some.field-0 c.in-Tree-Tree.is-0 c.in-Tree-Tree.is-1 h
    c.in_ok-apply_leaf-in-Some.ensures.does)

pub returns-in_ok-apply_leaf-in-Some-clause-turns : goal.returns-in_ok-apply_leaf-in-Some-clause-turns
returns-in_ok-apply_leaf-in-Some-clause-turns c =
    let t = tree_of c.args.builder.now c.in-Tree-Tree.i in
    let u = tree_of c.args.builder.now c.in-Tree-Tree.j in
    turns_made (IsTreeOf c.apply_leaf.new.builder (tree_of_leaf c.in-Some.leaf (place_of c.args.at) t u)) c.args.builder.now c.apply_leaf.new.builder (events_of_leaf c.in-Some.leaf (place_of c.args.at) t u) c.in_ok-apply_leaf-in-Some.field-0 c.args.meeting c.args.left.now.items c.in_ok-apply_leaf-in-Some.ensures.does

pub returns-in-None-clause-does : goal.returns-in-None-clause-does
returns-in-None-clause-does c = λ ps h.
    subst (λ (t : Option Leaf). Looked c.args.builder.now c.args.builder.now (map sketch_of c.args.sketch.now) t (place_of c.args.at) ps c.args.left.now.items (entry.Trees c.in-Tree-Tree.i c.in-Tree-Tree.j)) (sym c.in-None.is)
    (trees_looked (place_of c.args.at) c.args.builder.now (map sketch_of c.args.sketch.now) c.args.builder.now ps c.args.meeting c.args.left.now.items c.args.left.now.items c.in-Tree-Tree.i c.in-Tree-Tree.j refl refl c.in-Tree-Tree.is-0 c.in-Tree-Tree.is-1 h)
