use Rattle.std.proofs.Common.{◌≡◌, ℕ, List, arith, sym, subst}
use Rattle.std.specs.Prelude.{IfOk}
use Rattle.std.specs.declared.vec.Vec.{Vec}
use Rattle.std.specs.declared.alloc.Global.{Global}
use Rattle.value_build.specs.Groups.{IsGathering, expanded}
use Rattle.value_build.specs.declared.gather.Group.{Group}
use Rattle.value_build.proofs.Folds.{nil_of}
use Rattle.value_build.proofs.Groups.{gathering_begun, gathering_room, gathering_step, gathering_done}
use Rattle.value_build.proofs.gather.gather.Goals as goal

pub loop-next-init : goal.loop-next-init
loop-next-init c = subst (λ (gs : List Group). IsGathering c.args.builder.now c.args.nodes.now c.args.nodes.now gs c.new-places.result) (sym c.new-groups.ensures.items)
    (gathering_begun c.args.builder.now c.args.nodes.now c.new-places.result c.trees_are_shared.ensures c.requires.nodes (λ q. grind arith))

pub add-requires-clause-made : goal.add-requires-clause-made
add-requires-clause-made c = c.loop-next.invariant.made

pub add-requires-clause-factor : goal.add-requires-clause-factor
add-requires-clause-factor c = (subst (λ (ks : List ℕ). IsGathering c.args.builder.now c.args.nodes.now ks c.loop-next.groups.items c.loop-next.places) c.in-Some.ensures.cases.0 c.loop-next.invariant).below.0

pub add-requires-clause-grouped : goal.add-requires-clause-grouped
add-requires-clause-grouped c = c.loop-next.invariant.grouped

pub add-requires-clause-room : goal.add-requires-clause-room
add-requires-clause-room c = omega (
  arith,
  c.requires.room,
  gathering_room c.args.builder.now c.args.nodes.now c.in-Some.later.now c.in-Some.next.now c.loop-next.groups.items c.loop-next.places
      (subst (λ (ks : List ℕ). IsGathering c.args.builder.now c.args.nodes.now ks c.loop-next.groups.items c.loop-next.places) c.in-Some.ensures.cases.0 c.loop-next.invariant),
)

pub loop-next-preserved : goal.loop-next-preserved
loop-next-preserved c = gathering_step c.args.builder.now c.args.nodes.now c.in-Some.later.now c.in-Some.next.now c.loop-next.groups.items c.add.new.groups.items c.loop-next.places c.add.new.places
    (subst (λ (ks : List ℕ). IsGathering c.args.builder.now c.args.nodes.now ks c.loop-next.groups.items c.loop-next.places) c.in-Some.ensures.cases.0 c.loop-next.invariant) c.in_ok-add.ensures

pub returns : goal.returns
returns c = gathering_done c.args.builder.now c.args.nodes.now c.loop-next.groups.items c.loop-next.places
    (subst (λ (ks : List ℕ). IsGathering c.args.builder.now c.args.nodes.now ks c.loop-next.groups.items c.loop-next.places) (nil_of c.loop-next.left.now c.in_default.ensures.cases) c.loop-next.invariant)
    (λ (factors : Vec ℕ Global). factors.items) c.expand.result
    (subst (λ (gs : List Group). IfOk c.expand.result (λ (factors : Vec ℕ Global). factors.items ≡ expanded gs)) c.deref.ensures.value c.expand.ensures)
