use Rattle.std.proofs.Common.{List, ℕ, length, sym, ap, subst, arith}
use Rattle.root_rewriting.specs.Nodes.{trees_in}
use Rattle.root_rewriting.proofs.Arena.{nodes_length}
use Rattle.root_rewriting.specs.Classes.{AreClasses}
use Rattle.root_rewriting.specs.Keys.{AreKeyed}
use Rattle.root_rewriting.proofs.Alike.{classes_none, classes_pushed}
use Rattle.root_rewriting.proofs.Keyed.{keyed_begins, keyed_pushed}
use Rattle.root_rewriting.proofs.classes.classes.Goals as goal

pub loop-alloc-init : goal.loop-alloc-init
loop-alloc-init c =
    let ts = trees_in c.args.trees.now in (
      subst (λ (cs : List ℕ). AreClasses ts cs) (sym c.in_ok-classes.ensures.items) (classes_none ts),
      keyed_begins ts c.in_ok-classes.classes.items c.new-of_keys.result c.in_ok-classes.ensures.items c.new-of_keys.ensures.empty,
    )

pub next_class-requires-clause-classes : goal.next_class-requires-clause-classes
next_class-requires-clause-classes c = subst (λ (cs : List ℕ). AreClasses (trees_in c.args.trees.now) cs) (sym c.as_slice.ensures.value) c.loop-alloc.invariant.0

pub next_class-requires-clause-keyed : goal.next_class-requires-clause-keyed
next_class-requires-clause-keyed c = subst (λ (cs : List ℕ). AreKeyed (trees_in c.args.trees.now) cs c.loop-alloc.of_keys) (sym c.as_slice.ensures.value) c.loop-alloc.invariant.1

pub next_class-requires-clause-some : goal.next_class-requires-clause-some
next_class-requires-clause-some c = omega (arith, ap length c.as_slice.ensures.value, c.len-in-loop-alloc.ensures, c.len-in-loop-alloc-2.ensures, c.loop-alloc-test.true, c.loop-alloc.classes.ok.0)

pub loop-alloc-preserved : goal.loop-alloc-preserved
loop-alloc-preserved c =
    let ts = trees_in c.args.trees.now in (
      classes_pushed ts c.loop-alloc.classes.items c.as_slice.result.now c.push.new.self.items c.in_ok-class.class c.as_slice.ensures.value c.in_ok-push.ensures.items c.loop-alloc.invariant.0
          (omega (arith, ap length c.as_slice.ensures.value, c.len-in-loop-alloc.ensures, c.len-in-loop-alloc-2.ensures, c.loop-alloc-test.true, c.loop-alloc.classes.ok.0, nodes_length c.args.trees.now)) c.in_ok-class.ensures.below c.in_ok-class.ensures.same,
      keyed_pushed ts c.loop-alloc.classes.items c.as_slice.result.now c.push.new.self.items c.in_ok-class.class c.next_class.new.of_keys c.as_slice.ensures.value c.in_ok-push.ensures.items c.in_ok-class.ensures.keyed,
    )

pub returns-clause-all : goal.returns-clause-all
returns-clause-all c = omega (arith, c.len-in-loop-alloc.ensures, c.len-in-loop-alloc-2.ensures, c.loop-alloc-test.false, c.loop-alloc.classes.ok.0, c.loop-alloc.invariant.0.within, nodes_length c.args.trees.now)
