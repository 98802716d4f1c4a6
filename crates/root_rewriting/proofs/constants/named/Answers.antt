use Rattle.std.proofs.Common.{List, length, subst, sym, refl, arith}
use Rattle.script_roots.specs.Fresh.{named_from}
use Rattle.root_rewriting.specs.Nodes.{parts_at, trees_in}
use Rattle.root_rewriting.proofs.Arena.{nodes_length}
use Rattle.root_rewriting.specs.Table.{AreEntriesBelow}
use Rattle.root_rewriting.specs.declared.constants.Fresh.{Fresh}
use Rattle.root_rewriting.proofs.Alike.{part_within}
use Rattle.root_rewriting.proofs.Tables.{NamedSoFar, entries_end, named_all, named_next}
use Rattle.root_rewriting.proofs.constants.named.Goals as goal

pub loop-at-init : goal.loop-at-init
loop-at-init c = subst (λ (fs : List Fresh). NamedSoFar (trees_in c.args.trees.now) c.args.order.now 0 0 0 fs) (sym c.in_ok-table.ensures.items) (record { count = refl; names = refl; below = tt })

pub next-requires-clause-at : goal.next-requires-clause-at
next-requires-clause-at c = part_within (length c.args.trees.now) c.args.order.now c.loop-at.at-index c.requires c.loop-at-test.true

pub loop-at-preserved : goal.loop-at-preserved
loop-at-preserved c = record {
  count = omega (arith, c.next.ensures.count, c.loop-at.invariant.count);
  names = named_next (trees_in c.args.trees.now) c.args.order.now c.loop-at.at-index c.loop-at.counts.roots c.loop-at.counts.quotients c.next.new.self.roots c.next.new.self.quotients c.loop-at.table.items c.push.new.self.items
      c.next.result (named_from 0 0 (parts_at (trees_in c.args.trees.now) c.args.order.now)) c.loop-at-test.true c.in_ok-push.ensures.items c.next.ensures.named c.loop-at.invariant.names;
  below = entries_end (length (trees_in c.args.trees.now)) c.loop-at.table.items c.push.new.self.items c.next.result c.in_ok-push.ensures.items c.loop-at.invariant.below
      (omega (arith, c.next.ensures.at, part_within (length c.args.trees.now) c.args.order.now c.loop-at.at-index c.requires c.loop-at-test.true, nodes_length c.args.trees.now));
}

pub returns-clause-named : goal.returns-clause-named
returns-clause-named c = named_all (trees_in c.args.trees.now) c.args.order.now c.loop-at.at-index c.loop-at.counts.roots c.loop-at.counts.quotients c.loop-at.table.items c.loop-at-test.false c.loop-at.invariant

pub returns-clause-below : goal.returns-clause-below
returns-clause-below c = subst (λ n. AreEntriesBelow n c.loop-at.table.items) (nodes_length c.args.trees.now) c.loop-at.invariant.below
