use Rattle.std.proofs.Common.{inl, inr, not}
use Rattle.clause_search.proofs.Sets.{sets_still, open_stands_not}
use Rattle.clause_search.specs.Table.{value_at}
use Rattle.clause_search.proofs.Propagations.{unit_derived}
use Rattle.clause_search.proofs.trail.Trail.derive.Goals as goal

pub returns-clause-made : goal.returns-clause-made
returns-clause-made c = let h = c.requires.made in record {
  same_atoms = h.same_atoms;
  same_axes = h.same_axes;
  same_helpers = h.same_helpers;
  derived = unit_derived c.args.cnf.now c.args.self.now h c.args.literal c.requires.unit c.make_true.new.self c.make_true.ensures.set;
  failing = h.failing;
  stands = λ m k. elim (h.stands m k) [ inl t ↦ inl (sets_still c.args.self.now.values c.make_true.new.self c.args.literal c.make_true.ensures.set (λ o. open_stands_not (value_at c.args.self.now.values c.args.literal.variable) (not c.args.literal.positive) c.requires.unit.leaves.undecided o) m t) | inr f ↦ inr f ];
  watching = c.enqueue.ensures c.args.cnf.now c.args.self.now.values c.make_true.new.self h.watching c.make_true.ensures.set c.requires.unit.leaves.undecided;
}
