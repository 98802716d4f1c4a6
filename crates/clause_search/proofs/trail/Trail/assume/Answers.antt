use Rattle.std.proofs.Common.{◌≡◌, ◌∙◌, sym, inr, refl, true, not}
use Rattle.clause_search.proofs.Assumes.{derived_more, failing_more, now_failing, derived_with, stands_after, must_stand}
use Rattle.clause_search.proofs.Sets.{sets_still, sets_there, open_stands_not}
use Rattle.clause_search.specs.Table.{value_at}
use Rattle.clause_search.proofs.trail.Trail.assume.Goals as goal

pub returns-then-is_open-clause-kept : goal.returns-then-is_open-clause-kept
returns-then-is_open-clause-kept c d h = record {
  same_atoms = h.same_atoms;
  same_axes = h.same_axes;
  same_helpers = h.same_helpers;
  derived = derived_with d.clauses c.args.self.now.values c.args.self.now.assumed c.make_true.new.self c.args.literal c.make_true.ensures.set c.requires.consistent h.derived
      c.make_true-then-is_open.new.self c.make_true-then-is_open.ensures.set;
  failing = λ f. failing_more d.clauses c.args.self.now.values c.args.self.now.assumed c.make_true.new.self c.args.literal c.make_true.ensures.set c.requires.consistent h.derived (h.failing f);
  stands = stands_after c.args.self.now.assumed c.make_true.new.self c.args.self.now.values c.make_true-then-is_open.new.self c.args.literal c.make_true.ensures.set (c.args.self.now.failed ≡ true) h.stands
      (sets_still c.args.self.now.values c.make_true-then-is_open.new.self c.args.literal c.make_true-then-is_open.ensures.set
      (λ k. open_stands_not (value_at c.args.self.now.values c.args.literal.variable) (not c.args.literal.positive) (sym c.is_open.ensures ∙ c.if-is_open.true) k))
      (sets_there c.args.self.now.values c.make_true-then-is_open.new.self c.args.literal c.make_true-then-is_open.ensures.set);
  watching = c.enqueue.ensures d c.args.self.now.values c.make_true-then-is_open.new.self h.watching c.make_true-then-is_open.ensures.set (sym c.is_open.ensures ∙ c.if-is_open.true);
}

pub returns-then-is_false-clause-kept : goal.returns-then-is_false-clause-kept
returns-then-is_false-clause-kept c d h = record {
  same_atoms = h.same_atoms;
  same_axes = h.same_axes;
  same_helpers = h.same_helpers;
  derived = derived_more d.clauses c.args.self.now.values c.args.self.now.assumed c.make_true.new.self c.args.literal c.make_true.ensures.set c.requires.consistent h.derived;
  failing = λ _. now_failing d.clauses c.args.self.now.values c.args.self.now.assumed c.make_true.new.self c.args.literal c.make_true.ensures.set c.requires.consistent h.derived
      (sym c.is_false.ensures ∙ c.if-is_false.true);
  stands = λ _ _. inr refl;
  watching = h.watching;
}

pub returns-else-is_false-clause-kept : goal.returns-else-is_false-clause-kept
returns-else-is_false-clause-kept c d h = record {
  same_atoms = h.same_atoms;
  same_axes = h.same_axes;
  same_helpers = h.same_helpers;
  derived = derived_more d.clauses c.args.self.now.values c.args.self.now.assumed c.make_true.new.self c.args.literal c.make_true.ensures.set c.requires.consistent h.derived;
  failing = λ f. failing_more d.clauses c.args.self.now.values c.args.self.now.assumed c.make_true.new.self c.args.literal c.make_true.ensures.set c.requires.consistent h.derived (h.failing f);
  stands = stands_after c.args.self.now.assumed c.make_true.new.self c.args.self.now.values c.args.self.now.values c.args.literal c.make_true.ensures.set (c.args.self.now.failed ≡ true) h.stands
      (λ m k. k) (must_stand c.args.self.now.values c.args.literal (sym c.is_open.ensures ∙ c.if-is_open.false) (sym c.is_false.ensures ∙ c.if-is_false.false));
  watching = h.watching;
}
