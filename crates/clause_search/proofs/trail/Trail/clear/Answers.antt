use Rattle.std.proofs.Common.{true≢false, sym}
use Rattle.clause_search.proofs.Sets.{none_true}
use Rattle.clause_search.proofs.trail.Trail.clear.Goals as goal

pub returns-clause-kept : goal.returns-clause-kept
returns-clause-kept c d h = record {
  same_atoms = h.same_atoms;
  same_axes = h.same_axes;
  same_helpers = h.same_helpers;
  derived = λ l k. absurd (none_true c.clear.new.self c.clear.ensures.open l k);
  failing = λ f. absurd (true≢false (sym f));
  stands = λ l k. absurd (none_true c.clear-2.new.self c.clear-2.ensures.open l k);
  watching = c.restart.ensures d c.clear.new.self h.watching.lists_hold;
}
