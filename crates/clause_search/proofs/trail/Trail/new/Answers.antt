use Rattle.std.proofs.Common.{true≢false, sym}
use Rattle.clause_search.proofs.Sets.{none_true}
use Rattle.clause_search.proofs.trail.Trail.new.Goals as goal

pub returns-clause-made : goal.returns-clause-made
returns-clause-made c = record {
  same_atoms = c.atoms-atoms.ensures;
  same_axes = c.axes-axes.ensures;
  same_helpers = c.helpers-helpers.ensures;
  derived = λ l k. absurd (none_true c.in_ok-new.field-0 c.in_ok-new.ensures.open l k);
  failing = λ f. absurd (true≢false (sym f));
  stands = λ l k. absurd (none_true c.in_ok-new-2.field-0 c.in_ok-new-2.ensures.open l k);
  watching = c.in_ok-new-3.ensures c.in_ok-new.field-0;
}
