use Rattle.std.proofs.Common.{◌≡◌, length, take}
use Rattle.script_model.specs.Reading.{Names}
use Rattle.smt_sexp.specs.declared.sexps.Sexps.{Sexps}
use Rattle.sort_check.specs.Scopes.{IsKnown}
use Rattle.sort_check.specs.Sorts.{Sorted}
use Rattle.sort_check.proofs.scope.Scope.forget_to.Given as goal

abbrev pub invariant-loop-self : goal.invariant-loop-self
invariant-loop-self l = record {
  rest : take l.commands l.self.force.items ≡ take l.commands l.fn.self.force.items;
  known : (theory : Names Sorted) (s : Sexps) → IsKnown theory s l.fn.self → IsKnown theory s l.self;
  marks : l.self.marks ≡ l.fn.self.marks;
}

abbrev pub decreases-loop-self : goal.decreases-loop-self
decreases-loop-self l = length l.self.force.items
