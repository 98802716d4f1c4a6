-- Narrowing, whatever it is by.
use Rattle.std.proofs.Common.{◌≡◌, true, Some, IsTrue}
use Rattle.interval_model.specs.Space.{Space, space_within}
use Rattle.poly_graph.specs.Problem.{IsProblem}
use Rattle.poly_graph.specs.ProblemViews.{Parts, problem_of}
use Rattle.cover_model.specs.State.{State}
use Rattle.cover_model.proofs.Lies.{narrowed_within}
use Rattle.cover_data.specs.declared.margins.Margins.{Margins}
use Rattle.cover_data.specs.Margins.{loosenings_of}
use Rattle.cover_rule.specs.declared.narrower.Narrower.{Narrower}
use Rattle.cover_rule.specs.declared.narrower.Narrower.TheVariants.{Pull, Push, Combine}
use Rattle.cover_rule.specs.Narrowers.{CanNarrow, NamesAtom, may_narrow, narrowing_of, narrows_to}

pub narrows_within : (p : Parts) → IsProblem (problem_of p) → (m : Margins) (S : State) (n : Narrower) (narrow : Space) → narrows_to p m S n ≡ Some narrow → IsTrue (space_within narrow S.space)
narrows_within p g m S n narrow e = narrowed_within (problem_of p) g (loosenings_of m) S (narrowing_of n) narrow e

pub can_narrow : (p : Parts) (m : Margins) (S : State) (n : Narrower) → NamesAtom p n → may_narrow p m S n ≡ true → CanNarrow p m S n
can_narrow p m S (Pull j) h e = h
can_narrow p m S (Push j) h e = h
can_narrow p m S (Combine ms) h e = e
