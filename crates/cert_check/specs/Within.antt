-- Lines inside a tree.
use Rattle.std.specs.Prelude.{◌≡◌, ℕ, List, Option, Result, Ok, Err, IsTrue}
use Rattle.std.specs.Borrow.{Bor}
use Rattle.cover_model.specs.State.{State, Loosenings}
use Rattle.cover_line.specs.declared.rule.Rule.{Rule}
use Rattle.cover_line.specs.Views.{line_of as rule_of}
use Rattle.cert_read.specs.CertLine.{CertLine, rule_line}
use Rattle.poly_graph.specs.ProblemViews.{Parts, problem_of}
use Rattle.cert_model.specs.Due.{Standing, lemma_due, tree_due, names_well}
use Rattle.cert_model.specs.Accepted.{next}
use Rattle.cert_check.specs.declared.refusal.Refusal.{Refusal}
use Rattle.cert_check.specs.Faults.{IsLineRefusal}

-- the line has this fault, wherever it stands in the tree of a lemma or, after the first line, in the main tree
pub record IsRefusedInTree (p : Parts) (l : CertLine) (r : Refusal) : Type 0 where
  pub lemma : (b : Option ℕ) (s : Loosenings) (k : ℕ) (lemmas : List State) (L S : State) (pending : List State) → IsLineRefusal r (next (problem_of p) b (lemma_due s k lemmas L S pending) l)
  pub main : (b : Option ℕ) (s : Loosenings) (lemmas : List State) (S : State) (pending : List State) (done : List Standing) → IsLineRefusal r (next (problem_of p) b (tree_due s lemmas S pending done) l)

-- the line is a rule's, and names what is there; or its fault
abbrev pub IsStepInTree : Parts → CertLine → Result (Bor Rule) Refusal → Type 0
IsStepInTree p l (Ok step) = (l ≡ rule_line (rule_of step.now)) × IsTrue (names_well (problem_of p) (rule_of step.now))
IsStepInTree p l (Err r) = IsRefusedInTree p l r
