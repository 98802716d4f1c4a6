-- The problem that is built of commands.
use Rattle.std.specs.Prelude.{◌≡◌, ℕ, ◌≤◌, length, List, [], All, Option, nat_abs}
use Rattle.std.specs.Int.{IsGcd}
use Rattle.poly_graph.specs.AtomTable.{most_atoms}
use Rattle.poly_graph.specs.Problem.{Axis, Declared, real_between, any_bool, Problem, IsProblem}
use Rattle.poly_graph.specs.Shared.{IsGraph}
use Rattle.poly_graph.specs.Term.{Term, Node, graph_terms}
use Rattle.script_model.specs.Script.{Command}
use Rattle.script_forms.specs.ProblemOf.{IsProblemOf}
use Rattle.script_forms.specs.Walk.{Walked, stands, stops, walked}

-- the trees that a walk makes, each once, in the order in which it makes them
abbrev pub trees_made : Walked → List Term
trees_made (stands s) = s.trees
trees_made (stops at x) = []

-- these nodes are the trees that the builder's walk over the script makes, in its order
abbrev pub IsInWalkOrder : List Command → List Node → Type 0
IsInWalkOrder script nodes = graph_terms nodes ≡ trees_made (walked script)

-- the ends are in lowest terms
abbrev pub AreLowest : Declared → Type 0
AreLowest (real_between l h) = IsGcd (nat_abs l.num) l.den 1 × IsGcd (nat_abs h.num) h.den 1
AreLowest any_bool = Unit {0}

-- p is the problem of these commands, which have no fault, where the words give this bound; there is no other
pub record IsBuiltOf (bound : Option ℕ) (script : List Command) (p : Problem) : Type 0 where
  pub whole : IsProblem p
  pub problem : IsProblemOf bound script p
  pub ends : All (λ (a : Axis). AreLowest a.declared) p.axes
  -- each node of its terms stands once
  pub nodes : IsGraph p.nodes
  pub order : IsInWalkOrder script p.nodes
  -- it is within the reader's limits
  pub axes : length p.axes ≤ 1024
  pub atoms : length p.atoms ≤ most_atoms
