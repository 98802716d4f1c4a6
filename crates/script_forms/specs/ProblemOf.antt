-- Which problems are those of a script.
use Rattle.std.specs.Prelude.{◌≡◌, ℕ, suc, ◌<◌, List, [], ◌∷◌, length, Option, Some, None, IsTrue, slice_index_or}
use Rattle.dyadic.specs.Fraction.{Fraction, IsFraction, at_most}
use Rattle.dyadic.specs.Point.{Sort, real_sort, bool_sort}
use Rattle.script_model.specs.Script.{Command, Constant, constants_of}
use Rattle.script_model.specs.Declared.{DeclaredInterval, declared_interval, bound_fault}
use Rattle.poly_graph.specs.Term.{in_order}
use Rattle.poly_graph.specs.Problem.{Problem, Axis, Declared, real_between, any_bool, full_atom, no_atom}
use Rattle.script_forms.specs.Atoms.{unfolding_fault, script_atoms, script_form}

-- the end is there, and q is the same number
abbrev pub IsEnd : Option Fraction → Fraction → Type 0
IsEnd None q = ⊥
IsEnd (Some e) q = IsFraction q × IsTrue (at_most e q) × IsTrue (at_most q e)

-- what is declared of a constant of this sort with this interval
abbrev pub IsDeclaredBy : Sort → DeclaredInterval → Declared → Type 0
IsDeclaredBy real_sort i (real_between l h) = IsEnd i.low l × IsEnd i.high h
IsDeclaredBy bool_sort i any_bool = Unit {0}
IsDeclaredBy s i d = ⊥

-- from this axis on: the axes are the constants in order, each with its name and its interval
abbrev pub AreAxes : (ℕ → DeclaredInterval) → ℕ → List Constant → List Axis → Type 0
AreAxes box axis [] [] = Unit {0}
AreAxes box axis (c ∷ constants) (a ∷ axes) = (a.name ≡ c.name) × IsDeclaredBy c.sort (box axis) a.declared × AreAxes box (suc axis) constants axes
AreAxes box axis _ _ = ⊥

-- the problem is that of this script, where the words give this bound
pub record IsProblemOf (bound : Option ℕ) (script : List Command) (p : Problem) : Type 0 where
  -- the script has no fault of unfolding or of bounds
  pub unfolds : unfolding_fault script ≡ None
  pub bounded : bound_fault bound script ≡ None
  pub axes : AreAxes (declared_interval bound script) 0 (constants_of script) p.axes
  -- a node's children stand before it
  pub ordered : IsTrue (in_order 0 p.nodes)
  -- the atoms are those of the script, under the same numbers
  pub count : length p.atoms ≡ length (script_atoms script)
  pub atoms : (j : ℕ) → j < length p.atoms → full_atom p j ≡ slice_index_or (script_atoms script) j no_atom
  pub form : p.form ≡ script_form script
