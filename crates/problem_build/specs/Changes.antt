-- What a builder made, as a change of the problem before.
use Rattle.std.specs.Prelude.{◌≡◌, ℕ, ◌≤◌, List, [], ◌∷◌, ◌++◌, map, drop, length, None, Option, Result, Ok, Err}
use Rattle.poly_graph.specs.Term.{Node, Kind}
use Rattle.poly_graph.specs.FormGraph.{FormNode, IsFormGraph}
use Rattle.poly_graph.specs.FormViews.{form_node_of}
use Rattle.poly_graph.specs.ProblemViews.{Parts, axis_of, problem_of}
use Rattle.poly_graph.specs.Views.{atom_of, node_of}
use Rattle.script_model.specs.Script.{Command}
use Rattle.script_forms.specs.Walk.{building_fault}
use Rattle.script_fault.specs.declared.fault.ReadError.{ReadError}
use Rattle.script_reading.specs.Built.{IsBuiltOf}
use Rattle.term_build.specs.Built.{BuilderModel}
use Rattle.problem_session.specs.Changes.{IsChange, changed, made_of}
use Rattle.problem_session.specs.declared.change.Change.{Change}
use Rattle.problem_session.specs.declared.change.Checked.{Checked}
use Rattle.problem_session.specs.declared.change.Kept.{Kept}
use Rattle.problem_build.specs.BuildAnswers.{IsBuildingError}
use Rattle.problem_build.specs.Laws.{IsProblemMade}
use Rattle.problem_build.specs.declared.script.Ending.{Ending}

-- the last problem that changes make
abbrev pub last_parts : Parts → List Checked → Parts
last_parts p [] = p
last_parts p (c ∷ rest) = last_parts (changed p c.change) rest

-- ---- what a builder made begins a problem

pub record Starts (p : Parts) (m : BuilderModel) : Type 0 where
  pub nodes : (more : List Node) × (p.nodes ≡ m.nodes ++ more)
  pub atoms : (more : List (ℕ × Kind)) × (p.atoms ≡ m.atoms ++ more)
  pub forms : (more : List FormNode) × (p.forms ≡ m.forms ++ more)

abbrev pub parts_of_made : BuilderModel → Parts
parts_of_made m = made_of m.nodes m.atoms m.forms

pub record IsExtent (k : Kept) (m : BuilderModel) : Type 0 where
  pub nodes : k.nodes ≡ length m.nodes
  pub atoms : k.atoms ≡ length m.atoms
  pub forms : k.forms ≡ length m.forms

pub record IsWithin (k : Kept) (m : BuilderModel) : Type 0 where
  pub nodes : k.nodes ≤ length m.nodes
  pub atoms : k.atoms ≤ length m.atoms
  pub forms : k.forms ≤ length m.forms

-- what a builder made since then
pub record IsSince (k : Kept) (m : BuilderModel) (end : Ending) (c : Change) : Type 0 where
  pub kept : c.kept ≡ k
  pub nodes : map node_of c.nodes.items ≡ drop k.nodes m.nodes
  pub atoms : map atom_of c.atoms.items ≡ drop k.atoms m.atoms
  pub forms : map form_node_of c.forms.items ≡ drop k.forms m.forms
  pub axes : c.axes.items ≡ end.axes.items
  pub root : c.root ≡ end.root

-- the whole problem of a script, of what a builder made and the form behind it: what is new since so much of it
pub record Ends (bound : Option ℕ) (script : List Command) (k : Kept) (m : BuilderModel) (c : Change) : Type 0 where
  pub all : BuilderModel
  pub end : Ending
  pub starts : Starts (parts_of_made all) m
  pub since : IsSince k all end c
  pub problem : IsProblemMade bound script all (map axis_of end.axes.items) end.root
  pub shared : IsFormGraph all.forms

abbrev pub IsEnded : Option ℕ → List Command → Kept → BuilderModel → Result Change ReadError → Type 0
IsEnded bound script k m (Ok c) = Ends bound script k m c
IsEnded bound script k m (Err e) = IsBuildingError e (building_fault bound script)

-- the script has no fault, and its problem is what the change makes of these parts, which a builder goes on with; or the
-- fault of the script
pub record Changes (bound : Option ℕ) (script : List Command) (p : Parts) (m : BuilderModel) (c : Change) : Type 0 where
  pub clean : building_fault bound script ≡ None
  pub built : IsBuiltOf bound script (problem_of (changed p c))
  pub change : IsChange p c
  pub starts : Starts (changed p c) m

abbrev pub IsChangeAnswer : Option ℕ → List Command → Parts → BuilderModel → Result Change ReadError → Type 0
IsChangeAnswer bound script p m (Ok c) = Changes bound script p m c
IsChangeAnswer bound script p m (Err e) = IsBuildingError e (building_fault bound script)
