-- Rows, marks and spaces that serve work on a state, and what is known of its space.
use Rattle.std.specs.Prelude.{◌≡◌, ℕ, ◌<◌, ◌^◌, [], List, Bool, true, false, length, vec_len, slice_index_or}
use Rattle.interval_model.specs.Space.{Space, middle}
use Rattle.cover_model.specs.Narrowed.{enclosures}
use Rattle.cover_model.specs.State.{state_of, sure}
use Rattle.cover_model.specs.Rules.{narrowing}
use Rattle.cover_model.specs.Honest.{is_some_space}
use Rattle.cover_data.specs.declared.margins.Margins.{Margins}
use Rattle.cover_data.specs.Margins.{loosenings_of}
use Rattle.poly_graph.specs.ProblemViews.{Parts, problem_of}
use Rattle.ival.specs.RowViews.{rows_of}
use Rattle.ival.specs.SpaceViews.{space_of}
use Rattle.combine.specs.Rooms.{FitsRoom}
use Rattle.cover_rule.specs.declared.workspace.Centre.{Centre}
use Rattle.cover_rule.specs.declared.workspace.Workspace.{Workspace}
use Rattle.cover_rule.specs.Pairs.{HasVoiding}

-- axes and atoms have numbers of 32 bits
pub record IsNumbered (p : Parts) : Type 0 where
  pub axes : length p.axes < 2 ^ 32
  pub atoms : length p.atoms < 2 ^ 32

-- room for the middle of a space of the problem; where it is filled, its rows are the enclosures over its middle
pub record HasCentreRoom (p : Parts) (c : Centre) : Type 0 where
  pub middle : length (space_of c.middle) ≡ length p.axes
  pub rows : length (rows_of c.rows) ≡ length p.nodes
  pub filled : c.filled ≡ true → rows_of c.rows ≡ enclosures (space_of c.middle) p.nodes

-- the middle of the space, and the enclosures over it
pub record IsCentre (p : Parts) (space : Space) (c : Centre) : Type 0 where
  pub place : space_of c.middle ≡ middle space
  pub filled : rows_of c.rows ≡ enclosures (middle space) p.nodes

-- room for such a middle; where it is known, it is that of the space
pub record HasCentre (p : Parts) (space : Space) (c : Centre) : Type 0 where
  pub room : HasCentreRoom p c
  pub known : c.known ≡ true → IsCentre p space c

-- room for the problem, whose rows are the enclosures over its spare space
pub record IsFilled (p : Parts) (w : Workspace) : Type 0 where
  pub spare : length (space_of w.spare) ≡ length p.axes
  pub rows : rows_of w.rows ≡ enclosures (space_of w.spare) p.nodes
  pub scratch : length (rows_of w.scratch) ≡ length p.nodes
  pub truths : vec_len w.marks.truths ≡ length p.forms
  pub centre : HasCentreRoom p w.centre
  pub room : FitsRoom p.nodes w.room
  pub leaves : vec_len w.leaves ≡ length p.atoms

-- narrowing by atom j leaves something of the space
abbrev pub leaves_some : Parts → Margins → Space → ℕ → Bool
leaves_some p m space j = is_some_space (narrowing (problem_of p) (loosenings_of m) (state_of space []) j)

-- the form is sure at the middle of the space
abbrev pub sure_at_middle : Parts → Margins → Space → Bool
sure_at_middle p m space = sure (problem_of p) (loosenings_of m) (middle space)

-- what is known of a space: that narrowing by these atoms leaves something of it, and that the form is not sure at its middle
pub record IsKnown (p : Parts) (m : Margins) (space : Space) (atoms : List Bool) (is_unsure : Bool) : Type 0 where
  pub leaves : (j : ℕ) → j < length p.atoms → slice_index_or atoms j false ≡ true → leaves_some p m space j ≡ true
  pub unsure : is_unsure ≡ true → sure_at_middle p m space ≡ false

-- room, rows of the space, and what is known of it
pub record HasRowsOf (p : Parts) (m : Margins) (space : Space) (w : Workspace) : Type 0 where
  pub rows : rows_of w.rows ≡ enclosures space p.nodes
  pub scratch : length (rows_of w.scratch) ≡ length p.nodes
  pub truths : vec_len w.marks.truths ≡ length p.forms
  pub centre : HasCentre p space w.centre
  pub room : FitsRoom p.nodes w.room
  pub leaves : vec_len w.leaves ≡ length p.atoms
  pub known : IsKnown p m space w.leaves.items w.unsure
  pub voiding : HasVoiding p m space w.voiding

-- and a spare copy of the space
pub record IsReady (p : Parts) (m : Margins) (space : Space) (w : Workspace) : Type 0 where
  pub serves : HasRowsOf p m space w
  pub spare : space_of w.spare ≡ space
