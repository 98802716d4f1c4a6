-- The code's states as the definitions see them.
use Rattle.std.specs.Prelude.{◌≡◌, ◌≤◌, ◌++◌, ℕ, drop, length, max}
use Rattle.dyadic.specs.Fraction.{Fraction}
use Rattle.dyadic.specs.Rounding.{exact}
use Rattle.interval_model.specs.Space.{Space}
use Rattle.cover_model.specs.State
use Rattle.poly_graph.specs.ProblemViews.{Parts}
use Rattle.ival.specs.SpaceViews.{space_of}
use Rattle.poly_graph.specs.Marks.{marks_of}
use Rattle.cert_check.specs.declared.state.State.{State}
use Rattle.cert_check.specs.declared.standing.Lemma.{Lemma}
use Rattle.cert_check.specs.declared.loosenings.Loosenings.{Loosenings}

abbrev pub state_of : State → State.State
state_of S = record { space = space_of S.space; marks = S.lits }

abbrev pub lemma_of : Lemma → State.State
lemma_of L = record { space = space_of L.space; marks = marks_of L.atoms L.yes.items L.no.items }

-- the domains, and on the axes that they lack the other ones
abbrev pub lengthened : Space → Space → Space
lengthened space beyond = space ++ drop (length space) beyond

-- the lemma as it was written, with these domains on the axes beyond its own, and without a mark on the atoms beyond, up to so many
abbrev pub lengthened_lemma : Space → ℕ → Lemma → State.State
lengthened_lemma beyond atoms L = record { space = lengthened (space_of L.space) beyond; marks = marks_of (max L.atoms atoms) L.yes.items L.no.items }

abbrev pub loosenings_of : Loosenings → State.Loosenings
loosenings_of s = record { margin_bits = s.margin; delta_bits = s.delta; version = s.version }

-- delta itself
abbrev pub delta_in : Loosenings → Fraction
delta_in s = exact (State.delta_of (loosenings_of s))

-- a domain for each axis, a mark for each atom
pub record Fits (p : Parts) (S : State.State) : Type 0 where
  pub axes : length S.space ≡ length p.axes
  pub atoms : length S.marks ≡ length p.atoms

-- the problem has the axes and atoms of the state
pub record HasMore (p : Parts) (S : State.State) : Type 0 where
  pub axes : length S.space ≤ length p.axes
  pub atoms : length S.marks ≤ length p.atoms

-- a domain for each axis that the other one has, a mark for each atom
pub record IsLike (S T : State.State) : Type 0 where
  pub axes : length T.space ≡ length S.space
  pub atoms : length T.marks ≡ length S.marks
