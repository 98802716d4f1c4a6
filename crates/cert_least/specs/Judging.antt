-- What a goal is judged with.
use Rattle.std.specs.Prelude.{◌≡◌, ◌<◌, ℕ, Option, length, option_map}
use Rattle.dyadic.specs.Rounding.{Dyadic}
use Rattle.interval_model.specs.Interval.{Interval}
use Rattle.interval_model.specs.Space.{Space}
use Rattle.poly_graph.specs.ProblemViews.{Parts, problem_of}
use Rattle.cover_model.specs.State.{atom_enclosure}
use Rattle.ival.specs.declared.ends.Ival.{Ival}
use Rattle.ival.specs.Views.{interval_of}
use Rattle.ival.specs.RowViews.{rows_of}
use Rattle.form_truth.specs.Roots.{IsRoot}
use Rattle.cert_model.specs.Least.{searched}
use Rattle.cert_check.specs.Courses.{Stand}
use Rattle.cert_least.specs.declared.aim.Aim as code
use Rattle.cert_least.specs.Aims.{Aim}
use Rattle.cert_least.specs.Phases.{stand_space}

abbrev pub aim_of : code.Aim → Aim
aim_of a = record { problem = a.problem; goal = a.goal; bound = a.bound }

-- the goal's atom is there, and there are as many rows as nodes
pub record IsReady (a : code.Aim) : Type 0 where
  pub goal : a.goal < length a.problem.atoms
  pub root : IsRoot a.problem a.root
  pub rows : length (rows_of a.rows) ≡ length a.problem.nodes

-- nothing but the rows changed
pub record IsSameAim (old new : code.Aim) : Type 0 where
  pub problem : new.problem ≡ old.problem
  pub goal : new.goal ≡ old.goal
  pub bound : new.bound ≡ old.bound

-- the enclosure of the term of atom g over the space, with each limit of it and without one
abbrev pub IsEnclosure : Parts → ℕ → Space → Interval → Type 0
IsEnclosure p g space i = (low : Option Dyadic) (bits : Option ℕ) → i ≡ atom_enclosure (searched (problem_of p) g low bits) space g

-- the same over the box where a line of the main tree is due
abbrev pub IsEnclosureAt : code.Aim → Stand → Option Ival → Type 0
IsEnclosureAt a stand o =
    (low : Option Dyadic) (bits : Option ℕ) → let p = searched (problem_of a.problem) a.goal low bits in
    option_map interval_of o ≡ option_map (λ space. atom_enclosure p space a.goal) (stand_space p stand)
