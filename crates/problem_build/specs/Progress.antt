-- What is built of commands, one after the other, and what stood before each of them.
use Rattle.std.specs.Prelude.{◌≡◌, ℕ, ◌≤◌, List, [], ◌∷◌, ◌++◌, map, take, length, reverse, All, Result, Ok, Err, None, Option, Vec}
use Rattle.std.specs.Global.{Global}
use Rattle.script_model.specs.Script.{Command, constants_of, sorts_of}
use Rattle.script_model.specs.Declared.{Bound, bound_fault, declared_interval, script_bounds}
use Rattle.script_forms.specs.Walk.{walked, building_fault}
use Rattle.poly_graph.specs.Problem.{Axis, IsDeclared, sorts_of_axes}
use Rattle.poly_graph.specs.declared.axis.Axis as axis
use Rattle.declared_box.specs.Axes.{IsBoundsError}
use Rattle.declared_box.specs.Same.{SameBounds}
use Rattle.declared_box.specs.Table.{all_of}
use Rattle.poly_graph.specs.ProblemViews.{axis_of}
use Rattle.script_forms.specs.ProblemOf.{AreAxes}
use Rattle.script_fault.specs.declared.fault.ReadError.{ReadError}
use Rattle.script_reading.specs.Built.{AreLowest}
use Rattle.term_build.specs.Built.{IsMade, stand_of}
use Rattle.term_build.specs.Settled.{Extends}
use Rattle.value_build.specs.Making.{Making}
use Rattle.value_build.specs.Marks.{counts_in, taken}
use Rattle.problem_build.specs.BuildAnswers.{IsBuildingError, found_by}
use Rattle.problem_build.specs.Changes.{Starts, parts_of_made}
use Rattle.problem_build.specs.Laws.{IsProblemMade}
use Rattle.problem_build.specs.Roots.{Roots}
use Rattle.problem_build.specs.Standing.{IsDone, IsNamed, walk_of}
use Rattle.problem_build.specs.declared.top.Top.{Top}
use Rattle.smt_sexp.specs.declared.sexps.Sexps as arena
use Rattle.problem_build.specs.declared.progress.Before.{Before}
use Rattle.problem_build.specs.declared.progress.Progress.{Progress}
use Rattle.problem_build.specs.declared.script.Ending.{Ending}

-- all assertions of a script are done, and no sketch is begun
pub record IsState (script : List Command) (m : Making) (made : List (ℕ × ℕ)) : Type 0 where
  pub done : IsDone script m made
  pub is_made : IsMade m.made
  pub drawn : m.drawn ≡ []

-- of what was before each command, the last first: where it is gone back to, the commands before that one are done
abbrev pub Went : List Command → List Before → Making → List (ℕ × ℕ) → Type 0
Went script [] m made = (script ≡ []) × IsState script m made
Went script (b ∷ before) m made = IsState script m made × ((earlier : List Command) × (c : Command) × (script ≡ earlier ++ (c ∷ [])) × Went earlier before (taken (counts_in b.mark) m) (take b.claims made))

-- these commands are built
abbrev pub IsBuiltBy : List Command → Progress → Type 0
IsBuiltBy script p = Went script (reverse p.before.items) p.maker p.claims.items

-- behind one command more, of whatever script: it is built, and what was made stays, or the script has this fault
abbrev pub BuildsOne : List Command → Command → Progress → Progress → Result (Unit {0}) ReadError → Type 0
BuildsOne script c old p (Ok u) = IsBuiltBy (script ++ (c ∷ [])) p × Starts (parts_of_made p.maker.made) old.maker.made
BuildsOne script c old p (Err e) = (rest : List Command) → IsBuildingError e (found_by (walk_of (script ++ (c ∷ rest))))

-- the first commands of a script are built
pub record IsBegun (script : List Command) (p : Progress) : Type 0 where
  pub first : List Command
  pub left : List Command
  pub split : script ≡ first ++ left
  pub built : IsBuiltBy first p

-- of the commands that are built the first ones, so many, begin these
pub record IsKept (count : ℕ) (commands : List Command) (p : Progress) : Type 0 where
  pub script : List Command
  pub built : IsBuiltBy script p
  pub few : count ≤ length script
  pub within : count ≤ length commands
  pub same : take count script ≡ take count commands

-- the same, and these are the names that they bind
pub record IsBegunWith (script : List Command) (s : arena.Sexps) (p : Progress) (top : List Top) (axis : ℕ) : Type 0 where
  pub first : List Command
  pub left : List Command
  pub split : script ≡ first ++ left
  pub built : IsBuiltBy first p
  pub named : IsNamed s first top axis

-- the script is built, and what was made stays, or it has this fault
abbrev pub BuildsAll : List Command → Progress → Progress → Result (Unit {0}) ReadError → Type 0
BuildsAll script old p (Ok u) = IsBuiltBy script p × Starts (parts_of_made p.maker.made) old.maker.made
BuildsAll script old p (Err e) = IsBuildingError e (found_by (walk_of script))

-- ---- the end of a script

-- the form of a script whose assertions are done is this node
pub record IsRooted (script : List Command) (m m1 : Making) (made : List (ℕ × ℕ)) (root : ℕ) : Type 0 where
  pub roots : Roots m.made m1.made (map (λ p. p.0) made) (Ok root)
  pub is_made : IsMade m1.made
  pub sorts : m1.made.sorts ≡ m.made.sorts
  pub bounds : m1.bounds ≡ m.bounds
  pub stand : Extends (stand_of m.made) (stand_of m1.made)

abbrev pub MakesRoot : List Command → Making → Making → List (ℕ × ℕ) → Result ℕ ReadError → Type 0
MakesRoot script m m1 made (Ok root) = IsRooted script m m1 made root
MakesRoot script m m1 made (Err e) = IsBuildingError e (found_by (walked script))

-- where the bounds of these lists are the script's: its axes, or the first fault of its bounds
pub record HasAxes (bound : Option ℕ) (script : List Command) (lists : List (List Bound)) (ks : List ℕ) (axes : List Axis) : Type 0 where
  pub answers : SameBounds (all_of lists ks) (script_bounds script) → (bound_fault bound script ≡ None) × AreAxes (declared_interval bound script) 0 (constants_of script) axes
  pub bounds : All (λ (a : Axis). IsDeclared a.declared) axes
  pub sorts : sorts_of_axes axes ≡ sorts_of script
  pub ends : All (λ (a : Axis). AreLowest a.declared) axes

abbrev pub AreAxesOf : Option ℕ → List Command → List (List Bound) → List ℕ → Result (Vec axis.Axis Global) ReadError → Type 0
AreAxesOf bound script lists ks (Ok axes) = HasAxes bound script lists ks (map axis_of axes.items)
AreAxesOf bound script lists ks (Err e) = SameBounds (all_of lists ks) (script_bounds script) → IsBoundsError e (bound_fault bound script)

abbrev pub Concludes : Option ℕ → List Command → Making → Making → List (ℕ × ℕ) → Result Ending ReadError → Type 0
Concludes bound script m m1 made (Ok end) = IsRooted script m m1 made end.root × IsProblemMade bound script m1.made (map axis_of end.axes.items) end.root
Concludes bound script m m1 made (Err e) = IsBuildingError e (building_fault bound script)
