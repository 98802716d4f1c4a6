-- What a space is narrowed by, in values of the code.
use Rattle.std.specs.Prelude.{◌≡◌, ◌≢◌, ◌<◌, ◌≤◌, Option, Some, Bool, length, IsTrue}
use Rattle.interval_model.specs.Space.{Space}
use Rattle.poly_graph.specs.ProblemViews.{Parts, problem_of}
use Rattle.cover_model.specs.State.{State}
use Rattle.cover_model.specs.Rules.{Narrowing, by_range, by_off_range, by_combination, can_narrow, narrowed_to, can_combine}
use Rattle.cover_model.specs.Views.{multipliers_of}
use Rattle.cover_model.specs.Fits.{FitsAxes}
use Rattle.cover_data.specs.declared.margins.Margins.{Margins}
use Rattle.cover_data.specs.Margins.{loosenings_of}
use Rattle.cover_rule.specs.declared.narrower.Narrower.{Narrower}
use Rattle.cover_rule.specs.declared.narrower.Narrower.TheVariants.{Pull, Push, Combine}
use Rattle.cover_rule.specs.declared.refusal.PatchRefusal.{PatchRefusal}
use Rattle.cover_rule.specs.declared.refusal.PatchRefusal.TheVariants.{Memory}
use Rattle.cover_rule.specs.Models.{PatchModel}
use Rattle.cover_rule.specs.Patch.{problem_in, narrowed_space}
use Rattle.cover_rule.specs.Refusals.{narrow_refusal, takes_memory}

abbrev pub narrowing_of : Narrower → Narrowing
narrowing_of (Pull j) = by_range j
narrowing_of (Push j) = by_off_range j
narrowing_of (Combine ms) = by_combination (multipliers_of ms.now)

-- the atom is one of the problem; those of a combination are tested
abbrev pub NamesAtom : Parts → Narrower → Type 0
NamesAtom p (Pull j) = j < length p.atoms
NamesAtom p (Push j) = j < length p.atoms
NamesAtom p (Combine ms) = Unit {0}

-- what it leaves of the state's space
abbrev pub narrows_to : Parts → Margins → State → Narrower → Option Space
narrows_to p m S n = narrowed_to (problem_of p) (loosenings_of m) S (narrowing_of n)

-- the marks allow it
abbrev pub may_narrow : Parts → Margins → State → Narrower → Bool
may_narrow p m S n = can_narrow (problem_of p) (loosenings_of m) S (narrowing_of n)

-- it can be tried: the atom is there, the atoms of a combination may be combined
abbrev pub CanNarrow : Parts → Margins → State → Narrower → Type 0
CanNarrow p m S (Pull j) = j < length p.atoms
CanNarrow p m S (Push j) = j < length p.atoms
CanNarrow p m S (Combine ms) = IsTrue (can_combine (problem_of p) (loosenings_of m) S (multipliers_of ms.now))

-- a combination has some atoms, at most 512
abbrev pub IsSized : Narrower → Type 0
IsSized (Pull j) = Unit {0}
IsSized (Push j) = Unit {0}
IsSized (Combine ms) = (0 < length ms.now) × (length ms.now ≤ 512)

-- to keep it takes memory
abbrev pub TakesMemory : Narrower → Type 0
TakesMemory n = IsTrue (takes_memory (narrowing_of n))

-- ---- at a patch

-- what is left is a space of the problem
abbrev pub FitsNarrowed : PatchModel → Narrower → Type 0
FitsNarrowed P n = FitsAxes (problem_in P).axes (narrowed_space P (narrowing_of n))

-- a refusal that is not for memory
abbrev pub IsNarrowRefusal : PatchModel → Narrower → PatchRefusal → Type 0
IsNarrowRefusal P n e = (narrow_refusal P (narrowing_of n) ≡ Some e) × (e ≢ Memory)
