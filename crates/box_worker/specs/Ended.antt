-- How a patch comes to its end.
use Rattle.std.specs.Prelude.{◌≡◌, List, Bool, true, false, Option, Some, None, IsTrue, find, ◌⊎◌}
use Rattle.poly_graph.specs.ProblemViews.{Parts, problem_of}
use Rattle.cover_model.specs.State.{State, covers, may}
use Rattle.interval_model.specs.Space.{Space, middle, space_within}
use Rattle.cover_model.specs.Honest.{not_shown}
use Rattle.cover_model.specs.Rules.{Line, make_false, branch_by, stay_by, stuck_atom}
use Rattle.cover_model.specs.Fits.{IsShownAt}
use Rattle.cover_data.specs.declared.margins.Margins.{Margins}
use Rattle.cover_data.specs.Margins.{loosenings_of}
use Rattle.cover_data.specs.Models.{LemmaModel}
use Rattle.cover_rule.specs.Models.{PatchModel}
use Rattle.cover_rule.specs.Patch.{problem_in, loosenings_in, now_in}
use Rattle.cover_rule.specs.Refusals.{ended_with, covered_by}
use Rattle.cover_data.specs.Runs.{IsClosed}
use Rattle.box_worker.specs.Attempts.{Continues, IsOpen}
use Rattle.box_worker.specs.declared.ended.Ended.{Ended}
use Rattle.box_worker.specs.declared.ended.Ended.TheVariants.{Closed, Parted, Shown, Found}

-- the first lemma that covers the state
abbrev pub first_covering : List LemmaModel → State → Option LemmaModel
first_covering lemmas S = find (λ (L : LemmaModel). covers L.state S) lemmas

-- the line parts a state, or leaves it as a stuck one
abbrev pub leaves_some : Line → Bool
leaves_some (branch_by b) = true
leaves_some (stay_by (stuck_atom j)) = true
leaves_some l = false

abbrev pub is_left : Option Line → Bool
is_left None = false
is_left (Some l) = leaves_some l

-- a point of the box that the patch began at, where the form is sure
abbrev pub IsFoundIn : PatchModel → Space → Type 0
IsFoundIn P x = IsTrue (space_within x P.kept.first.space) × IsShownAt (problem_of P.problem) (loosenings_of P.margins) x

-- what stands when a patch has come to its end
abbrev pub HasEnded : PatchModel → Ended → Type 0
HasEnded Q Closed = IsClosed Q.kept
HasEnded Q Parted = IsTrue (is_left Q.kept.end)
HasEnded Q (Shown x) = (Q.kept.end ≡ None) × (x ≡ middle Q.kept.reached.space) × IsShownAt (problem_of Q.problem) (loosenings_of Q.margins) x
HasEnded Q (Found x) = (Q.kept.end ≡ None) × IsFoundIn Q x

-- a patch that has just begun ends before any step: it can't hold, it is sure at the middle, or the first lemma that covers the state closes it
abbrev pub AtOnce : List LemmaModel → PatchModel → PatchModel → Option Ended → Type 0
AtOnce lemmas P Q None = (Q ≡ P) × (not_shown (problem_in P) (loosenings_in P) (now_in P) ≡ true) × (first_covering lemmas (now_in P) ≡ None)
AtOnce lemmas P Q (Some Closed) = ((may (problem_in P) (loosenings_in P) (now_in P) ≡ false) × (Q ≡ ended_with P make_false)) ⊎
    ((L : LemmaModel) × (not_shown (problem_in P) (loosenings_in P) (now_in P) ≡ true) × (first_covering lemmas (now_in P) ≡ Some L) × (Q ≡ covered_by P L))
AtOnce lemmas P Q (Some Parted) = ⊥
AtOnce lemmas P Q (Some (Found x)) = ⊥
AtOnce lemmas P Q (Some (Shown x)) = (Q ≡ P) × (may (problem_in P) (loosenings_in P) (now_in P) ≡ true) × (x ≡ middle (now_in P).space) × IsShownAt (problem_in P) (loosenings_in P) x

-- a patch that has just begun ends at once, or after steps that quote lemmas of the list alone
abbrev pub ComesToEnd : Parts → Margins → List LemmaModel → PatchModel → PatchModel → Ended → Type 0
ComesToEnd q m lemmas P Z e = AtOnce lemmas P Z (Some e) ⊎ ((Q : PatchModel) × (O : PatchModel) × AtOnce lemmas P Q None × IsOpen q m lemmas Q.kept.first O × Continues O Z)
