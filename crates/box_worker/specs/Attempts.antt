-- Attempts at a step or an end of a patch, and what stays the same as a patch goes on.
use Rattle.std.specs.Prelude.{◌≡◌, ℕ, ◌<◌, length, List, [], ◌∷◌, Bool, true, false, not, ◌&&◌, Option, Some, None, IsSome, All, Contains}
use Rattle.poly_graph.specs.ProblemViews.{Parts}
use Rattle.interval_model.specs.Space.{is_undecided, test_axis, widest}
use Rattle.ival.specs.BestViews.{axis_of}
use Rattle.cover_model.specs.State.{State, undecided}
use Rattle.cover_model.specs.Honest.{not_shown, settled, conjuncts, none_empty}
use Rattle.cover_data.specs.declared.margins.Margins.{Margins}
use Rattle.cover_rule.specs.declared.refusal.PatchRefusal.{PatchRefusal}
use Rattle.cover_data.specs.Models.{LemmaModel}
use Rattle.cover_rule.specs.Models.{PatchModel}
use Rattle.cover_rule.specs.Patch.{problem_in, loosenings_in, now_in}
use Rattle.cover_model.specs.Combination.{Multipliers}
use Rattle.cover_model.specs.Rules.{Block, Narrowing, end_by, void_by, void_squares, make_false, flip, case, either, stuck}
use Rattle.cover_rule.specs.Refusals.{unit_refusal, forced_by, void_refusal, squares_refusal, false_refusal, by_refusal, covered_by, cut_refusal, cut_by, flip_refusal, case_refusal, either_refusal, stuck_refusal, ended_with}

-- it was done, where nothing refuses it; else the patch is as it was
abbrev pub Attempts : Option PatchRefusal → PatchModel → PatchModel → PatchModel → Bool → Type 0
Attempts refusal old done new true = (refusal ≡ None) × (new ≡ done)
Attempts refusal old done new false = IsSome refusal × (new ≡ old)

-- ---- one for each rule, of the patch before and after it

abbrev pub UnitAttempt : ℕ → PatchModel → PatchModel → Bool → Type 0
UnitAttempt j P Q = Attempts (unit_refusal P j) P (forced_by P j) Q

abbrev pub VoidAttempt : Narrowing → PatchModel → PatchModel → Bool → Type 0
VoidAttempt n P Q = Attempts (void_refusal P n) P (ended_with P (end_by (void_by n))) Q

abbrev pub SquaresAttempt : Multipliers → List Block → PatchModel → PatchModel → Bool → Type 0
SquaresAttempt ms bs P Q = Attempts (squares_refusal P ms bs) P (ended_with P (void_squares ms bs)) Q

abbrev pub FalseAttempt : PatchModel → PatchModel → Bool → Type 0
FalseAttempt P Q = Attempts (false_refusal P) P (ended_with P make_false) Q

abbrev pub LemmaAttempt : LemmaModel → PatchModel → PatchModel → Bool → Type 0
LemmaAttempt L P Q = Attempts (by_refusal P.kept L) P (covered_by P L) Q

abbrev pub CutAttempt : ℕ → PatchModel → PatchModel → Bool → Type 0
CutAttempt axis P Q = Attempts (cut_refusal P axis) P (cut_by P axis) Q

-- that of an axis, if there is one; else nothing was done
abbrev pub CutAttemptAt : Option ℕ → PatchModel → PatchModel → Bool → Type 0
CutAttemptAt None P Q b = (b ≡ false) × (Q ≡ P)
CutAttemptAt (Some axis) P Q b = CutAttempt axis P Q b

-- that of the widest axis
abbrev pub WidestAttempt : PatchModel → PatchModel → Bool → Type 0
WidestAttempt P Q b = CutAttemptAt (axis_of (widest (now_in P).space)) P Q b

abbrev pub FlipAttempt : ℕ → PatchModel → PatchModel → Bool → Type 0
FlipAttempt axis P Q = Attempts (flip_refusal P axis) P (ended_with P (flip axis)) Q

abbrev pub CaseAttempt : ℕ → PatchModel → PatchModel → Bool → Type 0
CaseAttempt j P Q = Attempts (case_refusal P j) P (ended_with P (case j)) Q

abbrev pub EitherAttempt : List ℕ → List ℕ → PatchModel → PatchModel → Bool → Type 0
EitherAttempt js ks P Q = Attempts (either_refusal P js ks) P (ended_with P (either js ks)) Q

abbrev pub StuckAttempt : ℕ → PatchModel → PatchModel → Bool → Type 0
StuckAttempt j P Q = Attempts (stuck_refusal P j) P (ended_with P (stuck j)) Q

-- ---- what stays the same

-- the same problem and margins, the same first state and the same lemmas quoted
pub record Continues (P : PatchModel) (Q : PatchModel) : Type 0 where
  pub problem : Q.problem ≡ P.problem
  pub margins : Q.margins ≡ P.margins
  pub first : Q.kept.first ≡ P.kept.first
  pub quoted : Q.kept.quoted ≡ P.kept.quoted

-- each of the second is one of the first
abbrev pub AreAmong : List LemmaModel → List LemmaModel → Type 0
AreAmong lemmas quoted = All (λ (L : LemmaModel). Contains lemmas L) quoted

-- a patch for the problem at these margins from the state, which quotes lemmas of the list alone and has not ended
pub record IsOpen (q : Parts) (m : Margins) (lemmas : List LemmaModel) (S : State) (P : PatchModel) : Type 0 where
  pub problem : P.problem ≡ q
  pub margins : P.margins ≡ m
  pub first : P.kept.first ≡ S
  pub among : AreAmong lemmas P.kept.quoted
  pub open_end : P.kept.end ≡ None

-- steps that quote no lemma, and perhaps an end
abbrev pub Repeats : PatchModel → PatchModel → Type 0
Repeats P Q = (R : PatchModel) × IsOpen P.problem P.margins [] P.kept.first R × Continues R Q

-- it stays so by a step
abbrev pub StaysOpen : PatchModel → PatchModel → Type 0
StaysOpen P Q = (q : Parts) (m : Margins) (lemmas : List LemmaModel) (S : State) → IsOpen q m lemmas S P → IsOpen q m lemmas S Q

-- each of these atoms is marked
abbrev pub all_decided : State → List ℕ → Bool
all_decided S [] = true
all_decided S (j ∷ js) = not (undecided S j) && all_decided S js

-- each conjunct of the form is marked
abbrev pub conjuncts_are_decided : PatchModel → Bool
conjuncts_are_decided P = all_decided (now_in P) (conjuncts (problem_in P).form)

-- no atom that is marked yes leaves nothing of its state
abbrev pub no_atom_empties : PatchModel → Bool
no_atom_empties P = none_empty (problem_in P) (loosenings_in P) (now_in P)

-- each of its Bool axes is decided
abbrev pub HasNoOpenAxis : PatchModel → Type 0
HasNoOpenAxis P = (i : ℕ) → i < length P.problem.axes → test_axis is_undecided i P.kept.reached.space ≡ false

-- it has not ended, and nothing is left to do at its state but to part it
pub record IsDue (P : PatchModel) : Type 0 where
  pub open_end : P.kept.end ≡ None
  pub shown : not_shown (problem_in P) (loosenings_in P) (now_in P) ≡ true
  pub settled : settled (problem_in P) (loosenings_in P) (now_in P) ≡ true
