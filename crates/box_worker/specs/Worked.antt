-- What work on a state comes to.
use Rattle.std.specs.Prelude.{◌≡◌, List, [], ◌∷◌, Bool, true, false, ◌&&◌, ◌||◌, ◌⊎◌, All, Option, Some, None, IsTrue}
use Rattle.poly_graph.specs.Problem.{Problem}
use Rattle.poly_graph.specs.ProblemViews.{Parts, problem_of}
use Rattle.interval_model.specs.Space.{Space, middle, space_within}
use Rattle.cover_model.specs.State.{State, Loosenings, IsLemma, covers, may, sure}
use Rattle.cover_model.specs.Honest.{not_shown}
use Rattle.cover_model.specs.Rules.{Line, make_false, end_by, false_form, by_lemma}
use Rattle.cover_model.specs.Fits.{FitsProblem, IsShownAt}
use Rattle.cover_data.specs.declared.margins.Margins.{Margins}
use Rattle.cover_data.specs.declared.margins.Options.{Options}
pub use Rattle.cover_data.specs.Margins.{margins_of}
use Rattle.cover_data.specs.Margins.{loosenings_of}
use Rattle.cover_data.specs.Models.{LemmaModel, KeptModel}
use Rattle.cover_rule.specs.Models.{PatchModel}
use Rattle.cover_rule.specs.Patch.{run_at, ended_by}
use Rattle.cover_rule.specs.Refusals.{covered}
use Rattle.cover_data.specs.Runs.{IsRun, IsClosed}
use Rattle.cover_data.specs.Views.{kept_of}
use Rattle.box_worker.specs.Attempts.{AreAmong}
use Rattle.box_worker.specs.Ended.{first_covering, is_left}
use Rattle.box_worker.specs.declared.ended.Ended.{Ended}
use Rattle.box_worker.specs.declared.ended.Ended.TheVariants.{Shown, Found}
use Rattle.box_worker.specs.declared.worked.Worked.{Worked}
use Rattle.box_worker.specs.declared.worked.Worked.TheVariants.{Patch, Closed, Point}

-- ---- lemmas

-- these are states of the problem of which no point meets the form
abbrev pub AreLemmasFor : Problem → Loosenings → List LemmaModel → Type 0
AreLemmasFor p s lemmas = All (λ (L : LemmaModel). FitsProblem p L.state × IsLemma p s L.state) lemmas

-- ---- runs

-- a run from the state, for the problem at these margins, which quotes lemmas of the list alone
pub record IsRunFrom (p : Problem) (m : Margins) (lemmas : List LemmaModel) (S : State) (k : KeptModel) : Type 0 where
  pub first : k.first ≡ S
  pub run : IsRun p m k
  pub among : AreAmong lemmas k.quoted

abbrev pub has_no_step : List Line → Bool
has_no_step [] = true
has_no_step (l ∷ ls) = false

abbrev pub is_false : Option Line → Bool
is_false (Some (end_by false_form)) = true
is_false end = false

abbrev pub is_by : Option Line → Bool
is_by (Some (end_by (by_lemma i))) = true
is_by end = false

-- the run is the one line `false`, or ends by a lemma
abbrev pub teaches_nothing : KeptModel → Bool
teaches_nothing k = (has_no_step k.steps && is_false k.end) || is_by k.end

-- a run that closed a state which covers this one
pub record IsLearned (p : Problem) (m : Margins) (lemmas : List LemmaModel) (S : State) (c : KeptModel) : Type 0 where
  pub run : IsRun p m c
  pub among : AreAmong lemmas c.quoted
  pub closed : IsClosed c
  pub wide : IsTrue (covers c.first S)

-- what there is to learn of a run from the state that closed it
abbrev pub Teaches : Problem → Margins → List LemmaModel → State → KeptModel → Option KeptModel → Type 0
Teaches p m lemmas S k None = teaches_nothing k ≡ true
Teaches p m lemmas S k (Some c) = (teaches_nothing k ≡ false) × IsLearned p m lemmas S c

-- ---- answers

-- the middle of a state that steps from this one reach
pub record IsMiddleFrom (p : Problem) (m : Margins) (lemmas : List LemmaModel) (S : State) (x : Space) : Type 0 where
  pub steps : KeptModel
  pub run : IsRunFrom p m lemmas S steps
  pub open_end : steps.end ≡ None
  pub middle_is : x ≡ middle steps.reached.space

-- such a middle, or a point within the box of the state; the form is sure there
pub record IsPointFrom (p : Problem) (m : Margins) (lemmas : List LemmaModel) (S : State) (x : Space) : Type 0 where
  pub place : IsMiddleFrom p m lemmas S x ⊎ IsTrue (space_within x S.space)
  pub shown : IsShownAt p (loosenings_of m) x

-- each answer is of this kind
abbrev pub IsWork : Problem → Margins → List LemmaModel → State → Worked → Type 0
IsWork p m lemmas S (Patch k) = IsRunFrom p m lemmas S (kept_of k) × IsTrue (is_left (kept_of k).end)
IsWork p m lemmas S (Closed k c) = IsRunFrom p m lemmas S (kept_of k) × IsClosed (kept_of k) × Teaches p m lemmas S (kept_of k) c
IsWork p m lemmas S (Point x) = IsPointFrom p m lemmas S x

-- the state was closed by this run, of which there is nothing to learn
abbrev pub IsClosedBy : KeptModel → Worked → Type 0
IsClosedBy k (Patch k') = ⊥
IsClosedBy k (Closed k' c) = (kept_of k' ≡ k) × (c ≡ None)
IsClosedBy k (Point x) = ⊥

-- this point
abbrev pub IsPointAt : Space → Worked → Type 0
IsPointAt x (Patch k) = ⊥
IsPointAt x (Closed k c) = ⊥
IsPointAt x (Point y) = y ≡ x

-- a run that parts the state, or finds it stuck, is given only where the form may hold and is not sure at the middle
abbrev pub IsLeftOpen : Problem → Loosenings → State → Worked → Type 0
IsLeftOpen p s S (Patch k) = not_shown p s S ≡ true
IsLeftOpen p s S (Closed k c) = Unit {0}
IsLeftOpen p s S (Point x) = Unit {0}

-- the answers that are given before any step, in this order: that the form can't hold, that it is sure at the middle, and that the first lemma which covers the state closes it
pub record AnswersAtOnce (p : Problem) (s : Loosenings) (lemmas : List LemmaModel) (S : State) (w : Worked) : Type 0 where
  pub cannot_hold : may p s S ≡ false → IsClosedBy (ended_by (run_at S) make_false []) w
  pub is_sure : may p s S ≡ true → sure p s (middle S.space) ≡ true → IsPointAt (middle S.space) w
  pub is_open : IsLeftOpen p s S w
  pub is_covered : not_shown p s S ≡ true → (L : LemmaModel) → first_covering lemmas S ≡ Some L → IsClosedBy (covered (run_at S) L) w

-- ---- of a problem's parts and options

-- lemmas of the problem at its margins
abbrev pub AreLemmasAt : Parts → Options → List LemmaModel → Type 0
AreLemmasAt p o lemmas = AreLemmasFor (problem_of p) (loosenings_of (margins_of o)) lemmas

abbrev pub AnswersAtOnceFor : Parts → Options → List LemmaModel → State → Worked → Type 0
AnswersAtOnceFor p o lemmas S = AnswersAtOnce (problem_of p) (loosenings_of (margins_of o)) lemmas S

abbrev pub IsWorkFor : Parts → Options → List LemmaModel → State → Worked → Type 0
IsWorkFor p o lemmas S = IsWork (problem_of p) (margins_of o) lemmas S

-- ---- what a patch comes to

-- the closed run, and what may be learned of it
abbrev pub IsClosedWork : KeptModel → Worked → Type 0
IsClosedWork k (Patch k') = ⊥
IsClosedWork k (Closed k' None) = (kept_of k' ≡ k) × (teaches_nothing k ≡ true)
IsClosedWork k (Closed k' (Some c)) = (kept_of k' ≡ k) × (teaches_nothing k ≡ false) × (c ≡ k) × IsClosed c
IsClosedWork k (Point x) = ⊥

-- the point by which a patch has ended so: the middle of the state that it has reached, or one within the box that it began at
abbrev pub IsEndPoint : PatchModel → Ended → Space → Type 0
IsEndPoint P (Shown y) x = x ≡ middle P.kept.reached.space
IsEndPoint P (Found y) x = IsTrue (space_within x P.kept.first.space)
IsEndPoint P e x = ⊥

-- what the work has come to by a patch that has ended so
abbrev pub WorkOf : PatchModel → Ended → Worked → Type 0
WorkOf P e (Patch k) = (kept_of k ≡ P.kept) × IsRun (problem_of P.problem) P.margins P.kept × IsTrue (is_left P.kept.end)
WorkOf P e (Closed k c) = IsClosedWork P.kept (Closed k c) × IsRun (problem_of P.problem) P.margins P.kept × IsClosed P.kept
WorkOf P e (Point x) = (P.kept.end ≡ None) × IsRun (problem_of P.problem) P.margins P.kept × IsEndPoint P e x × IsShownAt (problem_of P.problem) (loosenings_of P.margins) x
