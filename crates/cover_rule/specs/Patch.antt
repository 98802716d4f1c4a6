-- Patches: a run with rows of its present state.
use Rattle.std.specs.Prelude.{◌≡◌, List, [], ◌∷◌, ◌++◌, Bool, Option, Some, None}
use Rattle.poly_graph.specs.ProblemViews.{problem_of}
use Rattle.poly_graph.specs.Problem.{Problem}
use Rattle.cover_model.specs.State.{State, Loosenings, IsLemma}
use Rattle.interval_model.specs.Space.{Space}
use Rattle.cover_model.specs.Rules.{Line, Narrowing, can_narrow, narrowed_to}
use Rattle.cover_data.specs.Margins.{loosenings_of}
use Rattle.cover_data.specs.Runs.{IsRun, IsClosed}
use Rattle.cover_data.specs.Models.{LemmaModel, KeptModel}
use Rattle.cover_rule.specs.Models.{PatchModel}

abbrev pub problem_in : PatchModel → Problem
problem_in P = problem_of P.problem

abbrev pub loosenings_in : PatchModel → Loosenings
loosenings_in P = loosenings_of P.margins

abbrev pub now_in : PatchModel → State
now_in P = P.kept.reached

abbrev pub IsRunOf : PatchModel → Type 0
IsRunOf P = IsRun (problem_in P) P.margins P.kept

-- the lemma is a state of the patch's problem of which no point meets the form
abbrev pub IsLemmaState : PatchModel → State → Type 0
IsLemmaState P S = IsLemma (problem_in P) (loosenings_in P) S

-- what becomes of a patch that is asked for its closed run: that run, or the patch itself
abbrev pub IsClosedRunOf : PatchModel → KeptModel → Type 0
IsClosedRunOf P k = (k ≡ P.kept) × IsClosed P.kept

abbrev pub IsNotClosed : PatchModel → PatchModel → Type 0
IsNotClosed P Q = (Q ≡ P) × ¬ IsClosed P.kept

-- nothing done yet at a state
abbrev pub run_at : State → KeptModel
run_at S = record { first = S; steps = []; quoted = []; end = None; reached = S }

-- one more step, which reaches this state, when these are the lemmas that are quoted
abbrev pub stepped : KeptModel → Line → List LemmaModel → State → KeptModel
stepped k l quoted S = record { first = k.first; steps = k.steps ++ (l ∷ []); quoted = quoted; end = k.end; reached = S }

-- one more step that quotes no lemma and reaches no other state
abbrev pub with_step : KeptModel → Line → KeptModel
with_step k l = stepped k l k.quoted k.reached

-- the end, when these are the lemmas that are quoted
abbrev pub ended_by : KeptModel → Line → List LemmaModel → KeptModel
ended_by k l quoted = record { first = k.first; steps = k.steps; quoted = quoted; end = Some l; reached = k.reached }

abbrev pub with_kept : PatchModel → KeptModel → PatchModel
with_kept P k = record { problem = P.problem; margins = P.margins; kept = k }

-- the patch's present state may be narrowed by it
abbrev pub can_narrow_in : PatchModel → Narrowing → Bool
can_narrow_in P n = can_narrow (problem_in P) (loosenings_in P) (now_in P) n

-- what it leaves of the space of the patch's present state
abbrev pub narrowed_in : PatchModel → Narrowing → Option Space
narrowed_in P n = narrowed_to (problem_in P) (loosenings_in P) (now_in P) n

abbrev pub space_or : Space → Option Space → Space
space_or space None = space
space_or space (Some narrow) = narrow

-- the space that is left to the patch
abbrev pub narrowed_space : PatchModel → Narrowing → Space
narrowed_space P n = space_or (now_in P).space (narrowed_in P n)
