-- A search on its way, and what may be asked of it.
use Rattle.std.specs.Prelude.{◌≡◌, ◌⊎◌, ◌+◌, ◌*◌, ◌-◌, ℕ, List, [], ◌∷◌, ◌++◌, length, None, IsTrue, IsSome}
use Rattle.std.specs.List.{Contains}
use Rattle.cover_model.specs.State.{State}
use Rattle.interval_model.specs.Space.{Space}
use Rattle.cover_model.specs.Honest.{not_shown}
use Rattle.cover_model.specs.Fits.{IsShownAt}
use Rattle.cover_data.specs.declared.kept.KeptPatch.{KeptPatch}
use Rattle.cover_data.specs.Models.{LemmaModel, KeptModel}
use Rattle.cover_data.specs.Views.{kept_of}
use Rattle.cover_data.specs.Runs.{AreKept, IsRun, IsClosed}
use Rattle.cover_book.specs.Model.{BookModel, problem_in, margins_of, loosenings_in, lemma_states_in}
use Rattle.cover_book.specs.Steps.{IsLive, ends_in_branch}
use Rattle.box_worker.specs.Worked.{AreLemmasFor}
use Rattle.solve_core.specs.declared.search.Search.{Search}
use Rattle.cover_book.specs.Left.{IsLeftLive}

-- each live node waits, or is left live
abbrev pub EachWaits : BookModel → List ℕ → Type 0
EachWaits b waiting = (n : ℕ) (S : State) → IsLive b n S → Contains waiting n ⊎ IsLeftLive b S

-- these nodes wait, unless a point is kept, and these lemmas are the book's
pub record IsUnderWay (b : BookModel) (waiting : List ℕ) (lemmas : List LemmaModel) : Type 0 where
  pub waits : b.point ≡ None → EachWaits b waiting
  pub kept : AreKept (lemma_states_in b) lemmas
  pub usable : AreLemmasFor (problem_in b) (loosenings_in b) lemmas

-- these nodes wait
abbrev pub IsSearch : Search → List ℕ → Type 0
IsSearch s waiting = IsUnderWay s.book waiting s.lemmas.items

-- a point is kept, or no node waits
abbrev pub IsOver : Search → Type 0
IsOver s = (s.book.point ≡ None) → s.waiting.items ≡ []

-- how many nodes there may be to come
abbrev pub left_of : BookModel → List ℕ → ℕ
left_of b waiting = length waiting + 2 * (b.options.budget - b.branches)

abbrev pub work_left : Search → ℕ
work_left s = left_of s.book s.waiting.items

-- ---- what comes of the work on a node

-- no point is kept yet, and the node is live and waits no more
pub record IsAt (s : Search) (n : ℕ) (S : State) : Type 0 where
  pub search : IsSearch s (s.waiting.items ++ (n ∷ []))
  pub live : IsLive s.book n S
  pub no_point : s.book.point ≡ None

-- a point that was found there
pub record CanFind (s : Search) (n : ℕ) (x : Space) : Type 0 where
  pub state : State
  pub at : IsAt s n state
  pub shown : IsShownAt (problem_in s.book) (loosenings_in s.book) x

-- a patch from its state that has ended; a branch only where the state is one that may be left live
pub record CanCommit (s : Search) (n : ℕ) (P : KeptPatch) : Type 0 where
  pub at : IsAt s n P.first
  pub run : IsRun (problem_in s.book) (margins_of s.book.options) (kept_of P)
  pub ended : IsSome P.end
  pub quoted : AreKept (lemma_states_in s.book) (kept_of P).quoted
  pub due : IsTrue (ends_in_branch (kept_of P).end) → IsTrue (not_shown (problem_in s.book) (loosenings_in s.book) P.first)

-- a closed patch
pub record CanLearn (s : Search) (k : KeptModel) : Type 0 where
  pub search : IsSearch s s.waiting.items
  pub run : IsRun (problem_in s.book) (margins_of s.book.options) k
  pub closed : IsClosed k
  pub quoted : AreKept (lemma_states_in s.book) k.quoted

-- a lemma of the book
pub record CanHand (s : Search) (l : LemmaModel) : Type 0 where
  pub search : IsSearch s s.waiting.items
  pub kept : AreKept (lemma_states_in s.book) (l ∷ [])
  pub usable : AreLemmasFor (problem_in s.book) (loosenings_in s.book) (l ∷ [])
