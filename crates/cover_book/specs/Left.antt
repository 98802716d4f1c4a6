-- What a search leaves live.
use Rattle.std.specs.Prelude.{◌≡◌, ◌≤◌, ℕ, None, IsTrue}
use Rattle.cover_model.specs.State.{State}
use Rattle.cover_model.specs.Honest.{not_shown}
use Rattle.cover_book.specs.Model.{BookModel, problem_in, loosenings_in}
use Rattle.cover_book.specs.Steps.{IsLive}

-- at a live node's state the form may hold and is not sure at the middle, and no branch is left for it
pub record IsLeftLive (b : BookModel) (S : State) : Type 0 where
  pub not_shown : IsTrue (not_shown (problem_in b) (loosenings_in b) S)
  pub spent : b.options.budget ≤ b.branches

-- so it is at each live node, where no point is kept
abbrev pub LeavesDue : BookModel → Type 0
LeavesDue b = b.point ≡ None → (n : ℕ) (S : State) → IsLive b n S → IsLeftLive b S
