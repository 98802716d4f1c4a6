-- What the certificates of least values that are written mean.
use Rattle.std.specs.Prelude.{◌≡◌, ℕ, List, [], ◌∷◌, Bool, true, false, Option, Some}
use Rattle.dyadic.specs.Rounding.{Dyadic}
use Rattle.interval_model.specs.Space.{Space}
use Rattle.poly_graph.specs.Problem.{Problem}
use Rattle.cover_model.specs.State.{root_state}
use Rattle.cover_model.specs.Rules.{open_line}
use Rattle.cover_model.specs.Fits.{IsShownAt}
use Rattle.cover_data.specs.declared.margins.Options.{Options}
use Rattle.cover_data.specs.Margins.{AreMargins, margins_of, loosenings_of}
use Rattle.cert_model.specs.Due.{Standing, is_crossed_box}
use Rattle.cert_model.specs.Least.{least, is_over, can_limit, IsGoalAccepted}
use Rattle.cert_model.specs.Limited.{limited}
use Rattle.cover_book.specs.Model.{BookModel, problem_in, loosenings_in}

-- ---- the root over the bound

-- the root, which is left open
abbrev pub open_root : Problem → Standing
open_root p = record { state = root_state p; does = open_line }

-- at margins of these options the text is accepted where the declared box is not empty, the goal over the root is not below the bound, and the
-- point is shown: with the bound, the root as the one leaf that is over it, and the point
abbrev pub IsOverCertificate : Options → Option Dyadic → Space → List ℕ → Type 0
IsOverCertificate o low x text =
    (p : Problem) (g : ℕ) (room : Bool) → AreMargins (margins_of o) → is_crossed_box p ≡ false → is_over p g low (root_state p).space ≡ true →
    IsShownAt p (loosenings_of (margins_of o)) x →
    IsGoalAccepted p g room o.bound text (loosenings_of (margins_of o)) (least (record { lower = low; over = open_root p ∷ []; point = Some x }))

-- ---- a book of the problem with a limit

-- of the problem without the limit, where there is room for it, the text is accepted at a point that is shown: with the limit as the bound, no
-- leaf that is over it, and the point
abbrev pub IsLimitedCertificate : BookModel → ℕ → Dyadic → Space → List ℕ → Type 0
IsLimitedCertificate b k d x text =
    (p : Problem) (g : ℕ) (room : Bool) → can_limit p room (Some d) k ≡ true → problem_in b ≡ limited p g k d → IsShownAt p (loosenings_in b) x →
    IsGoalAccepted p g room b.options.bound text (loosenings_in b) (least (record { lower = Some d; over = []; point = Some x }))
