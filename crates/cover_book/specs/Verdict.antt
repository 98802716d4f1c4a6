-- What a book says of its problem.
use Rattle.std.specs.Prelude.{ℕ, suc, List, [], ◌∷◌, Option, Some, None, drop, Bool, true, false, cond, is_some, nat_lt}
use Rattle.std.specs.List.{list_any}
use Rattle.cover_book.specs.declared.verdict.BookVerdict.{BookVerdict}
use Rattle.cover_book.specs.declared.verdict.BookVerdict.TheVariants.{DeltaSat, UnknownBudget, NotYet, UnknownWidth, Unsat}
use Rattle.cover_book.specs.Model.{NodeModel, live_node, stuck_node, BookModel}

abbrev pub is_live : NodeModel → Bool
is_live (live_node S) = true
is_live x = false

abbrev pub is_stuck : NodeModel → Bool
is_stuck (stuck_node steps l S) = true
is_stuck x = false

abbrev pub has_live : BookModel → Bool
has_live b = list_any is_live b.nodes

abbrev pub has_stuck : BookModel → Bool
has_stuck b = list_any is_stuck b.nodes

-- there is a budget left
abbrev pub may_branch : BookModel → Bool
may_branch b = nat_lt b.branches b.options.budget

-- a kept point comes before a live node, that before a stuck one
abbrev pub verdict_of : BookModel → BookVerdict
verdict_of b = cond (is_some b.point) DeltaSat (cond (has_live b) (cond (may_branch b) NotYet UnknownBudget) (cond (has_stuck b) UnknownWidth Unsat))

-- the first live node of these, of which the first has number k
abbrev pub first_live : ℕ → List NodeModel → Option ℕ
first_live k [] = None
first_live k (x ∷ nodes) = cond (is_live x) (Some k) (first_live (suc k) nodes)

-- the first live node of this number or a later one
abbrev pub live_after : BookModel → ℕ → Option ℕ
live_after b k = first_live k (drop k b.nodes)

-- the numbers of the live nodes among these, of which the first has number k
abbrev pub live_numbers : ℕ → List NodeModel → List ℕ
live_numbers k [] = []
live_numbers k (x ∷ nodes) = cond (is_live x) (k ∷ live_numbers (suc k) nodes) (live_numbers (suc k) nodes)

-- those of this number and later ones
abbrev pub live_numbers_after : BookModel → ℕ → List ℕ
live_numbers_after b k = live_numbers k (drop k b.nodes)
