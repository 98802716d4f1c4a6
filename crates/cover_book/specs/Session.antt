-- The books of the checks of a script, one after the other.
use Rattle.std.specs.Prelude.{◌≡◌, List, [], ◌∷◌, Bool, cond}
use Rattle.poly_graph.specs.ProblemViews.{Parts}
use Rattle.cover_model.specs.State.{State}
use Rattle.cover_data.specs.declared.margins.Options.{Options}
use Rattle.cover_book.specs.Model.{BookModel, IsOfRoot, kept_from}
use Rattle.cover_book.specs.Keeps.{IsBook}

-- the lemmas that the next book opens with: those of this one, where all commands of its check are in force at the next
abbrev pub next_kept : BookModel → List (Parts × Bool) → List State
next_kept b [] = []
next_kept b ((q, e) ∷ later) = cond e (kept_from b q) []

-- A book of the whole box for each of these problems, of which the first opened with these lemmas, and each other one with those of the book before.
abbrev pub AreBooksOf : Options → List State → List (Parts × Bool) → List BookModel → Type 0
AreBooksOf o kept [] [] = Unit {0}
AreBooksOf o kept ((q, e) ∷ later) (b ∷ books) = IsBook b × (b.problem ≡ q) × (b.options ≡ o) × (b.kept ≡ kept) × IsOfRoot b × AreBooksOf o (next_kept b later) later books
AreBooksOf o kept _ _ = ⊥
