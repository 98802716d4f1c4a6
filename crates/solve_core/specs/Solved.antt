-- Books of the checks of a script, as searches leave them.
use Rattle.std.specs.Prelude.{◌≡◌, ◌≢◌, ◌⊎◌, ℕ, suc, List, [], ◌∷◌, ◌++◌, map, Bool, cond, nat_le, Some, slice_get}
use Rattle.poly_graph.specs.ProblemViews.{Parts}
use Rattle.cover_data.specs.declared.margins.Options.{Options}
use Rattle.cover_data.specs.Margins.{options_in}
use Rattle.cover_book.specs.declared.verdict.BookVerdict.TheVariants as verdict
use Rattle.cover_book.specs.Limits.{IsWithinLimits}
use Rattle.cover_book.specs.Model.{BookModel, opening_with, kept_from, raised}
use Rattle.cover_book.specs.Session.{AreBooksOf}
use Rattle.cover_book.specs.Verdict.{verdict_of}
use Rattle.cover_book.specs.Left.{LeavesDue}
use Rattle.solve_core.specs.Reaches.{IsSearched}

-- a book of these options but for the version, which is this one or that of the options
pub record IsInVersionOf (o : Options) (first : ℕ) (b : BookModel) : Type 0 where
  pub options : b.options ≡ options_in b.options.version o
  pub version : (b.options.version ≡ first) ⊎ (b.options.version ≡ o.version)

-- it was searched for from the book as it opened in a version, and it has an answer
pub record IsSolved (b : BookModel) : Type 0 where
  pub first : ℕ
  pub searched : IsSearched (opening_with b.problem (options_in first b.options) b.kept) b
  pub verdict : verdict_of b ≢ verdict.NotYet
  pub left : LeavesDue b

-- the problem of a check is within the limits
abbrev pub IsCheckWithin : Options → Parts × Bool → Type 0
IsCheckWithin o c = IsWithinLimits c.0 o

-- check k has this problem
abbrev pub IsProblemAt : List (Parts × Bool) → ℕ → Parts → Type 0
IsProblemAt session k p = (e : Bool) × (slice_get session k ≡ Some (p, e))

-- the problem of the check behind check k, and the book that opens there, where the old book is that of check k
pub record IsOpeningAt (session : List (Parts × Bool)) (k : ℕ) (old : BookModel) (p : Parts) (b : BookModel) : Type 0 where
  pub goes_on : Bool
  pub check : slice_get session (suc k) ≡ Some (p, goes_on)
  pub book : b ≡ opening_with p old.options (cond goes_on (kept_from old p) [])

-- one more book behind those that were there, which go over to version 5 where it is of that
abbrev pub AreAppended : List BookModel → BookModel → List BookModel → Type 0
AreAppended old b new = new ≡ cond (nat_le 5 b.options.version) (map raised old) old ++ (b ∷ [])

-- the books of the checks, all in one version: 2, or that of the options
abbrev pub AreBooksInOneVersion : Options → List (Parts × Bool) → List BookModel → Type 0
AreBooksInOneVersion o session books = (v : ℕ) × ((v ≡ 2) ⊎ (v ≡ o.version)) × AreBooksOf (options_in v o) [] session books
