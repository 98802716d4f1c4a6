-- What the calls answer, in values of the code.
use Rattle.std.specs.Prelude.{◌≡◌, ℕ, Bool, List, IfOk, MatchOption, Option, Result, Some}
use Rattle.std.specs.declared.alloc.AllocError.{AllocError}
use Rattle.interval_model.specs.Space.{Space}
use Rattle.poly_graph.specs.ProblemViews.{Parts, problem_of}
use Rattle.cover_model.specs.Fits.{IsShownAt}
use Rattle.cover_model.specs.Rules.{Line}
use Rattle.cover_model.specs.State.{State}
use Rattle.cover_data.specs.declared.margins.Options.{Options}
use Rattle.cover_data.specs.Margins.{margins_of, loosenings_of}
use Rattle.cover_book.specs.Model.{BookModel, opening_at}
use Rattle.cert_resume.specs.Going.{HasGone, HasPassed, HasSearched, options_now, standings}
use Rattle.cert_resumed.specs.Resumed.{Share, leaving_lines}
use Rattle.cert_resume.specs.Request.{IsVersionOn}
use Rattle.cert_resume.specs.declared.going.Going.{Going}

abbrev pub with_budget : Options → ℕ → Options
with_budget o n = record o { budget = n }

abbrev pub IsOpened : Parts → Options → List State → ℕ → State → BookModel → Type 0
IsOpened q o lemmas budget S b = b ≡ opening_at q (with_budget o budget) lemmas S

abbrev pub IsPointOf : Parts → Options → Space → Type 0
IsPointOf q o x = IsShownAt (problem_of q) (loosenings_of (margins_of o)) x

-- the book keeps the point, and its version was taken over
abbrev pub IsPointNoted : BookModel → Going → Space → Type 0
IsPointNoted b g x = (b.point ≡ Some x) × (g.version ≡ b.options.version)

-- a point is shown in the version of a search that began in this one
abbrev pub IsFoundPoint : Parts → Options → ℕ → Going → Space → Type 0
IsFoundPoint q o first g x = IsVersionOn first g.version × IsPointOf q (options_now o g) x

-- a point that is shown, or else the state was searched
abbrev pub Searches : Parts → Options → State → Going → Going → Result (Option Space) AllocError → Type 0
Searches q o S g g' r = IfOk r (λ x. MatchOption x (HasSearched q (options_now o g') S g g') (IsFoundPoint q o g.version g'))

abbrev pub Passes : Bool → Parts → Options → State → Line → Going → Going → Result (Option Space) AllocError → Type 0
Passes own q o S l g g' r = IfOk r (λ x. MatchOption x (HasPassed own q (options_now o g') S l g g') (IsFoundPoint q o g.version g'))

-- these lines were gone through, in the version of a search that began in that of the options
abbrev pub HasWalked : Parts → Options → Share → List State → List Line → List State → Going → Type 0
HasWalked q o h start lines left g = IsVersionOn o.version g.version × HasGone q (options_now o g) h start lines (standings (leaving_lines lines) left) g

-- a point that is shown, or else all of these lines were gone through
abbrev pub Walks : Parts → Options → Share → List State → List Line → List State → Going → Result (Option Space) AllocError → Type 0
Walks q o h start lines left g r = IfOk r (λ x. MatchOption x (HasWalked q o h start lines left g) (IsFoundPoint q o o.version g))
