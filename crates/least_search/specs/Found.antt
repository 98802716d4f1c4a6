-- What a search for a least value finds.
use Rattle.std.specs.Prelude.{◌≡◌, ◌≢◌, ◌⊎◌, ◌+◌, ◌*◌, ◌<◌, ℕ, suc, List, [], ◌∷◌, All, Option, Some, None, IfSome, true, false, cond, nat_le, option_map}
use Rattle.dyadic.specs.Rounding.{Dyadic, Ext, ext_at_most, finite}
use Rattle.dyadic.specs.Views.{dyadic_of, ext_of}
use Rattle.dyadic.specs.declared.dy.Dy.{Dy}
use Rattle.poly_graph.specs.Problem.{Problem}
use Rattle.poly_graph.specs.ProblemViews.{Parts, problem_of}
use Rattle.interval_model.specs.Space.{Space}
use Rattle.cover_model.specs.Fits.{IsShownAt}
use Rattle.cover_data.specs.declared.margins.Options.{Options}
use Rattle.cover_data.specs.Margins.{margins_in, margins_of, loosenings_of, options_in}
use Rattle.cert_model.specs.Due.{is_crossed_box}
use Rattle.cert_model.specs.Least.{IsSettled, lower_end, upper_at}
use Rattle.cert_model.specs.Limited.{limited}
use Rattle.goal_limit.specs.Limits.{takes_limit}
use Rattle.goal_limit.specs.Lows.{root_low}
use Rattle.cover_book.specs.Keeps.{IsBook}
use Rattle.cover_book.specs.Left.{LeavesDue}
use Rattle.cover_book.specs.Model.{BookModel, IsOfRoot, problem_in, raised}
use Rattle.cover_book.specs.Verdict.{verdict_of}
use Rattle.cover_book.specs.declared.verdict.BookVerdict.TheVariants as verdict
use Rattle.least_search.specs.Aims.{IsRootBound}
use Rattle.least_search.specs.Limits.{Span, is_between, HasNoLimit, IsLimited, IsNotBelow}
use Rattle.least_search.specs.declared.found.Lower.{Lower}
use Rattle.least_search.specs.declared.found.Lower.TheVariants as shown
use Rattle.least_search.specs.declared.found.Ending.{Ending}
use Rattle.least_search.specs.declared.found.Ending.TheVariants as ending
use Rattle.least_search.specs.declared.found.Found.{Found}
use Rattle.least_search.specs.declared.found.Least.{Least}
use Rattle.least_search.specs.declared.found.Least.TheVariants as least
use Rattle.least_search.specs.declared.limits.Limited.{Limited}
use Rattle.least_search.specs.declared.limits.Phase.{Phase}
use Rattle.least_search.specs.declared.limits.Phase.TheVariants as phase
use Rattle.least_search.specs.declared.bounds.Bounds.{Bounds}
use Rattle.least_search.specs.declared.aim.Aim.{Aim}

-- ---- versions

-- the version in which a search begins or ends
abbrev pub IsSearchVersion : ℕ → Type 0
IsSearchVersion v = (v ≡ 2) ⊎ (v ≡ 5)

-- the version in which a search ends that begins in version v
abbrev pub IsVersionAfter : ℕ → ℕ → Type 0
IsVersionAfter v w = (w ≡ v) ⊎ (w ≡ 5)

-- ---- books

-- what a searcher gives of a problem, asked for by options: a book of both, but that it may be in version 5, which opened in the root state with no
-- lemmas, with an answer
pub record IsBookOf (q : Parts) (o : Options) (b : BookModel) : Type 0 where
  pub problem : b.problem ≡ q
  pub version : IsVersionAfter o.version b.options.version
  pub options : b.options ≡ options_in b.options.version o
  pub alone : b.kept ≡ []
  pub root : IsOfRoot b
  pub book : IsBook b
  pub verdict : verdict_of b ≢ verdict.NotYet
  pub left : LeavesDue b

-- ---- the searches of a search for a least value

-- from the lower end of the goal over the declared box to its value at a point
abbrev pub span_to : Problem → ℕ → Space → Span
span_to p g x = record { low = root_low p g; high = upper_at p g x; gap = 0 }

-- what a search of the problem with a limit of the goal leaves, asked for margins and a bound as in the options, in some version
pub record IsLimitSearch (q : Parts) (g : ℕ) (o : Options) (k : ℕ) (d : Dyadic) (b : BookModel) : Type 0 where
  pub takes : takes_limit (problem_of q) k d ≡ true
  pub problem : problem_in b ≡ limited (problem_of q) g k d
  pub margins : margins_of b.options ≡ margins_in b.options.version (margins_of o)
  pub bound : b.options.bound ≡ o.bound
  pub alone : b.kept ≡ []
  pub root : IsOfRoot b
  pub book : IsBook b
  pub verdict : verdict_of b ≢ verdict.NotYet
  pub left : LeavesDue b

-- with some limit
abbrev pub IsLater : Parts → ℕ → Options → BookModel → Type 0
IsLater q g o b = (k : ℕ) × (d : Dyadic) × IsLimitSearch q g o k d b

-- of the budget each of these searches costs one, and its branches
abbrev pub cost_of : List BookModel → ℕ
cost_of [] = 0
cost_of (b ∷ books) = suc b.branches + cost_of books

-- the first search, of the problem itself with all the options, found this point, and leaves so much of the budget
pub record Begins (q : Parts) (o : Options) (start : Space) (left : ℕ) : Type 0 where
  pub first : BookModel
  pub is_first : IsBookOf q o first
  pub kept : first.point ≡ Some start
  pub sum : first.branches + left ≡ o.budget

-- Searches, of which the options' budget leaves so much: the first one, of the problem itself with all the options, and later ones, each with a limit of
-- the goal.
pub record Leaves (q : Parts) (g : ℕ) (o : Options) (left : ℕ) : Type 0 where
  pub first : BookModel
  pub is_first : IsBookOf q o first
  pub later : List BookModel
  pub are_later : All (IsLater q g o) later
  pub sum : first.branches + cost_of later + left ≡ o.budget

-- ---- what they found is in the bounds

-- A later search, by the bounds that are known now. Its limit lies between the bound of the declared box and the goal at a point that was the best one
-- then; where it left nothing, the lower bound is not below its limit; where it found a point, the upper bound is not above the goal there.
pub record IsUsed (q : Parts) (g : ℕ) (o : Options) (low high : Ext) (b : BookModel) : Type 0 where
  pub bits : ℕ
  pub limit : Dyadic
  pub searched : IsLimitSearch q g o bits limit b
  pub best : Space
  pub shown : IsShownAt (problem_of q) (loosenings_of (margins_of o)) best
  pub between : is_between (span_to (problem_of q) g best) (finite limit) ≡ true
  pub closed : verdict_of b ≡ verdict.Unsat → ext_at_most (finite limit) low ≡ true
  pub found : IfSome b.point (λ x. ext_at_most high (upper_at (problem_of q) g x) ≡ true)

-- the same of all searches; the upper bound is not above the goal at the point of the first one
pub record AreUsed (q : Parts) (g : ℕ) (o : Options) (low high : Ext) (first : BookModel) (later : List BookModel) : Type 0 where
  pub start : Space
  pub kept : first.point ≡ Some start
  pub best : ext_at_most high (upper_at (problem_of q) g start) ≡ true
  pub all : All (IsUsed q g o low high) later

-- ---- bounds

-- the bound that is shown
abbrev pub bound_of : Lower → Option Dy
bound_of (shown.Root low) = low
bound_of (shown.Limit b k d) = Some d

abbrev pub low_end : Lower → Ext
low_end l = lower_end (option_map dyadic_of (bound_of l))

-- the bound is not below that of the declared box
abbrev pub IsAboveRoot : Parts → ℕ → Lower → Type 0
IsAboveRoot q g l = ext_at_most (lower_end (root_low (problem_of q) g)) (low_end l) ≡ true

-- the book leaves nothing of the problem with the limit
pub record IsClosed (q : Parts) (g : ℕ) (o : Options) (b : BookModel) (k : ℕ) (d : Dyadic) : Type 0 where
  pub takes : takes_limit (problem_of q) k d ≡ true
  pub problem : problem_in b ≡ limited (problem_of q) g k d
  pub margins : margins_of b.options ≡ margins_of o
  pub bound : b.options.bound ≡ o.bound
  pub alone : b.kept ≡ []
  pub root : IsOfRoot b
  pub closed : verdict_of b ≡ verdict.Unsat

-- what shows the bound does
abbrev pub IsLower : Parts → ℕ → Options → Lower → Type 0
IsLower q g o (shown.Root low) = IsRootBound (problem_of q) g (option_map dyadic_of low)
IsLower q g o (shown.Limit b k d) = IsClosed q g o b k (dyadic_of d)

-- what shows the bound, where the last search ended in this version: what is of version 5 then
abbrev pub raised_lower : Lower → Lower
raised_lower (shown.Root low) = shown.Root low
raised_lower (shown.Limit b k d) = shown.Limit (raised b) k d

abbrev pub lower_behind : ℕ → Lower → Lower
lower_behind v l = cond (nat_le 5 v) (raised_lower l) l

-- The bounds so far: what shows the lower one, in their version, which is not below that of the declared box, a point that is shown, the upper end of the
-- goal there, a last limit at which a probe decided nothing, which is not below the lower bound, and what is left of the budget.
pub record IsBounds (q : Parts) (g : ℕ) (o : Options) (b : Bounds) : Type 0 where
  pub version : IsSearchVersion b.version
  pub lower : IsLower q g (options_in b.version o) b.lower
  pub root : IsAboveRoot q g b.lower
  pub shown : IsShownAt (problem_of q) (loosenings_of (margins_of o)) b.point
  pub upper : ext_of b.upper ≡ upper_at (problem_of q) g b.point
  pub tried : IsNotBelow (low_end b.lower) b.tried
  pub searches : Leaves q g o b.budget
  pub used : AreUsed q g o (low_end b.lower) (ext_of b.upper) searches.first searches.later

-- the bounds as numbers
abbrev pub span_of : ℕ → Bounds → Span
span_of gap b = record { low = option_map dyadic_of (bound_of b.lower); high = ext_of b.upper; gap = gap }

-- Falls with each step of the search: with the budget, and where it goes from a probe to the closing search with no search between.
abbrev pub probes : Phase → ℕ
probes phase.Probing = 1
probes p = 0

abbrev pub weight : Bounds → ℕ
weight b = 2 * b.budget + probes b.phase

-- bounds of the goal that is aimed at
abbrev pub AreBoundsOf : Aim → Bounds → Type 0
AreBoundsOf a b = IsBounds a.problem.now a.goal a.options.now b

-- the first search for the aim found this point, and leaves so much of the budget
abbrev pub BeginsFor : Aim → Space → ℕ → Type 0
BeginsFor a start left = Begins a.problem.now a.options.now start left

-- the bounds are farther from each other than was asked
abbrev pub AreFar : Span → Type 0
AreFar s = IsSettled s.gap s.low s.high → ⊥

-- what a search of the aim's problem with this limit leaves
abbrev pub IsSearchOf : Aim → Limited → BookModel → Type 0
IsSearchOf a l b = IsLimitSearch a.problem.now a.goal a.options.now l.bits (dyadic_of l.limit) b

-- the book of a search with this limit, which lies between the bounds, and it costs no more than is left of the budget
pub record IsNextSearch (a : Aim) (b : Bounds) (l : Limited) (book : BookModel) : Type 0 where
  pub limited : IsLimited a.problem.now a.goal l
  pub searched : IsSearchOf a l book
  pub between : is_between (span_of a.gap_bits b) (finite (dyadic_of l.limit)) ≡ true
  pub few : book.branches < b.budget

-- a point at which the form of its problem is sure
abbrev pub IsShownFor : Aim → Space → Type 0
IsShownFor a x = IsShownAt (problem_of a.problem.now) (loosenings_of (margins_of a.options.now)) x

-- the upper bound is at most the goal at this point
abbrev pub IsKeptFor : Aim → Bounds → Space → Type 0
IsKeptFor a b x = ext_at_most (ext_of b.upper) (upper_at (problem_of a.problem.now) a.goal x) ≡ true

-- ---- why a search ends

-- A search with a limit between the bounds closed all but boxes of the least width: on one of these the limit or an atom is not decided.
pub record IsNarrow (q : Parts) (g : ℕ) (o : Options) (s : Span) : Type 0 where
  pub book : BookModel
  pub bits : ℕ
  pub limit : Dyadic
  pub between : is_between s (finite limit) ≡ true
  pub searched : IsLimitSearch q g o bits limit book
  pub narrow : verdict_of book ≡ verdict.UnknownWidth

-- for bounds, where so much of the budget is left
abbrev pub EndsFor : Parts → ℕ → Options → ℕ → Span → Ending → Type 0
EndsFor q g o left s ending.Minimum = IsSettled s.gap s.low s.high
EndsFor q g o left s ending.Budget = left ≡ 0
EndsFor q g o left s ending.Width = IsNarrow q g o s
EndsFor q g o left s ending.Limit = (p : Phase) × HasNoLimit q p s

-- the same, and where the bounds are near it is for that
pub record IsEnding (q : Parts) (g : ℕ) (o : Options) (left : ℕ) (s : Span) (e : Ending) : Type 0 where
  pub told : EndsFor q g o left s e
  pub near : IsSettled s.gap s.low s.high → e ≡ ending.Minimum

-- where a search from these bounds on ends, it is for this
abbrev pub IsEndingAt : Aim → Bounds → Option Ending → Type 0
IsEndingAt a b e = IfSome e (IsEnding a.problem.now a.goal a.options.now b.budget (span_of a.gap_bits b))

-- ---- what is found

-- the bounds that were found, as numbers
abbrev pub found_span : Parts → ℕ → ℕ → Found → Span
found_span q g gap f = record { low = option_map dyadic_of (bound_of f.lower); high = upper_at (problem_of q) g f.point; gap = gap }

-- What shows the lower bound is in the version of the last search; `left` is what the searches leave of the budget.
pub record IsFound (q : Parts) (g gap : ℕ) (o : Options) (f : Found) : Type 0 where
  pub version : IsSearchVersion f.version
  pub lower : IsLower q g (options_in f.version o) f.lower
  pub root : IsAboveRoot q g f.lower
  pub shown : IsShownAt (problem_of q) (loosenings_of (margins_of o)) f.point
  pub upper : ext_of f.upper ≡ upper_at (problem_of q) g f.point
  pub crossed : is_crossed_box (problem_of q) ≡ false
  pub left : ℕ
  pub searches : Leaves q g o left
  pub used : AreUsed q g o (low_end f.lower) (upper_at (problem_of q) g f.point) searches.first searches.later
  pub near : IsSettled gap (option_map dyadic_of (bound_of f.lower)) (upper_at (problem_of q) g f.point) → f.ending ≡ ending.Minimum
  pub ending : EndsFor q g o left (found_span q g gap f) f.ending

-- the book of the first search, which keeps no point
pub record IsFirst (q : Parts) (o : Options) (b : BookModel) : Type 0 where
  pub searched : IsBookOf q o b
  pub no_point : b.point ≡ None

abbrev pub IsLeast : Parts → ℕ → ℕ → Options → Least → Type 0
IsLeast q g gap o (least.NoPoint b) = IsFirst q o b
IsLeast q g gap o (least.Found f) = IsFound q g gap o f
