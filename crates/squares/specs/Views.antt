-- What the code's types stand for.
use Rattle.std.specs.Prelude.{◌≡◌, ℕ, ◌+◌, ◌<◌, Vec, map, Bool, true, false, cond, Option, Some, None}
use Rattle.std.specs.Cmp.Lexicographic.{slice_cmp}
use Rattle.std.specs.List.Sorted.{IsStrictlySortedBy}
use Rattle.std.specs.Map.{keys_of}
use Rattle.std.specs.Ordering.{nat_cmp}
use Rattle.std.specs.declared.alloc.Global.{Global}
use Rattle.cover_line.specs.Views.{axes_of}
use Rattle.dyadic.specs.Rounding.{Dyadic}
use Rattle.ival.specs.declared.ends.Ival.{Ival}
use Rattle.ival.specs.Views.{interval_of}
use Rattle.interval_model.specs.Interval.{Interval, interval_sum, misses_nought}
use Rattle.ival.specs.SpaceViews.{space_of}
use Rattle.ival.specs.declared.space.Space.{Space}
use Rattle.square_model.specs.Polynomial as model
use Rattle.square_model.specs.Range.{apart_range, range_times}
use Rattle.square_model.specs.Polynomial.{Monomial, only, given}
use Rattle.squares.specs.declared.budget.Budget.{Budget}
use Rattle.squares.specs.declared.polynomial.Polynomial.{Polynomial}
use Rattle.squares.specs.declared.range.Factors.{Factors}

abbrev pub term_of : Vec ℕ Global × Ival → Monomial × Interval
term_of e = (e.0.items, interval_of e.1)

abbrev pub terms_of : Polynomial → model.Polynomial
terms_of p = map term_of p.terms.entries

-- the monomials ascend
abbrev pub IsAscending : Polynomial → Type 0
IsAscending p = IsStrictlySortedBy (λ v w. slice_cmp nat_cmp (axes_of v) (axes_of w)) (keys_of p.terms.entries)

-- the sum of the value that is there, if one is, and this
abbrev pub total : {X : Type 0} → (X → Interval) → Option X → Interval → Interval
total g None i = i
total g (Some x) i = interval_sum (g x) i

-- by how much an axis may differ from the centre, over the space
abbrev pub apart_over : Space → Space → ℕ → Interval
apart_over space centre axis = apart_range (space_of space) (space_of centre) axis

-- of the factors so far and these
abbrev pub range_before : (ℕ → Interval) → Factors → Monomial → Interval
range_before apart f m = range_times apart (interval_of f.range) f.waiting m

-- so many steps are taken, if they are left
abbrev pub Takes : ℕ → Budget → Budget → Bool → Type 0
Takes n old new true = new.left + n ≡ old.left
Takes n old new false = old.left < n

-- the number is given to the monomial's coefficient, but no nought
abbrev pub given_unless_nought : Monomial → Dyadic → model.Polynomial → model.Polynomial
given_unless_nought m v q = cond (misses_nought (only v)) (given m (only v) q) q

-- so much is left without these, or there are more
abbrev pub Leaves : ℕ → ℕ → Option ℕ → Type 0
Leaves n left (Some less) = less + n ≡ left
Leaves n left None = left < n
