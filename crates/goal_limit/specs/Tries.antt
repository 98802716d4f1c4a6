-- Which limits a search for a least value tries: multiples of a power of two between its bounds.
use Rattle.std.specs.Prelude.{◌≡◌, ◌⊎◌, ◌+◌, ◌-◌, ◌*◌, ◌/◌, ◌%◌, ◌<◌, ℕ, zero, suc, pos, Bool, false, cond, not, ◌&&◌, Option, Some, nat_eq}
use Rattle.dyadic.specs.Calls.{power_of_two}
use Rattle.dyadic.specs.End.{end_sum, lesser_ext, negated_ext, rounded_down, rounded_up}
use Rattle.dyadic.specs.Rounding.{Dyadic, Ext, finite, end_of, ext_at_most, mid, two_to_minus}
use Rattle.poly_graph.specs.Problem.{Problem}
use Rattle.cert_model.specs.Least.{can_limit, lower_end}

-- a lower bound of the goal, none being minus infinity, the upper one, and how near they shall come: within 2^-gap
pub record Span : Type 0 where
  pub low : Option Dyadic
  pub high : Ext
  pub gap : ℕ

-- ---- near which number a limit is looked for

abbrev pub sum_down : Ext → Ext → Ext
sum_down e f = rounded_down (end_sum (end_of e) (end_of f))

abbrev pub sum_up : Ext → Ext → Ext
sum_up e f = rounded_up (end_sum (end_of e) (end_of f))

-- below the upper bound by the gap: where nothing is at most this, the bounds are near
abbrev pub closing_target : Span → Ext
closing_target s = sum_down s.high (negated_ext (finite (two_to_minus s.gap)))

-- half way between the bounds, where both are numbers and that is less
abbrev pub half_target : Option Dyadic → Ext → Ext → Ext
half_target (Some low) (finite high) closing = lesser_ext (finite (mid low high)) closing
half_target low high closing = closing

-- one of the two
abbrev pub IsTarget : Span → Ext → Type 0
IsTarget s t = (t ≡ closing_target s) ⊎ (t ≡ half_target s.low s.high (closing_target s))

-- ---- which limits are tried

-- 2^k
abbrev pub power : ℕ → Ext
power k = finite (power_of_two (pos k))

-- Up to a multiple of 2^-k: between 2^(61-k) and twice that the numbers that are kept are these multiples, so the sum with three halves of it is rounded to
-- one, and the difference is one. Where e is of a size above 2^(60-k), perhaps to a coarser one.
abbrev pub multiple_up : ℕ → Ext → Ext
multiple_up k e =
    let sum = sum_up (sum_up e (power (61 - k))) (power (60 - k)) in
    sum_down (sum_down sum (negated_ext (power (61 - k)))) (negated_ext (power (60 - k)))

-- for each number of bits so many multiples next to each other
abbrev pub neighbours : ℕ
neighbours = 16

-- so many are tried, since one may have a constant that the problem has already
abbrev pub tries : ℕ
tries = 4 * neighbours

-- the bits of try i, two more than the gap's at first
abbrev pub bits_at : Span → ℕ → ℕ
bits_at s i = s.gap + 2 + i / neighbours

-- e and so many steps
abbrev pub with_steps : Ext → Ext → ℕ → Ext
with_steps e step zero = e
with_steps e step (suc n) = sum_down (with_steps e step n) step

-- neighbour n of a multiple e of 2^-k: e itself, then in turn one above it and one below it, ever farther
abbrev pub neighbour : ℕ → Ext → ℕ → Ext
neighbour k e n =
    cond (nat_eq (n % 2) 0) (with_steps e (negated_ext (finite (two_to_minus k))) (n / 2)) (with_steps e (finite (two_to_minus k)) (n / 2 + 1))

-- the target rounded up, and its neighbours
abbrev pub limit_at : Ext → Span → ℕ → Ext
limit_at t s i = let k = bits_at s i in neighbour k (multiple_up k t) (i % neighbours)

-- ---- which of them can be one

-- above the lower bound, and below the upper one
abbrev pub is_between : Span → Ext → Bool
is_between s e = not (ext_at_most e (lower_end s.low)) && not (ext_at_most s.high e)

-- it is a number between the bounds that can be a limit in k bits, where there is room for one
abbrev pub is_usable : Problem → Bool → Span → ℕ → Ext → Bool
is_usable p room s k (finite d) = is_between s (finite d) && can_limit p room (Some d) k
is_usable p room s k e = false

-- try i gives no limit
abbrev pub IsVain : Problem → Bool → Ext → Span → ℕ → Type 0
IsVain p room t s i = is_usable p room s (bits_at s i) (limit_at t s i) ≡ false

-- no try gives one
abbrev pub HasNoLimit : Problem → Bool → Ext → Span → Type 0
HasNoLimit p room t s = (i : ℕ) → i < tries → IsVain p room t s i
