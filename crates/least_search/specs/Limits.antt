-- The limit of the next search.
use Rattle.std.specs.Prelude.{◌≡◌, ◌<◌, ◌≤◌, ℕ, true, Option, Some, None, length, option_map}
pub use Rattle.dyadic.specs.End.{lesser_ext}
use Rattle.dyadic.specs.Rounding.{Ext, finite, ext_at_most}
use Rattle.dyadic.specs.Views.{dyadic_of, ext_of}
use Rattle.dyadic.specs.declared.dy.Dy.{Dy}
use Rattle.poly_graph.specs.ProblemViews.{Parts, problem_of}
use Rattle.cert_model.specs.Limited.{limited}
use Rattle.goal_limit.specs.Limits.{has_room, takes_limit}
pub use Rattle.goal_limit.specs.Tries.{Span, bits_at, closing_target, half_target, is_between, multiple_up, neighbour, tries, with_steps}
use Rattle.goal_limit.specs.Tries as near
use Rattle.least_search.specs.declared.limits.Between.{Between}
use Rattle.least_search.specs.declared.limits.Limited.{Limited}
use Rattle.least_search.specs.declared.limits.Phase.{Phase}
use Rattle.least_search.specs.declared.limits.Phase.TheVariants as phase

-- where a limit is looked for
abbrev pub target : Phase → Span → Ext
target phase.Closing s = closing_target s
target p s = half_target s.low s.high (closing_target s)

-- the limit of try i
abbrev pub limit_at : Phase → Span → ℕ → Ext
limit_at p s i = near.limit_at (target p s) s i

-- it gives no limit
abbrev pub IsVain : Parts → Phase → Span → ℕ → Type 0
IsVain q p s i = near.IsVain (problem_of q) (has_room (problem_of q)) (target p s) s i

-- no try gives one
abbrev pub HasNoLimit : Parts → Phase → Span → Type 0
HasNoLimit q p s = near.HasNoLimit (problem_of q) (has_room (problem_of q)) (target p s) s

-- ---- what is given

-- a problem with a limit of its goal, which may be searched
pub record IsLimited (q : Parts) (g : ℕ) (l : Limited) : Type 0 where
  pub takes : takes_limit (problem_of q) l.bits (dyadic_of l.limit) ≡ true
  pub problem : problem_of l.problem ≡ limited (problem_of q) g l.bits (dyadic_of l.limit)
  pub few : length l.problem.atoms ≤ 65536

-- with the limit of try i, a number between the bounds
pub record IsLimitOfTry (q : Parts) (g : ℕ) (p : Phase) (s : Span) (i : ℕ) (l : Limited) : Type 0 where
  pub limited : IsLimited q g l
  pub between : is_between s (finite (dyadic_of l.limit)) ≡ true
  pub bits : l.bits ≡ bits_at s i
  pub limit : finite (dyadic_of l.limit) ≡ limit_at p s i

abbrev pub IsTried : Parts → ℕ → Phase → Span → ℕ → Option Limited → Type 0
IsTried q g p s i None = IsVain q p s i
IsTried q g p s i (Some l) = IsLimitOfTry q g p s i l

-- that of the first try that gives one
pub record IsNext (q : Parts) (g : ℕ) (p : Phase) (s : Span) (l : Limited) : Type 0 where
  pub number : ℕ
  pub few : number < tries
  pub here : IsLimitOfTry q g p s number l
  pub before : (i : ℕ) → i < number → IsVain q p s i

abbrev pub IsNextLimit : Parts → ℕ → Phase → Span → Option Limited → Type 0
IsNextLimit q g p s None = HasNoLimit q p s
IsNextLimit q g p s (Some l) = IsNext q g p s l

-- ---- bounds as the code has them

abbrev pub span_in : Between → Span
span_in b = record { low = option_map dyadic_of b.lower; high = ext_of b.upper; gap = b.gap_bits }

-- ---- limits at which a probe decided nothing

-- there is none, or it is not below this
abbrev pub IsNotBelow : Ext → Option Dy → Type 0
IsNotBelow low None = Unit {0}
IsNotBelow low (Some d) = ext_at_most low (finite (dyadic_of d)) ≡ true

-- what is not below one of these is not below the other
abbrev pub StaysAbove : Option Dy → Dy → Option Dy → Type 0
StaysAbove old d new = (low : Ext) → IsNotBelow low old → ext_at_most low (finite (dyadic_of d)) ≡ true → IsNotBelow low new
