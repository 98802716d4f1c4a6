-- A combination that leaves nothing of a space: its atoms, each with its multiplier and whether it was marked no.
use Rattle.std.specs.Prelude.{◌≡◌, ℕ, ◌<◌, List, map, length, All, Bool, true, None}
use Rattle.dyadic.specs.declared.dy.Dy.{Dy}
use Rattle.dyadic.specs.Rounding.{Dyadic}
use Rattle.dyadic.specs.Views.{dyadic_of}
use Rattle.interval_model.specs.Space.{Space}
use Rattle.poly_graph.specs.Marks.{Mark, is_no, mark_at}
use Rattle.poly_graph.specs.ProblemViews.{Parts, problem_of}
use Rattle.cover_model.specs.Combination.{Multipliers}
use Rattle.cover_model.specs.Rules.{combining}
use Rattle.cover_model.specs.State.{state_of}
use Rattle.cover_model.specs.Views.{multipliers_of}
use Rattle.cover_data.specs.declared.margins.Margins.{Margins}
use Rattle.cover_data.specs.Margins.{loosenings_of}
use Rattle.cover_rule.specs.declared.voiding.MarkedPair.{MarkedPair}
use Rattle.cover_rule.specs.declared.voiding.Voiding.{Voiding}

-- an atom, its multiplier, and whether it is marked no
pub record Pair : Type 0 where
  pub atom : ℕ
  pub multiplier : Dyadic
  pub is_off : Bool

abbrev pub pair_of : MarkedPair → Pair
pair_of x = record { atom = x.atom; multiplier = dyadic_of x.multiplier; is_off = x.is_no }

abbrev pub pairs_of : List MarkedPair → List Pair
pairs_of xs = map pair_of xs

abbrev pub pair_at : List Mark → ℕ × Dyadic → Pair
pair_at marks x = record { atom = x.0; multiplier = x.1; is_off = is_no (mark_at marks x.0) }

abbrev pub marked_pair : List Mark → ℕ → Dy → Pair
marked_pair marks j m = pair_at marks (j, dyadic_of m)

abbrev pub marked_pairs : List Mark → Multipliers → List Pair
marked_pairs marks ms = map (pair_at marks) ms

-- the atoms have marks
abbrev pub AreMarkedIn : List Mark → List (ℕ × Dy) → Type 0
AreMarkedIn marks ms = All (λ (x : ℕ × Dyadic). x.0 < length marks) (multipliers_of ms)

-- these are the pairs of the combination
abbrev pub ArePairs : List Mark → List (ℕ × Dy) → List MarkedPair → Type 0
ArePairs marks ms pairs = pairs_of pairs ≡ marked_pairs marks (multipliers_of ms)

-- what is known is this combination
abbrev pub IsNoted : List Mark → Multipliers → Voiding → Type 0
IsNoted marks ms v = v.known ≡ true → pairs_of v.pairs.items ≡ marked_pairs marks ms

-- where a combination is known, it leaves nothing of the space, at any marks that are the same for its atoms
pub record HasVoiding (p : Parts) (m : Margins) (space : Space) (v : Voiding) : Type 0 where
  pub empty : v.known ≡ true → (marks : List Mark) (ms : Multipliers) → pairs_of v.pairs.items ≡ marked_pairs marks ms →
      combining (problem_of p) (loosenings_of m) (state_of space marks) ms ≡ None
