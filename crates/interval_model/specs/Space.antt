-- Spaces: a domain for each axis, the middle of a space, its widest axis, its parts.
use Rattle.std.specs.Prelude.{ℕ, zero, suc, List, [], ◌∷◌, map, Bool, true, false, cond, not, ◌&&◌, ◌||◌, Option, Some, None}
use Rattle.dyadic.specs.Fraction.{Fraction, at_most, difference_of}
use Rattle.dyadic.specs.Point.{Coordinate, at_fraction, at_bool}
use Rattle.dyadic.specs.Rounding.{Dyadic, exact, finite, mid}
use Rattle.interval_model.specs.Interval.{Interval, nothing, between}

pub data Domain : Type 0 where
  -- a Real axis, between these
  real_domain : Dyadic → Dyadic → Domain
  -- a Bool axis: whether false is left, and whether true is
  bool_domain : Bool → Bool → Domain

abbrev pub Space : Type 0
Space = List Domain

abbrev pub domain_interval : Domain → Interval
domain_interval (real_domain l h) = between (finite l) (finite h)
domain_interval (bool_domain f t) = nothing

abbrev pub axis_interval : Space → ℕ → Interval
axis_interval [] axis = nothing
axis_interval (d ∷ space) zero = domain_interval d
axis_interval (d ∷ space) (suc axis) = axis_interval space axis

abbrev pub in_domain : Domain → Coordinate → Bool
in_domain (real_domain l h) (at_fraction q) = at_most (exact l) q && at_most q (exact h)
in_domain (bool_domain f t) (at_bool b) = cond b t f
in_domain _ _ = false

-- the point lies in the space
abbrev pub in_space : Space → List Coordinate → Bool
in_space [] [] = true
in_space (d ∷ space) (c ∷ point) = in_domain d c && in_space space point
in_space _ _ = false

abbrev pub is_upright_domain : Domain → Bool
is_upright_domain (real_domain l h) = at_most (exact l) (exact h)
is_upright_domain (bool_domain f t) = true

-- no Real axis has its lower end above its upper one
abbrev pub is_upright : Space → Bool
is_upright [] = true
is_upright (d ∷ space) = is_upright_domain d && is_upright space

-- ---- order

abbrev pub domain_within : Domain → Domain → Bool
domain_within (real_domain l h) (real_domain l' h') = at_most (exact l') (exact l) && at_most (exact h) (exact h')
domain_within (bool_domain f t) (bool_domain f' t') = (not f || f') && (not t || t')
domain_within _ _ = false

-- the first space lies within the second
abbrev pub space_within : Space → Space → Bool
space_within [] [] = true
space_within (d ∷ space) (d' ∷ space') = domain_within d d' && space_within space space'
space_within _ _ = false

-- ---- parts

abbrev pub allows : Domain → Bool → Bool
allows (real_domain l h) v = false
allows (bool_domain f t) true = t
allows (bool_domain f t) false = f

-- c lies in a Real domain
abbrev pub holds_number : Dyadic → Domain → Bool
holds_number c (real_domain l h) = at_most (exact l) (exact c) && at_most (exact c) (exact h)
holds_number c (bool_domain f t) = false

abbrev pub strictly_inside : Dyadic → Domain → Bool
strictly_inside c (real_domain l h) = not (at_most (exact c) (exact l)) && not (at_most (exact h) (exact c))
strictly_inside c (bool_domain f t) = false

abbrev pub lower_part : Dyadic → Domain → Domain
lower_part c (real_domain l h) = real_domain l c
lower_part c d = d

abbrev pub upper_part : Dyadic → Domain → Domain
upper_part c (real_domain l h) = real_domain c h
upper_part c d = d

abbrev pub is_undecided : Domain → Bool
is_undecided (real_domain l h) = false
is_undecided (bool_domain f t) = f && t

-- the Bool axis at one value
abbrev pub keep : Bool → Domain → Domain
keep v (real_domain l h) = real_domain l h
keep v (bool_domain f t) = bool_domain (not v) v

abbrev pub changed : (Domain → Domain) → ℕ → Space → Space
changed f axis [] = []
changed f zero (d ∷ space) = f d ∷ space
changed f (suc axis) (d ∷ space) = d ∷ changed f axis space

abbrev pub test_axis : (Domain → Bool) → ℕ → Space → Bool
test_axis f axis [] = false
test_axis f zero (d ∷ space) = f d
test_axis f (suc axis) (d ∷ space) = test_axis f axis space

-- ---- the middle of a space: each Real axis at its mid, each Bool axis at one value, false where it is left

abbrev pub middle_domain : Domain → Domain
middle_domain (real_domain l h) = real_domain (mid l h) (mid l h)
middle_domain (bool_domain f t) = bool_domain f (not f && t)

abbrev pub middle : Space → Space
middle space = map middle_domain space

-- ---- the widest axis

-- a Real axis whose middle lies strictly between its ends
abbrev pub can_be_halved : Domain → Bool
can_be_halved (real_domain l h) = strictly_inside (mid l h) (real_domain l h)
can_be_halved (bool_domain f t) = false

-- the side of an axis that can be halved
abbrev pub side : Domain → Option Fraction
side (real_domain l h) = cond (can_be_halved (real_domain l h)) (Some (difference_of (exact h) (exact l))) None
side (bool_domain f t) = None

-- b is the best axis so far, with its side
abbrev pub better : Option (ℕ × Fraction) → ℕ → Option Fraction → Option (ℕ × Fraction)
better b axis None = b
better None axis (Some w) = Some (axis, w)
better (Some (best, v)) axis (Some w) = cond (at_most w v) (Some (best, v)) (Some (axis, w))

abbrev pub widest_from : ℕ → Option (ℕ × Fraction) → Space → Option (ℕ × Fraction)
widest_from axis b [] = b
widest_from axis b (d ∷ space) = widest_from (suc axis) (better b axis (side d)) space

-- the first axis of greatest side among those that can be halved, with its side
abbrev pub widest : Space → Option (ℕ × Fraction)
widest space = widest_from 0 None space
