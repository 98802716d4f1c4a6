-- The ends that a list of bounds gives to an axis.
use Rattle.std.specs.Prelude.{◌≡◌, ◌⊎◌, ℕ, ◌<◌, List, [], ◌∷◌, length, Bool, cond, Option, Some, None, IsTrue, slice_index_or}
use Rattle.dyadic.specs.Fraction.{Fraction, at_most}
use Rattle.script_model.specs.Declared.{Side, lower, upper, Bound, values_on, greatest, least, tightest_end, DeclaredInterval, default_low, default_high}

-- the interval of an axis by these bounds, where the words give this bound: `declared_interval` of a script is that
-- of the bounds of the script
abbrev pub interval_by : Option ℕ → List Bound → ℕ → DeclaredInterval
interval_by bound bs axis = record {
  low = tightest_end greatest (default_low bound) (values_on lower axis bs);
  high = tightest_end least (default_high bound) (values_on upper axis bs);
}

abbrev pub no_interval : DeclaredInterval
no_interval = record { low = None; high = None }

abbrev pub interval_at : List DeclaredInterval → ℕ → DeclaredInterval
interval_at intervals k = slice_index_or intervals k no_interval

abbrev pub end_on : Side → DeclaredInterval → Option Fraction
end_on lower i = i.low
end_on upper i = i.high

-- on this side p is as tight a bound as q, or tighter
abbrev pub is_as_tight : Side → Fraction → Fraction → Bool
is_as_tight lower p q = at_most q p
is_as_tight upper p q = at_most p q

-- the tighter of an end and a bound
abbrev pub tighter : Side → Option Fraction → Fraction → Fraction
tighter s None value = value
tighter s (Some q) value = cond (is_as_tight s q value) q value

-- the ends with one more bound
abbrev pub tightened : Side → Fraction → DeclaredInterval → DeclaredInterval
tightened lower value i = record { low = Some (tighter lower i.low value); high = i.high }
tightened upper value i = record { low = i.low; high = Some (tighter upper i.high value) }

abbrev pub end_or : Option Fraction → Option Fraction → Option Fraction
end_or None default = default
end_or (Some q) default = Some q

-- the ends, and those of the words where there is none
abbrev pub ended : Option ℕ → DeclaredInterval → DeclaredInterval
ended bound i = record { low = end_or i.low (default_low bound); high = end_or i.high (default_high bound) }

abbrev pub IsAmong : {A : Type 0} → A → List A → Type 0
IsAmong x [] = ⊥
IsAmong x (y ∷ rest) = (x ≡ y) ⊎ IsAmong x rest

-- the end is one of these values, and as tight as each of them; there is none where there is no value
abbrev pub IsTightest : Side → List Fraction → Option Fraction → Type 0
IsTightest s values None = values ≡ []
IsTightest s values (Some q) = IsAmong q values × ((r : Fraction) → IsAmong r values → IsTrue (is_as_tight s q r))

-- these are the ends of each of the axes below this number
abbrev pub AreTightest : List Bound → ℕ → List DeclaredInterval → Type 0
AreTightest bs axes intervals = (length intervals ≡ axes) ×
    ((k : ℕ) (s : Side) → k < axes → IsTightest s (values_on s k bs) (end_on s (interval_at intervals k)))
