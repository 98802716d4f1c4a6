-- What a bound changes of the ends of its axis, and of no other.
use Rattle.std.proofs.Common.{◌≡◌, ◌⊎◌, inl, inr, ℕ, suc, zero, ◌<◌, List, [], ◌∷◌, map, length, Bool, true, false, cond, Option, Some, None, refl, ap, ◌∙◌, arith, IsTrue, slice_index_or, slice_set, ◌≤◌}
use Rattle.dyadic.specs.Fraction.{Fraction, IsFraction}
use Rattle.dyadic.proofs.Equal.{total, through}
use Rattle.script_model.specs.Declared.{Side, lower, upper, DeclaredInterval}
use Rattle.declared_box.specs.Interval.{interval_at, end_on, is_as_tight, tighter, tightened}
use Rattle.declared_box.specs.Sweep.{tightened_at}
use Rattle.declared_box.specs.declared.interval.Interval.{Interval}
use Rattle.declared_box.specs.Views.{interval_of}

-- ---- tightness is an order

pub as_tight_total : (s : Side) (p q : Fraction) → IsTrue (is_as_tight s p q) ⊎ IsTrue (is_as_tight s q p)
as_tight_total lower p q = total q p
as_tight_total upper p q = total p q

pub as_tight_self : (s : Side) (p : Fraction) → IsTrue (is_as_tight s p p)
as_tight_self s p = elim (as_tight_total s p p) [ inl h ↦ h | inr h ↦ h ]

pub as_tight_through : (s : Side) (p q r : Fraction) → IsFraction q → IsTrue (is_as_tight s p q) → IsTrue (is_as_tight s q r) → IsTrue (is_as_tight s p r)
as_tight_through lower p q r f h k = through r q p f k h
as_tight_through upper p q r f h k = through p q r f h k

-- if the first is not as tight, the second is
pub other_tighter : (s : Side) (p q : Fraction) → is_as_tight s p q ≡ false → IsTrue (is_as_tight s q p)
other_tighter s p q h = elim (as_tight_total s p q) [ inl k ↦ cc | inr k ↦ k ]

-- ---- the tighter of an end and a bound

pub tighter_than_bound : (s : Side) (o : Option Fraction) (v : Fraction) → IsTrue (is_as_tight s (tighter s o v) v)
tighter_than_bound s None v = as_tight_self s v
tighter_than_bound s (Some q) v = go (is_as_tight s q v) refl
  where
    go : (t : Bool) → is_as_tight s q v ≡ t → IsTrue (is_as_tight s (cond t q v) v)
    go true e = e
    go false e = as_tight_self s v

pub tighter_than_end : (s : Side) (q v : Fraction) → IsTrue (is_as_tight s (tighter s (Some q) v) q)
tighter_than_end s q v = go (is_as_tight s q v) refl
  where
    go : (t : Bool) → is_as_tight s q v ≡ t → IsTrue (is_as_tight s (cond t q v) q)
    go true e = as_tight_self s q
    go false e = other_tighter s q v e

-- one of the two has what both have
pub tighter_has : (P : Fraction → Type 0) (s : Side) (o : Option Fraction) (v : Fraction) → P v → ((q : Fraction) → o ≡ Some q → P q) → P (tighter s o v)
tighter_has P s None v h k = h
tighter_has P s (Some q) v h k = go (is_as_tight s q v)
  where
    go : (t : Bool) → P (cond t q v)
    go true = k q refl
    go false = h

-- ---- lists of ends

pub tightened_length : (a : ℕ) (s : Side) (v : Fraction) (intervals : List DeclaredInterval) → length (tightened_at a s v intervals) ≡ length intervals
tightened_length a s v [] = refl
tightened_length zero s v (i ∷ intervals) = refl
tightened_length (suc a) s v (i ∷ intervals) = ap suc (tightened_length a s v intervals)

-- the end that is tightened, or one that stays
pub data Change (a : ℕ) (s : Side) (v : Fraction) (k : ℕ) (t : Side) (old new : Option Fraction) : Type 0 where
  here : k ≡ a → t ≡ s → new ≡ Some (tighter t old v) → Change a s v k t old new
  same : new ≡ old → Change a s v k t old new

side-change : (a : ℕ) (s : Side) (v : Fraction) (t : Side) (i : DeclaredInterval) → Change a s v a t (end_on t i) (end_on t (tightened s v i))
side-change a lower v lower i = here refl refl refl
side-change a upper v upper i = here refl refl refl
side-change a lower v upper i = same refl
side-change a upper v lower i = same refl

next : (a : ℕ) (s : Side) (v : Fraction) (k : ℕ) (t : Side) (old new : Option Fraction) → Change a s v k t old new → Change (suc a) s v (suc k) t old new
next a s v k t old new (here e f g) = here (ap suc e) f g
next a s v k t old new (same e) = same e

pub change : (a : ℕ) (s : Side) (v : Fraction) (intervals : List DeclaredInterval) (k : ℕ) (t : Side) →
    Change a s v k t (end_on t (interval_at intervals k)) (end_on t (interval_at (tightened_at a s v intervals) k))
change a s v [] k t = same refl
change zero s v (i ∷ intervals) zero t = side-change zero s v t i
change zero s v (i ∷ intervals) (suc k) t = same refl
change (suc a) s v (i ∷ intervals) zero t = same refl
change (suc a) s v (i ∷ intervals) (suc k) t = next a s v k t _ _ (change a s v intervals k t)

tightened-end : (s : Side) (v : Fraction) (i : DeclaredInterval) → end_on s (tightened s v i) ≡ Some (tighter s (end_on s i) v)
tightened-end lower v i = refl
tightened-end upper v i = refl

pub tightened_here : (a : ℕ) (s : Side) (v : Fraction) (intervals : List DeclaredInterval) → a < length intervals →
    end_on s (interval_at (tightened_at a s v intervals) a) ≡ Some (tighter s (end_on s (interval_at intervals a)) v)
tightened_here a s v [] l = absurd (omega (arith, l))
tightened_here zero s v (i ∷ intervals) l = tightened-end s v i
tightened_here (suc a) s v (i ∷ intervals) l = tightened_here a s v intervals (omega (arith, l))

-- ---- the same in the code

pub tightened_beyond : (a : ℕ) (s : Side) (v : Fraction) (intervals : List Interval) → length intervals ≤ a → map interval_of intervals ≡ tightened_at a s v (map interval_of intervals)
tightened_beyond a s v [] l = refl
tightened_beyond zero s v (i ∷ intervals) l = absurd (omega (arith, l))
tightened_beyond (suc a) s v (i ∷ intervals) l = ap (λ is. interval_of i ∷ is) (tightened_beyond a s v intervals (omega (arith, l)))

pub tightened_set : (a : ℕ) (s : Side) (v : Fraction) (intervals : List Interval) (old new : Interval) → a < length intervals → old ≡ slice_index_or intervals a old → interval_of new ≡ tightened s v (interval_of old) →
    map interval_of (slice_set intervals a new) ≡ tightened_at a s v (map interval_of intervals)
tightened_set a s v [] old new l g e = absurd (omega (arith, l))
tightened_set zero s v (i ∷ intervals) old new l g e = ap (λ j. j ∷ map interval_of intervals) (e ∙ ap (λ (o : Interval). tightened s v (interval_of o)) g)
tightened_set (suc a) s v (i ∷ intervals) old new l g e = ap (λ is. interval_of i ∷ is) (tightened_set a s v intervals old new (omega (arith, l)) g e)
