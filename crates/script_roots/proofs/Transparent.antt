-- The meanings of a script that are transparent: its values, and its bounds.
use Rattle.std.proofs.Common.{◌≡◌, List, [], ◌∷◌, Option, Some, None, refl, sym, ◌∙◌}
use Rattle.dyadic.specs.Fraction.{Fraction, quotient_of}
use Rattle.script_model.specs.Reading.{divide}
use Rattle.script_model.specs.Meaning.{Value, real, fraction_of, from_left, step_values, loosened}
use Rattle.script_model.specs.Declared.{Bounding, known, constant_of, other, bounds, with_first, all_known, computed, bounding_operation, bounding}
use Rattle.script_roots.proofs.Plain.{IsTransparent}

pub loosened_transparent : (m : Fraction) → IsTransparent (loosened m)
loosened_transparent m = record {
  literal = λ at at' q. refl;
  named = λ at v. refl;
  annotated = λ at v. refl;
  apply = λ at at' op vs. refl;
  bind = λ at names vs v. refl;
  call = λ at vs v. refl;
  nothing = λ at at' why why'. refl;
  divides = λ at v w ws. refl;
}

abbrev two : Bounding → Bounding → Bounding
two a b = bounding_operation divide (a ∷ b ∷ [])

still-other : (ws : List Bounding) → from_left two other ws ≡ other
still-other [] = refl
still-other (w ∷ ws) = still-other ws

abbrev divided-by : Fraction → Option (List Value) → Bounding
divided-by p None = other
divided-by p (Some qs) = known (fraction_of (from_left (step_values quotient_of) (real p) qs))

one-more : (p q : Fraction) (qs : Option (List Value)) → divided-by (quotient_of p q) qs ≡ divided-by p (with_first q qs)
one-more p q None = refl
one-more p q (Some qs) = refl

from-known : (p : Fraction) (ws : List Bounding) → from_left two (known p) ws ≡ divided-by p (all_known ws)
from-known p [] = refl
from-known p (known q ∷ ws) = from-known (quotient_of p q) ws ∙ one-more p q (all_known ws)
from-known p (constant_of axis ∷ ws) = still-other ws
from-known p (other ∷ ws) = still-other ws
from-known p (bounds bs ∷ ws) = still-other ws

at-once : (p : Fraction) (qs : Option (List Value)) → computed divide (with_first p qs) ≡ divided-by p qs
at-once p None = refl
at-once p (Some qs) = refl

bounding-divides : (v w : Bounding) (ws : List Bounding) → bounding_operation divide (v ∷ w ∷ ws) ≡ from_left two v (w ∷ ws)
bounding-divides (known p) w ws = at-once p (all_known (w ∷ ws)) ∙ sym (from-known p (w ∷ ws))
bounding-divides (constant_of axis) w ws = sym (still-other ws)
bounding-divides other w ws = sym (still-other ws)
bounding-divides (bounds bs) w ws = sym (still-other ws)

pub bounding_transparent : IsTransparent bounding
bounding_transparent = record {
  literal = λ at at' q. refl;
  named = λ at b. refl;
  annotated = λ at b. refl;
  apply = λ at at' op bs. refl;
  bind = λ at names vs b. refl;
  call = λ at vs b. refl;
  nothing = λ at at' why why'. refl;
  divides = λ at v w ws. bounding-divides v w ws;
}
