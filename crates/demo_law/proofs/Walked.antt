-- The walk over the demo's script.
use Rattle.std.proofs.Common.{◌≡◌, ℕ, ◌*◌, ◌^◌, ◌≤◌, List, [], ◌∷◌, ◌++◌, Bool, true, false, refl, ap, ◌∙◌, codes, cond, ◌&&◌, arith}
use Rattle.std.specs.Prelude.{pos}
use Rattle.dyadic.specs.Fraction.{Fraction, whole, product_of, quotient_of}
use Rattle.dyadic.specs.Lowest.{reduced, divided, gcd_within, fits, product_fits}
use Rattle.std.proofs.lemmas.List.{append-nil}
use Rattle.std.proofs.lemmas.Bool.{le-leb}
use Rattle.std.proofs.Math.Nat.{mod-one, div-one}
use Rattle.std.specs.Str.Parse.{digits_value}
use Rattle.dyadic.specs.Point.{real_sort}
use Rattle.script_model.specs.Sexp.{Place}
use Rattle.script_model.specs.Reading.{Names, value, meaning, literal_value, equality}
use Rattle.poly_graph.specs.Term.{Term, constant, variable, negate, add, multiply, eq}
use Rattle.poly_graph.specs.Form.{atom_is}
use Rattle.script_forms.specs.Atoms.{atom_of}
use Rattle.script_forms.specs.Terms.{Unfolded, Comparison, term, constant_or, inverse_of, is_nought}
use Rattle.script_forms.specs.Work.{Event, Work, as_work, assertion_events, subtract_events, reached, made, asked, formed, ending}
use Rattle.script_forms.specs.Walk.{constant_work}
use Rattle.demo_law.proofs.Shape.{further, equation, difference, eighth}
use Rattle.demo_law.proofs.Room.{weight, asks, is_clear}

abbrev pub axes : Names Work
axes = (codes "y", value (constant_work 1 real_sort)) ∷ (codes "x", value (constant_work 0 real_sort)) ∷ []

abbrev pub coefficient_of : List ℕ → Fraction
coefficient_of ds = reduced (literal_value ds [])

abbrev eight : Fraction
eight = reduced (literal_value (codes "8") [])

abbrev pub product : List ℕ → Fraction
product ds = product_of (coefficient_of ds) (inverse_of eight)

-- the eighth of the coefficient, where it fits or not
abbrev eighth_by : Place → List ℕ → Bool → Unfolded
eighth_by at ds fits = constant_or at fits (product ds)

abbrev eighth_work : Place → List ℕ → Bool → Work
eighth_work at ds fits = record {
  events = reached ∷ reached ∷ made (constant (coefficient_of ds)) ∷ reached ∷ made (constant eight) ∷ made (constant (inverse_of eight)) ∷ (ending (eighth_by at ds fits) ++ []);
  outcome = eighth_by at ds fits;
}

eighth_is : (at : ℕ → Place) (ds : List ℕ) → meaning as_work axes (eighth at ds) ≡ eighth_work (at 16) ds (product_fits (coefficient_of ds) (inverse_of eight))
eighth_is at ds = refl

equation_is : (at : ℕ → Place) (ds : List ℕ) → meaning as_work axes (equation at ds) ≡ as_work.apply (at 2) equality (meaning as_work axes (difference at ds) ∷ meaning as_work axes (eighth at ds) ∷ [])
equation_is at ds = refl

abbrev pub eighth_made : List ℕ → Fraction → Work
eighth_made ds r = record {
  events = reached ∷ reached ∷ made (constant (coefficient_of ds)) ∷ reached ∷ made (constant eight) ∷ made (constant (inverse_of eight)) ∷ made (constant r) ∷ [];
  outcome = term (constant r);
}

abbrev pub line_work : (ℕ → Place) → List ℕ → Work → Work
line_work at ds w = as_work.apply (at 2) equality (meaning as_work axes (difference at ds) ∷ w ∷ [])

-- ---- the eighth fits

reduced_whole : (n : ℕ) → reduced (whole (pos n)) ≡ whole (pos n)
reduced_whole n = ap (λ (r : ℕ). divided (whole (pos n)) (gcd_within 1 1 r)) (mod-one n) ∙ ap (λ (m : ℕ). whole (pos m)) (div-one n)

inverse_is : inverse_of eight ≡ record { num = pos 1; den = 8 }
unfolding quotient_of
inverse_is = refl

small_fits : (n : ℕ) → n ≤ 10 ^ 36 → fits (n * 1) && fits (1 * 8) ≡ true
small_fits n h = ap (λ (t : Bool). t && true) (le-leb (n * 1) (10 ^ 36) (omega (arith, h)))

eighth_fits : (ds : List ℕ) → digits_value 10 ds ≤ 10 ^ 36 → product_fits (coefficient_of ds) (inverse_of eight) ≡ true
eighth_fits ds h = ap (λ (xs : List ℕ). product_fits (reduced (whole (pos (digits_value 10 xs)))) (inverse_of eight)) (append-nil ds)
    ∙ ap (λ (q : Fraction). product_fits q (inverse_of eight)) (reduced_whole (digits_value 10 ds))
    ∙ ap (product_fits (whole (pos (digits_value 10 ds)))) inverse_is
    ∙ small_fits (digits_value 10 ds) h

-- ---- the events of a line

abbrev left_side : List ℕ → Term
left_side ds = let c = constant (coefficient_of ds) in add (multiply (multiply c (variable 0)) (variable 1)) (negate (multiply (multiply c (variable 1)) (variable 0)))

abbrev comparison : (ℕ → Place) → List ℕ → Fraction → Comparison
comparison at ds r = record { at = at 2; left = left_side ds; right = constant r; kind = eq }

abbrev last_events : Bool → (ℕ → Place) → List ℕ → Fraction → List Event
last_events z at ds r = cond z [] (subtract_events (at 2) (left_side ds) (constant r)) ++ (asked (atom_of (comparison at ds r)) ∷ formed (atom_is (atom_of (comparison at ds r))) ∷ [])

last_weight : (z : Bool) (at : ℕ → Place) (ds : List ℕ) (r : Fraction) → weight (last_events z at ds r) ≤ 4
last_weight true at ds r = omega arith
last_weight false at ds r = omega arith

last_asks : (z : Bool) (at : ℕ → Place) (ds : List ℕ) (r : Fraction) → asks (last_events z at ds r) ≡ 1
last_asks true at ds r = refl
last_asks false at ds r = refl

last_clear : (z : Bool) (at : ℕ → Place) (ds : List ℕ) (r : Fraction) → is_clear (last_events z at ds r) ≡ true
last_clear true at ds r = refl
last_clear false at ds r = refl

module _ (at : ℕ → Place) (ds : List ℕ) (r : Fraction) where
  abbrev pub line_events : List Event
  line_events = assertion_events (line_work at ds (eighth_made ds r))

  pub line_weight : weight line_events ≤ 40
  line_weight = by (weight (last_events (is_nought r) at ds r)) (last_weight (is_nought r) at ds r)
    where
      by : (w : ℕ) → w ≤ 4 → further 29 w ≤ 40
      by w h = omega (arith, h)

  pub line_asks : asks line_events ≡ 1
  line_asks = last_asks (is_nought r) at ds r

  pub line_clear : is_clear line_events ≡ true
  line_clear = last_clear (is_nought r) at ds r

pub line_is : (at : ℕ → Place) (ds : List ℕ) → digits_value 10 ds ≤ 10 ^ 36 → meaning as_work axes (equation at ds) ≡ line_work at ds (eighth_made ds (reduced (product ds)))
line_is at ds h = equation_is at ds ∙ ap (line_work at ds) (eighth_is at ds ∙ ap (eighth_work (at 16) ds) (eighth_fits ds h))
