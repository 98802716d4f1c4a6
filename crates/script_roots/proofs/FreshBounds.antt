-- The bounds that a rewritten script gives to the constants that stand for roots and quotients.
use Rattle.std.proofs.Common.{◌≡◌, ℕ, suc, List, [], ◌∷◌, ◌++◌, map, Option, Some, None, ℤ, pos, negsuc, refl, ap, ap₂, ◌∙◌, codes}
use Rattle.dyadic.specs.Fraction.{Fraction}
use Rattle.dyadic.specs.Rounding.{Ext, below_all, finite, above_all}
use Rattle.interval_model.specs.Interval.{Interval, nothing, between}
use Rattle.script_model.specs.Sexp.{Place, Sexp, leaf, symbol}
use Rattle.script_model.specs.Reading.{Operator, times, equality, at_least_op, at_most_op, operators, found, Names, Named, value, meaning, name_meaning, value_named}
use Rattle.script_model.specs.Script.{Command, claims}
use Rattle.script_model.specs.Declared.{Side, lower, upper, Bound, Bounding, known, constant_of, other, bounds, equal_bounds, bounds_in, concat, bounding, bounding_operation, alone}
use Rattle.script_model.specs.Meaning.{neighbours}
use Rattle.script_roots.specs.Tree.{Tree, atomic, applied, root, quotient, formless}
use Rattle.script_roots.specs.Ranges.{Ranges, enclosed, root_bound, quotient_range}
use Rattle.script_roots.specs.Fresh.{Table, named_from}
use Rattle.script_roots.specs.Rewritten.{two_of, number_at, low_at, high_at, whole_or_too_wide, between_ends, is_product, claims_of, claims_of_all, spelled, constant_in_place}
use Rattle.script_roots.proofs.Ends.{end_value}

-- ---- the ends of an entry

abbrev pub interval_low : Place → Interval → List Fraction
interval_low at nothing = end_value (number_at at 0) ∷ []
interval_low at (between l h) = end_value (low_at at l) ∷ []

abbrev pub interval_high : Place → Interval → List Fraction
interval_high at nothing = end_value (number_at at 0) ∷ []
interval_high at (between l h) = end_value (high_at at h) ∷ []

abbrev pub entry_low : Ranges → Tree → List Fraction
entry_low ranges (root at t) = end_value (number_at at 0) ∷ []
entry_low ranges (quotient at t d) = interval_low at (quotient_range (enclosed ranges t) (enclosed ranges d))
entry_low ranges t = []

abbrev pub entry_high : Ranges → Tree → List Fraction
entry_high ranges (root at t) = end_value (whole_or_too_wide at (root_bound (enclosed ranges t))) ∷ []
entry_high ranges (quotient at t d) = interval_high at (quotient_range (enclosed ranges t) (enclosed ranges d))
entry_high ranges t = []

abbrev pub bound_at : Side → ℕ → Fraction → Bound
bound_at s axis q = record { axis = axis; side = s; value = q }

-- the bounds of the entry on this axis
abbrev pub entry_bounds : Ranges → ℕ → Tree → List Bound
entry_bounds ranges axis t = map (bound_at lower axis) (entry_low ranges t) ++ map (bound_at upper axis) (entry_high ranges t)

-- of the entries from this axis on
abbrev pub fresh_bounds : Ranges → ℕ → Table → List Bound
fresh_bounds ranges axis [] = []
fresh_bounds ranges axis (entry ∷ rest) = entry_bounds ranges axis entry.1 ++ fresh_bounds ranges (suc axis) rest

-- ---- what the claims are to the declared box

abbrev pub bounds_of : List Bounding → List Bound
bounds_of bs = concat (map bounds_in bs)

module _ (names : Names Bounding) where
  abbrev Of : Sexp → Bounding
  Of e = meaning bounding names e

  -- a name that is no operator's
  pub name_is : (at : Place) (name : List ℕ) (b : Bounding) → found name operators ≡ None → found name names ≡ Some (value b) → meaning bounding names (leaf at (symbol name)) ≡ b
  name_is at name b o e = ap (λ (x : Option Operator). name_meaning bounding names at name x) o ∙ ap (λ (x : Option (Named Bounding)). value_named bounding at name x) e

  low-known : (at : Place) (l : Ext) → meaning bounding names (low_at at l) ≡ known (end_value (low_at at l))
  low-known at below_all = refl
  low-known at above_all = refl
  low-known at (finite d) = by d.units
    where
      by : (z : ℤ) → meaning bounding names (low_at at (finite (record { units = z }))) ≡ known (end_value (low_at at (finite (record { units = z }))))
      by (pos n) = refl
      by (negsuc n) = refl

  high-known : (at : Place) (h : Ext) → meaning bounding names (high_at at h) ≡ known (end_value (high_at at h))
  high-known at below_all = refl
  high-known at above_all = refl
  high-known at (finite d) = by d.units
    where
      by : (z : ℤ) → meaning bounding names (high_at at (finite (record { units = z }))) ≡ known (end_value (high_at at (finite (record { units = z }))))
      by (pos n) = refl
      by (negsuc n) = refl

  whole-known : (at : Place) (o : Option ℕ) → meaning bounding names (whole_or_too_wide at o) ≡ known (end_value (whole_or_too_wide at o))
  whole-known at None = refl
  whole-known at (Some n) = refl

  module _ (name : List ℕ) (axis : ℕ) (o : found name operators ≡ None) (e : found name names ≡ Some (value (constant_of axis))) where
    constant-is : (at : Place) → meaning bounding names (leaf at (symbol name)) ≡ constant_of axis
    constant-is at = name_is at name (constant_of axis) o e

    low-claim : (at : Place) (b : Sexp) (q : Fraction) → meaning bounding names b ≡ known q →
        bounds_in (meaning bounding names (two_of at (codes ">=") (leaf at (symbol name)) b)) ≡ bound_at lower axis q ∷ []
    low-claim at b q k = ap₂ (λ (x y : Bounding). bounds_in (bounding_operation at_least_op (x ∷ y ∷ []))) (constant-is at) k

    high-claim : (at : Place) (b : Sexp) (q : Fraction) → meaning bounding names b ≡ known q →
        bounds_in (meaning bounding names (two_of at (codes "<=") (leaf at (symbol name)) b)) ≡ bound_at upper axis q ∷ []
    high-claim at b q k = ap₂ (λ (x y : Bounding). bounds_in (bounding_operation at_most_op (x ∷ y ∷ []))) (constant-is at) k

    none-given : (c : Bounding) → concat (neighbours equal_bounds (other ∷ c ∷ [])) ≡ []
    none-given (known q) = refl
    none-given (constant_of k) = refl
    none-given other = refl
    none-given (bounds bs) = refl

    -- a product with the constant gives no bound
    relation : (at : Place) (b c : Sexp) → bounds_in (meaning bounding names (two_of at (codes "=") (two_of at (codes "*") (leaf at (symbol name)) b) c)) ≡ []
    relation at b c =
        ap (λ (x : Bounding). bounds_in (bounding_operation equality (alone times (x ∷ Of b ∷ []) ∷ Of c ∷ []))) (constant-is at) ∙ none-given (Of c)

    -- a constant in place of a tree is no constant alone, and no known value
    pub in_place : (at : Place) → meaning bounding names (constant_in_place at name) ≡ other
    in_place at = ap (λ (x : Bounding). alone times (x ∷ Of (number_at at 1) ∷ [])) (constant-is at)

    module _ (ranges : Ranges) (table : Table) (rest : List Command) where
      abbrev Rest : List Bound
      Rest = bounds_of (claims bounding names [] rest)

      root-claims : (at : Place) (t : Tree) → bounds_of (claims bounding names [] (claims_of ranges table name (root at t) ++ rest)) ≡ entry_bounds ranges axis (root at t) ++ Rest
      root-claims at t =
          ap₂ (λ (xs ys : List Bound). xs ++ ys) (low-claim at (number_at at 0) (end_value (number_at at 0)) refl)
          (ap₂ (λ (xs ys : List Bound). xs ++ ys) (high-claim at (whole_or_too_wide at (root_bound (enclosed ranges t))) (end_value (whole_or_too_wide at (root_bound (enclosed ranges t)))) (whole-known at (root_bound (enclosed ranges t))))
          (ap (λ (xs : List Bound). xs ++ Rest) (relation at (leaf at (symbol name)) (spelled table t))))

      quotient-claims : (at : Place) (t d : Sexp) (i : Interval) →
          bounds_of (claims bounding names [] ((between_ends at (leaf at (symbol name)) i ++ is_product at (leaf at (symbol name)) d t ∷ []) ++ rest)) ≡
          (map (bound_at lower axis) (interval_low at i) ++ map (bound_at upper axis) (interval_high at i)) ++ Rest
      quotient-claims at t d nothing =
          ap₂ (λ (xs ys : List Bound). xs ++ ys) (low-claim at (number_at at 0) (end_value (number_at at 0)) refl)
          (ap₂ (λ (xs ys : List Bound). xs ++ ys) (high-claim at (number_at at 0) (end_value (number_at at 0)) refl)
          (ap (λ (xs : List Bound). xs ++ Rest) (relation at d t)))
      quotient-claims at t d (between l h) =
          ap₂ (λ (xs ys : List Bound). xs ++ ys) (low-claim at (low_at at l) (end_value (low_at at l)) (low-known at l))
          (ap₂ (λ (xs ys : List Bound). xs ++ ys) (high-claim at (high_at at h) (end_value (high_at at h)) (high-known at h))
          (ap (λ (xs : List Bound). xs ++ Rest) (relation at d t)))

      entry-claims : (t : Tree) → bounds_of (claims bounding names [] (claims_of ranges table name t ++ rest)) ≡ entry_bounds ranges axis t ++ Rest
      entry-claims (root at t) = root-claims at t
      entry-claims (quotient at t d) = quotient-claims at (spelled table t) (spelled table d) (quotient_range (enclosed ranges t) (enclosed ranges d))
      entry-claims (atomic at l) = refl
      entry-claims (applied at x ts) = refl
      entry-claims (formless at) = refl

  -- each entry's name is no operator's, and stands for the constant of its axis, from this one on
  abbrev pub ArePlaced : ℕ → Table → Type 0
  ArePlaced axis [] = Unit {0}
  ArePlaced axis (entry ∷ rest) = (found entry.0 operators ≡ None) × (found entry.0 names ≡ Some (value (constant_of axis))) × ArePlaced (suc axis) rest

  pub fresh_claims_bound : (ranges : Ranges) (table : Table) (axis : ℕ) (part : Table) → ArePlaced axis part →
      bounds_of (claims bounding names [] (claims_of_all ranges table part)) ≡ fresh_bounds ranges axis part
  fresh_claims_bound ranges table axis [] h = refl
  fresh_claims_bound ranges table axis (entry ∷ rest) h =
      entry-claims entry.0 axis h.0 h.1 ranges table (claims_of_all ranges table rest) entry.1 ∙
      ap (λ (bs : List Bound). entry_bounds ranges axis entry.1 ++ bs) (fresh_claims_bound ranges table (suc axis) rest h.2)

-- ---- the names of the table are no operators'

abbrev pub NoOperators : Table → Type 0
NoOperators [] = Unit {0}
NoOperators (entry ∷ rest) = (found entry.0 operators ≡ None) × NoOperators rest

pub no_operators : (r q : ℕ) (ts : List Tree) → NoOperators (named_from r q ts)
no_operators r q [] = tt
no_operators r q (root at t ∷ ts) = (refl, no_operators (suc r) q ts)
no_operators r q (atomic at l ∷ ts) = (refl, no_operators r (suc q) ts)
no_operators r q (applied at x us ∷ ts) = (refl, no_operators r (suc q) ts)
no_operators r q (quotient at t d ∷ ts) = (refl, no_operators r (suc q) ts)
no_operators r q (formless at ∷ ts) = (refl, no_operators r (suc q) ts)
