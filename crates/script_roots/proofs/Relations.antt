-- What a rewritten script asserts of its fresh constants holds where each has the value of its root or quotient.
use Rattle.std.proofs.Common.{◌≡◌, ℕ, ◌*◌, List, [], ◌∷◌, ◌++◌, map, Bool, true, ◌&&◌, IsTrue, Option, Some, None, codes, refl, ap, ap₂, sym, ◌∙◌, subst, arith, ℤ, pos, negsuc}
use Rattle.std.proofs.lemmas.List.{map-append}
use Rattle.std.specs.List.{AllByRecursion}
use Rattle.dyadic.specs.Fraction.{Fraction, zero_fraction, negated, sum_of, product_of, at_most}
use Rattle.dyadic.specs.Rounding.{Ext, below_all, finite, above_all}
use Rattle.dyadic.proofs.Equal.{holds_le, le_holds, both_pass}
use Rattle.dyadic.proofs.Ring.{atom, natural, plus, minus, times, below, read_below}
use Rattle.interval_model.specs.Interval.{Interval, nothing, between}
use Rattle.script_model.specs.Sexp.{Place, Sexp, leaf, symbol}
use Rattle.script_model.specs.Reading.{at_most_op, at_least_op, equality, times as times_op, Names, meaning}
use Rattle.script_model.specs.Meaning.{Pair, Value, real, bool, either, fraction_of, pair_of, equal_pair, lift_pair, not_above, not_below, near, operation, loosened}
use Rattle.script_model.specs.Script.{Command, claims, Holds}
use Rattle.script_roots.specs.Tree.{Tree, root, quotient}
use Rattle.script_roots.specs.Ranges.{Ranges, enclosed, root_bound, quotient_range}
use Rattle.script_roots.specs.Fresh.{Table}
use Rattle.script_roots.specs.Rewritten.{two_of, number_at, spelled, low_at, high_at, parts_below, parts_above, between_ends, whole_or_too_wide, is_product, claims_of, claims_of_all}
use Rattle.script_roots.proofs.Enclosed.{IsPlain}
use Rattle.script_roots.proofs.Ends.{end_value, LiesBetween, EndsHold}
use Rattle.script_roots.proofs.Table.{all_join}
use Rattle.script_roots.proofs.WrittenEnds.{number_value}
use Rattle.script_roots.proofs.Constants.{OnlyClaims, only_ends, only_of, claims_more}

-- ---- comparisons at 0

not-above : (p q : Fraction) → IsTrue (at_most p q) → IsTrue (not_above zero_fraction p q)
unfolding at_most sum_of negated
not-above p q h = le_holds _ _
    (below (times (plus (times (atom p.num) (natural q.den)) (times (minus (atom q.num)) (natural p.den))) (natural 1)) (times (natural 0) (natural (p.den * q.den)))
    (omega (arith, read_below (times (atom p.num) (natural q.den)) (times (atom q.num) (natural p.den)) (holds_le _ _ h))))

not-below : (p q : Fraction) → IsTrue (at_most q p) → IsTrue (not_below zero_fraction p q)
unfolding at_most sum_of negated
not-below p q h = le_holds _ _
    (below (times (minus (natural 0)) (natural (p.den * q.den))) (times (plus (times (atom p.num) (natural q.den)) (times (minus (atom q.num)) (natural p.den))) (natural 1))
    (omega (arith, read_below (times (atom q.num) (natural p.den)) (times (atom p.num) (natural q.den)) (holds_le _ _ h))))

alone : (x : Bool) → x ≡ true → x && true ≡ true
alone x h = both_pass x true h refl

lifted : (f : Fraction → Pair) (w : Value) → IsPlain w → lift_pair f w ≡ f (fraction_of w)
lifted f (real q) h = refl
lifted f (bool t) h = refl
lifted f (either c a b) h = elim h [ ]

equals : (p : Fraction) (w : Value) → IsPlain w → IsTrue (at_most p (fraction_of w)) → IsTrue (at_most (fraction_of w) p) → (pair_of (operation zero_fraction equality (real p ∷ w ∷ []))).pos ≡ true
equals p w h k l =
    ap (λ (t : Pair). t.pos && true) (lifted (λ q. equal_pair zero_fraction p q) w h) ∙
    alone (near zero_fraction p (fraction_of w)) (both_pass (not_below zero_fraction p (fraction_of w)) (not_above zero_fraction p (fraction_of w)) (not-below p (fraction_of w) l) (not-above p (fraction_of w) k))

-- ---- claims

module _ (D : Names Value) where
  abbrev Valued : Sexp → Value → Type 0
  Valued e v = meaning (loosened zero_fraction) D e ≡ v

  abbrev Says : Sexp → Type 0
  Says e = Holds (pair_of (meaning (loosened zero_fraction) D e))

  is-at-least : (at : Place) (a b : Sexp) (p q : Fraction) → Valued a (real p) → Valued b (real q) → IsTrue (at_most q p) → Says (two_of at (codes ">=") a b)
  is-at-least at a b p q h k l =
      ap₂ (λ v w. (pair_of (operation zero_fraction at_least_op (v ∷ w ∷ []))).pos) h k ∙ alone (not_below zero_fraction p q) (not-below p q l)

  is-at-most : (at : Place) (a b : Sexp) (p q : Fraction) → Valued a (real p) → Valued b (real q) → IsTrue (at_most p q) → Says (two_of at (codes "<=") a b)
  is-at-most at a b p q h k l =
      ap₂ (λ v w. (pair_of (operation zero_fraction at_most_op (v ∷ w ∷ []))).pos) h k ∙ alone (not_above zero_fraction p q) (not-above p q l)

  is-equal : (at : Place) (a b : Sexp) (p : Fraction) (w : Value) → Valued a (real p) → Valued b w → IsPlain w → IsTrue (at_most p (fraction_of w)) → IsTrue (at_most (fraction_of w) p) →
      Says (two_of at (codes "=") a b)
  is-equal at a b p w h k n l m = ap₂ (λ v w'. (pair_of (operation zero_fraction equality (v ∷ w' ∷ []))).pos) h k ∙ equals p w n l m

  times-plain : (p : Fraction) (w : Value) → IsPlain w → operation zero_fraction times_op (real p ∷ w ∷ []) ≡ real (product_of p (fraction_of w))
  times-plain p (real q) h = refl
  times-plain p (bool t) h = refl
  times-plain p (either c a b) h = elim h [ ]

  pub product_value : (at : Place) (a b : Sexp) (p : Fraction) (w : Value) → Valued a (real p) → Valued b w → IsPlain w → Valued (two_of at (codes "*") a b) (real (product_of p (fraction_of w)))
  product_value at a b p w h k n = ap₂ (λ v w'. operation zero_fraction times_op (v ∷ w' ∷ [])) h k ∙ times-plain p w n

  -- ---- ends

  abbrev IsNumber : Sexp → Type 0
  IsNumber e = Valued e (real (end_value e))

  whole-number : (at : Place) (o : Option ℕ) → IsNumber (whole_or_too_wide at o)
  whole-number at (Some n) = refl
  whole-number at None = refl

  below-number : (at : Place) (z : ℤ) → IsNumber (parts_below at z)
  below-number at (pos n) = refl
  below-number at (negsuc n) = refl

  above-number : (at : Place) (z : ℤ) → IsNumber (parts_above at z)
  above-number at (pos n) = refl
  above-number at (negsuc n) = refl

  low-number : (at : Place) (e : Ext) → IsNumber (low_at at e)
  low-number at (finite d) = below-number at d.units
  low-number at below_all = refl
  low-number at above_all = refl

  high-number : (at : Place) (e : Ext) → IsNumber (high_at at e)
  high-number at (finite d) = above-number at d.units
  high-number at below_all = refl
  high-number at above_all = refl

  -- ---- roots and quotients

  abbrev AllHold : List Command → Type 0
  AllHold commands = AllByRecursion Holds (map pair_of (claims (loosened zero_fraction) D [] commands))

  more-hold : (xs ys : List Command) → OnlyClaims xs → AllHold xs → AllHold ys → AllHold (xs ++ ys)
  more-hold xs ys o h k = subst (λ vs. AllByRecursion Holds (map pair_of vs)) (sym (claims_more (loosened zero_fraction) D [] xs ys o))
      (subst (λ ts. AllByRecursion Holds ts) (sym (map-append pair_of (claims (loosened zero_fraction) D [] xs) (claims (loosened zero_fraction) D [] ys)))
      (all_join Holds (map pair_of (claims (loosened zero_fraction) D [] xs)) (map pair_of (claims (loosened zero_fraction) D [] ys)) h k))

  -- the constant has this value
  abbrev pub IsValue : List ℕ → Fraction → Type 0
  IsValue name q = (at : Place) → meaning (loosened zero_fraction) D (leaf at (symbol name)) ≡ real q

  pub root_relations : (ranges : Ranges) (table : Table) (name : List ℕ) (at : Place) (t : Tree) (q : Fraction) (w : Value) → IsValue name q → Valued (spelled table t) w → IsPlain w →
      IsTrue (at_most (product_of q q) (fraction_of w)) → IsTrue (at_most (fraction_of w) (product_of q q)) → EndsHold ranges q (root at t) →
      AllHold (claims_of ranges table name (root at t))
  root_relations ranges table name at t q w n s p l m e =
      let c = leaf at (symbol name) in
      let high = whole_or_too_wide at (root_bound (enclosed ranges t)) in (
        is-at-least at c (number_at at 0) q zero_fraction (n at) (ap real (number_value at 0 (omega arith))) e.0,
        (
          is-at-most at c high q (end_value high) (n at) (whole-number at (root_bound (enclosed ranges t))) e.1,
          (is-equal at (two_of at (codes "*") c c) (spelled table t) (product_of q q) w (product_value at c c q (real q) (n at) (n at) tt) s p l m, tt),
        ),
      )

  ends-hold : (at : Place) (name : List ℕ) (q : Fraction) → IsValue name q → (i : Interval) → LiesBetween at q i → AllHold (between_ends at (leaf at (symbol name)) i)
  ends-hold at name q n nothing h = elim h [ ]
  ends-hold at name q n (between l u) h =
      let c = leaf at (symbol name) in (
        is-at-least at c (low_at at l) q (end_value (low_at at l)) (n at) (low-number at l) h.0,
        (is-at-most at c (high_at at u) q (end_value (high_at at u)) (n at) (high-number at u) h.1, tt),
      )

  pub quotient_relations : (ranges : Ranges) (table : Table) (name : List ℕ) (at : Place) (t d : Tree) (q : Fraction) (v w : Value) → IsValue name q →
      Valued (spelled table t) v → IsPlain v → Valued (spelled table d) w → IsPlain w →
      IsTrue (at_most (product_of q (fraction_of w)) (fraction_of v)) → IsTrue (at_most (fraction_of v) (product_of q (fraction_of w))) → EndsHold ranges q (quotient at t d) →
      AllHold (claims_of ranges table name (quotient at t d))
  quotient_relations ranges table name at t d q v w n s p r o l m e =
      let c = leaf at (symbol name) in
      let i = quotient_range (enclosed ranges t) (enclosed ranges d) in
      more-hold (between_ends at c i) (is_product at c (spelled table d) (spelled table t) ∷ []) (only_ends at c i) (ends-hold at name q n i e)
      (is-equal at (two_of at (codes "*") c (spelled table d)) (spelled table t) (product_of q (fraction_of w)) v (product_value at c (spelled table d) q w (n at) r o) s p l m, tt)

  -- what is asserted of this entry's constant holds
  abbrev pub RelationsHold : Ranges → Table → List ℕ × Tree → Type 0
  RelationsHold ranges table entry = AllByRecursion Holds (map pair_of (claims (loosened zero_fraction) D [] (claims_of ranges table entry.0 entry.1)))

  pub relations_hold : (ranges : Ranges) (table part : Table) → AllByRecursion (RelationsHold ranges table) part →
      AllByRecursion Holds (map pair_of (claims (loosened zero_fraction) D [] (claims_of_all ranges table part)))
  relations_hold ranges table [] h = tt
  relations_hold ranges table (entry ∷ part) h =
      more-hold (claims_of ranges table entry.0 entry.1) (claims_of_all ranges table part) (only_of ranges table entry.0 entry.1) h.0 (relations_hold ranges table part h.1)
