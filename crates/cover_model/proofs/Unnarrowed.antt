-- A node whose narrowed interval is its enclosure leaves its children as they are.
use Rattle.std.proofs.Common.{◌≡◌, ◌⊎◌, inl, inr, ℕ, List, Some, Bool, IsTrue, true, false, ◌||◌, nat_eq, eqb-true, ap, sym, subst, ◌∙◌, true≢false, refl}
use Rattle.std.specs.Prelude.{slice_get}
use Rattle.dyadic.specs.Fraction.{Fraction, IsFraction}
use Rattle.interval_model.specs.Interval.{Interval, nothing, between, IsProper, within, interval_negated, interval_sum, interval_product, interval_square, inverse_sum, inverse_product, inverse_square}
use Rattle.interval_model.specs.Space.{Space, axis_interval}
use Rattle.interval_model.proofs.Holds.{Holds, everything_holds, met_holds}
use Rattle.interval_model.proofs.Unnarrowed.{holds_within, member_in, negated_left, sum_left_first, sum_left_second, product_left_first, product_left_second, square_left}
use Rattle.poly_graph.specs.Term.{Node, constant_node, variable_node, negate_node, add_node, multiply_node, square_node, has_child, in_order}
use Rattle.cover_model.specs.Narrowed.{if_child, left_by, enclosures}
use Rattle.cover_model.specs.NodeEnclosure.{row, node_enclosure}
use Rattle.cover_model.proofs.NodeEnclosures.{next_row}

-- ---- rows that are the enclosures over a space

pub enclosed_at : (space : Space) (nodes : List Node) (es : List Interval) → IsTrue (in_order 0 nodes) → es ≡ enclosures space nodes → (k : ℕ) (p : Node) → slice_get nodes k ≡ Some p →
    row es k ≡ node_enclosure space es p
enclosed_at space nodes es o filled k p e = ap (λ (xs : List Interval). row xs k) filled ∙ sym (next_row space nodes o es k p e (λ i l. ap (λ (xs : List Interval). row xs i) filled))

pub variable_row : (space : Space) (nodes : List Node) (es : List Interval) → IsTrue (in_order 0 nodes) → es ≡ enclosures space nodes → (k a : ℕ) → slice_get nodes k ≡ Some (variable_node a) →
    row es k ≡ axis_interval space a
variable_row space nodes es o filled k a e = enclosed_at space nodes es o filled k (variable_node a) e

-- ---- nothing leads to nothing

sum-of-none : (j : Interval) → interval_sum nothing j ≡ nothing
sum-of-none nothing = refl
sum-of-none (between l h) = refl

sum-with-none : (i : Interval) → interval_sum i nothing ≡ nothing
sum-with-none nothing = refl
sum-with-none (between l h) = refl

product-of-none : (j : Interval) → interval_product nothing j ≡ nothing
product-of-none nothing = refl
product-of-none (between l h) = refl

product-with-none : (i : Interval) → interval_product i nothing ≡ nothing
product-with-none nothing = refl
product-with-none (between l h) = refl

sum-first : (i j : Interval) → i ≡ nothing → interval_sum i j ≡ nothing
sum-first i j e = ap (λ (x : Interval). interval_sum x j) e ∙ sum-of-none j

sum-second : (i j : Interval) → j ≡ nothing → interval_sum i j ≡ nothing
sum-second i j e = ap (interval_sum i) e ∙ sum-with-none i

product-first : (i j : Interval) → i ≡ nothing → interval_product i j ≡ nothing
product-first i j e = ap (λ (x : Interval). interval_product x j) e ∙ product-of-none j

product-second : (i j : Interval) → j ≡ nothing → interval_product i j ≡ nothing
product-second i j e = ap (interval_product i) e ∙ product-with-none i

either : (x y : Bool) → (x || y) ≡ true → (x ≡ true) ⊎ (y ≡ true)
either true y h = inl refl
either false y h = inr h

if-child : (t : Bool) (i : Interval) (v : Fraction) → (t ≡ true → Holds i v) → Holds (if_child t i) v
if-child true i v h = h refl
if-child false i v h = everything_holds v

module _ (space : Space) (es : List Interval) (proper : (k : ℕ) → IsProper (row es k)) where
  moved : (a s : ℕ) (v : Fraction) → nat_eq a s ≡ true → Holds (row es s) v → Holds (row es a) v
  moved a s v e h = subst (λ (k : ℕ). Holds (row es k) v) (sym (eqb-true a s e)) h

  left-holds : (s : ℕ) (p : Node) (v : Fraction) → (node_enclosure space es p ≡ nothing → ⊥) → IsFraction v → Holds (row es s) v → Holds (left_by es s p (node_enclosure space es p)) v
  left-holds s (constant_node q) v n f h = everything_holds v
  left-holds s (variable_node a) v n f h = everything_holds v
  left-holds s (negate_node a) v n f h = if-child (nat_eq a s) (interval_negated (interval_negated (row es a))) v (λ e. negated_left (row es a) v f (moved a s v e h))
  left-holds s (add_node a b) v n f h =
      let i : Interval = row es a in let j : Interval = row es b in let both : Interval = interval_sum i j in
      met_holds (if_child (nat_eq a s) (inverse_sum both j)) (if_child (nat_eq b s) (inverse_sum both i)) v f
      (if-child (nat_eq a s) (inverse_sum both j) v (λ e. sum_left_first i j v (member_in j (proper b) (λ x. n (sum-second i j x))) f (moved a s v e h)))
      (if-child (nat_eq b s) (inverse_sum both i) v (λ e. sum_left_second i j v (member_in i (proper a) (λ x. n (sum-first i j x))) f (moved b s v e h)))
  left-holds s (multiply_node a b) v n f h =
      let i : Interval = row es a in let j : Interval = row es b in let both : Interval = interval_product i j in
      met_holds (if_child (nat_eq a s) (inverse_product both j)) (if_child (nat_eq b s) (inverse_product both i)) v f
      (if-child (nat_eq a s) (inverse_product both j) v (λ e. product_left_first i j v (member_in j (proper b) (λ x. n (product-second i j x))) f (moved a s v e h)))
      (if-child (nat_eq b s) (inverse_product both i) v (λ e. product_left_second i j v (member_in i (proper a) (λ x. n (product-first i j x))) f (moved b s v e h)))
  left-holds s (square_node a) v n f h =
      if-child (nat_eq a s) (inverse_square (row es s) (interval_square (row es a))) v
      (λ e. subst (λ (k : ℕ). Holds (inverse_square (row es s) (interval_square (row es k))) v) (sym (eqb-true a s e)) (square_left (row es s) v f h))

  -- what is left to a child is no less than its enclosure
  pub left_whole : (s : ℕ) (p : Node) → (node_enclosure space es p ≡ nothing → ⊥) → IsTrue (within (row es s) (left_by es s p (node_enclosure space es p)))
  left_whole s p n = holds_within (row es s) (left_by es s p (node_enclosure space es p)) (proper s) (λ v f h. left-holds s p v n f h)

  -- and the child is not empty
  pub child_left : (s : ℕ) (p : Node) → has_child s p ≡ true → (node_enclosure space es p ≡ nothing → ⊥) → row es s ≡ nothing → ⊥
  child_left s (constant_node q) c n e = true≢false (sym c)
  child_left s (variable_node a) c n e = true≢false (sym c)
  child_left s (negate_node a) c n e = n (ap interval_negated (ap (row es) (eqb-true a s c) ∙ e))
  child_left s (add_node a b) c n e = elim (either (nat_eq a s) (nat_eq b s) c) [
    | inl x ↦ n (sum-first (row es a) (row es b) (ap (row es) (eqb-true a s x) ∙ e))
    | inr x ↦ n (sum-second (row es a) (row es b) (ap (row es) (eqb-true b s x) ∙ e))
  ]
  child_left s (multiply_node a b) c n e = elim (either (nat_eq a s) (nat_eq b s) c) [
    | inl x ↦ n (product-first (row es a) (row es b) (ap (row es) (eqb-true a s x) ∙ e))
    | inr x ↦ n (product-second (row es a) (row es b) (ap (row es) (eqb-true b s x) ∙ e))
  ]
  child_left s (square_node a) c n e = n (ap interval_square (ap (row es) (eqb-true a s c) ∙ e))
