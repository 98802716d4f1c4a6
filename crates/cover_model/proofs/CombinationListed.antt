-- Adjoints in lists are swept as their function is.
use Rattle.std.proofs.Common.{◌≡◌, ℕ, suc, zero, ◌<◌, ◌≤◌, List, length, Bool, true, false, cond, Option, Some, None, IsTrue, refl, ap, ap₂, sym, subst, ◌∙◌, arith, nat_eq, nat_lt, eqb→eq, ltb→lt, true≢false, get_or, set}
use Rattle.std.proofs.lemmas.Bool.{eq-eqb}
use Rattle.std.proofs.lemmas.List.{get_or-set_same, get_or-set_other, length-set}
use Rattle.std.specs.Prelude.{slice_get}
use Rattle.std.specs.Bool.{passes}
use Rattle.interval_model.specs.Interval.{Interval, interval_negated, interval_product}
use Rattle.dyadic.proofs.Equal.{both_true}
use Rattle.poly_graph.specs.Term.{Node, constant_node, variable_node, negate_node, add_node, multiply_node, square_node, comes_after}
use Rattle.cover_model.specs.NodeEnclosure.{row}
use Rattle.cover_model.proofs.NodeEnclosures.{comes_at}
use Rattle.cover_model.specs.Combination.{Adjoints, joined, handed, handed_down, squares_down, Expansion, next_adjoints, next_squares, next_expansion, swept}
use Rattle.cover_model.specs.CombinationLists.{Entries, entered, entries_down, square_entries_down, next_entries, next_square_entries, swept_lists, ListsAreSwept}

-- of n entries those below k are the function's
record Agree (n k : ℕ) (xs : Entries) (os : Adjoints) : Type 0 where
  long : length xs ≡ n
  each : (j : ℕ) → j < k → os j ≡ get_or xs j None

fewer : (n k : ℕ) (xs : Entries) (os : Adjoints) → Agree n (suc k) xs os → Agree n k xs os
fewer n k xs os a = record { long = a.long; each = λ j l. a.each j (omega arith) }

entered-agree : (n k a : ℕ) (i : Interval) (xs : Entries) (os : Adjoints) → a < k → k ≤ n → Agree n k xs os → Agree n k (entered a i xs) (handed a i os)
entered-agree n k a i xs os l m h = record { long = length-set xs a (Some (joined (get_or xs a None) i)) ∙ h.long; each = λ j b. at j b (nat_eq j a) refl }
  where
    at : (j : ℕ) → j < k → (t : Bool) → nat_eq j a ≡ t → cond t (Some (joined (os j) i)) (os j) ≡ get_or (set xs a (Some (joined (get_or xs a None) i))) j None
    at j b true e = let same : j ≡ a = eqb→eq j a (passes _ e) in let room : a < length xs = omega (arith, h.long) in
        subst (λ (x : ℕ). Some (joined (os x) i) ≡ get_or (set xs a (Some (joined (get_or xs a None) i))) x None) (sym same)
        (ap (λ (o : Option Interval). Some (joined o i)) (h.each a l) ∙ sym (get_or-set_same xs a (Some (joined (get_or xs a None) i)) None room))
    at j b false e = h.each j b ∙ sym (get_or-set_other xs a j (Some (joined (get_or xs a None) i)) None (λ s. true≢false (sym (eq-eqb j a s) ∙ e)))

down-agree : (cs : List Interval) (n k : ℕ) (w : Interval) (m : Node) (xs : Entries) (os : Adjoints) → IsTrue (comes_after k m) → k ≤ n → Agree n k xs os → Agree n k (entries_down cs w m xs) (handed_down cs w m os)
down-agree cs n k w (constant_node q) xs os c l h = h
down-agree cs n k w (variable_node axis) xs os c l h = h
down-agree cs n k w (negate_node a) xs os c l h = entered-agree n k a (interval_negated w) xs os (ltb→lt a k (passes _ c)) l h
down-agree cs n k w (add_node a b) xs os c l h = let e = both_true (nat_lt a k) (nat_lt b k) c in
    entered-agree n k b w (entered a w xs) (handed a w os) (ltb→lt b k (passes _ e.1)) l (entered-agree n k a w xs os (ltb→lt a k (passes _ e.0)) l h)
down-agree cs n k w (multiply_node a b) xs os c l h = let e = both_true (nat_lt a k) (nat_lt b k) c in let i : Interval = interval_product w (row cs b) in
    entered-agree n k b (interval_product w (row cs a)) (entered a i xs) (handed a i os) (ltb→lt b k (passes _ e.1)) l (entered-agree n k a i xs os (ltb→lt a k (passes _ e.0)) l h)
down-agree cs n k w (square_node a) xs os c l h = let i : Interval = interval_product w (row cs a) in let b = ltb→lt a k (passes _ c) in
    entered-agree n k a i (entered a i xs) (handed a i os) b l (entered-agree n k a i xs os b l h)

squares-agree : (n k : ℕ) (w : Interval) (m : Node) (ys : Entries) (qs : Adjoints) → IsTrue (comes_after k m) → k ≤ n → Agree n k ys qs → Agree n k (square_entries_down w m ys) (squares_down w m qs)
squares-agree n k w (constant_node q) ys qs c l h = h
squares-agree n k w (variable_node axis) ys qs c l h = h
squares-agree n k w (negate_node a) ys qs c l h = h
squares-agree n k w (add_node a b) ys qs c l h = h
squares-agree n k w (multiply_node a b) ys qs c l h = h
squares-agree n k w (square_node a) ys qs c l h = entered-agree n k a w ys qs (ltb→lt a k (passes _ c)) l h

module _ (nodes : List Node) (es cs : List Interval) (laws : (k : ℕ) (m : Node) → slice_get nodes k ≡ Some m → IsTrue (comes_after k m)) where
  next-agree : (n k : ℕ) (o : Option Interval) (x : Option Node) → slice_get nodes k ≡ x → (xs : Entries) (os : Adjoints) → k ≤ n → Agree n k xs os → Agree n k (next_entries cs o x xs) (next_adjoints cs o x os)
  next-agree n k None None e xs os l h = h
  next-agree n k None (Some m) e xs os l h = h
  next-agree n k (Some w) None e xs os l h = h
  next-agree n k (Some w) (Some m) e xs os l h = down-agree cs n k w m xs os (laws k m e) l h

  next-squares-agree : (n k : ℕ) (o : Option Interval) (x : Option Node) → slice_get nodes k ≡ x → (ys : Entries) (qs : Adjoints) → k ≤ n → Agree n k ys qs → Agree n k (next_square_entries o x ys) (next_squares o x qs)
  next-squares-agree n k None None e ys qs l h = h
  next-squares-agree n k None (Some m) e ys qs l h = h
  next-squares-agree n k (Some w) None e ys qs l h = h
  next-squares-agree n k (Some w) (Some m) e ys qs l h = squares-agree n k w m ys qs (laws k m e) l h

  same-sweep : (n k : ℕ) (xs ys : Entries) (os qs : Adjoints) (e : Expansion) → k ≤ n → Agree n k xs os → Agree n k ys qs → swept_lists nodes es cs k xs ys e ≡ swept nodes es cs k os qs e
  same-sweep n zero xs ys os qs e l a b = refl
  same-sweep n (suc k) xs ys os qs e l a b =
      let x : Option Node = slice_get nodes k in
      let p : os k ≡ get_or xs k None = a.each k (omega arith) in let q : qs k ≡ get_or ys k None = b.each k (omega arith) in
      let room : k ≤ n = omega arith in
      same-sweep n k (next_entries cs (get_or xs k None) x xs) (next_square_entries (get_or xs k None) x ys) (next_adjoints cs (get_or xs k None) x os) (next_squares (get_or xs k None) x qs) (next_expansion es cs k (get_or xs k None) (get_or ys k None) x e) room
      (next-agree n k (get_or xs k None) x refl xs os room (fewer n k xs os a)) (next-squares-agree n k (get_or xs k None) x refl ys qs room (fewer n k ys qs b))
      ∙ ap₂ (λ (o : Option Interval) (c : Option Interval). swept nodes es cs k (next_adjoints cs o x os) (next_squares o x qs) (next_expansion es cs k o c x e)) (sym p) (sym q)

pub lists_are_swept : ListsAreSwept
lists_are_swept nodes o es cs xs ys e l m = same-sweep nodes es cs (λ k n a. comes_at nodes o k n a) (length nodes) (length nodes) xs ys (λ k. get_or xs k None) (λ k. get_or ys k None) e (omega arith)
    (record { long = l; each = λ j b. refl }) (record { long = m; each = λ j b. refl })
