-- Intervals that are left to a node one after the other.
use Rattle.std.proofs.Common.{◌≡◌, ◌≢◌, ℕ, ◌≤◌, List, Bool, IsTrue, nat_lt, ltb→lt, arith, true, false, cond, ◌||◌, Option, Some, None, nat_eq, eqb-true, eq-eqb, refl, ap, ap₂, sym, subst, ◌∙◌}
use Rattle.interval_model.specs.Interval.{Interval, nothing, IsProper, met, everything, within}
use Rattle.interval_model.specs.Space.{Space}
use Rattle.poly_graph.specs.Term.{Node, constant_node, variable_node, negate_node, add_node, multiply_node, square_node, comes_after, has_child}
use Rattle.std.specs.Bool.{passes}
use Rattle.dyadic.proofs.Equal.{both_true}
use Rattle.cover_model.specs.Narrowed.{if_child, left_by, with_parent, own}
use Rattle.cover_model.specs.NodeEnclosure.{row, node_enclosure}
use Rattle.cover_model.proofs.Unnarrowed.{left_whole}
use Rattle.ival.proofs.Meets.{met_comm, met_assoc, met_everything, met_inside}
use Rattle.plain_eval.specs.Leaving.{left_more, left_more_by, left_all, left_all_by}

more-twice : (es : List Interval) (s : ℕ) (l m : Interval) (o : Option Interval) → left_more es s m (left_more es s l o) ≡ left_more es s (met l m) o
more-twice es s l m None = ap (λ (i : Interval). Some i) (met_assoc (row es s) l m)
more-twice es s l m (Some i) = ap (λ (j : Interval). Some j) (met_assoc i l m)

more-first : (es : List Interval) (s : ℕ) (l : Interval) (o : Option Interval) → left_more es s l o ≡ left_more es s (met l everything) o
more-first es s l None = ap (λ (i : Interval). Some i) (sym (met_everything (row es s) l) ∙ met_assoc (row es s) l everything)
more-first es s l (Some i) = ap (λ (j : Interval). Some j) (sym (met_everything i l) ∙ met_assoc i l everything)

more-second : (es : List Interval) (s : ℕ) (l : Interval) (o : Option Interval) → left_more es s l o ≡ left_more es s (met everything l) o
more-second es s l o = more-first es s l o ∙ ap (λ (i : Interval). left_more es s i o) (met_comm l everything)

other : (a s : ℕ) → nat_eq a s ≡ false → s ≢ a
other a s h e = let t : nat_eq a s ≡ true = eq-eqb a s (sym e) in cc

same : (a s : ℕ) → nat_eq a s ≡ true → a ≡ s
same a s h = eqb-true a s h

-- to the one child
pub one_child : (es : List Interval) (f g : ℕ → Option Interval) (a : ℕ) (l : ℕ → Interval) → g a ≡ left_more es a (l a) (f a) → ((k : ℕ) → k ≢ a → g k ≡ f k) →
    (s : ℕ) → g s ≡ cond (nat_eq a s) (left_more es s (if_child (nat_eq a s) (l s)) (f s)) (f s)
one_child es f g a l at others s = go (nat_eq a s) (λ h. same a s h) (λ h. other a s h)
  where
    go : (t : Bool) → (t ≡ true → a ≡ s) → (t ≡ false → s ≢ a) → g s ≡ cond t (left_more es s (if_child t (l s)) (f s)) (f s)
    go true p q = subst (λ (k : ℕ). g k ≡ left_more es k (l k) (f k)) (p refl) at
    go false p q = others s (q refl)

-- to two children, which may be one
pub two_children : (es : List Interval) (f g h : ℕ → Option Interval) (a b : ℕ) (l m : Interval) → g a ≡ left_more es a l (f a) → ((k : ℕ) → k ≢ a → g k ≡ f k) →
    h b ≡ left_more es b m (g b) → ((k : ℕ) → k ≢ b → h k ≡ g k) →
    (s : ℕ) → h s ≡ cond (nat_eq a s || nat_eq b s) (left_more es s (met (if_child (nat_eq a s) l) (if_child (nat_eq b s) m)) (f s)) (f s)
two_children es f g h a b l m at-a others-a at-b others-b s = go (nat_eq a s) (nat_eq b s) (λ e. same a s e) (λ e. other a s e) (λ e. same b s e) (λ e. other b s e)
  where
    go : (t u : Bool) → (t ≡ true → a ≡ s) → (t ≡ false → s ≢ a) → (u ≡ true → b ≡ s) → (u ≡ false → s ≢ b) →
        h s ≡ cond (t || u) (left_more es s (met (if_child t l) (if_child u m)) (f s)) (f s)
    go true true p p' q q' =
        subst (λ (k : ℕ). h k ≡ left_more es k m (g k)) (q refl) at-b
        ∙ ap (left_more es s m) (subst (λ (k : ℕ). g k ≡ left_more es k l (f k)) (p refl) at-a) ∙ more-twice es s l m (f s)
    go true false p p' q q' = others-b s (q' refl) ∙ subst (λ (k : ℕ). g k ≡ left_more es k l (f k)) (p refl) at-a ∙ more-first es s l (f s)
    go false true p p' q q' =
        subst (λ (k : ℕ). h k ≡ left_more es k m (g k)) (q refl) at-b ∙ ap (left_more es s m) (others-a s (p' refl)) ∙ more-second es s m (f s)
    go false false p p' q q' = others-b s (q' refl) ∙ others-a s (p' refl)

-- what a parent leaves is met with what later parents left
pub more_own : (es : List Interval) (s : ℕ) (t : Bool) (l : Interval) (o : Option Interval) → cond t (left_more es s l (own es s o)) (own es s o) ≡ own es s (with_parent t l o)
more_own es s false l o = refl
more_own es s true l None = refl
more_own es s true l (Some j) = ap (λ (i : Interval). Some i) (met_assoc (row es s) j l ∙ ap (met (row es s)) (met_comm j l))

-- ---- all of its enclosure is left to a child

all-twice : (es : List Interval) (s : ℕ) (o : Option Interval) → left_all es s (left_all es s o) ≡ left_all es s o
all-twice es s None = refl
all-twice es s (Some i) = refl

pub one_all : (es : List Interval) (f g : ℕ → Option Interval) (a : ℕ) → g a ≡ left_all es a (f a) → ((k : ℕ) → k ≢ a → g k ≡ f k) →
    (s : ℕ) → g s ≡ cond (nat_eq a s) (left_all es s (f s)) (f s)
one_all es f g a at others s = go (nat_eq a s) (λ h. same a s h) (λ h. other a s h)
  where
    go : (t : Bool) → (t ≡ true → a ≡ s) → (t ≡ false → s ≢ a) → g s ≡ cond t (left_all es s (f s)) (f s)
    go true p q = subst (λ (k : ℕ). g k ≡ left_all es k (f k)) (p refl) at
    go false p q = others s (q refl)

pub two_all : (es : List Interval) (f g h : ℕ → Option Interval) (a b : ℕ) → g a ≡ left_all es a (f a) → ((k : ℕ) → k ≢ a → g k ≡ f k) → h b ≡ left_all es b (g b) → ((k : ℕ) → k ≢ b → h k ≡ g k) →
    (s : ℕ) → h s ≡ cond (nat_eq a s || nat_eq b s) (left_all es s (f s)) (f s)
two_all es f g h a b at-a others-a at-b others-b s = go (nat_eq a s) (nat_eq b s) (λ e. same a s e) (λ e. other a s e) (λ e. same b s e) (λ e. other b s e)
  where
    go : (t u : Bool) → (t ≡ true → a ≡ s) → (t ≡ false → s ≢ a) → (u ≡ true → b ≡ s) → (u ≡ false → s ≢ b) → h s ≡ cond (t || u) (left_all es s (f s)) (f s)
    go true true p p' q q' =
        subst (λ (k : ℕ). h k ≡ left_all es k (g k)) (q refl) at-b
        ∙ ap (left_all es s) (subst (λ (k : ℕ). g k ≡ left_all es k (f k)) (p refl) at-a) ∙ all-twice es s (f s)
    go true false p p' q q' = others-b s (q' refl) ∙ subst (λ (k : ℕ). g k ≡ left_all es k (f k)) (p refl) at-a
    go false true p p' q q' = subst (λ (k : ℕ). h k ≡ left_all es k (g k)) (q refl) at-b ∙ ap (left_all es s) (others-a s (p' refl))
    go false false p p' q q' = others-b s (q' refl) ∙ others-a s (p' refl)

all-same : (es : List Interval) (s : ℕ) (t : Bool) (l : Interval) (o : Option Interval) → met (row es s) l ≡ row es s →
    cond t (left_all es s (own es s o)) (own es s o) ≡ cond t (left_more es s l (own es s o)) (own es s o)
all-same es s false l o e = refl
all-same es s true l None e = ap (λ (i : Interval). Some i) (sym e)
all-same es s true l (Some j) e =
    let r : Interval = row es s in
    ap (λ (i : Interval). Some i) (sym (met_assoc r j l ∙ ap (met r) (met_comm j l) ∙ sym (met_assoc r l j) ∙ ap (λ (i : Interval). met i j) e))

-- a node whose interval is its enclosure leaves that
pub all_is_left : (space : Space) (es : List Interval) → ((k : ℕ) → IsProper (row es k)) → (s : ℕ) (p : Node) (i : Interval) (o : Option Interval) → i ≡ node_enclosure space es p → i ≢ nothing →
    left_all_by es s p (own es s o) ≡ left_more_by es s p i (own es s o)
all_is_left space es proper s p i o e n =
    let inside : IsTrue (within (row es s) (left_by es s p i)) =
    subst (λ (j : Interval). IsTrue (within (row es s) (left_by es s p j))) (sym e) (left_whole space es proper s p (λ z. n (e ∙ z))) in
    all-same es s (has_child s p) (left_by es s p i) o (met_inside (row es s) (left_by es s p i) (proper s) inside)

-- ---- nodes from number n on are no children of node n

apart : (a n k : ℕ) → IsTrue (nat_lt a n) → n ≤ k → nat_eq a k ≡ false
apart a n k h l = go (nat_eq a k) refl
  where
    go : (t : Bool) → nat_eq a k ≡ t → t ≡ false
    go true e = let p = ltb→lt a n (passes _ h) in let q = eqb-true a k e in absurd (omega (arith, p, q, l))
    go false e = refl

pub no_child : (n k : ℕ) (p : Node) → IsTrue (comes_after n p) → n ≤ k → has_child k p ≡ false
no_child n k (constant_node q) h l = refl
no_child n k (variable_node a) h l = refl
no_child n k (negate_node a) h l = apart a n k h l
no_child n k (add_node a b) h l = let e = both_true (nat_lt a n) (nat_lt b n) h in ap₂ (λ (t u : Bool). t || u) (apart a n k e.0 l) (apart b n k e.1 l)
no_child n k (multiply_node a b) h l = let e = both_true (nat_lt a n) (nat_lt b n) h in ap₂ (λ (t u : Bool). t || u) (apart a n k e.0 l) (apart b n k e.1 l)
no_child n k (square_node a) h l = apart a n k h l
