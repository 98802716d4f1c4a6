-- Intervals that are passed down one after the other.
use Rattle.std.proofs.Common.{◌≡◌, ◌≢◌, ℕ, ◌≤◌, List, Bool, IsTrue, nat_lt, ltb→lt, arith, true, false, cond, ◌||◌, Option, Some, None, nat_eq, eqb-true, eq-eqb, inl, inr, refl, ap, ap₂, sym, subst, ◌∙◌}
use Rattle.interval_model.specs.Interval.{Interval, met, everything}
use Rattle.poly_graph.specs.Term.{Node, constant_node, variable_node, negate_node, add_node, multiply_node, square_node, comes_after, has_child}
use Rattle.poly_graph.specs.declared.node.Node as code
use Rattle.poly_graph.specs.declared.node.Node.TheVariants.{Const, Var, Neg, Add, Mul, Sq}
use Rattle.poly_graph.specs.Views.{node_of}
use Rattle.std.specs.Bool.{passes}
use Rattle.dyadic.proofs.Equal.{both_true}
use Rattle.cover_model.specs.Narrowed.{if_child, left_by, with_parent, own}
use Rattle.cover_model.specs.NodeEnclosure.{row}
use Rattle.ival.proofs.Meets.{met_comm, met_assoc, met_everything}
use Rattle.hc4.specs.Pushed.{pushed, IsPassed, kept_by}

pub pushed_twice : (es : List Interval) (s : ℕ) (l m : Interval) (o : Option Interval) → pushed es s m (pushed es s l o) ≡ pushed es s (met l m) o
pushed_twice es s l m None = ap (λ (i : Interval). Some i) (met_assoc (row es s) l m)
pushed_twice es s l m (Some i) = ap (λ (j : Interval). Some j) (met_assoc i l m)

pushed-first : (es : List Interval) (s : ℕ) (l : Interval) (o : Option Interval) → pushed es s l o ≡ pushed es s (met l everything) o
pushed-first es s l None = ap (λ (i : Interval). Some i) (sym (met_everything (row es s) l) ∙ met_assoc (row es s) l everything)
pushed-first es s l (Some i) = ap (λ (j : Interval). Some j) (sym (met_everything i l) ∙ met_assoc i l everything)

pushed-second : (es : List Interval) (s : ℕ) (l : Interval) (o : Option Interval) → pushed es s l o ≡ pushed es s (met everything l) o
pushed-second es s l o = pushed-first es s l o ∙ ap (λ (i : Interval). pushed es s i o) (met_comm l everything)

other : (a s : ℕ) → nat_eq a s ≡ false → s ≢ a
other a s h e = let t : nat_eq a s ≡ true = eq-eqb a s (sym e) in cc

same : (a s : ℕ) → nat_eq a s ≡ true → a ≡ s
same a s h = eqb-true a s h

-- one place under the node
pub one_push : (es : List Interval) (f g : ℕ → Option Interval) (a : ℕ) (l : ℕ → Interval) → g a ≡ pushed es a (l a) (f a) → ((k : ℕ) → k ≢ a → g k ≡ f k) →
    (s : ℕ) → g s ≡ cond (nat_eq a s) (pushed es s (if_child (nat_eq a s) (l s)) (f s)) (f s)
one_push es f g a l at others s = go (nat_eq a s) (λ h. same a s h) (λ h. other a s h)
  where
    go : (t : Bool) → (t ≡ true → a ≡ s) → (t ≡ false → s ≢ a) → g s ≡ cond t (pushed es s (if_child t (l s)) (f s)) (f s)
    go true p q = subst (λ (k : ℕ). g k ≡ pushed es k (l k) (f k)) (p refl) at
    go false p q = others s (q refl)

-- two places, which may be one
pub two_pushes : (es : List Interval) (f g h : ℕ → Option Interval) (a b : ℕ) (l m : Interval) → g a ≡ pushed es a l (f a) → ((k : ℕ) → k ≢ a → g k ≡ f k) →
    h b ≡ pushed es b m (g b) → ((k : ℕ) → k ≢ b → h k ≡ g k) →
    (s : ℕ) → h s ≡ cond (nat_eq a s || nat_eq b s) (pushed es s (met (if_child (nat_eq a s) l) (if_child (nat_eq b s) m)) (f s)) (f s)
two_pushes es f g h a b l m at-a others-a at-b others-b s = go (nat_eq a s) (nat_eq b s) (λ e. same a s e) (λ e. other a s e) (λ e. same b s e) (λ e. other b s e)
  where
    go : (t u : Bool) → (t ≡ true → a ≡ s) → (t ≡ false → s ≢ a) → (u ≡ true → b ≡ s) → (u ≡ false → s ≢ b) →
        h s ≡ cond (t || u) (pushed es s (met (if_child t l) (if_child u m)) (f s)) (f s)
    go true true p p' q q' =
        subst (λ (k : ℕ). h k ≡ pushed es k m (g k)) (q refl) at-b
        ∙ ap (pushed es s m) (subst (λ (k : ℕ). g k ≡ pushed es k l (f k)) (p refl) at-a) ∙ pushed_twice es s l m (f s)
    go true false p p' q q' = others-b s (q' refl) ∙ subst (λ (k : ℕ). g k ≡ pushed es k l (f k)) (p refl) at-a ∙ pushed-first es s l (f s)
    go false true p p' q q' =
        subst (λ (k : ℕ). h k ≡ pushed es k m (g k)) (q refl) at-b ∙ ap (pushed es s m) (others-a s (p' refl)) ∙ pushed-second es s m (f s)
    go false false p p' q q' = others-b s (q' refl) ∙ others-a s (p' refl)

-- what a parent passes down is met with what later nodes left
pub pushed_own : (es : List Interval) (s : ℕ) (t : Bool) (l : Interval) (o : Option Interval) → cond t (pushed es s l (own es s o)) (own es s o) ≡ own es s (with_parent t l o)
pushed_own es s false l o = refl
pushed_own es s true l None = refl
pushed_own es s true l (Some j) = ap (λ (i : Interval). Some i) (met_assoc (row es s) j l ∙ ap (met (row es s)) (met_comm j l))

pub kept_none : (n : Node) → kept_by n None ≡ None
kept_none (constant_node q) = refl
kept_none (variable_node a) = refl
kept_none (negate_node a) = refl
kept_none (add_node a b) = refl
kept_none (multiply_node a b) = refl
kept_none (square_node a) = refl

-- ---- nodes from number n on are no children of node n

apart : (a n k : ℕ) → IsTrue (nat_lt a n) → n ≤ k → nat_eq a k ≡ false
apart a n k h l = go (nat_eq a k) refl
  where
    go : (t : Bool) → nat_eq a k ≡ t → t ≡ false
    go true e = let p = ltb→lt a n (passes _ h) in let q = eqb-true a k e in absurd (omega (arith, p, q, l))
    go false e = refl

pub no_child : (n k : ℕ) (p : Node) → IsTrue (comes_after n p) → n ≤ k → has_child k p ≡ false
no_child n k (constant_node q) h l = refl
no_child n k (variable_node a) h l = refl
no_child n k (negate_node a) h l = apart a n k h l
no_child n k (add_node a b) h l = let e = both_true (nat_lt a n) (nat_lt b n) h in ap₂ (λ (t u : Bool). t || u) (apart a n k e.0 l) (apart b n k e.1 l)
no_child n k (multiply_node a b) h l = let e = both_true (nat_lt a n) (nat_lt b n) h in ap₂ (λ (t u : Bool). t || u) (apart a n k e.0 l) (apart b n k e.1 l)
no_child n k (square_node a) h l = apart a n k h l

-- what is no child stays
pub passed_by : (es : List Interval) (n k : ℕ) (p : Node) (i : Interval) (old new : Option Interval) → has_child k p ≡ false → IsPassed es n k p i old new → new ≡ old
passed_by es n k p i old new h (inl e) = e ∙ ap (λ (t : Bool). cond t (pushed es k (left_by es k p i) old) old) h
passed_by es n k p i old new h (inr e) = e.1

-- of a node that is no variable nothing is kept
pub kept_not : (n : code.Node) → ((a : ℕ) → n ≡ Var a → ⊥) → (o : Option Interval) → kept_by (node_of n) o ≡ None
kept_not (Const q) f o = refl
kept_not (Var a) f o = absurd (f a refl)
kept_not (Neg a) f o = refl
kept_not (Add a b) f o = refl
kept_not (Mul a b) f o = refl
kept_not (Sq a) f o = refl
