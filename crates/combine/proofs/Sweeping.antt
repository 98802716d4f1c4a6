-- The sweep, node by node: nodes without an adjoint are passed over.
use Rattle.std.proofs.Common.{◌≡◌, ℕ, zero, suc, ◌+◌, ◌-◌, ◌<◌, ◌≤◌, List, Option, Some, refl, ap, ap₂, sym, ◌∙◌, arith}
use mathlib.Core.Path.{fun_ext}
use Rattle.std.specs.Prelude.{slice_get}
use Rattle.interval_model.specs.Interval.{Interval}
use Rattle.poly_graph.specs.Term.{Node}
use Rattle.poly_graph.specs.declared.node.Node as code
use Rattle.poly_graph.specs.declared.node.Node.TheVariants.{Const, Var, Neg, Add, Mul, Sq}
use Rattle.poly_graph.specs.Views.{node_of}
use Rattle.cover_model.specs.Combination.{Adjoints, handed_down, squares_down, Expansion, squared_rest, product_rest, expanded, next_adjoints, next_squares, next_expansion, swept}
use Rattle.cover_model.specs.CombinationConstants.{handed_on}
use Rattle.cover_model.proofs.CombinationConstants.{handed_on_alike, swept_alike}
use Rattle.combine.specs.Parts.{needed_by, needed_at, needed_below}

-- ---- a node that is no variable

pub expanded_other : (n : code.Node) → ((a : ℕ) → n ≡ Var a → ⊥) → (es cs : List Interval) (k : ℕ) (o q : Option Interval) (e : Expansion) →
    expanded es cs k o q (node_of n) e ≡ product_rest es cs o (node_of n) (squared_rest es cs k q e)
expanded_other (Const c) f es cs k o q e = refl
expanded_other (Var a) f es cs k o q e = absurd (f a refl)
expanded_other (Neg a) f es cs k o q e = refl
expanded_other (Add a b) f es cs k o q e = refl
expanded_other (Mul a b) f es cs k o q e = refl
expanded_other (Sq a) f es cs k o q e = refl

pub needed_other : (n : code.Node) → ((a : ℕ) → n ≡ Var a → ⊥) → needed_by (node_of n) ≡ 0
needed_other (Const c) f = refl
needed_other (Var a) f = absurd (f a refl)
needed_other (Neg a) f = refl
needed_other (Add a b) f = refl
needed_other (Mul a b) f = refl
needed_other (Sq a) f = refl

module _ (nodes : List Node) (es cs : List Interval) where
  pub visited : (n : ℕ) (w : Interval) (node : Node) (os qs os' qs' : Adjoints) (e e' : Expansion) → os n ≡ Some w → slice_get nodes n ≡ Some node →
      ((k : ℕ) → os' k ≡ handed_on nodes cs w node os k) → ((k : ℕ) → qs' k ≡ squares_down w node qs k) → e' ≡ expanded es cs n (Some w) (qs n) node e →
      swept nodes es cs (suc n) os qs e ≡ swept nodes es cs n os' qs' e'
  visited n w node os qs os' qs' e e' f g a b c =
      ap₂ (λ (o : Option Interval) (m : Option Node). swept nodes es cs n (next_adjoints cs o m os) (next_squares o m qs) (next_expansion es cs n o (qs n) m e)) f g
      ∙ swept_alike nodes es cs n (handed_down cs w node os) (handed_on nodes cs w node os) (squares_down w node qs) (expanded es cs n (Some w) (qs n) node e) (handed_on_alike nodes cs w node os)
      ∙ ap₂ (λ (x y : Adjoints). swept nodes es cs n x y (expanded es cs n (Some w) (qs n) node e)) (sym (fun_ext a)) (sym (fun_ext b))
      ∙ ap (λ (x : Expansion). swept nodes es cs n os' qs' x) (sym c)

-- ---- the room that parts need

pub needed_less : (nodes : List Node) (d p q : ℕ) → q + d ≡ p → needed_below nodes q ≤ needed_below nodes p
needed_less nodes zero p q h = let same : q ≡ p = omega arith in let e : needed_below nodes q ≡ needed_below nodes p = ap (needed_below nodes) same in omega (arith, e)
needed_less nodes (suc d) p q h =
    let same : p ≡ suc (q + d) = omega arith in let e : needed_below nodes p ≡ needed_below nodes (q + d) + needed_at (slice_get nodes (q + d)) = ap (needed_below nodes) same in
    omega (arith, e, needed_less nodes d (q + d) q refl)

pub needed_here : (nodes : List Node) (n p : ℕ) (node : Node) → n < p → slice_get nodes n ≡ Some node → needed_below nodes n + needed_by node ≤ needed_below nodes p
needed_here nodes n p node h e =
    let d : (d : ℕ) × (suc n + d ≡ p) = (p - suc n, omega arith) in
    let here : needed_at (slice_get nodes n) ≡ needed_by node = ap needed_at e in
    omega (arith, here, needed_less nodes d.0 p (suc n) d.1)
