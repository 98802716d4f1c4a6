-- Declared bounds, axis by axis.
use Rattle.std.proofs.Common.{◌≡◌, ℕ, zero, suc, ◌+◌, ◌<◌, List, [], ◌∷◌, ◌++◌, map, length, take, drop, get_or, add-one, Bool, true, false, not, IsTrue, Option, Some, None, cond, refl, ap, sym, subst, ◌∙◌, arith, true≢false}
use Rattle.std.specs.Prelude.{All}
use Rattle.std.proofs.lemmas.Option.{none-some}
use Rattle.dyadic.specs.Fraction.{Fraction, at_most}
use Rattle.dyadic.specs.Rounding.{Dyadic, exact, finite, down, up}
use Rattle.dyadic.proofs.Equal.{through}
use Rattle.poly_graph.specs.declared.axis.Axis.{Axis}
use Rattle.poly_graph.specs.Problem
use Rattle.poly_graph.specs.Problem.{IsBound, IsDeclared, is_crossed, first_crossed_from}
use Rattle.cover_model.specs.Root.{root_domain, root_of_axes, finite_or_nought}
use Rattle.poly_graph.specs.ProblemViews.{axis_of, declared_of}
use Rattle.cover_model.proofs.Root.{bound_down, bound_up}

-- ---- the first axis whose bounds cross

cond-true : (b : Bool) (x y : Option ℕ) → b ≡ true → cond b x y ≡ x
cond-true true x y h = refl
cond-true false x y h = absurd (true≢false (sym h))

cond-false : (b : Bool) (x y : Option ℕ) → b ≡ false → cond b x y ≡ y
cond-false false x y h = refl
cond-false true x y h = absurd (true≢false h)

pub crossed_here : (n i : ℕ) (axes : List Axis) (d : Axis) → i < length axes → is_crossed (declared_of (get_or axes i d).declared) ≡ true → first_crossed_from n (drop i (map axis_of axes)) ≡ Some n
crossed_here n i [] d l h = absurd (omega (arith, l))
crossed_here n zero (a ∷ axes) d l h = cond-true (is_crossed (declared_of a.declared)) (Some n) (first_crossed_from (suc n) (map axis_of axes)) h
crossed_here n (suc i) (a ∷ axes) d l h = crossed_here n i axes d (omega (arith, l)) h

crossed-later : (n i : ℕ) (axes : List Axis) (d : Axis) → i < length axes → is_crossed (declared_of (get_or axes i d).declared) ≡ false → first_crossed_from n (drop i (map axis_of axes)) ≡ first_crossed_from (suc n) (drop (suc i) (map axis_of axes))
crossed-later n i [] d l h = absurd (omega (arith, l))
crossed-later n zero (a ∷ axes) d l h = cond-false (is_crossed (declared_of a.declared)) (Some n) (first_crossed_from (suc n) (map axis_of axes)) h
crossed-later n (suc i) (a ∷ axes) d l h = crossed-later n i axes d (omega (arith, l)) h

pub crossed_later : (n i : ℕ) (axes : List Axis) (d : Axis) → i < length axes → is_crossed (declared_of (get_or axes i d).declared) ≡ false → first_crossed_from n (drop i (map axis_of axes)) ≡ first_crossed_from (n + 1) (drop (i + 1) (map axis_of axes))
crossed_later n i axes d l h = rw (add-one, add-one) (crossed-later n i axes d l h)

upright-first : (b : Bool) (n : ℕ) (rest : Option ℕ) → cond b (Some n) rest ≡ None → (b ≡ false) × (rest ≡ None)
upright-first true n rest h = absurd (none-some n (sym h))
upright-first false n rest h = (refl, h)

-- where no bounds cross, those of this axis do not
pub upright_at : (n i : ℕ) (axes : List Axis) (d : Axis) → i < length axes → first_crossed_from n (map axis_of axes) ≡ None → is_crossed (declared_of (get_or axes i d).declared) ≡ false
upright_at n i [] d l h = absurd (omega (arith, l))
upright_at n zero (a ∷ axes) d l h = (upright-first (is_crossed (declared_of a.declared)) n (first_crossed_from (suc n) (map axis_of axes)) h).0
upright_at n (suc i) (a ∷ axes) d l h = upright_at (suc n) i axes d (omega (arith, l)) (upright-first (is_crossed (declared_of a.declared)) n (first_crossed_from (suc n) (map axis_of axes)) h).1

-- ---- the domains

pub bound_at : (i : ℕ) (axes : List Axis) (d : Axis) → i < length axes → All (λ (a : Problem.Axis). IsDeclared a.declared) (map axis_of axes) → IsDeclared (declared_of (get_or axes i d).declared)
bound_at i [] d l b = absurd (omega (arith, l))
bound_at zero (a ∷ axes) d l b = b zero (axis_of a) (omega arith)
bound_at (suc i) (a ∷ axes) d l b = bound_at i axes d (omega (arith, l)) (λ k e m. b (suc k) e (omega (arith, m)))

domains-step : (i : ℕ) (axes : List Axis) (d : Axis) → i < length axes → take (suc i) (root_of_axes (map axis_of axes)) ≡ take i (root_of_axes (map axis_of axes)) ++ (root_domain (declared_of (get_or axes i d).declared) ∷ [])
domains-step i [] d l = absurd (omega (arith, l))
domains-step zero (a ∷ axes) d l = refl
domains-step (suc i) (a ∷ axes) d l = ap (λ t. root_domain (declared_of a.declared) ∷ t) (domains-step i axes d (omega (arith, l)))

pub domains_step : (i : ℕ) (axes : List Axis) (d : Axis) → i < length axes → take (i + 1) (root_of_axes (map axis_of axes)) ≡ take i (root_of_axes (map axis_of axes)) ++ (root_domain (declared_of (get_or axes i d).declared) ∷ [])
domains_step i axes d l = rw add-one (domains-step i axes d l)

-- ---- rounded bounds

not-crossed : (b : Bool) → not b ≡ false → IsTrue b
not-crossed true h = refl
not-crossed false h = absurd (true≢false h)

-- bounds that do not cross do not when they are rounded outwards
pub upright_range : (l h : Fraction) → IsBound l → IsBound h → not (at_most l h) ≡ false → (a b : Dyadic) → down l ≡ finite a → up h ≡ finite b → IsTrue (at_most (exact a) (exact b))
upright_range l h f g x a b p q =
    let low = bound_down l f in let high = bound_up h g in
    let e : low.number ≡ a = ap finite_or_nought (sym low.is ∙ p) in
    let k : high.number ≡ b = ap finite_or_nought (sym high.is ∙ q) in
    let below = subst (λ (d : Dyadic). IsTrue (at_most (exact d) l)) e low.below in
    let above = subst (λ (d : Dyadic). IsTrue (at_most h (exact d))) k high.above in
    through (exact a) l (exact b) f.0 below (through l h (exact b) g.0 (not-crossed (at_most l h) x) above)
