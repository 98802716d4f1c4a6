-- The root state has each point of the declared box, and a box whose bounds cross has none.
use Rattle.std.proofs.Common.{◌≡◌, inl, inr, ℕ, suc, zero, ◌^◌, List, [], ◌∷◌, length, true, false, IsTrue, refl, sym, subst, true≢false, arith, lit<, ℤ, pos, negsuc, nat_abs, neg_ℤ, ◌≤ℤ◌, ◌*ℤ◌}
use Rattle.std.specs.Prelude.{All, replicate}
use Rattle.dyadic.specs.Fraction.{Fraction, at_most, whole}
use Rattle.dyadic.specs.Point.{Coordinate, at_fraction, at_bool, IsPoint}
use Rattle.dyadic.specs.Rounding.{Dyadic, exact, IsOnGrid, Ext, below_all, finite, above_all, IsDown, IsUp, down, up}
use Rattle.dyadic.proofs.Equal.{both_true, both_pass, through, holds_le, le_holds}
use Rattle.dyadic.proofs.Ring
use Rattle.dyadic.proofs.Ring.{atom, natural, minus, times, read_below}
use Rattle.dyadic.proofs.Rounds.{down_is, up_is}
use Rattle.interval_model.specs.Space.{in_space, in_domain}
use Rattle.poly_graph.specs.Problem.{Problem, IsProblem, Declared, real_between, any_bool, Axis, sorts_of_axes, sorts_of_problem, in_declared, in_declared_axes, in_declared_box, is_crossed, crossed_in, crosses, size_of, IsBound, IsDeclared}
use Rattle.cover_model.specs.Root.{root_domain, root_of_axes}
use Rattle.poly_graph.specs.Marks.{Mark, unmarked, is_yes, is_no, mark_at}
use Rattle.cover_model.specs.State.{Loosenings, root_state, IsPointOf}
use Rattle.poly_graph.proofs.Bools.{not_both}

-- ---- a bound rounds to a number

abbrev greatest-bound : ℕ
greatest-bound = 2 ^ 152

abbrev low-bound : Dyadic
low-bound = record { units = neg_ℤ (pos (2 ^ 152)) }

abbrev high-bound : Dyadic
high-bound = record { units = pos (2 ^ 152) }

low-is-kept : IsOnGrid low-bound
low-is-kept = record { whole = 1; power = 152; few_bits = lit< tt; in_range = omega arith; value = refl }

high-is-kept : IsOnGrid high-bound
high-is-kept = record { whole = 1; power = 152; few_bits = lit< tt; in_range = omega arith; value = refl }

low-at : (n : ℤ) (d : ℕ) → (pos (nat_abs n) *ℤ pos 1) ≤ℤ (pos (2 ^ 32) *ℤ pos d) → (neg_ℤ (pos (2 ^ 152)) *ℤ pos d) ≤ℤ (n *ℤ pos (2 ^ 120))
low-at (pos n) d h = Ring.below (times (minus (natural (2 ^ 152))) (natural d)) (times (natural n) (natural (2 ^ 120))) (omega arith)
low-at (negsuc n) d h = Ring.below (times (minus (natural (2 ^ 152))) (natural d)) (times (minus (natural (suc n))) (natural (2 ^ 120)))
    (omega (arith, read_below (times (natural (suc n)) (natural 1)) (times (natural (2 ^ 32)) (natural d)) h))

low-below : (q : Fraction) → IsTrue (at_most (size_of q) (whole (pos (2 ^ 32)))) → IsTrue (at_most (exact low-bound) q)
unfolding at_most
low-below q h = le_holds _ _ (low-at q.num q.den (holds_le _ _ h))

high-at : (n : ℤ) (d : ℕ) → (pos (nat_abs n) *ℤ pos 1) ≤ℤ (pos (2 ^ 32) *ℤ pos d) → (n *ℤ pos (2 ^ 120)) ≤ℤ (pos (2 ^ 152) *ℤ pos d)
high-at (pos n) d h = Ring.below (times (natural n) (natural (2 ^ 120))) (times (natural (2 ^ 152)) (natural d)) (omega (arith, read_below (times (natural n) (natural 1)) (times (natural (2 ^ 32)) (natural d)) h))
high-at (negsuc n) d h = Ring.below (times (minus (natural (suc n))) (natural (2 ^ 120))) (times (natural (2 ^ 152)) (natural d)) (omega arith)

high-above : (q : Fraction) → IsTrue (at_most (size_of q) (whole (pos (2 ^ 32)))) → IsTrue (at_most q (exact high-bound))
unfolding at_most
high-above q h = le_holds _ _ (high-at q.num q.den (holds_le _ _ h))

-- some number that is kept is not above a bound, and some is not below
below-bound : (q : Fraction) → IsBound q → (d : Dyadic) × IsOnGrid d × IsTrue (at_most (exact d) q)
below-bound q b = elim b.1 [ inl k ↦ (k.0, k.1, k.2) | inr h ↦ (low-bound, low-is-kept, low-below q h) ]

above-bound : (q : Fraction) → IsBound q → (d : Dyadic) × IsOnGrid d × IsTrue (at_most q (exact d))
above-bound q b = elim b.1 [ inl k ↦ (k.0, k.1, k.3) | inr h ↦ (high-bound, high-is-kept, high-above q h) ]

pub record RoundsDown (q : Fraction) : Type 0 where
  pub number : Dyadic
  pub is : down q ≡ finite number
  pub on_grid : IsOnGrid number
  pub below : IsTrue (at_most (exact number) q)

pub record RoundsUp (q : Fraction) : Type 0 where
  pub number : Dyadic
  pub is : up q ≡ finite number
  pub on_grid : IsOnGrid number
  pub above : IsTrue (at_most q (exact number))

down-by : (q : Fraction) → IsBound q → (e : Ext) → down q ≡ e → IsDown q e → RoundsDown q
down-by q b (finite r) e d = record { number = r; is = e; on_grid = d.0; below = d.1 }
down-by q b below_all e d = let k = below-bound q b in absurd (d k.0 k.1 k.2)
down-by q b above_all e d = elim d [ ]

up-by : (q : Fraction) → IsBound q → (e : Ext) → up q ≡ e → IsUp q e → RoundsUp q
up-by q b (finite r) e d = record { number = r; is = e; on_grid = d.0; above = d.1 }
up-by q b above_all e d = let k = above-bound q b in absurd (d k.0 k.1 k.2)
up-by q b below_all e d = elim d [ ]

pub bound_down : (q : Fraction) → IsBound q → RoundsDown q
bound_down q b = down-by q b (down q) refl (down_is q b.0)

pub bound_up : (q : Fraction) → IsBound q → RoundsUp q
bound_up q b = up-by q b (up q) refl (up_is q b.0)

-- ---- the root space

domain-has : (d : Declared) (c : Coordinate) → IsDeclared d → IsTrue (in_declared d c) → IsTrue (in_domain (root_domain d) c)
domain-has (real_between l h) (at_fraction q) b i =
    let e = both_true (at_most l q) (at_most q h) i in let low = bound_down l b.0 in let high = bound_up h b.1 in
    rw (low.is, high.is) (both_pass (at_most (exact low.number) q) (at_most q (exact high.number))
    (through (exact low.number) l q b.0.0 low.below e.0) (through q h (exact high.number) b.1.0 e.1 high.above))
domain-has any_bool (at_bool true) b i = refl
domain-has any_bool (at_bool false) b i = refl
domain-has (real_between l h) (at_bool v) b i = absurd (true≢false (sym i))
domain-has any_bool (at_fraction q) b i = absurd (true≢false (sym i))

axes-have : (axes : List Axis) (point : List Coordinate) → All (λ (a : Axis). IsDeclared a.declared) axes → IsTrue (in_declared_axes axes point) → IsTrue (in_space (root_of_axes axes) point)
axes-have [] [] b i = refl
axes-have (a ∷ axes) (c ∷ point) b i = let e = both_true (in_declared a.declared c) (in_declared_axes axes point) i in
    both_pass (in_domain (root_domain a.declared) c) (in_space (root_of_axes axes) point) (domain-has a.declared c (b zero a (omega arith)) e.0)
    (axes-have axes point (λ k d l. b (suc k) d (omega arith)) e.1)
axes-have [] (c ∷ point) b i = absurd (true≢false (sym i))
axes-have (a ∷ axes) [] b i = absurd (true≢false (sym i))

no-mark : (n j : ℕ) → mark_at (replicate n unmarked) j ≡ unmarked
no-mark zero j = refl
no-mark (suc n) zero = refl
no-mark (suc n) (suc j) = no-mark n j

-- each point of the declared box is one of the root state
pub root_has : (p : Problem) → IsProblem p → (s : Loosenings) (point : List Coordinate) → IsPoint (sorts_of_problem p) point → IsTrue (in_declared_box p point) → IsPointOf p s (root_state p) point
root_has p g s point q i = record {
  sorted = q;
  inside = axes-have p.axes point g.bounds i;
  yes = λ j e. absurd (true≢false (sym (subst (λ (m : Mark). IsTrue (is_yes m)) (no-mark (length p.atoms) j) e)));
  no = λ j e. absurd (true≢false (sym (subst (λ (m : Mark). IsTrue (is_no m)) (no-mark (length p.atoms) j) e)));
}

-- ---- bounds that cross

none-between : (d : Declared) (axes : List Axis) (c : Coordinate) (point : List Coordinate) (name : List ℕ) → IsPoint (sorts_of_axes (record { name = name; declared = d } ∷ axes)) (c ∷ point) → IsTrue (is_crossed d) → IsTrue (in_declared d c) → ⊥
none-between (real_between l h) axes (at_fraction q) point name f x i = let e = both_true (at_most l q) (at_most q h) i in not_both (at_most l h) (through l q h f.0 e.0 e.1) x
none-between (real_between l h) axes (at_bool b) point name f x i = true≢false (sym i)
none-between any_bool axes c point name f x i = true≢false (sym x)

rest-is-point : (d : Declared) (axes : List Axis) (c : Coordinate) (point : List Coordinate) (name : List ℕ) → IsPoint (sorts_of_axes (record { name = name; declared = d } ∷ axes)) (c ∷ point) → IsPoint (sorts_of_axes axes) point
rest-is-point (real_between l h) axes (at_fraction q) point name f = f.1
rest-is-point any_bool axes (at_bool b) point name f = f
rest-is-point (real_between l h) axes (at_bool b) point name f = elim f [ ]
rest-is-point any_bool axes (at_fraction q) point name f = elim f [ ]

crossed-have-none : (axes : List Axis) (i : ℕ) (point : List Coordinate) → IsPoint (sorts_of_axes axes) point → IsTrue (crossed_in axes i) → IsTrue (in_declared_axes axes point) → ⊥
crossed-have-none [] i point f x h = true≢false (sym x)
crossed-have-none (a ∷ axes) i [] f x h = true≢false (sym h)
crossed-have-none (a ∷ axes) zero (c ∷ point) f x h = none-between a.declared axes c point a.name f x (both_true (in_declared a.declared c) (in_declared_axes axes point) h).0
crossed-have-none (a ∷ axes) (suc i) (c ∷ point) f x h = crossed-have-none axes i point (rest-is-point a.declared axes c point a.name f) x (both_true (in_declared a.declared c) (in_declared_axes axes point) h).1

-- a declared box whose bounds cross on some axis has no point
pub crossed_is_empty : (p : Problem) (i : ℕ) (point : List Coordinate) → IsPoint (sorts_of_problem p) point → IsTrue (crosses p i) → IsTrue (in_declared_box p point) → ⊥
crossed_is_empty p i point f x h = crossed-have-none p.axes i point f x h
