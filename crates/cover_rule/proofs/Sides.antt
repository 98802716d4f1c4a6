-- Sides, and sums that are rounded down.
use Rattle.std.proofs.Common.{◌≡◌, ℕ, zero, suc, ◌+◌, ◌-◌, ◌*◌, ◌^◌, ◌<◌, [], ◌∷◌, length, get_or, drop, ℤ, pos, neg_ℤ, ◌+ℤ◌, ◌*ℤ◌, ◌≤ℤ◌, Bool, true, false, not, ◌&&◌, IsTrue, refl, ap, sym, ◌∙◌, subst, add-one, arith, true≢false, lit<}
use Rattle.std.proofs.lemmas.Int.{ints}
use Rattle.dyadic.specs.Fraction.{Fraction, IsFraction, at_most, sum_of, negated, difference_of}
use Rattle.dyadic.specs.Rounding.{Dyadic, exact, IsOnGrid, Ext, below_all, finite, above_all, at, end_of, end_at_most, ext_at_most, down}
use Rattle.interval_model.specs.Space.{Domain, Space}
use Rattle.dyadic.proofs.Rounds.{at_most_read, at_most_from, at_most_trans, down_side, down_isotone, down_exact}
use Rattle.interval_model.proofs.EndsSums.{sum_is_good}
use Rattle.poly_graph.specs.Problem.{Problem}
use Rattle.cover_model.specs.State.{State, Loosenings}
use Rattle.cover_model.specs.Rules.{is_stuck_atom}
use Rattle.cover_model.specs.Honest.{is_small, is_small_domain, none_below}

same-tests : (a b : Bool) → (IsTrue a → IsTrue b) → (IsTrue b → IsTrue a) → a ≡ b
same-tests true true f g = refl
same-tests false false f g = refl
same-tests true false f g = sym (f refl)
same-tests false true f g = g refl

over-units : (h l m : ℤ) → (((h *ℤ pos (2 ^ 120)) +ℤ (neg_ℤ l *ℤ pos (2 ^ 120))) *ℤ pos (2 ^ 120)) ≤ℤ (m *ℤ pos (2 ^ 120 * 2 ^ 120)) →
    (h *ℤ pos (2 ^ 120 * 2 ^ 120)) ≤ℤ (((l *ℤ pos (2 ^ 120)) +ℤ (m *ℤ pos (2 ^ 120))) *ℤ pos (2 ^ 120))
over-units h l m k = omega (arith, ints, k)

back-units : (h l m : ℤ) → (h *ℤ pos (2 ^ 120 * 2 ^ 120)) ≤ℤ (((l *ℤ pos (2 ^ 120)) +ℤ (m *ℤ pos (2 ^ 120))) *ℤ pos (2 ^ 120)) →
    (((h *ℤ pos (2 ^ 120)) +ℤ (neg_ℤ l *ℤ pos (2 ^ 120))) *ℤ pos (2 ^ 120)) ≤ℤ (m *ℤ pos (2 ^ 120 * 2 ^ 120))
back-units h l m k = omega (arith, ints, k)

-- a difference is at most a number where the first is at most the sum
over-sum : (h l m : Dyadic) → IsTrue (at_most (difference_of (exact h) (exact l)) (exact m)) → IsTrue (at_most (exact h) (sum_of (exact l) (exact m)))
unfolding sum_of negated
over-sum h l m e = at_most_from (exact h) (sum_of (exact l) (exact m)) (over-units h.units l.units m.units (at_most_read (difference_of (exact h) (exact l)) (exact m) e))

back-sum : (h l m : Dyadic) → IsTrue (at_most (exact h) (sum_of (exact l) (exact m))) → IsTrue (at_most (difference_of (exact h) (exact l)) (exact m))
unfolding sum_of negated
back-sum h l m e = at_most_from (difference_of (exact h) (exact l)) (exact m) (back-units h.units l.units m.units (at_most_read (exact h) (sum_of (exact l) (exact m)) e))

under-end : (h : Dyadic) (q : Fraction) (e : Ext) → IsTrue (end_at_most (end_of e) (at q)) → IsTrue (ext_at_most (finite h) e) → IsTrue (at_most (exact h) q)
under-end h q (finite r) f g = at_most_trans (exact h) (exact r) q (lit< tt) g f
under-end h q below_all f g = absurd (true≢false (sym g))
under-end h q above_all f g = absurd (true≢false (sym f))

-- a number of the grid is at most a sum where it is at most the sum rounded down
pub small_side : (h l m : Dyadic) → IsOnGrid h → ext_at_most (finite h) (down (sum_of (exact l) (exact m))) ≡ at_most (difference_of (exact h) (exact l)) (exact m)
small_side h l m g =
    let q = sum_of (exact l) (exact m) in let f : IsFraction q = sum_is_good (exact l) (exact m) (lit< tt) (lit< tt) in
    same-tests (ext_at_most (finite h) (down q)) (at_most (difference_of (exact h) (exact l)) (exact m))
    (λ e. back-sum h l m (under-end h q (down q) (down_side q f) e))
    (λ e. subst (λ (x : Ext). IsTrue (ext_at_most x (down q))) (down_exact h g) (down_isotone (exact h) q (lit< tt) f (over-sum h l m e)))

-- ---- axes one after the other

small-at : (w : ℕ) (space : Space) (i : ℕ) (d : Domain) → i < length space → is_small w (drop i space) ≡ (is_small_domain w (get_or space i d) && is_small w (drop (suc i) space))
small-at w [] i d h = absurd (omega (arith, h))
small-at w (e ∷ space) zero d h = refl
small-at w (e ∷ space) (suc i) d h = small-at w space i d (omega (arith, h))

pub small_step : (w : ℕ) (space : Space) (i : ℕ) (d : Domain) → i < length space → is_small w (drop i space) ≡ (is_small_domain w (get_or space i d) && is_small w (drop (i + 1) space))
small_step w space i d h = rw add-one (small-at w space i d h)

-- ---- atoms below another

pub below_step : (p : Problem) (s : Loosenings) (S : State) (i : ℕ) → 0 < i → is_stuck_atom p s S (i - 1) ≡ false → none_below p s S i ≡ none_below p s S (i - 1)
below_step p s S zero h e = absurd (omega (arith, h))
below_step p s S (suc k) h e = let f : suc k - 1 ≡ k = omega arith in
    ap (λ (b : Bool). not b && none_below p s S k) (ap (is_stuck_atom p s S) (sym f) ∙ e) ∙ ap (none_below p s S) (sym f)
