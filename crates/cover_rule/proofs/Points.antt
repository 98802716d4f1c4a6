-- The middle of a space that lies within the root space is a point near the declared box.
use Rattle.std.proofs.Common.{◌≡◌, inl, inr, ℕ, suc, ◌-◌, ◌*◌, ◌^◌, ◌≤◌, List, [], ◌∷◌, map, All, ℤ, pos, negsuc, nat_abs, neg_ℤ, ◌*ℤ◌, ◌≤ℤ◌, true, false, IsTrue, refl, sym, ap, ◌∙◌, subst, arith, true≢false, lit<}
use Rattle.std.proofs.lemmas.Int.{ints}
use Rattle.std.proofs.lemmas.List.Elements.{All-head, All-tail}
use Rattle.dyadic.specs.Fraction.{Fraction, IsFraction, whole, at_most, power_below, sum_of, negated, difference_of}
use Rattle.dyadic.specs.Rounding.{Dyadic, exact, finite, down, up, mid, two_to_minus}
use Rattle.interval_model.specs.Space.{middle_domain, middle, domain_within, space_within, Domain, real_domain, bool_domain, Space, is_upright, is_upright_domain}
use Rattle.dyadic.proofs.Equal.{both_true, both_pass, total}
use Rattle.dyadic.proofs.Rounds.{at_most_from, at_most_read, at_most_trans}
use Rattle.dyadic.proofs.RoundsMove.{down_of_equal, up_of_equal, down_moves, up_moves}
use Rattle.interval_model.proofs.EndsSums.{sum_mono, sum_is_good, negated_mono, negated_is_good}
use Rattle.dyadic.proofs.Nearest.{pow_le}
use Rattle.dyadic.proofs.Ring
use Rattle.dyadic.proofs.Ring.{atom, natural, plus, minus, times, read_below}
use Rattle.cover_model.specs.Space.{IsGridSpace}
use Rattle.poly_graph.specs.Problem.{Declared, real_between, any_bool, Axis, Problem, IsProblem, IsBound, IsDeclared, size_of}
use Rattle.cover_model.specs.Root.{root_space, root_domain, root_of_axes, finite_or_nought}
use Rattle.cover_model.specs.State.{Loosenings, delta_of, sure}
use Rattle.cover_model.specs.Fits.{FitsAxis, FitsAxes, IsSingle, AreSingle, coordinate_of, coordinates, is_near, are_near, IsShownAt}
use Rattle.cover_model.proofs.Root.{bound_down, bound_up}
use Rattle.cover_model.proofs.Middle.{middle_lies_within}
use Rattle.ival.specs.declared.domain.Domain.{Domain as CodeDomain}
use Rattle.ival.specs.declared.domain.Domain.TheVariants.{Real as code_real, Bool as code_bool}
use Rattle.ival.specs.declared.domain.Truths.TheVariants.{False as only_false, True as only_true, Either as either}
use Rattle.ival.specs.declared.space.Space.{Space as CodeSpace}
use Rattle.ival.specs.SpaceViews.{domain_of, space_of}
use Rattle.ival.proofs.Facts.{number_on_grid}

-- ---- what is known of spaces of the code

fits-root : (a : Declared) (d : CodeDomain) → IsTrue (domain_within (domain_of d) (root_domain a)) → FitsAxis a (domain_of d)
fits-root (real_between lo hi) (code_real r) h = r.upright
fits-root any_bool (code_real r) h = absurd (true≢false (sym h))
fits-root any_bool (code_bool only_false) h = refl
fits-root any_bool (code_bool only_true) h = refl
fits-root any_bool (code_bool either) h = refl
fits-root (real_between lo hi) (code_bool only_false) h = absurd (true≢false (sym h))
fits-root (real_between lo hi) (code_bool only_true) h = absurd (true≢false (sym h))
fits-root (real_between lo hi) (code_bool either) h = absurd (true≢false (sym h))

fits-items : (axes : List Axis) (ds : List CodeDomain) → IsTrue (space_within (map domain_of ds) (root_of_axes axes)) → FitsAxes axes (map domain_of ds)
fits-items [] [] h = tt
fits-items (a ∷ axes) (d ∷ ds) h = let x = both_true (domain_within (domain_of d) (root_domain a.declared)) (space_within (map domain_of ds) (root_of_axes axes)) h in (fits-root a.declared d x.0, fits-items axes ds x.1)
fits-items [] (d ∷ ds) h = absurd (true≢false (sym h))
fits-items (a ∷ axes) [] h = absurd (true≢false (sym h))

-- a space of the code within the root space is one of the problem
pub fits_root : (axes : List Axis) (s : CodeSpace) → IsTrue (space_within (space_of s) (root_of_axes axes)) → FitsAxes axes (space_of s)
fits_root axes s h = fits-items axes s.axes.items h

upright-items : (ds : List CodeDomain) → IsTrue (is_upright (map domain_of ds))
upright-items [] = refl
upright-items (code_real r ∷ ds) = both_pass (is_upright_domain (domain_of (code_real r))) (is_upright (map domain_of ds)) r.upright (upright-items ds)
upright-items (code_bool only_false ∷ ds) = upright-items ds
upright-items (code_bool only_true ∷ ds) = upright-items ds
upright-items (code_bool either ∷ ds) = upright-items ds

pub code_upright : (s : CodeSpace) → IsTrue (is_upright (space_of s))
code_upright s = upright-items s.axes.items

grid-items : (ds : List CodeDomain) → IsGridSpace (map domain_of ds)
grid-items [] = tt
grid-items (code_real r ∷ ds) = ((number_on_grid r.low, number_on_grid r.high), grid-items ds)
grid-items (code_bool only_false ∷ ds) = (tt, grid-items ds)
grid-items (code_bool only_true ∷ ds) = (tt, grid-items ds)
grid-items (code_bool either ∷ ds) = (tt, grid-items ds)

pub code_on_grid : (s : CodeSpace) → IsGridSpace (space_of s)
code_on_grid s = grid-items s.axes.items

-- ---- one point

single-middle : (a : Declared) (d : Domain) → FitsAxis a d → IsSingle a (middle_domain d)
single-middle (real_between lo hi) (real_domain l h) k = refl
single-middle any_bool (bool_domain true true) k = tt
single-middle any_bool (bool_domain true false) k = tt
single-middle any_bool (bool_domain false true) k = tt
single-middle any_bool (bool_domain false false) k = absurd (true≢false (sym k))
single-middle (real_between lo hi) (bool_domain f t) k = elim k [ ]
single-middle any_bool (real_domain l h) k = elim k [ ]

pub middle_single : (axes : List Axis) (S : Space) → FitsAxes axes S → AreSingle axes (middle S)
middle_single [] [] k = tt
middle_single (a ∷ axes) (d ∷ S) k = (single-middle a.declared d k.0, middle_single axes S k.1)
middle_single [] (d ∷ S) k = elim k [ ]
middle_single (a ∷ axes) [] k = elim k [ ]

-- ---- near the declared box

bits-enough : (bits : ℕ) → bits ≤ 30 → IsTrue (at_most (power_below 30) (exact (two_to_minus bits)))
bits-enough bits h =
    let k = pow_le 90 (120 - bits) (omega (arith, h)) in
    at_most_from (power_below 30) (exact (two_to_minus bits)) (enough (2 ^ (120 - bits)) k)
  where
    enough : (x : ℕ) → 2 ^ 90 ≤ x → (pos 1 *ℤ pos (2 ^ 120)) ≤ℤ (pos x *ℤ pos (2 ^ 30))
    enough x k = omega (arith, ints, k)

size-high : (n : ℤ) (d : ℕ) → (pos (nat_abs n) *ℤ pos 1) ≤ℤ (pos (2 ^ 32) *ℤ pos d) → (n *ℤ pos 1) ≤ℤ (pos (2 ^ 32) *ℤ pos d)
size-high (pos n) d h = h
size-high (negsuc n) d h = Ring.below (times (minus (natural (suc n))) (natural 1)) (times (natural (2 ^ 32)) (natural d)) (omega arith)

size-low : (n : ℤ) (d : ℕ) → (pos (nat_abs n) *ℤ pos 1) ≤ℤ (pos (2 ^ 32) *ℤ pos d) → (neg_ℤ (pos (2 ^ 32)) *ℤ pos d) ≤ℤ (n *ℤ pos 1)
size-low (pos n) d h = Ring.below (times (minus (natural (2 ^ 32))) (natural d)) (times (natural n) (natural 1)) (omega arith)
size-low (negsuc n) d h = Ring.below (times (minus (natural (2 ^ 32))) (natural d)) (times (minus (natural (suc n))) (natural 1))
    (omega (arith, read_below (times (natural (suc n)) (natural 1)) (times (natural (2 ^ 32)) (natural d)) h))

small-high : (q : Fraction) → IsTrue (at_most (size_of q) (whole (pos (2 ^ 32)))) → IsTrue (at_most q (whole (pos (2 ^ 32))))
small-high q h = at_most_from q (whole (pos (2 ^ 32))) (size-high q.num q.den (at_most_read (size_of q) (whole (pos (2 ^ 32))) h))

small-low : (q : Fraction) → IsTrue (at_most (size_of q) (whole (pos (2 ^ 32)))) → IsTrue (at_most (whole (neg_ℤ (pos (2 ^ 32)))) q)
small-low q h = at_most_from (whole (neg_ℤ (pos (2 ^ 32)))) q (size-low q.num q.den (at_most_read (size_of q) (whole (pos (2 ^ 32))) h))

self : (q : Fraction) → IsTrue (at_most q q)
self q = elim (total q q) [ inl h ↦ h | inr h ↦ h ]

other-way : (p q : Fraction) → at_most p q ≡ false → IsTrue (at_most q p)
other-way p q e = elim (total q p) [ inl h ↦ h | inr h ↦ absurd (true≢false (sym h ∙ e)) ]

same-number : (a b : Dyadic) → finite a ≡ finite b → a ≡ b
same-number a b e = cc

sum-nought : (q : Fraction) → IsTrue (at_most (sum_of q (whole (pos 0))) q)
unfolding sum_of
sum-nought q = at_most_from (sum_of q (whole (pos 0))) q (Ring.below (times (plus (times (atom q.num) (natural 1)) (times (natural 0) (natural q.den))) (natural q.den)) (times (atom q.num) (natural (q.den * 1))) (omega arith))

nought-sum : (q : Fraction) → IsTrue (at_most q (sum_of q (whole (pos 0))))
unfolding sum_of
nought-sum q = at_most_from q (sum_of q (whole (pos 0))) (Ring.below (times (atom q.num) (natural (q.den * 1))) (times (plus (times (atom q.num) (natural 1)) (times (natural 0) (natural q.den))) (natural q.den)) (omega arith))

minus-nought : (d : Fraction) → IsTrue (at_most (whole (pos 0)) d) → IsTrue (at_most (negated d) (whole (pos 0)))
unfolding negated
minus-nought d h = negated_mono (whole (pos 0)) d h

module _ (d : Fraction) (good : IsFraction d) (enough : IsTrue (at_most (power_below 30) d)) where
  above-nought : IsTrue (at_most (whole (pos 0)) d)
  unfolding at_most
  above-nought = at_most_trans (whole (pos 0)) (power_below 30) d (lit< tt) refl enough

  less : (q : Fraction) → IsFraction q → IsTrue (at_most (difference_of q d) q)
  less q f = at_most_trans (difference_of q d) (sum_of q (whole (pos 0))) q (sum_is_good q (whole (pos 0)) f (lit< tt)) (sum_mono q (negated d) q (whole (pos 0)) (self q) (minus-nought d above-nought)) (sum-nought q)

  more : (q : Fraction) → IsFraction q → IsTrue (at_most q (sum_of q d))
  more q f = at_most_trans q (sum_of q (whole (pos 0))) (sum_of q d) (sum_is_good q (whole (pos 0)) f (lit< tt)) (nought-sum q) (sum_mono q (whole (pos 0)) q d (self q) above-nought)

  below-low : (q : Fraction) → IsBound q → (l : Dyadic) → down q ≡ finite l → IsTrue (at_most (difference_of q d) (exact l))
  below-low q b l e = elim b.1 [
    | inl k ↦ let f : k.0 ≡ l = same-number k.0 l (sym (down_of_equal q k.0 b.0 k.1 k.2 k.3) ∙ e) in
        at_most_trans (difference_of q d) q (exact l) b.0 (less q b.0) (subst (λ (x : Dyadic). IsTrue (at_most q (exact x))) f k.3)
    | inr h ↦ let m = down_moves q b.0 (small-low q h) (small-high q h) in let f : m.0 ≡ l = same-number m.0 l (sym m.1 ∙ e) in
        at_most_trans (difference_of q d) (difference_of q (power_below 30)) (exact l) (good-difference q b.0)
        (sum_mono q (negated d) q (negated (power_below 30)) (self q) (negated_mono (power_below 30) d enough))
        (subst (λ (x : Dyadic). IsTrue (at_most (difference_of q (power_below 30)) (exact x))) f (other-way (exact m.0) (difference_of q (power_below 30)) m.2))
  ]
    where
      good-difference : (q : Fraction) → IsFraction q → IsFraction (difference_of q (power_below 30))
      good-difference q f = sum_is_good q (negated (power_below 30)) f (negated_is_good (power_below 30) (lit< tt))

  above-high : (q : Fraction) → IsBound q → (h : Dyadic) → up q ≡ finite h → IsTrue (at_most (exact h) (sum_of q d))
  above-high q b h e = elim b.1 [
    | inl k ↦ let f : k.0 ≡ h = same-number k.0 h (sym (up_of_equal q k.0 b.0 k.1 k.2 k.3) ∙ e) in
        at_most_trans (exact h) q (sum_of q d) b.0 (subst (λ (x : Dyadic). IsTrue (at_most (exact x) q)) f k.2) (more q b.0)
    | inr s ↦ let m = up_moves q b.0 (small-low q s) (small-high q s) in let f : m.0 ≡ h = same-number m.0 h (sym m.1 ∙ e) in
        at_most_trans (exact h) (sum_of q (power_below 30)) (sum_of q d) (sum_is_good q (power_below 30) b.0 (lit< tt))
        (subst (λ (x : Dyadic). IsTrue (at_most (exact x) (sum_of q (power_below 30)))) f (other-way (sum_of q (power_below 30)) (exact m.0) m.2))
        (sum_mono q (power_below 30) q d (self q) enough)
  ]

  near-axis : (a : Declared) (e : Domain) → IsDeclared a → FitsAxis a e → IsTrue (domain_within e (root_domain a)) → IsTrue (domain_within (middle_domain e) e) → IsTrue (is_near d a (coordinate_of (middle_domain e)))
  near-axis (real_between lo hi) (real_domain l h) b fit w m =
      let fl = finite_or_nought (down lo) in let fh = finite_or_nought (up hi) in let c = mid l h in
      let x = both_true (at_most (exact fl) (exact l)) (at_most (exact h) (exact fh)) w in
      let y = both_true (at_most (exact l) (exact c)) (at_most (exact c) (exact h)) m in
      let low = bound_down lo b.0 in let high = bound_up hi b.1 in
      let e0 : low.number ≡ fl = sym (ap finite_or_nought low.is) in let e1 : high.number ≡ fh = sym (ap finite_or_nought high.is) in
      both_pass (at_most (difference_of lo d) (exact c)) (at_most (exact c) (sum_of hi d))
      (at_most_trans (difference_of lo d) (exact l) (exact c) (lit< tt)
      (at_most_trans (difference_of lo d) (exact fl) (exact l) (lit< tt) (subst (λ (z : Dyadic). IsTrue (at_most (difference_of lo d) (exact z))) e0 (below-low lo b.0 low.number low.is)) x.0) y.0)
      (at_most_trans (exact c) (exact h) (sum_of hi d) (lit< tt) y.1
      (at_most_trans (exact h) (exact fh) (sum_of hi d) (lit< tt) x.1 (subst (λ (z : Dyadic). IsTrue (at_most (exact z) (sum_of hi d))) e1 (above-high hi b.1 high.number high.is))))
  near-axis any_bool (bool_domain f t) b fit w m = refl
  near-axis any_bool (real_domain l h) b fit w m = elim fit [ ]
  near-axis (real_between lo hi) (bool_domain f t) b fit w m = elim fit [ ]

  near-axes : (axes : List Axis) (S : Space) → All (λ (a : Axis). IsDeclared a.declared) axes → FitsAxes axes S → IsTrue (space_within S (root_of_axes axes)) → IsTrue (space_within (middle S) S) → IsTrue (are_near d axes (coordinates (middle S)))
  near-axes [] [] b k w m = refl
  near-axes (a ∷ axes) (e ∷ S) b k w m =
      let x = both_true (domain_within e (root_domain a.declared)) (space_within S (root_of_axes axes)) w in
      let y = both_true (domain_within (middle_domain e) e) (space_within (middle S) S) m in
      both_pass (is_near d a.declared (coordinate_of (middle_domain e))) (are_near d axes (coordinates (middle S)))
      (near-axis a.declared e (All-head (λ (x : Axis). IsDeclared x.declared) a axes b) k.0 x.0 y.0)
      (near-axes axes S (All-tail (λ (x : Axis). IsDeclared x.declared) a axes b) k.1 x.1 y.1)
  near-axes [] (e ∷ S) b k w m = elim k [ ]
  near-axes (a ∷ axes) [] b k w m = elim k [ ]

-- where the form is sure at the middle of a space within the root space, the middle is a point that is shown
pub middle_shown : (p : Problem) → IsProblem p → (s : Loosenings) → s.delta_bits ≤ 30 → (space : CodeSpace) → IsTrue (space_within (space_of space) (root_space p)) → IsTrue (sure p s (middle (space_of space))) → IsShownAt p s (middle (space_of space))
middle_shown p g s few space w h =
    let S = space_of space in let fit = fits_root p.axes space w in
    record {
      single = middle_single p.axes S fit;
      surely = h;
      near = near-axes (exact (delta_of s)) (lit< tt) (bits-enough s.delta_bits few) p.axes S g.bounds fit w (middle_lies_within S (code_on_grid space) (code_upright space)).0;
    }
