-- Tests of an axis.
use Rattle.std.proofs.Common.{◌≡◌, ℕ, zero, suc, ◌<◌, ◌≤◌, List, [], ◌∷◌, length, map, get_or, Bool, true, false, not, IsTrue, refl, ap, sym, ◌∙◌, true≢false, inl, inr, arith}
use Rattle.dyadic.specs.Fraction.{Fraction, at_most}
use Rattle.dyadic.specs.Rounding.{Dyadic, exact}
use Rattle.interval_model.specs.Space.{Domain, real_domain, bool_domain, Space, strictly_inside, is_undecided, holds_number, allows, test_axis}
use Rattle.dyadic.proofs.Equal.{total, both_true, both_pass}
use Rattle.poly_graph.specs.declared.axis.Axis.{Axis}
use Rattle.poly_graph.specs.Problem.{is_crossed, crossed_in}
use Rattle.poly_graph.specs.ProblemViews.{axis_of, declared_of}

pub tested : (f : Domain → Bool) (i : ℕ) (space : Space) (d : Domain) → i < length space → f (get_or space i d) ≡ test_axis f i space
tested f i [] d h = absurd (omega (arith, h))
tested f zero (e ∷ space) d h = refl
tested f (suc i) (e ∷ space) d h = tested f i space d (omega (arith, h))

-- of an axis that is there, whose domain is d
pub tested_domain : (f : Domain → Bool) (i : ℕ) (space : Space) (d : Domain) (b : Bool) → i < length space → d ≡ get_or space i d → b ≡ f d → b ≡ test_axis f i space
tested_domain f i space d b h e g = g ∙ ap f e ∙ tested f i space d h

pub tested_past : (f : Domain → Bool) (i : ℕ) (space : Space) (b : Bool) → length space ≤ i → b ≡ false → b ≡ test_axis f i space
tested_past f i [] b h e = e
tested_past f zero (d ∷ space) b h e = absurd (omega (arith, h))
tested_past f (suc i) (d ∷ space) b h e = tested_past f i space b (omega (arith, h)) e

pub weaker : (f g : Domain → Bool) → ((d : Domain) → IsTrue (f d) → IsTrue (g d)) → (i : ℕ) (space : Space) → IsTrue (test_axis f i space) → IsTrue (test_axis g i space)
weaker f g w i [] h = absurd (true≢false (sym h))
weaker f g w zero (d ∷ space) h = w d h
weaker f g w (suc i) (d ∷ space) h = weaker f g w i space h

other-way : (p q : Fraction) → IsTrue (not (at_most p q)) → IsTrue (at_most q p)
other-way p q h = elim (total p q) [ inl e ↦ absurd (true≢false (sym (sym (ap not e) ∙ h))) | inr e ↦ e ]

pub inside_holds : (c : Dyadic) (d : Domain) → IsTrue (strictly_inside c d) → IsTrue (holds_number c d)
inside_holds c (real_domain l h) e =
    let k = both_true (not (at_most (exact c) (exact l))) (not (at_most (exact h) (exact c))) e in
    both_pass (at_most (exact l) (exact c)) (at_most (exact c) (exact h)) (other-way (exact c) (exact l) k.0) (other-way (exact h) (exact c) k.1)
inside_holds c (bool_domain f t) e = absurd (true≢false (sym e))

pub undecided_allows : (v : Bool) (d : Domain) → IsTrue (is_undecided d) → IsTrue (allows d v)
undecided_allows v (real_domain l h) e = absurd (true≢false (sym e))
undecided_allows true (bool_domain f t) e = (both_true f t e).1
undecided_allows false (bool_domain f t) e = (both_true f t e).0

-- ---- crossed bounds

pub crossed_at : (axes : List Axis) (i : ℕ) (a : Axis) → i < length axes → is_crossed (declared_of (get_or axes i a).declared) ≡ crossed_in (map axis_of axes) i
crossed_at [] i a h = absurd (omega (arith, h))
crossed_at (e ∷ axes) zero a h = refl
crossed_at (e ∷ axes) (suc i) a h = crossed_at axes i a (omega (arith, h))

pub crossed_past : (axes : List Axis) (i : ℕ) → length axes ≤ i → false ≡ crossed_in (map axis_of axes) i
crossed_past [] i h = refl
crossed_past (e ∷ axes) zero h = absurd (omega (arith, h))
crossed_past (e ∷ axes) (suc i) h = crossed_past axes i (omega (arith, h))
