-- Truth at real points.
use Rattle.std.proofs.Common.{◌≡◌, ℕ, suc, ◌+◌, ◌*◌, ◌≤◌, List, [], Option, None, Bool, true, false, not, IsTrue, refl, sym, arith, ℤ, pos, ◌+ℤ◌, ◌*ℤ◌, ◌≤ℤ◌, mul-le-mul_right, lit<}
use Rattle.std.proofs.lemmas.Int.{ints}
use lib.Signed.{le_z}
use Rattle.dyadic.specs.Fraction.{Fraction, IsFraction, sum_of, at_most}
use Rattle.dyadic.proofs.Equal.{through, le_holds}
use Rattle.dyadic.proofs.Ring.{atom, natural, plus, times, below, read_below}
use Rattle.script_model.specs.Script.{Command, sorts_of}
use Rattle.script_model.specs.Declared.{declared_interval}
use Rattle.script_model.proofs.Bounds.{sum_is, ends_are_fractions}
use Rattle.script_forms.specs.Atoms.{unfolding_fault, script_atoms}
use Rattle.script_forms.specs.ProblemOf.{IsProblemOf}
use Rattle.dyadic.specs.Rounding.{Dyadic, exact}
use Rattle.poly_graph.specs.Problem.{Problem, IsProblem}
use Rattle.cover_model.specs.State.{Loosenings, margin_of}
use Rattle.cert_model.specs.Due.{left_open}
use Rattle.cert_model.specs.Accepted.{IsAccepted}
use Rattle.headline.specs.Laws.{HasNoPoint}
use Rattle.headline.proofs.Headline.{unsat_is}
use Rattle.real_points.specs.Laws.{HasNoRealPoint, IsBelow}
use Rattle.real_points.specs.Real.{part}
use Rattle.real_points.specs.RealPoint.{RealCoordinate, IsRealPoint, IsSamePoint, nth_point, SatisfiesAtReal}
use Rattle.real_points.proofs.Sizes.{ratio, step_halves}
use Rattle.real_points.proofs.Terms.{rate_of_all}
use Rattle.real_points.proofs.Moves.{script_moves, ratio_is}
use Rattle.real_points.proofs.Points.{bound_of_point, same_close, held_close, held_point}

pub part_is : (k : ℕ) → IsFraction (part k)
part_is k = ratio_is 1 k

-- so far on, the rate is small enough
far : (r k n N : ℕ) → N + 2 * r * suc k ≤ n → 2 * r * suc k ≤ suc n
far r k n N h = omega (arith, h)

pub truth_is_of_the_point : (script : List Command) → unfolding_fault script ≡ None → (m : Fraction) → IsFraction m → (x y : List RealCoordinate) →
    IsRealPoint (sorts_of script) x → IsRealPoint (sorts_of script) y → IsSamePoint x y → SatisfiesAtReal m x script → SatisfiesAtReal m y script
truth_is_of_the_point script e m f x y i j s h k =
    let b = bound_of_point x + bound_of_point y in let r = rate_of_all b 2 (script_atoms script) in let t = h (2 * k + 1) in (
      t.0 + 2 * r * suc k,
      λ n l. script_moves script e b 2 n (nth_point n x) (nth_point n y) (same_close b n (sorts_of script) x y i j s (omega arith))
          (sum_of m (part (2 * k + 1))) (sum_of m (part k)) (sum_is m (part (2 * k + 1)) f (part_is (2 * k + 1))) (step_halves m r k n (far r k n t.0 l))
          (t.1 n (omega (arith, l))),
    )

-- ---- margins

strict : (a b : ℤ) → le_z b a ≡ false → (a +ℤ pos 1) ≤ℤ b
strict a b h = grind (arith, ints, h)

room-at : (a c : ℤ) (b d : ℕ) → ((a *ℤ pos d) +ℤ pos 1) ≤ℤ (c *ℤ pos b) → (((a *ℤ pos (suc (b * d))) +ℤ (pos 1 *ℤ pos b)) *ℤ pos d) ≤ℤ (c *ℤ pos (b * suc (b * d)))
room-at a c b d h = below (times (plus (times (atom a) (natural (suc (b * d)))) (times (natural 1) (natural b))) (natural d)) (times (atom c) (natural (b * suc (b * d))))
    (omega (arith, mul-le-mul_right (suc (b * d)) (read_below (plus (times (atom a) (natural d)) (natural 1)) (times (atom c) (natural b)) h)))

is-false : (b : Bool) → IsTrue (not b) → b ≡ false
is-false false h = refl
is-false true h = sym h

-- below a margin there is room for 1 over a number and more
pub room : (m margin : Fraction) → IsBelow m margin → IsTrue (at_most (sum_of m (part (m.den * margin.den))) margin)
unfolding at_most sum_of
room m margin h = le_holds _ _ (room-at m.num margin.num m.den margin.den (strict (m.num *ℤ pos margin.den) (margin.num *ℤ pos m.den) (is-false _ h)))

pub rational_points_suffice : (bound : Option ℕ) (script : List Command) → unfolding_fault script ≡ None → (margin m : Fraction) → IsFraction margin → IsFraction m → IsBelow m margin →
    HasNoPoint bound script margin → HasNoRealPoint bound script m
rational_points_suffice bound script e margin m g f below-it none x i h =
    let k = m.den * margin.den in let b = bound_of_point x + 1 in let r = rate_of_all b 1 (script_atoms script) in let t = h (2 * k + 1) in
    let n = t.0 + 2 * r * suc k in
    let c = held_close b n (declared_interval bound script) (λ axis. ends_are_fractions bound script axis) 0 (sorts_of script) x i (omega arith) in
    let q = held_point (declared_interval bound script) 0 (nth_point n x) in
    let low = sum_of m (part (2 * k + 1)) in
    none q c.0 (script_moves script e b 1 n (nth_point n x) q c.1 low margin (sum_is m (part (2 * k + 1)) f (part_is (2 * k + 1)))
    (through (sum_of low (ratio r n)) (sum_of m (part k)) margin (sum_is m (part k) f (part_is k)) (step_halves m r k n (omega arith)) (room m margin below-it))
    (t.1 n (omega arith)))

pub exact_is : (d : Dyadic) → IsFraction (exact d)
exact_is d = lit< tt

pub unsat_is_of_reals : (bound : Option ℕ) (script : List Command) (p : Problem) → IsProblem p → IsProblemOf bound script p → (bytes : List ℕ) (s : Loosenings) →
    IsAccepted p bound bytes s (left_open []) → (m : Fraction) → IsFraction m → IsBelow m (exact (margin_of s)) → HasNoRealPoint bound script m
unsat_is_of_reals bound script p g t bytes s e m f h =
    rational_points_suffice bound script t.unfolds (exact (margin_of s)) m (exact_is (margin_of s)) f h (unsat_is bound script p g t bytes s e)
