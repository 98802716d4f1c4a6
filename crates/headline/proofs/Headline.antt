-- Accepted certificates and their scripts.
use Rattle.std.proofs.Common.{◌≡◌, inl, inr, arith, ℕ, suc, ◌*◌, ◌+◌, ◌≤◌, ◌^◌, ◌-◌, List, [], ◌∷◌, map, Option, Some, None, IsTrue, pos}
use Rattle.dyadic.specs.Fraction.{Fraction, IsFraction, zero_fraction, at_most, sum_of, negated, difference_of}
use Rattle.dyadic.specs.Point.{Sort, real_sort, bool_sort, Coordinate, at_fraction, at_bool, IsPoint}
use Rattle.dyadic.specs.Rounding.{Dyadic, exact}
use Rattle.dyadic.proofs.Equal.{le_holds, through, total}
use Rattle.dyadic.proofs.Ring.{natural, times, below}
use Rattle.interval_model.proofs.EndsSums.{sum_mono, sum_is_good, negated_is_good}
use Rattle.script_model.specs.Script.{Command, Constant, constants_of, sort_of_constant, Satisfies}
use Rattle.script_model.specs.Declared.{DeclaredInterval, declared_interval}
use Rattle.script_model.proofs.Exactly.{exact_loosened}
use Rattle.script_forms.specs.ProblemOf.{IsEnd, IsDeclaredBy, AreAxes, IsProblemOf}
use Rattle.script_forms.proofs.Box.{box_declared, problem_means}
use Rattle.interval_model.specs.Space.{Space}
use Rattle.poly_graph.specs.Problem.{Problem, IsProblem, Axis, Declared, real_between, any_bool, sort_of, sorts_of_axes, sorts_of_problem}
use Rattle.cover_model.specs.State.{Loosenings, margin_of, delta_of}
use Rattle.cert_model.specs.Due.{at_point, left_open, coordinates}
use Rattle.cert_model.specs.Accepted.{IsAccepted}
use Rattle.cert_model.specs.Derived.{IsNear, AreNear}
use Rattle.cert_model.proofs.Means.{empty_cover_means, point_means}
use Rattle.headline.specs.Near.{IfNotFarBelow, IfNotFarAbove, IsNearDeclared, IsNearBox, IsNearDeclaredBox}
use Rattle.headline.specs.Laws.{HasNoPoint, HasNoExactPoint}

pub unsat_is : (bound : Option ℕ) (script : List Command) (p : Problem) → IsProblem p → IsProblemOf bound script p → (bytes : List ℕ) (s : Loosenings) →
    IsAccepted p bound bytes s (left_open []) → HasNoPoint bound script (exact (margin_of s))
unsat_is bound script p g t bytes s e point b m =
    let i = (box_declared bound script p t point).0 b in
    empty_cover_means p g bound bytes s e point i.0 i.1 ((problem_means bound script p t (exact (margin_of s)) point i.0).1 m)

-- ---- the script as SMT-LIB has it

not-negative : (n d : ℕ) → IsTrue (at_most zero_fraction (record { num = pos n; den = d }))
unfolding at_most
not-negative n d = le_holds _ _ (below (times (natural 0) (natural d)) (times (natural n) (natural 1)) (omega arith))

pub unsat_is_exact : (bound : Option ℕ) (script : List Command) (p : Problem) → IsProblem p → IsProblemOf bound script p → (bytes : List ℕ) (s : Loosenings) →
    IsAccepted p bound bytes s (left_open []) → HasNoExactPoint bound script
unsat_is_exact bound script p g t bytes s e point b h =
    unsat_is bound script p g t bytes s e point b
    (exact_loosened (sorts_of_problem p) point ((box_declared bound script p t point).0 b).0 (exact (margin_of s)) (not-negative (2 ^ (120 - s.margin_bits)) (2 ^ 120)) script h)

-- ---- the declared box, widened

own : (q : Fraction) → IsTrue (at_most q q)
own q = elim (total q q) [ inl h ↦ h | inr h ↦ h ]

module _ (d : Fraction) (good : IsFraction d) where
  not-far-below : (o : Option Fraction) (l q : Fraction) → IsEnd o l → IsTrue (at_most (difference_of l d) q) → IfNotFarBelow d o q
  not-far-below None l q e h = e
  not-far-below (Some k) l q e h = through (difference_of k d) (difference_of l d) q (sum_is_good l (negated d) e.0 (negated_is_good d good)) (sum_mono k (negated d) l (negated d) e.1 (own (negated d))) h

  not-far-above : (o : Option Fraction) (u q : Fraction) → IsEnd o u → IsTrue (at_most q (sum_of u d)) → IfNotFarAbove d o q
  not-far-above None u q e h = e
  not-far-above (Some k) u q e h = through q (sum_of u d) (sum_of k d) (sum_is_good u d e.0 good) h (sum_mono u d k d e.2 (own d))

  near-axis : (s : Sort) (i : DeclaredInterval) (a : Declared) (sorts : List Sort) (c : Coordinate) (point : List Coordinate) → IsDeclaredBy s i a → IsPoint (sort_of a ∷ sorts) (c ∷ point) → IsNear d a c →
      IsNearDeclared d i s c × IsPoint sorts point
  near-axis real_sort i (real_between l h) sorts (at_fraction q) point e f n = ((f.0, not-far-below i.low l q e.0 n.0, not-far-above i.high h q e.1 n.1), f.1)
  near-axis bool_sort i any_bool sorts (at_bool b) point e f n = (tt, f)
  near-axis real_sort i (real_between l h) sorts (at_bool b) point e f n = elim n [ ]
  near-axis bool_sort i any_bool sorts (at_fraction q) point e f n = elim n [ ]
  near-axis real_sort i any_bool sorts c point e f n = elim e [ ]
  near-axis bool_sort i (real_between l h) sorts c point e f n = elim e [ ]

  near-box : (box : ℕ → DeclaredInterval) (axis : ℕ) (constants : List Constant) (axes : List Axis) (point : List Coordinate) → AreAxes box axis constants axes → IsPoint (sorts_of_axes axes) point → AreNear d axes point →
      IsNearBox d box axis (map sort_of_constant constants) point
  near-box box axis [] [] [] a f n = tt
  near-box box axis [] [] (c ∷ point) a f n = elim n [ ]
  near-box box axis [] (x ∷ axes) point a f n = elim a [ ]
  near-box box axis (k ∷ constants) [] point a f n = elim a [ ]
  near-box box axis (k ∷ constants) (x ∷ axes) [] a f n = elim n [ ]
  near-box box axis (k ∷ constants) (x ∷ axes) (c ∷ point) a f n =
      let one = near-axis k.sort (box axis) x.declared (sorts_of_axes axes) c point a.1 f n.0 in
      (one.0, near-box box (suc axis) constants axes point a.2 one.1 n.1)

exact-is-good : (d : Dyadic) → IsFraction (exact d)
exact-is-good d = Rattle.std.proofs.Common.lit< tt

-- of a problem of the script
pub near_is : (bound : Option ℕ) (script : List Command) (p : Problem) → IsProblemOf bound script p → (d : Dyadic) (point : List Coordinate) → IsPoint (sorts_of_problem p) point → AreNear (exact d) p.axes point →
    IsNearDeclaredBox (exact d) bound script point
near_is bound script p t d point i n = near-box (exact d) (exact-is-good d) (declared_interval bound script) 0 (constants_of script) p.axes point t.axes i n

pub delta_sat_is : (bound : Option ℕ) (script : List Command) (p : Problem) → IsProblem p → IsProblemOf bound script p → (bytes : List ℕ) (s : Loosenings) (space : Space) →
    IsAccepted p bound bytes s (at_point space) →
    Satisfies (exact (delta_of s)) (coordinates space) script × IsNearDeclaredBox (exact (delta_of s)) bound script (coordinates space)
delta_sat_is bound script p g t bytes s space e =
    let h = point_means p g bound bytes s space e in (
      (problem_means bound script p t (exact (delta_of s)) (coordinates space) h.0).0 h.1,
      near_is bound script p t (delta_of s) (coordinates space) h.0 h.2,
    )
