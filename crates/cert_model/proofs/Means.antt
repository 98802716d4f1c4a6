-- What an accepted certificate says of points.
use Rattle.std.proofs.Common.{◌≡◌, ◌⊎◌, inl, inr, ℕ, suc, zero, List, [], ◌∷◌, ◌++◌, Bool, true, false, ◌&&◌, cond, IsTrue, Option, Some, None, refl, ap, sym, ◌∙◌, subst, true≢false, lit<}
use Rattle.std.specs.Option.{unwrap_or}
use Rattle.dyadic.specs.Fraction.{Fraction, at_most, sum_of, difference_of}
use Rattle.dyadic.specs.Point.{Coordinate, at_fraction, at_bool, IsPoint}
use Rattle.dyadic.specs.Rounding.{exact}
use Rattle.dyadic.proofs.Equal.{both_true}
use Rattle.interval_model.specs.Space.{Space}
use Rattle.poly_graph.specs.Problem.{Declared, real_between, any_bool, Axis, Problem, IsProblem, sorts_of_problem, in_declared_box}
use Rattle.cover_model.specs.State.{State, Loosenings, delta_of, sure, MeetsAt, MeetsForm, IsLemma}
use Rattle.cover_model.specs.Derivation.{Among, AreLemmas}
use Rattle.cover_model.proofs.May.{sure_means}
use Rattle.cover_model.proofs.Shown.{single_inside, single_sorted}
use Rattle.cover_model.proofs.Sound.{tree_keeps, none_left}
use Rattle.cover_model.proofs.Root.{root_has, crossed_is_empty}
use Rattle.cert_model.specs.Due.{Standing, at_point, left_open, coordinates, is_near, are_near, is_shown}
use Rattle.cert_model.specs.Accepted.{IsAccepted}
use Rattle.cert_model.specs.Derived.{AreDerived, states_of, IsTree, IsCover, IsNear, AreNear, AreSingle}
use Rattle.cert_model.proofs.Derives.{derived_grow, accepted_is}

-- ---- covers

pub cover_derived : (p : Problem) (bound : Option ℕ) (bytes : List ℕ) (s : Loosenings) (left : List Standing) → IsAccepted p bound bytes s (left_open left) → IsCover p s left
cover_derived p bound bytes s left e =
    let a = accepted_is p bound (λ s lemmas. AreDerived p s [] lemmas) (derived_grow p) bytes s (left_open left) e in
    record { lemmas = a.0; derived = a.1.0; tree = a.1.1 }

module _ (p : Problem) (g : IsProblem p) (s : Loosenings) where
  none-yet : AreLemmas p s []
  none-yet i L e = cc

  pub one_more : (lemmas : List State) (L : State) → AreLemmas p s lemmas → IsLemma p s L → AreLemmas p s (lemmas ++ (L ∷ []))
  one_more [] L h k zero K e = subst (λ (M : State). IsLemma p s M) (ap (λ (o : Option State). unwrap_or o L) e) k
  one_more [] L h k (suc i) K e = cc
  one_more (M ∷ lemmas) L h k zero K e = h zero K e
  one_more (M ∷ lemmas) L h k (suc i) K e = one_more lemmas L (λ j N d. h (suc j) N d) k i K e

  pub lemmas_after : (before lemmas : List State) → AreLemmas p s before → AreDerived p s before lemmas → AreLemmas p s (before ++ lemmas)
  lemmas_after before [] h d = subst (λ (ls : List State). AreLemmas p s ls) (sym (Rattle.std.proofs.Common.append-nil before)) h
  lemmas_after before (L ∷ lemmas) h d = subst (λ (ls : List State). AreLemmas p s ls) (Rattle.std.proofs.Common.append_assoc before (L ∷ []) lemmas)
      (lemmas_after (before ++ (L ∷ [])) lemmas (one_more before L h (none_left p s g before h d.0.1)) d.1)

  pub derived_lemmas : (lemmas : List State) → AreDerived p s [] lemmas → AreLemmas p s lemmas
  derived_lemmas lemmas d = lemmas_after [] lemmas none-yet d

  pub tree_catches : (lemmas : List State) → AreLemmas p s lemmas → (left : List Standing) → IsTree p s lemmas left →
      (point : List Coordinate) → IsPoint (sorts_of_problem p) point → IsTrue (in_declared_box p point) → MeetsForm p s point → Among p s point (states_of left)
  tree_catches lemmas h left (inl x) point q i m = absurd (crossed_is_empty p x.0 point q x.1 i)
  tree_catches lemmas h left (inr t) point q i m = tree_keeps p s g lemmas h t.1 point (root_has p g s point q i) m

pub cover_catches : (p : Problem) → IsProblem p → (bound : Option ℕ) (bytes : List ℕ) (s : Loosenings) (left : List Standing) → IsAccepted p bound bytes s (left_open left) →
    (point : List Coordinate) → IsPoint (sorts_of_problem p) point → IsTrue (in_declared_box p point) → MeetsForm p s point → Among p s point (states_of left)
cover_catches p g bound bytes s left e point q i m = let c = cover_derived p bound bytes s left e in
    tree_catches p g s c.lemmas (derived_lemmas p g s c.lemmas c.derived) left c.tree point q i m

pub empty_cover_means : (p : Problem) → IsProblem p → (bound : Option ℕ) (bytes : List ℕ) (s : Loosenings) → IsAccepted p bound bytes s (left_open []) →
    (point : List Coordinate) → IsPoint (sorts_of_problem p) point → IsTrue (in_declared_box p point) → MeetsForm p s point → ⊥
empty_cover_means p g bound bytes s e point q i m = elim (cover_catches p g bound bytes s [] e point q i m) [ ]

-- ---- points

near-one : (d : Fraction) (a : Declared) (c : Coordinate) → IsTrue (is_near d a c) → IsNear d a c
near-one d (real_between l h) (at_fraction q) e = both_true (at_most (difference_of l d) q) (at_most q (sum_of h d)) e
near-one d any_bool (at_bool b) e = tt
near-one d (real_between l h) (at_bool b) e = absurd (true≢false (sym e))
near-one d any_bool (at_fraction q) e = absurd (true≢false (sym e))

near_all : (d : Fraction) (axes : List Axis) (point : List Coordinate) → IsTrue (are_near d axes point) → AreNear d axes point
near_all d [] [] e = tt
near_all d (a ∷ axes) (c ∷ point) e = let h = both_true (is_near d a.declared c) (are_near d axes point) e in (near-one d a.declared c h.0, near_all d axes point h.1)
near_all d [] (c ∷ point) e = absurd (true≢false (sym e))
near_all d (a ∷ axes) [] e = absurd (true≢false (sym e))

pub shown_means : (p : Problem) → IsProblem p → (s : Loosenings) (space : Space) → AreSingle p.axes space → IsTrue (is_shown p s (at_point space)) →
    IsPoint (sorts_of_problem p) (coordinates space) × MeetsAt p (delta_of s) (coordinates space) × AreNear (exact (delta_of s)) p.axes (coordinates space)
shown_means p g s space single shown =
    let h = both_true (sure p s space) (are_near (exact (delta_of s)) p.axes (coordinates space)) shown in
    let q : IsPoint (sorts_of_problem p) (coordinates space) = single_sorted p.axes space single in
    (q, sure_means p g (delta_of s) space (coordinates space) q (single_inside p.axes space single) h.0, near_all (exact (delta_of s)) p.axes (coordinates space) h.1)

pub point_means : (p : Problem) → IsProblem p → (bound : Option ℕ) (bytes : List ℕ) (s : Loosenings) (space : Space) → IsAccepted p bound bytes s (at_point space) →
    IsPoint (sorts_of_problem p) (coordinates space) × MeetsAt p (delta_of s) (coordinates space) × AreNear (exact (delta_of s)) p.axes (coordinates space)
point_means p g bound bytes s space e =
    let a = accepted_is p bound (λ s lemmas. AreDerived p s [] lemmas) (derived_grow p) bytes s (at_point space) e in
    shown_means p g s space a.1.1 a.1.2
