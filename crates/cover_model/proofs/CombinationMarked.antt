-- A combination of atoms that are marked at a state keeps the state's points.
use Rattle.std.proofs.Common.{◌≡◌, ◌⊎◌, inl, inr, ℕ, List, [], ◌∷◌, length, Bool, true, false, ◌&&◌, ◌||◌, cond, Some, IsTrue, refl, sym, true≢false, nat_lt, ltb→lt}
use Rattle.std.specs.Bool.{passes}
use Rattle.dyadic.specs.Point.{Coordinate}
use Rattle.interval_model.proofs.Holds.{Holds}
use Rattle.poly_graph.specs.Term.{term_value}
use Rattle.interval_model.specs.Space.{Space, in_space, middle}
use Rattle.poly_graph.specs.Problem.{Problem, IsProblem, sorts_of_problem, atom_at, term_of}
use Rattle.dyadic.proofs.Equal.{both_true}
use Rattle.cover_model.specs.Space.{range}
use Rattle.cover_model.specs.OffRange.{off_range}
use Rattle.cover_model.specs.State.{State, Loosenings, margin_of, in_yes, in_no, IsPointOf}
use Rattle.cover_model.specs.Combination.{Multipliers, marked_range}
use Rattle.cover_model.specs.Rules.{is_one_sided, in_no_one_sided, has_version_2, is_combination, are_combinable, can_combine, combining}
use Rattle.cover_model.specs.Laws.{AllLie}
use Rattle.cover_model.proofs.CombinationKeeps.{keeps}
use Rattle.cover_model.proofs.May.{range_holds}
use Rattle.cover_model.proofs.MiddlePoints.{middle_point, in_middle, middle_is_point}
use Rattle.cover_model.proofs.OffRanges.{off_range_holds}

either : (x y : Bool) → IsTrue (x || y) → IsTrue x ⊎ IsTrue y
either true y h = inl refl
either false y h = inr h

module _ (p : Problem) (s : Loosenings) (S : State) (point : List Coordinate) (i : IsPointOf p s S point) where
  -- the value of a combinable atom's term lies where its mark says
  value-lies : (j : ℕ) (b : Bool) → in_no S j ≡ b → IsTrue (in_yes S j || (b && is_one_sided (atom_at p j).1)) →
      Holds (cond b (off_range (margin_of s) (atom_at p j).1) (range (margin_of s) (atom_at p j).1)) (term_value point (term_of p j))
  value-lies j true e h = off_range_holds (margin_of s) (atom_at p j).1 (term_value point (term_of p j)) (i.no j e)
  value-lies j false e h = elim (either (in_yes S j) false h) [
    | inl k ↦ range_holds (margin_of s) (atom_at p j).1 (term_value point (term_of p j)) (i.yes j k)
    | inr k ↦ absurd (true≢false (sym k))
  ]

  pub all_lie : (ms : Multipliers) → IsTrue (are_combinable p S ms) → AllLie p (marked_range p (margin_of s) S.marks) point ms
  all_lie [] h = tt
  all_lie ((j, l) ∷ rest) h =
      let e = both_true (nat_lt j (length p.atoms) && (in_yes S j || in_no_one_sided p S j)) (are_combinable p S rest) h in
      let a = both_true (nat_lt j (length p.atoms)) (in_yes S j || in_no_one_sided p S j) e.0 in
      (ltb→lt j (length p.atoms) (passes _ a.0), value-lies j (in_no S j) refl a.1, all_lie rest e.1)

  pub combined_point : IsProblem p → (ms : Multipliers) → IsTrue (can_combine p s S ms) → (space : Space) × (combining p s S ms ≡ Some space) × IsTrue (in_space space point)
  combined_point g ms h =
      let sorts = sorts_of_problem p in let combinable = (both_true (has_version_2 s && is_combination s ms) (are_combinable p S ms) h).1 in
      keeps p g (marked_range p (margin_of s) S.marks) S.space (middle S.space) point (middle_point S.space point) i.sorted i.inside (middle_is_point sorts S.space point i.sorted i.inside) (in_middle S.space point i.inside) ms
      (all_lie ms combinable)
