-- A state that is carried into a later problem is a state of it.
use Rattle.std.proofs.Common.{◌≡◌, ℕ, suc, zero, List, [], ◌∷◌, ◌++◌, length, Bool, true, false, not, ◌&&◌, cond, Option, Some, None, IsTrue, refl, ap, ◌∙◌, ◌+◌, ◌-◌, arith, drop, replicate, length-append}
use Rattle.std.proofs.lemmas.List.{length-replicate}
use Rattle.dyadic.specs.Point.{Sort, real_sort, bool_sort}
use Rattle.dyadic.proofs.Equal.{both_true}
use Rattle.interval_model.specs.Space.{Domain, real_domain, bool_domain, Space, is_upright_domain, is_upright}
use Rattle.poly_graph.specs.Marks.{unmarked}
use Rattle.poly_graph.specs.Problem.{Declared, real_between, any_bool, Axis, Problem, IsProblem, sort_of, sorts_of_axes, is_crossed, crossed_in, first_crossed_from, first_crossed}
use Rattle.cover_model.specs.Root.{root_domain, root_of_axes}
use Rattle.cover_model.specs.State.{State, root_state}
use Rattle.cover_model.specs.Fits.{FitsAxis, FitsAxes, FitsProblem}
use Rattle.cover_model.specs.Carried.{GoesOnFrom, carried}
use Rattle.cover_model.proofs.Middle.{root_is_upright}

-- ---- the root state

none-here : (t : Bool) (k : ℕ) (o : Option ℕ) → cond t (Some k) o ≡ None → IsTrue (not t) × (o ≡ None)
none-here true k o h = cc
none-here false k o h = (refl, h)

pub none_crossed : (axes : List Axis) (k : ℕ) → first_crossed_from k axes ≡ None → (i : ℕ) → IsTrue (not (crossed_in axes i))
none_crossed [] k h i = refl
none_crossed (a ∷ axes) k h zero = (none-here (is_crossed a.declared) k _ h).0
none_crossed (a ∷ axes) k h (suc i) = none_crossed axes (suc k) (none-here (is_crossed a.declared) k _ h).1 i

root-axis : (d : Declared) (space : Space) → IsTrue (is_upright_domain (root_domain d) && is_upright space) → FitsAxis d (root_domain d) × IsTrue (is_upright space)
root-axis (real_between l h) space k = both_true (is_upright_domain (root_domain (real_between l h))) (is_upright space) k
root-axis any_bool space k = (refl, (both_true (is_upright_domain (root_domain any_bool)) (is_upright space) k).1)

root-axes : (axes : List Axis) → IsTrue (is_upright (root_of_axes axes)) → FitsAxes axes (root_of_axes axes)
root-axes [] h = tt
root-axes (a ∷ axes) h = let e = root-axis a.declared (root_of_axes axes) h in (e.0, root-axes axes e.1)

pub root_fits : (p : Problem) → IsProblem p → first_crossed p ≡ None → FitsProblem p (root_state p)
root_fits p g h = record { axes = root-axes p.axes (root_is_upright p g (none_crossed p.axes 0 h)).0; marks = length-replicate (length p.atoms) unmarked }

-- ---- a carried state

-- what fits an axis fits one of the same sort
same-sort : (a b : Declared) → sort_of a ≡ sort_of b → (d : Domain) → FitsAxis a d → FitsAxis b d
same-sort (real_between lo hi) (real_between lo' hi') e (real_domain l h) f = f
same-sort (real_between lo hi) any_bool e d f = let same : real_sort ≡ bool_sort = e in cc
same-sort any_bool (real_between lo hi) e d f = let same : bool_sort ≡ real_sort = e in cc
same-sort any_bool any_bool e (bool_domain l h) f = f
same-sort (real_between lo hi) (real_between lo' hi') e (bool_domain l h) f = absurd f
same-sort any_bool any_bool e (real_domain l h) f = absurd f

more-axes : (axes later : List Axis) (sorts : List Sort) → sorts_of_axes later ≡ sorts_of_axes axes ++ sorts → (space rest : Space) → FitsAxes axes space → FitsAxes later rest →
    FitsAxes later (space ++ drop (length space) rest)
more-axes [] later sorts e [] rest f g = g
more-axes [] later sorts e (d ∷ space) rest f g = absurd f
more-axes (a ∷ axes) later sorts e [] rest f g = absurd f
more-axes (a ∷ axes) [] sorts e (d ∷ space) rest f g = cc
more-axes (a ∷ axes) (b ∷ later) sorts e (d ∷ space) [] f g = absurd g
more-axes (a ∷ axes) (b ∷ later) sorts e (d ∷ space) (x ∷ rest) f g =
    let first : sort_of a.declared ≡ sort_of b.declared = cc in let others : sorts_of_axes later ≡ sorts_of_axes axes ++ sorts = cc in
    (same-sort a.declared b.declared first d f.0, more-axes axes later sorts others space rest f.1 g.1)

pub carried_fits : (p q : Problem) → IsProblem q → GoesOnFrom p q → first_crossed q ≡ None → (L : State) → FitsProblem p L → FitsProblem q (carried q L)
carried_fits p q g on h L f = record {
  axes = more-axes p.axes q.axes on.new_sorts on.sorts L.space (root_of_axes q.axes) f.axes (root_fits q g h).axes;
  marks =
      let longer : length q.atoms ≡ length p.atoms + length on.new_atoms = ap (λ xs. length xs) on.atoms ∙ length-append p.atoms on.new_atoms in
      length-append L.marks (replicate (length q.atoms - length L.marks) unmarked) ∙ ap (λ (n : ℕ). length L.marks + n) (length-replicate (length q.atoms - length L.marks) unmarked)
      ∙ omega (arith, f.marks, longer);
}
