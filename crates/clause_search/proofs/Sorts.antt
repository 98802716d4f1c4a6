-- The test of a Bool axis finds the axes of that sort.
use Rattle.std.proofs.Common.{◌≡◌, refl, ℕ, zero, suc, List, [], ◌∷◌, true, ◌<◌, length, arith}
use Rattle.dyadic.specs.Point.{Sort, bool_sort}
use Rattle.poly_graph.specs.Problem.{Declared, real_between, any_bool, Axis, HasSort, sort_of, sorts_of_axes}
use Rattle.clause_search.specs.Encoding.{is_bool, is_bool_axis}

first-is : (d : Declared) (sorts : List Sort) → HasSort bool_sort (sort_of d ∷ sorts) zero → is_bool d ≡ true
first-is (real_between l h) sorts s = absurd s
first-is any_bool sorts s = refl

is-first : (d : Declared) (sorts : List Sort) → is_bool d ≡ true → HasSort bool_sort (sort_of d ∷ sorts) zero
is-first (real_between l h) sorts e = cc
is-first any_bool sorts e = tt

later-is : (d : Declared) (sorts : List Sort) (i : ℕ) → HasSort bool_sort (sort_of d ∷ sorts) (suc i) → HasSort bool_sort sorts i
later-is (real_between l h) sorts i s = s
later-is any_bool sorts i s = s

is-later : (d : Declared) (sorts : List Sort) (i : ℕ) → HasSort bool_sort sorts i → HasSort bool_sort (sort_of d ∷ sorts) (suc i)
is-later (real_between l h) sorts i s = s
is-later any_bool sorts i s = s

pub sort_tests : (axes : List Axis) (i : ℕ) → HasSort bool_sort (sorts_of_axes axes) i → is_bool_axis axes i ≡ true
sort_tests [] i s = absurd s
sort_tests (a ∷ axes) zero s = first-is a.declared (sorts_of_axes axes) s
sort_tests (a ∷ axes) (suc i) s = sort_tests axes i (later-is a.declared (sorts_of_axes axes) i s)

pub test_sorts : (axes : List Axis) (i : ℕ) → is_bool_axis axes i ≡ true → HasSort bool_sort (sorts_of_axes axes) i
test_sorts [] i e = cc
test_sorts (a ∷ axes) zero e = is-first a.declared (sorts_of_axes axes) e
test_sorts (a ∷ axes) (suc i) e = is-later a.declared (sorts_of_axes axes) i (test_sorts axes i e)

-- an axis that has a sort is there
pub sort_within : (axes : List Axis) (i : ℕ) → HasSort bool_sort (sorts_of_axes axes) i → i < length axes
sort_within [] i s = absurd s
sort_within (a ∷ axes) zero s = omega arith
sort_within (a ∷ axes) (suc i) s = let h : i < length axes = sort_within axes i (later-is a.declared (sorts_of_axes axes) i s) in omega arith
