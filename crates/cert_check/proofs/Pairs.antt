-- The pairs of a combination, one after the other.
use Rattle.std.proofs.Common.{◌≡◌, ℕ, zero, suc, ◌+◌, ◌<◌, List, [], ◌∷◌, length, drop, get_or, Bool, true, false, ◌&&◌, ◌||◌, nat_lt, ltb→lt, IsTrue, All, refl, ap, ◌∙◌, arith}
use Rattle.std.proofs.lemmas.List.{drop_more}
use Rattle.std.specs.Bool.{passes}
use Rattle.dyadic.specs.declared.dy.Dy.{Dy}
use Rattle.dyadic.specs.Views.{dyadic_of}
use Rattle.dyadic.proofs.Equal.{both_true}
use Rattle.interval_model.specs.Interval.{misses_nought}
use Rattle.poly_graph.specs.Problem.{Problem}
use Rattle.cover_model.specs.Combination.{only}
use Rattle.cover_model.specs.Rules.{are_combinable, are_ordered, in_no_one_sided}
use Rattle.cover_model.specs.State.{State, in_yes}
use Rattle.cover_model.specs.Views.{multipliers_of}
use Rattle.cert_model.specs.Due.{are_atoms, is_atom}
use Rattle.cert_check.specs.Combinations.{comes_before, is_before}

abbrev Pairs : Type 0
Pairs = List (ℕ × Dy)

-- ---- what is asked of the pairs from one on, by that one

pub atoms_from : (p : Problem) (xs : Pairs) (i : ℕ) (d : ℕ × Dy) → i < length xs → are_atoms p (multipliers_of (drop i xs)) ≡ (is_atom p (get_or xs i d).0 && are_atoms p (multipliers_of (drop (i + 1) xs)))
atoms_from p xs i d h = ap (λ (ys : Pairs). are_atoms p (multipliers_of ys)) (drop_more xs i d h)

pub combinable_from : (p : Problem) (S : State) (xs : Pairs) (i : ℕ) (d : ℕ × Dy) → i < length xs → are_combinable p S (multipliers_of (drop i xs)) ≡
    ((is_atom p (get_or xs i d).0 && (in_yes S (get_or xs i d).0 || in_no_one_sided p S (get_or xs i d).0)) && are_combinable p S (multipliers_of (drop (i + 1) xs)))
combinable_from p S xs i d h = ap (λ (ys : Pairs). are_combinable p S (multipliers_of ys)) (drop_more xs i d h)

and-true : (a : Bool) → a ≡ ((a && true) && true)
and-true true = refl
and-true false = refl

and-apart : (a b c : Bool) → (a && b && c) ≡ ((a && b) && c)
and-apart true true true = refl
and-apart true true false = refl
and-apart true false true = refl
and-apart true false false = refl
and-apart false true true = refl
and-apart false true false = refl
and-apart false false true = refl
and-apart false false false = refl

ordered-first : (x : ℕ × Dy) (ys : Pairs) → are_ordered (multipliers_of (x ∷ ys)) ≡ (comes_before x ys && are_ordered (multipliers_of ys))
ordered-first x [] = and-true (misses_nought (only (dyadic_of x.1)))
ordered-first x (y ∷ ys) = and-apart (misses_nought (only (dyadic_of x.1))) (nat_lt x.0 y.0) (are_ordered (multipliers_of (y ∷ ys)))

pub ordered_from : (xs : Pairs) (i : ℕ) (d : ℕ × Dy) → i < length xs → are_ordered (multipliers_of (drop i xs)) ≡ (comes_before (get_or xs i d) (drop (i + 1) xs) && are_ordered (multipliers_of (drop (i + 1) xs)))
ordered_from xs i d h = ap (λ (ys : Pairs). are_ordered (multipliers_of ys)) (drop_more xs i d h) ∙ ordered-first (get_or xs i d) (drop (i + 1) xs)

-- ---- each atom of some is there

pub atom_there : (p : Problem) (xs : Pairs) → IsTrue (are_atoms p (multipliers_of xs)) → (i : ℕ) (d : ℕ × Dy) → i < length xs → IsTrue (is_atom p (get_or xs i d).0)
atom_there p [] h i d l = absurd (omega (arith, l))
atom_there p (x ∷ xs) h zero d l = (both_true (is_atom p x.0) (are_atoms p (multipliers_of xs)) h).0
atom_there p (x ∷ xs) h (suc i) d l = atom_there p xs (both_true (is_atom p x.0) (are_atoms p (multipliers_of xs)) h).1 i d (omega (arith, l))

pub atoms_all : (p : Problem) (xs : Pairs) → IsTrue (are_atoms p (multipliers_of xs)) → All (λ x. x.0 < length p.atoms) xs
atoms_all p xs h i d l = ltb→lt (get_or xs i d).0 (length p.atoms) (passes _ (atom_there p xs h i d l))

-- ---- an atom before the first of some

pub before_none : (j : ℕ) (xs : Pairs) → length xs ≡ 0 → is_before j xs ≡ true
before_none j [] h = refl
before_none j (x ∷ xs) h = absurd (omega (arith, h))

pub before_some : (j : ℕ) (xs : Pairs) (d : ℕ × Dy) → 0 < length xs → is_before j xs ≡ nat_lt j (get_or xs 0 d).0
before_some j [] d h = absurd (omega (arith, h))
before_some j (x ∷ xs) d h = refl
