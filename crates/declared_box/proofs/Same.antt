-- Lists of the same bounds: every list of fractions is one of its own, and joined lists are the same.
use Rattle.std.proofs.Common.{List, [], ◌∷◌, ◌++◌, refl, inl, inr, IsTrue}
use Rattle.std.specs.List.{AllByRecursion}
use Rattle.dyadic.specs.Fraction.{Fraction, IsFraction, at_most}
use Rattle.dyadic.proofs.Equal.{total}
use Rattle.script_model.specs.Declared.{Bound, concat}
use Rattle.declared_box.specs.Same.{SameNumber, SameBounds}

reflexive : (q : Fraction) → IsTrue (at_most q q)
reflexive q = elim (total q q) [ inl h ↦ h | inr h ↦ h ]

pub same_number_refl : (q : Fraction) → IsFraction q → SameNumber q q
same_number_refl q f = record { first = f; second = f; below = reflexive q; above = reflexive q }

pub same_number_sym : (p q : Fraction) → SameNumber p q → SameNumber q p
same_number_sym p q h = record { first = h.second; second = h.first; below = h.above; above = h.below }

pub same_bounds_refl : (bs : List Bound) → AllByRecursion (λ (b : Bound). IsFraction b.value) bs → SameBounds bs bs
same_bounds_refl [] h = tt
same_bounds_refl (b ∷ bs) h = (record { axis = refl; side = refl; value = same_number_refl b.value h.0 }, same_bounds_refl bs h.1)

pub same_bounds_append : (xs ys zs ws : List Bound) → SameBounds xs ys → SameBounds zs ws → SameBounds (xs ++ zs) (ys ++ ws)
same_bounds_append [] [] zs ws h k = k
same_bounds_append (x ∷ xs) (y ∷ ys) zs ws h k = (h.0, same_bounds_append xs ys zs ws h.1 k)
same_bounds_append [] (y ∷ ys) zs ws h k = elim h [ ]
same_bounds_append (x ∷ xs) [] zs ws h k = elim h [ ]

-- list by list
abbrev pub SameLists : List (List Bound) → List (List Bound) → Type 0
SameLists [] [] = Unit {0}
SameLists (xs ∷ rest) (ys ∷ others) = SameBounds xs ys × SameLists rest others
SameLists _ _ = ⊥

pub same_bounds_concat : (xss yss : List (List Bound)) → SameLists xss yss → SameBounds (concat xss) (concat yss)
same_bounds_concat [] [] h = tt
same_bounds_concat (xs ∷ rest) (ys ∷ others) h = same_bounds_append xs ys (concat rest) (concat others) h.0 (same_bounds_concat rest others h.1)
same_bounds_concat [] (ys ∷ others) h = elim h [ ]
same_bounds_concat (xs ∷ rest) [] h = elim h [ ]
