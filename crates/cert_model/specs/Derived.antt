-- What an accepted certificate stands for: lemmas and a tree that are derived by the rules, or a point.
use Rattle.std.specs.Prelude.{◌≡◌, ℕ, ◌⊎◌, List, [], ◌∷◌, ◌++◌, map, IsTrue}
use Rattle.dyadic.specs.Fraction.{Fraction, at_most, sum_of, difference_of}
use Rattle.dyadic.specs.Point.{Coordinate, at_fraction, at_bool}
use Rattle.poly_graph.specs.Problem.{Declared, real_between, any_bool, Axis, Problem, crosses}
pub use Rattle.cover_model.specs.Fits.{IsSingle, AreSingle}
use Rattle.cover_model.specs.State.{State, Loosenings, root_state}
use Rattle.cover_model.specs.Derivation.{Tree, Lawful}
use Rattle.cert_read.specs.CertLine.{end_word, line, parsed}
use Rattle.cert_model.specs.Due.{Standing}

-- each state has a lawful tree over the lemmas before it, in which no state stays
abbrev pub AreDerived : Problem → Loosenings → List State → List State → Type 0
AreDerived p s before [] = Unit {0}
AreDerived p s before (L ∷ rest) = ((t : Tree) × Lawful p s before L t []) × AreDerived p s (before ++ (L ∷ [])) rest

abbrev pub states_of : List Standing → List State
states_of xs = map (λ (x : Standing). x.state) xs

-- what stays is left by a lawful tree at the root, or there is nothing, since the bounds of an axis cross
abbrev pub IsTree : Problem → Loosenings → List State → List Standing → Type 0
IsTree p s lemmas left =
    ((i : ℕ) × IsTrue (crosses p i) × (left ≡ [])) ⊎
    ((t : Tree) × Lawful p s lemmas (root_state p) t (states_of left))

pub record IsCover (p : Problem) (s : Loosenings) (left : List Standing) : Type 0 where
  pub lemmas : List State
  pub derived : AreDerived p s [] lemmas
  pub tree : IsTree p s lemmas left

-- a Real coordinate lies within d of its declared interval
abbrev pub IsNear : Fraction → Declared → Coordinate → Type 0
IsNear d (real_between l h) (at_fraction q) = IsTrue (at_most (difference_of l d) q) × IsTrue (at_most q (sum_of h d))
IsNear d any_bool (at_bool b) = Unit {0}
IsNear d _ _ = ⊥

abbrev pub AreNear : Fraction → List Axis → List Coordinate → Type 0
AreNear d [] [] = Unit {0}
AreNear d (a ∷ axes) (c ∷ point) = IsNear d a.declared c × AreNear d axes point
AreNear d _ _ = ⊥

-- the last of these lines is `end`, and no other is
abbrev pub EndsOnce : List (List ℕ) → Type 0
EndsOnce [] = ⊥
EndsOnce (l ∷ []) = parsed l ≡ line end_word
EndsOnce (l ∷ m ∷ ls) = (parsed l ≡ line end_word → ⊥) × EndsOnce (m ∷ ls)
