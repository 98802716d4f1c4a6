-- What the rewritten script says of points.
use Rattle.std.specs.Prelude.{◌≡◌, ◌↔◌, ℕ, List, [], ◌∷◌, ◌++◌, map, Bool, true, false, ◌&&◌, not, cond, IsTrue, Option, None}
use Rattle.std.specs.Str.{bytes_eq}
use Rattle.std.specs.List.{AllByRecursion}
use Rattle.dyadic.specs.Fraction.{Fraction, IsFraction, zero_fraction, product_of, at_most}
use Rattle.dyadic.specs.Point.{Coordinate, at_fraction}
use Rattle.script_model.specs.Reading.{divide, Meanings, Names, value, function, malformed, operators, found, leaf_meaning, application}
use Rattle.script_model.specs.Meaning.{Value, real, fraction_of, pair_of, loosened, coordinate_value}
use Rattle.script_model.specs.Script.{Command, Constant, constants_of, claims, Holds, Satisfies}
use Rattle.script_model.specs.Declared.{InDeclaredBox, bound_fault}
use Rattle.script_roots.specs.Tree.{Tree, atomic, applied, root, quotient, formless, Trees, no_trees, more_trees, sqrt_name}
use Rattle.script_roots.specs.Fresh.{left_out}
use Rattle.script_roots.specs.Rewritten.{rewritten, script_table}

-- ---- the script as it is written

-- `sqrt` gives of a value what f gives
abbrev pub root_value : (Fraction → Fraction) → List Value → Value
root_value f (v ∷ []) = real (f (fraction_of v))
-- no accepted script asks
root_value f vs = real zero_fraction

abbrev pub with_root : (Fraction → Fraction) → Names Value
with_root f = (sqrt_name, function (root_value f)) ∷ []

-- The point satisfies the script, each atom loosened by m, where f gives the square roots.
abbrev pub SatisfiesWith : (Fraction → Fraction) → Fraction → List Coordinate → List Command → Type 0
SatisfiesWith f m point script = AllByRecursion Holds (map pair_of (claims (loosened m) (with_root f) (map coordinate_value point) script))

-- ---- values of trees

abbrev mutual
  -- a tree's meaning of a kind, where constants stand for these and g gives the meaning of a root from that of its argument
  pub tree_meaning : {V : Type 0} → Meanings V → (V → V) → Names V → Tree → V
  tree_meaning M g names (atomic at l) = leaf_meaning M names at l
  tree_meaning M g names (applied at name ts) = application M names at name (found name operators) (trees_meaning M g names ts)
  tree_meaning M g names (root at t) = g (tree_meaning M g names t)
  tree_meaning M g names (quotient at t d) = M.apply at divide (tree_meaning M g names t ∷ tree_meaning M g names d ∷ [])
  tree_meaning M g names (formless at) = M.nothing at malformed

  pub trees_meaning : {V : Type 0} → Meanings V → (V → V) → Names V → Trees → List V
  trees_meaning M g names no_trees = []
  trees_meaning M g names (more_trees t ts) = tree_meaning M g names t ∷ trees_meaning M g names ts

-- the constants with their values at a point, the nearest first
abbrev pub constants_at : Names Value → List Constant → List Coordinate → Names Value
constants_at names (c ∷ constants) (x ∷ point) = constants_at ((c.name, value (coordinate_value x)) ∷ names) constants point
constants_at names constants point = names

-- the value of a tree of the script at a point
abbrev pub value_at : (Fraction → Fraction) → List Command → List Coordinate → Tree → Fraction
value_at f script point t = fraction_of (tree_meaning (loosened zero_fraction) (λ v. real (f (fraction_of v))) (constants_at [] (constants_of script) point) t)

-- f gives the square root of the argument's value: a fraction that is not negative, whose square is that value
pub record IsRootAt (f : Fraction → Fraction) (v : Fraction) : Type 0 where
  pub fraction : IsFraction (f v)
  pub not_negative : IsTrue (at_most zero_fraction (f v))
  pub not_above : IsTrue (at_most (product_of (f v) (f v)) v)
  pub not_below : IsTrue (at_most v (product_of (f v) (f v)))

abbrev pub IsRootOf : (Fraction → Fraction) → List Command → List Coordinate → List ℕ × Tree → Type 0
IsRootOf f script point (name, root at t) = IsRootAt f (value_at f script point t)
IsRootOf f script point (name, t) = Unit {0}

-- at the point f gives the square root of each argument's value
abbrev pub HasRoots : (Fraction → Fraction) → Option ℕ → List Command → List Coordinate → Type 0
HasRoots f bound script point = AllByRecursion (IsRootOf f script point) (script_table bound script)

abbrev pub fresh_value : (Fraction → Fraction) → List Command → List Coordinate → List ℕ × Tree → Coordinate
fresh_value f script point entry = at_fraction (value_at f script point entry.1)

-- the point with the values of its roots and quotients behind it
abbrev pub extended : (Fraction → Fraction) → Option ℕ → List Command → List Coordinate → List Coordinate
extended f bound script point = point ++ map (fresh_value f script point) (script_table bound script)

-- ---- laws

-- no name is declared twice, neither by the script nor for a root or a quotient
abbrev pub is_among : List ℕ → List Constant → Bool
is_among x [] = false
is_among x (c ∷ constants) = cond (bytes_eq x c.name) true (is_among x constants)

abbrev pub are_distinct : List Constant → Bool
are_distinct [] = true
are_distinct (c ∷ constants) = not (is_among c.name constants) && are_distinct constants

-- The script holds no root of an `ite` and no goal with a root or a quotient; the rewritten script declares no name twice, and its bounds have no fault.
pub record IsRewritable (bound : Option ℕ) (script : List Command) : Type 0 where
  pub nothing_left_out : left_out script ≡ None
  pub distinct : IsTrue (are_distinct (constants_of (rewritten bound script)))
  pub bounded : bound_fault bound (rewritten bound script) ≡ None

-- At a point of the declared box at which each root's argument has the square of a fraction for its value: with the values of roots and quotients
-- behind it, it is a point of the declared box of the rewritten script,
abbrev pub BoxIsExtended : Type 0
BoxIsExtended = (bound : Option ℕ) (script : List Command) → IsRewritable bound script → (f : Fraction → Fraction) (point : List Coordinate) →
    InDeclaredBox bound script point → HasRoots f bound script point → InDeclaredBox bound (rewritten bound script) (extended f bound script point)

-- and it satisfies the rewritten script exactly where the point satisfies the script as it is written.
abbrev pub RewrittenMeansScript : Type 0
RewrittenMeansScript = (bound : Option ℕ) (script : List Command) → IsRewritable bound script → (f : Fraction → Fraction) (point : List Coordinate) →
    InDeclaredBox bound script point → HasRoots f bound script point →
    Satisfies zero_fraction (extended f bound script point) (rewritten bound script) ↔ SatisfiesWith f zero_fraction point script

-- So where no point of its declared box satisfies the rewritten script, each atom loosened by a margin that is not negative, no point of the script's
-- satisfies the script as it is written with fractions for its roots. It says nothing of points at which a root is no fraction.
abbrev pub UnsatIsOfScript : Type 0
UnsatIsOfScript = (bound : Option ℕ) (script : List Command) → IsRewritable bound script → (margin : Fraction) → IsTrue (at_most zero_fraction margin) →
    ((y : List Coordinate) → InDeclaredBox bound (rewritten bound script) y → Satisfies margin y (rewritten bound script) → ⊥) →
    (f : Fraction → Fraction) (point : List Coordinate) → InDeclaredBox bound script point → HasRoots f bound script point → SatisfiesWith f zero_fraction point script → ⊥
