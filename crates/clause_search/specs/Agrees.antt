-- States that a trail speaks of.
use Rattle.std.specs.Prelude.{ℕ, Bool, true, false, not, ◌||◌, IsTrue}
use Rattle.poly_graph.specs.Problem.{Problem}
use Rattle.cover_model.specs.State.{State, Loosenings, margin_of, in_yes, in_no, misses, domain_allows}
use Rattle.clause_search.specs.declared.literal.Variable.TheVariants.{Atom, BoolIs}
use Rattle.clause_search.specs.Encoding.{literal}
use Rattle.clause_search.specs.declared.table.Table.{Table}
use Rattle.clause_search.specs.declared.trail.Trail.{Trail}
use Rattle.clause_search.specs.Table.{is_true}

-- the state excludes the atom: it is marked no, or its enclosure misses its range at margin
abbrev pub excludes_atom : Problem → Loosenings → State → ℕ → Bool
excludes_atom p s S j = in_no S j || misses p (margin_of s) S.space j

-- the state excludes the value of the Bool axis: the axis's domain does not hold it
abbrev pub excludes_bool : State → ℕ → Bool → Bool
excludes_bool S axis v = not (domain_allows S.space axis v)

-- the state excludes all that was assumed false, and each atom that was assumed true is marked yes
pub record AgreesWith (p : Problem) (s : Loosenings) (S : State) (assumed : Table) : Type 0 where
  pub false_atoms : (j : ℕ) → IsTrue (is_true assumed (literal (Atom j) false)) → IsTrue (excludes_atom p s S j)
  pub true_atoms : (j : ℕ) → IsTrue (is_true assumed (literal (Atom j) true)) → IsTrue (in_yes S j)
  pub false_bools : (axis : ℕ) (v : Bool) → IsTrue (is_true assumed (literal (BoolIs axis v) false)) → IsTrue (excludes_bool S axis v)

abbrev pub Agrees : Problem → Loosenings → State → Trail → Type 0
Agrees p s S t = AgreesWith p s S t.assumed
