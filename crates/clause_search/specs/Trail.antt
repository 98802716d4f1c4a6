-- A trail: literals that were assumed, or derived from them by clauses.
use Rattle.std.specs.Prelude.{◌≡◌, ◌⊎◌, ◌<◌, Bool, true, false, not, IsTrue}
use Rattle.clause_search.specs.declared.literal.Variable.{Variable}
use Rattle.clause_search.specs.declared.literal.Variable.TheVariants.{Atom, BoolIs, Helper}
use Rattle.clause_search.specs.declared.literal.Literal.{Literal}
use Rattle.clause_search.specs.Clauses.{Cnf}
use Rattle.clause_search.specs.declared.trail.Trail.{Trail}
use Rattle.clause_search.specs.Table.{opposite, is_true, is_undecided}
use Rattle.clause_search.specs.Watches.{IsWatching}
use Rattle.clause_search.specs.Entailed.{Entails, HasNoModel}

-- the literal is on the trail
abbrev pub stands_on : Trail → Literal → Bool
stands_on t l = is_true t.values l

-- it was assumed
abbrev pub was_assumed : Trail → Literal → Bool
was_assumed t l = is_true t.assumed l

-- neither the variable nor its opposite is on the trail
abbrev pub undecided_on : Trail → Variable → Bool
undecided_on t v = is_undecided t.values v

-- an atom or a Bool value
abbrev pub IsAssumable : Trail → Variable → Type 0
IsAssumable t (Atom j) = j < t.atoms
IsAssumable t (BoolIs axis v) = axis < t.axes
IsAssumable t (Helper k) = ⊥

-- it is one of these, and its opposite was not assumed
pub record CanAssume (t : Trail) (l : Literal) : Type 0 where
  pub variable : IsAssumable t l.variable
  pub consistent : IsTrue (not (was_assumed t (opposite l)))

-- a trail over these clauses: it is no more than what follows from the assumed literals
pub record IsTrailOf (c : Cnf) (t : Trail) : Type 0 where
  pub same_atoms : t.atoms ≡ c.atoms
  pub same_axes : t.axes ≡ c.axes
  pub same_helpers : t.helpers ≡ c.helpers
  pub derived : (l : Literal) → IsTrue (stands_on t l) → Entails c.clauses t.assumed l
  pub failing : t.failed ≡ true → HasNoModel c.clauses t.assumed
  pub stands : (l : Literal) → IsTrue (was_assumed t l) → IsTrue (stands_on t l) ⊎ (t.failed ≡ true)
  pub watching : IsWatching c t.values t.watches

-- both are over the same variables
pub record SameVariables (t u : Trail) : Type 0 where
  pub atoms : u.atoms ≡ t.atoms
  pub axes : u.axes ≡ t.axes
  pub helpers : u.helpers ≡ t.helpers

-- the literal is assumed too
pub record AssumesAlso (t u : Trail) (l : Literal) : Type 0 where
  pub assumes : IsTrue (was_assumed u l)
  pub still_assumed : (m : Literal) → IsTrue (was_assumed t m) → IsTrue (was_assumed u m)
  pub only_assumed : (m : Literal) → IsTrue (was_assumed u m) → IsTrue (was_assumed t m) ⊎ (m ≡ l)
  pub now_on : IsTrue (not (stands_on t (opposite l))) → IsTrue (stands_on u l)
  pub still_on : (m : Literal) → IsTrue (stands_on t m) → IsTrue (stands_on u m)
  pub only_on : (m : Literal) → IsTrue (stands_on u m) → IsTrue (stands_on t m) ⊎ (m ≡ l)
  pub same : SameVariables t u

-- nothing is assumed, and nothing derived
pub record IsEmpty (t : Trail) : Type 0 where
  pub none_assumed : (l : Literal) → was_assumed t l ≡ false
  pub none_on : (l : Literal) → stands_on t l ≡ false
