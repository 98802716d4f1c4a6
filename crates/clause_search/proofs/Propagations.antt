-- What the answers of propagation say follows from what is on the trail.
use Rattle.std.proofs.Common.{◌≡◌, inl, inr, sym, subst, ℕ, ◌≤◌, length, true, false, IsTrue, arith}
use Rattle.std.proofs.lemmas.List.{get_or_past}
use Rattle.clause_search.specs.declared.literal.Variable.{Variable}
use Rattle.clause_search.specs.declared.literal.Variable.TheVariants.{Atom, Helper}
use Rattle.clause_search.specs.declared.literal.Literal.{Literal}
use Rattle.clause_search.specs.Clauses.{Cnf}
use Rattle.clause_search.specs.Encoding.{literal}
use Rattle.clause_search.specs.declared.table.Value.TheVariants.{Open}
use Rattle.clause_search.specs.declared.table.Table.{Table}
use Rattle.clause_search.specs.declared.trail.Trail.{Trail}
use Rattle.clause_search.specs.Table.{value_at, value_for, is_true, SetsOne, HasCounts}
use Rattle.clause_search.specs.Entailed.{Entails, HasNoModel}
use Rattle.clause_search.specs.Found.{UnitAmong, ConflictAmong}
use Rattle.clause_search.specs.Trail.{IsTrailOf, stands_on, undecided_on}
use Rattle.clause_search.specs.Answers.{IsUnit, IsForced, Grows, MayBeMarked, MayNotHold}
use Rattle.clause_search.proofs.Meaning.{forced_means, may_not}
use Rattle.clause_search.proofs.Sets.{same_literal, open_or_stands, open_stands_not, sets_only}
use Rattle.clause_search.proofs.Sound.{unit_follows, conflict_follows}

-- helpers are not assumed
no-helper : (t : Table) (atoms axes : ℕ) → HasCounts t atoms axes 0 → (k : ℕ) → value_at t (Helper k) ≡ Open
no-helper t atoms axes h k = let few : length t.helpers.items ≤ k = omega (arith, h.few_helpers, t.helpers.ok.0) in get_or_past t.helpers.items k Open few

module _ (c : Cnf) (u : Trail) (made : IsTrailOf c u) where
  pub atom_means : (j : ℕ) → IsTrue (stands_on u (literal (Atom j) true)) → MayBeMarked c u j
  atom_means j h p s S form agrees undecided = forced_means p s S u.assumed c j form agrees (no-helper u.assumed u.atoms u.axes u.places.assumed_counts) (made.derived (literal (Atom j) true) h) undecided

  pub no_model_means : HasNoModel c.clauses u.assumed → MayNotHold c u
  no_model_means n p s S form agrees = may_not p s S u.assumed c form agrees (no-helper u.assumed u.atoms u.axes u.places.assumed_counts) n

  pub failed_means : u.failed ≡ true → MayNotHold c u
  failed_means f = no_model_means (made.failing f)

  pub conflict_means : ConflictAmong c u.values → MayNotHold c u
  conflict_means h = no_model_means (conflict_follows c.clauses u.values u.assumed made.derived h.clause h.among h.left)

  -- what a clause leaves alone follows
  pub unit_derived : (l : Literal) → UnitAmong c u.values l → (new : Table) → SetsOne u.values new l.variable (value_for l.positive) → (m : Literal) → IsTrue (is_true new m) → Entails c.clauses u.assumed m
  unit_derived l unit new sets m h = elim (sets_only u.values new l sets m h) [
    | inl e ↦ made.derived m e
    | inr e ↦ subst (Entails c.clauses u.assumed) (sym e) (unit_follows c.clauses u.values u.assumed made.derived unit.clause unit.among l unit.leaves.others)
  ]

-- what is undecided now was so before
pub undecided_before : (t u : Trail) (v : Variable) → Grows t u → IsTrue (undecided_on u v) → IsTrue (undecided_on t v)
undecided_before t u v g h = elim (open_or_stands (value_at t.values v) true) [
  | inl e ↦ absurd (open_stands_not (value_at u.values v) true h (g.still_on (literal v true) e))
  | inr r ↦ elim r [
    | inl e ↦ absurd (open_stands_not (value_at u.values v) false h (g.still_on (literal v false) e))
    | inr e ↦ e
  ]
]

-- an atom that a clause left alone
pub forced : (c : Cnf) (t u : Trail) (l : Literal) (j : ℕ) → IsTrailOf c u → IsTrue (undecided_on t l.variable) → IsUnit c u l → IsTrue (stands_on u l) → l.variable ≡ Atom j → l.positive ≡ true → IsForced c t u j
forced c t u l j made undecided unit on e f =
    let same : l ≡ literal (Atom j) true = sym (same_literal l (literal (Atom j) true) (sym e) (sym f)) in
    let stands : IsTrue (stands_on u (literal (Atom j) true)) = subst (λ (m : Literal). IsTrue (stands_on u m)) same on in
    record {
      was_undecided = subst (λ (v : Variable). IsTrue (undecided_on t v)) e undecided;
      stands = stands;
      unit = subst (IsUnit c u) same unit;
      means = atom_means c u made j stands;
    }
