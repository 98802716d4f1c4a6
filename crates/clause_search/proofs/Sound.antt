-- What is on a trail follows from clauses and assumed literals.
use Rattle.std.proofs.Common.{◌≡◌, ◌⊎◌, inl, inr, sym, subst, List, [], ◌∷◌, Bool, true, false, cond, not, IsTrue, true≢false}
use Rattle.std.specs.Prelude.{All, Contains}
use Rattle.std.proofs.lemmas.List.Elements.{All-nil, All-cons, All-contains, All-head, All-tail}
use Rattle.poly_graph.proofs.Bools.{either_true, not_both}
use Rattle.dyadic.proofs.Equal.{both_true}
use Rattle.clause_search.specs.declared.literal.Literal.{Literal}
use Rattle.clause_search.specs.Clauses.{Assignment, variable_truth, literal_truth, clause_truth, clauses_truth}
use Rattle.clause_search.specs.declared.table.Table.{Table}
use Rattle.clause_search.specs.Table.{opposite, is_true}
use Rattle.clause_search.specs.Entailed.{IsModel, Entails, HasNoModel}

-- ---- more assumed literals

module _ (cs : List (List Literal)) (before after : Table) (still : (m : Literal) → IsTrue (is_true before m) → IsTrue (is_true after m)) where
  pub fewer_models : (a : Assignment) → IsModel cs after a → IsModel cs before a
  fewer_models a m = record { clauses_hold = m.clauses_hold; assumed_hold = λ l h. m.assumed_hold l (still l h) }

  pub entails_more : (l : Literal) → Entails cs before l → Entails cs after l
  entails_more l e a m = e a (fewer_models a m)

  pub no_model_more : HasNoModel cs before → HasNoModel cs after
  no_model_more n a m = n a (fewer_models a m)

-- ---- opposites

opposite-false : (p v : Bool) → IsTrue (cond p v (not v)) → IsTrue (cond (not p) v (not v)) → ⊥
opposite-false true v h k = not_both v h k
opposite-false false v h k = not_both v k h

pub not_opposite : (a : Assignment) (l : Literal) → IsTrue (literal_truth a l) → IsTrue (literal_truth a (opposite l)) → ⊥
not_opposite a l h k = opposite-false l.positive (variable_truth a l.variable) h k

-- an assumed literal whose opposite follows
pub both_ways : (cs : List (List Literal)) (assumed : Table) (l : Literal) → Entails cs assumed (opposite l) → IsTrue (is_true assumed l) → HasNoModel cs assumed
both_ways cs assumed l e h a m = not_opposite a l (m.assumed_hold l h) (e a m)

-- ---- clauses

-- a clause of a list that is true is true
pub clause_among : (a : Assignment) (cs : List (List Literal)) → IsTrue (clauses_truth a cs) → All (λ (c : List Literal). IsTrue (clause_truth a c)) cs
clause_among a [] h = All-nil (λ (c : List Literal). IsTrue (clause_truth a c))
clause_among a (c ∷ cs) h = All-cons (λ (c : List Literal). IsTrue (clause_truth a c)) c cs (both_true (clause_truth a c) (clauses_truth a cs) h).0 (clause_among a cs (both_true (clause_truth a c) (clauses_truth a cs) h).1)

module _ (cs : List (List Literal)) (values assumed : Table) (derived : (m : Literal) → IsTrue (is_true values m) → Entails cs assumed m) (a : Assignment) (model : IsModel cs assumed a) where
  -- where all literals but one are false, that one is true
  only-one : (clause : List Literal) (l : Literal) → All (λ (m : Literal). (m ≡ l) ⊎ IsTrue (is_true values (opposite m))) clause → IsTrue (clause_truth a clause) → IsTrue (literal_truth a l)
  only-one [] l others h = absurd (true≢false (sym h))
  only-one (m ∷ clause) l others h = elim (either_true (literal_truth a m) (clause_truth a clause) h) [
    | inl t ↦ elim (All-head (λ (m : Literal). (m ≡ l) ⊎ IsTrue (is_true values (opposite m))) m clause others) [
      | inl e ↦ subst (λ (k : Literal). IsTrue (literal_truth a k)) e t
      | inr f ↦ absurd (not_opposite a m t (derived (opposite m) f a model))
    ]
    | inr t ↦ only-one clause l (All-tail (λ (m : Literal). (m ≡ l) ⊎ IsTrue (is_true values (opposite m))) m clause others) t
  ]

  none-left : (clause : List Literal) → All (λ (m : Literal). IsTrue (is_true values (opposite m))) clause → IsTrue (clause_truth a clause) → ⊥
  none-left [] others h = true≢false (sym h)
  none-left (m ∷ clause) others h = elim (either_true (literal_truth a m) (clause_truth a clause) h) [
    | inl t ↦ not_opposite a m t (derived (opposite m) (All-head (λ (m : Literal). IsTrue (is_true values (opposite m))) m clause others) a model)
    | inr t ↦ none-left clause (All-tail (λ (m : Literal). IsTrue (is_true values (opposite m))) m clause others) t
  ]

module _ (cs : List (List Literal)) (values assumed : Table) (derived : (m : Literal) → IsTrue (is_true values m) → Entails cs assumed m) (clause : List Literal) (among : Contains cs clause) where
  pub unit_follows : (l : Literal) → All (λ (m : Literal). (m ≡ l) ⊎ IsTrue (is_true values (opposite m))) clause → Entails cs assumed l
  unit_follows l others a model = only-one cs values assumed derived a model clause l others (All-contains (λ (c : List Literal). IsTrue (clause_truth a c)) cs clause (clause_among a cs model.clauses_hold) among)

  pub conflict_follows : All (λ (m : Literal). IsTrue (is_true values (opposite m))) clause → HasNoModel cs assumed
  conflict_follows others a model = none-left cs values assumed derived a model clause others (All-contains (λ (c : List Literal). IsTrue (clause_truth a c)) cs clause (clause_among a cs model.clauses_hold) among)
