-- What follows after a literal is assumed.
use Rattle.std.proofs.Common.{◌≡◌, ◌∙◌, ◌⊎◌, inl, inr, sym, subst, List, false, true≢false, not, IsTrue}
use Rattle.poly_graph.proofs.Bools.{not_both}
use Rattle.clause_search.specs.declared.literal.Literal.{Literal}
use Rattle.clause_search.specs.declared.table.Table.{Table}
use Rattle.clause_search.specs.Table.{opposite, value_at, value_for, is_true, is_false, is_undecided, SetsOne}
use Rattle.clause_search.specs.Entailed.{Entails, HasNoModel}
use Rattle.clause_search.proofs.Sets.{sets_there, sets_only, sets_still, open_or_stands}
use Rattle.clause_search.proofs.Sound.{entails_more, no_model_more, both_ways}

module _ (cs : List (List Literal)) (values before after : Table) (l : Literal) (sets : SetsOne before after l.variable (value_for l.positive)) (free : IsTrue (not (is_true before (opposite l))))
    (derived : (m : Literal) → IsTrue (is_true values m) → Entails cs before m) where
  still-assumed : (m : Literal) → IsTrue (is_true before m) → IsTrue (is_true after m)
  still-assumed = sets_still before after l sets (λ h. not_both (is_true before (opposite l)) h free)

  -- what was derived still follows
  pub derived_more : (m : Literal) → IsTrue (is_true values m) → Entails cs after m
  derived_more m h = entails_more cs before after still-assumed m (derived m h)

  pub failing_more : HasNoModel cs before → HasNoModel cs after
  failing_more n = no_model_more cs before after still-assumed n

  -- the opposite had been derived
  pub now_failing : IsTrue (is_true values (opposite l)) → HasNoModel cs after
  now_failing h = both_ways cs after l (derived_more (opposite l) h) (sets_there before after l sets)

  -- the literal is on the trail now
  pub derived_with : (new : Table) → SetsOne values new l.variable (value_for l.positive) → (m : Literal) → IsTrue (is_true new m) → Entails cs after m
  derived_with new put m h = elim (sets_only values new l put m h) [
    | inl e ↦ derived_more m e
    | inr e ↦ subst (Entails cs after) (sym e) (λ a model. model.assumed_hold l (sets_there before after l sets))
  ]

-- what is assumed is on the trail, or the trail has failed
module _ (before after values new : Table) (l : Literal) (sets : SetsOne before after l.variable (value_for l.positive)) (failed : Type 0) (old : (m : Literal) → IsTrue (is_true before m) → IsTrue (is_true values m) ⊎ failed) where
  pub stands_after : ((m : Literal) → IsTrue (is_true values m) → IsTrue (is_true new m)) → IsTrue (is_true new l) → (m : Literal) → IsTrue (is_true after m) → IsTrue (is_true new m) ⊎ failed
  stands_after still here m h = elim (sets_only before after l sets m h) [
    | inl b ↦ elim (old m b) [ inl s ↦ inl (still m s) | inr f ↦ inr f ]
    | inr e ↦ inl (subst (λ (k : Literal). IsTrue (is_true new k)) (sym e) here)
  ]

-- a literal that is neither open nor false is true
pub must_stand : (t : Table) (l : Literal) → is_undecided t l.variable ≡ false → is_false t l ≡ false → IsTrue (is_true t l)
must_stand t l o f = elim (open_or_stands (value_at t l.variable) l.positive) [
  | inl s ↦ s
  | inr r ↦ elim r [
    | inl s ↦ absurd (true≢false (sym s ∙ f))
    | inr s ↦ absurd (true≢false (sym s ∙ o))
  ]
]
