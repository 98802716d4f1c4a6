-- A tree as it is spelled, with constants for the trees of the table, means what the tree means.
use Rattle.std.proofs.Common.{◌≡◌, ℕ, List, [], ◌∷◌, ◌++◌, map, Bool, true, false, cond, codes, Option, Some, None, refl, ap, ap₂, sym, ◌∙◌}
use Rattle.std.specs.List.{AllByRecursion}
use Rattle.script_model.specs.Sexp.{Place, Sexp, group, none}
use Rattle.script_model.specs.Reading.{Meanings, Names, operators, found, application, divide, meaning, meanings}
use Rattle.script_roots.specs.Tree.{Tree, atomic, applied, root, quotient, formless, Trees, no_trees, more_trees}
use Rattle.script_roots.specs.Ranges.{Ranges}
use Rattle.script_roots.specs.Fresh.{Asserted, same_tree, stands_alone, fresh_in, all_fresh, fresh_of, Table, table_of, name_for}
use Rattle.script_roots.specs.Rewritten.{constant_in_place, constant_or, two_of, spelled, all_spelled}
use Rattle.script_roots.specs.Laws.{tree_meaning, trees_meaning}
use Rattle.script_roots.proofs.Plain.{IsTransparent, asserted_means, assertion_means}
use Rattle.script_roots.proofs.SameTree.{same_means}
use Rattle.script_roots.proofs.Table.{all_split, all_weaken, fresh_each}
use Rattle.script_roots.proofs.Constants.{spelled_means}
use Rattle.script_roots.proofs.Covered.{HasEntry, fresh_covered, all_entries, inner_of}

abbrev name-or : List ℕ → Option (List ℕ) → List ℕ
name-or x None = x
name-or x (Some y) = y

module _ {V : Type 0} (M : Meanings V) (T : IsTransparent M) (g : V → V) (C : Names V) where
  -- the constant in its place means what the tree means
  abbrev pub StandsFor : List ℕ × Tree → Type 0
  StandsFor entry = (at : Place) → meaning M C (constant_in_place at entry.0) ≡ tree_meaning M g C entry.1

  first-or-later : (t : Tree) (entry : List ℕ × Tree) → StandsFor entry → (b : Bool) → same_tree t entry.1 ≡ b → (o : Option (List ℕ)) (name : List ℕ) →
      cond b (Some entry.0) o ≡ Some name → (at : Place) → (o ≡ Some name → meaning M C (constant_in_place at name) ≡ tree_meaning M g C t) →
      meaning M C (constant_in_place at name) ≡ tree_meaning M g C t
  first-or-later t entry s true h o name e at f = ap (λ x. meaning M C (constant_in_place at (name-or entry.0 x))) (sym e) ∙ s at ∙ sym (same_means M T g C t entry.1 h)
  first-or-later t entry s false h o name e at f = f e

  -- a constant of the table means what each tree means that it is found for
  named-in : (table : Table) → AllByRecursion StandsFor table → (t : Tree) (name : List ℕ) → name_for table t ≡ Some name → (at : Place) →
      meaning M C (constant_in_place at name) ≡ tree_meaning M g C t
  named-in [] s t name e at = cc
  named-in (entry ∷ table) s t name e at =
      first-or-later t entry s.0 (same_tree t entry.1) refl (name_for table t) name e at (λ k. named-in table s.1 t name k at)

  constant-or : (table : Table) → AllByRecursion StandsFor table → (t : Tree) (o : Option (List ℕ)) → name_for table t ≡ o → (at : Place) (e : Sexp) →
      (o ≡ None → meaning M C e ≡ tree_meaning M g C t) → meaning M C (constant_or at o e) ≡ tree_meaning M g C t
  constant-or table s t (Some name) h at e f = named-in table s t name h at
  constant-or table s t None h at e f = f refl

  module _ (ranges : Ranges) (table : Table) (S : AllByRecursion StandsFor table) where
    mutual
      pub spelled_as : (t : Tree) → AllByRecursion (HasEntry table) (fresh_in ranges t) → meaning M C (spelled table t) ≡ tree_meaning M g C t
      spelled_as (atomic at l) h = refl
      spelled_as (applied at name ts) h = ap (λ vs. application M C at name (found name operators) vs) (all-spelled-as ts h)
      spelled_as (root at t) h =
          let k = all_split (HasEntry table) (fresh_in ranges t) (root at t ∷ []) h in
          constant-or table S (root at t) (name_for table (root at t)) refl at (group at none) (λ e. absurd (k.1.0 e))
      spelled_as (quotient at t d) h =
          let k = all_split (HasEntry table) (fresh_in ranges t ++ fresh_in ranges d) (cond (stands_alone ranges t d) (quotient at t d ∷ []) []) h in
          let l = all_split (HasEntry table) (fresh_in ranges t) (fresh_in ranges d) k.0 in
          constant-or table S (quotient at t d) (name_for table (quotient at t d)) refl at (two_of at (codes "/") (spelled table t) (spelled table d))
          (λ e. ap₂ (λ v w. M.apply at divide (v ∷ w ∷ [])) (spelled_as t l.0) (spelled_as d l.1))
      spelled_as (formless at) h = refl

      all-spelled-as : (ts : Trees) → AllByRecursion (HasEntry table) (all_fresh ranges ts) → meanings M C (all_spelled table ts) ≡ trees_meaning M g C ts
      all-spelled-as no_trees h = refl
      all-spelled-as (more_trees t ts) h =
          let k = all_split (HasEntry table) (fresh_in ranges t) (all_fresh ranges ts) h in
          ap₂ (λ v vs. v ∷ vs) (spelled_as t k.0) (all-spelled-as ts k.1)

    pub each_spelled : (asked : List Asserted) → AllByRecursion (λ (a : Asserted). AllByRecursion (HasEntry table) (fresh_in ranges a.tree)) asked →
        map (spelled_means M C table) asked ≡ map (assertion_means M T g C) asked
    each_spelled [] h = refl
    each_spelled (a ∷ asked) h = ap₂ (λ v vs. asserted_means M a v ∷ vs) (spelled_as a.tree h.0) (each_spelled asked h.1)

  -- the assertions of a rewritten script mean what their trees mean
  pub assertions_spelled : (ranges : Ranges) (asked : List Asserted) → AllByRecursion StandsFor (table_of ranges asked) →
      map (spelled_means M C (table_of ranges asked)) asked ≡ map (assertion_means M T g C) asked
  assertions_spelled ranges asked s =
      each_spelled ranges (table_of ranges asked) s asked (fresh_each (HasEntry (table_of ranges asked)) ranges asked (fresh_covered ranges asked))

  abbrev pub IsSpelled : Table → Tree → Type 0
  IsSpelled table t = meaning M C (spelled table t) ≡ tree_meaning M g C t

  -- what is under a root or a quotient
  abbrev pub ArePartsSpelled : Table → Tree → Type 0
  ArePartsSpelled table (root at t) = IsSpelled table t
  ArePartsSpelled table (quotient at t d) = IsSpelled table t × IsSpelled table d
  ArePartsSpelled table t = Unit {0}

  parts-spelled : (ranges : Ranges) (table : Table) → AllByRecursion StandsFor table → (t : Tree) → AllByRecursion (HasEntry table) (fresh_in ranges t) → ArePartsSpelled table t
  parts-spelled ranges table s (root at t) h = spelled_as ranges table s t (all_split (HasEntry table) (fresh_in ranges t) (root at t ∷ []) h).0
  parts-spelled ranges table s (quotient at t d) h =
      let k = all_split (HasEntry table) (fresh_in ranges t ++ fresh_in ranges d) (cond (stands_alone ranges t d) (quotient at t d ∷ []) []) h in
      let l = all_split (HasEntry table) (fresh_in ranges t) (fresh_in ranges d) k.0 in
      (spelled_as ranges table s t l.0, spelled_as ranges table s d l.1)
  parts-spelled ranges table s (atomic at l) h = tt
  parts-spelled ranges table s (applied at name ts) h = tt
  parts-spelled ranges table s (formless at) h = tt

  -- and so do the arguments, dividends and divisors in the relations of fresh constants
  pub table_spelled : (ranges : Ranges) (asked : List Asserted) → AllByRecursion StandsFor (table_of ranges asked) →
      AllByRecursion (λ (entry : List ℕ × Tree). ArePartsSpelled (table_of ranges asked) entry.1) (table_of ranges asked)
  table_spelled ranges asked s =
      let table = table_of ranges asked in
      all_entries (ArePartsSpelled table) ranges asked
      (all_weaken (λ t. AllByRecursion (HasEntry table) (fresh_in ranges t)) (ArePartsSpelled table) (parts-spelled ranges table s) (fresh_of ranges asked)
      (inner_of (HasEntry table) ranges asked (fresh_covered ranges asked)))
