-- Assertions that are to be written, of constants and of trees.
use Rattle.std.proofs.Common.{◌≡◌, ◌<◌, ◌≤◌, ◌+◌, ℕ, zero, suc, List, [], ◌∷◌, ◌++◌, length, get_or, take, map, Bool, true, false, cond, Option, refl, ap, ap₂, sym, ◌∙◌, subst, arith, append_assoc, append-nil, add-one}
use Rattle.std.specs.Prelude.{OnOk, Result, Ok, Err, is_ok, if◌then◌else◌}
use Rattle.std.proofs.Math.Seq.{take-suc}
use Rattle.std.proofs.lemmas.List.{get_or-map, map-append, take_all}
use Rattle.interval_model.specs.Interval.{Interval}
use Rattle.ival.specs.Views.{interval_of}
use Rattle.ival.specs.declared.ends.Ival.{Ival}
use Rattle.ival.specs.declared.ends.Ival.TheVariants.{Empty, Between}
use Rattle.script_fault.specs.declared.place.Place as code
use Rattle.script_model.specs.Sexp.{Place}
use Rattle.script_model.specs.Script.{Command, claim, minimize}
use Rattle.script_roots.specs.Tree.{Tree, root, quotient}
use Rattle.script_roots.specs.Ranges.{Ranges, enclosed, quotient_range, root_bound}
use Rattle.script_roots.specs.Fresh as model
use Rattle.script_roots.specs.Fresh.{Table}
use Rattle.script_roots.specs.Rewritten.{assertion, between_ends, claims_of, claims_of_all, is_product, spelled}
use Rattle.smt_sexp.specs.Views.{place_of}
use Rattle.script_roots.proofs.Table.{all_join}
use Rattle.root_rewriting.specs.Asserted.{AreAsserted}
use Rattle.root_rewriting.specs.Nodes.{node_tree, tree_at, trees_in}
use Rattle.root_rewriting.specs.declared.unfold.assertions.Assertion.{Assertion}
use Rattle.root_rewriting.specs.declared.unfold.trees.Node.{Node}
use Rattle.root_rewriting.specs.declared.unfold.trees.Node.TheVariants as nodes
use Rattle.root_rewriting.specs.Drafts.{AreDraftsBelow, IsContentBelow, claim_draft, constant_at, draft_command, draft_of, drafts_of_range, drafts_of_root}
use Rattle.root_rewriting.specs.Spelling.{fresh_name}
use Rattle.root_rewriting.specs.Enclosures.{AreEnclosures}
use Rattle.root_rewriting.specs.Table.{AreEntriesBelow, entry_of}
use Rattle.root_rewriting.specs.declared.constants.Fresh.{Fresh}
use Rattle.root_rewriting.specs.declared.drafts.Content.TheVariants.{Product}
use Rattle.root_rewriting.specs.declared.drafts.Draft.{Draft}
use Rattle.root_rewriting.proofs.Tables.{tree_there, tree_within}

pub on_ok_then : {T E A : Type 0} (r : Result T E) (new a b : A) → new ≡ (if is_ok r then a else b) → OnOk r (new ≡ a)
on_ok_then (Ok x) new a b h = h
on_ok_then (Err e) new a b h = tt

module _ (names : List (List ℕ)) (table : Table) (ts : List Tree) where
  abbrev C : Draft → Command
  C = draft_command names table ts

  -- ---- of one constant

  pub root_claims : (ranged : Ranges) (place : code.Place) (i k : ℕ) (j : Interval) → j ≡ enclosed ranged (tree_at ts k) →
      map C (drafts_of_root place i (root_bound j) k) ≡ claims_of ranged table (get_or names i []) (root (place_of place) (tree_at ts k))
  root_claims ranged place i k j e = ap (λ (m : Interval). map C (drafts_of_root place i (root_bound m) k)) e

  range-claims : (place : code.Place) (i : ℕ) (range : Ival) → map C (drafts_of_range place i range) ≡ between_ends (place_of place) (constant_at names (place_of place) i) (interval_of range)
  range-claims place i Empty = refl
  range-claims place i (Between ends) = refl

  pub quotient_claims : (ranged : Ranges) (place : code.Place) (i k d : ℕ) (range : Ival) → interval_of range ≡ quotient_range (enclosed ranged (tree_at ts k)) (enclosed ranged (tree_at ts d)) →
      map C (drafts_of_range place i range ++ (claim_draft place (Product i d k) ∷ [])) ≡ claims_of ranged table (get_or names i []) (quotient (place_of place) (tree_at ts k) (tree_at ts d))
  quotient_claims ranged place i k d range e =
      let at = place_of place in
      let c = constant_at names at i in
      map-append C (drafts_of_range place i range) (claim_draft place (Product i d k) ∷ []) ∙
      ap (λ cs. cs ++ (is_product at c (spelled table (tree_at ts d)) (spelled table (tree_at ts k)) ∷ [])) (range-claims place i range ∙ ap (between_ends at c) e)

  -- none of other trees
  pub other_claims : (ranged : Ranges) (x : List ℕ) (node : Node) → ((p : code.Place) (k : ℕ) → node ≡ nodes.Root p k → ⊥) → ((p : code.Place) (k d : ℕ) → node ≡ nodes.Quotient p k d → ⊥) →
      [] ≡ claims_of ranged table x (node_tree ts node)
  other_claims ranged x (nodes.Atomic p a) rootless whole = refl
  other_claims ranged x (nodes.Applied p n ks) rootless whole = refl
  other_claims ranged x (nodes.Root p k) rootless whole = absurd (rootless p k refl)
  other_claims ranged x (nodes.Quotient p k d) rootless whole = absurd (whole p k d refl)
  other_claims ranged x (nodes.Formless p) rootless whole = refl

  -- ---- of several

  pub more_claims : (old new added : List Draft) (cs : List Command) → new ≡ old ++ added → map C added ≡ cs → map C new ≡ map C old ++ cs
  more_claims old new added cs is e = ap (map C) is ∙ map-append C old added ∙ ap (λ us. map C old ++ us) e

  claims-join : (ranged : Ranges) (xs ys : Table) → claims_of_all ranged table (xs ++ ys) ≡ claims_of_all ranged table xs ++ claims_of_all ranged table ys
  claims-join ranged [] ys = refl
  claims-join ranged (x ∷ xs) ys = ap (λ cs. claims_of ranged table x.0 x.1 ++ cs) (claims-join ranged xs ys) ∙ sym (append_assoc (claims_of ranged table x.0 x.1) (claims_of_all ranged table xs) (claims_of_all ranged table ys))

  -- with the next constant
  pub next_claims : (ranged : Ranges) (fs : List Fresh) (i : ℕ) (f d : Fresh) (old new : List Draft) → i < length fs → f ≡ get_or fs i d → names ≡ map fresh_name fs →
      map C new ≡ map C old ++ claims_of ranged table (get_or names i []) (tree_at ts f.tree) → map C old ≡ claims_of_all ranged table (map (entry_of ts) (take i fs)) →
      map C new ≡ claims_of_all ranged table (map (entry_of ts) (take (i + 1) fs))
  next_claims ranged fs i f d old new lt is named more so_far =
      let E = entry_of ts in
      let called : get_or names i [] ≡ fresh_name f = ap (λ ns. get_or ns i []) named ∙ get_or-map fresh_name fs i d [] lt ∙ ap fresh_name (sym is) in
      let taken : take (i + 1) fs ≡ take i fs ++ (f ∷ []) = ap (λ n. take n fs) (add-one i) ∙ take-suc fs i d lt ∙ ap (λ g. take i fs ++ (g ∷ [])) (sym is) in
      more ∙ ap₂ (λ us n. us ++ claims_of ranged table n (tree_at ts f.tree)) so_far called ∙
      ap (λ us. claims_of_all ranged table (map E (take i fs)) ++ us) (sym (append-nil (claims_of ranged table (fresh_name f) (tree_at ts f.tree)))) ∙
      sym (ap (λ us. claims_of_all ranged table (map E us)) taken ∙ ap (claims_of_all ranged table) (map-append E (take i fs) (f ∷ [])) ∙ claims-join ranged (map E (take i fs)) (map E (f ∷ [])))

  -- ---- of trees

  pub assertion_claims : (cs : List Assertion) (claims : List model.Asserted) → AreAsserted ts cs claims → map C (map draft_of cs) ≡ map (assertion table) claims
  assertion_claims [] [] h = refl
  assertion_claims [] (a ∷ claims) h = absurd h
  assertion_claims (c ∷ cs) [] h = absurd h
  assertion_claims (c ∷ cs) (a ∷ claims) h = ap₂ (λ x xs. x ∷ xs) one (assertion_claims cs claims h.1)
    where
      one : C (draft_of c) ≡ assertion table a
      one =
          ap (λ g. cond g (minimize (place_of c.place) (spelled table (tree_at ts c.tree))) (claim (place_of c.place) (spelled table (tree_at ts c.tree)))) h.0.goal ∙
          ap₂ (λ p t. cond a.is_goal (minimize p (spelled table t)) (claim p (spelled table t))) h.0.at (tree_there ts c a h.0)

-- ---- as far as they came

pub record ClaimsSoFar (ns : List Node) (ranges : List Ival) (fs : List Fresh) (n : ℕ) (drafts : List Draft) : Type 0 where
  pub below : AreDraftsBelow (length ns) (length fs) drafts
  pub claims : (ranged : Ranges) (names : Table) → AreEnclosures ranged (trees_in ns) ranges →
      map (draft_command (map fresh_name fs) names (trees_in ns)) drafts ≡ claims_of_all ranged names (map (entry_of (trees_in ns)) (take n fs))

pub record DraftsSoFar (trees names : ℕ) (cs : List Assertion) (n : ℕ) (first drafts : List Draft) : Type 0 where
  pub below : AreDraftsBelow trees names drafts
  pub are : drafts ≡ first ++ map draft_of (take n cs)

pub below_more : (trees names : ℕ) (old new added : List Draft) → new ≡ old ++ added → AreDraftsBelow trees names old → AreDraftsBelow trees names added → AreDraftsBelow trees names new
below_more trees names old new added is h k = subst (λ ds. AreDraftsBelow trees names ds) (sym is) (all_join (λ (d : Draft). IsContentBelow trees names d.content) old added h k)

-- the trees of assertions are there
pub claim_within : (ts : List Tree) (cs : List Assertion) (claims : List model.Asserted) (i : ℕ) (d : Assertion) → AreAsserted ts cs claims → i < length cs → (get_or cs i d).tree < length ts
claim_within ts [] claims i d h lt = absurd (omega arith)
claim_within ts (c ∷ cs) [] i d h lt = absurd h
claim_within ts (c ∷ cs) (a ∷ claims) zero d h lt = tree_within ts c a h.0
claim_within ts (c ∷ cs) (a ∷ claims) (suc i) d h lt = claim_within ts cs claims i d h.1 (omega arith)

pub entry_within : (n : ℕ) (fs : List Fresh) (i : ℕ) (d : Fresh) → AreEntriesBelow n fs → i < length fs → (get_or fs i d).tree < n
entry_within n [] i d h lt = absurd (omega arith)
entry_within n (f ∷ fs) zero d h lt = h.0
entry_within n (f ∷ fs) (suc i) d h lt = entry_within n fs i d h.1 (omega arith)

-- with the next assertion
pub next_draft : (cs : List Assertion) (i : ℕ) (d : Assertion) (first old new : List Draft) (x : Draft) → i < length cs → new ≡ old ++ (x ∷ []) → x ≡ draft_of (get_or cs i d) →
    old ≡ first ++ map draft_of (take i cs) → new ≡ first ++ map draft_of (take (i + 1) cs)
next_draft cs i d first old new x lt is e h =
    let a = get_or cs i d in
    let taken : take (i + 1) cs ≡ take i cs ++ (a ∷ []) = ap (λ n. take n cs) (add-one i) ∙ take-suc cs i d lt in
    is ∙ ap₂ (λ us y. us ++ (y ∷ [])) h e ∙ append_assoc first (map draft_of (take i cs)) (draft_of a ∷ []) ∙
    ap (λ us. first ++ us) (sym (map-append draft_of (take i cs) (a ∷ []))) ∙ ap (λ us. first ++ map draft_of us) (sym taken)

-- with all
pub all_drafts : (names : List (List ℕ)) (table : Table) (ts : List Tree) (cs : List Assertion) (n : ℕ) (first drafts : List Draft) (claims : List model.Asserted) (made : List Command) → length cs ≤ n →
    drafts ≡ first ++ map draft_of (take n cs) → map (draft_command names table ts) first ≡ made → AreAsserted ts cs claims → map (draft_command names table ts) drafts ≡ made ++ map (assertion table) claims
all_drafts names table ts cs n first drafts claims made le is h are =
    ap (map (draft_command names table ts)) (is ∙ ap (λ us. first ++ map draft_of us) (take_all n cs le)) ∙ map-append (draft_command names table ts) first (map draft_of cs) ∙
    ap₂ (λ xs ys. xs ++ ys) h (assertion_claims names table ts cs claims are)
