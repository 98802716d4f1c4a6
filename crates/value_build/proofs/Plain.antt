-- Trees and formulas hold no Real `ite`.
use Rattle.std.proofs.Common.{◌≡◌, ℕ, List, [], ◌∷◌, ◌++◌, map, false, refl, ap, ◌∙◌}
use Rattle.script_model.specs.Meaning.{neighbours, pairs}
use Rattle.poly_graph.specs.Term.{Term}
use Rattle.poly_graph.specs.Form.{Form}
use Rattle.script_forms.specs.Terms.{Comparison, Unfolded, formula, hold_either}
use Rattle.script_forms.specs.Unfolded.{truth_of, negation_form}
use Rattle.script_forms.specs.Work.{Event, compare_events, together}
use Rattle.term_build.specs.Pairs.{tree_at, trees_at, DrawsEach}
use Rattle.term_build.specs.Sketch.{SketchNode}
use Rattle.term_build.specs.declared.connectives.Pair.{Pair}

pub plain_trees : (ts : List Term) (ks : List ℕ) → hold_either (trees_at ts ks) ≡ false
plain_trees ts [] = refl
plain_trees ts (k ∷ ks) = plain_trees ts ks

-- ---- their comparisons lift nothing

pub plain_chain : (ts : List Term) (ks : List ℕ) → together (neighbours compare_events (trees_at ts ks)) ≡ []
plain_chain ts [] = refl
plain_chain ts (k ∷ []) = refl
plain_chain ts (k ∷ j ∷ ks) = plain_chain ts (j ∷ ks)

plain-each : (ts : List Term) (k : ℕ) (ks : List ℕ) (ess : List (List Event)) → together ess ≡ [] → together (map (compare_events (tree_at ts k)) (trees_at ts ks) ++ ess) ≡ []
plain-each ts k [] ess h = h
plain-each ts k (j ∷ ks) ess h = plain-each ts k ks ess h

pub plain_pairs : (ts : List Term) (ks : List ℕ) → together (pairs compare_events (trees_at ts ks)) ≡ []
plain_pairs ts [] = refl
plain_pairs ts (k ∷ ks) = plain-each ts k ks (pairs compare_events (trees_at ts ks)) (plain_pairs ts ks)

pub bools_chain_quiet : (ts : List Term) (ds : List SketchNode) (us : List Unfolded) (ps : List Pair) → DrawsEach ts ds us ps → together (neighbours compare_events us) ≡ []
bools_chain_quiet ts ds [] ps h = refl
bools_chain_quiet ts ds (u ∷ []) ps h = refl
bools_chain_quiet ts ds (u ∷ v ∷ us) (p ∷ ps) h = ap (λ x. compare_events x v ++ together (neighbours compare_events (v ∷ us))) h.0.is ∙ bools_chain_quiet ts ds (v ∷ us) ps h.1
bools_chain_quiet ts ds (u ∷ v ∷ us) [] h = elim h [ ]

formula-each : (f g : Form Comparison) (us : List Unfolded) (ess : List (List Event)) → together (map (compare_events (formula f g)) us ++ ess) ≡ together ess
formula-each f g [] ess = refl
formula-each f g (u ∷ us) ess = formula-each f g us ess

pub bools_pairs_quiet : (ts : List Term) (ds : List SketchNode) (us : List Unfolded) (ps : List Pair) → DrawsEach ts ds us ps → together (pairs compare_events us) ≡ []
bools_pairs_quiet ts ds [] ps h = refl
bools_pairs_quiet ts ds (u ∷ us) (p ∷ ps) h = ap (λ x. together (map (compare_events x) us ++ pairs compare_events us)) h.0.is ∙ formula-each (truth_of u) (negation_form u) us (pairs compare_events us) ∙ bools_pairs_quiet ts ds us ps h.1
bools_pairs_quiet ts ds (u ∷ us) [] h = elim h [ ]
