-- What is known where a node was asked for.
use Rattle.std.proofs.Common.{◌≡◌, inl, inr, ℕ, ◌<◌, List, [], ◌∷◌, ◌++◌, map, length, Bool, true, false, cond, IsTrue, Some, refl, ap, ap₂, sym, ◌∙◌, subst, arith, nat_lt, length-append}
use Rattle.std.specs.Prelude.{slice_get, All, Result, Ok, Err, MatchResult}
use Rattle.script_model.specs.Sexp.{Place}
use Rattle.poly_graph.specs.Term.{Term, Node, node_term, graph_terms, comes_after}
use Rattle.poly_graph.specs.FormGraph.{graph_forms}
use Rattle.poly_graph.specs.Problem.{IsNode}
use Rattle.poly_graph.specs.Shared.{IsGraph, IsNew, Interned, most_nodes}
use Rattle.poly_graph.proofs.Graphs.{length_terms}
use Rattle.script_forms.specs.Walk.{Stand, stands, stops, make_tree, if_room, with_tree, too_many_nodes, most_trees}
use Rattle.term_build.specs.Built.{BuilderModel, stand_of, IsMade, IsAtomOf, full_atom}
use Rattle.term_build.specs.Does.{IsTree, Does, limited_to}
use Rattle.poly_graph.specs.Refused.{NodeRefused}
use Rattle.poly_graph.specs.declared.refused.NoNode.{NoNode}
use Rattle.poly_graph.specs.declared.refused.NoNode.TheVariants.{TooMany, Memory}
use Rattle.poly_graph.specs.declared.refused.Limit.TheVariants.{Nodes, Atoms, Forms}
use Rattle.term_build.specs.declared.stop.Stop.{Stop}
use Rattle.term_build.proofs.Lists.{get_end, all_end, all_more}
use Rattle.term_build.proofs.Trees.{terms_end, tree_at, has_at, new_tree, atoms_kept}

abbrev pub with_nodes : BuilderModel → List Node → BuilderModel
with_nodes m ns = record { sorts = m.sorts; size = m.size; nodes = ns; atoms = m.atoms; forms = m.forms }

-- the node has its number: the walk makes its tree
pub record NodeMade (m : BuilderModel) (ns : List Node) (n : Node) (k : ℕ) : Type 0 where
  pub made : IsMade (with_nodes m ns)
  pub does : (claim : Place) → make_tree claim (stand_of m) (node_term (graph_terms m.nodes) n) ≡ stands (stand_of (with_nodes m ns))
  pub tree : IsTree (with_nodes m ns) (node_term (graph_terms m.nodes) n) k

room-for : (b : Bool) → b ≡ true → (claim : Place) (s : Stand) → if_room b claim too_many_nodes s ≡ stands s
room-for true e claim s = refl
room-for false e claim s = cc

no-room : (b : Bool) → b ≡ false → (claim : Place) (s : Stand) → if_room b claim too_many_nodes s ≡ stops claim too_many_nodes
no-room true e claim s = cc
no-room false e claim s = refl

lt-true : (a b : ℕ) → a < b → nat_lt a b ≡ true
lt-true a b h = grind (arith, h)

lt-false : (a b : ℕ) → a ≡ b → nat_lt a b ≡ false
lt-false a b h = grind (arith, h)

pub more_trees : (m : BuilderModel) (t : Term) (ns : List Node) → graph_terms ns ≡ graph_terms m.nodes ++ (t ∷ []) → All (IsAtomOf m.nodes) m.atoms → with_tree (stand_of m) t ≡ stand_of (with_nodes m ns)
more_trees m t ns e h = ap₂ (λ ts atoms. record { size = m.size; trees = ts; atoms = atoms; forms = graph_forms m.forms }) (sym e) (atoms_kept m.nodes (t ∷ []) m.atoms h ∙ ap (λ ts. map (full_atom ts) m.atoms) (sym e))

atoms-more : (m : BuilderModel) (n : Node) → IsMade m → All (IsAtomOf (m.nodes ++ (n ∷ []))) m.atoms
atoms-more m n h = all_more (IsAtomOf m.nodes) (IsAtomOf (m.nodes ++ (n ∷ []))) m.atoms (λ a b. omega (arith, b, length-append m.nodes (n ∷ []))) h.atoms

-- the node that was added
added : (m : BuilderModel) (n : Node) → IsMade m → IsTrue (comes_after (length m.nodes) n) → IsNode m.sorts n → IsNew m.nodes n → IsGraph (m.nodes ++ (n ∷ [])) → NodeMade m (m.nodes ++ (n ∷ [])) n (length m.nodes)
added m n h o f new g = record {
  made = record {
    few = h.few;
    graph = g;
    nodes = all_end (IsNode m.sorts) m.nodes n h.nodes f;
    table = h.table;
    atoms = atoms-more m n h;
    shared = h.shared;
    forms = h.forms;
  };
  does = λ claim. ap (λ b. cond b (stands (stand_of m)) (if_room (nat_lt (length (graph_terms m.nodes)) most_trees) claim too_many_nodes (with_tree (stand_of m) (node_term (graph_terms m.nodes) n))))
      (new_tree m.nodes h.graph n o new)
      ∙ room-for (nat_lt (length (graph_terms m.nodes)) most_trees) (lt-true (length (graph_terms m.nodes)) most_trees (omega (arith, length_terms m.nodes, g.few, length-append m.nodes (n ∷ [])))) claim (with_tree (stand_of m) (node_term (graph_terms m.nodes) n))
      ∙ ap (λ s. stands s) (more_trees m (node_term (graph_terms m.nodes) n) (m.nodes ++ (n ∷ [])) (terms_end m.nodes n) h.atoms);
  tree = ap (λ ts. slice_get ts (length m.nodes)) (terms_end m.nodes n) ∙ ap (λ k. slice_get (graph_terms m.nodes ++ (node_term (graph_terms m.nodes) n ∷ [])) k) (sym (length_terms m.nodes)) ∙ get_end (graph_terms m.nodes) (node_term (graph_terms m.nodes) n);
}

-- a node that stood there
stood-there : (m : BuilderModel) (n : Node) (k : ℕ) → IsMade m → slice_get m.nodes k ≡ Some n → NodeMade m m.nodes n k
stood-there m n k h e = record {
  made = h;
  does = λ claim. ap (λ b. cond b (stands (stand_of m)) (if_room (nat_lt (length (graph_terms m.nodes)) most_trees) claim too_many_nodes (with_tree (stand_of m) (node_term (graph_terms m.nodes) n))))
      (has_at (graph_terms m.nodes) k (node_term (graph_terms m.nodes) n) (tree_at m.nodes h.graph k n e));
  tree = tree_at m.nodes h.graph k n e;
}

pub node_made : (m : BuilderModel) (ns : List Node) (n : Node) (k : ℕ) → IsMade m → IsTrue (comes_after (length m.nodes) n) → IsNode m.sorts n → IsGraph ns → Interned m.nodes ns n k → NodeMade m ns n k
node_made m ns n k h o f g i = elim i.1 [
  | inl e ↦ subst (λ (xs : List Node). NodeMade m xs n k) (sym e) (stood-there m n k h (ap (λ xs. slice_get xs k) (sym e) ∙ i.0))
  | inr e ↦ subst (λ (xs : List Node). NodeMade m xs n k) (sym e.0) (subst (λ (j : ℕ). NodeMade m (m.nodes ++ (n ∷ [])) n j) (sym e.1)
      (added m n h o f e.2 (subst (λ (xs : List Node). IsGraph xs) e.0 g)))
]

-- a node for which there is no room
pub none_made : (m : BuilderModel) (n : Node) (claim : Place) → IsMade m → IsTrue (comes_after (length m.nodes) n) → IsNew m.nodes n → length m.nodes ≡ most_nodes →
    make_tree claim (stand_of m) (node_term (graph_terms m.nodes) n) ≡ stops claim too_many_nodes
none_made m n claim h o new full =
    ap (λ b. cond b (stands (stand_of m)) (if_room (nat_lt (length (graph_terms m.nodes)) most_trees) claim too_many_nodes (with_tree (stand_of m) (node_term (graph_terms m.nodes) n)))) (new_tree m.nodes h.graph n o new)
    ∙ no-room (nat_lt (length (graph_terms m.nodes)) most_trees) (lt-false (length (graph_terms m.nodes)) most_trees (length_terms m.nodes ∙ full)) claim (with_tree (stand_of m) (node_term (graph_terms m.nodes) n))

-- ---- whatever was answered

same-nodes : (m : BuilderModel) (ns : List Node) → ns ≡ m.nodes → IsMade m → IsMade (with_nodes m ns)
same-nodes m ns e h = subst (λ (xs : List Node). IsMade (with_nodes m xs)) (sym e) h

pub kept_made : (m : BuilderModel) (ns : List Node) (n : Node) (r : Result ℕ NoNode) → IsMade m → IsTrue (comes_after (length m.nodes) n) → IsNode m.sorts n → IsGraph ns →
    MatchResult r (Interned m.nodes ns n) (NodeRefused m.nodes ns n) → IsMade (with_nodes m ns)
kept_made m ns n (Ok k) h o f g i = (node_made m ns n k h o f g i).made
kept_made m ns n (Err (TooMany Nodes)) h o f g i = same-nodes m ns i.0 h
kept_made m ns n (Err (TooMany Atoms)) h o f g i = absurd i
kept_made m ns n (Err (TooMany Forms)) h o f g i = absurd i
kept_made m ns n (Err Memory) h o f g i = same-nodes m ns i h

pub does_make : (m : BuilderModel) (ns : List Node) (n : Node) (r : Result ℕ NoNode) (s : Result ℕ Stop) → s ≡ limited_to r → IsMade m → IsTrue (comes_after (length m.nodes) n) → IsNode m.sorts n → IsGraph ns →
    MatchResult r (Interned m.nodes ns n) (NodeRefused m.nodes ns n) →
    Does m (with_nodes m ns) (λ claim s. make_tree claim s (node_term (graph_terms m.nodes) n)) s (IsTree (with_nodes m ns) (node_term (graph_terms m.nodes) n))
unfolding Rattle.term_build.specs.Does.IsBeyond
does_make m ns n r s e h o f g i = subst (λ (s : Result ℕ Stop). Does m (with_nodes m ns) (λ claim s. make_tree claim s (node_term (graph_terms m.nodes) n)) s (IsTree (with_nodes m ns) (node_term (graph_terms m.nodes) n))) (sym e) (go r i)
  where
    go : (r : Result ℕ NoNode) → MatchResult r (Interned m.nodes ns n) (NodeRefused m.nodes ns n) →
        Does m (with_nodes m ns) (λ claim s. make_tree claim s (node_term (graph_terms m.nodes) n)) (limited_to r) (IsTree (with_nodes m ns) (node_term (graph_terms m.nodes) n))
    go (Ok k) i = let r = node_made m ns n k h o f g i in (r.does, r.tree)
    go (Err (TooMany Nodes)) i = λ claim. none_made m n claim h o i.2 i.1
    go (Err (TooMany Atoms)) i = absurd i
    go (Err (TooMany Forms)) i = absurd i
    go (Err Memory) i = λ claim. tt

-- the same of a builder m that is seen as m'
pub kept_make : (m m' : BuilderModel) (ns : List Node) (n : Node) (r : Result ℕ NoNode) → m ≡ m' → IsMade m → IsTrue (comes_after (length m'.nodes) n) → IsNode m'.sorts n → IsGraph ns →
    MatchResult r (Interned m.nodes ns n) (NodeRefused m.nodes ns n) → IsMade (with_nodes m ns)
kept_make m m' ns n r e h o f g i = kept_made m ns n r h (subst (λ (x : BuilderModel). IsTrue (comes_after (length x.nodes) n)) (sym e) o) (subst (λ (x : BuilderModel). IsNode x.sorts n) (sym e) f) g i

pub seen_make : (m m' : BuilderModel) (ns : List Node) (n : Node) (r : Result ℕ NoNode) (s : Result ℕ Stop) → m ≡ m' → s ≡ limited_to r → IsMade m → IsTrue (comes_after (length m'.nodes) n) → IsNode m'.sorts n → IsGraph ns →
    MatchResult r (Interned m.nodes ns n) (NodeRefused m.nodes ns n) →
    Does m' (with_nodes m ns) (λ claim s. make_tree claim s (node_term (graph_terms m'.nodes) n)) s (IsTree (with_nodes m ns) (node_term (graph_terms m'.nodes) n))
seen_make m m' ns n r s e d h o f g i =
    subst (λ (x : BuilderModel). Does x (with_nodes m ns) (λ claim s. make_tree claim s (node_term (graph_terms x.nodes) n)) s (IsTree (with_nodes m ns) (node_term (graph_terms x.nodes) n))) e
    (does_make m ns n r s d h (subst (λ (x : BuilderModel). IsTrue (comes_after (length x.nodes) n)) (sym e) o) (subst (λ (x : BuilderModel). IsNode x.sorts n) (sym e) f) g i)
