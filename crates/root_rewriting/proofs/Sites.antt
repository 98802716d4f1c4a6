-- Places of what is left out, tree by tree.
use Rattle.std.proofs.Common.{◌≡◌, ◌<◌, ◌+◌, ℕ, List, [], ◌∷◌, ◌++◌, length, get_or, map, Option, Some, None, Bool, true, false, cond, refl, ap, ap₂, sym, ◌∙◌, subst, arith, ◌⊎◌, inl, inr}
use Rattle.std.proofs.lemmas.Bool.{cases_eq}
use Rattle.std.proofs.lemmas.List.{get_or_append_left, get_or_push, length_push}
use Rattle.script_fault.specs.declared.place.Place as code
use Rattle.script_model.specs.Sexp.{Place}
use Rattle.script_roots.specs.Tree.{Tree, trees_of}
use Rattle.script_roots.specs.Fresh as model
use Rattle.script_roots.specs.Fresh.{choice_in_root, choice_in_roots, first_fresh, first_place, fresh_place, left_out_in, left_out_of}
use Rattle.root_rewriting.specs.Asserted.{AreAsserted, IsAsserted}
use Rattle.root_rewriting.specs.Nodes.{AreBelow, node_tree, parts_at, tree_at}
use Rattle.std.specs.Prelude.{Vec}
use Rattle.std.specs.Borrow.{Bor}
use Rattle.std.specs.Global.{Global}
use Rattle.root_rewriting.specs.declared.unfold.trees.Node.{Node}
use Rattle.root_rewriting.specs.declared.unfold.trees.Node.TheVariants as nodes
use Rattle.root_rewriting.specs.declared.unfold.assertions.Assertion.{Assertion}
use Rattle.root_rewriting.specs.Places.{ArePlaces, first_in, place_at, seen_place}
use Rattle.root_rewriting.proofs.Tables.{Begins, begins, none_begins, tree_there, tree_within}

-- ---- the places of parts

pub choices_in : (us : List Tree) → choice_in_roots (trees_of us) ≡ first_in (map choice_in_root us)
choices_in [] = refl
choices_in (t ∷ us) = ap (first_place (choice_in_root t)) (choices_in us)

pub fresh_in_all : (us : List Tree) → first_fresh (trees_of us) ≡ first_in (map fresh_place us)
fresh_in_all [] = refl
fresh_in_all (t ∷ us) = ap (first_place (fresh_place t)) (fresh_in_all us)

pub first_or_none : (p : Option Place) → first_place p None ≡ p
first_or_none None = refl
first_or_none (Some at) = refl

module _ (f : Tree → Option Place) (ts : List Tree) (places : List (Option code.Place)) (a : ArePlaces f ts places) where
  pub parts_places : (ks : List ℕ) → AreBelow (length places) ks → map (place_at places) ks ≡ map f (parts_at ts ks)
  parts_places [] h = refl
  parts_places (k ∷ ks) h = ap₂ (λ p ps. p ∷ ps) (a.are k h.0) (parts_places ks h.1)

  -- one more
  module _ (p : Option code.Place) (is : seen_place p ≡ f (tree_at ts (length places))) where
    cases-end : (k : ℕ) → k < length places + 1 → (k ≡ length places) ⊎ (k ≡ length places → ⊥) → place_at (places ++ (p ∷ [])) k ≡ f (tree_at ts k)
    cases-end k h (inl e) = ap seen_place (get_or_push places p None k (sym e)) ∙ is ∙ ap (λ n. f (tree_at ts n)) (sym e)
    cases-end k h (inr ne) = let lt : k < length places = omega arith in ap seen_place (get_or_append_left places (p ∷ []) None k lt) ∙ a.are k lt

    pub places_more : length places < length ts → ArePlaces f ts (places ++ (p ∷ []))
    places_more lt = record {
      within = omega (arith, length_push places p);
      are = λ k h. cases-end k (omega (arith, length_push places p, h)) (cases_eq k (length places));
    }

pub places_none : (f : Tree → Option Place) (ts : List Tree) (places : List (Option code.Place)) → places ≡ [] → ArePlaces f ts places
places_none f ts places e =
    subst (λ (ps : List (Option code.Place)). ArePlaces f ts ps) (sym e) (record { within = omega arith; are = λ k h. absurd (omega arith) })

-- a tree without parts has none
module _ (ts : List Tree) (node : Node) (operatorless : (p : code.Place) (x : Bor (List ℕ)) (ks : Vec ℕ Global) → node ≡ nodes.Applied p x ks → ⊥)
    (rootless : (p : code.Place) (k : ℕ) → node ≡ nodes.Root p k → ⊥) (whole : (p : code.Place) (k d : ℕ) → node ≡ nodes.Quotient p k d → ⊥) where
  pub no_choice_place : None ≡ choice_in_root (node_tree ts node)
  no_choice_place = go node refl
    where
      go : (n : Node) → node ≡ n → None ≡ choice_in_root (node_tree ts n)
      go (nodes.Atomic p a) e = refl
      go (nodes.Applied p x ks) e = absurd (operatorless p x ks e)
      go (nodes.Root p k) e = absurd (rootless p k e)
      go (nodes.Quotient p k d) e = absurd (whole p k d e)
      go (nodes.Formless p) e = refl

  pub no_fresh_place : None ≡ fresh_place (node_tree ts node)
  no_fresh_place = go node refl
    where
      go : (n : Node) → node ≡ n → None ≡ fresh_place (node_tree ts n)
      go (nodes.Atomic p a) e = refl
      go (nodes.Applied p x ks) e = absurd (operatorless p x ks e)
      go (nodes.Root p k) e = absurd (rootless p k e)
      go (nodes.Quotient p k d) e = absurd (whole p k d e)
      go (nodes.Formless p) e = refl

-- ---- assertions

-- the place of what is left out in these is that in all
pub record Leaves (ts : List Tree) (cs : List Assertion) (claims : List model.Asserted) : Type 0 where
  pub left : List model.Asserted
  pub are : AreAsserted ts cs left
  pub ends : left_out_of left ≡ left_out_of claims

module _ (ts : List Tree) (choices fresh : List (Option code.Place)) (a : ArePlaces choice_in_root ts choices) (b : ArePlaces fresh_place ts fresh)
    (all : length choices ≡ length ts) (both : length fresh ≡ length ts) where
  abbrev pub Of : Assertion → List (Option code.Place)
  Of c = cond c.is_goal fresh choices

  pub within_either : (c : Assertion) (claims : List model.Asserted) (cs : List Assertion) → AreAsserted ts (c ∷ cs) claims → (c.tree < length choices) × (c.tree < length fresh)
  within_either c claims cs h = let g = begins ts c cs claims h in let lt = tree_within ts c g.first g.one in (omega (arith, all), omega (arith, both))

  either : (goal : Bool) (k : ℕ) → k < length ts → place_at (cond goal fresh choices) k ≡ cond goal (fresh_place (tree_at ts k)) (choice_in_root (tree_at ts k))
  either true k lt = b.are k (omega (arith, both))
  either false k lt = a.are k (omega (arith, all))

  site-here : (c : Assertion) (first : model.Asserted) → IsAsserted ts c first → place_at (Of c) c.tree ≡ left_out_in first
  site-here c first one =
      either c.is_goal c.tree (tree_within ts c first one) ∙
      ap₂ (λ g t. cond g (fresh_place t) (choice_in_root t)) one.goal (tree_there ts c first one)

  leaves-first : (c : Assertion) (cs rest : List Assertion) (claims : List model.Asserted) (l : Leaves ts rest claims) → rest ≡ c ∷ cs → Begins ts c cs l.left
  leaves-first c cs rest claims l is = begins ts c cs l.left (subst (λ us. AreAsserted ts us l.left) is l.are)

  left-of-first : (c : Assertion) (cs rest : List Assertion) (claims : List model.Asserted) (l : Leaves ts rest claims) (is : rest ≡ c ∷ cs) →
      first_place (place_at (Of c) c.tree) (left_out_of (leaves-first c cs rest claims l is).rest) ≡ left_out_of claims
  left-of-first c cs rest claims l is =
      let g = leaves-first c cs rest claims l is in
      ap (λ p. first_place p (left_out_of g.rest)) (site-here c g.first g.one) ∙ ap left_out_of (sym g.is) ∙ l.ends

  pub leaves_found : (c : Assertion) (cs rest : List Assertion) (claims : List model.Asserted) (p : code.Place) → Leaves ts rest claims → rest ≡ c ∷ cs →
      get_or (Of c) c.tree None ≡ Some p → seen_place (Some p) ≡ left_out_of claims
  leaves_found c cs rest claims p l is found =
      let g = leaves-first c cs rest claims l is in
      ap (λ o. first_place (seen_place o) (left_out_of g.rest)) (sym found) ∙ left-of-first c cs rest claims l is

  pub leaves_next : (c : Assertion) (cs rest : List Assertion) (claims : List model.Asserted) → Leaves ts rest claims → rest ≡ c ∷ cs →
      get_or (Of c) c.tree None ≡ None → Leaves ts cs claims
  leaves_next c cs rest claims l is found =
      let g = leaves-first c cs rest claims l is in
      record {
        left = g.rest;
        are = g.others;
        ends = ap (λ o. first_place (seen_place o) (left_out_of g.rest)) (sym found) ∙ left-of-first c cs rest claims l is;
      }

pub leaves_end : (ts : List Tree) (cs : List Assertion) (claims : List model.Asserted) → Leaves ts cs claims → cs ≡ [] → None ≡ left_out_of claims
leaves_end ts cs claims l is = ap left_out_of (sym (none_begins ts l.left (subst (λ us. AreAsserted ts us l.left) is l.are))) ∙ l.ends

-- the first assertions have none
pub record InLeftOut (ts : List Tree) (all rest : List Assertion) : Type 0 where
  pub some : (claims : List model.Asserted) × AreAsserted ts rest claims
  pub leaves : (claims : List model.Asserted) → AreAsserted ts all claims → Leaves ts rest claims

-- ---- parts

-- the first parts have none
pub record FirstOf (places : List (Option code.Place)) (parts rest : List ℕ) : Type 0 where
  pub below : AreBelow (length places) rest
  pub ends : first_in (map (place_at places) rest) ≡ first_in (map (place_at places) parts)

module _ (places : List (Option code.Place)) (parts rest : List ℕ) (f : FirstOf places parts rest) (k : ℕ) (later : List ℕ) (is : rest ≡ k ∷ later) where
  pub part_within : k < length places
  part_within = let h = subst (λ ks. AreBelow (length places) ks) is f.below in h.0

  pub first_found : (p : code.Place) → get_or places k None ≡ Some p → seen_place (Some p) ≡ first_in (map (place_at places) parts)
  first_found p h = ap (λ o. first_place (seen_place o) (first_in (map (place_at places) later))) (sym h) ∙ ap (λ ks. first_in (map (place_at places) ks)) (sym is) ∙ f.ends

  pub first_later : get_or places k None ≡ None → FirstOf places parts later
  first_later h = record {
    below = let b = subst (λ ks. AreBelow (length places) ks) is f.below in b.1;
    ends = ap (λ o. first_place (seen_place o) (first_in (map (place_at places) later))) (sym h) ∙ ap (λ ks. first_in (map (place_at places) ks)) (sym is) ∙ f.ends;
  }
