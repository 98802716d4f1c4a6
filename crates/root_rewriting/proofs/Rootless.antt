-- Trees without roots and quotients.
use Rattle.std.proofs.Common.{◌≡◌, ◌<◌, ℕ, List, [], ◌∷◌, ◌++◌, length, Bool, true, false, cond, Option, None, refl, ap, ap₂, sym, ◌∙◌, subst, arith}
use Rattle.script_roots.specs.Tree.{Tree, Trees, trees_of}
use Rattle.script_roots.specs.Ranges.{Ranges}
use Rattle.script_roots.specs.Fresh as model
use Rattle.script_roots.specs.Fresh.{all_fresh, choice_in_root, choice_in_roots, first_fresh, first_place, fresh_in, fresh_of, fresh_place, left_out_in, left_out_of}
use Rattle.script_model.specs.Sexp.{Place}
use Rattle.root_rewriting.specs.Asserted.{AreAsserted}
use Rattle.root_rewriting.specs.Nodes.{AreBelow, IsBelow, node_tree, parts_at, tree_at}
use Rattle.root_rewriting.specs.declared.unfold.assertions.Assertion.{Assertion}
use Rattle.root_rewriting.specs.declared.unfold.trees.Node.{Node}
use Rattle.root_rewriting.specs.declared.unfold.trees.Node.TheVariants as nodes
use Rattle.root_rewriting.specs.Plain.{IsPlain, is_fresh}
use Rattle.root_rewriting.proofs.Tables.{tree_there, tree_within}

record ArePlain (us : List Tree) : Type 0 where
  pub fresh : (ranges : Ranges) → all_fresh ranges (trees_of us) ≡ []
  pub choice : choice_in_roots (trees_of us) ≡ None
  pub place : first_fresh (trees_of us) ≡ None

plain-parts : (ts : List Tree) (n : ℕ) (ks : List ℕ) → ((i : ℕ) → i < n → IsPlain (tree_at ts i)) → AreBelow n ks → ArePlain (parts_at ts ks)
plain-parts ts n [] h b = record { fresh = λ ranges. refl; choice = refl; place = refl }
plain-parts ts n (k ∷ ks) h b =
    let one = h k b.0 in
    let rest = plain-parts ts n ks h b.1 in
    record {
      fresh = λ ranges. ap₂ (λ xs ys. xs ++ ys) (one.fresh ranges) (rest.fresh ranges);
      choice = ap₂ first_place one.choice rest.choice;
      place = ap₂ first_place one.place rest.place;
    }

pub plain_node : (ts : List Tree) (at : ℕ) (node : Node) → is_fresh node ≡ false → IsBelow at node → ((i : ℕ) → i < at → IsPlain (tree_at ts i)) → IsPlain (node_tree ts node)
plain_node ts at (nodes.Atomic p a) e b h = record { fresh = λ ranges. refl; choice = refl; place = refl }
plain_node ts at (nodes.Applied p name ks) e b h = let all = plain-parts ts at ks.items h b in record { fresh = all.fresh; choice = all.choice; place = all.place }
plain_node ts at (nodes.Root p k) e b h = cc
plain_node ts at (nodes.Quotient p k d) e b h = cc
plain_node ts at (nodes.Formless p) e b h = record { fresh = λ ranges. refl; choice = refl; place = refl }

-- ---- assertions

pub record ArePlainClaims (claims : List model.Asserted) : Type 0 where
  pub fresh : (ranges : Ranges) → fresh_of ranges claims ≡ []
  pub none : left_out_of claims ≡ None

plain-here : (a : model.Asserted) → IsPlain a.tree → left_out_in a ≡ None
plain-here a p = go a.is_goal
  where
    go : (g : Bool) → cond g (fresh_place a.tree) (choice_in_root a.tree) ≡ None
    go true = p.place
    go false = p.choice

pub plain_claims : (ts : List Tree) (cs : List Assertion) (claims : List model.Asserted) → ((k : ℕ) → k < length ts → IsPlain (tree_at ts k)) → AreAsserted ts cs claims → ArePlainClaims claims
plain_claims ts [] [] h are = record { fresh = λ ranges. refl; none = refl }
plain_claims ts [] (a ∷ claims) h are = absurd are
plain_claims ts (c ∷ cs) [] h are = absurd are
plain_claims ts (c ∷ cs) (a ∷ claims) h are =
    let here : IsPlain a.tree = subst IsPlain (tree_there ts c a are.0) (h c.tree (tree_within ts c a are.0)) in
    let rest = plain_claims ts cs claims h are.1 in
    record {
      fresh = λ ranges. ap₂ (λ xs ys. xs ++ ys) (here.fresh ranges) (rest.fresh ranges);
      none = ap₂ first_place (plain-here a here) rest.none;
    }
