-- Quotients from left to right.
use Rattle.std.proofs.Common.{◌≡◌, ℕ, ◌<◌, arith, List, [], ◌∷◌, length, length-append, Some, refl, ap, sym, ◌∙◌, subst}
use Rattle.std.specs.Prelude.{Ok, slice_get}
use Rattle.std.specs.declared.alloc.AllocError.{AllocError}
use Rattle.script_model.specs.Sexp.{Place}
use Rattle.script_model.specs.Meaning.{from_left}
use Rattle.script_roots.specs.Tree.{Tree, divide_two}
use Rattle.root_rewriting.specs.Nodes.{AreBelow, parts_at, tree_at, trees_in}
use Rattle.root_rewriting.specs.Walking.{Grows, Makes}
use Rattle.root_rewriting.specs.declared.unfold.trees.Node.{Node}
use Rattle.root_rewriting.proofs.Arena.{nodes_length, tree_before, tree_got, tree_there}
use Rattle.root_rewriting.proofs.Growth.{grows_none, grows_then, node_below}

-- the quotient so far, and the divisors that are left
pub record Divides (start now : List Node) (at : Place) (x : List ℕ) (t : Tree) (ds : List Tree) (made : ℕ) (rest : List ℕ) : Type 0 where
  pub grows : Grows (trees_in start) (trees_in now)
  pub there : made < length now
  pub below : AreBelow (length start) rest
  pub same : from_left (divide_two at x) t ds ≡ from_left (divide_two at x) (tree_at (trees_in now) made) (parts_at (trees_in start) rest)

pub divides_begins : (start : List Node) (at : Place) (x : List ℕ) (made : ℕ) (rest : List ℕ) → made < length start → AreBelow (length start) rest →
    Divides start start at x (tree_at (trees_in start) made) (parts_at (trees_in start) rest) made rest
divides_begins start at x made rest there below = record { grows = grows_none (trees_in start); there = there; below = below; same = refl }

pub still_below : (start now : List Node) (k : ℕ) → Grows (trees_in start) (trees_in now) → k < length start → k < length now
still_below start now k g h = omega (arith, nodes_length start, nodes_length now, ap length g.1, length-append (trees_in start) g.0)

still-there : (start now : List Node) (k : ℕ) → Grows (trees_in start) (trees_in now) → k < length start → tree_at (trees_in now) k ≡ tree_at (trees_in start) k
still-there start now k g h = ap (λ ts. tree_at ts k) g.1 ∙ tree_before (trees_in start) g.0 k (omega (arith, h, nodes_length start))

module _ (start now : List Node) (at : Place) (x : List ℕ) (t : Tree) (ds : List Tree) (made : ℕ) (rest : List ℕ) (h : Divides start now at x t ds made rest) where
  module _ (d : ℕ) (later : List ℕ) (is : rest ≡ d ∷ later) where
    first-below : AreBelow (length start) (d ∷ later)
    first-below = subst (λ (ks : List ℕ). AreBelow (length start) ks) is h.below

    pub divisor_there : d < length now
    divisor_there = still_below start now d h.grows first-below.0

    pub divides_goes : (new : List Node) (k : ℕ) → Makes {E = AllocError} (trees_in now) (trees_in new) (divide_two at x (tree_at (trees_in now) made) (tree_at (trees_in now) d)) (Ok k) → Divides start new at x t ds k later
    divides_goes new k m =
        let got = tree_got (trees_in new) k (divide_two at x (tree_at (trees_in now) made) (tree_at (trees_in now) d)) m.1 in
        let one = ap (divide_two at x (tree_at (trees_in now) made)) (sym (still-there start now d h.grows first-below.0)) ∙ sym got in
        record {
          grows = grows_then (trees_in start) (trees_in now) (trees_in new) h.grows m.0;
          there = node_below new k (divide_two at x (tree_at (trees_in now) made) (tree_at (trees_in now) d)) m.1;
          below = first-below.1;
          same = h.same ∙ ap (λ ks. from_left (divide_two at x) (tree_at (trees_in now) made) (parts_at (trees_in start) ks)) is ∙
              ap (λ u. from_left (divide_two at x) u (parts_at (trees_in start) later)) one;
        }

  pub divides_ends : rest ≡ [] → Grows (trees_in start) (trees_in now) × (slice_get (trees_in now) made ≡ Some (from_left (divide_two at x) t ds))
  divides_ends is = (
    h.grows,
    tree_there (trees_in now) made (omega (arith, h.there, nodes_length now)) ∙
        ap (λ u. Some u) (sym (h.same ∙ ap (λ ks. from_left (divide_two at x) (tree_at (trees_in now) made) (parts_at (trees_in start) ks)) is)),
  )
