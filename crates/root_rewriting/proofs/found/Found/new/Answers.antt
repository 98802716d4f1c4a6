use Rattle.std.proofs.Common.{List, ℕ, length, subst, sym, arith}
use Rattle.root_rewriting.specs.Nodes.{AreBelow}
use Rattle.root_rewriting.proofs.Listing.{found_none}
use Rattle.root_rewriting.proofs.found.Found.new.Goals as goal

pub returns-clause-sized : goal.returns-clause-sized
returns-clause-sized c = record {
  listed = omega (arith, c.in_ok-vec.ensures.len, c.len-count.ensures, c.in_ok-vec.field-0.ok.0);
  marked = omega (arith, c.in_ok-vec-2.ensures.len, c.len-count.ensures, c.in_ok-vec-2.field-0.ok.0);
  order = subst (λ (ks : List ℕ). AreBelow (length c.args.source.now.trees.now) ks) (sym c.new.ensures.items) tt;
}

pub returns-clause-found : goal.returns-clause-found
returns-clause-found c = λ ranges.
    found_none ranges c.args.source.now _ c.len-count.result c.len-count.result
    (c.in_ok-vec.ensures.items_if_clones_equal (λ y e. e)) (c.in_ok-vec-2.ensures.items_if_clones_equal (λ y e. e)) c.new.ensures.items
