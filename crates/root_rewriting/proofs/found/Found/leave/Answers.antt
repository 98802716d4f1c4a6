use Rattle.std.proofs.Common.{◌∙◌, refl, arith}
use Rattle.std.proofs.lemmas.List.{length-set}
use Rattle.script_roots.specs.Fresh.{once}
use Rattle.root_rewriting.specs.Nodes.{tree_at, trees_in}
use Rattle.root_rewriting.specs.Found.{own_in}
use Rattle.root_rewriting.proofs.Listing.{found_marked}
use Rattle.root_rewriting.proofs.Once.{all_known}
use Rattle.root_rewriting.proofs.found.Found.leave.Goals as goal

pub index_mut-requires : goal.index_mut-requires
index_mut-requires c = omega (arith, c.in_ok-list.ensures.sized.marked, c.list.new.self.marked.ok.0, c.requires.at)

pub returns-clause-sized : goal.returns-clause-sized
returns-clause-sized c = record {
  listed = c.in_ok-list.ensures.sized.listed;
  marked = length-set c.list.new.self.marked.items c.args.at _ ∙ c.in_ok-list.ensures.sized.marked;
  order = c.in_ok-list.ensures.sized.order;
}

pub returns-clause-found : goal.returns-clause-found
returns-clause-found c = λ ranges seen own found inner.
    let here = tree_at (trees_in c.args.source.now.trees.now) c.args.at in
    found_marked ranges c.args.source.now c.list.new.self c.args.at (once seen (own_in ranges here)) (c.in_ok-list.ensures.found ranges seen own found)
    (all_known ranges here seen inner) _ refl refl refl
