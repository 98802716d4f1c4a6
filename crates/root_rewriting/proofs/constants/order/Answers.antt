use Rattle.std.proofs.Common.{◌≡◌, ◌-◌, ◌∷◌, [], List, false, length, get_or, take, drop, refl, subst, arith}
use Rattle.root_rewriting.specs.Asserted.{AreAsserted}
use Rattle.root_rewriting.specs.Nodes.{trees_in}
use Rattle.root_rewriting.specs.declared.unfold.assertions.Assertion.{Assertion}
use Rattle.root_rewriting.proofs.Arena.{nodes_length}
use Rattle.root_rewriting.proofs.TreeLists.{none_left}
use Rattle.root_rewriting.proofs.Listing.{first_there}
use Rattle.root_rewriting.proofs.Tables.{begins, orders_end, orders_next, tree_within}
use Rattle.root_rewriting.proofs.constants.order.Goals as goal

pub loop-rest-init : goal.loop-rest-init
loop-rest-init c = record {
  sized = c.in_ok-found.ensures.sized;
  some = c.requires.assertions;
  orders = λ names claims own are. record { left = claims; seen = []; are = are; found = c.in_ok-found.ensures.found names; ends = refl };
}

pub walk-requires-clause-at : goal.walk-requires-clause-at
walk-requires-clause-at c =
    let some = c.loop-rest.invariant.some in
    let b = begins (trees_in c.args.source.now.trees.now) (get_or c.loop-rest.rest.now 0 (record { place = record { line = 0; column = 0 }; is_goal = false; tree = 0 })) (take (length c.loop-rest.rest.now - 1) (drop 1 c.loop-rest.rest.now)) some.0 (subst (λ (us : List Assertion). AreAsserted (trees_in c.args.source.now.trees.now) us some.0) (first_there c.loop-rest.rest.now (record { place = record { line = 0; column = 0 }; is_goal = false; tree = 0 }) (omega (arith, c.in-len1-up.len_at_least))) some.1) in
    let lt = tree_within (trees_in c.args.source.now.trees.now) (get_or c.loop-rest.rest.now 0 (record { place = record { line = 0; column = 0 }; is_goal = false; tree = 0 })) b.first b.one in omega (arith, nodes_length c.args.source.now.trees.now)

pub loop-rest-preserved : goal.loop-rest-preserved
loop-rest-preserved c =
    let item : Assertion = (get_or c.loop-rest.rest.now 0 (record { place = record { line = 0; column = 0 }; is_goal = false; tree = 0 })) in
    let later : List Assertion = (take (length c.loop-rest.rest.now - 1) (drop 1 c.loop-rest.rest.now)) in
    let is : c.loop-rest.rest.now ≡ item ∷ later = (first_there c.loop-rest.rest.now (record { place = record { line = 0; column = 0 }; is_goal = false; tree = 0 }) (omega (arith, c.in-len1-up.len_at_least))) in
    let some = c.loop-rest.invariant.some in
    let b = begins (trees_in c.args.source.now.trees.now) item later some.0 (subst (λ (us : List Assertion). AreAsserted (trees_in c.args.source.now.trees.now) us some.0) is some.1) in
    record {
      sized = c.in_ok-walk.ensures.sized;
      some = (b.rest, b.others);
      orders = λ names claims own are. orders_next names c.args.source.now c.loop-rest.found c.walk.new.found item later c.loop-rest.rest.now claims is (c.loop-rest.invariant.orders names claims own are)
          (λ seen found. c.in_ok-walk.ensures.found names seen own found);
    }

pub returns-clause-below : goal.returns-clause-below
returns-clause-below c = c.loop-rest.invariant.sized.order

pub returns-clause-once : goal.returns-clause-once
returns-clause-once c = λ names claims own are. orders_end names c.args.source.now c.loop-rest.found c.loop-rest.rest.now claims (none_left c.loop-rest.rest.now c.in_default.len_below) (c.loop-rest.invariant.orders names claims own are)
