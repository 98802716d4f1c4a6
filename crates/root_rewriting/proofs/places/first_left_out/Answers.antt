use Rattle.std.proofs.Common.{◌≡◌, ◌-◌, ◌∙◌, ◌∷◌, List, false, length, get_or, take, drop, refl, subst, sym, arith}
use Rattle.root_rewriting.specs.Asserted.{AreAsserted}
use Rattle.root_rewriting.specs.Nodes.{trees_in}
use Rattle.root_rewriting.specs.declared.unfold.assertions.Assertion.{Assertion}
use Rattle.root_rewriting.proofs.Arena.{nodes_length}
use Rattle.root_rewriting.proofs.TreeLists.{none_left}
use Rattle.root_rewriting.proofs.Listing.{first_there}
use Rattle.root_rewriting.proofs.Sites.{InLeftOut, leaves_end, leaves_found, leaves_next, within_either}
use Rattle.root_rewriting.proofs.Tables.{begins}
use Rattle.root_rewriting.proofs.places.first_left_out.Goals as goal

pub loop-rest-init : goal.loop-rest-init
loop-rest-init c =
    subst (λ (us : List Assertion). InLeftOut (trees_in c.args.asserted.now.trees) c.args.asserted.now.assertions.items us) (sym c.as_slice-rest.ensures.value)
    (record { some = c.requires.assertions; leaves = λ claims are. record { left = claims; are = are; ends = refl } })

pub place_in-requires-clause-choices : goal.place_in-requires-clause-choices
place_in-requires-clause-choices c =
    let item : Assertion = (get_or c.loop-rest.rest.now 0 (record { place = record { line = 0; column = 0 }; is_goal = false; tree = 0 })) in
    let later : List Assertion = (take (length c.loop-rest.rest.now - 1) (drop 1 c.loop-rest.rest.now)) in
    let is : c.loop-rest.rest.now ≡ item ∷ later = (first_there c.loop-rest.rest.now (record { place = record { line = 0; column = 0 }; is_goal = false; tree = 0 }) (omega (arith, c.in-len1-up.len_at_least))) in
    let some = c.loop-rest.invariant.some in
    let lt = within_either (trees_in c.args.asserted.now.trees) c.args.choices.now c.args.fresh.now c.requires.choices c.requires.fresh (c.requires.all ∙ sym (nodes_length c.args.asserted.now.trees)) (c.requires.both ∙ sym (nodes_length c.args.asserted.now.trees)) item some.0 later (subst (λ (us : List Assertion). AreAsserted (trees_in c.args.asserted.now.trees) us some.0) is some.1) in
    lt.0

pub place_in-requires-clause-fresh : goal.place_in-requires-clause-fresh
place_in-requires-clause-fresh c =
    let item : Assertion = (get_or c.loop-rest.rest.now 0 (record { place = record { line = 0; column = 0 }; is_goal = false; tree = 0 })) in
    let later : List Assertion = (take (length c.loop-rest.rest.now - 1) (drop 1 c.loop-rest.rest.now)) in
    let is : c.loop-rest.rest.now ≡ item ∷ later = (first_there c.loop-rest.rest.now (record { place = record { line = 0; column = 0 }; is_goal = false; tree = 0 }) (omega (arith, c.in-len1-up.len_at_least))) in
    let some = c.loop-rest.invariant.some in
    let lt = within_either (trees_in c.args.asserted.now.trees) c.args.choices.now c.args.fresh.now c.requires.choices c.requires.fresh (c.requires.all ∙ sym (nodes_length c.args.asserted.now.trees)) (c.requires.both ∙ sym (nodes_length c.args.asserted.now.trees)) item some.0 later (subst (λ (us : List Assertion). AreAsserted (trees_in c.args.asserted.now.trees) us some.0) is some.1) in
    lt.1

pub returns-in-Some : goal.returns-in-Some
returns-in-Some c = λ claims are.
    let item : Assertion = (get_or c.loop-rest.rest.now 0 (record { place = record { line = 0; column = 0 }; is_goal = false; tree = 0 })) in
    let later : List Assertion = (take (length c.loop-rest.rest.now - 1) (drop 1 c.loop-rest.rest.now)) in
    let is : c.loop-rest.rest.now ≡ item ∷ later = (first_there c.loop-rest.rest.now (record { place = record { line = 0; column = 0 }; is_goal = false; tree = 0 }) (omega (arith, c.in-len1-up.len_at_least))) in
    leaves_found (trees_in c.args.asserted.now.trees) c.args.choices.now c.args.fresh.now c.requires.choices c.requires.fresh (c.requires.all ∙ sym (nodes_length c.args.asserted.now.trees)) (c.requires.both ∙ sym (nodes_length c.args.asserted.now.trees)) item later c.loop-rest.rest.now claims c.in-Some.place (c.loop-rest.invariant.leaves claims are) is (sym c.in-Some.ensures)

pub loop-rest-preserved : goal.loop-rest-preserved
loop-rest-preserved c =
    let item : Assertion = (get_or c.loop-rest.rest.now 0 (record { place = record { line = 0; column = 0 }; is_goal = false; tree = 0 })) in
    let later : List Assertion = (take (length c.loop-rest.rest.now - 1) (drop 1 c.loop-rest.rest.now)) in
    let is : c.loop-rest.rest.now ≡ item ∷ later = (first_there c.loop-rest.rest.now (record { place = record { line = 0; column = 0 }; is_goal = false; tree = 0 }) (omega (arith, c.in-len1-up.len_at_least))) in
    let some = c.loop-rest.invariant.some in
    let b = begins (trees_in c.args.asserted.now.trees) item later some.0 (subst (λ (us : List Assertion). AreAsserted (trees_in c.args.asserted.now.trees) us some.0) is some.1) in
    record {
      some = (b.rest, b.others);
      leaves = λ claims are. leaves_next (trees_in c.args.asserted.now.trees) c.args.choices.now c.args.fresh.now c.requires.choices c.requires.fresh (c.requires.all ∙ sym (nodes_length c.args.asserted.now.trees)) (c.requires.both ∙ sym (nodes_length c.args.asserted.now.trees)) item later c.loop-rest.rest.now claims (c.loop-rest.invariant.leaves claims are) is (sym (c.place_in.ensures) ∙ c.in_default-place_in.is);
    }

pub returns : goal.returns
returns c = λ claims are. leaves_end (trees_in c.args.asserted.now.trees) c.loop-rest.rest.now claims (c.loop-rest.invariant.leaves claims are) (none_left c.loop-rest.rest.now c.in_default.len_below)
