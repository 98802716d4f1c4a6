use Rattle.std.proofs.Common.{List, [], ◌∷◌, ◌++◌, refl, sym, subst}
use Rattle.script_roots.specs.Fresh.{Asserted}
use Rattle.smt_sexp.specs.Views.{place_of}
use Rattle.root_rewriting.specs.Asserted.{AreAsserted}
use Rattle.root_rewriting.specs.TreeNames.{tree_here}
use Rattle.root_rewriting.specs.Nodes.{trees_in}
use Rattle.root_rewriting.specs.declared.unfold.assertions.Assertion.{Assertion}
use Rattle.root_rewriting.proofs.Asserting as script
use Rattle.root_rewriting.proofs.unfold.assertions.Progress.claim.Goals as goal

pub returns-in_ok-push-in-Ok-clause-asserts : goal.returns-in_ok-push-in-Ok-clause-asserts
returns-in_ok-push-in-Ok-clause-asserts c = λ done are.
    let ts = trees_in c.args.self.now.unfolded.trees in
    let us = trees_in c.tree.new.unfolded.trees in
    let a : Asserted = record { at = place_of c.args.place; is_goal = c.args.is_goal; tree = tree_here c.args.sexps.now c.args.self.now.top c.args.body } in
    let one : Assertion = record { place = c.args.place; is_goal = c.args.is_goal; tree = c.in-Ok.tree } in
    subst (λ (cs : List Assertion). AreAsserted us cs (done ++ (a ∷ []))) (sym c.in_ok-push-in-Ok.ensures.items)
    (script.asserted_more ts us c.in-Ok.ensures.walks.0 one a (record { at = refl; goal = refl; tree = c.in-Ok.ensures.walks.1 }) c.args.self.now.assertions.items done are)
