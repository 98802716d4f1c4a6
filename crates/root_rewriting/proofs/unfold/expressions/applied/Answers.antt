use Rattle.std.proofs.Common.{ℕ, length, List, [], Some, None, sym, ◌∙◌, subst, ◌+◌}
use Rattle.script_model.specs.Reading.{found, operators}
use Rattle.script_roots.specs.Tree.{all_trees, application_tree}
use Rattle.smt_sexp.specs.Arena.{rest_of}
use Rattle.smt_sexp.specs.Views.{place_of}
use Rattle.root_rewriting.specs.Nodes.{AreBelow, trees_in}
use Rattle.root_rewriting.specs.TreeNames.{IsHead}
use Rattle.root_rewriting.specs.Walking.{AreTrees}
use Rattle.root_rewriting.specs.declared.unfold.locals.Local.{Local}
use Rattle.root_rewriting.proofs.ByForm as forms
use Rattle.root_rewriting.proofs.Growth as growth
use Rattle.root_rewriting.proofs.Lookups as lookups
use Rattle.root_rewriting.proofs.Waiting as waiting
use Rattle.root_rewriting.proofs.Reckoned as reckoned
use Rattle.root_rewriting.specs.Ahead.{GoesOn, head_body, scope_bodies}
use Rattle.script_roots.specs.Reached.{all_reached, application_reached, total}
use Rattle.root_rewriting.proofs.unfold.expressions.applied.Goals as goal

pub call_on-requires : goal.call_on-requires
call_on-requires c = subst (λ (ks : List ℕ). AreBelow (length c.args.trees.now) ks) (sym c.new.ensures.items) tt

pub returns-clause-walks : goal.returns-clause-walks
returns-clause-walks c = λ names knows.
    let s = c.args.source.now.sexps.now in
    let top = c.args.source.now.top.now in
    let m = trees_in c.args.trees.now in
    let scope = c.args.scope in
    let ls = scope.locals.value in
    let at = place_of c.args.place in
    let x = c.args.name.now in
    let h = c.in-Some.head in
    let items = rest_of s c.args.args in
    let is = subst (λ (xs : List Local). IsHead x top scope.visible xs (Some h)) c.deref.ensures c.in-Some.ensures in
    c.call_on.ensures.walks (application_tree names at x (found x operators) (all_trees names items)) (record {
      names = names;
      knows = knows;
      done = [];
      parts = subst (λ (ks : List ℕ). AreTrees m [] ks) (sym c.new.ensures.items) tt;
      call = waiting.applied_begins m s top scope.visible ls names knows x at h items is (sym c.ends.ensures ∙ c.if-ends.false);
    })

pub returns-in_default-clause-walks : goal.returns-in_default-clause-walks
returns-in_default-clause-walks c = λ names knows.
    let s = c.args.source.now.sexps.now in
    let top = c.args.source.now.top.now in
    let m = trees_in c.args.trees.now in
    let scope = c.args.scope in
    let ls = scope.locals.value in
    let x = c.args.name.now in
    let is = subst (λ (xs : List Local). IsHead x top scope.visible xs None) c.deref.ensures c.in_default.ensures in
    growth.turns_same s top m (trees_in c.formless.new.trees) _ _ c.formless.result
    (lookups.applied_unknown m s top scope.visible ls names knows x (place_of c.args.place) (all_trees names (rest_of s c.args.args)) is) (c.formless.ensures.walks s top)

pub returns-then-ends-clause-walks : goal.returns-then-ends-clause-walks
returns-then-ends-clause-walks c = λ names knows.
    let s = c.args.source.now.sexps.now in
    let top = c.args.source.now.top.now in
    let x = c.args.name.now in
    growth.turns_same s top (trees_in c.args.trees.now) (trees_in c.formless-then-ends.new.trees) _ _ c.formless-then-ends.result
    (forms.applied_bare names (place_of c.args.place) x (found x operators) (rest_of s c.args.args) (sym c.ends.ensures ∙ c.if-ends.true)) (c.formless-then-ends.ensures.walks s top)

pub returns-clause-counts : goal.returns-clause-counts
returns-clause-counts c =
    let s = c.args.source.now.sexps.now in
    let top = c.args.source.now.top.now in
    let scope = c.args.scope in
    let x = c.args.name.now in
    let h = c.in-Some.head in
    let items = rest_of s c.args.args in
    let ns = all_reached (scope_bodies s top scope) items in
    let is = subst (λ (xs : List Local). IsHead x top scope.visible xs (Some h)) c.deref.ensures c.in-Some.ensures in
    let begins = subst (λ (ks : List ℕ). GoesOn s top (total ns + head_body s top h (length ks + length ns)) c.call_on.result) c.new.ensures.items c.call_on.ensures.counts in
    reckoned.opens_goes c.args.source.now scope (λ bs. application_reached bs x (found x operators) (all_reached bs items)) (total ns + head_body s top h (0 + length ns)) c.call_on.result
    (reckoned.applied_begins s top scope x h items (sym c.ends.ensures ∙ c.if-ends.false) is) begins

pub returns-in_default-clause-counts : goal.returns-in_default-clause-counts
returns-in_default-clause-counts c =
    let s = c.args.source.now.sexps.now in
    let top = c.args.source.now.top.now in
    let scope = c.args.scope in
    let x = c.args.name.now in
    let items = rest_of s c.args.args in
    let is = subst (λ (xs : List Local). IsHead x top scope.visible xs None) c.deref.ensures c.in_default.ensures in
    reckoned.opens_goes c.args.source.now scope (λ bs. application_reached bs x (found x operators) (all_reached bs items)) 0 c.formless.result
    (reckoned.applied_unknown s top scope x (all_reached (scope_bodies s top scope) items) is) (c.formless.ensures.counts s top)

pub returns-then-ends-clause-counts : goal.returns-then-ends-clause-counts
returns-then-ends-clause-counts c =
    let s = c.args.source.now.sexps.now in
    let top = c.args.source.now.top.now in
    let x = c.args.name.now in
    let items = rest_of s c.args.args in
    reckoned.opens_goes c.args.source.now c.args.scope (λ bs. application_reached bs x (found x operators) (all_reached bs items)) 0 c.formless-then-ends.result
    (reckoned.applied_bare (scope_bodies s top c.args.scope) x (found x operators) items (sym c.ends.ensures ∙ c.if-ends.true)) (c.formless-then-ends.ensures.counts s top)
