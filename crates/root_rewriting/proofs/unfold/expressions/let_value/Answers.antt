use Rattle.std.proofs.Common.{List, [], ap, sym, subst, ◌+◌, ◌++◌}
use Rattle.smt_sexp.specs.Arena.{rest_of, expression_at}
use Rattle.smt_sexp.specs.Views.{place_of}
use Rattle.root_rewriting.specs.Nodes.{trees_in}
use Rattle.root_rewriting.specs.TreeNames.{AreLocals}
use Rattle.root_rewriting.specs.LetParts.{as_let, let_of, let_parts_reached}
use Rattle.root_rewriting.specs.declared.unfold.locals.Local.{Local}
use Rattle.root_rewriting.proofs.Growth as growth
use Rattle.root_rewriting.proofs.Reckoned as reckoned
use Rattle.root_rewriting.specs.Ahead.{GoesOn, local_bodies, scope_bodies}
use Rattle.script_roots.specs.Reached.{binding_bodies, bindings_reached, reached_in}
use Rattle.root_rewriting.proofs.unfold.expressions.let_value.Goals as goal

pub returns-clause-walks : goal.returns-clause-walks
returns-clause-walks c = λ names knows.
    let s = c.args.source.now.sexps.now in
    let m = trees_in c.args.trees.now in
    let at = place_of c.args.place in
    c.let_on.ensures.walks m (let_of names at (as_let (rest_of s c.args.at))) (record {
      names = names;
      knows = knows;
      done = [];
      stand = subst (λ (ls : List Local). AreLocals m ls []) (sym c.new.ensures) tt;
      binds = ap (let_of names at) c.in-Some.ensures.0;
    })

pub returns-in_default-clause-walks : goal.returns-in_default-clause-walks
returns-in_default-clause-walks c = λ names knows.
    let s = c.args.source.now.sexps.now in
    let top = c.args.source.now.top.now in
    growth.turns_same s top (trees_in c.args.trees.now) (trees_in c.formless.new.trees) _ _ c.formless.result (ap (let_of names (place_of c.args.place)) c.in_default.ensures) (c.formless.ensures.walks s top)

pub returns-clause-counts : goal.returns-clause-counts
returns-clause-counts c =
    let s = c.args.source.now.sexps.now in
    let top = c.args.source.now.top.now in
    let scope = c.args.scope in
    let inside = c.in-Some.inside in
    let bodies = scope_bodies s top scope in
    let n = bindings_reached bodies (rest_of s inside) + reached_in (binding_bodies (rest_of s inside) ++ bodies) (expression_at s c.in-Some.body) in
    let begins = subst (λ (ls : List Local). GoesOn s top (bindings_reached bodies (rest_of s inside) + reached_in ((local_bodies ls ++ binding_bodies (rest_of s inside)) ++ bodies) (expression_at s c.in-Some.body)) c.let_on.result)
    c.new.ensures c.let_on.ensures.counts in
    reckoned.opens_goes c.args.source.now scope (λ bs. let_parts_reached bs (as_let (rest_of s c.args.at))) n c.let_on.result (ap (let_parts_reached bodies) c.in-Some.ensures.0) begins

pub returns-in_default-clause-counts : goal.returns-in_default-clause-counts
returns-in_default-clause-counts c =
    let s = c.args.source.now.sexps.now in
    let top = c.args.source.now.top.now in
    reckoned.opens_goes c.args.source.now c.args.scope (λ bs. let_parts_reached bs (as_let (rest_of s c.args.at))) 0 c.formless.result
    (ap (let_parts_reached (scope_bodies s top c.args.scope)) c.in_default.ensures) (c.formless.ensures.counts s top)
