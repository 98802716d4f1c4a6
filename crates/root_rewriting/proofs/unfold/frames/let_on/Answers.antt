use Rattle.std.proofs.Common.{List, ◌++◌, ap, sym, ◌∙◌, subst}
use Rattle.smt_sexp.specs.Views.{place_of}
use Rattle.root_rewriting.specs.TreeNames.{Knows}
use Rattle.root_rewriting.specs.declared.unfold.locals.Local.{Local}
use Rattle.root_rewriting.proofs.Growth as growth
use Rattle.root_rewriting.proofs.Waiting as waiting
use Rattle.root_rewriting.proofs.Reckoned as reckoned
use Rattle.root_rewriting.specs.Ahead.{local_bodies}
use Rattle.root_rewriting.proofs.unfold.frames.let_on.Goals as goal

pub returns-in_ok-scope-in-Some-clause-walks : goal.returns-in_ok-scope-in-Some-clause-walks
returns-in_ok-scope-in-Some-clause-walks c = λ m t h.
    (growth.grows_none m, waiting.let_next m c.args.source.now.sexps.now c.args.source.now.top.now c.args.bindings t h c.in-Some.name (place_of c.in-Some.field-0-0) c.in-Some.at c.in-Some.after c.in_ok-scope-in-Some.scope c.in-Some.ensures.0 c.in_ok-scope-in-Some.ensures)

pub returns-in_ok-inner-in-None-clause-walks : goal.returns-in_ok-inner-in-None-clause-walks
returns-in_ok-inner-in-None-clause-walks c = λ m t h.
    let s = c.args.source.now.sexps.now in
    let top = c.args.source.now.top.now in
    let l = c.args.bindings in
    let ls = c.in_ok-locals-in-None.locals in
    let all = c.in_ok-locals-in-None.ensures ∙ ap (λ xs. l.bound ++ xs) c.deref.ensures in (
      growth.grows_none m,
      record {
        names = h.done ++ h.names;
        knows = growth.knows_scope m s top l.scope.visible ls (h.done ++ h.names) c.in_ok-inner-in-None.inner c.in_ok-inner-in-None.ensures
            (subst (λ (xs : List Local). Knows m s top l.scope.visible xs (h.done ++ h.names)) (sym all) (growth.knows_more m s top l.scope.visible l.bound l.scope.locals.value h.done h.names h.stand h.knows));
        is = waiting.let_last m s top l t h c.in-None.ensures;
      },
    )

pub returns-in_ok-scope-in-Some-clause-counts : goal.returns-in_ok-scope-in-Some-clause-counts
returns-in_ok-scope-in-Some-clause-counts c =
    reckoned.let_next c.args.source.now.sexps.now c.args.source.now.top.now c.args.bindings (local_bodies c.args.bindings.bound) c.in-Some.name (place_of c.in-Some.field-0-0) c.in-Some.at c.in-Some.after c.in_ok-scope-in-Some.scope
    c.in-Some.ensures.0 c.in_ok-scope-in-Some.ensures

pub returns-in_ok-inner-in-None-clause-counts : goal.returns-in_ok-inner-in-None-clause-counts
returns-in_ok-inner-in-None-clause-counts c =
    let s = c.args.source.now.sexps.now in
    let top = c.args.source.now.top.now in
    let l = c.args.bindings in
    let all = c.in_ok-locals-in-None.ensures ∙ ap (λ xs. l.bound ++ xs) c.deref.ensures in
    reckoned.let_enters s top l c.in_ok-locals-in-None.locals c.in_ok-inner-in-None.inner c.in-None.ensures all c.in_ok-inner-in-None.ensures
