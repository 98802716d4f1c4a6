use Rattle.std.proofs.Common.{List, Some, None, ap, sym, subst}
use Rattle.script_roots.specs.Tree.{symbol_tree}
use Rattle.smt_sexp.specs.Views.{place_of}
use Rattle.root_rewriting.specs.Nodes.{trees_in}
use Rattle.root_rewriting.specs.TreeNames.{IsHead, Knows, top_names}
use Rattle.root_rewriting.specs.declared.unfold.names.Head.{Head}
use Rattle.root_rewriting.specs.declared.unfold.locals.Local.{Local}
use Rattle.root_rewriting.proofs.Growth as growth
use Rattle.root_rewriting.proofs.Lookups as lookups
use Rattle.root_rewriting.proofs.Reckoned as reckoned
use Rattle.script_model.specs.Reading.{found, operators}
use Rattle.script_roots.specs.Reached.{symbol_reached}
use Rattle.root_rewriting.specs.declared.unfold.names.Head.TheVariants as head
use Rattle.root_rewriting.proofs.unfold.expressions.alone.Goals as goal

pub returns-in_default-clause-walks : goal.returns-in_default-clause-walks
returns-in_default-clause-walks c = λ names knows.
    let s = c.args.source.now.sexps.now in
    let top = c.args.source.now.top.now in
    let m = trees_in c.args.trees.now in
    let scope = c.args.scope in
    let n = scope.visible in
    let ls = scope.locals.value in
    let x = c.args.name.now in
    let at = place_of c.args.place in
    let is = subst (λ (xs : List Local). IsHead x top n xs None) c.deref.ensures c.in_default.ensures in
    growth.turns_same s top m (trees_in c.formless.new.trees) _ _ c.formless.result (lookups.alone_unknown m s top n ls names knows x at is) (c.formless.ensures.walks s top)

pub returns-in-Operator-clause-walks : goal.returns-in-Operator-clause-walks
returns-in-Operator-clause-walks c = λ names knows.
    let s = c.args.source.now.sexps.now in
    let top = c.args.source.now.top.now in
    let m = trees_in c.args.trees.now in
    let scope = c.args.scope in
    let n = scope.visible in
    let ls = scope.locals.value in
    let x = c.args.name.now in
    let at = place_of c.args.place in
    let here = subst (λ (xs : List Local). IsHead x top n xs (Some c.in-Some.head)) c.deref.ensures c.in-Some.ensures in
    let is = subst (λ (h : Head). IsHead x top n ls (Some h)) c.in-Operator.is here in
    growth.turns_added s top c.args.trees.now c.atomic.new.self _ _ c.atomic.result c.back.result c.back.ensures c.atomic.ensures.added c.atomic.ensures.last (ap (symbol_tree names at x) is)

pub returns-in-Local-clause-walks : goal.returns-in-Local-clause-walks
returns-in-Local-clause-walks c = λ names knows.
    let s = c.args.source.now.sexps.now in
    let top = c.args.source.now.top.now in
    let m = trees_in c.args.trees.now in
    let scope = c.args.scope in
    let n = scope.visible in
    let ls = scope.locals.value in
    let x = c.args.name.now in
    let at = place_of c.args.place in
    let here = subst (λ (xs : List Local). IsHead x top n xs (Some c.in-Some.head)) c.deref.ensures c.in-Some.ensures in
    let is = subst (λ (h : Head). IsHead x top n ls (Some h)) c.in-Local.is here in
    (growth.grows_none m, lookups.alone_local m s top n ls names knows x at c.in-Local.node is)

pub returns-in-Constant-clause-walks : goal.returns-in-Constant-clause-walks
returns-in-Constant-clause-walks c = λ names knows.
    let s = c.args.source.now.sexps.now in
    let top = c.args.source.now.top.now in
    let m = trees_in c.args.trees.now in
    let scope = c.args.scope in
    let n = scope.visible in
    let ls = scope.locals.value in
    let x = c.args.name.now in
    let at = place_of c.args.place in
    let here = subst (λ (xs : List Local). IsHead x top n xs (Some c.in-Some.head)) c.deref.ensures c.in-Some.ensures in
    let is = subst (λ (h : Head). IsHead x top n ls (Some h)) c.in-Constant.is here in
    growth.turns_added s top c.args.trees.now c.atomic-in-Constant.new.self _ _ c.atomic-in-Constant.result c.back-in-Constant.result c.back-in-Constant.ensures
    c.atomic-in-Constant.ensures.added c.atomic-in-Constant.ensures.last (lookups.alone_constant m s top n ls names knows x at c.in-Constant.declared c.in-Constant.constant is)

pub returns-in-Function-clause-walks : goal.returns-in-Function-clause-walks
returns-in-Function-clause-walks c = λ names knows.
    let s = c.args.source.now.sexps.now in
    let top = c.args.source.now.top.now in
    let m = trees_in c.args.trees.now in
    let scope = c.args.scope in
    let n = scope.visible in
    let ls = scope.locals.value in
    let x = c.args.name.now in
    let at = place_of c.args.place in
    let here = subst (λ (xs : List Local). IsHead x top n xs (Some c.in-Some.head)) c.deref.ensures c.in-Some.ensures in
    let is = subst (λ (h : Head). IsHead x top n ls (Some h)) c.in-Function.is here in
    let d = c.in-Function in
    let names1 = top_names s top d.visible in (
      growth.grows_none m,
      record {
        names = names1;
        knows = growth.knows_scope m s top d.visible c.new.result names1 c.in_ok-inner-in-Function.inner c.in_ok-inner-in-Function.ensures
            (subst (λ (xs : List Local). Knows m s top d.visible xs names1) (sym c.new.ensures) (growth.knows_none m s top d.visible));
        is = lookups.alone_function m s top n ls names knows x at d.visible d.field-1 d.body is;
      },
    )

pub returns-clause-walks : goal.returns-clause-walks
returns-clause-walks c = λ names knows.
    let s = c.args.source.now.sexps.now in
    let top = c.args.source.now.top.now in
    let m = trees_in c.args.trees.now in
    let scope = c.args.scope in
    let n = scope.visible in
    let ls = scope.locals.value in
    let x = c.args.name.now in
    let at = place_of c.args.place in
    let here = subst (λ (xs : List Local). IsHead x top n xs (Some c.in-Some.head)) c.deref.ensures c.in-Some.ensures in
    let is = subst (λ (h : Head). IsHead x top n ls (Some h)) c.in-Sqrt.is here in
    growth.turns_same s top m (trees_in c.formless-in-Sqrt.new.trees) _ _ c.formless-in-Sqrt.result (lookups.alone_sqrt m s top n ls names knows x at is) (c.formless-in-Sqrt.ensures.walks s top)

pub returns-in-Operator-clause-counts : goal.returns-in-Operator-clause-counts
returns-in-Operator-clause-counts c =
    let s = c.args.source.now.sexps.now in
    let top = c.args.source.now.top.now in
    let scope = c.args.scope in
    let x = c.args.name.now in
    let here = subst (λ (xs : List Local). IsHead x top scope.visible xs (Some c.in-Some.head)) c.deref.ensures c.in-Some.ensures in
    let is = subst (λ (h : Head). IsHead x top scope.visible scope.locals.value (Some h)) c.in-Operator.is here in
    reckoned.opens_goes c.args.source.now scope (λ bs. symbol_reached bs x (found x operators)) 0 c.back.result (reckoned.alone_reached s top scope x (head.Operator c.in-Operator.field-0) is) (reckoned.goes_back s top c.atomic.result c.back.result c.back.ensures)

pub returns-in-Constant-clause-counts : goal.returns-in-Constant-clause-counts
returns-in-Constant-clause-counts c =
    let s = c.args.source.now.sexps.now in
    let top = c.args.source.now.top.now in
    let scope = c.args.scope in
    let x = c.args.name.now in
    let here = subst (λ (xs : List Local). IsHead x top scope.visible xs (Some c.in-Some.head)) c.deref.ensures c.in-Some.ensures in
    let is = subst (λ (h : Head). IsHead x top scope.visible scope.locals.value (Some h)) c.in-Constant.is here in
    reckoned.opens_goes c.args.source.now scope (λ bs. symbol_reached bs x (found x operators)) 0 c.back-in-Constant.result (reckoned.alone_reached s top scope x (head.Constant c.in-Constant.declared c.in-Constant.constant) is) (reckoned.goes_back s top c.atomic-in-Constant.result c.back-in-Constant.result c.back-in-Constant.ensures)

pub returns-clause-counts : goal.returns-clause-counts
returns-clause-counts c =
    let s = c.args.source.now.sexps.now in
    let top = c.args.source.now.top.now in
    let scope = c.args.scope in
    let x = c.args.name.now in
    let here = subst (λ (xs : List Local). IsHead x top scope.visible xs (Some c.in-Some.head)) c.deref.ensures c.in-Some.ensures in
    let is = subst (λ (h : Head). IsHead x top scope.visible scope.locals.value (Some h)) c.in-Sqrt.is here in
    reckoned.opens_goes c.args.source.now scope (λ bs. symbol_reached bs x (found x operators)) 0 c.formless-in-Sqrt.result (reckoned.alone_reached s top scope x head.Sqrt is) (c.formless-in-Sqrt.ensures.counts s top)

pub returns-in_default-clause-counts : goal.returns-in_default-clause-counts
returns-in_default-clause-counts c =
    let s = c.args.source.now.sexps.now in
    let top = c.args.source.now.top.now in
    let scope = c.args.scope in
    let x = c.args.name.now in
    let is = subst (λ (xs : List Local). IsHead x top scope.visible xs None) c.deref.ensures c.in_default.ensures in
    reckoned.opens_goes c.args.source.now scope (λ bs. symbol_reached bs x (found x operators)) 0 c.formless.result (reckoned.alone_unknown s top scope x is) (c.formless.ensures.counts s top)

pub returns-in-Local-clause-counts : goal.returns-in-Local-clause-counts
returns-in-Local-clause-counts c =
    let s = c.args.source.now.sexps.now in
    let top = c.args.source.now.top.now in
    let scope = c.args.scope in
    let x = c.args.name.now in
    let here = subst (λ (xs : List Local). IsHead x top scope.visible xs (Some c.in-Some.head)) c.deref.ensures c.in-Some.ensures in
    let is = subst (λ (h : Head). IsHead x top scope.visible scope.locals.value (Some h)) c.in-Local.is here in
    reckoned.alone_reached s top scope x (head.Local c.in-Local.node) is

pub returns-in-Function-clause-counts : goal.returns-in-Function-clause-counts
returns-in-Function-clause-counts c =
    let s = c.args.source.now.sexps.now in
    let top = c.args.source.now.top.now in
    let scope = c.args.scope in
    let x = c.args.name.now in
    let d = c.in-Function in
    let here = subst (λ (xs : List Local). IsHead x top scope.visible xs (Some c.in-Some.head)) c.deref.ensures c.in-Some.ensures in
    let is = subst (λ (h : Head). IsHead x top scope.visible scope.locals.value (Some h)) d.is here in
    reckoned.alone_function s top scope x d.visible d.field-1 d.body is c.in_ok-inner-in-Function.inner c.new.result c.new.ensures c.in_ok-inner-in-Function.ensures
