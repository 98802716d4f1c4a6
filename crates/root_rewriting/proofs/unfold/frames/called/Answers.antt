use Rattle.std.proofs.Common.{ℕ, length, List, ◌++◌, ◌∙◌, ap, append-nil, map, sym, subst, refl}
use Rattle.std.specs.Prelude.{Result, Ok}
use Rattle.std.specs.declared.alloc.AllocError.{AllocError}
use Rattle.script_roots.specs.Tree.{Tree, bound_trees, operator_tree, sqrt_tree}
use Rattle.smt_sexp.specs.Views.{place_of}
use Rattle.smt_script.specs.Views.{parameter_of}
use Rattle.sort_check.specs.Views.{operator_of}
use Rattle.root_rewriting.specs.Nodes.{AreBelow, trees_in}
use Rattle.root_rewriting.specs.TreeNames.{top_names, bound_locals}
use Rattle.root_rewriting.specs.Walking.{AreTrees, Makes, Turns, head_tree}
use Rattle.root_rewriting.specs.declared.unfold.names.Head.{Head}
use Rattle.root_rewriting.specs.declared.unfold.names.Head.TheVariants as head
use Rattle.root_rewriting.specs.declared.unfold.frames.Next.{Next}
use Rattle.root_rewriting.specs.declared.unfold.frames.Next.TheVariants as next
use Rattle.root_rewriting.proofs.Growth as growth
use Rattle.root_rewriting.proofs.Reckoned as reckoned
use Rattle.root_rewriting.specs.Ahead.{head_body}
use Rattle.root_rewriting.proofs.unfold.frames.called.Goals as goal

pub returns-in-Operator-clause-walks : goal.returns-in-Operator-clause-walks
returns-in-Operator-clause-walks c = λ ts are.
    let s = c.args.source.now.sexps.now in
    let top = c.args.source.now.top.now in
    let m = trees_in c.args.trees.now in
    let m1 = trees_in c.operate.new.trees in
    let at = place_of c.args.call.place in
    let x = c.args.call.name.now in
    let h = head.Operator c.in-Operator.operator in
    let made = subst (λ (us : List Tree). Makes m m1 (operator_tree at x (operator_of c.in-Operator.operator) us) c.operate.result) (growth.parts_are m ts c.args.call.parts.items are) c.operate.ensures in
    subst (λ (y : Head). Turns m m1 s top (head_tree s top at x y ts) c.back.result) (sym c.in-Operator.is)
    (subst (λ (r : Result Next AllocError). Turns m m1 s top (head_tree s top at x h ts) r) (sym c.back.ensures) (growth.turns_back s top m m1 (head_tree s top at x h ts) c.operate.result made))

pub returns-in-Sqrt-clause-walks : goal.returns-in-Sqrt-clause-walks
returns-in-Sqrt-clause-walks c = λ ts are.
    let s = c.args.source.now.sexps.now in
    let top = c.args.source.now.top.now in
    let m = trees_in c.args.trees.now in
    let m1 = trees_in c.rooted.new.trees in
    let at = place_of c.args.call.place in
    let x = c.args.call.name.now in
    let all = subst (λ (ks : List ℕ). AreTrees m ts ks) (sym c.as_slice.ensures.value) are in
    let made = subst (λ (us : List Tree). Makes m m1 (sqrt_tree at us) c.rooted.result) (growth.parts_are m ts c.as_slice.result.now all) c.rooted.ensures in
    subst (λ (y : Head). Turns m m1 s top (head_tree s top at x y ts) c.back-in-Sqrt.result) (sym c.in-Sqrt.is)
    (subst (λ (r : Result Next AllocError). Turns m m1 s top (sqrt_tree at ts) r) (sym c.back-in-Sqrt.ensures) (growth.turns_back s top m m1 (sqrt_tree at ts) c.rooted.result made))

pub returns-in-Function-clause-walks : goal.returns-in-Function-clause-walks
returns-in-Function-clause-walks c = λ ts are.
    let d = c.in-Function in
    let s = c.args.source.now.sexps.now in
    let top = c.args.source.now.top.now in
    let m = trees_in c.args.trees.now in
    let at = place_of c.args.call.place in
    let x = c.args.call.name.now in
    let n = next.Enter c.in_ok-scope-in-Function.scope d.body in
    let names = bound_trees (map parameter_of d.parameters.now) ts ++ top_names s top d.visible in
    let ls = c.in_ok-locals-in-Function.locals in
    let all = subst (λ (ks : List ℕ). AreTrees m ts ks) (sym c.as_slice-in-Function.ensures.value) are in
    subst (λ (y : Head). Turns {E = AllocError} m m s top (head_tree s top at x y ts) (Ok n)) (sym d.is) (
      growth.grows_none m,
      record {
        names = names;
        knows = growth.knows_scope m s top d.visible ls names c.in_ok-scope-in-Function.scope c.in_ok-scope-in-Function.ensures
            (growth.knows_bound m s top d.visible d.parameters.now c.as_slice-in-Function.result.now ls ts (c.in_ok-locals-in-Function.ensures ∙ ap (λ xs. c.in_ok-bound-in-Function.bound ++ xs) c.new-none.ensures ∙ append-nil c.in_ok-bound-in-Function.bound ∙ c.in_ok-bound-in-Function.ensures) all);
        is = refl;
      },
    )

pub returns-in-Local-clause-walks : goal.returns-in-Local-clause-walks
returns-in-Local-clause-walks c = λ ts are.
    let s = c.args.source.now.sexps.now in
    let top = c.args.source.now.top.now in
    growth.turns_same s top (trees_in c.args.trees.now) (trees_in c.formless.new.trees) _ _ c.formless.result
    (ap (λ h. head_tree s top (place_of c.args.call.place) c.args.call.name.now h ts) c.in-Local.is) (c.formless.ensures.walks s top)

pub returns-clause-walks : goal.returns-clause-walks
returns-clause-walks c = λ ts are.
    let s = c.args.source.now.sexps.now in
    let top = c.args.source.now.top.now in
    growth.turns_same s top (trees_in c.args.trees.now) (trees_in c.formless-in-Constant.new.trees) _ _ c.formless-in-Constant.result
    (ap (λ h. head_tree s top (place_of c.args.call.place) c.args.call.name.now h ts) c.in-Constant.is) (c.formless-in-Constant.ensures.walks s top)

pub rooted-requires : goal.rooted-requires
rooted-requires c = subst (λ (ks : List ℕ). AreBelow (length c.args.trees.now) ks) (sym c.as_slice.ensures.value) c.requires

pub returns-in-Operator-clause-counts : goal.returns-in-Operator-clause-counts
returns-in-Operator-clause-counts c =
    let s = c.args.source.now.sexps.now in
    let top = c.args.source.now.top.now in
    reckoned.goes_same s top _ 0 c.back.result (ap (λ h. head_body s top h (length c.args.call.parts.items)) c.in-Operator.is) (reckoned.goes_back s top c.operate.result c.back.result c.back.ensures)

pub returns-in-Sqrt-clause-counts : goal.returns-in-Sqrt-clause-counts
returns-in-Sqrt-clause-counts c =
    let s = c.args.source.now.sexps.now in
    let top = c.args.source.now.top.now in
    reckoned.goes_same s top _ 0 c.back-in-Sqrt.result (ap (λ h. head_body s top h (length c.args.call.parts.items)) c.in-Sqrt.is) (reckoned.goes_back s top c.rooted.result c.back-in-Sqrt.result c.back-in-Sqrt.ensures)

pub returns-in-Local-clause-counts : goal.returns-in-Local-clause-counts
returns-in-Local-clause-counts c =
    let s = c.args.source.now.sexps.now in
    let top = c.args.source.now.top.now in
    reckoned.goes_same s top _ 0 c.formless.result (ap (λ h. head_body s top h (length c.args.call.parts.items)) c.in-Local.is) (c.formless.ensures.counts s top)

pub returns-clause-counts : goal.returns-clause-counts
returns-clause-counts c =
    let s = c.args.source.now.sexps.now in
    let top = c.args.source.now.top.now in
    reckoned.goes_same s top _ 0 c.formless-in-Constant.result (ap (λ h. head_body s top h (length c.args.call.parts.items)) c.in-Constant.is) (c.formless-in-Constant.ensures.counts s top)

pub returns-in-Function-clause-counts : goal.returns-in-Function-clause-counts
returns-in-Function-clause-counts c =
    let d = c.in-Function in
    let s = c.args.source.now.sexps.now in
    let top = c.args.source.now.top.now in
    let ks = c.args.call.parts.items in
    let bound = c.in_ok-locals-in-Function.ensures ∙ ap (λ xs. c.in_ok-bound-in-Function.bound ++ xs) c.new-none.ensures ∙ append-nil c.in_ok-bound-in-Function.bound ∙ c.in_ok-bound-in-Function.ensures ∙ ap (bound_locals d.parameters.now) c.as_slice-in-Function.ensures.value in
    ap (λ h. head_body s top h (length ks)) d.is ∙ reckoned.body_enters s top d.visible d.parameters.now d.body ks c.in_ok-locals-in-Function.locals c.in_ok-scope-in-Function.scope bound c.in_ok-scope-in-Function.ensures
