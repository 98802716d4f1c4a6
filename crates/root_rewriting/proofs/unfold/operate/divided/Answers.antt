use Rattle.std.proofs.Common.{◌≡◌, ◌-◌, arith, [], ◌∷◌, true, length, take, drop, get_or, ap, sym, ◌∙◌, subst}
use Rattle.std.specs.Prelude.{cond}
use Rattle.script_model.specs.Meaning.{from_left}
use Rattle.script_roots.specs.Tree as model
use Rattle.script_roots.specs.Tree.{Tree, applied, formless, trees_of}
use Rattle.smt_sexp.specs.Views.{place_of}
use Rattle.root_rewriting.specs.Nodes.{parts_at, tree_at, trees_in}
use Rattle.root_rewriting.specs.Walking.{Makes}
use Rattle.root_rewriting.proofs.Growth as growth
use Rattle.root_rewriting.proofs.TreeLists.{first_of_some, none_left}
use Rattle.root_rewriting.proofs.unfold.operate.divided.Goals as goal

pub returns-in-empty : goal.returns-in-empty
returns-in-empty c =
    let m = trees_in c.args.trees.now in
    let at = place_of c.args.place in
    let x = c.args.name.now in
    let none : c.args.parts.items ≡ [] = sym c.as_slice.ensures.value ∙ none_left c.as_slice.result.now c.in-empty.len_below in
    subst (λ (t : Tree). Makes m (trees_in c.formless.new.self) t c.formless.result) (sym (ap (λ ks. model.divided at x (parts_at m ks)) none))
    (growth.makes_added c.args.trees.now c.formless.new.self (formless at) c.formless.result c.formless.ensures.added c.formless.ensures.last)

pub returns-then-are_numbers : goal.returns-then-are_numbers
returns-then-are_numbers c =
    let m = trees_in c.args.trees.now in
    let at = place_of c.args.place in
    let x = c.args.name.now in
    let ks = c.as_slice.result.now in
    let k = get_or ks 0 0 in
    let later = take (length ks - 1) (drop 1 ks) in
    let is : ks ≡ k ∷ later = first_of_some ks (omega (arith, c.in-len1-up.len_at_least)) in
    let all = parts_at m c.args.parts.items in
    let numbers : model.are_numbers (trees_of (parts_at m later)) ≡ true = sym c.are_numbers.ensures ∙ c.if-are_numbers.true in
    let by = from_left (model.divide_two at x) (tree_at m k) (parts_at m later) in
    let same : model.divided at x all ≡ applied at x (trees_of all) =
    ap (λ js. model.divided at x (parts_at m js)) (sym c.as_slice.ensures.value ∙ is) ∙ ap (λ b. cond b (applied at x (trees_of (tree_at m k ∷ parts_at m later))) by) numbers ∙
    ap (λ js. applied at x (trees_of (parts_at m js))) (sym is ∙ c.as_slice.ensures.value) in
    subst (λ (t : Tree). Makes m (trees_in c.applied.new.self) t c.applied.result) (sym same)
    (growth.makes_added c.args.trees.now c.applied.new.self (applied at x (trees_of all)) c.applied.result c.applied.ensures.added c.applied.ensures.last)
