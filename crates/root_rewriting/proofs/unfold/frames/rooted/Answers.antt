use Rattle.std.proofs.Common.{◌≡◌, ℕ, List, [], ◌∷◌, arith, length, get_or, ap, sym, refl, subst}
use Rattle.script_model.specs.Sexp.{Place}
use Rattle.script_roots.specs.Tree.{Tree, formless, root, sqrt_tree}
use Rattle.smt_sexp.specs.Views.{place_of}
use Rattle.root_rewriting.specs.Nodes.{parts_at, tree_at, trees_in}
use Rattle.root_rewriting.specs.Walking.{Makes}
use Rattle.root_rewriting.proofs.Growth as growth
use Rattle.root_rewriting.proofs.TreeLists.{only_one}
use Rattle.root_rewriting.proofs.unfold.frames.rooted.Goals as goal

pub returns-in-len1 : goal.returns-in-len1
returns-in-len1 c =
    let m = trees_in c.args.trees.now in
    let at = place_of c.args.place in
    let ks = c.args.parts.now in
    let one = only_one ks (omega (arith, c.in-len1.len_at_least)) (omega (arith, c.in-len1.len_below)) in
    subst (λ (t : Tree). Makes m (trees_in c.root.new.self) t c.root.result) (sym (ap (λ js. sqrt_tree at (parts_at m js)) one))
    (growth.makes_added c.args.trees.now c.root.new.self (root at (tree_at m (get_or ks 0 0))) c.root.result c.root.ensures.added c.root.ensures.last)

other : (m : List Tree) (at : Place) (ks : List ℕ) → (length ks ≡ 1 → ⊥) → sqrt_tree at (parts_at m ks) ≡ formless at
other m at [] f = refl
other m at (k ∷ []) f = let none : ⊥ = f refl in elim none [ ]
other m at (k ∷ j ∷ ks) f = refl

pub returns-in-empty : goal.returns-in-empty
returns-in-empty c =
    let m = trees_in c.args.trees.now in
    let at = place_of c.args.place in
    let ks = c.args.parts.now in
    let not_one : length ks ≡ 1 → ⊥ = λ e. omega (arith, c.in-empty.len_below, e) in
    subst (λ (t : Tree). Makes m (trees_in c.formless.new.self) t c.formless.result) (sym (other m at ks not_one))
    (growth.makes_added c.args.trees.now c.formless.new.self (formless at) c.formless.result c.formless.ensures.added c.formless.ensures.last)

pub returns-in-len2-up : goal.returns-in-len2-up
returns-in-len2-up c =
    let m = trees_in c.args.trees.now in
    let at = place_of c.args.place in
    let ks = c.args.parts.now in
    let not_one : length ks ≡ 1 → ⊥ = λ e. omega (arith, c.in-len2-up.len_at_least, e) in
    subst (λ (t : Tree). Makes m (trees_in c.formless-in-len2-up.new.self) t c.formless-in-len2-up.result) (sym (other m at ks not_one))
    (growth.makes_added c.args.trees.now c.formless-in-len2-up.new.self (formless at) c.formless-in-len2-up.result c.formless-in-len2-up.ensures.added c.formless-in-len2-up.ensures.last)
