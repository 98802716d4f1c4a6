use Rattle.std.proofs.Common.{List, ℕ, length, ap, sym, ◌∙◌, subst}
use Rattle.std.specs.Prelude.{cond}
use Rattle.script_roots.specs.Tree.{Tree, quotient, applied, more_trees, no_trees, trees_of}
use Rattle.smt_sexp.specs.Views.{place_of}
use Rattle.root_rewriting.specs.Nodes.{AreBelow, parts_at, tree_at, trees_in}
use Rattle.root_rewriting.specs.Walking.{Makes}
use Rattle.root_rewriting.proofs.Growth as growth
use Rattle.root_rewriting.proofs.unfold.operate.divide_two.Goals as goal

pub applied-requires : goal.applied-requires
applied-requires c = subst (λ (ks : List ℕ). AreBelow (length c.args.trees.now) ks) (sym c.in_ok-parts.ensures.items) (c.requires.dividend, (c.requires.divisor, tt))

pub returns-in_ok-parts : goal.returns-in_ok-parts
returns-in_ok-parts c =
    let m = trees_in c.args.trees.now in
    let at = place_of c.args.place in
    let x = c.args.name.now in
    let t = tree_at m c.args.dividend in
    let d = tree_at m c.args.divisor in
    let m1 = trees_in c.applied.new.self in
    let is = sym c.facts.ensures.number ∙ c.if-facts.true in
    let both = applied at x (more_trees t (more_trees d no_trees)) in
    let parts = ap (λ ks. applied at x (trees_of (parts_at m ks))) c.in_ok-parts.ensures.items in
    subst (λ (u : Tree). Makes m m1 u c.applied.result) (parts ∙ sym (ap (λ b. cond b both (quotient at t d)) is))
    (growth.makes_added c.args.trees.now c.applied.new.self _ c.applied.result c.applied.ensures.added c.applied.ensures.last)

pub returns-else-facts : goal.returns-else-facts
returns-else-facts c =
    let m = trees_in c.args.trees.now in
    let at = place_of c.args.place in
    let x = c.args.name.now in
    let t = tree_at m c.args.dividend in
    let d = tree_at m c.args.divisor in
    let m1 = trees_in c.quotient.new.self in
    let is = sym c.facts.ensures.number ∙ c.if-facts.false in
    subst (λ (u : Tree). Makes m m1 u c.quotient.result) (sym (ap (λ b. cond b (applied at x (more_trees t (more_trees d no_trees))) (quotient at t d)) is))
    (growth.makes_added c.args.trees.now c.quotient.new.self (quotient at t d) c.quotient.result c.quotient.ensures.added c.quotient.ensures.last)
