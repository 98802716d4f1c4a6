use Rattle.std.proofs.Common.{sym, subst}
use Rattle.script_roots.specs.Tree.{Tree, applied, trees_of}
use Rattle.smt_sexp.specs.Views.{place_of}
use Rattle.root_rewriting.specs.Nodes.{parts_at, trees_in}
use Rattle.root_rewriting.specs.Walking.{Makes}
use Rattle.root_rewriting.proofs.Growth as growth
use Rattle.root_rewriting.proofs.Operators.{operator_other}
use Rattle.root_rewriting.proofs.unfold.operate.operate.Goals as goal

pub returns-in_default : goal.returns-in_default
returns-in_default c =
    let m = trees_in c.args.trees.now in
    let at = place_of c.args.place in
    let x = c.args.name.now in
    let ts = parts_at m c.args.parts.items in
    subst (λ (t : Tree). Makes m (trees_in c.applied.new.self) t c.applied.result) (sym (operator_other at x ts c.args.operator c.in_default.not-Divide))
    (growth.makes_added c.args.trees.now c.applied.new.self (applied at x (trees_of ts)) c.applied.result c.applied.ensures.added c.applied.ensures.last)
