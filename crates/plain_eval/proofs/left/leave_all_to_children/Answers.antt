use Rattle.std.proofs.Common.{ap, sym, ◌∙◌}
use Rattle.poly_graph.specs.Term.{Node}
use Rattle.poly_graph.specs.Views.{node_of}
use Rattle.ival.specs.RowViews.{rows_of}
use Rattle.ival.specs.Options.{option_at}
use Rattle.plain_eval.specs.Leaving.{left_all_by}
use Rattle.plain_eval.proofs.Leaves.{one_all, two_all}
use Rattle.plain_eval.proofs.left.leave_all_to_children.Goals as goal

pub returns-in-Neg-clause-all : goal.returns-in-Neg-clause-all
returns-in-Neg-clause-all c s =
    let es = rows_of c.args.rows.now in let a = c.in-Neg.a in let old = option_at c.args.scratch.now in
    one_all es old (option_at c.leave_all.new.scratch) a c.leave_all.ensures.at c.leave_all.ensures.others s
    ∙ ap (λ (p : Node). left_all_by es s p (old s)) (sym (ap node_of c.in-Neg.is))

pub returns-in-Add-clause-all : goal.returns-in-Add-clause-all
returns-in-Add-clause-all c s =
    let es = rows_of c.args.rows.now in let a = c.in-Add.a in let b = c.in-Add.b in let old = option_at c.args.scratch.now in
    two_all es old (option_at c.leave_all-in-Add.new.scratch) (option_at c.leave_all-in-Add-2.new.scratch) a b
    c.leave_all-in-Add.ensures.at c.leave_all-in-Add.ensures.others c.leave_all-in-Add-2.ensures.at c.leave_all-in-Add-2.ensures.others s
    ∙ ap (λ (p : Node). left_all_by es s p (old s)) (sym (ap node_of c.in-Add.is))

pub returns-in-Mul-clause-all : goal.returns-in-Mul-clause-all
returns-in-Mul-clause-all c s =
    let es = rows_of c.args.rows.now in let a = c.in-Mul.a in let b = c.in-Mul.b in let old = option_at c.args.scratch.now in
    two_all es old (option_at c.leave_all-in-Mul.new.scratch) (option_at c.leave_all-in-Mul-2.new.scratch) a b
    c.leave_all-in-Mul.ensures.at c.leave_all-in-Mul.ensures.others c.leave_all-in-Mul-2.ensures.at c.leave_all-in-Mul-2.ensures.others s
    ∙ ap (λ (p : Node). left_all_by es s p (old s)) (sym (ap node_of c.in-Mul.is))

pub returns-in-Sq-clause-all : goal.returns-in-Sq-clause-all
returns-in-Sq-clause-all c s =
    let es = rows_of c.args.rows.now in let a = c.in-Sq.a in let old = option_at c.args.scratch.now in
    one_all es old (option_at c.leave_all-in-Sq.new.scratch) a c.leave_all-in-Sq.ensures.at c.leave_all-in-Sq.ensures.others s
    ∙ ap (λ (p : Node). left_all_by es s p (old s)) (sym (ap node_of c.in-Sq.is))
