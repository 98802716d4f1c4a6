use Rattle.std.proofs.Common.{ap, sym, ◌∙◌}
use Rattle.interval_model.specs.Interval.{Interval, inverse_sum, inverse_product, inverse_square}
use Rattle.poly_graph.specs.Term.{Node}
use Rattle.poly_graph.specs.Views.{node_of}
use Rattle.cover_model.specs.NodeEnclosure.{row}
use Rattle.ival.specs.Views.{interval_of}
use Rattle.ival.specs.RowViews.{rows_of}
use Rattle.ival.specs.Options.{option_at}
use Rattle.hc4.specs.Pushed.{pushed, pushed_by}
use Rattle.hc4.proofs.Pushes.{one_push, two_pushes}
use Rattle.hc4.proofs.push.push.Goals as goal

pub returns-in-Add-clause-all : goal.returns-in-Add-clause-all
returns-in-Add-clause-all c s =
    let es = rows_of c.args.rows.now in let n = interval_of c.args.narrowed in let a = c.in-Add.a in let b = c.in-Add.b in let old = option_at c.args.scratch.now in
    two_pushes es old (option_at c.push_to-in-Add.new.scratch) (option_at c.push_to-in-Add-2.new.scratch) a b (inverse_sum n (row es b)) (inverse_sum n (row es a))
    (c.push_to-in-Add.ensures.at ∙ ap (λ (l : Interval). pushed es a l (old a)) (c.inv_add.ensures ∙ ap (inverse_sum n) c.get.ensures)) c.push_to-in-Add.ensures.others
    (c.push_to-in-Add-2.ensures.at ∙ ap (λ (l : Interval). pushed es b l (option_at c.push_to-in-Add.new.scratch b)) (c.inv_add-in-Add.ensures ∙ ap (inverse_sum n) c.get-in-Add.ensures)) c.push_to-in-Add-2.ensures.others s
    ∙ ap (λ (p : Node). pushed_by es s p n (old s)) (sym (ap node_of c.in-Add.is))

pub returns-in-Mul-clause-all : goal.returns-in-Mul-clause-all
returns-in-Mul-clause-all c s =
    let es = rows_of c.args.rows.now in let n = interval_of c.args.narrowed in let a = c.in-Mul.a in let b = c.in-Mul.b in let old = option_at c.args.scratch.now in
    two_pushes es old (option_at c.push_to-in-Mul.new.scratch) (option_at c.push_to-in-Mul-2.new.scratch) a b (inverse_product n (row es b)) (inverse_product n (row es a))
    (c.push_to-in-Mul.ensures.at ∙ ap (λ (l : Interval). pushed es a l (old a)) (c.inv_mul.ensures ∙ ap (inverse_product n) c.get-in-Mul.ensures)) c.push_to-in-Mul.ensures.others
    (c.push_to-in-Mul-2.ensures.at ∙ ap (λ (l : Interval). pushed es b l (option_at c.push_to-in-Mul.new.scratch b)) (c.inv_mul-in-Mul.ensures ∙ ap (inverse_product n) c.get-in-Mul-2.ensures)) c.push_to-in-Mul-2.ensures.others s
    ∙ ap (λ (p : Node). pushed_by es s p n (old s)) (sym (ap node_of c.in-Mul.is))

pub returns-in-Sq-clause-all : goal.returns-in-Sq-clause-all
returns-in-Sq-clause-all c s =
    let es = rows_of c.args.rows.now in let n = interval_of c.args.narrowed in let a = c.in-Sq.a in let old = option_at c.args.scratch.now in
    one_push es old (option_at c.push_to-in-Sq.new.scratch) a (λ k. inverse_square (row es k) n)
    (c.push_to-in-Sq.ensures.at ∙ ap (λ (l : Interval). pushed es a l (old a)) (c.inv_sq.ensures ∙ ap (λ (own : Interval). inverse_square own n) c.get-in-Sq.ensures)) c.push_to-in-Sq.ensures.others s
    ∙ ap (λ (p : Node). pushed_by es s p n (old s)) (sym (ap node_of c.in-Sq.is))
