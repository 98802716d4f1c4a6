use Rattle.std.proofs.Common.{IfOk, sym, ap, subst, ◌∙◌}
use Rattle.smt_sexp.specs.Classes.{leads_zero, begins_point}
use Rattle.smt_sexp.specs.FrontOf.{IsFrontOf}
use Rattle.smt_sexp.proofs.Fronts.{number_zero_found, number_point, number_whole}
use Rattle.smt_sexp.proofs.tokens.number.Goals as goal

pub returns-then-leads_zero : goal.returns-then-leads_zero
returns-then-leads_zero c =
    number_zero_found c.args.bytes.now c.run_len-n.result _ c.run_len-n.ensures.length
    (ap leads_zero (sym c.split_at.ensures.front) ∙ sym c.leads_zero.ensures ∙ c.if-leads_zero.true) c.requires.some c.new.ensures

pub returns-then-begins_point : goal.returns-then-begins_point
returns-then-begins_point c =
    subst (λ f. IfOk c.decimal.result (IsFrontOf c.args.bytes.now f))
    (number_point c.args.bytes.now c.run_len-n.result c.run_len-n.ensures.length
    (ap leads_zero (sym (c.split_at.ensures.front ∙ c.run_len-n.ensures.text)) ∙ sym c.leads_zero.ensures ∙ c.if-leads_zero.false)
    (ap begins_point (sym c.split_at.ensures.back) ∙ sym c.begins_point.ensures ∙ c.if-begins_point.true))
    c.decimal.ensures

pub returns : goal.returns
returns c =
    subst (λ f. IfOk c.numeral.result (IsFrontOf c.args.bytes.now f))
    (number_whole c.args.bytes.now c.run_len-n.result c.run_len-n.ensures.length
    (ap leads_zero (sym (c.split_at.ensures.front ∙ c.run_len-n.ensures.text)) ∙ sym c.leads_zero.ensures ∙ c.if-leads_zero.false)
    (ap begins_point (sym c.split_at.ensures.back) ∙ sym c.begins_point.ensures ∙ c.if-begins_point.false))
    c.numeral.ensures
