use Rattle.std.proofs.Common.{◌++◌, ◌∙◌, ap, append-nil, map, sym, subst, refl}
use Rattle.std.specs.Prelude.{Result}
use Rattle.script_model.specs.Script.{bound_to}
use Rattle.script_forms.specs.Work.{outcome_of}
use Rattle.smt_sexp.specs.Views.{place_of}
use Rattle.smt_script.specs.Views.{parameter_of}
use Rattle.term_build.specs.declared.stop.Stop.{Stop}
use Rattle.problem_build.specs.Names.{work_names, bound_names_of}
use Rattle.problem_build.specs.Walking.{WorkStep, Turns, call_work, call_bounds}
use Rattle.problem_build.specs.declared.names.Head.{Head}
use Rattle.problem_build.specs.declared.names.Head.TheVariants as head
use Rattle.problem_build.specs.declared.frames.Next.{Next}
use Rattle.problem_build.specs.declared.frames.Next.TheVariants as next
use Rattle.problem_build.proofs.Steps as steps
use Rattle.problem_build.proofs.Turns as turns
use Rattle.problem_build.proofs.frames.called.Goals as goal

pub returns-in-Operator-clause-walks : goal.returns-in-Operator-clause-walks
returns-in-Operator-clause-walks c = λ s top ws bs are.
    let at = place_of c.args.place in
    let h = head.Operator c.in-Operator.operator in
    subst (λ (x : Head). Turns c.args.maker.now c.operate.new.self s top (call_work s top at x ws) (call_bounds s top x bs) c.back.result) (sym c.in-Operator.is)
    (subst (λ (r : Result Next Stop). Turns c.args.maker.now c.operate.new.self s top (call_work s top at h ws) (call_bounds s top h bs) r) (sym c.back.ensures)
    (turns.turns_back s top c.args.maker.now c.operate.new.self (call_work s top at h ws) (call_bounds s top h bs) c.operate.result (c.operate.ensures.does (map outcome_of ws) bs are)))

pub returns-in_ok-scope-in-Function-clause-walks : goal.returns-in_ok-scope-in-Function-clause-walks
returns-in_ok-scope-in-Function-clause-walks c = λ s top ws bs are.
    let d = c.in-Function in
    let m = c.args.maker.now in
    let at = place_of c.args.place in
    let h = head.Function d.visible d.parameters d.body in
    let n = next.Enter c.in_ok-scope-in-Function.scope d.body in
    let names = bound_to (map parameter_of d.parameters.now) ws ++ work_names s top d.visible in
    let bnames = bound_to (map parameter_of d.parameters.now) bs ++ bound_names_of s top d.visible in
    let ls = c.in_ok-locals-in-Function.locals in
    subst (λ (x : Head). WorkStep m m s top (call_work s top at x ws) (call_bounds s top x bs) n) (sym d.is)
    (turns.goes_none s top m (call_work s top at h ws) (call_bounds s top h bs) n (record {
      names = names;
      bnames = bnames;
      knows = steps.knows_scope m s top d.visible ls names bnames c.in_ok-scope-in-Function.scope c.in_ok-scope-in-Function.ensures
          (steps.knows_bound m s top d.visible d.parameters.now c.args.values.now ls ws bs (c.in_ok-locals-in-Function.ensures ∙ ap (λ xs. c.in_ok-bound-in-Function.bound ++ xs) c.new-none.ensures ∙ append-nil c.in_ok-bound-in-Function.bound ∙ c.in_ok-bound-in-Function.ensures) are);
      work = refl;
      bound = refl;
    }))
