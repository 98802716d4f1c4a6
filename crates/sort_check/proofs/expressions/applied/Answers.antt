use Rattle.std.proofs.Common.{List, Some, ◌++◌, ap, sym, ◌∙◌, subst}
use Rattle.script_model.specs.Reading.{meanings}
use Rattle.smt_script.specs.declared.command.Parameter.{Parameter}
use Rattle.smt_script.specs.declared.command.Sort.{Sort}
use Rattle.smt_sexp.specs.Arena.{rest_of}
use Rattle.smt_sexp.specs.Views.{place_of}
use Rattle.sort_check.specs.Calls.{sort_of_call}
use Rattle.sort_check.specs.Sorts.{sorting}
use Rattle.sort_check.specs.Views.{Heads, around, sorts_seen}
use Rattle.sort_check.specs.Walking.{call_sort}
use Rattle.sort_check.proofs.Calls as calls
use Rattle.sort_check.proofs.expressions.applied.Goals as goal

pub returns-clause-walks : goal.returns-clause-walks
returns-clause-walks c = λ names knows.
    let s = c.args.sexps.now in
    let env = around c.args.locals.value names in
    let place = place_of c.args.place in
    let x = c.args.name.now in
    let h = c.in-Some.head in
    let items = rest_of s c.args.args in
    let heads = subst (λ (ls : List Parameter). Heads (Some h) x (around ls names)) c.deref.ensures (c.in-Some.ensures names knows) in
    c.call_on.ensures.walks names (sort_of_call s c.args.place x c.args.args env)
    (calls.call_begins env place x h items heads (sym c.ends.ensures ∙ c.if-ends.false) ∙ ap (λ (ss : List Sort). call_sort place h (sorts_seen ss ++ meanings sorting env items)) (sym c.new.ensures.items))
