use Rattle.std.proofs.Common.{List, [], ◌++◌, map, ap, sym, ◌∙◌, arith}
use Rattle.script_model.specs.Reading.{binding_meanings, meaning}
use Rattle.smt_script.specs.Views.{parameter_of}
use Rattle.smt_script.specs.declared.command.Parameter.{Parameter}
use Rattle.smt_sexp.specs.Arena.{expression_at, rest_of}
use Rattle.smt_sexp.specs.Views.{place_of}
use Rattle.sort_check.specs.Calls.{sort_of_let}
use Rattle.sort_check.specs.Forms.{bound_from}
use Rattle.sort_check.specs.Sorts.{sorting}
use Rattle.sort_check.specs.Views.{around, names_back}
use Rattle.sort_check.specs.Walking.{names_bound}
use Rattle.sort_check.proofs.Falling as falling
use Rattle.sort_check.proofs.expressions.let_sort.Goals as goal

pub returns-clause-walks : goal.returns-clause-walks
returns-clause-walks c = λ names.
    let s = c.args.sexps.now in
    let env = around c.args.locals.value names in
    let items = rest_of s c.in-Some.inside in
    c.let_on.ensures.walks names (sort_of_let s c.args.place c.args.at env) (
      c.in-Some.ensures.formed,
      c.in-Some.ensures.sort_is env (place_of c.args.place) ∙
          ap (λ (bs : List Parameter). bound_from (names_back (map parameter_of bs) []) env items (meaning sorting ((names_bound bs ++ binding_meanings sorting env items) ++ env) (expression_at s c.in-Some.body))) (sym c.new.ensures),
    )

pub returns-clause-falls : goal.returns-clause-falls
returns-clause-falls c =
    let s = c.args.sexps.now in
    let at = c.args.at in
    let p = c.in-Some in
    let inside = falling.room_later s at p.inside p.ensures.inside_later p.ensures.within in
    let body = falling.room_later s at p.body p.ensures.body_later p.ensures.within in
    falling.falls_within s _ _ c.let_on.result (omega (arith, inside, body)) c.let_on.ensures.falls
