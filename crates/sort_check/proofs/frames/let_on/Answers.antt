use Rattle.std.proofs.Common.{List, ◌++◌, ap, sym, ◌∙◌, subst, arith}
use Rattle.script_model.specs.Reading.{meaning}
use Rattle.smt_script.specs.declared.command.Parameter.{Parameter}
use Rattle.smt_sexp.specs.Arena.{expression_at}
use Rattle.smt_sexp.specs.Views.{place_of}
use Rattle.sort_check.specs.Sorts.{sorting}
use Rattle.sort_check.specs.Views.{around}
use Rattle.sort_check.specs.Walking.{LetWaits}
use Rattle.sort_check.proofs.Falling as falling
use Rattle.sort_check.proofs.Waiting as waiting
use Rattle.sort_check.proofs.frames.let_on.Goals as goal

pub returns-then-is_taken-clause-walks : goal.returns-then-is_taken-clause-walks
returns-then-is_taken-clause-walks c = λ names t h.
    let p = c.in-Some in
    waiting.let_taken c.args.sexps.now names c.args.bindings t p.name (place_of p.place) p.at p.after h p.ensures.0 (sym c.is_taken.ensures ∙ c.if-is_taken.true)

pub returns-in_ok-locals-in-Some-clause-walks : goal.returns-in_ok-locals-in-Some-clause-walks
returns-in_ok-locals-in-Some-clause-walks c = λ names t h.
    let s = c.args.sexps.now in
    let l = c.args.bindings in
    let p = c.in-Some in
    subst (λ (ls : List Parameter). LetWaits s names (record l { next = p.after }) p.name.now (meaning sorting (around ls names) (expression_at s p.at)) t) (sym c.in_ok-locals-in-Some.ensures.cases)
    (waiting.let_next s names l t p.name (place_of p.place) p.at p.after h p.ensures.0 (sym c.is_taken.ensures ∙ c.if-is_taken.false))

pub returns-in_ok-locals-in-Some-clause-falls : goal.returns-in_ok-locals-in-Some-clause-falls
returns-in_ok-locals-in-Some-clause-falls c =
    let s = c.args.sexps.now in
    let l = c.args.bindings in
    let p = c.in-Some in
    let within = p.ensures.2.within in
    let inner = falling.room_later s l.next p.at p.ensures.1 within in
    let outer = falling.room_later s l.next p.after p.ensures.2.later within in
    let some = falling.room_some s p.at in
    omega (arith, inner, outer, some)

pub returns-in_ok-shared-in-None-clause-walks : goal.returns-in_ok-shared-in-None-clause-walks
returns-in_ok-shared-in-None-clause-walks c = λ names t h.
    let l = c.args.bindings in
    waiting.let_last c.args.sexps.now names l t c.in_ok-shared-in-None.shared.value h c.in-None.ensures
    (c.in_ok-shared-in-None.ensures.ok ∙ c.in_ok-inner-in-None.ensures ∙ ap (λ (ls : List Parameter). l.bound ++ ls) c.deref.ensures)

pub returns-in_ok-shared-in-None-clause-falls : goal.returns-in_ok-shared-in-None-clause-falls
returns-in_ok-shared-in-None-clause-falls c = let some = falling.room_some c.args.sexps.now c.args.bindings.next in omega (arith, some)
