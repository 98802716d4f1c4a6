use Rattle.std.proofs.Common.{List, sym, subst, arith}
use Rattle.smt_script.specs.declared.command.Sort.{Sort}
use Rattle.smt_sexp.specs.Views.{place_of}
use Rattle.sort_check.specs.Room.{Falls, call_room}
use Rattle.sort_check.specs.Sorts.{Sorted}
use Rattle.sort_check.specs.Views.{IsSortAnswer, head_sort, sorts_seen}
use Rattle.sort_check.specs.Walking.{Turns}
use Rattle.sort_check.proofs.Falling as falling
use Rattle.sort_check.proofs.Waiting as waiting
use Rattle.sort_check.proofs.frames.call_on.Goals as goal

pub returns-in-Some-clause-falls : goal.returns-in-Some-clause-falls
returns-in-Some-clause-falls c =
    let s = c.args.sexps.now in
    let later = falling.room_later s c.args.call.next c.in-Some.after c.in-Some.ensures.1.later c.in-Some.ensures.1.within in
    let some = falling.room_some s c.in-Some.after in
    omega (arith, later, some)

pub returns-clause-walks : goal.returns-clause-walks
returns-clause-walks c = λ names t h.
    let s = c.args.sexps.now in
    let call = c.args.call in
    let found = c.called.result in
    let said = subst (λ (ss : List Sort). IsSortAnswer found (head_sort (place_of call.place) call.head (sorts_seen ss))) c.as_slice.ensures.value c.called.ensures in
    subst (λ r. Turns s names t r) (sym c.back.ensures)
    (waiting.turns_back s names t found (subst (λ (u : Sorted). IsSortAnswer found u) (sym (waiting.call_last s names call t h c.in-None.ensures)) said))

pub returns-clause-falls : goal.returns-clause-falls
returns-clause-falls c =
    let s = c.args.sexps.now in
    let some = falling.room_some s c.args.call.next in
    subst (λ r. Falls s (call_room s c.args.call) r) (sym c.back.ensures) (falling.falls_back s (call_room s c.args.call) c.called.result (omega (arith, some)))
