use Rattle.std.proofs.Common.{◌≡◌, ◌<◌, List, [], ◌∷◌, ◌++◌, sym, subst, arith}
use Rattle.std.proofs.lemmas.Result.{err_from_is_err_and}
use Rattle.smt_script.specs.Views.{sort_of}
use Rattle.sort_check.specs.Calls.{sort_of_expression}
use Rattle.sort_check.specs.Room.{frame_room, next_room, room_from}
use Rattle.sort_check.specs.Sorts.{of_sort}
use Rattle.sort_check.specs.Views.{around}
use Rattle.sort_check.specs.Walking.{Leaves, Waits}
use Rattle.sort_check.specs.declared.frames.Frame.{Frame}
use Rattle.sort_check.specs.declared.frames.Next.{Next}
use Rattle.sort_check.specs.declared.frames.Next.TheVariants as next
use Rattle.sort_check.proofs.Falling as falling
use Rattle.sort_check.proofs.Stacked as stacked
use Rattle.sort_check.proofs.Stacked.{Within, Enters}
use Rattle.sort_check.proofs.expressions.expression.Goals as goal

pub returns-in_err-next-in-Enter : goal.returns-in_err-next-in-Enter
returns-in_err-next-in-Enter c = λ names knows.
    let s = c.args.sexps.now in
    let whole = sort_of_expression s c.args.at (around c.args.locals names) in
    let d = c.in-Enter in
    let e = c.in_err-next-in-Enter in
    let h = subst (λ (x : Next). Within s names (Leaves s names x) c.turns.stack.items whole) d.is (c.turns.invariant names knows) in
    let p = err_from_is_err_and c.from_residual-in_err-next-in-Enter.result c.from_residual-in_err-next-in-Enter.ensures.1 in
    rw (p.1, p.2) (stacked.within_ends s names whole c.turns.stack.items d.locals.value d.at e.field-0.0 h (e.ensures.walks names knows))

pub returns-in_err-next-in-Wait : goal.returns-in_err-next-in-Wait
returns-in_err-next-in-Wait c = λ names knows.
    let s = c.args.sexps.now in
    let whole = sort_of_expression s c.args.at (around c.args.locals names) in
    let d = c.in-Wait in
    let e = c.in_err-next-in-Wait in
    let h = subst (λ (x : Next). Within s names (Leaves s names x) c.turns.stack.items whole) d.is (c.turns.invariant names knows) in
    let p = err_from_is_err_and c.from_residual-in_err-next-in-Wait.result c.from_residual-in_err-next-in-Wait.ensures.1 in
    rw (p.1, p.2)
    (stacked.within_ends s names whole (c.turns.stack.items ++ (d.frame ∷ [])) d.locals.value d.at e.field-0.0 (stacked.within_waits s names whole c.turns.stack.items d.frame d.locals.value d.at h) (e.ensures.walks names knows))

pub returns-in_err-next-in-Some : goal.returns-in_err-next-in-Some
returns-in_err-next-in-Some c = λ names knows.
    let s = c.args.sexps.now in
    let whole = sort_of_expression s c.args.at (around c.args.locals names) in
    let f = c.in-Some.frame in
    let sort = c.in-Back.sort in
    let e = c.in_err-next-in-Some in
    let left = c.pop.new.self.items in
    let back = subst (λ (x : Next). Within s names (Leaves s names x) c.turns.stack.items whole) c.in-Back.is (c.turns.invariant names knows) in
    let h = stacked.within_resumes s names whole left f sort (subst (λ (fs : List Frame). Within s names (λ t. t ≡ of_sort (sort_of sort)) fs whole) c.in-Some.ensures.items back) in
    let p = err_from_is_err_and c.from_residual-in_err-next-in-Some.result c.from_residual-in_err-next-in-Some.ensures.1 in
    rw (p.1, p.2) (stacked.within_stops s names whole left (Waits s names f (of_sort (sort_of sort))) e.field-0.0 h (e.ensures.walks names h.here h.inner))

pub turns-preserved-in_ok-next-in-Wait : goal.turns-preserved-in_ok-next-in-Wait
turns-preserved-in_ok-next-in-Wait c = λ names knows.
    let s = c.args.sexps.now in
    let whole = sort_of_expression s c.args.at (around c.args.locals names) in
    let d = c.in-Wait in
    let n = c.in_ok-next-in-Wait.next in
    let more = c.turns.stack.items ++ (d.frame ∷ []) in
    let waits = stacked.within_waits s names whole c.turns.stack.items d.frame d.locals.value d.at (subst (λ (x : Next). Within s names (Leaves s names x) c.turns.stack.items whole) d.is (c.turns.invariant names knows)) in
    subst (λ (fs : List Frame). Within s names (Leaves s names n) fs whole) (sym c.in_ok-push-in-Wait.ensures.items)
    (stacked.within_enters s names whole more d.locals.value d.at n waits (c.in_ok-next-in-Wait.ensures.walks names knows))

pub turns-preserved : goal.turns-preserved
turns-preserved c = λ names knows.
    let s = c.args.sexps.now in
    let whole = sort_of_expression s c.args.at (around c.args.locals names) in
    let f = c.in-Some.frame in
    let sort = c.in-Back.sort in
    let n = c.in_ok-next-in-Some.next in
    let left = c.pop.new.self.items in
    let back = subst (λ (x : Next). Within s names (Leaves s names x) c.turns.stack.items whole) c.in-Back.is (c.turns.invariant names knows) in
    let h = stacked.within_resumes s names whole left f sort (subst (λ (fs : List Frame). Within s names (λ t. t ≡ of_sort (sort_of sort)) fs whole) c.in-Some.ensures.items back) in
    stacked.within_goes s names whole left (Waits s names f (of_sort (sort_of sort))) n h (c.in_ok-next-in-Some.ensures.walks names h.here h.inner)

pub turns-smaller-in_ok-next-in-Wait : goal.turns-smaller-in_ok-next-in-Wait
turns-smaller-in_ok-next-in-Wait c =
    let s = c.args.sexps.now in
    let d = c.in-Wait in
    let n = c.in_ok-next-in-Wait.next in
    let fs = c.turns.stack.items in
    let here : next_room s n < room_from s d.at = c.in_ok-next-in-Wait.ensures.falls in
    subst (λ (x : Next). falling.left s c.push.new.self.items n < falling.left s fs x) (sym d.is)
    (subst (λ (gs : List Frame). falling.left s gs n < falling.left s fs (next.Wait d.frame d.locals d.at)) (sym c.in_ok-push-in-Wait.ensures.items)
    (omega (arith, here, falling.frames_last s fs d.frame)))

pub turns-smaller : goal.turns-smaller
turns-smaller c =
    let s = c.args.sexps.now in
    let n = c.in_ok-next-in-Some.next in
    let f = c.in-Some.frame in
    let left = c.pop.new.self.items in
    let here : next_room s n < frame_room s f = c.in_ok-next-in-Some.ensures.falls in
    subst (λ (x : Next). falling.left s left n < falling.left s c.turns.stack.items x) (sym c.in-Back.is)
    (subst (λ (gs : List Frame). falling.left s left n < falling.left s gs (next.Back c.in-Back.sort)) (sym c.in-Some.ensures.items)
    (omega (arith, here, falling.frames_last s left f)))
