use Rattle.std.proofs.Common.{subst}
use Rattle.smt_script.specs.Views.{sort_of}
use Rattle.sort_check.specs.Sorts.{of_sort}
use Rattle.sort_check.specs.Walking.{CallWaits, LetWaits, Waits}
use Rattle.sort_check.specs.declared.frames.Frame.{Frame}
use Rattle.sort_check.proofs.Waiting as waiting
use Rattle.sort_check.proofs.frames.resume.Goals as goal

pub returns-in_ok-push-in-Call-clause-walks : goal.returns-in_ok-push-in-Call-clause-walks
returns-in_ok-push-in-Call-clause-walks c = λ names t h.
    let s = c.args.sexps.now in
    let call = c.in-Call.call in
    let sort = c.args.sort in
    let w : CallWaits s names call (of_sort (sort_of sort)) t = subst (λ (f : Frame). Waits s names f (of_sort (sort_of sort)) t) c.in-Call.is h in
    c.call_on.ensures.walks names t (waiting.call_resumes s names call t sort c.push.new.self.items w c.in_ok-push-in-Call.ensures.items)

pub returns-in_ok-push-in-Let-clause-walks : goal.returns-in_ok-push-in-Let-clause-walks
returns-in_ok-push-in-Let-clause-walks c = λ names t h.
    let s = c.args.sexps.now in
    let l = c.in-Let.bindings in
    let sort = c.args.sort in
    let w : LetWaits s names l c.in-Let.name.now (of_sort (sort_of sort)) t = subst (λ (f : Frame). Waits s names f (of_sort (sort_of sort)) t) c.in-Let.is h in
    c.let_on.ensures.walks names t (w.0, waiting.let_resumes s names l t (record { place = c.in-Let.place; name = c.in-Let.name; sort = sort }) c.push-in-Let.new.self w c.in_ok-push-in-Let.ensures.added)
