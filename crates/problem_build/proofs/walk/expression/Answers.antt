use Rattle.std.proofs.Common.{◌≡◌, ◌+◌, ◌<◌, arith, List, [], ◌∷◌, ◌++◌, length, length-append, refl, ap, sym, ◌∙◌, subst}
use Rattle.std.specs.Prelude.{Ok, Err}
use Rattle.std.proofs.lemmas.Result.{err_from_is_err_and}
use Rattle.problem_build.specs.Names.{Knows, work_names, bound_names_of, work_at, bounding_at}
use Rattle.problem_build.specs.Walking.{Enters, Leaves}
use Rattle.problem_build.specs.declared.locals.Local.{Local}
use Rattle.problem_build.specs.declared.frames.Frame.{Frame}
use Rattle.problem_build.specs.declared.frames.Next.{Next}
use Rattle.problem_build.specs.declared.frames.Next.TheVariants as next
use Rattle.problem_build.proofs.Sizes.{left, enter_falls, resume_falls}
use Rattle.problem_build.proofs.Stacked as stacked
use Rattle.problem_build.proofs.Stacked.{Within, Resumes}
use Rattle.problem_build.proofs.Steps as steps
use Rattle.problem_build.proofs.walk.expression.Goals as goal

pub turns-init : goal.turns-init
turns-init c =
    let s = c.args.sexps.now in
    let top = c.args.top.now in
    let m = c.args.maker.now in
    let n = length top in
    let scope = c.in_ok-scope.scope in
    let first = next.Enter scope c.args.at in
    let names = work_names s top n in
    let bnames = bound_names_of s top n in
    let w = work_at s top c.args.at in
    let b = bounding_at s top c.args.at in
    let enters : Enters m s top scope c.args.at w b = record {
      names = names;
      bnames = bnames;
      knows = steps.knows_scope m s top n c.new.result names bnames scope (c.in_ok-scope.ensures.0 ∙ c.len.ensures, c.in_ok-scope.ensures.1)
          (subst (λ (xs : List Local). Knows m s top n xs names bnames) (sym c.new.ensures) (steps.knows_none m s top n));
      work = refl;
      bound = refl;
    } in
    record {
      sorts = refl;
      walks = subst (λ (fs : List Frame). Within (Leaves m s top first) m m s top fs w b) (sym c.new-stack.ensures.items) (stacked.within_begins s top w b m first enters);
    }

pub returns-in_err-next-in-Enter-clause-walks : goal.returns-in_err-next-in-Enter-clause-walks
returns-in_err-next-in-Enter-clause-walks c =
    let s = c.args.sexps.now in
    let top = c.args.top.now in
    let start = c.args.maker.now in
    let now = c.turns.maker in
    let fs = c.turns.stack.items in
    let w = work_at s top c.args.at in
    let b = bounding_at s top c.args.at in
    let d = c.in-Enter in
    let h = subst (λ (n : Next). Within (Leaves now s top n) start now s top fs w b) d.is c.turns.invariant.walks in
    let e = c.in_err-next-in-Enter in
    let p = err_from_is_err_and c.from_residual-in_err-next-in-Enter.result c.from_residual-in_err-next-in-Enter.ensures.1 in
    rw (p.1, p.2) (stacked.within_fails s top w b (Enters now s top d.scope d.at) start now fs e.field-0.0 h
    (stacked.enters_reach now c.enter.new.maker s top d.scope d.at h.here h.held (Err e.field-0.0) h.inner e.ensures.walks))

pub returns-in_err-next-in-Wait-clause-walks : goal.returns-in_err-next-in-Wait-clause-walks
returns-in_err-next-in-Wait-clause-walks c =
    let s = c.args.sexps.now in
    let top = c.args.top.now in
    let start = c.args.maker.now in
    let now = c.turns.maker in
    let fs = c.turns.stack.items in
    let w = work_at s top c.args.at in
    let b = bounding_at s top c.args.at in
    let d = c.in-Wait in
    let h = stacked.within_waits s top w b start now fs d.frame d.scope d.at (subst (λ (n : Next). Within (Leaves now s top n) start now s top fs w b) d.is c.turns.invariant.walks) in
    let e = c.in_err-next-in-Wait in
    let p = err_from_is_err_and c.from_residual-in_err-next-in-Wait.result c.from_residual-in_err-next-in-Wait.ensures.1 in
    rw (p.1, p.2) (stacked.within_fails s top w b (Enters now s top d.scope d.at) start now (fs ++ (d.frame ∷ [])) e.field-0.0 h
    (stacked.enters_reach now c.enter-in-Wait.new.maker s top d.scope d.at h.here h.held (Err e.field-0.0) h.inner e.ensures.walks))

pub resume-requires-clause-known : goal.resume-requires-clause-known
resume-requires-clause-known c =
    let s = c.args.sexps.now in
    let top = c.args.top.now in
    let now = c.turns.maker in
    let w = work_at s top c.args.at in
    let b = bounding_at s top c.args.at in
    let h = subst (λ (n : Next). Within (Leaves now s top n) c.args.maker.now now s top c.turns.stack.items w b) c.in-Back.is c.turns.invariant.walks in
    (h.here.outcome, h.held, h.inner.1)

pub resume-requires-clause-others : goal.resume-requires-clause-others
resume-requires-clause-others c =
    let s = c.args.sexps.now in
    let top = c.args.top.now in
    let start = c.args.maker.now in
    let now = c.turns.maker in
    let w = work_at s top c.args.at in
    let b = bounding_at s top c.args.at in
    let v = c.in-Back.value in
    let f = c.in-Some.frame in
    let back = subst (λ (n : Next). Within (Leaves now s top n) start now s top c.turns.stack.items w b) c.in-Back.is c.turns.invariant.walks in
    let h = stacked.within_resumes s top w b start now c.pop.new.self.items f v (subst (λ (fs : List Frame). Within (Leaves now s top (next.Back v)) start now s top fs w b) c.in-Some.ensures.items back) in
    stacked.keeps_values now s top f h.inner.0 h.inner.1 h.here h.held h.inner.2

pub returns-in_err-next-in-Some-clause-walks : goal.returns-in_err-next-in-Some-clause-walks
returns-in_err-next-in-Some-clause-walks c =
    let s = c.args.sexps.now in
    let top = c.args.top.now in
    let start = c.args.maker.now in
    let now = c.turns.maker in
    let w = work_at s top c.args.at in
    let b = bounding_at s top c.args.at in
    let v = c.in-Back.value in
    let f = c.in-Some.frame in
    let back = subst (λ (n : Next). Within (Leaves now s top n) start now s top c.turns.stack.items w b) c.in-Back.is c.turns.invariant.walks in
    let h = stacked.within_resumes s top w b start now c.pop.new.self.items f v (subst (λ (fs : List Frame). Within (Leaves now s top (next.Back v)) start now s top fs w b) c.in-Some.ensures.items back) in
    let e = c.in_err-next-in-Some in
    let p = err_from_is_err_and c.from_residual-in_err-next-in-Some.result c.from_residual-in_err-next-in-Some.ensures.1 in
    rw (p.1, p.2) (stacked.within_fails s top w b (Resumes now s top f v) start now c.pop.new.self.items e.field-0.0 h
    (e.ensures.walks top h.inner.0 h.inner.1 h.here h.held h.inner.2 h.inner.3))

pub turns-preserved-in_ok-next-in-Enter : goal.turns-preserved-in_ok-next-in-Enter
turns-preserved-in_ok-next-in-Enter c =
    let s = c.args.sexps.now in
    let top = c.args.top.now in
    let start = c.args.maker.now in
    let now = c.turns.maker in
    let w = work_at s top c.args.at in
    let b = bounding_at s top c.args.at in
    let fs = c.turns.stack.items in
    let new = c.enter.new.maker in
    let d = c.in-Enter in
    let n = c.in_ok-next-in-Enter.next in
    let h = subst (λ (x : Next). Within (Leaves now s top x) start now s top fs w b) d.is c.turns.invariant.walks in
    let reached = stacked.enters_reach now new s top d.scope d.at h.here h.held (Ok n) h.inner c.in_ok-next-in-Enter.ensures.walks in
    record {
      sorts = c.enter.ensures.sorts ∙ c.turns.invariant.sorts;
      walks = stacked.within_goes s top w b (Enters now s top d.scope d.at) start now new fs n h (stacked.goes_reached now new s top h.here h.held n reached);
    }

pub turns-preserved-in_ok-next-in-Wait : goal.turns-preserved-in_ok-next-in-Wait
turns-preserved-in_ok-next-in-Wait c =
    let s = c.args.sexps.now in
    let top = c.args.top.now in
    let start = c.args.maker.now in
    let now = c.turns.maker in
    let w = work_at s top c.args.at in
    let b = bounding_at s top c.args.at in
    let fs = c.turns.stack.items in
    let new = c.enter-in-Wait.new.maker in
    let d = c.in-Wait in
    let n = c.in_ok-next-in-Wait.next in
    let h = stacked.within_waits s top w b start now fs d.frame d.scope d.at (subst (λ (x : Next). Within (Leaves now s top x) start now s top fs w b) d.is c.turns.invariant.walks) in
    let reached = stacked.enters_reach now new s top d.scope d.at h.here h.held (Ok n) h.inner c.in_ok-next-in-Wait.ensures.walks in
    record {
      sorts = c.enter-in-Wait.ensures.sorts ∙ c.turns.invariant.sorts;
      walks = subst (λ (xs : List Frame). Within (Leaves new s top n) start new s top xs w b) (sym c.in_ok-push-in-Wait.ensures.items)
          (stacked.within_goes s top w b (Enters now s top d.scope d.at) start now new (fs ++ (d.frame ∷ [])) n h (stacked.goes_reached now new s top h.here h.held n reached));
    }

pub turns-preserved : goal.turns-preserved
turns-preserved c =
    let s = c.args.sexps.now in
    let top = c.args.top.now in
    let start = c.args.maker.now in
    let now = c.turns.maker in
    let w = work_at s top c.args.at in
    let b = bounding_at s top c.args.at in
    let fs = c.pop.new.self.items in
    let new = c.resume.new.maker in
    let v = c.in-Back.value in
    let f = c.in-Some.frame in
    let n = c.in_ok-next-in-Some.next in
    let back = subst (λ (x : Next). Within (Leaves now s top x) start now s top c.turns.stack.items w b) c.in-Back.is c.turns.invariant.walks in
    let h = stacked.within_resumes s top w b start now fs f v (subst (λ (xs : List Frame). Within (Leaves now s top (next.Back v)) start now s top xs w b) c.in-Some.ensures.items back) in
    let goes = c.in_ok-next-in-Some.ensures.walks top h.inner.0 h.inner.1 h.here h.held h.inner.2 h.inner.3 in
    record {
      sorts = c.resume.ensures.sorts ∙ c.turns.invariant.sorts;
      walks = stacked.within_goes s top w b (Resumes now s top f v) start now new fs n h goes;
    }

pub turns-smaller-in_ok-next-in-Enter : goal.turns-smaller-in_ok-next-in-Enter
turns-smaller-in_ok-next-in-Enter c =
    let s = c.args.sexps.now in
    let top = c.args.top.now in
    let start = c.args.maker.now in
    let now = c.turns.maker in
    let w = work_at s top c.args.at in
    let b = bounding_at s top c.args.at in
    let fs = c.turns.stack.items in
    let new = c.enter.new.maker in
    let d = c.in-Enter in
    let n = c.in_ok-next-in-Enter.next in
    let h = subst (λ (x : Next). Within (Leaves now s top x) start now s top fs w b) d.is c.turns.invariant.walks in
    let reached = stacked.enters_reach now new s top d.scope d.at h.here h.held (Ok n) h.inner c.in_ok-next-in-Enter.ensures.walks in
    let k = length fs in
    subst (λ (x : Next). left new k n < left now k x) (sym d.is) (enter_falls now new s top h.here h.held n (next.Enter d.scope d.at) k k (omega arith) reached)

pub turns-smaller-in_ok-next-in-Wait : goal.turns-smaller-in_ok-next-in-Wait
turns-smaller-in_ok-next-in-Wait c =
    let s = c.args.sexps.now in
    let top = c.args.top.now in
    let start = c.args.maker.now in
    let now = c.turns.maker in
    let w = work_at s top c.args.at in
    let b = bounding_at s top c.args.at in
    let fs = c.turns.stack.items in
    let new = c.enter-in-Wait.new.maker in
    let d = c.in-Wait in
    let n = c.in_ok-next-in-Wait.next in
    let h = stacked.within_waits s top w b start now fs d.frame d.scope d.at (subst (λ (x : Next). Within (Leaves now s top x) start now s top fs w b) d.is c.turns.invariant.walks) in
    let reached = stacked.enters_reach now new s top d.scope d.at h.here h.held (Ok n) h.inner c.in_ok-next-in-Wait.ensures.walks in
    let k = length fs in
    let j = length c.push.new.self.items in
    let higher : j ≡ k + 1 = ap (λ xs. length xs) c.in_ok-push-in-Wait.ensures.items ∙ length-append fs (d.frame ∷ []) in
    subst (λ (x : Next). left new j n < left now k x) (sym d.is) (enter_falls now new s top h.here h.held n (next.Wait d.frame d.scope d.at) j k (omega (arith, higher)) reached)

pub turns-smaller : goal.turns-smaller
turns-smaller c =
    let s = c.args.sexps.now in
    let top = c.args.top.now in
    let start = c.args.maker.now in
    let now = c.turns.maker in
    let w = work_at s top c.args.at in
    let b = bounding_at s top c.args.at in
    let fs = c.pop.new.self.items in
    let new = c.resume.new.maker in
    let v = c.in-Back.value in
    let f = c.in-Some.frame in
    let n = c.in_ok-next-in-Some.next in
    let back = subst (λ (x : Next). Within (Leaves now s top x) start now s top c.turns.stack.items w b) c.in-Back.is c.turns.invariant.walks in
    let h = stacked.within_resumes s top w b start now fs f v (subst (λ (xs : List Frame). Within (Leaves now s top (next.Back v)) start now s top xs w b) c.in-Some.ensures.items back) in
    let goes = c.in_ok-next-in-Some.ensures.walks top h.inner.0 h.inner.1 h.here h.held h.inner.2 h.inner.3 in
    let k = length fs in
    let j = length c.turns.stack.items in
    let higher : j ≡ k + 1 = ap (λ xs. length xs) c.in-Some.ensures.items ∙ length-append fs (f ∷ []) in
    subst (λ (x : Next). left new k n < left now j x) (sym c.in-Back.is) (resume_falls now new s top h.here h.held n v j k higher goes)
