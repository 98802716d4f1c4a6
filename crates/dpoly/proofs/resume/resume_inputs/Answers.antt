use Rattle.std.proofs.Common.{ℕ, List, ◌∙◌, subst, refl}
use Rattle.command_line.specs.Seen.{seen_resume}
use Rattle.poly_graph.specs.ProblemViews.{problem_of}
use Rattle.script_reading.specs.Faults.{script_fault}
use Rattle.script_reading.specs.Reader.{HasProblem}
use Rattle.check_run.specs.Script.{IsHaltOfFault}
use Rattle.dpoly.specs.Resume.{IsToldMore}
use Rattle.dpoly.proofs.Halting.{held_is}
use Rattle.dpoly.proofs.ResumeRuns.{asked-ends, long-ends, unasked-ends}
use Rattle.dpoly.proofs.resume.resume_inputs.Goals as goal

pub returns-in-None-clause-ends : goal.returns-in-None-clause-ends
returns-in-None-clause-ends g c = λ script held.
    long-ends (seen_resume c.args.asked.now) c.args.inputs.now.cert.items _ _ _ c.args.inputs.now.script script c.too_long.result c.in-None.is held c.too_long.ensures c.end_halted.ensures.ends

pub returns-in-Ok-clause-ends : goal.returns-in-Ok-clause-ends
returns-in-Ok-clause-ends g c = λ script held.
    let words = seen_resume c.args.asked.now in let p = problem_of c.in-Ok.problem in let cert = c.args.inputs.now.cert.items in
    let has = subst (λ (s : List ℕ). HasProblem words.bound p s) (c.deref.ensures.value ∙ held_is c.args.inputs.now.script c.in-Some.script script c.in-Some.is held) c.in-Ok.ensures.question in
    let told = subst (λ (bs : List ℕ). IsToldMore p words.bound words bs c.resumed-told.result) c.deref-in-Ok.ensures.value c.resumed-told.ensures in
    asked-ends words cert _ _ _ script p has (c.end_resumed.ensures.ends p words.bound words cert refl told)

pub returns-in-Err-clause-ends : goal.returns-in-Err-clause-ends
returns-in-Err-clause-ends g c = λ script held.
    let words = seen_resume c.args.asked.now in let cert = c.args.inputs.now.cert.items in
    let faulty = subst (λ (s : List ℕ). IsHaltOfFault (script_fault words.bound s) c.in-Err.halt) (c.deref.ensures.value ∙ held_is c.args.inputs.now.script c.in-Some.script script c.in-Some.is held) c.in-Err.ensures.question in
    unasked-ends words cert _ _ _ script c.in-Err.halt faulty c.end_halted-in-Err.ensures.ends
