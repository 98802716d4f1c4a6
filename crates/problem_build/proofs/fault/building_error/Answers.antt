use Rattle.std.proofs.Common.{◌∙◌, ap, sym, subst}
use Rattle.std.specs.Prelude.{Some}
use Rattle.smt_sexp.specs.Views.{place_of}
use Rattle.smt_sexp.specs.TextAnswers.{fault_at}
use Rattle.term_build.specs.Does.{StopsAs}
use Rattle.problem_build.proofs.Faults.{beyond_fault, expression_fault}
use Rattle.problem_build.proofs.fault.building_error.Goals as goal

pub returns-in-Fault : goal.returns-in-Fault
returns-in-Fault c = λ w h.
    let there = subst (λ x. StopsAs (place_of c.args.claim) w x) c.in-Fault.is h in
    rw c.at.ensures (expression_fault w (place_of c.in-Fault.at) c.in-Fault.fault there ∙ ap (λ k. Some (fault_at (place_of c.in-Fault.at) k)) (sym c.kind.ensures))

pub returns-in-TooMany : goal.returns-in-TooMany
returns-in-TooMany c = λ w h.
    let there = subst (λ x. StopsAs (place_of c.args.claim) w x) c.in-TooMany.is h in
    rw c.at-in-TooMany.ensures (beyond_fault w (place_of c.args.claim) c.in-TooMany.what there)
