use Rattle.std.proofs.Common.{◌≡◌, length, ap, arith}
use Rattle.std.proofs.lemmas.Grind.{common_steps}
use Rattle.smt_sexp.specs.Lexicon.{faulty, unbalanced}
use Rattle.smt_sexp.specs.TextAnswers.{text_fault}
use Rattle.smt_sexp.specs.Views.{place_of}
use Rattle.smt_sexp.proofs.Steps.{finished, none_at, open_length}
use Rattle.smt_sexp.proofs.reading.finish.Goals as goal

pub returns-in-None : goal.returns-in-None
returns-in-None c = λ all r.
    let b = c.args.building in
    let last = none_at c.deref.result.now _ c.in-None.ensures.value in
    finished b r.0 r.1 all r.2 (omega (arith, open_length b r.0 r.1 r.2, ap length c.deref.ensures.value, last)) r.3

pub returns-in-Some : goal.returns-in-Some
returns-in-Some c = λ all r.
    let e : all ≡ faulty (place_of c.in-Some.opened.now.place) unbalanced = grind (arith, common_steps) in
    rw c.at.ensures (ap text_fault e)
