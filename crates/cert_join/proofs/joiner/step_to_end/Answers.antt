use Rattle.std.proofs.Common.{ℕ, List, ◌∷◌, refl, ap, sym, ◌∙◌}
use Rattle.cert_join.proofs.NextLines.{passes_next}
use Rattle.cert_join.proofs.Passed.{same_bytes}
use Rattle.cert_join.proofs.joiner.step_to_end.Goals as goal

pub returns-in-Some : goal.returns-in-Some
returns-in-Some c = λ cert ls b.
    let is = same_bytes c.in-Some.line.now c.as_slice.result.now (sym c.if-eq.ensures) ∙ c.as_slice.ensures in
    let x = passes_next cert ls c.args.cursor.now c.is_ready.new.self b c.is_ready.ensures.same c.in-Some.line.now c.pass.new.self (c.is_ready.ensures.ready c.if-not-is_ready.false)
    (sym c.in-Some.ensures) c.pass.ensures in
    (c.if-not-is_read.true, refl, (x.0, x.1 ∙ ap (λ (l : List ℕ). l ∷ x.0) is, x.2))
