use Rattle.std.proofs.Common.{List, ℕ, Ok, Some, drop, ap, sym, ◌∙◌, subst}
use Rattle.cert_join.specs.Spot.{IsFirst}
use Rattle.cert_join.specs.Heads.{all_lines}
use Rattle.cert_join.proofs.Headers.{none_unlike, reads, some_ahead}
use Rattle.cert_join.proofs.Passed.{told}
use Rattle.cert_join.proofs.Spots.{ready_first}
use Rattle.cert_join.proofs.heads.Heads.read.Goals as goal

pub returns : goal.returns
returns c = λ cert covers x t e r b.
    let ls = drop c.args.self.now.row (all_lines x) in
    let s = c.is_ready.new.self in
    let b' = told cert ls c.args.cursor.now s c.is_ready.ensures.same b in
    let f = ready_first cert ls s (some_ahead cert x c.args.self.now.row t r.row) b' (c.is_ready.ensures.ready c.if-not-is_ready.false) in
    reads cert covers x c.args.self.now c.take.new.self c.pass-2.new.self s c.pass.new.self c.text.result.now t e r b' (f.1 ∙ ap (λ (l : List ℕ). Some l) (sym c.text.ensures))
    (subst (λ (l : List ℕ). IsFirst ls (Some l)) (sym c.text.ensures) f.0) (c.in-Ok-true.ensures.takes (ap (λ x. Ok x) c.in-Ok-true.field-0-test)) c.pass-2.ensures (c.pass.ensures cert)

pub returns-in-Ok-false : goal.returns-in-Ok-false
returns-in-Ok-false c = λ cert covers x t e r b.
    let ls = drop c.args.self.now.row (all_lines x) in
    let s = c.is_ready.new.self in
    let b' = told cert ls c.args.cursor.now s c.is_ready.ensures.same b in
    let f = ready_first cert ls s (some_ahead cert x c.args.self.now.row t r.row) b' (c.is_ready.ensures.ready c.if-not-is_ready.false) in
    none_unlike cert covers x c.args.self.now c.text.result.now t e r (subst (λ (l : List ℕ). IsFirst ls (Some l)) (sym c.text.ensures) f.0) (c.in-Ok-false.ensures.unlike (ap (λ x. Ok x) c.in-Ok-false.field-0-test))
