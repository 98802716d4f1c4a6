use Rattle.std.proofs.Common.{get_or, ap, arith}
use Rattle.cert_join.specs.Spot.{Spot}
use Rattle.cert_join.proofs.Choices.{is_there, over, weigh_on}
use Rattle.cert_join.proofs.weighing.Weighing.step.Goals as goal

pub returns-then-self-len : goal.returns-then-self-len
returns-then-self-len c = λ certs taken end h. over certs taken end c.args.self.now c.args.cursors.now h (omega (arith, c.if-self-len.true, c.len.ensures, c.args.self.now.parts.ok.0))

pub returns-then-part-cursors : goal.returns-then-part-cursors
returns-then-part-cursors c = λ certs taken end h.
    absurd (is_there certs taken end c.args.self.now c.args.cursors.now c.index-part.result.now h (omega (arith, c.if-self-len.false, c.len.ensures, c.args.self.now.parts.ok.0)) c.index-part.ensures c.if-part-cursors.true)

pub returns : goal.returns
returns c = λ certs taken end h.
    let spots = c.args.cursors.now in
    let part = c.index-part.result.now in
    let read = c.index-cursors-part.is in
    weigh_on certs taken end c.args.self.now c.step_in.new.self spots part (get_or spots part c.index-cursors-part.result) c.step_in.new.cursor c.step_in.result h
    (omega (arith, c.if-self-len.false, c.len.ensures, c.args.self.now.parts.ok.0)) (omega (arith, c.args.self.now.parts.ok.0)) c.index-part.ensures c.if-part-cursors.false
    (ap (λ (s : Spot). get_or spots part s) read) c.step_in.ensures
