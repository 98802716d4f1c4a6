use Rattle.std.proofs.Common.{Ok, Err, refl}
use Rattle.cert_read.specs.Views.{line_of}
use Rattle.cert_least.proofs.Advancing.{given}
use Rattle.cert_least.proofs.given.give.Goals as goal

pub returns-in-Ok : goal.returns-in-Ok
returns-in-Ok c p b d h = given c.args.checker.now c.line.new.self (line_of c.args.line.now) c.args.phase (Ok c.in-Ok.field-0) (Ok c.args.phase) c.in-Ok.ensures (λ t e. refl) (λ f e. cc) p b d h

pub returns-in-Err : goal.returns-in-Err
returns-in-Err c p b d h = given c.args.checker.now c.line.new.self (line_of c.args.line.now) c.args.phase (Err c.in-Err.fault) (Err c.in-Err.fault) c.in-Err.ensures (λ t e. cc) (λ f e. cc) p b d h
