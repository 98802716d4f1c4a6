use Rattle.std.proofs.Common.{refl}
use Rattle.smt_sexp.specs.Arena.{rest_of, listed}
use Rattle.smt_script.specs.Run.{before_of}
use Rattle.smt_script.proofs.Heads.{ended}
use Rattle.smt_script.proofs.reading.step.Goals as goal

pub returns-then-before : goal.returns-then-before
returns-then-before c = (ended (before_of c.args.before) (listed (rest_of c.args.sexps.now c.args.at)) c.if-before.true, refl)
