use Rattle.std.proofs.Common.{Ok, inl, inr}
use Rattle.cert_base.proofs.Ended.{line_refused, end_fault}
use Rattle.cert_base.proofs.read.take_all.Goals as goal

pub returns-in-Ok-clause-fault : goal.returns-in-Ok-clause-fault
returns-in-Ok-clause-fault c b e =
    end_fault c.args.problem.now b c.args.cert.now c.reader_of.ensures.few c.args.checker.now c.take.new.checker c.in_ok-reader.reader (Ok c.in-Ok.field-0) c.finish.result e c.in_ok-reader.ensures.reader
    c.in-Ok.ensures.ok c.finish.ensures

pub returns-clause-fault : goal.returns-clause-fault
returns-clause-fault c b e = elim c.in-Err.ensures.fault [
  | inl m ↦ inl m
  | inr t ↦ line_refused c.args.problem.now b c.args.cert.now c.reader_of.ensures.few c.args.checker.now c.take.new.checker c.in_ok-reader.reader c.in-Err.fault e c.in_ok-reader.ensures.reader t
]
