use Rattle.std.proofs.Common.{arith}
use Rattle.smt_sexp.proofs.Sizes.{fault_of_many, reads_bytes}
use Rattle.smt_sexp.proofs.reading.read.Goals as goal

pub returns-then-bytes-gt-MOST_BYTES : goal.returns-then-bytes-gt-MOST_BYTES
returns-then-bytes-gt-MOST_BYTES c = rw c.at.ensures (fault_of_many c.args.bytes.now (omega arith))

pub returns : goal.returns
returns c = reads_bytes c.args.bytes.now c.read_text.result (omega arith) c.read_text.ensures
