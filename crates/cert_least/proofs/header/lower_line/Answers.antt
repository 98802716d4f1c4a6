use Rattle.cert_read.specs.Views.{line_of}
use Rattle.cert_least.proofs.Lines.{lower_on}
use Rattle.cert_least.proofs.header.lower_line.Goals as goal

pub returns-in-Some : goal.returns-in-Some
returns-in-Some c a d h e = lower_on a c.args.told (line_of c.args.line.now) c.in-Some.lower c.in-Some.ensures d c.args.checker.now h e

pub returns-in-None : goal.returns-in-None
returns-in-None c = c.no_lower.ensures
