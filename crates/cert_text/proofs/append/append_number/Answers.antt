use Rattle.cert_text.proofs.Numbers.{number_spelled}
use Rattle.cert_text.proofs.append.append_number.Goals as goal

pub returns-clause-spelled : goal.returns-clause-spelled
returns-clause-spelled c = number_spelled c.args.number
