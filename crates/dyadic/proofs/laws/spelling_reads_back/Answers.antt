use Rattle.dyadic.proofs.TextLaws.{spelling_reads_back}
use Rattle.dyadic.proofs.laws.spelling_reads_back.Goals as goal

pub returns : goal.returns
returns c = spelling_reads_back
