use Rattle.spelling_law.proofs.Read.{only_spellings}
use Rattle.spelling_law.proofs.only_spellings_read.Goals as goal

-- src/lib.rt:10:1
pub returns : goal.returns
returns c = only_spellings
