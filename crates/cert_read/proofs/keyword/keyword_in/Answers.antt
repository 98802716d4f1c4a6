use Rattle.std.proofs.Common.{sym}
use Rattle.cert_read.proofs.KeywordWords.{no_keyword}
use Rattle.cert_read.proofs.keyword.keyword_in.Goals as goal

pub returns-in-None-spelled : goal.returns-in-None-spelled
returns-in-None-spelled c = no_keyword c.args.word.now (sym c.in-None.ensures) c.in-None-spelled.ensures
