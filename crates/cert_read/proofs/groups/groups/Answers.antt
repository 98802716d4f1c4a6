use Rattle.std.proofs.Common.{option_copied}
use Rattle.cert_read.specs.Taking.{words_ahead}
use Rattle.cert_read.specs.Words.{words_behind}
use Rattle.cert_read.proofs.Takings.{groups_on}
use Rattle.cert_read.proofs.groups.groups.Goals as goal

pub returns : goal.returns
returns c f =
    groups_on (words_behind (option_copied c.args.rest)) (words_ahead c.count.new.self) (words_ahead c.counts.new.self)
    c.in_ok-many.many c.in_ok-first.first.items c.in_ok-second.second.items c.in_ok-many.ensures c.in_ok-first.ensures c.in_ok-second.ensures f
