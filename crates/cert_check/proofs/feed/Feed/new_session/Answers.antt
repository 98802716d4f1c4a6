use Rattle.std.proofs.Common.{sym, subst}
use Rattle.cert_check.specs.Checked.{Checked}
use Rattle.cert_check.specs.Sessions.{IsFreshFor}
use Rattle.cert_check.proofs.Feeding.{feed_start}
use Rattle.cert_check.proofs.feed.Feed.new_session.Goals as goal

pub returns : goal.returns
returns c =
    let f = subst (λ (x : Checked). IsFreshFor c.args.session.now c.args.bound x) (sym c.begin.ensures.checker) c.in_ok-new_session.ensures in
    feed_start c.args.session.now c.args.bound c.begin.result f.checks f.is_fresh c.begin.ensures.reader c.begin.ensures.taken
