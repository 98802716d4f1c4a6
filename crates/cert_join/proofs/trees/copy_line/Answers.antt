use Rattle.cert_join.proofs.Copying.{line_copied}
use Rattle.cert_join.proofs.trees.copy_line.Goals as goal

pub returns : goal.returns
returns c cert rest whole some d =
    line_copied cert _ rest whole _ _ _ _ _ _ _ _ _ _ some d c.is_ready.ensures.same (c.is_ready.ensures.ready c.if-not-is_ready.false) c.text-line.ensures
    c.left_of-left.ensures c.in_ok-append_renumbered.ensures c.pass.ensures c.waiting.ensures c.in_ok-push.ensures.items
