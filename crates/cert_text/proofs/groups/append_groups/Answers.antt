use Rattle.cert_text.proofs.GroupWords.{group_operands}
use Rattle.cert_text.proofs.SquareWords.{both_ok}
use Rattle.cert_text.proofs.groups.append_groups.Goals as goal

pub returns : goal.returns
returns c =
    both_ok c.append_each-2.result
    (λ w k. group_operands c.args.first.now c.args.second.now _ _ _ _ c.in_ok-append_size.ensures c.in_ok-append_each.ensures.words w c.in_ok-append_each.ensures.counts k)
    c.append_each-2.ensures.words c.append_each-2.ensures.counts
