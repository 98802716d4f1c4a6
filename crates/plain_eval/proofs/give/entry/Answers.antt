use Rattle.std.proofs.Common.{Some, ap, sym, ◌∙◌}
use Rattle.interval_model.specs.Interval.{Interval}
use Rattle.ival.proofs.Optional.{no_option, has_option}
use Rattle.plain_eval.proofs.give.entry.Goals as goal

pub returns-then-marked : goal.returns-then-marked
returns-then-marked c = ap (λ (i : Interval). Some i) c.get.ensures ∙ sym (has_option c.args.rows.now c.args.place (sym c.if-marked.ensures))

pub returns-else-marked : goal.returns-else-marked
returns-else-marked c = sym (no_option c.args.rows.now c.args.place (sym c.if-marked.ensures))
