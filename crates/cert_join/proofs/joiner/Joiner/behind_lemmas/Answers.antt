use Rattle.cert_join.specs.Gathered.{lists_of}
use Rattle.std.proofs.Common.{◌∙◌}
use Rattle.cert_join.proofs.Stages.{trees_start}
use Rattle.cert_join.proofs.joiner.Joiner.behind_lemmas.Goals as goal

pub returns-in-Ok-new-clause-stage : goal.returns-in-Ok-new-clause-stage
returns-in-Ok-new-clause-stage c certs first others done texts h =
    trees_start certs first others done c.args.text.now.items c.extend_from_slice.new.self.items (lists_of c.args.self.now.numbers.items) c.in-Ok-new.trees c.len.result
    c.args.self.now.cursors.items texts h c.in-Ok.ensures.items (c.len.ensures ∙ c.args.self.now.cursors.ok.0) c.in-Ok-new.ensures
