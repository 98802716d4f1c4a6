use Rattle.std.proofs.Common.{length, ap, ◌∙◌}
use Rattle.cover_model.proofs.NodeEnclosures.{length_enclosures}
use Rattle.cert_check.proofs.tools.Tools.new.Goals as goal

pub new-requires-4 : goal.new-requires-4
new-requires-4 c =
    let e = c.in_ok-rows.ensures in
    ap length e.filled ∙ length_enclosures e.space c.graph-graph.result.now ∙ ap length c.graph-graph.ensures.graph
