use Rattle.std.proofs.Common.{List, map, ap, ◌∙◌}
use Rattle.cover_model.specs.Rules.{Line}
use Rattle.cover_data.specs.declared.step.End.{End}
use Rattle.cover_data.specs.Views.{step_line, end_line}
use Rattle.cover_book.specs.Model.{stuck_node}
use Rattle.cover_book.specs.Views.{node_of}
use Rattle.cert_text.proofs.stuck.stuck_box.Goals as goal

pub returns-in-Stuck-end : goal.returns-in-Stuck-end
returns-in-Stuck-end c =
    let steps : List Line = map step_line c.in-Stuck.lines.steps.items in
    (steps, ap node_of c.in-Stuck.is ∙ ap (λ (e : End). stuck_node steps (end_line e) c.in-Stuck.state) c.in-Stuck-end.is)
