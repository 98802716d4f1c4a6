use Rattle.std.proofs.Common.{ap, ◌∙◌, slice_set}
use Rattle.poly_graph.specs.MarkViews.{mark_of}
use Rattle.poly_graph.proofs.Marks.{map_set}
use Rattle.poly_graph.proofs.lits.Lits.set.Goals as goal

pub returns : goal.returns
returns c = map_set mark_of c.self.inside.marks.items c.args.j c.args.mark ∙ ap (λ ms. slice_set ms c.args.j (mark_of c.args.mark)) c.self.view_is
