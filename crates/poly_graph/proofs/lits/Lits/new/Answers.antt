use Rattle.poly_graph.specs.MarkViews.{mark_of}
use Rattle.poly_graph.specs.declared.mark.Mark.TheVariants.{Neither}
use Rattle.poly_graph.proofs.Marks.{filled}
use Rattle.poly_graph.proofs.lits.Lits.new.Goals as goal

pub returns : goal.returns
returns c = filled mark_of c.args.atoms _ c.new-marks.result.items c.resize.new.self.items Neither c.new-marks.ensures.items c.new-marks.ensures.len c.in_ok-resize.ensures.items
