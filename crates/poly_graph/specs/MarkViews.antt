-- The code's marks as the definitions see them.
use Rattle.poly_graph.specs.declared.mark.Mark.{Mark}
use Rattle.poly_graph.specs.declared.mark.Mark.TheVariants.{Yes, No, Neither}
use Rattle.poly_graph.specs.Marks
use Rattle.poly_graph.specs.Marks.{marked_yes, marked_no, unmarked}

abbrev pub mark_of : Mark → Marks.Mark
mark_of Yes = marked_yes
mark_of No = marked_no
mark_of Neither = unmarked
