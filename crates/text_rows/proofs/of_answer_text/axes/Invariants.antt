use Rattle.std.proofs.Common.{◌≡◌, All}
use Rattle.poly_graph.specs.declared.axis.Axis.{Axis}
use Rattle.poly_graph.specs.ProblemViews.{declared_of}
use Rattle.text_rows.specs.TriedAnswerText.{from_nought_to_one}
use Rattle.text_rows.proofs.of_answer_text.axes.Given as goal

abbrev pub invariant-loop-name : goal.invariant-loop-name
invariant-loop-name l = All (λ (a : Axis). declared_of a.declared ≡ from_nought_to_one) l.axes.items
