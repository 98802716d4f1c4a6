use Rattle.std.proofs.Common.{◌++◌, List, ℕ, map, ap, ◌∙◌, arith}
use Rattle.std.proofs.lemmas.List.{length-map}
use Rattle.std.proofs.lemmas.Result.{on_ok_weaker}
use Rattle.poly_graph.specs.MarkViews.{mark_of}
use Rattle.cert_text.proofs.Spelling.{marks_appended}
use Rattle.cert_text.proofs.append.append_marks.Goals as goal

pub returns : goal.returns
returns c = on_ok_weaker c.append_break.result
    (λ e. marks_appended c.args.yes (map mark_of c.args.marks.now) _ _ _ _ (omega (arith, c.requires, length-map c.args.marks.now mark_of))
    (c.in_ok-extend_from_slice.ensures.items ∙ ap (λ (w : List ℕ). c.args.text.now.items ++ w) (c.as_bytes.ensures.value ∙ c.marks_bytes.ensures)) c.in_ok-append_numbers.ensures e)
    c.append_break.ensures
