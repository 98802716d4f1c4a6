use Rattle.std.proofs.Common.{◌∙◌, sym, ap₂, subst, IsTrue, true≢false}
use Rattle.poly_graph.specs.Marks.{marks_within}
use Rattle.poly_graph.proofs.Marks.{marks_reflexive}
use Rattle.cover_data.proofs.Withins.{same_marks}
use Rattle.cover_data.proofs.stored.are_same_marks.Goals as goal

pub returns-then-has_marks : goal.returns-then-has_marks
returns-then-has_marks c =
    let M = c.args.marks.now in let O = c.args.others.now in (
      λ h. same_marks M O
          (ap₂ marks_within (sym c.marks.ensures) (sym c.marks-2.ensures) ∙ sym c.has_marks.ensures ∙ c.if-has_marks.true)
          (ap₂ marks_within (sym c.marks-then-has_marks.ensures) (sym c.marks-then-has_marks-2.ensures) ∙ sym c.has_marks-then-has_marks.ensures ∙ h),
      λ e. c.has_marks-then-has_marks.ensures ∙ ap₂ marks_within c.marks-then-has_marks.ensures c.marks-then-has_marks-2.ensures ∙ subst (λ X. IsTrue (marks_within O X)) (sym e) (marks_reflexive O),
    )

pub returns-else-has_marks : goal.returns-else-has_marks
returns-else-has_marks c =
    let M = c.args.marks.now in (
      λ h. absurd (true≢false (sym h ∙ c.if-has_marks.false)),
      λ e. c.has_marks.ensures ∙ ap₂ marks_within c.marks.ensures c.marks-2.ensures ∙ subst (λ X. IsTrue (marks_within M X)) e (marks_reflexive M),
    )
