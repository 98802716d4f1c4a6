use Rattle.std.proofs.Common.{◌≡◌, ◌∙◌, ap, sym}
use Rattle.poly_graph.specs.MarkViews.{mark_of}
use Rattle.cover_model.specs.State.{State}
use Rattle.poly_graph.specs.Marks.{marked_yes, marked_no, unmarked, is_unmarked, mark_at}
use Rattle.cover_data.proofs.Withins.{undecided_at}
use Rattle.cover_data.proofs.state.State.is_undecided.Goals as goal

pub returns-in-Yes : goal.returns-in-Yes
returns-in-Yes c =
    let e : marked_yes ≡ mark_at c.args.self.now.marks c.args.j = ap mark_of (sym c.in-Yes.is) ∙ c.mark.ensures ∙ ap (λ (S : State). mark_at S.marks c.args.j) c.self.view_is in
    ap is_unmarked e ∙ sym (undecided_at c.args.self.now.marks c.args.j c.requires)

pub returns-in-No : goal.returns-in-No
returns-in-No c =
    let e : marked_no ≡ mark_at c.args.self.now.marks c.args.j = ap mark_of (sym c.in-No.is) ∙ c.mark.ensures ∙ ap (λ (S : State). mark_at S.marks c.args.j) c.self.view_is in
    ap is_unmarked e ∙ sym (undecided_at c.args.self.now.marks c.args.j c.requires)

pub returns-in-Neither : goal.returns-in-Neither
returns-in-Neither c =
    let e : unmarked ≡ mark_at c.args.self.now.marks c.args.j = ap mark_of (sym c.in-Neither.is) ∙ c.mark.ensures ∙ ap (λ (S : State). mark_at S.marks c.args.j) c.self.view_is in
    ap is_unmarked e ∙ sym (undecided_at c.args.self.now.marks c.args.j c.requires)
