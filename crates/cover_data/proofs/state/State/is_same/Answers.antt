use Rattle.std.proofs.Common.{◌∙◌, sym, subst, IsTrue, true≢false}
use Rattle.cover_model.specs.State.{State, covers}
use Rattle.cover_data.proofs.Runs.{covers_itself}
use Rattle.cover_data.proofs.Withins.{same_states}
use Rattle.cover_data.proofs.state.State.is_same.Goals as goal

pub returns-then-covers : goal.returns-then-covers
returns-then-covers c =
    let S = c.args.self.now in let T = c.args.other.now in
    (λ h. same_states S T (sym c.covers.ensures ∙ c.if-covers.true) (sym c.covers-then-covers.ensures ∙ h), λ e. c.covers-then-covers.ensures ∙ subst (λ (X : State). IsTrue (covers T X)) (sym e) (covers_itself T))

pub returns-else-covers : goal.returns-else-covers
returns-else-covers c =
    let S = c.args.self.now in let T = c.args.other.now in
    (λ h. absurd (true≢false (sym h ∙ c.if-covers.false)), λ e. c.covers.ensures ∙ subst (λ (X : State). IsTrue (covers S X)) e (covers_itself S))
