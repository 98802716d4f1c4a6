use Rattle.std.proofs.Common.{◌≡◌, refl, ap, ◌∙◌, subst, sym}
use Rattle.cover_data.specs.Models.{KeptModel}
use Rattle.solve_core.specs.declared.search.Search.{Search}
use Rattle.solve_core.specs.Reaches.{Reaches, stays}
use Rattle.solve_core.specs.Search.{CanHand}
use Rattle.solve_core.proofs.Reached.{same_reaches}
use Rattle.solve_core.proofs.Visits.{can_hand, learn_reaches}
use Rattle.solve_core.proofs.search.Search.learn.Goals as goal

pub returns-in_err-state-clause-reached : goal.returns-in_err-state-clause-reached
returns-in_err-state-clause-reached c = stays

pub hand-requires : goal.hand-requires
hand-requires c =
    let s : Search = record { book = c.learn.new.self; waiting = c.args.self.now.waiting; lemmas = c.args.self.now.lemmas; learns = c.args.self.now.learns } in
    let e : c.in_ok-state.state ≡ c.args.closed.first = c.in_ok-state.ensures ∙ ap (λ (k : KeptModel). k.first) c.kept.ensures.kept in
    subst (CanHand s) (sym c.new.ensures) (can_hand c.args.self.now c.args.closed c.requires s c.in-Ok.id c.in_ok-state.state c.in-Ok.ensures e refl refl)

pub returns-in-Ok-clause-reached : goal.returns-in-Ok-clause-reached
returns-in-Ok-clause-reached c = subst (Reaches c.args.self.now.book) (sym c.hand.ensures.book) (learn_reaches c.args.self.now c.args.closed c.requires c.in-Ok.id c.learn.new.self c.in-Ok.ensures)

pub returns-in-Err-clause-reached : goal.returns-in-Err-clause-reached
returns-in-Err-clause-reached c = same_reaches c.in-Err.ensures.1
