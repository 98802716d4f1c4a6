use Rattle.std.proofs.Common.{◌≡◌, ap, sym, ◌∙◌, subst}
use Rattle.cover_data.specs.Margins.{margins_of}
use Rattle.cover_data.specs.Models.{KeptModel}
use Rattle.book_lock.specs.Shared.{first_of}
use Rattle.lemma_shelf.specs.Lemmas.{IsLemmaOf}
use Rattle.solve_core.proofs.Together.{lemma_holds}
use Rattle.solve_core.proofs.worker.Worker.learn.Goals as goal

pub post-requires : goal.post-requires
post-requires g c =
    let t = c.args.task.now in
    let e : c.in-Ok.state ≡ c.args.closed.first = c.in-Ok.ensures ∙ ap (λ (k : KeptModel). k.first) c.kept.ensures.kept in
    subst (IsLemmaOf g.J.Subject.problem g.J.Subject.margins) (sym c.new.ensures)
    (lemma_holds (first_of t.shared.now) g.J.Subject.problem g.J.Subject.margins c.args.closed (t.subject_problem ∙ sym t.problem_is) (t.subject_margins ∙ ap margins_of (sym t.options_are)) c.requires.meets c.in-Ok-learn.id c.in-Ok.state e)
