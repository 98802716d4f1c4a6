use Rattle.std.proofs.Common.{ap, ◌∙◌, refl}
use Rattle.cover_data.specs.Models.{LemmaModel, KeptModel}
use Rattle.thread_rows.proofs.TriedLemmaShelf.{lemma_of_run}
use Rattle.thread_rows.proofs.of_lemma_shelf.lemma_of.Goals as goal

pub returns : goal.returns
returns c =
    lemma_of_run c.args.problem.now c.args.problem.now c.args.margins.now c.args.margins.now c.in-Some.closed c.new.result refl refl c.in-Some.ensures.run c.in-Some.ensures.closed
    (ap (λ (l : LemmaModel). l.state) c.new.ensures ∙ c.in-Ok.ensures ∙ ap (λ (k : KeptModel). k.first) c.kept.ensures.kept)
