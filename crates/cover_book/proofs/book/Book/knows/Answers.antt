-- A lemma is known where the one that is kept under its number has its state.
use Rattle.std.proofs.Common.{ap, sym, ◌∙◌}
use Rattle.std.specs.Prelude.{slice_get}
use Rattle.cover_book.specs.Model.{lemma_states_in}
use Rattle.cover_book.proofs.Lookups.{known_if, known_none}
use Rattle.cover_book.proofs.book.Book.knows.Goals as goal

pub returns-in-Some : goal.returns-in-Some
returns-in-Some c =
    let got = ap (slice_get (lemma_states_in c.args.self.now)) (sym c.id.ensures) ∙ c.in-Some.ensures in
    known_if (slice_get (lemma_states_in c.args.self.now) c.args.lemma.now.id) c.in-Some.state.now c.args.lemma.now.state c.is_same.result got
    (λ k. c.is_same.ensures.0 k ∙ c.state.ensures, λ k. c.is_same.ensures.1 (k ∙ sym c.state.ensures))

pub returns-in-None : goal.returns-in-None
returns-in-None c = known_none (slice_get (lemma_states_in c.args.self.now) c.args.lemma.now.id) c.args.lemma.now.state (ap (slice_get (lemma_states_in c.args.self.now)) (sym c.id.ensures) ∙ c.in-None.ensures)
