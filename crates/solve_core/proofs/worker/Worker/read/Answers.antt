use Rattle.std.proofs.Common.{◌∙◌, ◌-◌, length}
use Rattle.cover_data.specs.Margins.{margins_of}
use Rattle.std.proofs.Common.{ap, sym}
use Rattle.book_lock.specs.Shared.{first_of}
use Rattle.solve_core.proofs.Together.{read_lemmas}
use Rattle.solve_core.proofs.worker.Worker.read.Goals as goal

pub returns-clause-worker : goal.returns-clause-worker
returns-clause-worker g c = let t = c.args.task.now in record {
  book = c.requires.worker.book;
  seat = c.requires.worker.seat;
  stays = c.requires.worker.stays;
  waiting = c.requires.worker.waiting;
  lemmas = read_lemmas (first_of t.shared.now) g.J.Subject.problem g.J.Subject.margins c.args.self.now.lemmas.items c.more.new.list.items c.keep_latest.new.lemmas.items (length c.more.new.list.items - 64)
      (t.subject_problem ∙ sym t.problem_is) (t.subject_margins ∙ ap margins_of (sym t.options_are)) c.more.ensures.appended c.keep_latest.ensures c.requires.worker.lemmas;
}
