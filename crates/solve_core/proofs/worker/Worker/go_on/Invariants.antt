use Rattle.std.proofs.Common.{◌≡◌}
use Rattle.solve_core.specs.Workers.{IsWorkerOf}
use Rattle.solve_core.proofs.worker.Worker.go_on.Given as goal

abbrev pub invariant-loop : goal.invariant-loop
invariant-loop g l = record {
  worker : IsWorkerOf l.task.shared.now l.self;
  room : l.room ≡ l.task.problem.now;
  source : g.S.LemmaSource.ready l.source;
  alike : (x : g.row.S.Denot) → g.S.LemmaSource.alike x l.initial.source → g.S.LemmaSource.alike x l.source;
}
