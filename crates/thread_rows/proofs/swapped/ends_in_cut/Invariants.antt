use Rattle.std.specs.Prelude.{◌≡◌}
use Rattle.thread_rows.proofs.swapped.ends_in_cut.Given as goal

abbrev pub invariant-loop-j : goal.invariant-loop-j
invariant-loop-j l = record {
  problem : l.patch.problem ≡ l.initial.patch.problem;
  margins : l.patch.margins ≡ l.initial.patch.margins;
}
