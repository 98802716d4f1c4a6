use Rattle.std.specs.Prelude.{◌≡◌}
use Rattle.cover_rows.proofs.patches.follow.Given as goal

abbrev pub invariant-loop-text : goal.invariant-loop-text
invariant-loop-text l = record {
  problem : l.patch.problem ≡ l.initial.patch.problem;
  margins : l.patch.margins ≡ l.initial.patch.margins;
}
