use Rattle.std.proofs.Common.{◌≡◌, drop, length}
use Rattle.cover_model.specs.Rules.{with_all_yes}
use Rattle.cover_data.proofs.kids.mark_yes.Given as goal

-- the atoms before this one are marked
abbrev pub invariant-loop-j : goal.invariant-loop-j
invariant-loop-j l =
    (with_all_yes l.initial.state l.group ≡ with_all_yes l.state (drop l.j-index l.group))
    × (length l.state.marks ≡ length l.initial.state.marks)
