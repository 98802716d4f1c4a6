use Rattle.std.proofs.Common.{◌≡◌, Some, map}
use Rattle.std.specs.Prelude.{slice_get}
use Rattle.reader_rows.proofs.of_session.problem_at.Given as goal

-- the problem is that of the check before
abbrev pub invariant-loop-before : goal.invariant-loop-before
invariant-loop-before l = slice_get (map (λ q. q.0) l.session) l.before ≡ Some l.problem
