use Rattle.std.proofs.Common.{map}
use Rattle.smt_sexp.specs.Views.{place_of}
use Rattle.term_build.specs.Shapes.{sketch_of}
use Rattle.value_build.specs.Meetings.{IsSpreading, turns_left}
use Rattle.value_build.proofs.lift.spread.Given as goal

abbrev pub invariant-loop-meeting : goal.invariant-loop-meeting
invariant-loop-meeting l = IsSpreading l.fn.builder l.builder (map sketch_of l.sketch) l.task (place_of l.at) l.fn.meeting.first l.fn.meeting.second l.entries.items l.left.items

abbrev pub decreases-loop-meeting : goal.decreases-loop-meeting
decreases-loop-meeting l = turns_left l.builder l.left.items
