use Rattle.std.proofs.Common.{◌≤◌, List, length}
use Rattle.script_model.specs.Script.{Command}
use Rattle.poly_graph.specs.ProblemViews.{Parts}
use Rattle.problem_build.specs.Changes.{Starts}
use Rattle.problem_build.specs.Progress.{IsBuiltBy}
use Rattle.problem_build.proofs.Past.{IsBack}
use Rattle.problem_build.proofs.progress.Progress.back_to.Given as goal

abbrev pub invariant-loop-self : goal.invariant-loop-self
invariant-loop-self l = ((script : List Command) → IsBuiltBy script l.fn.self → IsBack script l.self × (l.count ≤ length script → l.count ≤ length l.self.before.items)) ×
    ((p : Parts) → Starts p l.fn.self.maker.made → Starts p l.self.maker.made)

abbrev pub decreases-loop-self : goal.decreases-loop-self
decreases-loop-self l = length l.self.before.items
