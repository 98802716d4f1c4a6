use Rattle.std.proofs.Common.{ℕ, List, Option, false, ◌++◌}
use Rattle.desk.specs.Sight.{Sight}
use Rattle.poly_graph.specs.ProblemViews.{Parts}
use Rattle.cert_join.specs.Drafting.{HasDrafted, IsOn}
use Rattle.cert_join.proofs.drafting.run.Given as goal

abbrev pub invariant-loop : goal.invariant-loop
invariant-loop g l = (s : Sight) (p : Parts) (b : Option ℕ) (before done : List ℕ) → HasDrafted s p b (before ++ done) (g.D.Desk.sight l.fn.desk) l.fn.feed →
    IsOn s p b before done l.fn.text.items l.fn.joiner false (g.D.Desk.sight l.desk) l.feed l.joiner l.text.items
