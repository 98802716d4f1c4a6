use Rattle.std.proofs.Common.{length}
use Rattle.poly_graph.specs.Views.{kind_of}
use Rattle.smt_sexp.specs.Views.{place_of}
use Rattle.value_build.specs.Loops.{IsLinkingWith}
use Rattle.value_build.proofs.arms.link_with.Given as goal

abbrev pub invariant-loop-other : goal.invariant-loop-other
invariant-loop-other l = IsLinkingWith l.comparing.spread (kind_of l.comparing.kind) (place_of l.comparing.at) l.first l.fn.maker l.maker l.others l.fn.links.items l.left l.links.items

abbrev pub decreases-loop-other : goal.decreases-loop-other
decreases-loop-other l = length l.left
