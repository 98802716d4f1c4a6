use Rattle.std.proofs.Common.{length}
use Rattle.poly_graph.specs.Views.{kind_of}
use Rattle.smt_sexp.specs.Views.{place_of}
use Rattle.value_build.specs.Loops.{IsLinkingEach}
use Rattle.value_build.proofs.arms.link_each.Given as goal

abbrev pub invariant-loop-first : goal.invariant-loop-first
invariant-loop-first l = IsLinkingEach l.comparing.spread (kind_of l.comparing.kind) (place_of l.comparing.at) l.fn.maker l.maker l.values l.fn.links.items l.left l.links.items

abbrev pub decreases-loop-first : goal.decreases-loop-first
decreases-loop-first l = length l.left
