use Rattle.std.proofs.Common.{subst, List, ℕ}
use Rattle.poly_graph.specs.Views.{kind_of}
use Rattle.term_build.specs.Built.{stand_of}
use Rattle.value_build.specs.Arithmetic.{AreNodes}
use Rattle.value_build.specs.Bounds.{IsListing, chained_bounds}
use Rattle.value_build.specs.Weights.{weights}
use Rattle.value_build.proofs.Listing.{listing_step}
use Rattle.value_build.proofs.bounds.chain_bounds.Goals as goal

pub loop-first-preserved : goal.loop-first-preserved
loop-first-preserved c = let ts = (stand_of c.args.builder.now).trees in let kind = kind_of c.args.kind in
    let all = chained_bounds kind (weights ts c.args.nodes.now) in (
      (subst (λ (ks : List ℕ). AreNodes c.args.builder.now ks) c.in-Some.ensures.cases.0 c.loop-first.invariant.0).1,
      listing_step kind ts c.args.bounds.now c.loop-first.bounds c.add_first.new.bounds all c.loop-first.parts.items c.add_first.new.parts.items c.in-Some.first.now c.in-Some.later.now c.in_ok-add_first.field-0
          (subst (λ (ks : List ℕ). IsListing kind ts c.args.bounds.now c.loop-first.bounds all c.loop-first.parts.items (chained_bounds kind (weights ts ks))) c.in-Some.ensures.cases.0 c.loop-first.invariant.1)
          c.in_ok-add_first.ensures,
    )
