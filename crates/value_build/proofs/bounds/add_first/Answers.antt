use Rattle.std.proofs.Common.{subst, sym, List, ℕ}
use Rattle.poly_graph.specs.Views.{kind_of}
use Rattle.script_model.specs.Declared.{Bounding}
use Rattle.term_build.specs.Built.{stand_of}
use Rattle.value_build.specs.Bounds.{AddsBounds, first_bounds, bounds_of_kind, weight_of}
use Rattle.value_build.specs.Weights.{weight, term_at}
use Rattle.value_build.proofs.bounds.add_first.Goals as goal

pub returns : goal.returns
returns c = let ts = (stand_of c.args.builder.now).trees in let kind = kind_of c.args.kind in
    subst (λ (ks : List ℕ). AddsBounds c.args.bounds.now c.add_bounds.new.bounds c.args.parts.now.items c.add_bounds.new.parts.items (first_bounds kind ts c.args.first ks) c.add_bounds.result) (sym c.in-Some.ensures.cases.0)
    (subst (λ (a : Bounding). AddsBounds c.args.bounds.now c.add_bounds.new.bounds c.args.parts.now.items c.add_bounds.new.parts.items (bounds_of_kind kind a (weight (term_at ts c.in-Some.next.now))) c.add_bounds.result) c.weigh-a.ensures
    (subst (λ (b : Bounding). AddsBounds c.args.bounds.now c.add_bounds.new.bounds c.args.parts.now.items c.add_bounds.new.parts.items (bounds_of_kind kind (weight_of c.weigh-a.result) b) c.add_bounds.result) c.weigh-b.ensures c.add_bounds.ensures))
