use Rattle.std.proofs.Common.{map, subst, sym, refl, List, Vec, Global, Ok}
use Rattle.poly_graph.specs.Views.{kind_of}
use Rattle.smt_sexp.specs.Views.{place_of}
use Rattle.script_model.specs.Meaning.{neighbours}
use Rattle.script_model.specs.Declared.{bounds}
use Rattle.script_forms.specs.Terms.{Unfolded}
use Rattle.script_forms.specs.Unfolded.{chain}
use Rattle.term_build.specs.Built.{stand_of}
use Rattle.term_build.specs.Pairs.{Draws, Sketches, compared, trees_at}
use Rattle.term_build.specs.Shapes.{sketch_of}
use Rattle.term_build.specs.declared.connectives.Pair.{Pair}
use Rattle.value_build.specs.Bounds.{chained_bounds}
use Rattle.value_build.specs.Weights.{weights}
use Rattle.value_build.specs.declared.chains.Spread.TheVariants.{Next}
use Rattle.value_build.proofs.Listing.{chained_same}
use Rattle.value_build.proofs.Spreads.{spread_next}
use Rattle.value_build.proofs.Operating.{compares_sketch, compares_joined, bool_value}
use Rattle.value_build.specs.Arithmetic.{AreNodes}
use Rattle.value_build.specs.Making.{Making, making}
use Rattle.value_build.specs.Operators.{ComparesAll}
use Rattle.value_build.specs.declared.value.Value.TheVariants as values
use Rattle.value_build.proofs.operate.compare.Goals as goal

pub invariant_of-maker : goal.invariant_of-maker
invariant_of-maker c = compares_sketch (λ (ps : Vec Pair Global). ps.items) Next (compared (kind_of c.args.kind) (place_of c.args.at)) c.maker.inside.builder (map sketch_of c.maker.inside.sketch.items) (map sketch_of c.compare_each.new.sketch.items) c.args.nodes.now c.compare_each.result c.maker.invariant (subst (λ (x : Making). AreNodes x.made c.args.nodes.now) (sym c.maker.view_is) c.requires) c.compare_each.ensures

pub invariant_of-maker-in_err-pair : goal.invariant_of-maker-in_err-pair
invariant_of-maker-in_err-pair c = (compares_joined (λ (ps : Vec Pair Global). ps.items) Next (compared (kind_of c.args.kind) (place_of c.args.at)) chain c.maker.inside.builder (map sketch_of c.maker.inside.sketch.items) (map sketch_of c.compare_each.new.sketch.items) (map sketch_of c.chain.new.sketch.items) c.args.nodes.now c.in_ok-links.links c.deref.result.now c.chain.result c.deref.ensures.value c.maker.invariant (subst (λ (x : Making). AreNodes x.made c.args.nodes.now) (sym c.maker.view_is) c.requires) c.in_ok-links.ensures c.chain.ensures).sketch

pub invariant_of-maker-in_err-list : goal.invariant_of-maker-in_err-list
invariant_of-maker-in_err-list c = (compares_joined (λ (ps : Vec Pair Global). ps.items) Next (compared (kind_of c.args.kind) (place_of c.args.at)) chain c.maker.inside.builder (map sketch_of c.maker.inside.sketch.items) (map sketch_of c.compare_each.new.sketch.items) (map sketch_of c.chain.new.sketch.items) c.args.nodes.now c.in_ok-links.links c.deref.result.now c.chain.result c.deref.ensures.value c.maker.invariant (subst (λ (x : Making). AreNodes x.made c.args.nodes.now) (sym c.maker.view_is) c.requires) c.in_ok-links.ensures c.chain.ensures).sketch

pub returns-clause-does : goal.returns-clause-does
returns-clause-does c = subst (λ (x : Making). ComparesAll x (making c.maker.inside.builder (map sketch_of c.chain.new.sketch.items) c.chain_bounds.new.bounds) (kind_of c.args.kind) (place_of c.args.at) c.args.nodes.now (Ok (values.Bool c.in_ok-pair.pair c.in_ok-list.list))) c.maker.view_is (λ bs h. let ts = (stand_of c.maker.inside.builder).trees in let kind = kind_of c.args.kind in let f = compared kind (place_of c.args.at) in
    bool_value c.maker.inside.builder (map sketch_of c.maker.inside.sketch.items) (map sketch_of c.chain.new.sketch.items) c.maker.inside.bounds c.chain_bounds.new.bounds (chain (neighbours f (trees_at ts c.args.nodes.now))) (bounds (chained_bounds kind bs)) (chained_bounds kind (weights ts c.args.nodes.now)) (chained_bounds kind bs) c.in_ok-pair.pair c.in_ok-list.list
    (subst (λ (us : List Unfolded). Sketches (map sketch_of c.maker.inside.sketch.items) (map sketch_of c.chain.new.sketch.items) c.maker.inside.builder (Draws ts (map sketch_of c.chain.new.sketch.items) (chain us)) (Ok c.in_ok-pair.pair)) (spread_next f (trees_at ts c.args.nodes.now))
    (compares_joined (λ (ps : Vec Pair Global). ps.items) Next (compared (kind_of c.args.kind) (place_of c.args.at)) chain c.maker.inside.builder (map sketch_of c.maker.inside.sketch.items) (map sketch_of c.compare_each.new.sketch.items) (map sketch_of c.chain.new.sketch.items) c.args.nodes.now c.in_ok-links.links c.deref.result.now (Ok c.in_ok-pair.pair) c.deref.ensures.value c.maker.invariant (subst (λ (x : Making). AreNodes x.made c.args.nodes.now) (sym c.maker.view_is) c.requires) c.in_ok-links.ensures c.in_ok-pair.ensures))
    c.in_ok-list.ensures (chained_same kind ts c.args.nodes.now bs h) refl)

pub invariant_of-maker-2 : goal.invariant_of-maker-2
invariant_of-maker-2 c = (compares_joined (λ (ps : Vec Pair Global). ps.items) Next (compared (kind_of c.args.kind) (place_of c.args.at)) chain c.maker.inside.builder (map sketch_of c.maker.inside.sketch.items) (map sketch_of c.compare_each.new.sketch.items) (map sketch_of c.chain.new.sketch.items) c.args.nodes.now c.in_ok-links.links c.deref.result.now c.chain.result c.deref.ensures.value c.maker.invariant (subst (λ (x : Making). AreNodes x.made c.args.nodes.now) (sym c.maker.view_is) c.requires) c.in_ok-links.ensures c.chain.ensures).sketch
