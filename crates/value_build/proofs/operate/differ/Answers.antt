use Rattle.std.proofs.Common.{map, subst, sym, refl, []}
use Rattle.poly_graph.specs.Term.{eq}
use Rattle.smt_sexp.specs.Views.{place_of}
use Rattle.script_model.specs.Meaning.{pairs}
use Rattle.script_model.specs.Declared.{bounds}
use Rattle.script_forms.specs.Unfolded.{different}
use Rattle.std.specs.Prelude.{Ok}
use Rattle.term_build.specs.Built.{stand_of}
use Rattle.term_build.specs.Pairs.{compared, trees_at}
use Rattle.term_build.specs.Shapes.{sketch_of}
use Rattle.value_build.proofs.Operating.{differs_sketch, bool_value}
use Rattle.value_build.specs.Arithmetic.{AreNodes}
use Rattle.value_build.specs.Making.{Making, making}
use Rattle.value_build.specs.Operators.{DiffersAll}
use Rattle.value_build.specs.declared.value.Value.TheVariants as values
use Rattle.value_build.proofs.operate.differ.Goals as goal

pub invariant_of-maker : goal.invariant_of-maker
invariant_of-maker c = (differs_sketch c.maker.inside.builder (place_of c.args.at) (map sketch_of c.maker.inside.sketch.items) (map sketch_of c.different.new.sketch.items) c.args.nodes.now c.different.result c.maker.invariant (subst (λ (x : Making). AreNodes x.made c.args.nodes.now) (sym c.maker.view_is) c.requires) c.different.ensures).sketch

pub invariant_of-maker-in_err-list : goal.invariant_of-maker-in_err-list
invariant_of-maker-in_err-list c = (differs_sketch c.maker.inside.builder (place_of c.args.at) (map sketch_of c.maker.inside.sketch.items) (map sketch_of c.different.new.sketch.items) c.args.nodes.now c.different.result c.maker.invariant (subst (λ (x : Making). AreNodes x.made c.args.nodes.now) (sym c.maker.view_is) c.requires) c.different.ensures).sketch

pub returns-clause-does : goal.returns-clause-does
returns-clause-does c = subst (λ (x : Making). DiffersAll x (making c.maker.inside.builder (map sketch_of c.different.new.sketch.items) c.no_bounds.new.bounds) (place_of c.args.at) c.args.nodes.now (Ok (values.Bool c.in_ok-pair.pair c.in_ok-list.list))) c.maker.view_is (let ts = (stand_of c.maker.inside.builder).trees in
    bool_value c.maker.inside.builder (map sketch_of c.maker.inside.sketch.items) (map sketch_of c.different.new.sketch.items) c.maker.inside.bounds c.no_bounds.new.bounds (different (pairs (compared eq (place_of c.args.at)) (trees_at ts c.args.nodes.now))) (bounds []) [] [] c.in_ok-pair.pair c.in_ok-list.list
    (differs_sketch c.maker.inside.builder (place_of c.args.at) (map sketch_of c.maker.inside.sketch.items) (map sketch_of c.different.new.sketch.items) c.args.nodes.now (Ok c.in_ok-pair.pair) c.maker.invariant (subst (λ (x : Making). AreNodes x.made c.args.nodes.now) (sym c.maker.view_is) c.requires) c.in_ok-pair.ensures)
    c.in_ok-list.ensures tt refl)

pub invariant_of-maker-2 : goal.invariant_of-maker-2
invariant_of-maker-2 c = (differs_sketch c.maker.inside.builder (place_of c.args.at) (map sketch_of c.maker.inside.sketch.items) (map sketch_of c.different.new.sketch.items) c.args.nodes.now c.different.result c.maker.invariant (subst (λ (x : Making). AreNodes x.made c.args.nodes.now) (sym c.maker.view_is) c.requires) c.different.ensures).sketch
