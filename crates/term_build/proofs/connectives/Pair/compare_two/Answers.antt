use Rattle.std.proofs.Common.{map, subst, sym}
use Rattle.term_build.specs.Shapes.{sketch_of}
use Rattle.poly_graph.specs.Views.{kind_of}
use Rattle.poly_graph.specs.declared.node.Kind.{Kind}
use Rattle.smt_sexp.specs.Views.{place_of}
use Rattle.term_build.specs.Pairs.{ComparesTwo}
use Rattle.term_build.proofs.Pairs.{compares_most, compares_least, compares_equal}
use Rattle.term_build.proofs.connectives.Pair.compare_two.Goals as goal

pub returns-in-Le : goal.returns-in-Le
returns-in-Le c = subst (λ (kind : Kind). ComparesTwo (kind_of kind) (place_of c.args.at) (map sketch_of c.args.sketch.now.items) (map sketch_of c.add_pair.new.sketch.items) c.args.left c.args.right c.add_pair.result) (sym c.in-Le.is)
    (compares_most (map sketch_of c.args.sketch.now.items) (map sketch_of c.add_pair.new.sketch.items) (place_of c.args.at) c.args.left c.args.right c.add_pair.result c.add_pair.ensures)

pub returns-in-Ge : goal.returns-in-Ge
returns-in-Ge c = subst (λ (kind : Kind). ComparesTwo (kind_of kind) (place_of c.args.at) (map sketch_of c.args.sketch.now.items) (map sketch_of c.add_pair-in-Ge.new.sketch.items) c.args.left c.args.right c.add_pair-in-Ge.result) (sym c.in-Ge.is)
    (compares_least (map sketch_of c.args.sketch.now.items) (map sketch_of c.add_pair-in-Ge.new.sketch.items) (place_of c.args.at) c.args.left c.args.right c.add_pair-in-Ge.result c.add_pair-in-Ge.ensures)

pub returns-in-Eq : goal.returns-in-Eq
returns-in-Eq c = subst (λ (kind : Kind). ComparesTwo (kind_of kind) (place_of c.args.at) (map sketch_of c.args.sketch.now.items) (map sketch_of c.add_pair-in-Eq.new.sketch.items) c.args.left c.args.right c.add_pair-in-Eq.result) (sym c.in-Eq.is)
    (compares_equal (map sketch_of c.args.sketch.now.items) (map sketch_of c.add_pair-in-Eq.new.sketch.items) (place_of c.args.at) c.args.left c.args.right c.add_pair-in-Eq.result c.add_pair-in-Eq.ensures)
