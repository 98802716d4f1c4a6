use Rattle.std.proofs.Common.{map, arith}
use Rattle.poly_graph.specs.Views.{kind_of}
use Rattle.smt_sexp.specs.Views.{place_of}
use Rattle.term_build.specs.Shapes.{sketch_of}
use Rattle.value_build.proofs.Spreading.{nothing_in}
use Rattle.value_build.proofs.Gathering.{can_join_pairs, pairs_begin, pairs_gathered, pairs_go_on, pairs_there}
use Rattle.value_build.proofs.lift.gather_pairs.Goals as goal

pub loop-entry-init : goal.loop-entry-init
loop-entry-init c = pairs_begin (kind_of c.args.kind) (place_of c.args.at) (map sketch_of c.args.sketch.now.items) c.args.entries.items c.new-said.result.items c.new-said.ensures.items

pub join_pairs-requires : goal.join_pairs-requires
join_pairs-requires c = can_join_pairs (kind_of c.args.kind) (place_of c.args.at) (map sketch_of c.args.sketch.now.items) (map sketch_of c.loop-entry.sketch.items) c.args.entries.items c.loop-entry.entries.items c.pop.new.self.items c.in-Some.entry c.loop-entry.said.items c.loop-entry.invariant c.in-Some.ensures.items c.requires

pub loop-entry-preserved : goal.loop-entry-preserved
loop-entry-preserved c = pairs_go_on (kind_of c.args.kind) (place_of c.args.at) (map sketch_of c.args.sketch.now.items) (map sketch_of c.loop-entry.sketch.items) c.args.entries.items c.loop-entry.entries.items c.pop.new.self.items c.in-Some.entry c.loop-entry.said.items c.loop-entry.invariant c.in-Some.ensures.items
    (map sketch_of c.join_pairs.new.sketch.items) c.join_pairs.new.said.items c.push_front.new.self.items c.in_ok-pair.pair c.requires c.in_ok-pair.ensures c.in_ok-push_front.ensures.items

pub unreachable-requires : goal.unreachable-requires
unreachable-requires c = pairs_there (kind_of c.args.kind) (place_of c.args.at) (map sketch_of c.args.sketch.now.items) (map sketch_of c.loop-entry.sketch.items) c.args.entries.items c.loop-entry.entries.items c.loop-entry.said.items c.loop-entry.invariant c.requires
    (nothing_in c.loop-entry.entries.items (omega (arith, c.in_default.ensures.cases, c.loop-entry.entries.ok.0))) (nothing_in c.loop-entry.said.items (omega (arith, c.in-None.ensures.cases.0, c.loop-entry.said.ok.0)))

pub returns : goal.returns
returns c = pairs_gathered (kind_of c.args.kind) (place_of c.args.at) (map sketch_of c.args.sketch.now.items) (map sketch_of c.loop-entry.sketch.items) c.args.entries.items c.loop-entry.entries.items c.loop-entry.said.items c.pop_front.new.self.items c.in-Some-pop_front.pair c.loop-entry.invariant
    (nothing_in c.loop-entry.entries.items (omega (arith, c.in_default.ensures.cases, c.loop-entry.entries.ok.0))) c.in-Some-pop_front.ensures.items
