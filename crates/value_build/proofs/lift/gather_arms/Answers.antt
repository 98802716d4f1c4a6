use Rattle.std.proofs.Common.{map, arith}
use Rattle.term_build.specs.Shapes.{sketch_of}
use Rattle.value_build.proofs.Spreading.{nothing_in}
use Rattle.value_build.proofs.Gathering.{arms_gathered, arms_go_on, arms_there, can_join_arms, gathering_begins}
use Rattle.value_build.proofs.lift.gather_arms.Goals as goal

pub loop-entry-init : goal.loop-entry-init
loop-entry-init c = gathering_begins (map sketch_of c.args.sketch.now.items) c.args.entries.items c.new-made.result.items c.new-made.ensures.items

pub join_arms-requires : goal.join_arms-requires
join_arms-requires c = can_join_arms (map sketch_of c.args.sketch.now.items) (map sketch_of c.loop-entry.sketch.items) c.args.entries.items c.loop-entry.entries.items c.pop.new.self.items c.in-Some.entry c.loop-entry.made.items c.loop-entry.invariant c.in-Some.ensures.items c.requires

pub loop-entry-preserved : goal.loop-entry-preserved
loop-entry-preserved c = arms_go_on (map sketch_of c.args.sketch.now.items) (map sketch_of c.loop-entry.sketch.items) c.args.entries.items c.loop-entry.entries.items c.pop.new.self.items c.in-Some.entry c.loop-entry.made.items c.loop-entry.invariant c.in-Some.ensures.items
    (map sketch_of c.join_arms.new.sketch.items) c.join_arms.new.made.items c.push_front.new.self.items c.in_ok-arm.arm c.requires c.in_ok-arm.ensures c.in_ok-push_front.ensures.items

pub unreachable-requires : goal.unreachable-requires
unreachable-requires c = arms_there (map sketch_of c.args.sketch.now.items) (map sketch_of c.loop-entry.sketch.items) c.args.entries.items c.loop-entry.entries.items c.loop-entry.made.items c.loop-entry.invariant c.requires
    (nothing_in c.loop-entry.entries.items (omega (arith, c.in_default.ensures.cases, c.loop-entry.entries.ok.0))) (nothing_in c.loop-entry.made.items (omega (arith, c.in-None.ensures.cases.0, c.loop-entry.made.ok.0)))

pub returns : goal.returns
returns c = arms_gathered (map sketch_of c.args.sketch.now.items) (map sketch_of c.loop-entry.sketch.items) c.args.entries.items c.loop-entry.entries.items c.loop-entry.made.items c.pop_front.new.self.items c.in-Some-pop_front.arm c.loop-entry.invariant
    (nothing_in c.loop-entry.entries.items (omega (arith, c.in_default.ensures.cases, c.loop-entry.entries.ok.0))) c.in-Some-pop_front.ensures.items
