use Rattle.std.proofs.Common.{map, List, subst, sym}
use Rattle.script_forms.specs.Unfolded.{implies_of}
use Rattle.term_build.specs.Shapes.{sketch_of}
use Rattle.term_build.specs.Pairs.{Connects}
use Rattle.term_build.specs.declared.connectives.Pair.{Pair}
use Rattle.term_build.proofs.Pairs.{implies_none, implies_all, none_of}
use Rattle.term_build.proofs.connectives.Pair.implies.Goals as goal

pub returns-in_default : goal.returns-in_default
returns-in_default c = subst (λ (ps : List Pair). Connects implies_of (map sketch_of c.args.sketch.now.items) (map sketch_of c.constant.new.sketch.items) ps c.constant.result) (sym (none_of c.args.pairs.now c.in_default.ensures.cases))
    (implies_none (map sketch_of c.args.sketch.now.items) (map sketch_of c.constant.new.sketch.items) c.constant.result c.constant.ensures)

pub returns : goal.returns
returns c = subst (λ (ps : List Pair). Connects implies_of (map sketch_of c.args.sketch.now.items) (map sketch_of c.implies_from.new.sketch.items) ps c.implies_from.result) (sym c.in-Some.ensures.cases.0)
    (implies_all (map sketch_of c.args.sketch.now.items) (map sketch_of c.implies_from.new.sketch.items) c.in-Some.last.now c.in-Some.before.now c.implies_from.result c.implies_from.ensures)
