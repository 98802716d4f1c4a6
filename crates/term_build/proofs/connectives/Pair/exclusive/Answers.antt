use Rattle.std.proofs.Common.{map, List, subst, sym}
use Rattle.script_forms.specs.Unfolded.{xor_all}
use Rattle.term_build.specs.Shapes.{sketch_of}
use Rattle.term_build.specs.Pairs.{Connects}
use Rattle.term_build.specs.declared.connectives.Pair.{Pair}
use Rattle.term_build.proofs.Pairs.{exclusive_none, exclusive_all, none_of}
use Rattle.term_build.proofs.connectives.Pair.exclusive.Goals as goal

pub returns-in_default : goal.returns-in_default
returns-in_default c = subst (λ (ps : List Pair). Connects xor_all (map sketch_of c.args.sketch.now.items) (map sketch_of c.constant.new.sketch.items) ps c.constant.result) (sym (none_of c.args.pairs.now c.in_default.ensures.cases))
    (exclusive_none (map sketch_of c.args.sketch.now.items) (map sketch_of c.constant.new.sketch.items) c.constant.result c.constant.ensures)

pub returns : goal.returns
returns c = subst (λ (ps : List Pair). Connects xor_all (map sketch_of c.args.sketch.now.items) (map sketch_of c.exclusive_from.new.sketch.items) ps c.exclusive_from.result) (sym c.in-Some.ensures.cases.0)
    (exclusive_all (map sketch_of c.args.sketch.now.items) (map sketch_of c.exclusive_from.new.sketch.items) c.in-Some.first.now c.in-Some.rest.now c.exclusive_from.result c.exclusive_from.ensures)
