use Rattle.std.proofs.Common.{map, subst, sym, ap, List, ◌∷◌, ◌∙◌}
use Rattle.script_forms.specs.Unfolded.{choice_form}
use Rattle.term_build.specs.Pairs.{Connects}
use Rattle.term_build.specs.Shapes.{sketch_of}
use Rattle.term_build.specs.declared.connectives.Pair.{Pair}
use Rattle.value_build.proofs.Operating.{choice_three}
use Rattle.value_build.proofs.operate.choice.Goals as goal

pub returns : goal.returns
returns c = subst (λ (ps : List Pair). Connects choice_form (map sketch_of c.args.sketch.now.items) (map sketch_of c.choose.new.sketch.items) ps c.choose.result)
    (sym (c.in-Some.ensures.cases.0 ∙ ap (λ ps. c.in-Some.condition.now ∷ ps) (c.in-Some-split_first.ensures.cases.0 ∙ ap (λ ps. c.in-Some-split_first.first.now ∷ ps) c.in-Some-split_first-2.ensures.cases.0)))
    (choice_three (map sketch_of c.args.sketch.now.items) (map sketch_of c.choose.new.sketch.items) c.in-Some.condition.now c.in-Some-split_first.first.now c.in-Some-split_first-2.second.now c.in-Some-split_first-2.field-0-1.now c.choose.result c.choose.ensures)
