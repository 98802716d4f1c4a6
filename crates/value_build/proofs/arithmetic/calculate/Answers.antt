use Rattle.smt_sexp.specs.Views.{place_of}
use Rattle.std.proofs.Common.{subst, sym, List, ℕ, true≢false, ◌∙◌}
use Rattle.script_forms.specs.Unfolded.{unfolded_operation}
use Rattle.script_forms.specs.Work.{operation_events}
use Rattle.term_build.specs.Built.{stand_of}
use Rattle.term_build.specs.Pairs.{trees_at}
use Rattle.term_build.specs.Steps.{Emits, IsTreeOf}
use Rattle.value_build.specs.Arithmetic.{operator_of_step}
use Rattle.value_build.proofs.Folds.{calculate_folds, not_empty}
use Rattle.value_build.proofs.Products.{product_calculates}
use Rattle.value_build.proofs.arithmetic.calculate.Goals as goal
use Rattle.value_build.proofs.arithmetic.calculate.Goals.{else-is_difference-via-then-is_difference+else-is_empty, else-is_difference-via-else-is_difference}

pub returns-clause-does : goal.returns-clause-does
returns-clause-does c = subst (λ (ks : List ℕ). Emits c.args.builder.now c.fold.new.builder (operation_events (place_of c.args.at) (operator_of_step c.args.step) (trees_at (stand_of c.args.builder.now).trees ks)) c.fold.result (IsTreeOf c.fold.new.builder (unfolded_operation (place_of c.args.at) (operator_of_step c.args.step) (trees_at (stand_of c.args.builder.now).trees ks)))) (sym c.in-Some.ensures.cases.0)
    (calculate_folds c.args.step (place_of c.args.at) c.args.builder.now c.fold.new.builder c.in-Some.first.now c.in-Some.rest.now c.fold.result (sym c.is_product.ensures ∙ c.if-is_product.false)
    (λ d e. elim c.else-is_difference.branch [ else-is_difference-via-then-is_difference+else-is_empty w ↦ not_empty c.in-Some.rest.now w.if-is_empty.ensures e | else-is_difference-via-else-is_difference w ↦ true≢false (sym d ∙ sym w.if-is_difference.ensures) ])
    c.fold.ensures.does)

pub returns-then-is_product-clause-does : goal.returns-then-is_product-clause-does
returns-then-is_product-clause-does c = product_calculates c.args.step (place_of c.args.at) c.args.builder.now c.multiply.new.builder c.args.nodes.now c.multiply.result (sym c.is_product.ensures ∙ c.if-is_product.true) c.multiply.ensures.does
