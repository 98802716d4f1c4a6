use Rattle.std.proofs.Common.{◌≡◌, ℕ, List, ◌∙◌, sym, subst}
use Rattle.std.specs.Prelude.{Result}
use Rattle.smt_sexp.specs.Views.{place_of}
use Rattle.script_forms.specs.Terms.{powers}
use Rattle.term_build.specs.Built.{stand_of}
use Rattle.term_build.specs.Pairs.{trees_at}
use Rattle.term_build.specs.declared.stop.Stop.{Stop}
use Rattle.term_build.proofs.Emits.{err_is}
use Rattle.value_build.specs.Arithmetic.{AreNodes}
use Rattle.value_build.specs.Calls.{AreTreesOf, MultipliesPowers}
use Rattle.value_build.proofs.Folds.{nil_of}
use Rattle.value_build.proofs.Products.{some_powers, product_done, product_stopped}
use Rattle.value_build.proofs.arithmetic.multiply_powers.Goals as goal

pub returns-in_err-made-clause-does : goal.returns-in_err-made-clause-does
returns-in_err-made-clause-does c = let us = trees_at (stand_of c.args.builder.now).trees c.args.nodes.now in
    subst (λ (r : Result ℕ Stop). MultipliesPowers c.args.builder.now c.powers.new.builder c.args.at c.args.nodes.now r)
    (sym (err_is c.from_residual.result c.in_err-made.field-0.0 c.from_residual.ensures))
    (product_stopped (AreTreesOf c.powers.new.builder (powers us)) (place_of c.args.at) c.args.builder.now c.powers.new.builder c.args.nodes.now c.in_err-made.field-0.0 c.in_err-made.ensures.does)

pub unreachable-requires : goal.unreachable-requires
unreachable-requires c = some_powers c.args.builder.now c.powers.new.builder c.args.nodes.now c.deref.result.now c.requires.some
    (subst (λ (ks : List ℕ). trees_at (stand_of c.powers.new.builder).trees ks ≡ powers (trees_at (stand_of c.args.builder.now).trees c.args.nodes.now)) (sym c.deref.ensures.value) c.in_ok-made.ensures.does.1.0) (nil_of c.deref.result.now c.in_default.ensures.cases)

pub fold-requires-clause-first : goal.fold-requires-clause-first
fold-requires-clause-first c = (subst (λ (ks : List ℕ). AreNodes c.powers.new.builder ks) (sym c.deref.ensures.value ∙ c.in-Some.ensures.cases.0) c.in_ok-made.ensures.does.1.1).0

pub fold-requires-clause-rest : goal.fold-requires-clause-rest
fold-requires-clause-rest c = (subst (λ (ks : List ℕ). AreNodes c.powers.new.builder ks) (sym c.deref.ensures.value ∙ c.in-Some.ensures.cases.0) c.in_ok-made.ensures.does.1.1).1

pub returns-clause-does : goal.returns-clause-does
returns-clause-does c = let us = trees_at (stand_of c.args.builder.now).trees c.args.nodes.now in
    product_done (AreTreesOf c.powers.new.builder (powers us)) (place_of c.args.at) c.args.builder.now c.powers.new.builder c.fold.new.builder c.args.nodes.now c.in_ok-made.made c.in-Some.first.now c.in-Some.rest.now c.fold.result c.in_ok-made.ensures.does
    (subst (λ (ks : List ℕ). trees_at (stand_of c.powers.new.builder).trees ks ≡ powers us) (sym c.deref.ensures.value ∙ c.in-Some.ensures.cases.0) c.in_ok-made.ensures.does.1.0)
    c.fold.ensures.does
