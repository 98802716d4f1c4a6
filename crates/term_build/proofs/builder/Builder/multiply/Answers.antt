use Rattle.dyadic.specs.Fraction.{product_of}
use Rattle.dyadic.specs.Lowest.{product_fits}
use Rattle.dyadic.specs.Views.{fraction_of_frac}
use Rattle.smt_sexp.specs.Views.{place_of}
use Rattle.term_build.specs.Steps.{tree_of}
use Rattle.term_build.proofs.Emits.{multiply_folded, folds_of}
use Rattle.term_build.proofs.builder.Builder.multiply.Goals as goal

pub returns-in-Some-clause-does : goal.returns-in-Some-clause-does
returns-in-Some-clause-does c = let p = fraction_of_frac c.in-Some.p in let q = fraction_of_frac c.in-Some.q in
    multiply_folded c.args.self.now c.fold.new.self (place_of c.args.at) (tree_of c.args.self.now c.args.a) (tree_of c.args.self.now c.args.b) p q c.fold.result c.in-Some.ensures
    (c.fold.ensures.does (product_fits p q) (product_of p q) (folds_of c.mul.result (product_fits p q) (product_of p q) c.mul.ensures))
