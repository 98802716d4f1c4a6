use Rattle.dyadic.specs.Fraction.{sum_of}
use Rattle.dyadic.specs.Lowest.{sum_fits}
use Rattle.dyadic.specs.Views.{fraction_of_frac}
use Rattle.smt_sexp.specs.Views.{place_of}
use Rattle.term_build.specs.Steps.{tree_of}
use Rattle.term_build.proofs.Emits.{add_folded, folds_of}
use Rattle.term_build.proofs.builder.Builder.add.Goals as goal

pub returns-in-Some-clause-does : goal.returns-in-Some-clause-does
returns-in-Some-clause-does c = let p = fraction_of_frac c.in-Some.p in let q = fraction_of_frac c.in-Some.q in
    add_folded c.args.self.now c.fold.new.self (place_of c.args.at) (tree_of c.args.self.now c.args.a) (tree_of c.args.self.now c.args.b) p q c.fold.result c.in-Some.ensures
    (c.fold.ensures.does (sum_fits p q) (sum_of p q) (folds_of c.add.result (sum_fits p q) (sum_of p q) c.add.ensures))
