use Rattle.std.proofs.Common.{ℕ, List, length, ap, arith, subst}
use Rattle.smt_sexp.specs.Views.{place_of}
use Rattle.term_build.specs.Built.{stand_of}
use Rattle.value_build.specs.Calls.{MultipliesPowers}
use Rattle.value_build.proofs.Factors.{length_factors}
use Rattle.value_build.proofs.Groups.{rows_gathered}
use Rattle.value_build.proofs.Products.{product_gathered}
use Rattle.value_build.proofs.arithmetic.multiply.Goals as goal

pub returns-then-stand_in_rows-clause-does : goal.returns-then-stand_in_rows-clause-does
returns-then-stand_in_rows-clause-does c =
    product_gathered (place_of c.args.at) c.args.builder.now c.multiply_powers.new.builder c.args.nodes.now c.args.nodes.now c.multiply_powers.result
    (rows_gathered c.args.builder.now c.args.nodes.now c.trees_are_shared.ensures c.requires.nodes (c.stand_in_rows.ensures c.if-stand_in_rows.true)) c.multiply_powers.ensures.does

pub multiply_powers-requires-2-clause-some : goal.multiply_powers-requires-2-clause-some
multiply_powers-requires-2-clause-some c =
    omega (arith, c.requires.some, length_factors (stand_of c.args.builder.now).trees c.args.nodes.now c.in_ok-factors.factors.items c.in_ok-factors.ensures.0, ap (λ (ks : List ℕ). length ks) c.as_slice.ensures.value)

pub returns-clause-does : goal.returns-clause-does
returns-clause-does c =
    product_gathered (place_of c.args.at) c.args.builder.now c.multiply_powers-2.new.builder c.args.nodes.now c.in_ok-factors.factors.items c.multiply_powers-2.result c.in_ok-factors.ensures.0
    (subst (λ (ks : List ℕ). MultipliesPowers c.args.builder.now c.multiply_powers-2.new.builder c.args.at ks c.multiply_powers-2.result) c.as_slice.ensures.value c.multiply_powers-2.ensures.does)
