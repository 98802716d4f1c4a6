use Rattle.std.proofs.Common.{length}
use Rattle.smt_sexp.specs.Views.{place_of}
use Rattle.term_build.specs.Built.{stand_of}
use Rattle.std.proofs.Common.{refl}
use Rattle.script_model.specs.Reading.{equality, distinctness, at_most_op, below_op, at_least_op, above_op}
use Rattle.script_model.specs.Declared.{bounding_operation}
use Rattle.script_forms.specs.Unfolded.{unfolded_operation}
use Rattle.term_build.specs.Pairs.{trees_at}
use Rattle.value_build.specs.Values.{IsValue}
use Rattle.value_build.proofs.Operating.{equal_done, differ_done, chain_quiet, pairs_quiet}
use Rattle.value_build.proofs.Taken.{none_real}
use Rattle.value_build.proofs.operate.on_reals.Goals as goal

pub unreachable-requires : goal.unreachable-requires
unreachable-requires c = let d = c.in_default in none_real c.args.operator (length c.args.nodes.now) c.requires.some c.requires.takes d.not-Minus d.not-Plus d.not-Times d.not-Divide d.not-AtMost d.not-Below d.not-AtLeast d.not-Above d.not-Equal d.not-Distinct

pub returns-in-Minus-clause-does : goal.returns-in-Minus-clause-does
returns-in-Minus-clause-does c = rw c.in-Minus.is c.arithmetic.ensures.does

pub returns-in-Plus-clause-does : goal.returns-in-Plus-clause-does
returns-in-Plus-clause-does c = rw c.in-Plus.is c.arithmetic-in-Plus.ensures.does

pub returns-in-Times-clause-does : goal.returns-in-Times-clause-does
returns-in-Times-clause-does c = rw c.in-Times.is c.arithmetic-in-Times.ensures.does

pub returns-in-Divide-clause-does : goal.returns-in-Divide-clause-does
returns-in-Divide-clause-does c = rw c.in-Divide.is c.arithmetic-in-Divide.ensures.does

pub returns-in-Equal-clause-does : goal.returns-in-Equal-clause-does
returns-in-Equal-clause-does c = rw c.in-Equal.is (λ bs h t. chain_quiet c.args.maker.now c.compare-in-Equal.new.maker (place_of c.args.at) equality (stand_of c.args.maker.now.made).trees c.args.nodes.now c.compare-in-Equal.result (IsValue c.compare-in-Equal.new.maker (unfolded_operation (place_of c.args.at) equality (trees_at (stand_of c.args.maker.now.made).trees c.args.nodes.now)) (bounding_operation equality bs)) refl (equal_done c.args.maker.now c.compare-in-Equal.new.maker (place_of c.args.at) (stand_of c.args.maker.now.made).trees c.args.nodes.now bs c.compare-in-Equal.result (c.compare-in-Equal.ensures.does bs h)))

pub returns-in-Distinct-clause-does : goal.returns-in-Distinct-clause-does
returns-in-Distinct-clause-does c = rw c.in-Distinct.is (λ bs h t. pairs_quiet c.args.maker.now c.differ.new.maker (place_of c.args.at) (stand_of c.args.maker.now.made).trees c.args.nodes.now c.differ.result (IsValue c.differ.new.maker (unfolded_operation (place_of c.args.at) distinctness (trees_at (stand_of c.args.maker.now.made).trees c.args.nodes.now)) (bounding_operation distinctness bs)) (differ_done c.args.maker.now c.differ.new.maker (place_of c.args.at) (stand_of c.args.maker.now.made).trees c.args.nodes.now c.differ.result c.differ.ensures.does))

pub returns-in-AtMost-clause-does : goal.returns-in-AtMost-clause-does
returns-in-AtMost-clause-does c = rw c.in-AtMost.is (λ bs h t. chain_quiet c.args.maker.now c.compare.new.maker (place_of c.args.at) at_most_op (stand_of c.args.maker.now.made).trees c.args.nodes.now c.compare.result
    (IsValue c.compare.new.maker (unfolded_operation (place_of c.args.at) at_most_op (trees_at (stand_of c.args.maker.now.made).trees c.args.nodes.now)) (bounding_operation at_most_op bs)) refl (c.compare.ensures.does bs h))

pub returns-in-Below-clause-does : goal.returns-in-Below-clause-does
returns-in-Below-clause-does c = rw c.in-Below.is (λ bs h t. chain_quiet c.args.maker.now c.compare-in-Below.new.maker (place_of c.args.at) below_op (stand_of c.args.maker.now.made).trees c.args.nodes.now c.compare-in-Below.result
    (IsValue c.compare-in-Below.new.maker (unfolded_operation (place_of c.args.at) below_op (trees_at (stand_of c.args.maker.now.made).trees c.args.nodes.now)) (bounding_operation below_op bs)) refl (c.compare-in-Below.ensures.does bs h))

pub returns-in-AtLeast-clause-does : goal.returns-in-AtLeast-clause-does
returns-in-AtLeast-clause-does c = rw c.in-AtLeast.is (λ bs h t. chain_quiet c.args.maker.now c.compare-in-AtLeast.new.maker (place_of c.args.at) at_least_op (stand_of c.args.maker.now.made).trees c.args.nodes.now c.compare-in-AtLeast.result
    (IsValue c.compare-in-AtLeast.new.maker (unfolded_operation (place_of c.args.at) at_least_op (trees_at (stand_of c.args.maker.now.made).trees c.args.nodes.now)) (bounding_operation at_least_op bs)) refl (c.compare-in-AtLeast.ensures.does bs h))

pub returns-in-Above-clause-does : goal.returns-in-Above-clause-does
returns-in-Above-clause-does c = rw c.in-Above.is (λ bs h t. chain_quiet c.args.maker.now c.compare-in-Above.new.maker (place_of c.args.at) above_op (stand_of c.args.maker.now.made).trees c.args.nodes.now c.compare-in-Above.result
    (IsValue c.compare-in-Above.new.maker (unfolded_operation (place_of c.args.at) above_op (trees_at (stand_of c.args.maker.now.made).trees c.args.nodes.now)) (bounding_operation above_op bs)) refl (c.compare-in-Above.ensures.does bs h))
