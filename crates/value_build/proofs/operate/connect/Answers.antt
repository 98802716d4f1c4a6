use Rattle.std.proofs.Common.{◌≡◌, subst, length, true, false}
use Rattle.sort_check.specs.Views.{operator_of}
use Rattle.value_build.specs.Operators.{takes_of}
use Rattle.value_build.proofs.Taken.{none_bool, one_taken, three_taken}
use Rattle.value_build.proofs.operate.connect.Goals as goal

pub negation-requires : goal.negation-requires
negation-requires c = one_taken (length c.args.pairs.now) (subst (λ (o : _). takes_of (operator_of o) false true false (length c.args.pairs.now) ≡ true) c.in-Not.is c.requires)

pub choice-requires : goal.choice-requires
choice-requires c = three_taken (length c.args.pairs.now) (subst (λ (o : _). takes_of (operator_of o) false true false (length c.args.pairs.now) ≡ true) c.in-Choice.is c.requires)

pub unreachable-requires : goal.unreachable-requires
unreachable-requires c = let d = c.in_default in none_bool c.args.operator (length c.args.pairs.now) c.requires d.not-True d.not-False d.not-Not d.not-And d.not-Or d.not-Implies d.not-Xor d.not-Equal d.not-Distinct d.not-Choice

pub returns-in-True : goal.returns-in-True
returns-in-True c = rw c.in-True.is (λ m ts us s d. c.constant.ensures m ts s)

pub returns-in-False : goal.returns-in-False
returns-in-False c = rw c.in-False.is (λ m ts us s d. c.constant-in-False.ensures m ts s)

pub returns-in-Not : goal.returns-in-Not
returns-in-Not c = rw c.in-Not.is c.negation.ensures

pub returns-in-And : goal.returns-in-And
returns-in-And c = rw c.in-And.is c.all.ensures

pub returns-in-Or : goal.returns-in-Or
returns-in-Or c = rw c.in-Or.is c.any.ensures

pub returns-in-Implies : goal.returns-in-Implies
returns-in-Implies c = rw c.in-Implies.is c.implies.ensures

pub returns-in-Xor : goal.returns-in-Xor
returns-in-Xor c = rw c.in-Xor.is c.exclusive.ensures

pub returns-in-Equal : goal.returns-in-Equal
returns-in-Equal c = rw c.in-Equal.is c.equal.ensures

pub returns-in-Distinct : goal.returns-in-Distinct
returns-in-Distinct c = rw c.in-Distinct.is c.distinct.ensures

pub returns-in-Choice : goal.returns-in-Choice
returns-in-Choice c = rw c.in-Choice.is c.choice.ensures
