use Rattle.std.proofs.Common.{◌<◌, length, arith}
use Rattle.script_roots.specs.Fresh.{asserted}
use Rattle.smt_script.specs.Views.{commands_in}
use Rattle.root_rewriting.specs.Nodes.{trees_in}
use Rattle.root_rewriting.proofs.Arena.{nodes_length}
use Rattle.root_rewriting.proofs.Made.{accepted, accepted_later, plain_table, too_long_none}
use Rattle.root_rewriting.proofs.Rootless.{plain_claims}
use Rattle.root_rewriting.proofs.rewrite.rewriting.Goals as goal

pub returns-clause-answers : goal.returns-clause-answers
returns-clause-answers c =
    let script = commands_in c.args.script.now in
    let a = c.in_ok-asserted.asserted in
    plain_table c.args.bound script
    (plain_claims (trees_in a.trees) a.assertions.items (asserted script) (λ k lt. c.holds_fresh.ensures c.if-holds_fresh.false k (omega (arith, lt, nodes_length a.trees))) c.in_ok-asserted.ensures.reads)

pub returns-clause-accepts : goal.returns-clause-accepts
returns-clause-accepts c =
    let script = commands_in c.args.script.now in
    let a = c.in_ok-asserted.asserted in
    let plain = plain_claims (trees_in a.trees) a.assertions.items (asserted script) (λ k lt. c.holds_fresh.ensures c.if-holds_fresh.false k (omega (arith, lt, nodes_length a.trees))) c.in_ok-asserted.ensures.reads in
    accepted c.args.bound script c.in_ok-asserted.ensures.within (accepted_later c.args.bound script plain.none (too_long_none c.args.bound script (plain_table c.args.bound script plain)))
