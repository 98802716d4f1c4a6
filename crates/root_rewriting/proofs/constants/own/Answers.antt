use Rattle.std.proofs.Common.{◌≡◌, ◌∙◌, length, ap, arith}
use Rattle.root_rewriting.specs.Nodes.{tree_at, trees_in}
use Rattle.root_rewriting.specs.Found.{is_own}
use Rattle.root_rewriting.proofs.Tables.{own_all, own_more, own_none}
use Rattle.root_rewriting.proofs.constants.own.Goals as goal

pub loop-own-init : goal.loop-own-init
loop-own-init c = own_none c.args.trees.now c.args.ranges.now _ c.new-own.ensures.items

pub loop-own-preserved : goal.loop-own-preserved
loop-own-preserved c =
    let count : c.len-at.result ≡ length c.loop-own.own.items = omega (arith, c.len-at.ensures, c.loop-own.own.ok.0) in
    own_more c.args.trees.now c.args.ranges.now c.loop-own.own.items c.push.new.self.items c.is_own.result c.loop-own.invariant
    (omega (arith, c.len.ensures, c.len-in-loop-own.ensures, c.loop-own-test.true, c.loop-own.own.ok.0)) c.in_ok-push.ensures.items
    (λ names e. c.is_own.ensures names e ∙ ap (λ n. is_own names (tree_at (trees_in c.args.trees.now) n)) count)

pub returns-clause-own : goal.returns-clause-own
returns-clause-own c = own_all c.args.trees.now c.args.ranges.now c.loop-own.own.items c.loop-own.invariant (omega (arith, c.len.ensures, c.len-in-loop-own.ensures, c.loop-own-test.false, c.loop-own.own.ok.0))

pub returns-clause-all : goal.returns-clause-all
returns-clause-all c = omega (arith, c.len.ensures, c.len-in-loop-own.ensures, c.loop-own-test.false, c.loop-own.own.ok.0, c.loop-own.invariant.within)
