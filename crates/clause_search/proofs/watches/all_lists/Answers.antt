use Rattle.std.proofs.Common.{◌≤◌, ◌∙◌, length, arith}
use Rattle.clause_search.proofs.Listed.{lists_more, all_listed, there_by_counts, within_by_counts}
use Rattle.clause_search.proofs.watches.all_lists.Goals as goal

pub add_clause-requires : goal.add_clause-requires
add_clause-requires c = within_by_counts c.args.cnf.now c.atoms-atoms.result c.axes-axes.result c.helpers.result c.clause.result.now c.atoms-atoms.ensures c.axes-axes.ensures _ c.helpers.ensures c.loop-i.invariant.1 c.clause.ensures.named

pub loop-i-preserved : goal.loop-i-preserved
loop-i-preserved c = (
  lists_more c.args.cnf.now c.loop-i.lists c.add_clause.new.lists c.loop-i.i c.clause.result.now c.in_ok-add_clause.ensures.keeps c.clause.ensures.clause
      (there_by_counts c.args.cnf.now c.atoms-atoms.result c.axes-axes.result 0 c.clause.result.now c.atoms-atoms.ensures c.axes-axes.ensures c.add_clause.new.lists c.loop-i.i c.in_ok-add_clause.ensures.there) c.loop-i.invariant.0,
  c.in_ok-add_clause.ensures.keeps.same_length ∙ c.loop-i.invariant.1,
)

pub returns : goal.returns
returns c = let all : length c.args.cnf.now.clauses ≤ c.loop-i.i = omega (arith, c.in-Ok.ensures.1) in all_listed c.args.cnf.now c.loop-i.lists c.loop-i.i all c.loop-i.invariant.0
