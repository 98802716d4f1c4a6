use Rattle.std.proofs.Common.{◌<◌, length, subst, ℕ, arith}
use Rattle.std.specs.Prelude.{Contains}
use Rattle.clause_search.specs.Lists.{list_at}
use Rattle.clause_search.proofs.Listed.{keeps_through, each_listed}
use Rattle.clause_search.proofs.lists.add_clause.Goals as goal

pub loop-literal-preserved : goal.loop-literal-preserved
loop-literal-preserved c =
    let within : c.loop-literal.literal-index < length c.args.literals.now = omega arith in (
      keeps_through c.args.lists.now c.loop-literal.lists c.add_to.new.lists c.loop-literal.invariant.0 c.add_to.ensures.keeps,
      each_listed c.loop-literal.lists c.add_to.new.lists c.args.atoms c.args.axes c.args.clause c.loop-literal.literal-index c.args.literals.now c.add_to.ensures.keeps _ within c.loop-literal.invariant.1
          (subst (λ (k : ℕ). Contains (list_at c.add_to.new.lists k) c.args.clause) c.code_of.ensures c.in_ok-add_to.ensures.there),
    )
