use Rattle.std.proofs.Common.{subst, sym, IsTrue, List, ℕ, ◌<◌, length, All}
use Rattle.dyadic.specs.declared.dy.Dy.{Dy}
use Rattle.poly_graph.specs.ProblemViews.{problem_of}
use Rattle.cover_line.specs.declared.rule.Narrowing.{Narrowing}
use Rattle.cover_line.specs.Views.{narrowing_of}
use Rattle.cover_line.specs.Words.{narrowing_operands}
use Rattle.cert_model.specs.Due.{are_there}
use Rattle.cert_check.proofs.Pairs.{atoms_all}
use Rattle.cert_check.proofs.narrowing.contract.Goals as goal

pub combine-requires-clause-atoms : goal.combine-requires-clause-atoms
combine-requires-clause-atoms c =
    let p = problem_of c.args.problem.now in
    subst (All (λ (x : ℕ × Dy). x.0 < length c.args.problem.now.atoms)) (sym c.deref.ensures.value)
    (atoms_all p c.in-Combine.pairs.items (subst (λ (n : Narrowing). IsTrue (are_there p (narrowing_operands (narrowing_of n)))) c.in-Combine.is c.requires.atoms))
