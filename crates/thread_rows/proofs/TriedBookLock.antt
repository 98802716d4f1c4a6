-- What a patch did is a run.
use Rattle.std.proofs.Common.{◌≡◌, sym, subst}
use Rattle.poly_graph.specs.ProblemViews.{Parts, problem_of}
use Rattle.cover_data.specs.declared.margins.Margins.{Margins}
use Rattle.cover_data.specs.Models.{KeptModel}
use Rattle.cover_rule.specs.Models.{PatchModel}
use Rattle.cover_data.specs.Runs.{IsRun}

-- what a patch for a problem did is a run for it
pub is_run_for : (p : Parts) (m : Margins) (Q : PatchModel) (k : KeptModel) → Q.problem ≡ p → Q.margins ≡ m → k ≡ Q.kept → IsRun (problem_of Q.problem) Q.margins Q.kept → IsRun (problem_of p) m k
is_run_for p m Q k a b e h =
    subst (λ (x : KeptModel). IsRun (problem_of p) m x) (sym e)
    (subst (λ (x : Margins). IsRun (problem_of p) x Q.kept) b
    (subst (λ (x : Parts). IsRun (problem_of x) Q.margins Q.kept) a h))
