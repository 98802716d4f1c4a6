-- A run that is repeated from the root space.
use Rattle.std.proofs.Common.{◌≡◌, ◌∙◌, List, [], ◌∷◌, ap, arith, refl, subst, sym}
use Rattle.cover_model.specs.Root.{root_space}
use Rattle.cover_model.specs.State.{State}
use Rattle.cover_data.specs.declared.margins.Margins.{Margins}
use Rattle.cover_data.specs.Models.{KeptModel, LemmaModel}
use Rattle.cover_data.specs.Runs.{IsClosed, IsRun}
use Rattle.cover_rule.specs.Models.{PatchModel}
use Rattle.cover_rule.specs.Patch.{problem_in}
use Rattle.poly_graph.specs.ProblemViews.{Parts, problem_of}
use Rattle.box_worker.specs.Attempts.{AreAmong, Continues, IsOpen}
use Rattle.box_worker.specs.Learned.{IsShownFromRoot}

none-quoted : (xs : List LemmaModel) → AreAmong [] xs → xs ≡ []
none-quoted [] h = refl
none-quoted (L ∷ xs) h = let q = h 0 L (omega arith) in absurd (omega (arith, q.1))

-- P is what the repeated steps make of a patch at the state S, Q what the repeated end makes of that
pub is_shown : (q : Parts) (m : Margins) (S : State) (P Q : PatchModel) (k : KeptModel) → IsOpen q m [] S P → Continues P Q → IsRun (problem_in Q) Q.margins Q.kept → k ≡ Q.kept → IsClosed Q.kept → S.space ≡ root_space (problem_of q) →
    IsShownFromRoot q m k
is_shown q m S P Q k o c run e closed root =
    let of_problem : IsRun (problem_of q) Q.margins Q.kept = subst (λ (r : Parts). IsRun (problem_of r) Q.margins Q.kept) (c.problem ∙ o.problem) run in
    let lawful : IsRun (problem_of q) m Q.kept = subst (λ (x : Margins). IsRun (problem_of q) x Q.kept) (c.margins ∙ o.margins) of_problem in
    subst (IsShownFromRoot q m) (sym e) (record {
      run = lawful;
      closed = closed;
      root = ap (λ (T : State). T.space) (c.first ∙ o.first) ∙ root;
      quoted = c.quoted ∙ none-quoted P.kept.quoted o.among;
    })
