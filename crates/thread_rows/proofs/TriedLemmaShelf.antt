-- What a closed run begins with may be put on a shelf.
use Rattle.std.proofs.Common.{◌≡◌, sym, subst}
use Rattle.poly_graph.specs.ProblemViews.{Parts, problem_of}
use Rattle.cover_model.specs.State.{State, IsLemma}
use Rattle.cover_model.specs.Fits.{FitsProblem}
use Rattle.cover_data.specs.declared.margins.Margins.{Margins}
use Rattle.cover_data.specs.Margins.{loosenings_of}
use Rattle.cover_data.specs.Models.{LemmaModel, KeptModel}
use Rattle.cover_data.specs.Runs.{IsRun, IsClosed}
use Rattle.cover_data.proofs.Proved.{closed_is_lemma}
use Rattle.lemma_shelf.specs.Lemmas.{IsLemmaOf}

pub lemma_of_run : (p q : Parts) (m n : Margins) (k : KeptModel) (L : LemmaModel) → q ≡ p → n ≡ m → IsRun (problem_of p) m k → IsClosed k → L.state ≡ k.first → IsLemmaOf q n L
lemma_of_run p q m n k L e f r c s =
    let at : FitsProblem (problem_of p) k.first × IsLemma (problem_of p) (loosenings_of m) k.first = (r.sound.first, closed_is_lemma (problem_of p) m k r c) in
    let here : IsLemmaOf p m L = subst (λ (S : State). FitsProblem (problem_of p) S × IsLemma (problem_of p) (loosenings_of m) S) (sym s) at in
    subst (λ (x : Parts). IsLemmaOf x n L) (sym e) (subst (λ (x : Margins). IsLemmaOf p x L) (sym f) here)
