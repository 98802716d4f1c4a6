use Rattle.std.proofs.Common.{◌≡◌, ◌∙◌, ℕ, ◌≤◌, List, ◌++◌, map, length, All, ap, sym, subst, length-append, arith}
use Rattle.std.proofs.lemmas.List.{length-map}
use Rattle.poly_graph.specs.ProblemViews.{Parts, problem_of}
use Rattle.cover_model.specs.State.{State}
use Rattle.cover_data.specs.Margins.{loosenings_of, margins_of}
use Rattle.cover_data.specs.declared.margins.Options.{Options}
use Rattle.cover_book.specs.Keeps.{IsBook, IsKeptLemma}
use Rattle.cover_book.specs.Model.{BookModel, LearnedLemma, lemma_states_in, problem_in, loosenings_in}
use Rattle.cover_book.proofs.Carries.{all_lemmas}
use Rattle.cover_rows.proofs.reopened.reopened.Goals as goal

few : (b : BookModel) → IsBook b → length (lemma_states_in b) ≤ 1048576
few b w = omega (arith, length-append b.kept (map (λ (x : LearnedLemma). x.state) b.lemmas), length-map b.lemmas (λ (x : LearnedLemma). x.state), w.few_lemmas)

may : (b : BookModel) → IsBook b → (p : Parts) → p ≡ b.problem → (o : Options) → o ≡ b.options → (xs : List State) → xs ≡ lemma_states_in b
    → All (IsKeptLemma (problem_of p) (loosenings_of (margins_of o))) xs
may b w p e o f xs g = subst (λ (ys : List State). All (IsKeptLemma (problem_of p) (loosenings_of (margins_of o))) ys) (sym g)
    (subst (λ (r : Options). All (IsKeptLemma (problem_of p) (loosenings_of (margins_of r))) (lemma_states_in b)) (sym f)
    (subst (λ (q : Parts). All (IsKeptLemma (problem_of q) (loosenings_of (margins_of b.options))) (lemma_states_in b)) (sym e) (all_lemmas b w)))

pub begin_at-requires-clause-few : goal.begin_at-requires-clause-few
begin_at-requires-clause-few c = subst (λ (ys : List State). length ys ≤ 1048576) (sym c.in-Ok-into_lemmas.ensures.states) (few c.args.book c.options-options.ensures.book)

pub begin_at-requires-clause-kept : goal.begin_at-requires-clause-kept
begin_at-requires-clause-kept c = may c.args.book c.options-options.ensures.book c.in-Ok.problem (c.in-Ok.ensures ∙ c.problem-2.ensures.problem) c.options-options.result.now c.options-options.ensures.options c.in-Ok-into_lemmas.lemmas.items c.in-Ok-into_lemmas.ensures.states
