-- What a book that leaves nothing has: a lawful end of its cover, at which nothing is left.
use Rattle.std.proofs.Common.{◌≡◌, List, [], ◌++◌, Bool, true, false, cond, is_some, refl, ap, sym, ◌∙◌, subst}
use Rattle.cover_model.specs.State.{State, root_state}
use Rattle.cover_model.specs.Derivation.{Tree, Lawful}
use Rattle.cert_model.specs.Due.{Standing, left_open}
use Rattle.cert_model.specs.SessionLaws.{WrittenEnd, written_tree, written_crossing, value_of_end, IsLawfulEnd}
use Rattle.cert_model.specs.Written.{lemma_states, left_standing}
use Rattle.cover_book.specs.declared.verdict.BookVerdict.TheVariants.{DeltaSat, NotYet, UnknownBudget, UnknownWidth, Unsat}
use Rattle.cover_book.specs.Model.{BookModel, IsOfRoot, problem_in, loosenings_in}
use Rattle.cover_book.specs.Verdict.{has_live, has_stuck, may_branch, verdict_of}
use Rattle.cover_book.specs.Tree.{lemma_trees, cover_lemmas}
use Rattle.cover_book.specs.Keeps.{IsBook}
use Rattle.cover_book.specs.Laws.{IsTreeOfBook}
use Rattle.cover_book.proofs.Opens.{first_crosses}
use Rattle.cert_text.specs.Session.{IsEndOf}
use Rattle.cert_text.proofs.Leftovers.{left_tells_of_nodes}

-- ---- its verdict

by-parts : (point live may stuck : Bool) → cond point DeltaSat (cond live (cond may NotYet UnknownBudget) (cond stuck UnknownWidth Unsat)) ≡ Unsat → (live ≡ false) × (stuck ≡ false)
by-parts true live may stuck e = cc
by-parts false true true stuck e = cc
by-parts false true false stuck e = cc
by-parts false false may true e = cc
by-parts false false may false e = (refl, refl)

-- no node is live or stuck
nothing-left : (b : BookModel) → verdict_of b ≡ Unsat → (has_live b ≡ false) × (has_stuck b ≡ false)
nothing-left b e = by-parts (is_some b.point) (has_live b) (may_branch b) (has_stuck b) e

-- ---- its end

module _ (b : BookModel) (w : IsBook b) (none : b.kept ≡ []) (rooted : IsOfRoot b) where
  own-lemmas : cover_lemmas b ≡ lemma_states (lemma_trees b)
  own-lemmas = ap (λ (ks : List State). ks ++ lemma_states (lemma_trees b)) none

  tree-lawful : (t : Tree) (left : List Standing) (i : IsTreeOfBook b t left) → Lawful (problem_in b) (loosenings_in b) (lemma_states (lemma_trees b)) (root_state (problem_in b)) t i.states
  tree-lawful t left i = subst (λ (ks : List State). Lawful (problem_in b) (loosenings_in b) ks (root_state (problem_in b)) t i.states) own-lemmas
      (subst (λ (S : State). Lawful (problem_in b) (loosenings_in b) (cover_lemmas b) S t i.states) rooted i.lawful)

  pub end_lawful : (e : WrittenEnd) → IsEndOf b e → IsLawfulEnd (problem_in b) (loosenings_in b) (lemma_states (lemma_trees b)) e
  end_lawful (written_tree t) h = (h.1.not_crossed, (h.1.states, tree-lawful t h.0 h.1), h.1.names)
  end_lawful (written_crossing i) h = first_crosses (problem_in b) i h

  pub end_leaves_nothing : verdict_of b ≡ Unsat → (e : WrittenEnd) → IsEndOf b e → value_of_end (loosenings_in b) (problem_in b) (lemma_states (lemma_trees b)) e ≡ left_open []
  end_leaves_nothing unsat (written_tree t) h =
      ap left_open
      (ap (λ (ks : List State). left_standing (problem_in b) (loosenings_in b) ks (root_state (problem_in b)) t) (sym own-lemmas)
      ∙ ap (λ (S : State). left_standing (problem_in b) (loosenings_in b) (cover_lemmas b) S t) (sym rooted)
      ∙ h.1.stands
      ∙ (left_tells_of_nodes b w t h.0 h.1).nothing.1 (nothing-left b unsat))
  end_leaves_nothing unsat (written_crossing i) h = refl
