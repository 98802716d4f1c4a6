-- When nothing is left to do at a state but to part it.
use Rattle.std.proofs.Common.{◌≡◌, Bool, true, false, not, IsTrue, Option, Some, None, refl, sym, ap, true≢false, length}
use Rattle.std.specs.Prelude.{MatchOption}
use Rattle.dyadic.proofs.Equal.{both_pass}
use Rattle.poly_graph.specs.Problem.{IsProblem}
use Rattle.cover_model.specs.State.{may, sure, covers}
use Rattle.interval_model.specs.Space.{middle}
use Rattle.cover_model.specs.Honest.{all_in_yes, conjuncts, none_empty}
use Rattle.cover_rule.specs.declared.refusal.PatchRefusal.{PatchRefusal}
use Rattle.cover_rule.specs.declared.refusal.PatchRefusal.TheVariants.{NotFalse, NotCovered}
use Rattle.cover_data.specs.Models.{LemmaModel}
use Rattle.cover_rule.specs.Models.{PatchModel}
use Rattle.cover_rule.specs.Patch.{problem_in, loosenings_in, now_in}
use Rattle.cover_rule.specs.Refusals.{unless, then_by, if_ended, false_refusal, by_refusal}
use Rattle.box_worker.specs.Attempts.{Attempts, IsDue, all_decided}
use Rattle.box_worker.proofs.Conjuncts.{some_none, open_not_ended, conjuncts_are_yes}

-- where it can't be ended by that, the form may hold
may-by : (P : PatchModel) → P.kept.end ≡ None → (m : Bool) → (then_by (if_ended P.kept) (unless (not m) NotFalse) ≡ None → ⊥) → m ≡ true
may-by P e true h = refl
may-by P e false h = absurd (h (ap (λ (o : Option PatchRefusal). then_by o None) (open_not_ended P e)))

pub may_hold : (P done Q : PatchModel) → P.kept.end ≡ None → Attempts (false_refusal P) P done Q false → may (problem_in P) (loosenings_in P) (now_in P) ≡ true
may_hold P done Q e a = may-by P e (may (problem_in P) (loosenings_in P) (now_in P)) (some_none (false_refusal P) a.0)

pub is_due : (P : PatchModel) → IsProblem (problem_in P) → length (now_in P).marks ≡ length (problem_in P).atoms → P.kept.end ≡ None → may (problem_in P) (loosenings_in P) (now_in P) ≡ true →
    all_decided (now_in P) (conjuncts (problem_in P).form) ≡ true → none_empty (problem_in P) (loosenings_in P) (now_in P) ≡ true → IsTrue (not (sure (problem_in P) (loosenings_in P) (middle (now_in P).space))) → IsDue P
is_due P g l e m d n s = record {
  open_end = e;
  shown = both_pass (may (problem_in P) (loosenings_in P) (now_in P)) (not (sure (problem_in P) (loosenings_in P) (middle (now_in P).space))) m s;
  settled = both_pass (all_in_yes (now_in P) (conjuncts (problem_in P).form)) (none_empty (problem_in P) (loosenings_in P) (now_in P))
      (conjuncts_are_yes (problem_in P) g (loosenings_in P) (now_in P) l m d) n;
}

-- a lemma that covers the state is not refused
covers-passes : (P : PatchModel) → P.kept.end ≡ None → (x : Bool) → IsTrue x → then_by (if_ended P.kept) (unless x NotCovered) ≡ None
covers-passes P e true h = ap (λ (o : Option PatchRefusal). then_by o None) (open_not_ended P e)
covers-passes P e false h = absurd (true≢false (sym h))

pub not_refused : (P done Q : PatchModel) (L : LemmaModel) → P.kept.end ≡ None → IsTrue (covers L.state (now_in P)) → Attempts (by_refusal P.kept L) P done Q false → ⊥
not_refused P done Q L e h a = some_none (by_refusal P.kept L) a.0 (covers-passes P e (covers L.state (now_in P)) h)

pub when_none : {X : Type 0} (o : Option X) (A : Type 0) (B : X → Type 0) → o ≡ None → MatchOption o A B → A
when_none None A B e h = h
when_none (Some x) A B e h = cc
