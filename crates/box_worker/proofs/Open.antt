-- Steps leave a patch open.
use Rattle.std.proofs.Common.{◌≡◌, ◌∙◌, ◌⊎◌, inl, inr, Bool, true, false, List, [], ◌∷◌, ◌++◌, Option, None, ap, arith, refl, sym, subst}
use Rattle.std.specs.Prelude.{Contains, Result, Ok, Err}
use Rattle.std.proofs.lemmas.List.Elements.{All-push}
use Rattle.poly_graph.specs.ProblemViews.{Parts, problem_of}
use Rattle.interval_model.specs.Space.{Space}
use Rattle.cover_model.specs.State.{State}
use Rattle.cover_data.specs.declared.margins.Margins.{Margins}
use Rattle.cover_data.specs.Margins.{loosenings_of}
use Rattle.cover_rule.specs.declared.refusal.PatchRefusal.{PatchRefusal}
use Rattle.cover_rule.specs.declared.refusal.PatchRefusal.TheVariants.{NotYes, NotForced, NotCovered, NotFalse, NotInside, NotStuck, NotHonest, Ended, IsVoid, Decided, NotNo, NotCombinable, NotGroups, TooLong, Memory}
use Rattle.cover_data.specs.Models.{LemmaModel}
use Rattle.cover_rule.specs.Models.{PatchModel}
use Rattle.cover_rule.specs.Refusals.{PatchAnswer, IfLessStep}
use Rattle.box_worker.specs.Attempts.{AreAmong, IsOpen, StaysOpen}
use Rattle.box_worker.specs.OpenPatch.{OpenModel, IsOpenFor, IsUnderWay, open_model}
use Rattle.box_worker.specs.Worked.{AreLemmasFor}

done-or-same : (refusal : Option PatchRefusal) (P done Q : PatchModel) (r : Result (Unit {0}) PatchRefusal) → PatchAnswer refusal P done Q r → (Q ≡ done) ⊎ (Q ≡ P)
done-or-same refusal P done Q (Ok u) a = inl a.1
done-or-same refusal P done Q (Err NotYes) a = inr a.1
done-or-same refusal P done Q (Err NotForced) a = inr a.1
done-or-same refusal P done Q (Err NotCovered) a = inr a.1
done-or-same refusal P done Q (Err NotFalse) a = inr a.1
done-or-same refusal P done Q (Err NotInside) a = inr a.1
done-or-same refusal P done Q (Err NotStuck) a = inr a.1
done-or-same refusal P done Q (Err NotHonest) a = inr a.1
done-or-same refusal P done Q (Err Ended) a = inr a.1
done-or-same refusal P done Q (Err IsVoid) a = inr a.1
done-or-same refusal P done Q (Err Decided) a = inr a.1
done-or-same refusal P done Q (Err NotNo) a = inr a.1
done-or-same refusal P done Q (Err NotCombinable) a = inr a.1
done-or-same refusal P done Q (Err NotGroups) a = inr a.1
done-or-same refusal P done Q (Err TooLong) a = inr a.1
done-or-same refusal P done Q (Err Memory) a = inr a.1

pub still_open : (refusal : Option PatchRefusal) (P done Q : PatchModel) (r : Result (Unit {0}) PatchRefusal) → PatchAnswer refusal P done Q r →
    (q : Parts) (m : Margins) (lemmas : List LemmaModel) (S : State) → (IsOpen q m lemmas S P → IsOpen q m lemmas S done) → IsOpen q m lemmas S P → IsOpen q m lemmas S Q
still_open refusal P done Q r a q m lemmas S f h = elim (done-or-same refusal P done Q r a) [
  | inl e ↦ subst (IsOpen q m lemmas S) (sym e) (f h)
  | inr e ↦ subst (IsOpen q m lemmas S) (sym e) h
]

pub still_open_if_less : (narrow : Option Space) (refusal : Option PatchRefusal) (P done Q : PatchModel) (r : Result Bool PatchRefusal) → IfLessStep narrow refusal P done Q r →
    (q : Parts) (m : Margins) (lemmas : List LemmaModel) (S : State) → (IsOpen q m lemmas S P → IsOpen q m lemmas S done) → IsOpen q m lemmas S P → IsOpen q m lemmas S Q
still_open_if_less narrow refusal P done Q (Ok true) a q m lemmas S f h = still_open refusal P done Q (Ok tt) a.1 q m lemmas S f h
still_open_if_less narrow refusal P done Q (Ok false) a q m lemmas S f h = still_open refusal P P Q (Ok tt) a.1 q m lemmas S (λ k. k) h
still_open_if_less narrow refusal P done Q (Err x) a q m lemmas S f h = still_open refusal P done Q (Err x) a q m lemmas S f h

pub among_more : (lemmas quoted : List LemmaModel) (L : LemmaModel) → Contains lemmas L → AreAmong lemmas quoted → AreAmong lemmas (quoted ++ (L ∷ []))
among_more lemmas quoted L c h = All-push (λ (X : LemmaModel). Contains lemmas X) quoted L h c

-- ---- what stays the same

pub none_among : (lemmas : List LemmaModel) → AreAmong lemmas []
none_among lemmas = λ i L l. absurd (omega (arith, l))

-- a patch that has just begun is open
pub begun_is_open : (lemmas : List LemmaModel) (P : PatchModel) → P.kept.quoted ≡ [] → P.kept.end ≡ None → IsOpenFor (open_model lemmas P) P
begun_is_open lemmas P q e = record { problem = refl; margins = refl; first = refl; among = subst (AreAmong lemmas) (sym q) (none_among lemmas); open_end = e }

pub open_itself : (lemmas : List LemmaModel) (P : PatchModel) → IsUnderWay lemmas P → IsOpenFor (open_model lemmas P) P
open_itself lemmas P u = record { problem = refl; margins = refl; first = refl; among = u.among; open_end = u.open_end }

pub stays_open : (lemmas : List LemmaModel) (P Q : PatchModel) → StaysOpen P Q → IsUnderWay lemmas P → IsOpenFor (open_model lemmas P) Q
stays_open lemmas P Q s u = s P.problem P.margins lemmas P.kept.first (open_itself lemmas P u)

pub still_under_way : (lemmas : List LemmaModel) (P Q : PatchModel) → IsOpenFor (open_model lemmas P) Q → IsUnderWay lemmas P → IsUnderWay lemmas Q
still_under_way lemmas P Q o u = record {
  lemmas_hold = subst (λ (q : Parts). AreLemmasFor (problem_of q) (loosenings_of Q.margins) lemmas) (sym o.problem)
      (subst (λ (m : Margins). AreLemmasFor (problem_of P.problem) (loosenings_of m) lemmas) (sym o.margins) u.lemmas_hold);
  among = o.among;
  open_end = o.open_end;
}

pub same_model : (lemmas : List LemmaModel) (P Q : PatchModel) → IsOpenFor (open_model lemmas P) Q → open_model lemmas Q ≡ open_model lemmas P
same_model lemmas P Q o =
    ap (λ (q : Parts). let r : OpenModel = record { problem = q; margins = Q.margins; lemmas = lemmas; first = Q.kept.first } in r) o.problem
    ∙ ap (λ (m : Margins). let r : OpenModel = record { problem = P.problem; margins = m; lemmas = lemmas; first = Q.kept.first } in r) o.margins
    ∙ ap (λ (S : State). let r : OpenModel = record { problem = P.problem; margins = P.margins; lemmas = lemmas; first = S } in r) o.first
