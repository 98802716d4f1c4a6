-- How a patch goes on.
use Rattle.std.proofs.Common.{◌≡◌, Bool, true, false, Option, None, refl, sym, ◌∙◌, subst}
use Rattle.std.specs.Prelude.{Result}
use Rattle.cover_rule.specs.declared.refusal.PatchRefusal.{PatchRefusal}
use Rattle.cover_rule.specs.Models.{PatchModel}
use Rattle.cover_rule.specs.Refusals.{PatchAnswer, EndAnswer, AnswerIf}
use Rattle.box_worker.specs.Attempts.{Attempts, Continues}

pub continues_still : (P : PatchModel) → Continues P P
continues_still P = record { problem = refl; margins = refl; first = refl; quoted = refl }

pub continues_through : (P Q R : PatchModel) → Continues P Q → Continues Q R → Continues P R
continues_through P Q R h k = record { problem = k.problem ∙ h.problem; margins = k.margins ∙ h.margins; first = k.first ∙ h.first; quoted = k.quoted ∙ h.quoted }

-- after an attempt
pub continues_attempt : (refusal : Option PatchRefusal) (P done Q R : PatchModel) (b : Bool) → Attempts refusal P done Q b → Continues P done → Continues R P → Continues R Q
continues_attempt refusal P done Q R true a h k = subst (Continues R) (sym a.1) (continues_through R P done k h)
continues_attempt refusal P done Q R false a h k = subst (Continues R) (sym a.1) k

pub open_attempt : (refusal : Option PatchRefusal) (P done Q : PatchModel) (b : Bool) → Attempts refusal P done Q b → done.kept.end ≡ P.kept.end → P.kept.end ≡ None → Q.kept.end ≡ None
open_attempt refusal P done Q true a h k = subst (λ (Q : PatchModel). Q.kept.end ≡ None) (sym a.1) (h ∙ k)
open_attempt refusal P done Q false a h k = subst (λ (Q : PatchModel). Q.kept.end ≡ None) (sym a.1) k

pub refused : (refusal : Option PatchRefusal) (P done Q : PatchModel) (b : Bool) → b ≡ false → Attempts refusal P done Q b → Attempts refusal P done Q false
refused refusal P done Q b e a = subst (Attempts refusal P done Q) e a

-- what follows of an answer that may be for memory or not
pub either_answer : (b : Bool) (refusal : Option PatchRefusal) (P done Q : PatchModel) (r : Result (Unit {0}) PatchRefusal) (A : Type 0) → (PatchAnswer refusal P done Q r → A) → (EndAnswer refusal P done Q r → A) → AnswerIf b refusal P done Q r → A
either_answer true refusal P done Q r A f g h = f h
either_answer false refusal P done Q r A f g h = g h
