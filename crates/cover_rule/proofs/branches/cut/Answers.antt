use Rattle.std.proofs.Common.{◌≡◌, ◌∙◌, ℕ, Bool, true, false, ◌&&◌, IsTrue, Option, Some, None, refl, sym, ap, subst, true≢false}
use Rattle.std.specs.Prelude.{is_none, is_some}
use Rattle.dyadic.specs.Rounding.{Dyadic, mid}
use Rattle.dyadic.specs.Views.{dyadic_of}
use Rattle.interval_model.specs.Space.{Space}
use Rattle.cover_model.specs.Rules.{cut}
use Rattle.cover_model.specs.Honest.{not_shown, settled, may_be_cut, is_middle_at}
use Rattle.cover_data.specs.Margins.{loosenings_of}
use Rattle.cover_data.specs.declared.step.End.{End}
use Rattle.cover_data.specs.Views.{end_of}
use Rattle.cover_rule.specs.declared.refusal.PatchRefusal.TheVariants.{NotHonest, Ended}
use Rattle.cover_rule.specs.Models.{PatchModel}
use Rattle.cover_rule.specs.Patch.{problem_in, loosenings_in, now_in}
use Rattle.cover_rule.specs.Held.{patch_of}
use Rattle.cover_rule.specs.Parting.{HasHalves}
use Rattle.cover_rule.specs.Refusals.{unless, then_by, cut_line, cut_test, cut_refusal}
use Rattle.cover_rule.proofs.branches.cut.Goals as goal

goes-on : (e : Option End) → is_some e ≡ false → IsTrue (is_none (end_of e))
goes-on None h = refl
goes-on (Some e) h = absurd (true≢false h)

never : (due may middle : Bool) → may ≡ false → ((due && may) && middle) ≡ false
never true may middle e = ap (λ (t : Bool). t && middle) e
never false may middle e = refl

-- a cut where none may be is not honest
dishonest : (P : PatchModel) (axis : ℕ) (c : Dyadic) → IsTrue (is_none P.kept.end) → cut_line axis (now_in P).space ≡ Some (cut axis c) → may_be_cut P.margins.least_bits (loosenings_in P) axis (now_in P).space ≡ false → cut_refusal P axis ≡ Some NotHonest
dishonest P axis c o l may =
    let S = now_in P in let p = problem_in P in let s = loosenings_in P in
    ap (λ (t : Bool). then_by (unless t Ended) (cut_test P (cut_line axis S.space))) o ∙ ap (cut_test P) l
    ∙ ap (λ (t : Bool). unless t NotHonest) (never (not_shown p s S && settled p s S) (may_be_cut P.margins.least_bits s axis S.space) (is_middle_at axis c S.space) may)

pub returns-then-not-may_be_cut-clause-answer : goal.returns-then-not-may_be_cut-clause-answer
returns-then-not-may_be_cut-clause-answer c =
    let m = c.args.margins.now in let k = c.args.kept.now in let axis = c.args.axis in let r = c.in-Some.range in
    let P : PatchModel = patch_of c.args.problem.now m k in
    let h : HasHalves k.reached.space axis r = subst (λ (x : Space). HasHalves x axis r) c.space.ensures c.in-Some.ensures.found in (
      dishonest P axis (mid (dyadic_of r.low) (dyadic_of r.high)) (goes-on k.end (sym c.is_some.ensures ∙ c.if-is_some.false)) h.line
          (ap (λ (x : Space). may_be_cut m.least_bits (loosenings_of m) axis x) (sym c.space-2.ensures) ∙ sym c.may_be_cut.ensures ∙ c.if-not-may_be_cut.true),
      refl,
    )
