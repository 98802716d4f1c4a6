use Rattle.std.proofs.Common.{◌≡◌, ◌∷◌, ◌++◌, ℕ, List, Some, ap, sym, ◌∙◌, subst}
use Rattle.cover_model.specs.Rules.{Line}
use Rattle.cert_join.specs.declared.joiner.Step.TheVariants.{On}
use Rattle.cert_join.specs.declared.weighing.Weighing.{Weighing}
use Rattle.cert_join.specs.Kinds.{left_kind, rule_text}
use Rattle.cert_join.specs.Spot.{IsBefore}
use Rattle.cert_join.specs.Weighed.{IsGone, behind_next, forest_texts}
use Rattle.cert_join.proofs.Spots.{before_same}
use Rattle.cert_join.proofs.Weighs.{read_first, step_on}
use Rattle.cert_join.proofs.weighing.Weighing.step_in.Goals as goal

pub returns-in-Some : goal.returns-in-Some
returns-in-Some c = λ cert b left p h before.
    let w = c.args.self.now in
    let s = c.args.cursor.now in
    let new = c.left_of_next.new.cursor in
    let m = c.mark_at-mark.result in
    let k = c.in-Some.left in
    let next : (r : Line) (ls : List (List ℕ)) → IsBefore cert (rule_text r ∷ ls) s → (k ≡ left_kind r) × IsBefore cert ls c.pass.new.self =
    λ r ls b0.
    let told = c.in-Some.ensures.left cert r ls b0 in
    let there : IsBefore cert (rule_text r ∷ ls) new = subst (IsBefore cert (rule_text r ∷ ls)) (sym c.left_of_next.ensures.same) (before_same cert (rule_text r ∷ ls) s new.size b0) in
    (told.0, c.pass.ensures cert (rule_text r) ls there told.1) in
    subst (λ (x : Weighing). IsGone cert b w x c.pass.new.self On) (sym (c.take.ensures ∙ ap (λ (n : ℕ). behind_next n m k (record w { mark = Some m })) p))
    (step_on cert b left w s c.pass.new.self m k h before c.mark_at-mark.ensures next)

pub returns-in-None : goal.returns-in-None
returns-in-None c = λ cert b left p h before.
    let new = c.left_of_next.new.cursor in
    let there : IsBefore cert (forest_texts left ++ b.behind) new = subst (IsBefore cert (forest_texts left ++ b.behind)) (sym c.left_of_next.ensures.same) (before_same cert (forest_texts left ++ b.behind) c.args.cursor.now new.size before) in
    read_first cert b left c.args.self.now c.args.cursor.now new c.mark_at-mark.result c.args.part h before there c.mark_at-mark.ensures
