use Rattle.std.proofs.Common.{◌≡◌, ◌+◌, ◌∷◌, ◌++◌, ℕ, suc, List, drop, get_or, subst, ap, ◌∙◌, arith}
use Rattle.std.proofs.Math.ListN.{drop_of_length-le}
use Rattle.std.proofs.Math.Seq.{drop-cons}
use Rattle.cert_check.specs.declared.checker.Verdict.{Verdict}
use Rattle.cert_check.specs.declared.checker.Verdict.TheVariants.{Unsat}
use Rattle.check_run.proofs.Verdicts.{ShownSoFar, all_shown, one_shown}
use Rattle.check_run.proofs.check.all_shown.Goals as goal

pub loop-verdict-preserved : goal.loop-verdict-preserved
loop-verdict-preserved c =
    let ws : List Verdict = c.args.verdicts.now in
    let k = c.loop-verdict.verdict-index in
    let next : suc k ≡ k + 1 = omega arith in
    let split : drop k ws ≡ get_or ws k (Unsat 0) ∷ drop (k + 1) ws = drop-cons ws k (Unsat 0) (omega (arith, c.loop-verdict-test.true)) ∙ ap (λ (n : ℕ). get_or ws k (Unsat 0) ∷ drop n ws) next in
    let so_far = subst (λ (left : List Verdict). ShownSoFar ws left c.loop-verdict.text.items) split c.loop-verdict.invariant in
    one_shown ws (get_or ws k (Unsat 0)) (drop (k + 1) ws) c.loop-verdict.text.items c.in_ok-one.one.items c.extend_from_slice.new.self.items so_far c.in_ok-one.ensures
    (c.in_ok-extend_from_slice.ensures.items ∙ ap (λ ys. c.loop-verdict.text.items ++ ys) c.deref.ensures.value)

pub returns : goal.returns
returns c = all_shown c.args.verdicts.now c.loop-verdict.text.items
    (subst (λ (left : List Verdict). ShownSoFar c.args.verdicts.now left c.loop-verdict.text.items) (drop_of_length-le c.args.verdicts.now (omega (arith, c.loop-verdict-test.false))) c.loop-verdict.invariant)
