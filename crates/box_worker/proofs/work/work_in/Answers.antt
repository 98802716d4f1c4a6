use Rattle.std.proofs.Common.{◌≡◌, ◌∙◌, ap, sym, subst}
use Rattle.cover_data.specs.Margins.{loosenings_of}
use Rattle.cover_data.specs.Models.{KeptModel}
use Rattle.cover_rule.specs.Models.{PatchModel}
use Rattle.cover_rule.specs.Patch.{run_at}
use Rattle.poly_graph.specs.ProblemViews.{problem_of}
use Rattle.box_worker.specs.Ended.{ComesToEnd}
use Rattle.box_worker.specs.Worked.{margins_of, AnswersAtOnce, IsWork, WorkOf}
use Rattle.box_worker.proofs.Works.{begun, is_begun, comes_at_once, comes_to_work, if_ok_then}
use Rattle.box_worker.proofs.work.work_in.Goals as goal

pub come_to_end-requires-clause-begun : goal.come_to_end-requires-clause-begun
come_to_end-requires-clause-begun c = let k = c.in_ok-patch.ensures.kept in k ∙ ap run_at (sym (ap (λ (x : KeptModel). x.first) k))

pub returns-clause-at_once : goal.returns-clause-at_once
returns-clause-at_once c =
    let P = c.in_ok-patch.patch in let Z = c.in_ok-patch-2.patch in let q = c.args.room.now in let m = margins_of c.args.options.now in let S = c.args.state in let lemmas = c.args.lemmas.now in let ended = c.in_ok-patch-2.ended in
    let n : c.margins-margins.result ≡ m = c.margins-margins.ensures in
    let b : P ≡ begun q m S = is_begun P q m S c.in_ok-patch.ensures.problem (c.in_ok-patch.ensures.margins ∙ n) c.in_ok-patch.ensures.kept in
    let a : ComesToEnd q m lemmas (begun q m S) Z ended =
    subst (λ (X : PatchModel). ComesToEnd X.problem X.margins lemmas X Z ended) b c.in_ok-patch-2.ensures.comes in
    if_ok_then (WorkOf Z ended) (AnswersAtOnce (problem_of q) (loosenings_of m) lemmas S) c.worked.result (λ w h. comes_at_once q m lemmas S Z ended w a h) c.worked.ensures.work

pub returns-clause-work : goal.returns-clause-work
returns-clause-work c =
    let P = c.in_ok-patch.patch in let Z = c.in_ok-patch-2.patch in let q = c.args.room.now in let m = margins_of c.args.options.now in let S = c.args.state in let lemmas = c.args.lemmas.now in let ended = c.in_ok-patch-2.ended in
    let n : c.margins-margins.result ≡ m = c.margins-margins.ensures in
    let b : P ≡ begun q m S = is_begun P q m S c.in_ok-patch.ensures.problem (c.in_ok-patch.ensures.margins ∙ n) c.in_ok-patch.ensures.kept in
    let a : ComesToEnd q m lemmas (begun q m S) Z ended =
    subst (λ (X : PatchModel). ComesToEnd X.problem X.margins lemmas X Z ended) b c.in_ok-patch-2.ensures.comes in
    if_ok_then (WorkOf Z ended) (IsWork (problem_of q) m lemmas S) c.worked.result (λ w h. comes_to_work q m lemmas S Z ended w a h) c.worked.ensures.work
