use Rattle.std.proofs.Common.{◌≡◌, ◌∙◌, ap, sym, subst, IsTrue}
use Rattle.interval_model.specs.Space.{Space, space_within}
use Rattle.dyadic.proofs.Equal.{both_true}
use Rattle.cover_model.specs.Root.{root_space}
use Rattle.poly_graph.specs.ProblemViews.{Parts, problem_of}
use Rattle.cover_model.specs.State.{State}
use Rattle.poly_graph.specs.Marks.{marks_within}
use Rattle.cover_model.proofs.Within.{space_through}
use Rattle.ival.specs.SpaceViews.{space_of}
use Rattle.cover_rule.specs.Models.{PatchModel}
use Rattle.box_worker.proofs.work.middle_point.Goals as goal

pub of_middle-requires-clause-space : goal.of_middle-requires-clause-space
of_middle-requires-clause-space c =
    let N = c.is_sure_at_middle.new.self in let k = N.kept in let q = c.problem-problem.result.now in let root = root_space (problem_of q) in
    let e : q ≡ c.args.patch.now.problem = c.problem-problem.ensures.problem ∙ ap (λ (P : PatchModel). P.problem) c.is_sure_at_middle.ensures.same in
    let first : k.first ≡ c.args.patch.now.kept.first = ap (λ (P : PatchModel). P.kept.first) c.is_sure_at_middle.ensures.same in
    let at : space_of c.space.result.now ≡ k.reached.space = c.space.ensures ∙ ap (λ (S : State). S.space) c.reached.ensures.state in
    subst (λ (s : Space). IsTrue (space_within s root)) (sym at)
    (space_through k.reached.space k.first.space root (both_true (space_within k.reached.space k.first.space) (marks_within k.first.marks k.reached.marks) c.reached.ensures.run.sound.within).0 (subst (λ (S : State). IsTrue (space_within S.space root)) (sym first) (subst (λ (r : Parts). IsTrue (space_within c.args.patch.now.kept.first.space (root_space (problem_of r)))) (sym e) c.requires.root)))
