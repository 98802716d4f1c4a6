-- What the work on a node comes to may be kept.
use Rattle.std.proofs.Common.{inl, subst, sym}
use Rattle.poly_graph.specs.ProblemViews.{Parts, problem_of}
use Rattle.cover_model.specs.Root.{root_space}
use Rattle.interval_model.specs.Space.{space_within}
use Rattle.cover_model.specs.Fits.{FitsProblem}
use Rattle.std.specs.Prelude.{IfSome, IsTrue, Option}
use Rattle.cover_data.specs.Models.{KeptModel}
use Rattle.box_worker.specs.Learned.{IsLesson}
use Rattle.box_worker.specs.Worked.{margins_of}
use Rattle.cover_book.proofs.Meaning.{nodes_lie_within}
use Rattle.solve_core.specs.Search.{IsAt}
use Rattle.solve_core.specs.Reaches.{stays}
use Rattle.solve_core.proofs.Reached.{reaches_through}
use Rattle.solve_core.proofs.Works.{work_here, patch_can, closed_can, learned_can}
use Rattle.solve_core.proofs.search.Search.visit.Goals as goal

pub returns-in-Err-clause-reached : goal.returns-in-Err-clause-reached
returns-in-Err-clause-reached c = stays

pub work_in-requires-clause-state : goal.work_in-requires-clause-state
work_in-requires-clause-state c = subst (λ (p : Parts). FitsProblem (problem_of p) c.in-Ok.state) (sym c.requires.room) (nodes_lie_within c.args.self.now.book c.options.ensures.book c.args.node c.in-Ok.state (inl c.in-Ok.ensures.0)).0

pub work_in-requires-clause-root : goal.work_in-requires-clause-root
work_in-requires-clause-root c = subst (λ (p : Parts). IsTrue (space_within c.in-Ok.state.space (root_space (problem_of p)))) (sym c.requires.room) (nodes_lie_within c.args.self.now.book c.options.ensures.book c.args.node c.in-Ok.state (inl c.in-Ok.ensures.0)).1

pub returns-in_err-point-clause-reached : goal.returns-in_err-point-clause-reached
returns-in_err-point-clause-reached c = stays

pub commit-requires : goal.commit-requires
commit-requires c =
    let at : IsAt c.args.self.now c.args.node c.in-Ok.state = record { search = c.requires.search; live = c.in-Ok.ensures.0; no_point = c.requires.no_point } in
    let h = work_here c.args.self.now.book c.args.room.now c.options.result.now c.args.self.now.lemmas.items c.deref.result.now c.in-Ok.state c.in_ok-point.field-0 c.requires.room c.options.ensures.options c.deref.ensures.value c.in_ok-point.ensures.at_once c.in_ok-point.ensures.work in
    patch_can c.args.self.now c.args.node c.in-Ok.state at c.in_ok-point.field-0 h c.in-Patch.patch c.in-Patch.is

pub commit-requires-in-Closed : goal.commit-requires-in-Closed
commit-requires-in-Closed c =
    let at : IsAt c.args.self.now c.args.node c.in-Ok.state = record { search = c.requires.search; live = c.in-Ok.ensures.0; no_point = c.requires.no_point } in
    let h = work_here c.args.self.now.book c.args.room.now c.options.result.now c.args.self.now.lemmas.items c.deref.result.now c.in-Ok.state c.in_ok-point.field-0 c.requires.room c.options.ensures.options c.deref.ensures.value c.in_ok-point.ensures.at_once c.in_ok-point.ensures.work in
    closed_can c.args.self.now c.args.node c.in-Ok.state at c.in_ok-point.field-0 h c.in-Closed.patch c.in-Closed.own c.in-Closed.is

pub returns-in_err-lesson-in-Closed-clause-reached : goal.returns-in_err-lesson-in-Closed-clause-reached
returns-in_err-lesson-in-Closed-clause-reached c = stays

pub learn-requires : goal.learn-requires
learn-requires c =
    let at : IsAt c.args.self.now c.args.node c.in-Ok.state = record { search = c.requires.search; live = c.in-Ok.ensures.0; no_point = c.requires.no_point } in
    let h = work_here c.args.self.now.book c.args.room.now c.options.result.now c.args.self.now.lemmas.items c.deref.result.now c.in-Ok.state c.in_ok-point.field-0 c.requires.room c.options.ensures.options c.deref.ensures.value c.in_ok-point.ensures.at_once c.in_ok-point.ensures.work in
    let own = c.in-Closed.own in let k = c.in-Some.closed in
    let l : IsLesson c.args.self.now.book.problem (margins_of c.args.self.now.book.options) own k = subst (λ (o : Option KeptModel). IfSome o (IsLesson c.args.self.now.book.problem (margins_of c.args.self.now.book.options) own)) c.in-Some.is c.in_ok-lesson-in-Closed.ensures.lesson in
    learned_can c.args.self.now c.args.node c.in-Ok.state at c.in_ok-point.field-0 h c.in-Closed.patch own k c.in-Closed.is l
    c.commit-in-Closed.new.self c.in_ok-commit-in-Closed.ensures.search c.commit-in-Closed.ensures.reached c.commit-in-Closed.ensures.lemmas

pub returns-in-Some-clause-reached : goal.returns-in-Some-clause-reached
returns-in-Some-clause-reached c = reaches_through c.commit-in-Closed.ensures.reached c.learn.ensures.reached
