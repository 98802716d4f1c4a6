use Rattle.std.proofs.Common.{◌≡◌, ◌∙◌, List, Bool, length, subst, sym}
use Rattle.std.specs.Prelude.{IfOk}
use Rattle.std.proofs.lemmas.Result.{IfOk-weaker}
use Rattle.poly_graph.specs.ProblemViews.{Parts}
use Rattle.problem_session.specs.Session.{problems_of}
use Rattle.cover_book.specs.Model.{BookModel}
use Rattle.solve_core.specs.Solved.{AreBooksInOneVersion}
use Rattle.dpoly.specs.Search.{search_options, AreSearchAnswers}
use Rattle.dpoly.proofs.SessionAnswers.{one_answers, several, within_one}
use Rattle.dpoly.proofs.solve.all_solved.Goals as goal

pub solved-requires-clause-within : goal.solved-requires-clause-within
solved-requires-clause-within g c κs within = within_one c.args.session.now c.in_ok-problem.problem (sym c.len.ensures ∙ c.if-len-eq1.true) c.in_ok-problem.ensures c.requires.within

pub returns-then-len-eq1 : goal.returns-then-len-eq1
returns-then-len-eq1 g c =
    IfOk-weaker _ _ _ (λ told h. one_answers c.args.session.now c.in_ok-problem.problem c.args.options.now told (sym c.len.ensures ∙ c.if-len-eq1.true) c.in_ok-problem.ensures h) c.solved.ensures

pub returns : goal.returns
returns g c =
    let session : List (Parts × Bool) = c.args.session.now in
    let o = search_options c.args.options.now in
    let s = several session c.requires.session (λ (e : length session ≡ 1). c.if-len-eq1.false (c.len.ensures ∙ e)) in
    let books = subst (λ (bs : List BookModel). AreBooksInOneVersion o session bs) (sym c.deref.ensures.value) c.in_ok-books.ensures.books in
    let are = subst (λ (ys : List (Parts × Bool)). AreBooksInOneVersion o ys c.deref.result.now) s.all books in
    subst (λ (ys : List (Parts × Bool)). IfOk c.tell_all.result (λ told. AreSearchAnswers (problems_of ys) c.args.options.now told)) (sym s.all) (c.tell_all.ensures s.first s.second s.later are)
