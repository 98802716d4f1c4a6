-- The books so far are those of the first checks, all in one version.
use Rattle.std.proofs.Common.{◌≡◌, ℕ, ◌+◌, ◌≤◌, List, [], ◌∷◌, ◌++◌, All, length, take, Bool, ap, sym, ◌∙◌, subst, arith}
use Rattle.std.proofs.lemmas.List.{take_all}
use Rattle.std.proofs.lemmas.List.Elements.{All-nil, All-cons}
use Rattle.poly_graph.specs.ProblemViews.{Parts}
use Rattle.cover_data.specs.declared.margins.Options.{Options}
use Rattle.cover_data.specs.Margins.{options_in}
use Rattle.cover_book.specs.Model.{BookModel}
use Rattle.cover_book.specs.Session.{AreBooksOf}
use Rattle.solve_core.specs.Solved.{IsSolved, AreBooksInOneVersion}
use Rattle.solve_core.proofs.Sessions.{first_book, of_root, so_many, last_is, last_within, opened_problem, opened_options, opened_margins, one_book_more, all_solved, solved_from}
use Rattle.solve_core.proofs.run.solve_each.Goals as goal

pub loop-k-init : goal.loop-k-init
loop-k-init g c =
    let ps = c.args.session.now in let o : Options = c.args.options.now in let b : BookModel = c.in_ok-book.book in let is = c.in_ok-book.ensures in
    let v : ℕ = b.options.version in
    let one : c.push.new.self.items ≡ b ∷ [] = c.in_ok-push.ensures.items ∙ ap (λ (bs : List BookModel). bs ++ (b ∷ [])) c.requires.none in record {
      some = omega arith;
      books = (v, is.options.version, subst (AreBooksOf (options_in v o) [] (take 1 ps)) (sym one) (first_book (options_in v o) ps b is.at is.book is.options.options is.kept (of_root b is.solved)));
      solved = subst (All IsSolved) (sym one) (All-cons IsSolved b [] is.solved (All-nil IsSolved));
    }

pub index-requires : goal.index-requires
index-requires g c =
    let in-force : c.loop-k.k ≤ length c.args.session.now = omega (arith, c.loop-k-test.true, c.len-k-end.ensures) in
    let count = so_many c.args.options.now c.args.session.now c.loop-k.k c.loop-k.books.items c.loop-k.invariant.books c.loop-k.invariant.some in-force in omega (arith, count, c.loop-k.invariant.some)

pub open_next-requires-clause-limits : goal.open_next-requires-clause-limits
open_next-requires-clause-limits g c =
    let in-force : c.loop-k.k ≤ length c.args.session.now = omega (arith, c.loop-k-test.true, c.len-k-end.ensures) in
    last_within c.args.options.now c.args.session.now c.loop-k.k c.loop-k.books.items c.loop-k.invariant.books c.loop-k.invariant.some in-force c.index.result.now c.index.ensures c.requires.limits

pub open_next-requires-clause-old : goal.open_next-requires-clause-old
open_next-requires-clause-old g c =
    let in-force : c.loop-k.k ≤ length c.args.session.now = omega (arith, c.loop-k-test.true, c.len-k-end.ensures) in
    (last_is c.args.options.now c.args.session.now c.loop-k.k c.loop-k.books.items c.loop-k.invariant.books c.loop-k.invariant.some in-force c.index.result.now c.index.ensures).0

pub solve_next-requires-clause-problem : goal.solve_next-requires-clause-problem
solve_next-requires-clause-problem g c = λ κs h.
    let in-force : c.loop-k.k ≤ length c.args.session.now = omega (arith, c.loop-k-test.true, c.len-k-end.ensures) in
    opened_problem c.args.options.now c.args.session.now c.loop-k.k c.loop-k.books.items c.loop-k.invariant.books c.loop-k.invariant.some in-force c.index.result.now c.index.ensures
    c.in_ok-opened.opened.0 c.in_ok-opened.opened.1 c.in_ok-opened.ensures

pub solve_next-requires-clause-options : goal.solve_next-requires-clause-options
solve_next-requires-clause-options g c = λ κs h.
    let in-force : c.loop-k.k ≤ length c.args.session.now = omega (arith, c.loop-k-test.true, c.len-k-end.ensures) in
    opened_options c.args.options.now c.args.session.now c.loop-k.k c.loop-k.books.items c.loop-k.invariant.books c.loop-k.invariant.some in-force c.index.result.now c.index.ensures
    c.in_ok-opened.opened.0 c.in_ok-opened.opened.1 c.in_ok-opened.ensures

pub solve_next-requires-clause-margins : goal.solve_next-requires-clause-margins
solve_next-requires-clause-margins g c = λ κs h.
    let in-force : c.loop-k.k ≤ length c.args.session.now = omega (arith, c.loop-k-test.true, c.len-k-end.ensures) in
    opened_margins c.args.options.now c.args.session.now c.loop-k.k c.loop-k.books.items c.loop-k.invariant.books c.loop-k.invariant.some in-force c.index.result.now c.index.ensures
    c.in_ok-opened.opened.0 c.in_ok-opened.opened.1 c.in_ok-opened.ensures c.requires.limits

pub loop-k-preserved : goal.loop-k-preserved
loop-k-preserved g c =
    let ps = c.args.session.now in let o : Options = c.args.options.now in let k : ℕ = c.loop-k.k in let books : List BookModel = c.loop-k.books.items in let inv = c.loop-k.invariant in
    let last : BookModel = c.index.result.now in let opened : BookModel = c.in_ok-opened.opened.1 in let x = c.in_ok-opened.ensures in
    let b : BookModel = c.in_ok-book-2.book in let is = c.in_ok-book-2.ensures in let new : List BookModel = c.append.new.books.items in
    let in-force : k ≤ length ps = omega (arith, c.loop-k-test.true, c.len-k-end.ensures) in
    let m = opened_margins o ps k books inv.books inv.some in-force last c.index.ensures c.in_ok-opened.opened.0 opened x c.requires.limits in record {
      some = omega arith;
      books = one_book_more o ps k books inv.books inv.some in-force last c.index.ensures c.in_ok-opened.opened.0 opened x m b new is.searched is.options is.book c.in_ok-append.ensures;
      solved = all_solved books new b inv.solved (solved_from opened b c.in_ok-opened.opened.0 last.options _ x.book is.searched is.verdict is.left) c.in_ok-append.ensures;
    }

pub returns-clause-books : goal.returns-clause-books
returns-clause-books g c =
    let ps = c.args.session.now in
    let all : length ps ≤ c.loop-k.k = omega (arith, c.loop-k-test.false, c.len-k-end.ensures) in
    subst (λ (qs : List (Parts × Bool)). AreBooksInOneVersion c.args.options.now qs c.loop-k.books.items) (take_all c.loop-k.k ps all) c.loop-k.invariant.books
