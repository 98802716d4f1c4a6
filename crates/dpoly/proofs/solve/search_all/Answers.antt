use Rattle.std.proofs.Common.{rules, [], subst, sym}
use Rattle.std.specs.List.{All}
use Rattle.cover_data.specs.declared.margins.Options.{Options}
use Rattle.solve_core.specs.Solved.{AreBooksInOneVersion, IsCheckWithin}
use Rattle.dpoly.specs.Search.{search_options}
use Rattle.dpoly.proofs.SessionAnswers.{both_ok, left_by, lines_version, session_limits}
use Rattle.dpoly.proofs.solve.search_all.Goals as goal

pub solve_all-requires-clause-limits : goal.solve_all-requires-clause-limits
solve_all-requires-clause-limits g c =
    let h : All (IsCheckWithin c.search_options-asked.result) c.args.session.now =
    subst (λ (o : Options). All (IsCheckWithin o) c.args.session.now) (sym c.search_options-asked.ensures) (session_limits c.args.options.now c.requires.options c.args.session.now c.requires.within) in
    search (rules, h)

pub returns-clause-left : goal.returns-clause-left
returns-clause-left g c = both_ok c.solve_all.result c.solve_all.ensures.books c.solve_all.ensures.solved
    (λ v books solved.
    let in_one : AreBooksInOneVersion (search_options c.args.options.now) c.args.session.now v.items = subst (λ (o : Options). AreBooksInOneVersion o c.args.session.now v.items) c.search_options-asked.ensures books in
    left_by c.args.options.now in_one.0 (lines_version in_one.0 in_one.1) [] c.args.session.now v.items in_one.2 solved)
