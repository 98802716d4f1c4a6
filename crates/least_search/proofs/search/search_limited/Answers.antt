use Rattle.std.proofs.Common.{Ok, refl, arith}
use Rattle.cover_data.specs.declared.margins.Options.{Options}
use Rattle.least_search.specs.Found.{IsBookOf}
use Rattle.least_search.proofs.Searches.{few_branches, limit_search}
use Rattle.least_search.proofs.search.search_limited.Goals as goal

pub returns-clause-book : goal.returns-clause-book
returns-clause-book g c =
    let a = c.args.aim.now in let v = c.args.bounds.now.version in let n : Options = record a.options.now { budget = c.share.result; version = v } in let l = c.args.limited.now in let b = c.in_ok-book.book in
    limit_search a.problem.now a.goal a.options.now n v l b c.requires.limited refl refl (c.requires.gives _ _ _ (Ok b) c.in_ok-book.ensures)

pub returns-clause-version : goal.returns-clause-version
returns-clause-version g c = (c.requires.gives _ _ _ (Ok c.in_ok-book.book) c.in_ok-book.ensures).version

pub returns-clause-less : goal.returns-clause-less
returns-clause-less g c =
    let a = c.args.aim.now in let n : Options = record a.options.now { budget = c.share.result; version = c.args.bounds.now.version } in let l = c.args.limited.now in let b = c.in_ok-book.book in
    let is : IsBookOf l.problem n b = c.requires.gives _ _ _ (Ok b) c.in_ok-book.ensures in
    omega (arith, few_branches l.problem n b is, c.share.ensures)
