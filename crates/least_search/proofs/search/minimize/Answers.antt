use Rattle.std.proofs.Common.{◌-◌, Bor, ℕ, Ok, arith, subst, sym}
use Rattle.cover_data.specs.declared.margins.Options.{Options}
use Rattle.interval_model.specs.Space.{Space}
use Rattle.poly_graph.specs.ProblemViews.{Parts}
use Rattle.least_search.specs.Found.{Begins, IsBookOf, IsSearchVersion}
use Rattle.least_search.proofs.First.{first_of}
use Rattle.least_search.proofs.Searches.{few_branches}
use Rattle.least_search.proofs.Versions.{version_after}
use Rattle.least_search.proofs.search.minimize.Goals as goal

pub find-requires-clause-begins : goal.find-requires-clause-begins
find-requires-clause-begins g c =
    let q = c.args.problem.now in let o = c.args.options.now in let b = c.in_ok-book.book in let left : ℕ = o.budget - c.branches.result in
    let is : IsBookOf q o b = c.requires.gives _ _ _ (Ok b) c.in_ok-book.ensures in
    let few = few_branches q o b is in
    let start : Space = c.in-Some.point.now in
    let first : Begins q o start left = record { first = b; is_first = is; kept = c.in-Some.ensures; sum = omega (arith, c.branches.ensures.branches, few) } in
    let here = c.in_ok-aim.ensures in
    subst (λ (p : Bor Parts). Begins p.now c.in_ok-aim.aim.options.now start left) (sym here.problem)
    (subst (λ (n : Bor Options). Begins q n.now start left) (sym here.options) first)

pub find-requires-clause-version : goal.find-requires-clause-version
find-requires-clause-version g c =
    let o = c.args.options.now in let b = c.in_ok-book.book in
    let is : IsBookOf c.args.problem.now o b = c.requires.gives _ _ _ (Ok b) c.in_ok-book.ensures in
    subst (λ (x : Options). IsSearchVersion x.version) (sym c.options.ensures.options) (version_after o.version b.options.version c.requires.within.margins.version_is is.version)

pub returns-in_default : goal.returns-in_default
returns-in_default g c = first_of c.args.problem.now c.args.options.now c.in_ok-book.book (c.requires.gives _ _ _ (Ok c.in_ok-book.book) c.in_ok-book.ensures) c.in_default.ensures
