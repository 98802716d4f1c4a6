-- What was searched for from the opening book is of its problem.
use Rattle.std.proofs.Common.{◌≡◌, ap, ◌∙◌, subst, sym, inl, refl}
use Rattle.poly_graph.specs.ProblemViews.{Parts}
use Rattle.cover_data.specs.declared.margins.Options.{Options}
use Rattle.cover_data.specs.Margins.{options_in}
use Rattle.cover_book.specs.Model.{BookModel, opening}
use Rattle.cover_book.specs.Limits.{IsWithinLimits}
use Rattle.solve_core.specs.Reaches.{IsSearched}
use Rattle.solve_core.specs.Solved.{IsInVersionOf}
use Rattle.solve_core.proofs.Reached.{searched_same, limits_in}
use Rattle.solve_core.proofs.Together.{each_ok}
use Rattle.solve_core.proofs.run.solve.Goals as goal

pub new-requires : goal.new-requires
new-requires g c =
    subst (λ (o : Options). IsWithinLimits c.in_ok-copy.copy o) (sym c.in_version.ensures)
    (limits_in c.in_ok-copy.copy c.args.options.now 2 (inl refl) (subst (λ (p : Parts). IsWithinLimits p c.args.options.now) (sym c.in_ok-copy.ensures) c.requires))

-- the book as it opened
pub search_in_versions-requires-clause-options : goal.search_in_versions-requires-clause-options
search_in_versions-requires-clause-options g c = λ κs h.
    let o : Options = c.args.options.now in
    let made : c.in_ok-book.book ≡ opening c.in_ok-copy.copy (options_in 2 o) = c.in_ok-book.ensures ∙ ap (opening c.in_ok-copy.copy) c.in_version.ensures in
    subst (λ (b : BookModel). b.options ≡ options_in b.options.version o) (sym made) refl

pub returns-clause-problem : goal.returns-clause-problem
returns-clause-problem g c =
    each_ok (IsSearched c.in_ok-book.book) (λ (b : BookModel). b.problem ≡ c.args.problem.now) c.search_in_versions.result
    (λ b h. (searched_same h).0 ∙ ap (λ (d : BookModel). d.problem) c.in_ok-book.ensures ∙ c.in_ok-copy.ensures) c.search_in_versions.ensures.searched

pub returns-clause-options : goal.returns-clause-options
returns-clause-options g c =
    let o : Options = c.args.options.now in
    let made : c.in_ok-book.book ≡ opening c.in_ok-copy.copy (options_in 2 o) = c.in_ok-book.ensures ∙ ap (opening c.in_ok-copy.copy) c.in_version.ensures in
    each_ok (IsInVersionOf o c.in_ok-book.book.options.version) (IsInVersionOf o 2) c.search_in_versions.result
    (λ b h. subst (λ (d : BookModel). IsInVersionOf o d.options.version b) made h) c.search_in_versions.ensures.options

pub returns-clause-searched : goal.returns-clause-searched
returns-clause-searched g c =
    let o : Options = c.args.options.now in
    let made : c.in_ok-book.book ≡ opening c.args.problem.now (options_in 2 o) =
    c.in_ok-book.ensures ∙ ap (opening c.in_ok-copy.copy) c.in_version.ensures ∙ ap (λ (p : Parts). opening p (options_in 2 o)) c.in_ok-copy.ensures in
    each_ok (IsSearched c.in_ok-book.book) (IsSearched (opening c.args.problem.now (options_in 2 o))) c.search_in_versions.result
    (λ b h. subst (λ (d : BookModel). IsSearched d b) made h) c.search_in_versions.ensures.searched
