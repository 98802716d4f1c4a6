-- What was searched for from a book is of its problem, and opened in the same state with the same lemmas.
use Rattle.std.proofs.Common.{◌≡◌, ◌⊎◌, inr, refl, ap, sym, ◌∙◌, subst}
use Rattle.cover_data.specs.declared.margins.Options.{Options}
use Rattle.cover_data.specs.Margins.{AreMargins, margins_of, options_in}
use Rattle.cover_book.specs.Model.{BookModel}
use Rattle.solve_core.specs.Reaches.{IsSearched}
use Rattle.solve_core.specs.Solved.{IsInVersionOf}
use Rattle.solve_core.proofs.Reached.{searched_same}
use Rattle.solve_core.proofs.Together.{each_ok}
use Rattle.solve_core.proofs.run.search_on.Goals as goal

pub search_in_versions-requires-clause-options : goal.search_in_versions-requires-clause-options
search_in_versions-requires-clause-options g c = λ κs h.
    let b : BookModel = c.args.book in
    let latest : c.in_version-options.result ≡ options_in 5 b.options = c.in_version-options.ensures ∙ ap (options_in 5) c.options.ensures.options in
    subst (λ (o : Options). b.options ≡ options_in b.options.version o) (sym latest) refl

pub search_in_versions-requires-clause-margins : goal.search_in_versions-requires-clause-margins
search_in_versions-requires-clause-margins g c = λ κs h.
    let b : BookModel = c.args.book in
    let latest : c.in_version-options.result ≡ options_in 5 b.options = c.in_version-options.ensures ∙ ap (options_in 5) c.options.ensures.options in
    let own : AreMargins (margins_of b.options) = c.options.ensures.book.limits.margins in
    subst (λ (o : Options). AreMargins (margins_of o)) (sym latest) (record {
      some_delta = own.some_delta;
      few_delta = own.few_delta;
      above_delta = own.above_delta;
      few_margin = own.few_margin;
      few_least = own.few_least;
      version_is = inr refl;
    })

pub returns-clause-problem : goal.returns-clause-problem
returns-clause-problem g c = each_ok (IsSearched c.args.book) (λ (b : BookModel). b.problem ≡ c.args.book.problem) c.search_in_versions.result (λ b h. (searched_same h).0) c.search_in_versions.ensures.searched

pub returns-clause-options : goal.returns-clause-options
returns-clause-options g c = each_ok (IsSearched c.args.book) (λ (b : BookModel). b.options ≡ options_in b.options.version c.args.book.options) c.search_in_versions.result (λ b h. (searched_same h).1) c.search_in_versions.ensures.searched

pub returns-clause-version : goal.returns-clause-version
returns-clause-version g c =
    let b : BookModel = c.args.book in
    let latest : c.in_version-options.result ≡ options_in 5 b.options = c.in_version-options.ensures ∙ ap (options_in 5) c.options.ensures.options in
    each_ok (IsInVersionOf c.in_version-options.result b.options.version) (λ (d : BookModel). (d.options.version ≡ b.options.version) ⊎ (d.options.version ≡ 5)) c.search_in_versions.result
    (λ d h. (subst (λ (o : Options). IsInVersionOf o b.options.version d) latest h).version) c.search_in_versions.ensures.options

pub returns-clause-kept : goal.returns-clause-kept
returns-clause-kept g c = each_ok (IsSearched c.args.book) (λ (b : BookModel). b.kept ≡ c.args.book.kept) c.search_in_versions.result (λ b h. (searched_same h).2) c.search_in_versions.ensures.searched

pub returns-clause-root : goal.returns-clause-root
returns-clause-root g c = each_ok (IsSearched c.args.book) (λ (b : BookModel). b.root ≡ c.args.book.root) c.search_in_versions.result (λ b h. (searched_same h).3) c.search_in_versions.ensures.searched
