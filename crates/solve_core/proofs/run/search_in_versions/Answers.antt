-- A search in one version, or in two.
use Rattle.std.proofs.Common.{◌≡◌, Option, ap, sym, ◌∙◌, subst}
use Rattle.std.specs.Prelude.{IfSome}
use Rattle.cover_data.specs.declared.margins.Options.{Options}
use Rattle.cover_data.specs.Margins.{margins_of}
use Rattle.cover_book.specs.Left.{LeavesDue}
use Rattle.cover_book.specs.Model.{BookModel, opening, raised}
use Rattle.solve_core.specs.Reaches.{Reaches, IsSearched, in_one_version, in_two_versions, stays}
use Rattle.solve_core.specs.Solved.{IsInVersionOf}
use Rattle.solve_core.proofs.Ends.{not_not_yet}
use Rattle.solve_core.proofs.Reached.{reaches_same, in_its_version, in_that_of_options, raised_options, opens_in_version_5, is_version_5}
use Rattle.solve_core.proofs.Together.{each_ok}
use Rattle.solve_core.proofs.run.search_in_versions.Goals as goal

-- ---- in the version of the book

pub returns-then-not-may_go_over-clause-searched : goal.returns-then-not-may_go_over-clause-searched
returns-then-not-may_go_over-clause-searched g c =
    each_ok (Reaches c.args.origin.book) (IsSearched c.args.origin.book) c.search_from.result (λ b h. in_one_version h) c.search_from.ensures.reached

pub returns-then-not-may_go_over-clause-options : goal.returns-then-not-may_go_over-clause-options
returns-then-not-may_go_over-clause-options g c =
    let o : Options = c.args.options.now in
    each_ok (Reaches c.args.origin.book) (IsInVersionOf o c.args.origin.book.options.version) c.search_from.result
    (λ b h. in_its_version o c.args.origin.book c.requires.options b h) c.search_from.ensures.reached

-- ---- it is done with the first branches

pub returns-then-is_done-clause-searched : goal.returns-then-is_done-clause-searched
returns-then-is_done-clause-searched g c = in_one_version c.in_ok-begun.ensures.reached

pub returns-then-is_done-clause-options : goal.returns-then-is_done-clause-options
returns-then-is_done-clause-options g c = in_its_version c.args.options.now c.args.origin.book c.requires.options c.in_ok-begun.begun c.in_ok-begun.ensures.reached

pub returns-then-is_done-clause-verdict : goal.returns-then-is_done-clause-verdict
returns-then-is_done-clause-verdict g c = not_not_yet c.in_ok-begun.begun (c.in_ok-begun.ensures.left c.if-is_done.true)

pub returns-then-is_done-clause-left : goal.returns-then-is_done-clause-left
returns-then-is_done-clause-left g c = c.in_ok-begun.ensures.left c.if-is_done.true

-- ---- the whole box is closed

pub returns-in-Some-clause-searched : goal.returns-in-Some-clause-searched
returns-in-Some-clause-searched g c =
    let o : Options = c.args.options.now in let five = is_version_5 (margins_of o) c.requires.margins (c.may_go_over.ensures c.if-not-may_go_over.false) in
    let first : raised c.args.origin.book ≡ opening c.args.problem.now o =
    opens_in_version_5 o c.args.origin.book c.requires.options five c.args.problem.now (c.requires.new c.if-is_new.true) in
    let reached : Reaches (opening c.args.problem.now o) c.in-Some.anew =
    subst (λ (s : Option BookModel). IfSome s (λ (b : BookModel). Reaches (opening c.args.problem.now o) b)) c.in-Some.is c.in_ok-anew.ensures.reached in
    in_two_versions c.args.origin.book stays (subst (λ (b : BookModel). Reaches b c.in-Some.anew) (sym first) reached)

pub returns-in-Some-clause-options : goal.returns-in-Some-clause-options
returns-in-Some-clause-options g c =
    let o : Options = c.args.options.now in let five = is_version_5 (margins_of o) c.requires.margins (c.may_go_over.ensures c.if-not-may_go_over.false) in
    let first : raised c.args.origin.book ≡ opening c.args.problem.now o =
    opens_in_version_5 o c.args.origin.book c.requires.options five c.args.problem.now (c.requires.new c.if-is_new.true) in
    let reached : Reaches (opening c.args.problem.now o) c.in-Some.anew =
    subst (λ (s : Option BookModel). IfSome s (λ (b : BookModel). Reaches (opening c.args.problem.now o) b)) c.in-Some.is c.in_ok-anew.ensures.reached in
    in_that_of_options o c.args.origin.book c.requires.options five c.args.origin.book c.in-Some.anew stays
    (subst (λ (b : BookModel). Reaches b c.in-Some.anew) (sym first) reached)

pub returns-in-Some-clause-verdict : goal.returns-in-Some-clause-verdict
returns-in-Some-clause-verdict g c =
    not_not_yet c.in-Some.anew (subst (λ (s : Option BookModel). IfSome s (λ (b : BookModel). LeavesDue b)) c.in-Some.is c.in_ok-anew.ensures.left)

-- ---- it goes over

pub search_from-requires-2-clause-problem : goal.search_from-requires-2-clause-problem
search_from-requires-2-clause-problem g c = λ κs k.
    ap (λ (b : BookModel). b.problem) c.raised.ensures ∙ (reaches_same c.in_ok-begun.ensures.reached).0 ∙ c.requires.problem

pub search_from-requires-2-clause-options : goal.search_from-requires-2-clause-options
search_from-requires-2-clause-options g c = λ κs k.
    let o : Options = c.args.options.now in let five = is_version_5 (margins_of o) c.requires.margins (c.may_go_over.ensures c.if-not-may_go_over.false) in
    ap (λ (b : BookModel). b.options) c.raised.ensures ∙ raised_options o c.args.origin.book c.requires.options five c.in_ok-begun.begun c.in_ok-begun.ensures.reached

pub returns-clause-searched : goal.returns-clause-searched
returns-clause-searched g c =
    each_ok (Reaches c.raised.result) (IsSearched c.args.origin.book) c.search_from-2.result
    (λ b k. in_two_versions c.in_ok-begun.begun c.in_ok-begun.ensures.reached (subst (λ (d : BookModel). Reaches d b) c.raised.ensures k)) c.search_from-2.ensures.reached

pub returns-clause-options : goal.returns-clause-options
returns-clause-options g c =
    let o : Options = c.args.options.now in let five = is_version_5 (margins_of o) c.requires.margins (c.may_go_over.ensures c.if-not-may_go_over.false) in
    each_ok (Reaches c.raised.result) (IsInVersionOf o c.args.origin.book.options.version) c.search_from-2.result
    (λ b k. in_that_of_options o c.args.origin.book c.requires.options five c.in_ok-begun.begun b c.in_ok-begun.ensures.reached (subst (λ (d : BookModel). Reaches d b) c.raised.ensures k)) c.search_from-2.ensures.reached
