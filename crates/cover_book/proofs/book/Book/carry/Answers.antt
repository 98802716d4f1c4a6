-- What is carried is such as a book may open with.
use Rattle.std.proofs.Common.{List, All, length, ◌≤◌, sym, subst}
use Rattle.poly_graph.specs.ProblemViews.{problem_of, IsWhole}
use Rattle.cover_model.specs.State.{State}
use Rattle.cover_data.specs.declared.margins.Options.{Options}
use Rattle.cover_data.specs.Margins.{loosenings_of}
use Rattle.cover_book.specs.Model.{margins_of, loosenings_in}
use Rattle.cover_book.specs.Keeps.{IsKeptLemma}
use Rattle.cover_book.specs.Steps.{most_lemmas}
use Rattle.cover_book.proofs.Carries.{may_open}
use Rattle.cover_book.proofs.book.Book.carry.Goals as goal

pub opened-requires-clause-few : goal.opened-requires-clause-few
opened-requires-clause-few c =
    let k = may_open c.args.old.now c.options.ensures.book c.args.problem (subst IsWhole c.problem.view_is c.problem.invariant) c.requires.on in
    subst (λ (xs : List State). length xs ≤ most_lemmas) (sym c.in_ok-kept.ensures) k.1

pub opened-requires-clause-kept : goal.opened-requires-clause-kept
opened-requires-clause-kept c =
    let k = may_open c.args.old.now c.options.ensures.book c.args.problem (subst IsWhole c.problem.view_is c.problem.invariant) c.requires.on in
    subst (λ (o : Options). All (IsKeptLemma (problem_of c.args.problem) (loosenings_of (margins_of o))) c.in_ok-kept.kept.items) (sym c.options.ensures.options)
    (subst (λ (xs : List State). All (IsKeptLemma (problem_of c.args.problem) (loosenings_in c.args.old.now)) xs) (sym c.in_ok-kept.ensures) k.0)
