-- The lemmas so far, and the next one, fit the later problem.
use Rattle.std.proofs.Common.{◌≡◌, ℕ, suc, ◌+◌, List, [], ◌∷◌, ◌++◌, map, take, ap, ap₂, sym, ◌∙◌, subst, length, ◌≤◌, arith}
use Rattle.interval_model.specs.Space.{Space}
use Rattle.poly_graph.specs.ProblemViews.{problem_of}
use Rattle.cover_model.specs.Carried.{carried}
use Rattle.cover_model.specs.State.{State}
use Rattle.cover_book.specs.Model.{lemma_states_in}
use Rattle.cover_book.proofs.Carries.{carried_room, next_mapped}
use Rattle.cover_book.proofs.carry.carried_lemmas.Goals as goal

pub carried-requires-clause-axes : goal.carried-requires-clause-axes
carried-requires-clause-axes c =
    let room = carried_room c.args.old.now c.lemma_count-id-end.ensures.book (problem_of c.args.problem.now) c.requires.on c.loop-id.id c.in-Some.lemma.now c.in-Some.ensures in
    subst (λ (xs : Space). length c.in-Some.lemma.now.space ≤ length xs) (sym c.requires.root) room.0

pub carried-requires-clause-atoms : goal.carried-requires-clause-atoms
carried-requires-clause-atoms c =
    (carried_room c.args.old.now c.lemma_count-id-end.ensures.book (problem_of c.args.problem.now) c.requires.on c.loop-id.id c.in-Some.lemma.now c.in-Some.ensures).1

pub loop-id-preserved : goal.loop-id-preserved
loop-id-preserved c =
    let id : ℕ = c.loop-id.id in let xs : List State = lemma_states_in c.args.old.now in let one : suc id ≡ id + 1 = omega arith in
    let q = problem_of c.args.problem.now in
    c.in_ok-push.ensures.items ∙ ap₂ (λ (ys : List State) (S : State). ys ++ (S ∷ [])) c.loop-id.invariant (c.in_ok-stored.ensures ∙ c.in_ok-state.ensures)
    ∙ next_mapped (carried q) xs id c.in-Some.lemma.now c.in-Some.ensures ∙ ap (λ i. map (carried q) (take i xs)) one
