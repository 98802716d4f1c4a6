use Rattle.std.proofs.Common.{◌≡◌, map, take}
use Rattle.poly_graph.specs.ProblemViews.{problem_of}
use Rattle.cover_model.specs.Carried.{carried}
use Rattle.cover_book.specs.Model.{lemma_states_in}
use Rattle.cover_book.proofs.carry.carried_lemmas.Given as goal

-- the lemmas so far
abbrev pub invariant-loop-id : goal.invariant-loop-id
invariant-loop-id l = l.kept.items ≡ map (carried (problem_of l.problem)) (take l.id (lemma_states_in l.old))
