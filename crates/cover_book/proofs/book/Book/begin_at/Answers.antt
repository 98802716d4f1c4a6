-- The book that was made is the one that opens in this state.
use Rattle.std.proofs.Common.{◌≡◌, List, [], ◌∷◌, map, ap, sym, subst, None}
use Rattle.poly_graph.specs.ProblemViews.{IsWhole}
use Rattle.cover_model.specs.State.{State}
use Rattle.cover_book.specs.Model.{LearnedLemma, NodeModel, live_node}
use Rattle.cover_book.specs.Views.{learned_of, node_of}
use Rattle.cover_book.specs.Keeps.{IsBook}
use Rattle.cover_book.proofs.Opens.{opens_in_state}
use Rattle.cover_book.proofs.book.Book.begin_at.Goals as goal

pub invariant_of-result : goal.invariant_of-result
invariant_of-result c =
    let p = c.args.problem in let o = c.args.options in let kept = c.args.kept.items in let S = c.args.root in
    let made : State → List NodeModel → List LearnedLemma → Type 0 =
    λ T xs ys. IsBook (record { problem = p; options = o; root = T; nodes = xs; kept = kept; lemmas = ys; branches = 0; point = None }) in
    let whole : IsWhole p = subst IsWhole c.problem.view_is c.problem.invariant in
    let lemmas : map learned_of c.new.result.items ≡ [] = ap (map learned_of) c.new.ensures.items in
    let at = c.in_ok-first.ensures in
    subst (λ T. made T (map node_of c.in_ok-first.nodes.items) (map learned_of c.new.result.items)) (sym at.root)
    (subst (λ xs. made S xs (map learned_of c.new.result.items)) (sym at.nodes)
    (subst (made S (live_node S ∷ [])) (sym lemmas)
    (opens_in_state p o whole kept c.requires.limits c.requires.kept c.requires.few S c.requires.root c.requires.within c.requires.not_crossed)))
