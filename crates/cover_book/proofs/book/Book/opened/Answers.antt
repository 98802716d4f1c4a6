-- The book that was made is the one that opens.
use Rattle.std.proofs.Common.{◌≡◌, List, [], ◌∷◌, ◌++◌, map, ap, sym, ◌∙◌, subst, None}
use Rattle.poly_graph.specs.Problem.{first_crossed}
use Rattle.poly_graph.specs.ProblemViews.{problem_of, IsWhole}
use Rattle.cover_model.specs.State.{root_state}
use Rattle.cover_book.specs.Model.{LearnedLemma, NodeModel, first_node}
use Rattle.cover_book.specs.Views.{node_of, learned_of}
use Rattle.cover_book.specs.Keeps.{IsBook}
use Rattle.cover_book.proofs.Opens.{opens_as_book}
use Rattle.cover_book.proofs.book.Book.opened.Goals as goal

pub invariant_of-result : goal.invariant_of-result
invariant_of-result c =
    let nodes : map node_of c.push.new.self.items ≡ first_node (first_crossed (problem_of c.args.problem)) (root_state (problem_of c.args.problem)) ∷ [] =
    ap (map node_of) (c.in_ok-push.ensures.items ∙ ap (λ xs. xs ++ (c.in_ok-node.node ∷ [])) c.new-nodes.ensures.items) ∙ ap (λ (x : NodeModel). x ∷ []) c.in_ok-node.ensures in
    let lemmas : map learned_of c.new.result.items ≡ [] = ap (map learned_of) c.new.ensures.items in
    let whole : IsWhole c.args.problem = subst IsWhole c.problem.view_is c.problem.invariant in
    subst (λ (xs : List NodeModel). IsBook (record { problem = c.args.problem; options = c.args.options; root = root_state (problem_of c.args.problem); nodes = xs; kept = c.args.kept.items; lemmas = map learned_of c.new.result.items; branches = 0; point = None })) (sym nodes)
    (subst (λ (ys : List LearnedLemma). IsBook (record {
      problem = c.args.problem;
      options = c.args.options;
      root = root_state (problem_of c.args.problem);
      nodes = first_node (first_crossed (problem_of c.args.problem)) (root_state (problem_of c.args.problem)) ∷ [];
      kept = c.args.kept.items;
      lemmas = ys;
      branches = 0;
      point = None;
    })) (sym lemmas) (opens_as_book c.args.problem c.args.options whole c.args.kept.items c.requires.limits c.requires.kept c.requires.few))
