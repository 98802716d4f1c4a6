-- The lines of a tree are written on the walk over its nodes.
use Rattle.std.proofs.Common.{◌≡◌, ℕ, ◌+◌, ◌≤◌, List, [], ◌∷◌, ◌++◌, length, append_assoc, refl, ap, sym, ◌∙◌, subst}
use Rattle.cover_model.specs.Rules.{Line, open_line}
use Rattle.cover_model.specs.Derivation.{Tree, fork, leaf, tree_lines}
use Rattle.cert_read.specs.CertLine.{CertLine}
use Rattle.cert_model.specs.Due.{Standing}
use Rattle.cert_model.specs.Written.{rule_lines}
use Rattle.cover_book.specs.Model.{NodeModel, live_node, crossed_node, closed_node, parted_node, stuck_node}
use Rattle.cover_book.specs.Tree.{TreeOf}
use Rattle.cover_book.proofs.Changed.{lines_after}
use Rattle.cert_text.specs.Lines.{HasAppended}
use Rattle.cert_text.specs.Parts.{node_lines, kids, HasNothingNext, IsNextTaken}
use Rattle.cert_text.proofs.Spelling.{rules_append, nothing_appended, both_appended}
use Rattle.cert_text.proofs.Forest.{Trace, Waits, begun, walked, none_next, all_taken}

-- ---- lines

abbrev own_lines : NodeModel → List Line
own_lines (live_node S) = open_line ∷ []
own_lines (crossed_node i) = []
own_lines (closed_node steps l) = steps ++ (l ∷ [])
own_lines (parted_node steps l c) = steps ++ (l ∷ [])
own_lines (stuck_node steps l S) = steps ++ (l ∷ [])

own-rules : (x : NodeModel) → rule_lines (own_lines x) ≡ node_lines x
own-rules (live_node S) = refl
own-rules (crossed_node i) = refl
own-rules (closed_node steps l) = refl
own-rules (parted_node steps l c) = refl
own-rules (stuck_node steps l S) = refl

abbrev line_trace : Trace Line
line_trace = record {
  of_tree = λ t xs. tree_lines t;
  own = own_lines;
  at_live = λ S. refl;
  at_closed = λ steps l. lines_after steps (leaf l);
  at_stuck = λ steps l S. lines_after steps (leaf l);
  at_parted = λ steps l c t u xs ys. lines_after steps (fork l t u) ∙ sym (append_assoc steps (l ∷ []) (tree_lines t ++ tree_lines u));
}

-- ---- the walk

-- some lines of the tree were written, and those of the nodes that wait are to come
pub record Progress (nodes : List NodeModel) (old new : List ℕ) (stack : List ℕ) (i : ℕ) (t : Tree) : Type 0 where
  pub done : List Line
  pub appended : HasAppended old (rule_lines done) new
  pub waits : Waits Line line_trace nodes stack i (tree_lines t) done

module _ (nodes : List NodeModel) (old : List ℕ) where
  pub first_waits : (t : Tree) (ns : List ℕ) (xs : List Standing) → TreeOf nodes 0 t ns xs → length ns ≤ length nodes → Progress nodes old old (0 ∷ []) 0 t
  first_waits t ns xs w h = record { done = []; appended = nothing_appended old; waits = begun Line line_trace nodes t ns xs w h }

  whole-appended : (new : List ℕ) (t : Tree) (done : List Line) → HasAppended old (rule_lines done) new → tree_lines t ≡ done → HasAppended old (rule_lines (tree_lines t)) new
  whole-appended new t done a e = subst (λ (ls : List Line). HasAppended old (rule_lines ls) new) (sym e) a

  pub nothing_waits : (new : List ℕ) (stack : List ℕ) (i : ℕ) (t : Tree) → Progress nodes old new stack i t → HasNothingNext nodes stack → HasAppended old (rule_lines (tree_lines t)) new
  nothing_waits new stack i t p h = whole-appended new t p.done p.appended (none_next Line line_trace nodes stack i (tree_lines t) p.done p.waits h)

  pub all_written : (new : List ℕ) (stack : List ℕ) (i : ℕ) (t : Tree) → Progress nodes old new stack i t → length nodes ≤ i → HasAppended old (rule_lines (tree_lines t)) new
  all_written new stack i t p h = whole-appended new t p.done p.appended (all_taken Line line_trace nodes stack i (tree_lines t) p.done p.waits h)

  pub node_written : (new new' : List ℕ) (stack stack' stack'' : List ℕ) (i i' : ℕ) (t : Tree) (x : NodeModel) → Progress nodes old new stack i t → IsNextTaken nodes stack stack' x →
      HasAppended new (node_lines x) new' → stack'' ≡ stack' ++ kids x → i' ≡ i + 1 → Progress nodes old new' stack'' i' t
  node_written new new' stack stack' stack'' i i' t x p n a f g = record {
    done = p.done ++ own_lines x;
    appended = subst (λ (ls : List CertLine). HasAppended old ls new') (ap (λ (ls : List CertLine). rule_lines p.done ++ ls) (sym (own-rules x)) ∙ sym (rules_append p.done (own_lines x)))
        (both_appended old new new' (rule_lines p.done) (node_lines x) p.appended a);
    waits = walked Line line_trace nodes stack stack' stack'' n.number i i' (tree_lines t) p.done x p.waits n.last n.there f g;
  }
