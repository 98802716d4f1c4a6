-- The first stuck state of a tree, on the walk over its nodes, and of a book's tree.
use Rattle.std.proofs.Common.{◌≡◌, inl, inr, ℕ, ◌+◌, ◌≤◌, List, [], ◌∷◌, ◌++◌, Bool, true, false, cond, ◌||◌, not, true≢false, length, Option, Some, None, refl, ap, sym, ◌∙◌, subst, arith}
use Rattle.std.specs.Prelude.{slice_get, IfSome, MatchOption}
use Rattle.std.specs.List.{list_any}
use Rattle.std.proofs.lemmas.Option.{slice_get_within}
use Rattle.poly_graph.specs.Problem.{Problem}
use Rattle.interval_model.specs.Space.{Space}
use Rattle.cover_model.specs.State.{State, Loosenings}
use Rattle.cover_model.specs.Rules.{Line, open_line, stuck, one, when, pulled, can_narrow, narrowed_to, can_mark, marked, rule, narrow_by, end_by, mark_by, branch_by, stay_by, open_state, stuck_atom}
use Rattle.cover_model.specs.Derivation.{Tree}
use Rattle.cover_data.specs.Runs.{is_closing, children, IsEnding}
use Rattle.cert_model.specs.Due.{Standing}
use Rattle.cert_model.specs.AnswerText.{is_open, has_open}
use Rattle.cover_book.specs.Model.{NodeModel, live_node, crossed_node, closed_node, parted_node, stuck_node, BookModel, problem_in, margins_of, loosenings_in, lemma_states_in}
use Rattle.cover_book.specs.Verdict.{is_stuck, has_stuck}
use Rattle.cover_book.specs.Tree.{TreeOf}
use Rattle.cover_book.specs.Keeps.{IsBook, IsCovered, IsCrossed, HasRun}
use Rattle.cover_book.specs.Laws.{IsTreeOfBook}
use Rattle.cover_book.proofs.Lists.{some_at}
use Rattle.cover_book.proofs.Meaning.{book_has_tree}
use Rattle.cert_text.specs.Parts.{node_left, kids, HasNothingNext, IsNextTaken}
use Rattle.cert_text.specs.Stuck.{is_stuck_line, first_stuck, stuck_at, IsFirstStuckState, HasNoStuckState, IsFirstStuck}
use Rattle.cert_text.proofs.Counted.{few_numbers}
use Rattle.cert_text.proofs.Forest.{Trace, Waits, begun, walked, none_next, all_taken}
use Rattle.cert_text.proofs.Leftovers.{passing_any, any_alike, leaves, told, covered, left_tells_of_nodes}

pub option_weaker : {A : Type 0} (o : Option A) {P P' : Type 0} {Q Q' : A → Type 0} → (P → P') → ((x : A) → Q x → Q' x) → MatchOption o P Q → MatchOption o P' Q'
option_weaker None f g h = f h
option_weaker (Some x) f g h = g x h

-- ---- the first of two lists behind each other

stuck-behind : (xs ys : List Standing) → first_stuck xs ≡ None → first_stuck (xs ++ ys) ≡ first_stuck ys
stuck-behind [] ys h = refl
stuck-behind (x ∷ xs) ys h = by-line (is_stuck_line x.does) h (stuck-behind xs ys) where
  by-line : (t : Bool) → cond t (Some x) (first_stuck xs) ≡ None → (first_stuck xs ≡ None → first_stuck (xs ++ ys) ≡ first_stuck ys) → cond t (Some x) (first_stuck (xs ++ ys)) ≡ first_stuck ys
  by-line true h k = cc
  by-line false h k = k h

-- ---- the walk

abbrev left_trace : Trace Standing
left_trace = record {
  of_tree = λ t xs. xs;
  own = node_left;
  at_live = λ S. refl;
  at_closed = λ steps l. refl;
  at_stuck = λ steps l S. refl;
  at_parted = λ steps l c t u xs ys. refl;
}

-- no state of the nodes that were taken is stuck, and what the nodes that wait leave is to come
pub record Searched (nodes : List NodeModel) (stack : List ℕ) (i : ℕ) (left : List Standing) : Type 0 where
  pub done : List Standing
  pub none : first_stuck done ≡ None
  pub waits : Waits Standing left_trace nodes stack i left done

module _ (nodes : List NodeModel) where
  pub first_searched : (t : Tree) (ns : List ℕ) (xs : List Standing) → TreeOf nodes 0 t ns xs → length ns ≤ length nodes → Searched nodes (0 ∷ []) 0 xs
  first_searched t ns xs w h = record { done = []; none = refl; waits = begun Standing left_trace nodes t ns xs w h }

  pub nothing_searched : (stack : List ℕ) (i : ℕ) (xs : List Standing) → Searched nodes stack i xs → HasNothingNext nodes stack → first_stuck xs ≡ None
  nothing_searched stack i xs p h = ap first_stuck (none_next Standing left_trace nodes stack i xs p.done p.waits h) ∙ p.none

  pub all_searched : (stack : List ℕ) (i : ℕ) (xs : List Standing) → Searched nodes stack i xs → length nodes ≤ i → first_stuck xs ≡ None
  all_searched stack i xs p h = ap first_stuck (all_taken Standing left_trace nodes stack i xs p.done p.waits h) ∙ p.none

  pub node_searched : (stack stack' stack'' : List ℕ) (i i' : ℕ) (xs : List Standing) (x : NodeModel) → Searched nodes stack i xs → IsNextTaken nodes stack stack' x → first_stuck (node_left x) ≡ None →
      stack'' ≡ stack' ++ kids x → i' ≡ i + 1 → Searched nodes stack'' i' xs
  node_searched stack stack' stack'' i i' xs x p n e f g = record {
    done = p.done ++ node_left x;
    none = stuck-behind p.done (node_left x) p.none ∙ e;
    waits = walked Standing left_trace nodes stack stack' stack'' n.number i i' xs p.done x p.waits n.last n.there f g;
  }

  pub stuck_reached : (stack stack' : List ℕ) (i : ℕ) (xs : List Standing) (steps : List Line) (j : ℕ) (S : State) → Searched nodes stack i xs → IsNextTaken nodes stack stack' (stuck_node steps (stuck j) S) →
      first_stuck xs ≡ Some (stuck_at j S)
  stuck_reached stack stack' i xs steps j S p n =
      let x : NodeModel = stuck_node steps (stuck j) S in
      let w : Waits Standing left_trace nodes (stack' ++ kids x) (i + 1) xs (p.done ++ node_left x) =
      walked Standing left_trace nodes stack stack' (stack' ++ kids x) n.number i (i + 1) xs p.done x p.waits n.last n.there refl refl in
      ap first_stuck w.parts ∙ ap first_stuck (regroup p.done (node_left x) w.rest) ∙ stuck-behind p.done (node_left x ++ w.rest) p.none
    where
      regroup : (ps qs rs : List Standing) → (ps ++ qs) ++ rs ≡ ps ++ (qs ++ rs)
      regroup [] qs rs = refl
      regroup (y ∷ ps) qs rs = ap (λ (ys : List Standing). y ∷ ys) (regroup ps qs rs)

  pub some_stuck : (stack stack' : List ℕ) (x : NodeModel) (steps : List Line) (l : Line) (S : State) → IsNextTaken nodes stack stack' x → x ≡ stuck_node steps l S → list_any is_stuck nodes ≡ true
  some_stuck stack stack' x steps l S n e = passing_any is_stuck nodes n.number x n.there (ap is_stuck e)

-- ---- the line of a stuck node

no-one : {A : Type 0} (S : State) (t : Bool) → IsEnding (when t (one S)) → A
no-one S true h = elim h [ ]
no-one S false h = elim h [ ]

no-pull : {A : Type 0} (S : State) (t : Bool) (o : Option Space) → IsEnding (cond t (pulled S o) None) → A
no-pull S true (Some space) h = elim h [ ]
no-pull S true None h = elim h [ ]
no-pull S false o h = elim h [ ]

stuck-line : (p : Problem) (s : Loosenings) (lemmas : List State) (S T : State) (l : Line) → IsEnding (rule p s lemmas S l) → is_closing l ≡ false → children l T ≡ None → (l ≡ open_line → ⊥) → is_stuck_line l ≡ true
stuck-line p s lemmas S T (stay_by (stuck_atom j)) h c d o = refl
stuck-line p s lemmas S T (stay_by open_state) h c d o = absurd (o refl)
stuck-line p s lemmas S T (end_by e) h c d o = absurd (true≢false c)
stuck-line p s lemmas S T (branch_by b) h c d o = cc
stuck-line p s lemmas S T (narrow_by n) h c d o = no-pull S (can_narrow p s S n) (narrowed_to p s S n) h
stuck-line p s lemmas S T (mark_by m) h c d o = no-one (marked S m) (can_mark p s lemmas S m) h

run-stuck : (b : BookModel) (S T : State) (steps : List Line) (l : Line) → HasRun (problem_in b) (margins_of b.options) (lemma_states_in b) S steps l → is_closing l ≡ false → children l T ≡ None → is_stuck_line l ≡ true
run-stuck b S T steps l h c d = stuck-line (problem_in b) (loosenings_in b) (lemma_states_in b) h.run.reached T l
    (subst (λ (o : Option Line). IfSome o (λ (x : Line). IsEnding (rule (problem_in b) (loosenings_in b) (lemma_states_in b) h.run.reached x))) h.end (h.is_run.lawful.end (lemma_states_in b) h.known)) c d h.not_open

abbrev is_stuck_standing : Standing → Bool
is_stuck_standing x = is_stuck_line x.does

leaves-stuck : (b : BookModel) (h : IsCovered b) (n : ℕ) (x : NodeModel) → slice_get b.nodes n ≡ Some x → leaves b.nodes is_stuck_standing x ≡ is_stuck x
leaves-stuck b h n (live_node S) e = refl
leaves-stuck b h n (crossed_node i) e = refl
leaves-stuck b h n (closed_node steps l) e = refl
leaves-stuck b h n (parted_node steps l c) e = refl
leaves-stuck b h n (stuck_node steps l S) e =
    let f = some_at h.firsts n (omega (arith, h.count, slice_get_within b.nodes n (stuck_node steps l S) e)) in
    let k = h.each n f.0 (stuck_node steps l S) f.1 e in
    ap (λ (t : Bool). t || false) (run-stuck b f.0 S steps l k.0 k.2 k.3)

-- ---- a book's tree

none-any : (xs : List Standing) → first_stuck xs ≡ None → list_any is_stuck_standing xs ≡ false
none-any [] h = refl
none-any (x ∷ xs) h = by-line (is_stuck_line x.does) h (none-any xs) where
  by-line : (t : Bool) → cond t (Some x) (first_stuck xs) ≡ None → (first_stuck xs ≡ None → list_any is_stuck_standing xs ≡ false) → (t || list_any is_stuck_standing xs) ≡ false
  by-line true h k = cc
  by-line false h k = k h

-- each line that is left is open or says that its state is stuck
abbrev is_other : Standing → Bool
is_other x = not (is_open x.does || is_stuck_line x.does)

leaves-other : (b : BookModel) (h : IsCovered b) (n : ℕ) (x : NodeModel) → slice_get b.nodes n ≡ Some x → leaves b.nodes is_other x ≡ false
leaves-other b h n (live_node S) e = refl
leaves-other b h n (crossed_node i) e = refl
leaves-other b h n (closed_node steps l) e = refl
leaves-other b h n (parted_node steps l c) e = refl
leaves-other b h n (stuck_node steps l S) e = other-false (is_open l) (is_stuck_line l) (or-left (is_stuck_line l) (leaves-stuck b h n (stuck_node steps l S) e)) where
  or-left : (t : Bool) → (t || false) ≡ true → t ≡ true
  or-left true h = refl
  or-left false h = h

  other-false : (o t : Bool) → t ≡ true → (not (o || t) || false) ≡ false
  other-false true t q = refl
  other-false false true q = refl
  other-false false false q = absurd (true≢false (sym q))

abbrev never : NodeModel → Bool
never x = false

any-never : (xs : List NodeModel) → list_any never xs ≡ false
any-never [] = refl
any-never (x ∷ xs) = any-never xs

first-ahead : (xs : List Standing) (y : Standing) → first_stuck xs ≡ Some y → has_open xs ≡ false → list_any is_other xs ≡ false → (rest : List Standing) × (xs ≡ y ∷ rest)
first-ahead [] y e h k = cc
first-ahead (x ∷ xs) y e h k = by-line (is_stuck_line x.does) (is_open x.does) e h k where
  by-line : (t o : Bool) → cond t (Some x) (first_stuck xs) ≡ Some y → (o || has_open xs) ≡ false → (not (o || t) || list_any is_other xs) ≡ false → (rest : List Standing) × (x ∷ xs ≡ y ∷ rest)
  by-line true o e h k = (xs, cc)
  by-line false true e h k = absurd (true≢false h)
  by-line false false e h k = absurd (true≢false k)

module _ (b : BookModel) (w : IsBook b) where
  pub found_stuck : (j : ℕ) (S : State) → IsFirstStuckState b.nodes j S → IsFirstStuck b j S
  found_stuck j S f = record {
    some = f.some;
    first = its-first;
    ahead = λ e t left i.
        let h : IsCovered b = covered b w i.not_crossed in
        first-ahead left (stuck_at j S) (its-first t left i) ((left_tells_of_nodes b w t left i).live ∙ e)
        (told b.nodes is_other i.is_tree i.once ∙ any_alike (leaves b.nodes is_other) never b.nodes (leaves-other b h) ∙ any-never b.nodes);
  }
    where
      its-first : (t : Tree) (left : List Standing) → IsTreeOfBook b t left → first_stuck left ≡ Some (stuck_at j S)
      its-first t left i = f.first t i.numbers left i.is_tree (few_numbers b t left i)

  none-crossed : IsCrossed b → has_stuck b ≡ false
  none-crossed c = ap (list_any is_stuck) c.nodes

  none-covered : HasNoStuckState b.nodes → (h : IsCovered b) → ((t : Tree) × (left : List Standing) × IsTreeOfBook b t left) → has_stuck b ≡ false
  none-covered f h x =
      sym (any_alike (leaves b.nodes is_stuck_standing) is_stuck b.nodes (leaves-stuck b h)) ∙ sym (told b.nodes is_stuck_standing x.2.is_tree x.2.once)
      ∙ none-any x.1 (f x.0 x.2.numbers x.1 x.2.is_tree (few_numbers b x.0 x.1 x.2))

  pub found_none : HasNoStuckState b.nodes → has_stuck b ≡ false
  found_none f = elim w.nodes [
    | inl c ↦ none-crossed c
    | inr h ↦ none-covered f h (book_has_tree b w h.not_crossed)
  ]
