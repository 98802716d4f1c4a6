-- Marks of nodes, the highest first: the children of marked nodes are marked.
use Rattle.std.proofs.Common.{◌≡◌, ℕ, zero, suc, ◌+◌, ◌<◌, ◌≤◌, ◌⊎◌, inl, inr, List, [], ◌∷◌, length, drop, get_or, set, replicate, Bool, true, false, cond, ◌||◌, ◌&&◌, nat_eq, nat_lt, Option, Some, None, IsTrue, refl, ap, sym, ◌∙◌, subst, arith, eqb→eq, ltb→lt}
use Rattle.std.proofs.lemmas.List.{drop_more}
use Rattle.std.proofs.lemmas.Bool.Decides.{nat_tests}
use Rattle.std.specs.Prelude.{slice_get}
use Rattle.std.specs.Bool.{passes}
use Rattle.dyadic.specs.declared.dy.Dy.{Dy}
use Rattle.dyadic.proofs.Equal.{both_pass, both_true}
use Rattle.cover_line.specs.Line.{Multipliers}
use Rattle.cover_line.specs.Views.{multipliers_of}
use Rattle.poly_graph.specs.Problem.{Problem, atom_at}
use Rattle.poly_graph.specs.Term.{Node, constant_node, variable_node, negate_node, add_node, multiply_node, square_node, comes_after, in_order, has_child}
use Rattle.poly_graph.proofs.Graphs.{in_order_at}
use Rattle.square_model.specs.Positive.{with_children, marked_below, root_marks, expanded_nodes}
use Rattle.squares.specs.Expanding.{IsClosed}
use Rattle.squares.specs.Marks.{visited}
use Rattle.squares.proofs.Advancing.{child_before, either_passes}
use Rattle.squares.proofs.Unfolding.{is_itself, first_of, second_of}

abbrev pub IsMarked : List Bool → ℕ → Type 0
IsMarked marks k = get_or marks k false ≡ true

-- ---- one mark more

pub set_length : (marks : List Bool) (j : ℕ) → length (set marks j true) ≡ length marks
set_length [] j = refl
set_length (m ∷ marks) zero = refl
set_length (m ∷ marks) (suc j) = ap suc (set_length marks j)

set-here : (marks : List Bool) (j : ℕ) → j < length marks → IsMarked (set marks j true) j
set-here [] j l = absurd (omega (arith, l))
set-here (m ∷ marks) zero l = refl
set-here (m ∷ marks) (suc j) l = set-here marks j (omega (arith, l))

set-stays : (marks : List Bool) (j k : ℕ) → IsMarked marks k → IsMarked (set marks j true) k
set-stays [] j k h = h
set-stays (m ∷ marks) zero zero h = refl
set-stays (m ∷ marks) zero (suc k) h = h
set-stays (m ∷ marks) (suc j) zero h = h
set-stays (m ∷ marks) (suc j) (suc k) h = set-stays marks j k h

set-apart : (marks : List Bool) (j k : ℕ) → j < k → get_or (set marks j true) k false ≡ get_or marks k false
set-apart [] j k l = refl
set-apart (m ∷ marks) zero zero l = absurd (omega (arith, l))
set-apart (m ∷ marks) zero (suc k) l = refl
set-apart (m ∷ marks) (suc j) zero l = absurd (omega (arith, l))
set-apart (m ∷ marks) (suc j) (suc k) l = set-apart marks j k (omega (arith, l))

-- ---- the children of a node

children-length : (o : Option Node) (marks : List Bool) → length (with_children o marks) ≡ length marks
children-length None marks = refl
children-length (Some (constant_node q)) marks = refl
children-length (Some (variable_node axis)) marks = refl
children-length (Some (negate_node a)) marks = set_length marks a
children-length (Some (add_node a b)) marks = set_length (set marks a true) b ∙ set_length marks a
children-length (Some (multiply_node a b)) marks = set_length (set marks a true) b ∙ set_length marks a
children-length (Some (square_node a)) marks = set_length marks a

children-stay : (o : Option Node) (marks : List Bool) (k : ℕ) → IsMarked marks k → IsMarked (with_children o marks) k
children-stay None marks k h = h
children-stay (Some (constant_node q)) marks k h = h
children-stay (Some (variable_node axis)) marks k h = h
children-stay (Some (negate_node a)) marks k h = set-stays marks a k h
children-stay (Some (add_node a b)) marks k h = set-stays (set marks a true) b k (set-stays marks a k h)
children-stay (Some (multiply_node a b)) marks k h = set-stays (set marks a true) b k (set-stays marks a k h)
children-stay (Some (square_node a)) marks k h = set-stays marks a k h

children-apart : (node : Node) (marks : List Bool) (k : ℕ) → ((i : ℕ) → has_child i node ≡ true → i < k) → get_or (with_children (Some node) marks) k false ≡ get_or marks k false
children-apart (constant_node q) marks k f = refl
children-apart (variable_node axis) marks k f = refl
children-apart (negate_node a) marks k f = set-apart marks a k (f a (is_itself a))
children-apart (add_node a b) marks k f = set-apart (set marks a true) b k (f b (second_of a b)) ∙ set-apart marks a k (f a (first_of a b))
children-apart (multiply_node a b) marks k f = set-apart (set marks a true) b k (f b (second_of a b)) ∙ set-apart marks a k (f a (first_of a b))
children-apart (square_node a) marks k f = set-apart marks a k (f a (is_itself a))

one-here : (marks : List Bool) (a i : ℕ) → nat_eq a i ≡ true → i < length marks → IsMarked (set marks a true) i
one-here marks a i h l = subst (λ (j : ℕ). IsMarked (set marks j true) i) (sym (eqb→eq a i (passes _ h))) (set-here marks i l)

both-here : (marks : List Bool) (a b i : ℕ) → (nat_eq a i || nat_eq b i) ≡ true → i < length marks → IsMarked (set (set marks a true) b true) i
both-here marks a b i h l = elim (either_passes (nat_eq a i) (nat_eq b i) h) [
  | inl e ↦ set-stays (set marks a true) b i (one-here marks a i e l)
  | inr e ↦ one-here (set marks a true) b i e (subst (λ (n : ℕ). i < n) (sym (set_length marks a)) l)
]

children-here : (node : Node) (marks : List Bool) (i : ℕ) → has_child i node ≡ true → i < length marks → IsMarked (with_children (Some node) marks) i
children-here (constant_node q) marks i h l = cc
children-here (variable_node axis) marks i h l = cc
children-here (negate_node a) marks i h l = one-here marks a i h l
children-here (add_node a b) marks i h l = both-here marks a b i h l
children-here (multiply_node a b) marks i h l = both-here marks a b i h l
children-here (square_node a) marks i h l = one-here marks a i h l

-- ---- a node after which another comes

lt-later : (a n k : ℕ) → n ≤ k → IsTrue (nat_lt a n) → IsTrue (nat_lt a k)
lt-later a n k l h = let e = ltb→lt a n (passes _ h) in grind (arith, nat_tests, l, e)

both-later : (a b n k : ℕ) → n ≤ k → IsTrue (nat_lt a n && nat_lt b n) → IsTrue (nat_lt a k && nat_lt b k)
both-later a b n k l h = let p = both_true (nat_lt a n) (nat_lt b n) h in
    both_pass (nat_lt a k) (nat_lt b k) (lt-later a n k l p.0) (lt-later b n k l p.1)

pub comes_later : (n k : ℕ) (node : Node) → n ≤ k → IsTrue (comes_after n node) → IsTrue (comes_after k node)
comes_later n k (constant_node q) l h = h
comes_later n k (variable_node axis) l h = h
comes_later n k (negate_node a) l h = lt-later a n k l h
comes_later n k (add_node a b) l h = both-later a b n k l h
comes_later n k (multiply_node a b) l h = both-later a b n k l h
comes_later n k (square_node a) l h = lt-later a n k l h

-- ---- a visit

visit-length : (t : Bool) (o : Option Node) (marks : List Bool) → length (cond t (with_children o marks) marks) ≡ length marks
visit-length true o marks = children-length o marks
visit-length false o marks = refl

pub visited_length : (nodes : List Node) (n : ℕ) (marks : List Bool) → length (visited nodes n marks) ≡ length marks
visited_length nodes n marks = visit-length (get_or marks n false) (slice_get nodes n) marks

visit-stays : (t : Bool) (o : Option Node) (marks : List Bool) (k : ℕ) → IsMarked marks k → IsMarked (cond t (with_children o marks) marks) k
visit-stays true o marks k h = children-stay o marks k h
visit-stays false o marks k h = h

visited-stays : (nodes : List Node) (n : ℕ) (marks : List Bool) (k : ℕ) → IsMarked marks k → IsMarked (visited nodes n marks) k
visited-stays nodes n marks k h = visit-stays (get_or marks n false) (slice_get nodes n) marks k h

marked-length : (nodes : List Node) (n : ℕ) (marks : List Bool) → length (marked_below nodes n marks) ≡ length marks
marked-length nodes zero marks = refl
marked-length nodes (suc n) marks = marked-length nodes n (visited nodes n marks) ∙ visited_length nodes n marks

marked-stays : (nodes : List Node) (n : ℕ) (marks : List Bool) (k : ℕ) → IsMarked marks k → IsMarked (marked_below nodes n marks) k
marked-stays nodes zero marks k h = h
marked-stays nodes (suc n) marks k h = marked-stays nodes n (visited nodes n marks) k (visited-stays nodes n marks k h)

module _ (nodes : List Node) (ordered : IsTrue (in_order 0 nodes)) where
  -- children come before their node
  before : (n : ℕ) (node : Node) → slice_get nodes n ≡ Some node → (i : ℕ) → has_child i node ≡ true → i < n
  before n node e i h = let zero-on : 0 + n ≡ n = omega arith in
      child_before n node (subst (λ (j : ℕ). IsTrue (comes_after j node)) zero-on (in_order_at 0 nodes ordered n node e).0) i h

  visit-apart : (t : Bool) (n : ℕ) (o : Option Node) → slice_get nodes n ≡ o → (marks : List Bool) (k : ℕ) → n ≤ k → get_or (cond t (with_children o marks) marks) k false ≡ get_or marks k false
  visit-apart true n None e marks k l = refl
  visit-apart true n (Some node) e marks k l = children-apart node marks k (λ i h. let b = before n node e i h in omega (arith, b, l))
  visit-apart false n o e marks k l = refl

  visited-apart : (n : ℕ) (marks : List Bool) (k : ℕ) → n ≤ k → get_or (visited nodes n marks) k false ≡ get_or marks k false
  visited-apart n marks k l = visit-apart (get_or marks n false) n (slice_get nodes n) refl marks k l

  marked-apart : (n : ℕ) (marks : List Bool) (k : ℕ) → n ≤ k → get_or (marked_below nodes n marks) k false ≡ get_or marks k false
  marked-apart zero marks k l = refl
  marked-apart (suc n) marks k l = marked-apart n (visited nodes n marks) k (omega (arith, l)) ∙ visited-apart n marks k (omega (arith, l))

  -- where node n is marked, its children are after its visit
  visited-here : (n : ℕ) (marks : List Bool) (node : Node) → slice_get nodes n ≡ Some node → IsMarked marks n → (i : ℕ) → has_child i node ≡ true → i < length marks → IsMarked (visited nodes n marks) i
  visited-here n marks node e h i g l = (λ t. get_or (cond (h t) (with_children (e t) marks) marks) i false) ∙ children-here node marks i g l

  either-is : (k n : ℕ) → k < suc n → (k ≡ n) ⊎ (k < n)
  either-is k n l = grind (arith, l)

  closed-below : (n : ℕ) (marks : List Bool) → n ≤ length marks → (k : ℕ) → k < n → (node : Node) → slice_get nodes k ≡ Some node → IsMarked (marked_below nodes n marks) k →
      (i : ℕ) → has_child i node ≡ true → IsMarked (marked_below nodes n marks) i
  closed-below zero marks l k below node e h i g = absurd (omega (arith, below))
  closed-below (suc n) marks l k below node e h i g = elim (either-is k n below) [
    | inl q ↦
        let at-n : slice_get nodes n ≡ Some node = ap (slice_get nodes) (sym q) ∙ e in
        let marked : IsMarked marks n = sym (visited-apart n marks n (omega arith)) ∙ sym (marked-apart n (visited nodes n marks) n (omega arith)) ∙ h-at q in
        marked-stays nodes n (visited nodes n marks) i (visited-here n marks node at-n marked i g (omega (arith, l, before n node at-n i g)))
    | inr q ↦ closed-below n (visited nodes n marks) (omega (arith, l, visited_length nodes n marks)) k q node e h i g
  ]
    where
      h-at : k ≡ n → get_or (marked_below nodes n (visited nodes n marks)) n false ≡ true
      h-at q = ap (λ (j : ℕ). get_or (marked_below nodes n (visited nodes n marks)) j false) (sym q) ∙ h

  below-end : (ns : List Node) (k : ℕ) (node : Node) → slice_get ns k ≡ Some node → k < length ns
  below-end [] k node e = cc
  below-end (n ∷ ns) zero node e = omega arith
  below-end (n ∷ ns) (suc k) node e = let h = below-end ns k node e in omega (arith, h)

  pub marked_closed : (marks : List Bool) → length marks ≡ length nodes → IsClosed nodes (marked_below nodes (length nodes) marks)
  marked_closed marks c k node e h i g = closed-below (length nodes) marks (omega (arith, c)) k (below-end nodes k node e) node e h i g

-- ---- roots

pub root_marks_length : (p : Problem) (ms : Multipliers) → length (root_marks p ms) ≡ length p.nodes
root_marks_length p [] = replicated (length p.nodes)
  where
    replicated : (n : ℕ) → length (replicate n false) ≡ n
    replicated zero = refl
    replicated (suc n) = ap suc (replicated n)
root_marks_length p ((j, l) ∷ rest) = set_length (root_marks p rest) (atom_at p j).0 ∙ root_marks_length p rest

pub marks_length : (p : Problem) (ms : Multipliers) → length (expanded_nodes p ms) ≡ length p.nodes
marks_length p ms = marked-length p.nodes (length p.nodes) (root_marks p ms) ∙ root_marks_length p ms

root-marked : (p : Problem) (xs : List (ℕ × Dy)) (k : ℕ) (d : ℕ × Dy) → k < length xs → (atom_at p (get_or xs k d).0).0 < length p.nodes → IsMarked (root_marks p (multipliers_of xs)) (atom_at p (get_or xs k d).0).0
root-marked p [] k d l h = absurd (omega (arith, l))
root-marked p (x ∷ xs) zero d l h = set-here (root_marks p (multipliers_of xs)) (atom_at p x.0).0 (omega (arith, h, root_marks_length p (multipliers_of xs)))
root-marked p (x ∷ xs) (suc k) d l h = set-stays (root_marks p (multipliers_of xs)) (atom_at p x.0).0 (atom_at p (get_or xs k d).0).0 (root-marked p xs k d (omega (arith, l)) h)

pub root_expanded : (p : Problem) (xs : List (ℕ × Dy)) (k : ℕ) (d : ℕ × Dy) → k < length xs → (atom_at p (get_or xs k d).0).0 < length p.nodes → IsMarked (expanded_nodes p (multipliers_of xs)) (atom_at p (get_or xs k d).0).0
root_expanded p xs k d l h = marked-stays p.nodes (length p.nodes) (root_marks p (multipliers_of xs)) (atom_at p (get_or xs k d).0).0 (root-marked p xs k d l h)

-- with the root before them
pub roots_more : (p : Problem) (xs : List (ℕ × Dy)) (k : ℕ) (d : ℕ × Dy) → k < length xs → root_marks p (multipliers_of (drop k xs)) ≡ set (root_marks p (multipliers_of (drop (k + 1) xs))) (atom_at p (get_or xs k d).0).0 true
roots_more p xs k d l = ap (λ (ys : List (ℕ × Dy)). root_marks p (multipliers_of ys)) (drop_more xs k d l)

pub roots_next : (p : Problem) (xs : List (ℕ × Dy)) (k n : ℕ) (x : ℕ × Dy) (root : ℕ) (marks : List Bool) → k < length xs → x ≡ get_or xs k x → k + 1 ≡ n → root ≡ (atom_at p x.0).0 →
    marks ≡ root_marks p (multipliers_of (drop n xs)) → set marks root true ≡ root_marks p (multipliers_of (drop k xs))
roots_next p xs k n x root marks l e f g h =
    ap (λ (i : ℕ). set marks i true) (g ∙ ap (λ (y : ℕ × Dy). (atom_at p y.0).0) e)
    ∙ ap (λ (ms : List Bool). set ms (atom_at p (get_or xs k x).0).0 true) (h ∙ ap (λ (m : ℕ). root_marks p (multipliers_of (drop m xs))) (sym f))
    ∙ sym (roots_more p xs k x l)
