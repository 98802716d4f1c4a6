-- What a step of the walk leaves.
use Rattle.std.proofs.Common.{◌≡◌, ◌<◌, ◌≤◌, ℕ, ◌+◌, List, [], ◌∷◌, ◌++◌, length, get_or, drop, suc, true, false, refl, ap, sym, ◌∙◌, subst, arith, append_assoc}
use Rattle.std.specs.Prelude.{slice_index_or}
use Rattle.std.proofs.Math.Seq.{drop-cons, drop-length}
use Rattle.std.proofs.lemmas.List.{append-nil}
use Rattle.script_roots.specs.Tree.{Tree, atomic, applied, root, quotient, formless, trees_of}
use Rattle.script_roots.proofs.Table.{all_join, all_split, all_weaken}
use Rattle.script_roots.specs.Ranges.{Ranges}
use Rattle.script_roots.specs.Fresh.{fresh_in, all_fresh, once}
use Rattle.root_rewriting.specs.Nodes.{AreBelow, IsBelow, node_tree, parts_at, tree_at, trees_in}
use Rattle.root_rewriting.specs.declared.unfold.trees.Node.{Node}
use Rattle.root_rewriting.specs.declared.unfold.trees.Node.TheVariants as nodes
use Rattle.root_rewriting.specs.Found.{AllHave, AreOwn, IsFound, IsSized, inner_in, own_in}
use Rattle.root_rewriting.specs.Walk.{AllCanBeDone, AreWorks, CanBeDone, Walks, enters, found_after, found_by, node_parts, place_in, steps_in, steps_in_all, weight, work_weight}
use Rattle.root_rewriting.specs.declared.walk.Work.{Work}
use Rattle.root_rewriting.specs.declared.walk.Work.TheVariants.{Enter, Leave}
use Rattle.root_rewriting.specs.declared.found.Found.{Found}
use Rattle.root_rewriting.specs.declared.found.Source.{Source}
use Rattle.root_rewriting.proofs.Once.{once_has, once_join, once_known, once_split}

module _ (ranges : Ranges) (ts : List Tree) where
  pub after_join : (xs ys : List Work) (seen : List Tree) → found_after ranges ts (xs ++ ys) seen ≡ found_after ranges ts xs (found_after ranges ts ys seen)
  after_join [] ys seen = refl
  after_join (w ∷ xs) ys seen = ap (found_by ranges ts w) (after_join xs ys seen)

  pub done_join : (xs ys : List Work) (seen : List Tree) → AllCanBeDone ranges ts xs (found_after ranges ts ys seen) → AllCanBeDone ranges ts ys seen → AllCanBeDone ranges ts (xs ++ ys) seen
  done_join [] ys seen h k = k
  done_join (w ∷ xs) ys seen h k = (subst (λ us. CanBeDone ranges ts w us) (sym (after_join xs ys seen)) h.0, done_join xs ys seen h.1 k)

  pub done_split : (xs ys : List Work) (seen : List Tree) → AllCanBeDone ranges ts (xs ++ ys) seen → AllCanBeDone ranges ts xs (found_after ranges ts ys seen) × AllCanBeDone ranges ts ys seen
  done_split [] ys seen h = (tt, h)
  done_split (w ∷ xs) ys seen h =
      let k = done_split xs ys seen h.1 in ((subst (λ us. CanBeDone ranges ts w us) (after_join xs ys seen) h.0, k.0), k.1)

  -- those of trees, one after the other
  abbrev pub fresh_at : List Tree → List Tree
  fresh_at [] = []
  fresh_at (t ∷ us) = fresh_in ranges t ++ fresh_at us

  all-fresh-at : (us : List Tree) → all_fresh ranges (trees_of us) ≡ fresh_at us
  all-fresh-at [] = refl
  all-fresh-at (t ∷ us) = ap (λ vs. fresh_in ranges t ++ vs) (all-fresh-at us)

  -- in the parts of a node
  inner_parts : (node : Node) → inner_in ranges (node_tree ts node) ≡ fresh_at (parts_at ts (node_parts node))
  inner_parts (nodes.Atomic at a) = refl
  inner_parts (nodes.Applied at name ks) = all-fresh-at (parts_at ts ks.items)
  inner_parts (nodes.Root at k) = sym (append-nil (fresh_in ranges (tree_at ts k)))
  inner_parts (nodes.Quotient at k d) = ap (λ us. fresh_in ranges (tree_at ts k) ++ us) (sym (append-nil (fresh_in ranges (tree_at ts d))))
  inner_parts (nodes.Formless at) = refl

  after_enters : (ks : List ℕ) (seen : List Tree) → found_after ranges ts (enters ks) seen ≡ once seen (fresh_at (parts_at ts ks))
  after_enters [] seen = refl
  after_enters (k ∷ ks) seen =
      after_join (enters ks) (Enter k ∷ []) seen ∙ after_enters ks (once seen (fresh_in ranges (tree_at ts k))) ∙
      sym (once_join seen (fresh_in ranges (tree_at ts k)) (fresh_at (parts_at ts ks)))

  done_enters : (ks : List ℕ) (seen : List Tree) → AllCanBeDone ranges ts (enters ks) seen
  done_enters [] seen = tt
  done_enters (k ∷ ks) seen = done_join (enters ks) (Enter k ∷ []) seen (done_enters ks (once seen (fresh_in ranges (tree_at ts k)))) (tt, tt)

  -- a tree is entered: its parts are done, and then it is left
  module _ (stack : List Work) (at : ℕ) (node : Node) (is : tree_at ts at ≡ node_tree ts node) (seen end : List Tree) where
    abbrev Inner : List Tree
    Inner = once seen (inner_in ranges (tree_at ts at))

    abbrev More : List Work
    More = (stack ++ (Leave at ∷ [])) ++ enters (node_parts node)

    parts-done : found_after ranges ts (enters (node_parts node)) seen ≡ Inner
    parts-done = after_enters (node_parts node) seen ∙ ap (once seen) (sym (ap (inner_in ranges) is ∙ inner_parts node))

    own-done : once Inner (own_in ranges (tree_at ts at)) ≡ once seen (fresh_in ranges (tree_at ts at))
    own-done = sym (once_split ranges (tree_at ts at) seen)

    pub entered_ends : found_after ranges ts (stack ++ (Enter at ∷ [])) seen ≡ end → found_after ranges ts More seen ≡ end
    entered_ends h =
        after_join (stack ++ (Leave at ∷ [])) (enters (node_parts node)) seen ∙ ap (found_after ranges ts (stack ++ (Leave at ∷ []))) parts-done ∙
        after_join stack (Leave at ∷ []) Inner ∙ ap (found_after ranges ts stack) own-done ∙ sym (after_join stack (Enter at ∷ []) seen) ∙ h

    pub entered_done : AllCanBeDone ranges ts (stack ++ (Enter at ∷ [])) seen → AllCanBeDone ranges ts More seen
    entered_done h =
        let below = (done_split stack (Enter at ∷ []) seen h).0 in
        let left : AllCanBeDone ranges ts (stack ++ (Leave at ∷ [])) Inner =
        done_join stack (Leave at ∷ []) Inner (subst (λ us. AllCanBeDone ranges ts stack us) (sym own-done) below) (once_has seen (inner_in ranges (tree_at ts at)), tt) in
        done_join (stack ++ (Leave at ∷ [])) (enters (node_parts node)) seen
        (subst (λ us. AllCanBeDone ranges ts (stack ++ (Leave at ∷ [])) us) (sym parts-done) left) (done_enters (node_parts node) seen)

-- ---- the steps of a walk

module _ (ranges : Ranges) (s : Source) (f : Found) (stack : List Work) (at : ℕ) (end : List Tree) where
  abbrev Ts : List Tree
  Ts = trees_in s.trees.now

  pub walk_entered : (node : Node) (all : List Work) → tree_at Ts at ≡ node_tree Ts node → all ≡ (stack ++ (Leave at ∷ [])) ++ enters (node_parts node) →
      Walks ranges s f (stack ++ (Enter at ∷ [])) end → Walks ranges s f all end
  walk_entered node all is e w = subst (λ us. Walks ranges s f us end) (sym e) (record {
    seen = w.seen;
    found = w.found;
    done = entered_done ranges Ts stack at node is w.seen end w.done;
    ends = entered_ends ranges Ts stack at node is w.seen end w.ends;
  })

  -- a tree whose roots and quotients are found
  pub walk_marked : at < length s.trees.now → slice_index_or f.marked.items at false ≡ true → Walks ranges s f (stack ++ (Enter at ∷ [])) end → Walks ranges s f stack end
  walk_marked h m w =
      let same = once_known w.seen (fresh_in ranges (tree_at Ts at)) (w.found.marked at h m) in
      record {
        seen = w.seen;
        found = w.found;
        done = subst (λ us. AllCanBeDone ranges Ts stack us) same (done_split ranges Ts stack (Enter at ∷ []) w.seen w.done).0;
        ends = ap (found_after ranges Ts stack) (sym same) ∙ sym (after_join ranges Ts stack (Enter at ∷ []) w.seen) ∙ w.ends;
      }

  pub walk_ready : Walks ranges s f (stack ++ (Leave at ∷ [])) end → (seen : List Tree) × IsFound ranges s f seen × AllHave seen (inner_in ranges (tree_at Ts at)) ×
      AllCanBeDone ranges Ts stack (once seen (own_in ranges (tree_at Ts at))) × (found_after ranges Ts stack (once seen (own_in ranges (tree_at Ts at))) ≡ end)
  walk_ready w =
      let k = done_split ranges Ts stack (Leave at ∷ []) w.seen w.done in
      (w.seen, w.found, k.1.0, k.0, sym (after_join ranges Ts stack (Leave at ∷ []) w.seen) ∙ w.ends)

-- ---- places

pub works_join : (n : ℕ) (xs ys : List Work) → AreWorks n xs → AreWorks n ys → AreWorks n (xs ++ ys)
works_join n xs ys h k = all_join (λ w. place_in w < n) xs ys h k

pub works_split : (n : ℕ) (xs ys : List Work) → AreWorks n (xs ++ ys) → AreWorks n xs × AreWorks n ys
works_split n xs ys h = all_split (λ w. place_in w < n) xs ys h

works-enters : (n : ℕ) (ks : List ℕ) → AreBelow n ks → AreWorks n (enters ks)
works-enters n [] h = tt
works-enters n (k ∷ ks) h = works_join n (enters ks) (Enter k ∷ []) (works-enters n ks h.1) (h.0, tt)

parts-below : (n : ℕ) (node : Node) → IsBelow n node → AreBelow n (node_parts node)
parts-below n (nodes.Atomic at a) h = tt
parts-below n (nodes.Applied at name ks) h = h
parts-below n (nodes.Root at k) h = (h, tt)
parts-below n (nodes.Quotient at k d) h = (h.0, (h.1, tt))
parts-below n (nodes.Formless at) h = tt

pub below_more : (m n : ℕ) (ks : List ℕ) → m ≤ n → AreBelow m ks → AreBelow n ks
below_more m n ks le h = all_weaken (λ (k : ℕ). k < m) (λ (k : ℕ). k < n) (λ k lt. omega arith) ks h

pub works_entered : (n : ℕ) (stack all : List Work) (at : ℕ) (node : Node) → all ≡ (stack ++ (Leave at ∷ [])) ++ enters (node_parts node) → IsBelow at node →
    AreWorks n (stack ++ (Enter at ∷ [])) → AreWorks n all
works_entered n stack all at node e below h =
    let k = works_split n stack (Enter at ∷ []) h in
    let lt : at < n = k.1.0 in
    subst (λ us. AreWorks n us) (sym e)
    (works_join n (stack ++ (Leave at ∷ [])) (enters (node_parts node)) (works_join n stack (Leave at ∷ []) k.0 (lt, tt))
    (works-enters n (node_parts node) (below_more at n (node_parts node) (omega arith) (parts-below at node below))))

-- ---- that it ends

module _ (ts : List Tree) where
  weight-join : (xs ys : List Work) → weight ts (xs ++ ys) ≡ weight ts xs + weight ts ys
  weight-join [] ys = omega arith
  weight-join (w ∷ xs) ys = let e = weight-join xs ys in omega arith

  pub weight_end : (xs : List Work) (w : Work) → weight ts (xs ++ (w ∷ [])) ≡ weight ts xs + work_weight ts w
  weight_end xs w = let e = weight-join xs (w ∷ []) in omega arith

  weight-enters : (ks : List ℕ) → weight ts (enters ks) ≡ steps_in_all (trees_of (parts_at ts ks))
  weight-enters [] = refl
  weight-enters (k ∷ ks) = let e = weight_end (enters ks) (Enter k) in let f = weight-enters ks in omega arith

  steps-parts : (node : Node) → steps_in (node_tree ts node) ≡ 2 + steps_in_all (trees_of (parts_at ts (node_parts node)))
  steps-parts (nodes.Atomic at a) = refl
  steps-parts (nodes.Applied at name ks) = refl
  steps-parts (nodes.Root at k) = refl
  steps-parts (nodes.Quotient at k d) = refl
  steps-parts (nodes.Formless at) = refl

  pub steps_some : (t : Tree) → 1 < steps_in t
  steps_some (atomic at l) = omega arith
  steps_some (applied at name us) = omega arith
  steps_some (root at t) = omega arith
  steps_some (quotient at t d) = omega arith
  steps_some (formless at) = omega arith

  pub entered_falls : (stack all : List Work) (at : ℕ) (node : Node) → tree_at ts at ≡ node_tree ts node → all ≡ (stack ++ (Leave at ∷ [])) ++ enters (node_parts node) →
      weight ts all < weight ts (stack ++ (Enter at ∷ []))
  entered_falls stack all at node is e =
      let a = ap (weight ts) e in
      let b = weight-join (stack ++ (Leave at ∷ [])) (enters (node_parts node)) in
      let c = weight_end stack (Leave at) in
      let d = weight-enters (node_parts node) in
      let f = weight_end stack (Enter at) in
      let g = ap steps_in is ∙ steps-parts node in
      omega arith

-- the walk over a tree, as far as it came
pub record InWalk (s : Source) (start : Found) (at : ℕ) (f : Found) (stack : List Work) : Type 0 where
  pub sized : IsSized (length s.trees.now) f
  pub works : AreWorks (length s.trees.now) stack
  pub walks : (ranges : Ranges) (seen : List Tree) → AreOwn ranges (trees_in s.trees.now) s.own.now → IsFound ranges s start seen →
      Walks ranges s f stack (once seen (fresh_in ranges (tree_at (trees_in s.trees.now) at)))

-- one tree is to be entered
pub walk_begins : (s : Source) (f : Found) (at : ℕ) (stack : List Work) → stack ≡ Enter at ∷ [] → IsSized (length s.trees.now) f → at < length s.trees.now → InWalk s f at f stack
walk_begins s f at stack is sized lt = record {
  sized = sized;
  works = subst (λ us. AreWorks (length s.trees.now) us) (sym is) (lt, tt);
  walks = λ ranges seen own found. subst (λ us. Walks ranges s f us (once seen (fresh_in ranges (tree_at (trees_in s.trees.now) at)))) (sym is)
      (record { seen = seen; found = found; done = (tt, tt); ends = refl });
}

-- nothing is left to be done
pub walk_ended : (s : Source) (start f : Found) (at : ℕ) (stack : List Work) → stack ≡ [] → InWalk s start at f stack → (ranges : Ranges) (seen : List Tree) →
    AreOwn ranges (trees_in s.trees.now) s.own.now → IsFound ranges s start seen → IsFound ranges s f (once seen (fresh_in ranges (tree_at (trees_in s.trees.now) at)))
walk_ended s start f at stack is w ranges seen own found =
    let k = subst (λ us. Walks ranges s f us (once seen (fresh_in ranges (tree_at (trees_in s.trees.now) at)))) is (w.walks ranges seen own found) in
    subst (λ us. IsFound ranges s f us) k.ends k.found

-- ---- trees on the stack

pub enters_none : (xs ys : List Work) (parts : List ℕ) (n : ℕ) → n ≡ length parts → ys ≡ xs → ys ≡ xs ++ enters (drop n parts)
enters_none xs ys parts n e is = is ∙ sym (append-nil xs) ∙ ap (λ ks. xs ++ enters ks) (sym (ap (λ m. drop m parts) e ∙ drop-length parts))

pub enters_more : (xs ys zs : List Work) (parts : List ℕ) (n m : ℕ) → n ≡ m + 1 → n ≤ length parts → ys ≡ xs ++ enters (drop n parts) → zs ≡ ys ++ (Enter (get_or parts m 0) ∷ []) →
    zs ≡ xs ++ enters (drop m parts)
enters_more xs ys zs parts n m e le h k =
    let x = get_or parts m 0 in
    let lt : m < length parts = omega arith in
    let next : n ≡ suc m = omega arith in
    let one : drop m parts ≡ x ∷ drop n parts = drop-cons parts m 0 lt ∙ ap (λ i. x ∷ drop i parts) (sym next) in
    k ∙ ap (λ us. us ++ (Enter x ∷ [])) h ∙ append_assoc xs (enters (drop n parts)) (Enter x ∷ []) ∙ ap (λ ks. xs ++ enters ks) (sym one)

-- ---- the top of the stack

pub top_within : (n : ℕ) (stack : List Work) (w : Work) → AreWorks n (stack ++ (w ∷ [])) → place_in w < n
top_within n stack w h = (works_split n stack (w ∷ []) h).1.0

-- where the top is taken off
pub marked_falls : (ts : List Tree) (stack : List Work) (w : Work) → weight ts stack < weight ts (stack ++ (w ∷ []))
marked_falls ts stack w = let e = weight_end ts stack w in let some = weight-some w in omega arith
  where
    weight-some : (v : Work) → 0 < work_weight ts v
    weight-some (Enter at) = let some = steps_some ts (tree_at ts at) in omega arith
    weight-some (Leave at) = omega arith
