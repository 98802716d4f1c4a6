-- The words of two groups of atoms, and that books have short ones.
use Rattle.std.proofs.Common.{◌≡◌, inl, inr, ℕ, zero, suc, ◌+◌, ◌*◌, ◌<◌, ◌≤◌, List, [], ◌∷◌, ◌++◌, map, length, length-append, nat_lt, nat_le, Bool, true, false, ◌&&◌, Option, Some, IsTrue, refl, ap, sym, subst, arith}
use Rattle.std.specs.Prelude.{decimal, slice_get, IfSome}
use Rattle.std.specs.List.{AllByRecursion}
use Rattle.std.proofs.Math.Nat.{le-mul_of_pos_right}
use Rattle.std.proofs.lemmas.Bool.{leb-true}
use Rattle.std.proofs.lemmas.List.{length-map}
use Rattle.std.proofs.lemmas.Option.{slice_get_within}
use Rattle.dyadic.proofs.Equal.{both_true}
use Rattle.poly_graph.specs.Problem.{Problem}
use Rattle.cover_line.specs.Words.{of_groups, branching_operands}
use Rattle.cover_model.specs.State.{State, Loosenings}
use Rattle.cover_model.specs.Rules.{Line, narrow_by, end_by, mark_by, branch_by, stay_by, Branching, cut_axis, flip_axis, case_atom, either_group, closed, two, when, is_ascending, are_groups, has_version_5, one_holds, can_part, is_parted, can_branch, first_child, second_child, rule}
use Rattle.cover_model.specs.Derivation.{leaf, Lawful, at_closed, at_step}
use Rattle.cover_data.specs.declared.margins.Margins.{Margins}
use Rattle.cover_data.specs.Margins.{loosenings_of}
use Rattle.cover_data.specs.Runs.{tree_after, CanBranch}
use Rattle.cover_book.specs.Keeps.{HasRun, IsNodeOf, IsBook, IsCovered}
use Rattle.cover_book.specs.Model.{NodeModel, live_node, crossed_node, closed_node, parted_node, stuck_node, BookModel, problem_in, margins_of, lemma_states_in}
use Rattle.cert_read.specs.LineText.{operand_words, IsCount}
use Rattle.cert_text.specs.Parts.{HasShortEnd}
use Rattle.cert_text.specs.Ruled.{HasFewGroups, HasFewPairs, HasOperands, HasWords}
use Rattle.cert_text.proofs.Words.{both_words}

pub group_operands : (js ks : List ℕ) (a b c d : List ℕ) → HasWords a (decimal (length js) ∷ []) b → HasWords b (map decimal js) c → HasWords c (map decimal ks) d → AllByRecursion IsCount js → AllByRecursion IsCount ks
    → HasOperands a (of_groups js ks) d
group_operands js ks a b c d h k g m n =
    let all : HasWords a (operand_words (of_groups js ks)) d = both_words a b d (decimal (length js) ∷ []) (map decimal js ++ map decimal ks) h (both_words b c d (map decimal js) (map decimal ks) k g) in
    record {
      written = all.written;
      spelled = λ few. (omega (arith, few.0), m, n);
      short = λ few. omega (arith, all.short, few.0, few.1, length-append (map decimal js) (map decimal ks), length-map js decimal, length-map ks decimal);
    }

-- ---- branches of books

-- each group has one atom or more
no-atoms : (m n : ℕ) → n ≡ 0 → 0 < m * n → ⊥
no-atoms m n e h = let f : m * n ≡ m * 0 = ap (λ (k : ℕ). m * k) e in omega (arith, f, h)

some-atoms : (m n : ℕ) → 0 < m * n → 0 < n
some-atoms m zero h = absurd (no-atoms m 0 refl h)
some-atoms m (suc n) h = omega arith

few-atoms : (m n : ℕ) → 0 < m * n → m * n ≤ 64 → (m ≤ 64) × (n ≤ 64)
few-atoms zero n h l = absurd (omega (arith, h))
few-atoms (suc m) n h l =
    let first = le-mul_of_pos_right (suc m) (some-atoms (suc m) n h) in
    let second = le-mul_of_pos_right {m = suc m} n (omega arith) in
    (omega (arith, first, l), omega (arith, second, l))

groups-few : (js ks : List ℕ) → IsTrue (are_groups js ks) → HasFewPairs (of_groups js ks)
groups-few js ks h =
    let product : ℕ = length js * length ks in
    let a = both_true (is_ascending js && is_ascending ks && nat_lt 0 product) (nat_le product 64) h in
    let b = both_true (is_ascending js && is_ascending ks) (nat_lt 0 product) a.0 in
    few-atoms (length js) (length ks) (leb-true 1 product b.1) (leb-true product 64 a.1)

module _ (p : Problem) (s : Loosenings) where
  branch-few : (S : State) (b : Branching) → IsTrue (can_branch p s S b) → HasFewPairs (branching_operands b)
  branch-few S (cut_axis axis c) h = tt
  branch-few S (flip_axis axis) h = tt
  branch-few S (case_atom j) h = tt
  branch-few S (either_group js ks) h =
      let a = both_true (can_part S (either_group js ks)) (is_parted p s S (either_group js ks)) h in
      let b = both_true (has_version_5 s && are_groups js ks) (one_holds p s S js ks) a.1 in
      groups-few js ks (both_true (has_version_5 s) (are_groups js ks) b.0).1

  line-few : (S : State) (l : Line) → CanBranch p s l S → HasFewGroups l
  line-few S (narrow_by n) h = tt
  line-few S (end_by e) h = tt
  line-few S (mark_by m) h = tt
  line-few S (branch_by b) h = branch-few S b h
  line-few S (stay_by t) h = tt

  no-branch : (t : Bool) (A B : State) → when t (two A B) ≡ Some closed → ⊥
  no-branch true A B h = absurd (cc)
  no-branch false A B h = absurd (cc)

  closing-few : (lemmas : List State) (S : State) (l : Line) → rule p s lemmas S l ≡ Some closed → HasFewGroups l
  closing-few lemmas S (narrow_by n) e = tt
  closing-few lemmas S (end_by k) e = tt
  closing-few lemmas S (mark_by m) e = tt
  closing-few lemmas S (branch_by b) e = absurd (no-branch (can_branch p s S b) (first_child S b) (second_child S b) e)
  closing-few lemmas S (stay_by t) e = tt

  -- the end of a tree that leaves nothing, where it is one run
  pub end_few : (lemmas : List State) (S : State) (steps : List Line) (l : Line) → Lawful p s lemmas S (tree_after steps (leaf l)) [] → HasFewGroups l
  end_few lemmas S [] l (at_closed e) = closing-few lemmas S l e
  end_few lemmas S (k ∷ steps) l (at_step e r) = end_few lemmas _ steps l r

run-few : (p : Problem) (m : Margins) (lemmas : List State) (S : State) (steps : List Line) (l : Line) → HasRun p m lemmas S steps l → HasFewGroups l
run-few p m lemmas S steps l r = line-few p (loosenings_of m) r.run.reached l
    (subst (λ (o : Option Line). IfSome o (λ (x : Line). CanBranch p (loosenings_of m) x r.run.reached)) r.end r.is_run.sound.parts)

node-short : (p : Problem) (m : Margins) (lemmas firsts : List State) (S : State) (x : NodeModel) → IsNodeOf p m lemmas firsts S x → HasShortEnd x
node-short p m lemmas firsts S (live_node T) h = tt
node-short p m lemmas firsts S (crossed_node i) h = tt
node-short p m lemmas firsts S (closed_node steps l) h = run-few p m lemmas S steps l h.0
node-short p m lemmas firsts S (parted_node steps l c) h = run-few p m lemmas S steps l h.0
node-short p m lemmas firsts S (stuck_node steps l T) h = run-few p m lemmas S steps l h.0

all-at : {X : Type 0} (P : X → Type 0) (xs : List X) → ((n : ℕ) (x : X) → slice_get xs n ≡ Some x → P x) → AllByRecursion P xs
all-at P [] f = tt
all-at P (x ∷ xs) f = (f 0 x refl, all-at P xs (λ n y e. f (suc n) y e))

at-some : {X : Type 0} (xs : List X) (n : ℕ) → n < length xs → (x : X) × (slice_get xs n ≡ Some x)
at-some [] n h = absurd (omega (arith, h))
at-some (y ∷ xs) zero h = (y, refl)
at-some (y ∷ xs) (suc n) h = at-some xs n (omega (arith, h))

covered-short : (b : BookModel) → IsCovered b → AllByRecursion HasShortEnd b.nodes
covered-short b h = all-at HasShortEnd b.nodes (λ n x e.
    let below : n < length b.nodes = slice_get_within b.nodes n x e in
    let f = at-some h.firsts n (omega (arith, below, h.count)) in
    node-short (problem_in b) (margins_of b.options) (lemma_states_in b) h.firsts f.0 x (h.each n f.0 x f.1 e))

-- the ends of a book's nodes
pub nodes_short : (b : BookModel) → IsBook b → (nodes : List NodeModel) → nodes ≡ b.nodes → AllByRecursion HasShortEnd nodes
nodes_short b w nodes e = subst (λ (xs : List NodeModel). AllByRecursion HasShortEnd xs) (sym e) (elim w.nodes [
  | inl h ↦ subst (λ (xs : List NodeModel). AllByRecursion HasShortEnd xs) (sym h.nodes) (tt, tt)
  | inr h ↦ covered-short b h
])

-- the node under a number
pub short_there : (nodes : List NodeModel) (n : ℕ) (x : NodeModel) → slice_get nodes n ≡ Some x → AllByRecursion HasShortEnd nodes → HasShortEnd x
short_there [] n x e h = cc
short_there (y ∷ nodes) zero x e h = let same : y ≡ x = cc in subst HasShortEnd same h.0
short_there (y ∷ nodes) (suc n) x e h = short_there nodes n x e h.1
