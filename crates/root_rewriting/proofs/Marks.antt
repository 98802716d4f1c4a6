-- Marks of trees, and what holds while trees are visited from the last one down.
use Rattle.std.proofs.Common.{◌≡◌, ◌⊎◌, inl, inr, ℕ, suc, zero, ◌+◌, ◌<◌, List, [], ◌∷◌, ◌++◌, map, length, Bool, true, false, cond, refl, ap, sym, ◌∙◌, subst, arith, slice_index_or, slice_set, replicate, take, true≢false, append-nil, append_assoc}
use Rattle.std.specs.Prelude.{Option, Some, None}
use Rattle.std.proofs.lemmas.Option.{slice_get_within}
use Rattle.script_model.specs.Reading.{Operator, truth, falsehood, negation, conjunction, disjunction, implication, exclusive, equality, distinctness, choice, minus, plus, times, divide, at_most_op, below_op, at_least_op, above_op, found, operators}
use Rattle.script_roots.specs.Fresh.{Asserted}
use Rattle.script_roots.specs.Tree.{Tree, formless}
use Rattle.script_roots.specs.TreeBounds.{Axes, EndBound, all_ends, claim_ends}
use Rattle.root_rewriting.specs.Asserted.{AreAsserted}
use Rattle.root_rewriting.specs.Nodes.{AreBelow, IsBelow, ShowsNode, node_tree, tree_at}
use Rattle.root_rewriting.specs.declared.unfold.assertions.Assertion.{Assertion}
use Rattle.root_rewriting.specs.declared.unfold.trees.Node.{Node}
use Rattle.root_rewriting.specs.declared.unfold.trees.Node.TheVariants as nodes
use Rattle.root_rewriting.proofs.Arena.{tree_got}
use Rattle.root_rewriting.specs.Sweep.{AreConjuncts, ArePlaces, IsAmong, SameElements, SayNothing, all_tree_ends, alone, assertion_places, conjuncts_of, marked_all, marked_ends, operator_conjuncts, tree_ends}
use Rattle.root_rewriting.proofs.Among.{among_all, among_either, among_left, among_one, among_right}
use Rattle.root_rewriting.proofs.Comparing.{ends_at, node_ends, own_first}

-- ---- marks

abbrev pub IsMarked : List Bool → ℕ → Type 0
IsMarked marks k = slice_index_or marks k false ≡ true

set-here : (marks : List Bool) (j : ℕ) → j < length marks → IsMarked (slice_set marks j true) j
set-here [] j l = absurd (omega (arith, l))
set-here (m ∷ marks) zero l = refl
set-here (m ∷ marks) (suc j) l = set-here marks j (omega (arith, l))

set-stays : (marks : List Bool) (j k : ℕ) → IsMarked marks k → IsMarked (slice_set marks j true) k
set-stays [] j k h = h
set-stays (m ∷ marks) zero zero h = refl
set-stays (m ∷ marks) zero (suc k) h = h
set-stays (m ∷ marks) (suc j) zero h = h
set-stays (m ∷ marks) (suc j) (suc k) h = set-stays marks j k h

set-why : (marks : List Bool) (j k : ℕ) → IsMarked (slice_set marks j true) k → IsMarked marks k ⊎ (k ≡ j)
set-why [] j k h = inl h
set-why (m ∷ marks) zero zero h = inr refl
set-why (m ∷ marks) zero (suc k) h = inl h
set-why (m ∷ marks) (suc j) zero h = inl h
set-why (m ∷ marks) (suc j) (suc k) h = elim (set-why marks j k h) [ inl e ↦ inl e | inr e ↦ inr (ap suc e) ]

set-length : (marks : List Bool) (j : ℕ) → length (slice_set marks j true) ≡ length marks
set-length [] j = refl
set-length (m ∷ marks) zero = refl
set-length (m ∷ marks) (suc j) = ap suc (set-length marks j)

marked-stays : (marks : List Bool) (parts : List ℕ) (k : ℕ) → IsMarked marks k → IsMarked (marked_all marks parts) k
marked-stays marks [] k h = h
marked-stays marks (j ∷ parts) k h = marked-stays (slice_set marks j true) parts k (set-stays marks j k h)

marked-part : (marks : List Bool) (parts : List ℕ) (k : ℕ) → k < length marks → IsAmong k parts → IsMarked (marked_all marks parts) k
marked-part marks [] k l h = elim h [ ]
marked-part marks (j ∷ parts) k l (inl e) = marked-stays (slice_set marks j true) parts k (subst (λ i. IsMarked (slice_set marks i true) k) e (set-here marks k l))
marked-part marks (j ∷ parts) k l (inr h) = marked-part (slice_set marks j true) parts k (subst (λ n. k < n) (sym (set-length marks j)) l) h

marked-why : (marks : List Bool) (parts : List ℕ) (k : ℕ) → IsMarked (marked_all marks parts) k → IsMarked marks k ⊎ IsAmong k parts
marked-why marks [] k h = inl h
marked-why marks (j ∷ parts) k h = elim (marked-why (slice_set marks j true) parts k h) [
  | inl e ↦ elim (set-why marks j k e) [ inl f ↦ inl f | inr f ↦ inr (inl f) ]
  | inr e ↦ inr (inr e)
]

pub marked_length : (marks : List Bool) (parts : List ℕ) → length (marked_all marks parts) ≡ length marks
marked_length marks [] = refl
marked_length marks (j ∷ parts) = marked_length (slice_set marks j true) parts ∙ set-length marks j

none-marked : (n k : ℕ) → IsMarked (replicate n false) k → ⊥
none-marked zero k h = cc
none-marked (suc n) zero h = cc
none-marked (suc n) (suc k) h = none-marked n k h

many : {A : Type 0} (n : ℕ) (x : A) → length (replicate n x) ≡ n
many zero x = refl
many (suc n) x = ap suc (many n x)

below-or-last : (k m : ℕ) → k < suc m → (k < m) ⊎ (k ≡ m)
below-or-last zero zero h = inr refl
below-or-last zero (suc m) h = inl (omega arith)
below-or-last (suc k) zero h = absurd (omega (arith, h))
below-or-last (suc k) (suc m) h = elim (below-or-last k m (omega (arith, h))) [ inl e ↦ inl (omega (arith, e)) | inr e ↦ inr (ap suc e) ]

part-below : (n : ℕ) (ks : List ℕ) (k : ℕ) → AreBelow n ks → IsAmong k ks → k < n
part-below n [] k h g = elim g [ ]
part-below n (j ∷ ks) k h (inl e) = subst (λ i. i < n) (sym e) h.0
part-below n (j ∷ ks) k h (inr g) = part-below n ks k h.1 g

pub read_mark : (marks : List Bool) (k : ℕ) (x y : Bool) → k < length marks → x ≡ slice_index_or marks k x → x ≡ y → slice_index_or marks k false ≡ y
read_mark [] k x y l h e = absurd (omega (arith, l))
read_mark (m ∷ marks) zero x y l h e = sym h ∙ e
read_mark (m ∷ marks) (suc k) x y l h e = read_mark marks k x y (omega (arith, l)) h e

-- ---- the state of a sweep, over trees of which each gives these ends, and these by itself

module _ (all own : ℕ → List EndBound) (wanted : List EndBound) where
  pub record GivenBy (marks : List Bool) (e : EndBound) : Type 0 where
    pub node : ℕ
    pub marked : IsMarked marks node
    pub among : IsAmong e (own node)

  pub record Pending (n : ℕ) (marks : List Bool) (e : EndBound) : Type 0 where
    pub node : ℕ
    pub below : node < n
    pub marked : IsMarked marks node
    pub among : IsAmong e (all node)

  -- the trees from number n on were visited
  pub record Swept (n : ℕ) (marks : List Bool) : Type 0 where
    pub complete : (e : EndBound) → IsAmong e wanted → GivenBy marks e ⊎ Pending n marks e
    pub inside : (k : ℕ) → IsMarked marks k → (e : EndBound) → IsAmong e (all k) → IsAmong e wanted

  module _ (m : ℕ) (marks : List Bool) (h : Swept (suc m) marks) where
    -- a tree without a mark is passed by
    pub passed_by : slice_index_or marks m false ≡ false → Swept m marks
    passed_by f = record {
      complete = λ e w. elim (h.complete e w) [
        | inl g ↦ inl g
        | inr p ↦ elim (below-or-last p.node m p.below) [
          | inl l ↦ inr (record { node = p.node; below = l; marked = p.marked; among = p.among })
          | inr i ↦ absurd (true≢false (sym (subst (IsMarked marks) i p.marked) ∙ f))
        ]
      ];
      inside = h.inside;
    }

    module _ (parts : List ℕ) (splits : all m ≡ own m ++ all_ends (map all parts)) (below : AreBelow m parts) (within : m < length marks) (y : IsMarked marks m) where
      at-here : (e : EndBound) → IsAmong e (all m) → GivenBy (marked_all marks parts) e ⊎ Pending m (marked_all marks parts) e
      at-here e a = elim (among_either e (own m) (all_ends (map all parts)) (subst (IsAmong e) splits a)) [
        | inl o ↦ inl (record { node = m; marked = marked-stays marks parts m y; among = o })
        | inr o ↦ let r = among_one all e parts o in let l = part-below m parts r.place below r.is in
            inr (record { node = r.place; below = l; marked = marked-part marks parts r.place (omega (arith, l, within)) r.is; among = r.has })
      ]

      -- the conjuncts of a marked tree are marked
      pub visited : Swept m (marked_all marks parts)
      visited = record {
        complete = λ e w. elim (h.complete e w) [
          | inl g ↦ inl (record { node = g.node; marked = marked-stays marks parts g.node g.marked; among = g.among })
          | inr p ↦ elim (below-or-last p.node m p.below) [
            | inl l ↦ inr (record { node = p.node; below = l; marked = marked-stays marks parts p.node p.marked; among = p.among })
            | inr i ↦ at-here e (subst (λ k. IsAmong e (all k)) i p.among)
          ]
        ];
        inside = λ k g e a. elim (marked-why marks parts k g) [
          | inl f ↦ h.inside k f e a
          | inr f ↦ h.inside m y e (subst (IsAmong e) (sym splits) (among_right e (own m) (all_ends (map all parts)) (among_all all e parts k f a)))
        ];
      }

pub started : (all own : ℕ → List EndBound) (n : ℕ) (roots : List ℕ) → AreBelow n roots → Swept all own (all_ends (map all roots)) n (marked_all (replicate n false) roots)
started all own n roots below = record {
  complete = λ e w. let r = among_one all e roots w in let l = part-below n roots r.place below r.is in
      inr (record { node = r.place; below = l; marked = marked-part (replicate n false) roots r.place (subst (λ i. r.place < i) (sym (many n false)) l) r.is; among = r.has });
  inside = λ k g e a. elim (marked-why (replicate n false) roots k g) [
    | inl f ↦ absurd (none-marked n k f)
    | inr f ↦ among_all all e roots k f a
  ];
}

pub started_length : (n : ℕ) (roots : List ℕ) → length (marked_all (replicate n false) roots) ≡ n
started_length n roots = marked_length (replicate n false) roots ∙ many n false

-- ---- the end

module _ (A : Axes) where
  abbrev nowhere : Tree
  nowhere = formless (record { line = 0; column = 0 })

  -- an end of a marked tree is among those of all marked trees
  among-marked : (marks : List Bool) (ts : List Tree) (k : ℕ) (e : EndBound) → length marks ≡ length ts → IsMarked marks k → IsAmong e (tree_ends A (tree_at ts k)) → IsAmong e (marked_ends A marks ts)
  among-marked [] ts k e n y a = cc
  among-marked (m ∷ marks) [] k e n y a = cc
  among-marked (true ∷ marks) (t ∷ ts) zero e n y a = among_left e (tree_ends A t) (marked_ends A marks ts) a
  among-marked (false ∷ marks) (t ∷ ts) zero e n y a = cc
  among-marked (true ∷ marks) (t ∷ ts) (suc k) e n y a = among_right e (tree_ends A t) (marked_ends A marks ts) (among-marked marks ts k e (omega (arith, n)) y a)
  among-marked (false ∷ marks) (t ∷ ts) (suc k) e n y a = among-marked marks ts k e (omega (arith, n)) y a

  -- and the other way
  record FromMarked (marks : List Bool) (ts : List Tree) (e : EndBound) : Type 0 where
    node : ℕ
    marked : IsMarked marks node
    among : IsAmong e (all_tree_ends A (tree_at ts node))

  from-marked : (marks : List Bool) (ts : List Tree) (e : EndBound) → IsAmong e (marked_ends A marks ts) → FromMarked marks ts e
  from-marked [] ts e a = elim a [ ]
  from-marked (true ∷ marks) [] e a = elim a [ ]
  from-marked (false ∷ marks) [] e a = elim a [ ]
  from-marked (true ∷ marks) (t ∷ ts) e a = elim (among_either e (tree_ends A t) (marked_ends A marks ts) a) [
    | inl o ↦ record { node = 0; marked = refl; among = subst (IsAmong e) (sym (own_first A t)) (among_left e (tree_ends A t) _ o) }
    | inr o ↦ let r = from-marked marks ts e o in record { node = suc r.node; marked = r.marked; among = r.among }
  ]
  from-marked (false ∷ marks) (t ∷ ts) e a = let r = from-marked marks ts e a in record { node = suc r.node; marked = r.marked; among = r.among }

  marked-next : (marks : List Bool) (ts : List Tree) (k : ℕ) → k < length marks → k < length ts →
      marked_ends A (take (suc k) marks) (take (suc k) ts) ≡ marked_ends A (take k marks) (take k ts) ++ cond (slice_index_or marks k false) (tree_ends A (tree_at ts k)) []
  marked-next [] ts k h g = absurd (omega (arith, h))
  marked-next (m ∷ marks) [] k h g = absurd (omega (arith, g))
  marked-next (true ∷ marks) (t ∷ ts) zero h g = append-nil (tree_ends A t)
  marked-next (false ∷ marks) (t ∷ ts) zero h g = refl
  marked-next (true ∷ marks) (t ∷ ts) (suc k) h g = ap (λ es. tree_ends A t ++ es) (marked-next marks ts k (omega (arith, h)) (omega (arith, g))) ∙
      sym (append_assoc (tree_ends A t) (marked_ends A (take k marks) (take k ts)) (cond (slice_index_or marks k false) (tree_ends A (tree_at ts k)) []))
  marked-next (false ∷ marks) (t ∷ ts) (suc k) h g = marked-next marks ts k (omega (arith, h)) (omega (arith, g))

  -- one more tree was looked at
  pub marked_more : (marks : List Bool) (ts : List Tree) (k n : ℕ) (m : Bool) (es fs : List EndBound) → n ≡ suc k → k < length marks → k < length ts → slice_index_or marks k false ≡ m →
      es ≡ marked_ends A (take k marks) (take k ts) → fs ≡ es ++ cond m (tree_ends A (tree_at ts k)) [] → fs ≡ marked_ends A (take n marks) (take n ts)
  marked_more marks ts k n m es fs e h g is d f = f ∙ ap (λ xs. xs ++ cond m (tree_ends A (tree_at ts k)) []) d ∙
      ap (λ b. marked_ends A (take k marks) (take k ts) ++ cond b (tree_ends A (tree_at ts k)) []) (sym is) ∙ sym (marked-next marks ts k h g) ∙
      ap (λ j. marked_ends A (take j marks) (take j ts)) (sym e)

  abbrev pub own_at : List Tree → ℕ → List EndBound
  own_at ts k = tree_ends A (tree_at ts k)

  same-ends : (ts : List Tree) (wanted : List EndBound) (marks : List Bool) → length marks ≡ length ts → Swept (ends_at A ts) (own_at ts) wanted 0 marks → SameElements (marked_ends A marks ts) wanted
  same-ends ts wanted marks n h = record {
    there = λ e a. let r = from-marked marks ts e a in h.inside r.node r.marked e r.among;
    back = λ e a. elim (h.complete e a) [
      | inl g ↦ among-marked marks ts g.node e n g.marked g.among
      | inr p ↦ absurd (omega (arith, p.below))
    ];
  }

  -- ---- assertions

  claim-ends : (ts : List Tree) (cs : List Assertion) (a : Asserted) (k : ℕ) (rest : List EndBound) (g : Bool) → tree_at ts k ≡ a.tree → all_ends (map (ends_at A ts) (assertion_places cs)) ≡ rest →
      all_ends (map (ends_at A ts) (cond g (assertion_places cs) (k ∷ assertion_places cs))) ≡ cond g [] (all_tree_ends A a.tree) ++ rest
  claim-ends ts cs a k rest true e h = h
  claim-ends ts cs a k rest false e h = ap (λ t. all_tree_ends A t ++ all_ends (map (ends_at A ts) (assertion_places cs))) e ∙ ap (λ es. all_tree_ends A a.tree ++ es) h

  claims-ends : (ts : List Tree) (cs : List Assertion) (claims : List Asserted) → AreAsserted ts cs claims → all_ends (map (ends_at A ts) (assertion_places cs)) ≡ all_ends (map (claim_ends A) claims)
  claims-ends ts [] [] h = refl
  claims-ends ts (c ∷ cs) (a ∷ claims) h = subst (λ g. all_ends (map (ends_at A ts) (assertion_places (c ∷ cs))) ≡ cond g [] (all_tree_ends A a.tree) ++ all_ends (map (claim_ends A) claims)) h.0.goal
      (claim-ends ts cs a c.tree (all_ends (map (claim_ends A) claims)) c.is_goal (tree_got ts c.tree a.tree h.0.tree) (claims-ends ts cs claims h.1))
  claims-ends ts [] (a ∷ claims) h = elim h [ ]
  claims-ends ts (c ∷ cs) [] h = elim h [ ]

  pub conjuncts_marked : (ts : List Tree) (cs : List Assertion) (claims : List Asserted) (marks : List Bool) → AreAsserted ts cs claims → length marks ≡ length ts →
      Swept (ends_at A ts) (own_at ts) (all_ends (map (ends_at A ts) (assertion_places cs))) 0 marks → AreConjuncts A ts claims marks
  conjuncts_marked ts cs claims marks h n s = record { count = n; same = subst (SameElements (marked_ends A marks ts)) (claims-ends ts cs claims h) (same-ends ts _ marks n s) }

-- ---- the sweep, whatever constants are

below-more : (n m : ℕ) (ks : List ℕ) → n < m + 1 → AreBelow n ks → AreBelow m ks
below-more n m [] l h = tt
below-more n m (k ∷ ks) l h = (let b = h.0 in omega (arith, l, b), below-more n m ks l h.1)

alone-below : (n : ℕ) (ks : List ℕ) → AreBelow n ks → AreBelow n (alone ks)
alone-below n [] h = tt
alone-below n (k ∷ []) h = h
alone-below n (k ∷ j ∷ ks) h = tt

operator-below : (n : ℕ) (op : Option Operator) (ks : List ℕ) → AreBelow n ks → AreBelow n (operator_conjuncts op ks)
operator-below n (Some conjunction) ks h = h
operator-below n (Some plus) ks h = alone-below n ks h
operator-below n (Some times) ks h = alone-below n ks h
operator-below n None ks h = tt
operator-below n (Some minus) ks h = tt
operator-below n (Some divide) ks h = tt
operator-below n (Some truth) ks h = tt
operator-below n (Some falsehood) ks h = tt
operator-below n (Some negation) ks h = tt
operator-below n (Some disjunction) ks h = tt
operator-below n (Some implication) ks h = tt
operator-below n (Some exclusive) ks h = tt
operator-below n (Some equality) ks h = tt
operator-below n (Some distinctness) ks h = tt
operator-below n (Some choice) ks h = tt
operator-below n (Some at_most_op) ks h = tt
operator-below n (Some below_op) ks h = tt
operator-below n (Some at_least_op) ks h = tt
operator-below n (Some above_op) ks h = tt

conjuncts-below : (n : ℕ) (node : Node) → IsBelow n node → AreBelow n (conjuncts_of node)
conjuncts-below n (nodes.Atomic at a) h = tt
conjuncts-below n (nodes.Applied at name ks) h = operator-below n (found name.now operators) ks.items h
conjuncts-below n (nodes.Root at k) h = tt
conjuncts-below n (nodes.Quotient at k d) h = tt
conjuncts-below n (nodes.Formless at) h = tt

pub node_below : (n m : ℕ) (node : Node) → n < m + 1 → IsBelow n node → IsBelow m node
node_below n m (nodes.Atomic at a) l h = tt
node_below n m (nodes.Applied at name ks) l h = below-more n m ks.items l h
node_below n m (nodes.Root at k) l h = omega (arith, l, h)
node_below n m (nodes.Quotient at k d) l h = (let b = h.0 in omega (arith, l, b), let b = h.1 in omega (arith, l, b))
node_below n m (nodes.Formless at) l h = tt

pub conjuncts_below : (n m : ℕ) (node : Node) → n < m + 1 → IsBelow n node → AreBelow m (conjuncts_of node)
conjuncts_below n m node l h = below-more n m (conjuncts_of node) l (conjuncts-below n node h)

-- the trees from number n on were visited, for constants that give no end by themselves
abbrev pub AreSwept : List Tree → List ℕ → ℕ → List Bool → Type 0
AreSwept ts roots n marks = (A : Axes) → SayNothing A → Swept (ends_at A ts) (own_at A ts) (all_ends (map (ends_at A ts) roots)) n marks

pub sweep_begins : (ts : List Tree) (roots : List ℕ) (n : ℕ) (marks : List Bool) → AreBelow n roots → marks ≡ marked_all (replicate n false) roots → AreSwept ts roots n marks
sweep_begins ts roots n marks below e = λ A says.
    subst (λ ms. Swept (ends_at A ts) (own_at A ts) (all_ends (map (ends_at A ts) roots)) n ms) (sym e) (started (ends_at A ts) (own_at A ts) n roots below)

pub sweep_visits : (ts : List Tree) (roots : List ℕ) (n k : ℕ) (marks new : List Bool) (node : Node) → n ≡ suc k → AreSwept ts roots n marks → ShowsNode ts k node → k < length marks →
    slice_index_or marks k false ≡ true → new ≡ marked_all marks (conjuncts_of node) → AreSwept ts roots k new
sweep_visits ts roots n k marks new node e h shows within y is = λ A says.
    let here = tree_got ts k (node_tree ts node) shows.0 in
    let all = ends_at A ts in
    let own = own_at A ts in
    let wanted = all_ends (map all roots) in
    let splits : all k ≡ own k ++ all_ends (map all (conjuncts_of node)) =
    ap (all_tree_ends A) here ∙ node_ends A ts says node ∙ ap (λ t. tree_ends A t ++ all_ends (map all (conjuncts_of node))) (sym here) in
    subst (λ ms. Swept all own wanted k ms) (sym is)
    (visited all own wanted k marks (subst (λ i. Swept all own wanted i marks) e (h A says)) (conjuncts_of node) splits (conjuncts-below k node shows.1) within y)

pub sweep_passes : (ts : List Tree) (roots : List ℕ) (n k : ℕ) (marks : List Bool) → n ≡ suc k → AreSwept ts roots n marks → slice_index_or marks k false ≡ false → AreSwept ts roots k marks
sweep_passes ts roots n k marks e h f = λ A says.
    passed_by (ends_at A ts) (own_at A ts) (all_ends (map (ends_at A ts) roots)) k marks
    (subst (λ i. Swept (ends_at A ts) (own_at A ts) (all_ends (map (ends_at A ts) roots)) i marks) e (h A says)) f

pub sweep_ends : (ts : List Tree) (cs : List Assertion) (n : ℕ) (marks : List Bool) → n ≡ 0 → length marks ≡ length ts → AreSwept ts (assertion_places cs) n marks →
    (A : Axes) (claims : List Asserted) → SayNothing A → AreAsserted ts cs claims → AreConjuncts A ts claims marks
sweep_ends ts cs n marks e count h A claims says asserted = conjuncts_marked A ts cs claims marks asserted count
    (subst (λ i. Swept (ends_at A ts) (own_at A ts) (all_ends (map (ends_at A ts) (assertion_places cs))) i marks) e (h A says))

-- the places of assertions are those of trees
pub places_below : (ts : List Tree) (n : ℕ) (cs : List Assertion) (claims : List Asserted) → n ≡ length ts → AreAsserted ts cs claims → ArePlaces n cs
places_below ts n [] [] e h = tt
places_below ts n (c ∷ cs) (a ∷ claims) e h = (let l = slice_get_within ts c.tree a.tree h.0.tree in omega (arith, l, e), places_below ts n cs claims e h.1)
places_below ts n [] (a ∷ claims) e h = elim h [ ]
places_below ts n (c ∷ cs) [] e h = elim h [ ]

assertion-below : (n k : ℕ) (ks : List ℕ) (g : Bool) → k < n → AreBelow n ks → AreBelow n (cond g ks (k ∷ ks))
assertion-below n k ks true l h = h
assertion-below n k ks false l h = (l, h)

pub assertions_below : (n : ℕ) (cs : List Assertion) → ArePlaces n cs → AreBelow n (assertion_places cs)
assertions_below n [] h = tt
assertions_below n (c ∷ cs) h = assertion-below n c.tree (assertion_places cs) c.is_goal h.0 (assertions_below n cs h.1)
