-- The trees of an arena.
use Rattle.std.proofs.Common.{◌≡◌, ℕ, zero, suc, ◌<◌, arith, List, [], ◌∷◌, ◌++◌, map, take, drop, length, Some, refl, ap, sym, ◌∙◌, subst, ◌⊎◌, inl, inr, append_assoc, append-nil, Bool, true, false, get_or}
use Rattle.std.specs.Prelude.{option_map, slice_get, ◌&&◌, ◌||◌}
use Rattle.std.proofs.lemmas.List.{get_or_append_left, length-map, length-take-le, map-append, take-append-drop}
use Rattle.std.proofs.lemmas.Option.{slice_get_read, slice_get_within, slice_get-get_or, slice_get-map}
use Rattle.script_roots.specs.Tree.{Tree, applied, root, quotient, formless, trees_of, are_numbers, hold_root, hold_choice}
use Rattle.smt_sexp.specs.Views.{place_of}
use Rattle.root_rewriting.specs.Nodes.{AreBelow, IsBelow, ShowsNode, AreFacts, AreFactsOfAll, AreEntries, tree_at, parts_at, node_tree, trees_behind, trees_in, node_in}
use Rattle.root_rewriting.specs.declared.unfold.trees.Node.{Node}
use Rattle.root_rewriting.specs.declared.unfold.trees.Node.TheVariants as nodes
use Rattle.root_rewriting.specs.declared.unfold.trees.Entry.{Entry}
use Rattle.root_rewriting.specs.declared.unfold.trees.Facts.{Facts}
use Rattle.root_rewriting.proofs.TreeLists.{get_cases, get_end}

-- ---- trees by their places

abbrev nowhere : Tree
nowhere = formless (record { line = 0; column = 0 })

pub tree_got : (ts : List Tree) (k : ℕ) (t : Tree) → slice_get ts k ≡ Some t → tree_at ts k ≡ t
tree_got ts k t h = let found : Some (tree_at ts k) ≡ Some t = sym (slice_get-get_or ts k nowhere (slice_get_within ts k t h)) ∙ h in cc found

pub tree_there : (ts : List Tree) (k : ℕ) → k < length ts → slice_get ts k ≡ Some (tree_at ts k)
tree_there ts k h = slice_get-get_or ts k nowhere h

pub tree_before : (ts us : List Tree) (k : ℕ) → k < length ts → tree_at (ts ++ us) k ≡ tree_at ts k
tree_before ts us k h = get_or_append_left ts us nowhere k h

pub parts_before : (ts us : List Tree) (ks : List ℕ) → AreBelow (length ts) ks → parts_at (ts ++ us) ks ≡ parts_at ts ks
parts_before ts us [] h = refl
parts_before ts us (k ∷ ks) h = ap (λ t. t ∷ parts_at (ts ++ us) ks) (tree_before ts us k h.0) ∙ ap (λ vs. tree_at ts k ∷ vs) (parts_before ts us ks h.1)

pub node_before : (ts us : List Tree) (n : Node) → IsBelow (length ts) n → node_tree (ts ++ us) n ≡ node_tree ts n
node_before ts us (nodes.Atomic at a) h = refl
node_before ts us (nodes.Applied at name ks) h = ap (λ vs. applied (place_of at) name.now (trees_of vs)) (parts_before ts us ks.items h)
node_before ts us (nodes.Root at k) h = ap (λ t. root (place_of at) t) (tree_before ts us k h)
node_before ts us (nodes.Quotient at k d) h =
    ap (λ t. quotient (place_of at) t (tree_at (ts ++ us) d)) (tree_before ts us k h.0) ∙ ap (λ t. quotient (place_of at) (tree_at ts k) t) (tree_before ts us d h.1)
node_before ts us (nodes.Formless at) h = refl

-- ---- nodes

behind-end : (ts : List Tree) (ns : List Node) (n : Node) → trees_behind ts (ns ++ (n ∷ [])) ≡ trees_behind ts ns ++ (node_tree (ts ++ trees_behind ts ns) n ∷ [])
behind-end ts [] n = ap (λ us. node_tree us n ∷ []) (sym (append-nil ts))
behind-end ts (d ∷ ns) n =
    let t = node_tree ts d in let us = ts ++ (t ∷ []) in
    ap (λ vs. t ∷ vs) (behind-end us ns n ∙ ap (λ vs. trees_behind us ns ++ (node_tree vs n ∷ [])) (append_assoc ts (t ∷ []) (trees_behind us ns)))

pub nodes_end : (ns : List Node) (n : Node) → trees_in (ns ++ (n ∷ [])) ≡ trees_in ns ++ (node_tree (trees_in ns) n ∷ [])
nodes_end ns n = behind-end [] ns n

behind-length : (ts : List Tree) (ns : List Node) → length (trees_behind ts ns) ≡ length ns
behind-length ts [] = refl
behind-length ts (n ∷ ns) = ap suc (behind-length (ts ++ (node_tree ts n ∷ [])) ns)

pub nodes_length : (ns : List Node) → length (trees_in ns) ≡ length ns
nodes_length ns = behind-length [] ns

behind-get : (ts : List Tree) (ns : List Node) (k : ℕ) (n : Node) → slice_get ns k ≡ Some n → slice_get (trees_behind ts ns) k ≡ Some (node_tree (ts ++ take k (trees_behind ts ns)) n)
behind-get ts [] k n h = cc
behind-get ts (d ∷ ns) zero n h =
    let same : d ≡ n = cc h in ap (λ (x : Node). Some (node_tree ts x)) same ∙ ap (λ us. Some (node_tree us n)) (sym (append-nil ts))
behind-get ts (d ∷ ns) (suc k) n h =
    let t = node_tree ts d in let us = ts ++ (t ∷ []) in
    behind-get us ns k n h ∙ ap (λ vs. Some (node_tree vs n)) (append_assoc ts (t ∷ []) (take k (trees_behind us ns)))

-- ---- entries

pub entries_length : (es : List Entry) → length (trees_in (map node_in es)) ≡ length es
entries_length es = nodes_length (map node_in es) ∙ length-map es node_in

-- an entry's tree, by its parts
pub shows_node : (es : List Entry) (k : ℕ) (e : Entry) → AreEntries es → slice_get es k ≡ Some e → ShowsNode (trees_in (map node_in es)) k e.node
shows_node es k e a h =
    let ns = map node_in es in
    let ts = trees_in ns in
    let within = slice_get_within es k e h in
    let there : slice_get ns k ≡ Some e.node = slice_get-map node_in es k ∙ ap (option_map node_in) h in
    let long : length (take k ts) ≡ k = length-take-le k ts (omega (arith, within, entries_length es)) in
    let below = subst (λ (j : ℕ). IsBelow j e.node) (sym long) (a.below k e h) in (
      behind-get [] ns k e.node there ∙ ap (λ t. Some t) (sym (node_before (take k ts) (drop k ts) e.node below)) ∙ ap (λ us. Some (node_tree us e.node)) (take-append-drop k ts),
      a.below k e h,
    )

-- one entry more
pub entries_more : (es : List Entry) (e : Entry) → AreEntries es → IsBelow (length es) e.node → AreFacts e.facts (node_tree (trees_in (map node_in es)) e.node) → AreEntries (es ++ (e ∷ []))
entries_more es e a below known = record {
  below = λ k d h. below-in k d (get_cases es e k d h);
  known = λ k d h. subst (λ us. AreFacts d.facts (tree_at us k)) (sym all-trees) (known-in k d (get_cases es e k d h));
}
  where
    all-trees : trees_in (map node_in (es ++ (e ∷ []))) ≡ trees_in (map node_in es) ++ (node_tree (trees_in (map node_in es)) e.node ∷ [])
    all-trees = ap trees_in (map-append node_in es (e ∷ [])) ∙ nodes_end (map node_in es) e.node

    below-in : (k : ℕ) (d : Entry) → ((slice_get es k ≡ Some d) ⊎ ((k ≡ length es) × (e ≡ d))) → IsBelow k d.node
    below-in k d (inl there) = a.below k d there
    below-in k d (inr at) = subst (λ (x : Entry). IsBelow k x.node) at.1 (subst (λ (n : ℕ). IsBelow n e.node) (sym at.0) below)

    known-in : (k : ℕ) (d : Entry) → ((slice_get es k ≡ Some d) ⊎ ((k ≡ length es) × (e ≡ d))) → AreFacts d.facts (tree_at (trees_in (map node_in es) ++ (node_tree (trees_in (map node_in es)) e.node ∷ [])) k)
    known-in k d (inl there) =
        let us = trees_in (map node_in es) in let within = slice_get_within es k d there in
        subst (λ x. AreFacts d.facts x) (sym (tree_before us (node_tree us e.node ∷ []) k (omega (arith, within, entries_length es)))) (a.known k d there)
    known-in k d (inr at) =
        let us = trees_in (map node_in es) in let u = node_tree us e.node in
        let last : tree_at (us ++ (u ∷ [])) k ≡ u = ap (tree_at (us ++ (u ∷ []))) (at.0 ∙ sym (entries_length es)) ∙ tree_got (us ++ (u ∷ [])) (length us) u (get_end us u) in
        subst (λ (x : Entry). AreFacts x.facts (tree_at (us ++ (u ∷ [])) k)) at.1 (subst (λ x. AreFacts e.facts x) (sym last) known)

pub entries_pushed : (es new : List Entry) (ns : List Node) (e : Entry) → new ≡ es ++ (e ∷ []) → map node_in es ≡ ns → AreEntries es → IsBelow (length ns) e.node → AreFacts e.facts (node_tree (trees_in ns) e.node) → AreEntries new
entries_pushed es new ns e is view a below known =
    subst (λ (xs : List Entry). AreEntries xs) (sym is)
    (entries_more es e a (subst (λ (n : ℕ). IsBelow n e.node) (ap length (sym view) ∙ length-map es node_in) below) (subst (λ (ms : List Node). AreFacts e.facts (node_tree (trees_in ms) e.node)) (sym view) known))

pub trees_pushed : (es new : List Entry) (ns : List Node) (e : Entry) → new ≡ es ++ (e ∷ []) → map node_in es ≡ ns → trees_in (map node_in new) ≡ trees_in ns ++ (node_tree (trees_in ns) e.node ∷ [])
trees_pushed es new ns e is view =
    ap (λ xs. trees_in (map node_in xs)) is ∙ ap trees_in (map-append node_in es (e ∷ [])) ∙ nodes_end (map node_in es) e.node ∙ ap (λ ms. trees_in ms ++ (node_tree (trees_in ms) e.node ∷ [])) view

-- the entry at a place
pub entry_there : (es : List Entry) (ns : List Node) (k : ℕ) (e : Entry) → map node_in es ≡ ns → k < length ns → e ≡ get_or es k e → slice_get es k ≡ Some e
entry_there es ns k e view h is = slice_get_read es (length es) k e refl (omega (arith, h, ap length view, length-map es node_in)) is

-- ---- several trees

-- what the parts before these hold together
pub record HoldSoFar (ts : List Tree) (n : ℕ) (parts : List ℕ) (f : Facts) (rest : List ℕ) : Type 0 where
  pub below : AreBelow n rest
  pub number : are_numbers (trees_of (parts_at ts parts)) ≡ f.is_number && are_numbers (trees_of (parts_at ts rest))
  pub root : hold_root (trees_of (parts_at ts parts)) ≡ f.holds_root || hold_root (trees_of (parts_at ts rest))
  pub choice : hold_choice (trees_of (parts_at ts parts)) ≡ f.holds_choice || hold_choice (trees_of (parts_at ts rest))

and_assoc : (a b c : Bool) → a && (b && c) ≡ (a && b) && c
and_assoc true b c = refl
and_assoc false b c = refl

or_assoc : (a b c : Bool) → a || (b || c) ≡ (a || b) || c
or_assoc true b c = refl
or_assoc false b c = refl

and_true : (a : Bool) → a && true ≡ a
and_true true = refl
and_true false = refl

or_false : (a : Bool) → a || false ≡ a
or_false true = refl
or_false false = refl

module _ (ts : List Tree) (n : ℕ) (parts : List ℕ) (f : Facts) (rest : List ℕ) (h : HoldSoFar ts n parts f rest) where
  module _ (k : ℕ) (later : List ℕ) (is : rest ≡ k ∷ later) where
    pub part_below : k < n
    part_below = let below = subst (λ (ks : List ℕ). AreBelow n ks) is h.below in below.0

    pub hold_on : (g all : Facts) → AreFacts g (tree_at ts k) → all.is_number ≡ f.is_number && g.is_number → all.holds_root ≡ f.holds_root || g.holds_root → all.holds_choice ≡ f.holds_choice || g.holds_choice →
        HoldSoFar ts n parts all later
    hold_on g all known num roots choices = record {
      below = let below = subst (λ (ks : List ℕ). AreBelow n ks) is h.below in below.1;
      number = h.number ∙ ap (λ ks. f.is_number && are_numbers (trees_of (parts_at ts ks))) is ∙ ap (λ b. f.is_number && (b && are_numbers (trees_of (parts_at ts later)))) (sym known.number) ∙
          and_assoc f.is_number g.is_number (are_numbers (trees_of (parts_at ts later))) ∙ ap (λ b. b && are_numbers (trees_of (parts_at ts later))) (sym num);
      root = h.root ∙ ap (λ ks. f.holds_root || hold_root (trees_of (parts_at ts ks))) is ∙ ap (λ b. f.holds_root || (b || hold_root (trees_of (parts_at ts later)))) (sym known.root) ∙
          or_assoc f.holds_root g.holds_root (hold_root (trees_of (parts_at ts later))) ∙ ap (λ b. b || hold_root (trees_of (parts_at ts later))) (sym roots);
      choice = h.choice ∙ ap (λ ks. f.holds_choice || hold_choice (trees_of (parts_at ts ks))) is ∙ ap (λ b. f.holds_choice || (b || hold_choice (trees_of (parts_at ts later)))) (sym known.choice) ∙
          or_assoc f.holds_choice g.holds_choice (hold_choice (trees_of (parts_at ts later))) ∙ ap (λ b. b || hold_choice (trees_of (parts_at ts later))) (sym choices);
    }

  pub hold_all : rest ≡ [] → AreFactsOfAll f (parts_at ts parts)
  hold_all is = record {
    number = sym (h.number ∙ ap (λ ks. f.is_number && are_numbers (trees_of (parts_at ts ks))) is ∙ and_true f.is_number);
    root = sym (h.root ∙ ap (λ ks. f.holds_root || hold_root (trees_of (parts_at ts ks))) is ∙ or_false f.holds_root);
    choice = sym (h.choice ∙ ap (λ ks. f.holds_choice || hold_choice (trees_of (parts_at ts ks))) is ∙ or_false f.holds_choice);
  }
