-- Atoms of a table, with their terms.
use Rattle.std.proofs.Common.{◌≡◌, inl, inr, ℕ, suc, zero, ◌<◌, List, [], ◌∷◌, ◌++◌, map, length, Bool, true, false, cond, Some, refl, ap, ap₂, sym, ◌∙◌, subst, arith, nat_lt, length-append}
use Rattle.std.specs.Prelude.{slice_get, All, Result, Ok, Err, MatchResult}
use Rattle.std.proofs.lemmas.List.{length-map}
use Rattle.script_model.specs.Sexp.{Place}
use Rattle.dyadic.specs.Point.{Sort}
use Rattle.poly_graph.specs.Term.{Term, Node, graph_terms, Kind, Atom}
use Rattle.poly_graph.specs.FormGraph.{FormNode, graph_forms, yes_node, no_node, atom_node, bool_node, all_node, any_node}
use Rattle.poly_graph.specs.Shared.{IsGraph}
use Rattle.poly_graph.specs.AtomTable.{AreAtoms, IsNewAtom, AtomInterned, AtomRefused, most_atoms}
use Rattle.poly_graph.specs.declared.refused.NoNode.{NoNode}
use Rattle.poly_graph.specs.declared.refused.NoNode.TheVariants.{TooMany, Memory}
use Rattle.poly_graph.specs.declared.refused.Limit.TheVariants.{Nodes, Atoms, Forms}
use Rattle.poly_graph.proofs.Same.{one_number}
use Rattle.script_forms.specs.Atoms.{already, same_atom, number_in}
use Rattle.script_forms.specs.Walk as walk
use Rattle.script_forms.specs.Walk.{Stand, Walked, stands, stops, ask_atom, if_room, with_atom, too_many_atoms}
use Rattle.script_forms.proofs.Numbered.{atom_self, same_atom_is}
use Rattle.term_build.specs.Built.{BuilderModel, stand_of, IsMade, IsAtomOf, IsFormNode, full_atom}
use Rattle.term_build.specs.Does.{IsAtom, Does, limited_to}
use Rattle.term_build.specs.declared.stop.Stop.{Stop}
use Rattle.term_build.proofs.Lists.{get_below, get_end, all_end, all_more, map_end, get_index}

-- ---- whether an atom stands in a list

later : (b x : Bool) → x ≡ true → cond b true x ≡ true
later true x h = refl
later false x h = h

pub already_at : (xs : List Atom) (k : ℕ) (a : Atom) → slice_get xs k ≡ Some a → already a xs ≡ true
already_at [] k a h = cc
already_at (b ∷ xs) zero a h = let e : b ≡ a = cc in ap (λ t. cond t true (already a xs)) (ap (same_atom a) e ∙ atom_self a)
already_at (b ∷ xs) (suc k) a h = later (same_atom a b) (already a xs) (already_at xs k a h)

is-at-step : (b : Atom) (xs : List Atom) (a : Atom) (t : Bool) → same_atom a b ≡ t → cond t true (already a xs) ≡ true → (already a xs ≡ true → (k : ℕ) × (slice_get xs k ≡ Some a)) → (k : ℕ) × (slice_get (b ∷ xs) k ≡ Some a)
is-at-step b xs a true e h f = (zero, ap (λ x. Some x) (sym (same_atom_is a b e)))
is-at-step b xs a false e h f = let r = f h in (suc r.0, r.1)

pub is_at : (xs : List Atom) (a : Atom) → already a xs ≡ true → (k : ℕ) × (slice_get xs k ≡ Some a)
is_at [] a h = cc
is_at (b ∷ xs) a h = is-at-step b xs a (same_atom a b) refl h (is_at xs a)

number-step : (b : Atom) (xs : List Atom) (k : ℕ) (a : Atom) → ((i j : ℕ) (c : Atom) → slice_get (b ∷ xs) i ≡ Some c → slice_get (b ∷ xs) j ≡ Some c → i ≡ j) → slice_get xs k ≡ Some a → number_in xs a ≡ k →
    (t : Bool) → same_atom a b ≡ t → cond t 0 (suc (number_in xs a)) ≡ suc k
number-step b xs k a once h f true e = once zero (suc k) a (ap (λ x. Some x) (sym (same_atom_is a b e))) h
number-step b xs k a once h f false e = ap suc f

-- the number of an atom that stands once
pub number_at : (xs : List Atom) (k : ℕ) (a : Atom) → ((i j : ℕ) (b : Atom) → slice_get xs i ≡ Some b → slice_get xs j ≡ Some b → i ≡ j) → slice_get xs k ≡ Some a → number_in xs a ≡ k
number_at [] k a once h = cc
number_at (b ∷ xs) zero a once h = let e : b ≡ a = cc in ap (λ t. cond t 0 (suc (number_in xs a))) (ap (same_atom a) e ∙ atom_self a)
number_at (b ∷ xs) (suc k) a once h = number-step b xs k a once h (number_at xs k a (λ i j c l m. omega (arith, once (suc i) (suc j) c l m)) h) (same_atom a b) refl

-- ---- full atoms

-- what stands in the list of full atoms is the full atom of what stands there
image : (ts : List Term) (xs : List (ℕ × Kind)) (k : ℕ) (a : Atom) → slice_get (map (full_atom ts) xs) k ≡ Some a → (x : ℕ × Kind) × (slice_get xs k ≡ Some x) × (full_atom ts x ≡ a)
image ts [] k a h = cc
image ts (x ∷ xs) zero a h = (x, refl, cc)
image ts (x ∷ xs) (suc k) a h = image ts xs k a h

pub full_at : (ts : List Term) (xs : List (ℕ × Kind)) (k : ℕ) (x : ℕ × Kind) → slice_get xs k ≡ Some x → slice_get (map (full_atom ts) xs) k ≡ Some (full_atom ts x)
full_at ts [] k x h = cc
full_at ts (y ∷ xs) zero x h = cc
full_at ts (y ∷ xs) (suc k) x h = full_at ts xs k x h

-- atoms of one term and kind are one
one-atom : (ns : List Node) → IsGraph ns → (x y : ℕ × Kind) → x.0 < length ns → y.0 < length ns → full_atom (graph_terms ns) x ≡ full_atom (graph_terms ns) y → x ≡ y
one-atom ns g (j, p) (k, q) b c h = let e : j ≡ k = one_number ns g j k b c (ap (λ (a : Atom). a.0) h) in let f : p ≡ q = ap (λ (a : Atom). a.1) h in ap₂ (λ i r. (i, r)) e f

below : (ns : List Node) (xs : List (ℕ × Kind)) → All (IsAtomOf ns) xs → (k : ℕ) (x : ℕ × Kind) → slice_get xs k ≡ Some x → x.0 < length ns
below ns xs h k x e = subst (λ (y : ℕ × Kind). y.0 < length ns) (get_index xs k x x e) (h k x (get_below xs k x e))

pub full_once : (ns : List Node) (xs : List (ℕ × Kind)) → IsGraph ns → AreAtoms xs → All (IsAtomOf ns) xs → (i j : ℕ) (b : Atom) →
    slice_get (map (full_atom (graph_terms ns)) xs) i ≡ Some b → slice_get (map (full_atom (graph_terms ns)) xs) j ≡ Some b → i ≡ j
full_once ns xs g t h i j b k l =
    let p = image (graph_terms ns) xs i b k in
    let q = image (graph_terms ns) xs j b l in
    t.once i j q.0 (p.1 ∙ ap (λ x. Some x) (one-atom ns g p.0 q.0 (below ns xs h i p.0 p.1) (below ns xs h j q.0 q.1) (p.2 ∙ sym q.2))) q.1

new-by : (ns : List Node) (xs : List (ℕ × Kind)) (x : ℕ × Kind) → IsGraph ns → All (IsAtomOf ns) xs → x.0 < length ns → IsNewAtom xs x → (b : Bool) → already (full_atom (graph_terms ns) x) (map (full_atom (graph_terms ns)) xs) ≡ b → b ≡ false
new-by ns xs x g h b new false e = refl
new-by ns xs x g h b new true e =
    let r = is_at (map (full_atom (graph_terms ns)) xs) (full_atom (graph_terms ns) x) e in
    let p = image (graph_terms ns) xs r.0 (full_atom (graph_terms ns) x) r.1 in
    absurd (new r.0 (p.1 ∙ ap (λ y. Some y) (one-atom ns g p.0 x (below ns xs h r.0 p.0 p.1) b p.2)))

-- ---- an atom is asked for

abbrev pub with_atoms : BuilderModel → List (ℕ × Kind) → BuilderModel
with_atoms m xs = record { sorts = m.sorts; size = m.size; nodes = m.nodes; atoms = xs; forms = m.forms }

record AtomMade (m : BuilderModel) (xs : List (ℕ × Kind)) (x : ℕ × Kind) (k : ℕ) : Type 0 where
  pub made : IsMade (with_atoms m xs)
  pub does : (claim : Place) → ask_atom claim (stand_of m) (full_atom (graph_terms m.nodes) x) ≡ stands (stand_of (with_atoms m xs))
  pub stands_there : slice_get xs k ≡ Some x

room-for : (b : Bool) → b ≡ true → (claim : Place) (s : Stand) → if_room b claim too_many_atoms s ≡ stands s
room-for true e claim s = refl
room-for false e claim s = cc

no-room : (b : Bool) → b ≡ false → (claim : Place) (s : Stand) → if_room b claim too_many_atoms s ≡ stops claim too_many_atoms
no-room true e claim s = cc
no-room false e claim s = refl

lt-true : (a b : ℕ) → a < b → nat_lt a b ≡ true
lt-true a b h = grind (arith, h)

lt-false : (a b : ℕ) → a ≡ b → nat_lt a b ≡ false
lt-false a b h = grind (arith, h)

form-more : (sorts : List Sort) (n k : ℕ) → (f : FormNode) → n < suc k → IsFormNode sorts n f → IsFormNode sorts k f
form-more sorts n k yes_node h p = tt
form-more sorts n k no_node h p = tt
form-more sorts n k (atom_node j) h p = omega (arith, h, p)
form-more sorts n k (bool_node axis v) h p = p
form-more sorts n k (all_node ks) h p = tt
form-more sorts n k (any_node ks) h p = tt

added : (m : BuilderModel) (x : ℕ × Kind) → IsMade m → x.0 < length m.nodes → IsNewAtom m.atoms x → AreAtoms (m.atoms ++ (x ∷ [])) → AtomMade m (m.atoms ++ (x ∷ [])) x (length m.atoms)
added m x h b new t = record {
  made = record {
    few = h.few;
    graph = h.graph;
    nodes = h.nodes;
    table = t;
    atoms = all_end (IsAtomOf m.nodes) m.atoms x h.atoms b;
    shared = h.shared;
    forms = all_more (IsFormNode m.sorts (length m.atoms)) (IsFormNode m.sorts (length (m.atoms ++ (x ∷ [])))) m.forms
        (λ f p. form-more m.sorts (length m.atoms) (length (m.atoms ++ (x ∷ []))) f (omega (arith, length-append m.atoms (x ∷ []))) p) h.forms;
  };
  does = λ claim. let ts = graph_terms m.nodes in let full = map (full_atom ts) m.atoms in
      ap (λ b. cond b (stands (stand_of m)) (if_room (nat_lt (length full) walk.most_atoms) claim too_many_atoms (with_atom (stand_of m) (full_atom ts x))))
      (new-by m.nodes m.atoms x h.graph h.atoms b new (already (full_atom ts x) full) refl)
      ∙ room-for (nat_lt (length full) walk.most_atoms) (lt-true (length full) walk.most_atoms (omega (arith, length-map m.atoms (full_atom ts), t.few, length-append m.atoms (x ∷ [])))) claim (with_atom (stand_of m) (full_atom ts x))
      ∙ ap (λ (xs : List Atom). stands (record { size = m.size; trees = ts; atoms = xs; forms = graph_forms m.forms })) (sym (map_end (full_atom ts) m.atoms x));
  stands_there = get_end m.atoms x;
}

stood-there : (m : BuilderModel) (x : ℕ × Kind) (k : ℕ) → IsMade m → slice_get m.atoms k ≡ Some x → AtomMade m m.atoms x k
stood-there m x k h e = record {
  made = h;
  does = λ claim. let ts = graph_terms m.nodes in let full = map (full_atom ts) m.atoms in
      ap (λ b. cond b (stands (stand_of m)) (if_room (nat_lt (length full) walk.most_atoms) claim too_many_atoms (with_atom (stand_of m) (full_atom ts x))))
      (already_at full k (full_atom ts x) (full_at ts m.atoms k x e));
  stands_there = e;
}

atom-made : (m : BuilderModel) (xs : List (ℕ × Kind)) (x : ℕ × Kind) (k : ℕ) → IsMade m → x.0 < length m.nodes → AreAtoms xs → AtomInterned m.atoms xs x k → AtomMade m xs x k
atom-made m xs x k h b t i = elim i.1 [
  | inl e ↦ subst (λ (ys : List (ℕ × Kind)). AtomMade m ys x k) (sym e) (stood-there m x k h (ap (λ ys. slice_get ys k) (sym e) ∙ i.0))
  | inr e ↦ subst (λ (ys : List (ℕ × Kind)). AtomMade m ys x k) (sym e.0) (subst (λ (j : ℕ). AtomMade m (m.atoms ++ (x ∷ [])) x j) (sym e.1)
      (added m x h b e.2 (subst (λ (ys : List (ℕ × Kind)). AreAtoms ys) e.0 t)))
]

none-made : (m : BuilderModel) (x : ℕ × Kind) (claim : Place) → IsMade m → x.0 < length m.nodes → IsNewAtom m.atoms x → length m.atoms ≡ most_atoms →
    ask_atom claim (stand_of m) (full_atom (graph_terms m.nodes) x) ≡ stops claim too_many_atoms
none-made m x claim h b new full-up = let ts = graph_terms m.nodes in let full = map (full_atom ts) m.atoms in
    ap (λ b. cond b (stands (stand_of m)) (if_room (nat_lt (length full) walk.most_atoms) claim too_many_atoms (with_atom (stand_of m) (full_atom ts x)))) (new-by m.nodes m.atoms x h.graph h.atoms b new (already (full_atom ts x) full) refl)
    ∙ no-room (nat_lt (length full) walk.most_atoms) (lt-false (length full) walk.most_atoms (length-map m.atoms (full_atom ts) ∙ full-up)) claim (with_atom (stand_of m) (full_atom ts x))

-- the atom of that number, and the number of that atom
is-atom : (m : BuilderModel) (xs : List (ℕ × Kind)) (x : ℕ × Kind) (k : ℕ) → AtomMade m xs x k → IsAtom (with_atoms m xs) (full_atom (graph_terms m.nodes) x) k
is-atom m xs x k a = let full = map (full_atom (graph_terms m.nodes)) xs in let y = full_atom (graph_terms m.nodes) x in let there = full_at (graph_terms m.nodes) xs k x a.stands_there in
    (get_below xs k x a.stands_there, number_at full k y (full_once m.nodes xs a.made.graph a.made.table a.made.atoms) there, already_at full k y there)

pub kept_ask : (m m' : BuilderModel) (xs : List (ℕ × Kind)) (x : ℕ × Kind) (r : Result ℕ NoNode) → m ≡ m' → IsMade m → x.0 < length m'.nodes → AreAtoms xs →
    MatchResult r (AtomInterned m.atoms xs x) (AtomRefused m.atoms xs x) → IsMade (with_atoms m xs)
kept_ask m m' xs x r e h b t i = go r i
  where
    there : x.0 < length m.nodes
    there = subst (λ (n : BuilderModel). x.0 < length n.nodes) (sym e) b

    go : (r : Result ℕ NoNode) → MatchResult r (AtomInterned m.atoms xs x) (AtomRefused m.atoms xs x) → IsMade (with_atoms m xs)
    go (Ok k) i = (atom-made m xs x k h there t i).made
    go (Err (TooMany Atoms)) i = subst (λ (ys : List (ℕ × Kind)). IsMade (with_atoms m ys)) (sym i.0) h
    go (Err (TooMany Nodes)) i = absurd i
    go (Err (TooMany Forms)) i = absurd i
    go (Err Memory) i = subst (λ (ys : List (ℕ × Kind)). IsMade (with_atoms m ys)) (sym i) h

pub seen_ask : (m m' : BuilderModel) (xs : List (ℕ × Kind)) (x : ℕ × Kind) (r : Result ℕ NoNode) (s : Result ℕ Stop) → m ≡ m' → s ≡ limited_to r → IsMade m → x.0 < length m'.nodes → AreAtoms xs →
    MatchResult r (AtomInterned m.atoms xs x) (AtomRefused m.atoms xs x) →
    Does m' (with_atoms m xs) (λ claim s. ask_atom claim s (full_atom (graph_terms m'.nodes) x)) s (IsAtom (with_atoms m xs) (full_atom (graph_terms m'.nodes) x))
unfolding Rattle.term_build.specs.Does.IsBeyond
seen_ask m m' xs x r s e d h b t i =
    subst (λ (n : BuilderModel). Does n (with_atoms m xs) (λ claim s. ask_atom claim s (full_atom (graph_terms n.nodes) x)) s (IsAtom (with_atoms m xs) (full_atom (graph_terms n.nodes) x))) e
    (subst (λ (s : Result ℕ Stop). Does m (with_atoms m xs) (λ claim s. ask_atom claim s (full_atom (graph_terms m.nodes) x)) s (IsAtom (with_atoms m xs) (full_atom (graph_terms m.nodes) x))) (sym d) (go r i))
  where
    there : x.0 < length m.nodes
    there = subst (λ (n : BuilderModel). x.0 < length n.nodes) (sym e) b

    go : (r : Result ℕ NoNode) → MatchResult r (AtomInterned m.atoms xs x) (AtomRefused m.atoms xs x) →
        Does m (with_atoms m xs) (λ claim s. ask_atom claim s (full_atom (graph_terms m.nodes) x)) (limited_to r) (IsAtom (with_atoms m xs) (full_atom (graph_terms m.nodes) x))
    go (Ok k) i = let a = atom-made m xs x k h there t i in (a.does, is-atom m xs x k a)
    go (Err (TooMany Atoms)) i = λ claim. none-made m x claim h there i.2 i.1
    go (Err (TooMany Nodes)) i = absurd i
    go (Err (TooMany Forms)) i = absurd i
    go (Err Memory) i = λ claim. tt
