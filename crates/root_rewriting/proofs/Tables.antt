-- The table, constant by constant.
use Rattle.std.proofs.Common.{◌≡◌, ◌<◌, ◌≤◌, ◌+◌, ℕ, suc, List, [], ◌∷◌, ◌++◌, length, get_or, drop, take, map, Bool, false, not, ◌&&◌, refl, ap, ap₂, sym, ◌∙◌, subst, arith, append_assoc, add-one}
use Rattle.std.proofs.Math.ListN.{drop_of_length-le}
use Rattle.std.proofs.Math.Seq.{drop-cons, take-length, take-suc}
use Rattle.std.proofs.lemmas.List.{append-nil, get_or-map, length_push, map-append}
use Rattle.std.proofs.lemmas.Option.{slice_get_within}
use Rattle.script_roots.specs.Tree.{Tree, formless, root, is_number, holds_choice, holds_root}
use Rattle.script_roots.specs.Ranges.{Ranges, avoids_nought, enclosed}
use Rattle.script_roots.specs.Fresh as model
use Rattle.script_roots.specs.Fresh.{fresh_in, fresh_of, named_from, once, quotient_name, root_name, stands_alone}
use Rattle.script_roots.proofs.Table.{all_join}
use Rattle.root_rewriting.specs.Asserted.{AreAsserted, IsAsserted}
use Rattle.root_rewriting.specs.Nodes.{AreFacts, node_tree, parts_at, tree_at, trees_in}
use Rattle.root_rewriting.specs.declared.unfold.assertions.Assertion as code
use Rattle.root_rewriting.specs.declared.unfold.trees.Facts.{Facts}
use Rattle.root_rewriting.specs.declared.unfold.trees.Node.{Node}
use Rattle.root_rewriting.specs.declared.unfold.trees.Node.TheVariants as nodes
use Rattle.interval_model.specs.Interval.{everything}
use Rattle.ival.specs.Views.{interval_of}
use Rattle.script_fault.specs.declared.place.Place as code_place
use Rattle.script_model.specs.Sexp.{Place}
use Rattle.ival.specs.declared.ends.Ival.{Ival}
use Rattle.root_rewriting.proofs.Arena.{nodes_length, tree_got}
use Rattle.root_rewriting.specs.Found.{AreOwn, IsFound, IsSized, is_own}
use Rattle.root_rewriting.specs.Enclosures.{AreEnclosures}
use Rattle.root_rewriting.specs.Table.{AreEntriesBelow, entry_of}
use Rattle.root_rewriting.specs.declared.found.Found.{Found}
use Rattle.root_rewriting.specs.declared.found.Source.{Source}
use Rattle.root_rewriting.specs.declared.constants.Fresh.{Fresh}
use Rattle.root_rewriting.proofs.Once.{once_join}

-- ---- names

pub named_next : (ts : List Tree) (order : List ℕ) (i r q r' q' : ℕ) (table new : List Fresh) (f : Fresh) (all : List (List ℕ × Tree)) → i < length order → new ≡ table ++ (f ∷ []) →
    ((rest : List Tree) → named_from r q (tree_at ts (get_or order i 0) ∷ rest) ≡ entry_of ts f ∷ named_from r' q' rest) →
    map (entry_of ts) table ++ named_from r q (parts_at ts (drop i order)) ≡ all → map (entry_of ts) new ++ named_from r' q' (parts_at ts (drop (i + 1) order)) ≡ all
named_next ts order i r q r' q' table new f all lt is names h =
    let E = entry_of ts in
    let later = parts_at ts (drop (i + 1) order) in
    let one : drop i order ≡ get_or order i 0 ∷ drop (i + 1) order = drop-cons order i 0 lt ∙ ap (λ n. get_or order i 0 ∷ drop n order) (sym (add-one i)) in
    ap (λ us. map E us ++ named_from r' q' later) is ∙ ap (λ us. us ++ named_from r' q' later) (map-append E table (f ∷ [])) ∙
    append_assoc (map E table) (E f ∷ []) (named_from r' q' later) ∙ ap (λ us. map E table ++ us) (sym (names later)) ∙
    ap (λ ks. map E table ++ named_from r q (parts_at ts ks)) (sym one) ∙ h

pub entries_end : (n : ℕ) (table new : List Fresh) (f : Fresh) → new ≡ table ++ (f ∷ []) → AreEntriesBelow n table → f.tree < n → AreEntriesBelow n new
entries_end n table new f is h lt = subst (λ us. AreEntriesBelow n us) (sym is) (all_join (λ (g : Fresh). g.tree < n) table (f ∷ []) h (lt, tt))

-- ---- assertions

-- the first assertion and what follows it
pub record Begins (ts : List Tree) (c : code.Assertion) (cs : List code.Assertion) (claims : List model.Asserted) : Type 0 where
  pub first : model.Asserted
  pub rest : List model.Asserted
  pub is : claims ≡ first ∷ rest
  pub one : IsAsserted ts c first
  pub others : AreAsserted ts cs rest

pub begins : (ts : List Tree) (c : code.Assertion) (cs : List code.Assertion) (claims : List model.Asserted) → AreAsserted ts (c ∷ cs) claims → Begins ts c cs claims
begins ts c cs [] h = absurd h
begins ts c cs (a ∷ claims) h = record { first = a; rest = claims; is = refl; one = h.0; others = h.1 }

pub none_begins : (ts : List Tree) (claims : List model.Asserted) → AreAsserted ts [] claims → claims ≡ []
none_begins ts [] h = refl
none_begins ts (a ∷ claims) h = absurd h

pub tree_there : (ts : List Tree) (c : code.Assertion) (a : model.Asserted) → IsAsserted ts c a → tree_at ts c.tree ≡ a.tree
tree_there ts c a h = tree_got ts c.tree a.tree h.tree

pub tree_within : (ts : List Tree) (c : code.Assertion) (a : model.Asserted) → IsAsserted ts c a → c.tree < length ts
tree_within ts c a h = slice_get_within ts c.tree a.tree h.tree

-- what the assertions that are left add to what was found
pub record Orders (names : Ranges) (s : Source) (f : Found) (cs : List code.Assertion) (claims : List model.Asserted) : Type 0 where
  pub left : List model.Asserted
  pub seen : List Tree
  pub are : AreAsserted (trees_in s.trees.now) cs left
  pub found : IsFound names s f seen
  pub ends : once seen (fresh_of names left) ≡ once [] (fresh_of names claims)

pub orders_next : (names : Ranges) (s : Source) (f g : Found) (c : code.Assertion) (cs all : List code.Assertion) (claims : List model.Asserted) → all ≡ c ∷ cs → Orders names s f all claims →
    ((seen : List Tree) → IsFound names s f seen → IsFound names s g (once seen (fresh_in names (tree_at (trees_in s.trees.now) c.tree)))) → Orders names s g cs claims
orders_next names s f g c cs all claims is o walks =
    let ts = trees_in s.trees.now in
    let b = begins ts c cs o.left (subst (λ us. AreAsserted ts us o.left) is o.are) in
    let here : tree_at ts c.tree ≡ b.first.tree = tree_there ts c b.first b.one in
    record {
      left = b.rest;
      seen = once o.seen (fresh_in names (tree_at ts c.tree));
      are = b.others;
      found = walks o.seen o.found;
      ends = ap (λ t. once (once o.seen (fresh_in names t)) (fresh_of names b.rest)) here ∙ sym (once_join o.seen (fresh_in names b.first.tree) (fresh_of names b.rest)) ∙
          ap (λ us. once o.seen (fresh_of names us)) (sym b.is) ∙ o.ends;
    }

pub orders_end : (names : Ranges) (s : Source) (f : Found) (cs : List code.Assertion) (claims : List model.Asserted) → cs ≡ [] → Orders names s f cs claims →
    parts_at (trees_in s.trees.now) f.order.items ≡ once [] (fresh_of names claims)
orders_end names s f cs claims is o =
    let ts = trees_in s.trees.now in
    let none = none_begins ts o.left (subst (λ us. AreAsserted ts us o.left) is o.are) in
    o.found.order ∙ ap (λ us. once o.seen (fresh_of names us)) (sym none) ∙ o.ends

-- the first assertions are done
pub record InOrder (s : Source) (f : Found) (all rest : List code.Assertion) : Type 0 where
  pub sized : IsSized (length s.trees.now) f
  pub some : (claims : List model.Asserted) × AreAsserted (trees_in s.trees.now) rest claims
  pub orders : (names : Ranges) (claims : List model.Asserted) → AreOwn names (trees_in s.trees.now) s.own.now → AreAsserted (trees_in s.trees.now) all claims → Orders names s f rest claims

-- ---- names, one after the other

pub record NamedSoFar (ts : List Tree) (order : List ℕ) (n r q : ℕ) (table : List Fresh) : Type 0 where
  pub count : r + q ≡ n
  pub names : map (entry_of ts) table ++ named_from r q (parts_at ts (drop n order)) ≡ named_from 0 0 (parts_at ts order)
  pub below : AreEntriesBelow (length ts) table

-- ---- for which trees constants are to stand

pub record OwnSoFar (ns : List Node) (ranges : List Ival) (own : List Bool) : Type 0 where
  pub within : length own ≤ length ns
  pub are : (names : Ranges) → AreEnclosures names (trees_in ns) ranges → own ≡ map (is_own names) (take (length own) (trees_in ns))

pub own_more : (ns : List Node) (ranges : List Ival) (own new : List Bool) (b : Bool) → OwnSoFar ns ranges own → length own < length ns → new ≡ own ++ (b ∷ []) →
    ((names : Ranges) → AreEnclosures names (trees_in ns) ranges → b ≡ is_own names (tree_at (trees_in ns) (length own))) → OwnSoFar ns ranges new
own_more ns ranges own new b o lt is here = record {
  within = omega (arith, ap length is, length_push own b);
  are = λ names e.
      let ts = trees_in ns in
      let d = formless (record { line = 0; column = 0 }) in
      let long : length own < length ts = omega (arith, nodes_length ns) in
      let count : length new ≡ suc (length own) = omega (arith, ap length is, length_push own b) in
      is ∙ ap₂ (λ us c. us ++ (c ∷ [])) (o.are names e) (here names e) ∙ sym (map-append (is_own names) (take (length own) ts) (tree_at ts (length own) ∷ [])) ∙
      ap (map (is_own names)) (sym (take-suc ts (length own) d long)) ∙ ap (λ n. map (is_own names) (take n ts)) (sym count);
}

pub own_all : (ns : List Node) (ranges : List Ival) (own : List Bool) → OwnSoFar ns ranges own → length ns ≤ length own → (names : Ranges) → AreEnclosures names (trees_in ns) ranges → AreOwn names (trees_in ns) own
own_all ns ranges own o le names e =
    let ts = trees_in ns in
    let within = o.within in
    let count : length own ≡ length ts = omega (arith, nodes_length ns) in
    o.are names e ∙ ap (λ n. map (is_own names) (take n ts)) count ∙ ap (map (is_own names)) (take-length ts)

pub own_none : (ns : List Node) (ranges : List Ival) (own : List Bool) → own ≡ [] → OwnSoFar ns ranges own
own_none ns ranges own e = subst (λ (bs : List Bool). OwnSoFar ns ranges bs) (sym e) (record { within = omega arith; are = λ names h. refl })

-- ---- the enclosure of a tree

pub enclosed_there : (names : Ranges) (ts : List Tree) (ranges : List Ival) (k : ℕ) (i : Ival) → AreEnclosures names ts ranges → k < length ranges → k < length ts → i ≡ get_or ranges k i →
    interval_of i ≡ enclosed names (tree_at ts k)
enclosed_there names ts ranges k i e lt within h =
    ap interval_of h ∙ sym (get_or-map interval_of ranges k i everything lt) ∙ ap (λ is. get_or is k everything) e ∙
    get_or-map (enclosed names) ts k (formless (record { line = 0; column = 0 })) everything within

pub alone_is : (names : Ranges) (t d : Tree) (over under : Facts) (m : Bool) → AreFacts over t → AreFacts under d → m ≡ avoids_nought (enclosed names d) →
    (not under.is_number && not over.holds_choice && not under.holds_choice && not under.holds_root && m) ≡ stands_alone names t d
alone_is names t d over under m f g h =
    ap (λ b. not b && not over.holds_choice && not under.holds_choice && not under.holds_root && m) g.number ∙
    ap (λ b. not (is_number d) && not b && not under.holds_choice && not under.holds_root && m) f.choice ∙
    ap (λ b. not (is_number d) && not (holds_choice t) && not b && not under.holds_root && m) g.choice ∙
    ap (λ b. not (is_number d) && not (holds_choice t) && not (holds_choice d) && not b && m) g.root ∙
    ap (λ b. not (is_number d) && not (holds_choice t) && not (holds_choice d) && not (holds_root d) && b) h

-- ---- the next constant

pub next_root : (ts : List Tree) (at r q : ℕ) (place : Place) (t : Tree) → tree_at ts at ≡ root place t → (rest : List Tree) →
    named_from r q (tree_at ts at ∷ rest) ≡ (root_name r, tree_at ts at) ∷ named_from (r + 1) q rest
next_root ts at r q place t is rest = ap (λ u. named_from r q (u ∷ rest)) is ∙ ap₂ (λ u n. (root_name r, u) ∷ named_from n q rest) (sym is) (sym (add-one r))

quotient-next : (ts : List Tree) (r q : ℕ) (node : Node) → ((p : code_place.Place) (k : ℕ) → node ≡ nodes.Root p k → ⊥) → (rest : List Tree) →
    named_from r q (node_tree ts node ∷ rest) ≡ (quotient_name q, node_tree ts node) ∷ named_from r (q + 1) rest
quotient-next ts r q (nodes.Atomic p a) rootless rest = ap (λ n. (quotient_name q, node_tree ts (nodes.Atomic p a)) ∷ named_from r n rest) (sym (add-one q))
quotient-next ts r q (nodes.Applied p name ks) rootless rest = ap (λ n. (quotient_name q, node_tree ts (nodes.Applied p name ks)) ∷ named_from r n rest) (sym (add-one q))
quotient-next ts r q (nodes.Root p k) rootless rest = absurd (rootless p k refl)
quotient-next ts r q (nodes.Quotient p k d) rootless rest = ap (λ n. (quotient_name q, node_tree ts (nodes.Quotient p k d)) ∷ named_from r n rest) (sym (add-one q))
quotient-next ts r q (nodes.Formless p) rootless rest = ap (λ n. (quotient_name q, node_tree ts (nodes.Formless p)) ∷ named_from r n rest) (sym (add-one q))

pub next_quotient : (ts : List Tree) (at r q : ℕ) (node : Node) → tree_at ts at ≡ node_tree ts node → ((p : code_place.Place) (k : ℕ) → node ≡ nodes.Root p k → ⊥) → (rest : List Tree) →
    named_from r q (tree_at ts at ∷ rest) ≡ (quotient_name q, tree_at ts at) ∷ named_from r (q + 1) rest
next_quotient ts at r q node is rootless rest =
    ap (λ u. named_from r q (u ∷ rest)) is ∙ quotient-next ts r q node rootless rest ∙ ap (λ u. (quotient_name q, u) ∷ named_from r (q + 1) rest) (sym is)

pub not_own : (names : Ranges) (ts : List Tree) (node : Node) → ((p : code_place.Place) (k : ℕ) → node ≡ nodes.Root p k → ⊥) → ((p : code_place.Place) (k d : ℕ) → node ≡ nodes.Quotient p k d → ⊥) →
    false ≡ is_own names (node_tree ts node)
not_own names ts (nodes.Atomic p a) rootless none = refl
not_own names ts (nodes.Applied p name ks) rootless none = refl
not_own names ts (nodes.Root p k) rootless none = absurd (rootless p k refl)
not_own names ts (nodes.Quotient p k d) rootless none = absurd (none p k d refl)
not_own names ts (nodes.Formless p) rootless none = refl

pub named_all : (ts : List Tree) (order : List ℕ) (n r q : ℕ) (table : List Fresh) → length order ≤ n → NamedSoFar ts order n r q table → map (entry_of ts) table ≡ named_from 0 0 (parts_at ts order)
named_all ts order n r q table le h =
    sym (ap (λ ks. map (entry_of ts) table ++ named_from r q (parts_at ts ks)) (drop_of_length-le order le) ∙ append-nil (map (entry_of ts) table)) ∙ h.names
