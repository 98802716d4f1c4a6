-- What a step of the writing of a tree leaves.
use Rattle.std.proofs.Common.{◌≡◌, ◌<◌, ◌≤◌, ℕ, ◌+◌, List, [], ◌∷◌, ◌++◌, length, length-append, refl, ap, sym, ◌∙◌, subst, arith}
use Rattle.std.proofs.lemmas.List.{length_push}
use Rattle.script_model.specs.Sexp.{symbol, Sexp, leaf, group, Sexps, none, more}
use Rattle.script_roots.specs.Tree.{Tree, trees_of}
use Rattle.script_roots.specs.Fresh.{Table}
use Rattle.script_roots.specs.Rewritten.{spelled, all_spelled}
use Rattle.script_roots.specs.Refused.{tokens_of, all_tokens, most_tokens}
use Rattle.smt_sexp.specs.Arena.{shut_bead}
use Rattle.smt_sexp.specs.Building.{flat, flats, group_of}
use Rattle.smt_sexp.specs.Lexicon.{Unclosed, backwards, put}
use Rattle.smt_sexp.specs.Writing.{HasOpen, Shuts, Written, Writes, tokens_in}
use Rattle.smt_sexp.specs.declared.writing.Writer.{Writer}
use Rattle.root_rewriting.specs.Nodes.{node_tree, parts_at, tree_at, trees_in}
use Rattle.root_rewriting.specs.declared.unfold.trees.Node.{Node}
use Rattle.root_rewriting.specs.declared.unfold.trees.Node.TheVariants as nodes
use Rattle.root_rewriting.specs.Spelling.{AreNamed, BeginsGroup, CanSpell, IsWriting, Spells, closings, parts_of, tokens_left, written_after, written_by}
use Rattle.root_rewriting.specs.Walk.{AreWorks, enters, node_parts}
use Rattle.root_rewriting.specs.declared.spelling.Spelling.{Spelling}
use Rattle.root_rewriting.specs.declared.walk.Work.{Work}
use Rattle.root_rewriting.specs.declared.walk.Work.TheVariants.{Enter, Leave}

-- ---- tokens

mutual
  pub flat_tokens : (e : Sexp) → length (flat e) ≡ tokens_of e
  flat_tokens (leaf at l) = refl
  flat_tokens (group at items) = let n = flats_tokens items in omega (arith, length_push (flats items) shut_bead)

  flats_tokens : (items : Sexps) → length (flats items) ≡ all_tokens items
  flats_tokens none = refl
  flats_tokens (more e rest) = let n = flat_tokens e in let m = flats_tokens rest in omega (arith, length-append (flat e) (flats rest))

-- ---- stacks

pub closings_join : (xs ys : List Work) → closings (xs ++ ys) ≡ closings xs + closings ys
closings_join [] ys = omega arith
closings_join (Enter at ∷ xs) ys = closings_join xs ys
closings_join (Leave at ∷ xs) ys = let n = closings_join xs ys in omega arith

closings_enters : (ks : List ℕ) → closings (enters ks) ≡ 0
closings_enters [] = refl
closings_enters (k ∷ ks) = let n = closings_join (enters ks) (Enter k ∷ []) in let m = closings_enters ks in omega arith

length_put : (e : Sexp) (us : List Unclosed) (tops : List Sexp) → length (put e us tops).0 ≡ length us
length_put e [] tops = refl
length_put e (u ∷ us) tops = refl

parts_node : (ts : List Tree) (node : Node) → parts_of (node_tree ts node) ≡ trees_of (parts_at ts (node_parts node))
parts_node ts (nodes.Atomic at a) = refl
parts_node ts (nodes.Applied at name ks) = refl
parts_node ts (nodes.Root at k) = refl
parts_node ts (nodes.Quotient at k d) = refl
parts_node ts (nodes.Formless at) = refl

module _ (table : Table) (ts : List Tree) where
  after_join : (xs ys : List Work) (s : List Unclosed × List Sexp) → written_after table ts (xs ++ ys) s ≡ written_after table ts xs (written_after table ts ys s)
  after_join [] ys s = refl
  after_join (w ∷ xs) ys s = ap (written_by table ts w) (after_join xs ys s)

  left_join : (xs ys : List Work) → tokens_left table ts (xs ++ ys) ≡ tokens_left table ts xs + tokens_left table ts ys
  left_join [] ys = omega arith
  left_join (w ∷ xs) ys = let n = left_join xs ys in omega arith

  -- what is open, with these trees written in it
  abbrev with_trees : List Tree → Unclosed → Unclosed
  with_trees [] u = u
  with_trees (t ∷ us) u = with_trees us (record { opened = u.opened; before = spelled table t ∷ u.before })

  after_enters : (ks : List ℕ) (u : Unclosed) (us : List Unclosed) (tops : List Sexp) → written_after table ts (enters ks) (u ∷ us, tops) ≡ (with_trees (parts_at ts ks) u ∷ us, tops)
  after_enters [] u us tops = refl
  after_enters (k ∷ ks) u us tops =
      after_join (enters ks) (Enter k ∷ []) (u ∷ us, tops) ∙ after_enters ks (record { opened = u.opened; before = spelled table (tree_at ts k) ∷ u.before }) us tops

  group_with : (vs : List Tree) (u : Unclosed) → group_of (with_trees vs u) ≡ group u.opened (backwards u.before (all_spelled table (trees_of vs)))
  group_with [] u = refl
  group_with (t ∷ vs) u = group_with vs (record { opened = u.opened; before = spelled table t ∷ u.before })

  left_enters : (ks : List ℕ) → tokens_left table ts (enters ks) ≡ all_tokens (all_spelled table (trees_of (parts_at ts ks)))
  left_enters [] = refl
  left_enters (k ∷ ks) = let n = left_join (enters ks) (Enter k ∷ []) in let m = left_enters ks in omega arith

  -- ---- a step

  -- a tree is written whole
  pub spells_whole : (w v : Writer) (stack : List Work) (at : ℕ) (end : List Unclosed × List Sexp) (tokens : ℕ) → Writes w v (spelled table (tree_at ts at)) →
      Spells table ts w (stack ++ (Enter at ∷ [])) end tokens → Spells table ts v stack end tokens
  spells_whole w v stack at end tokens writes s =
      let e = spelled table (tree_at ts at) in
      record {
        us = (put e s.us s.tops).0;
        tops = (put e s.us s.tops).1;
        stands = writes.stands s.us s.tops s.stands;
        «open» = omega (arith, s.«open», closings_join stack (Enter at ∷ []), length_put e s.us s.tops);
        ends = sym (after_join stack (Enter at ∷ []) (s.us, s.tops)) ∙ s.ends;
        count = omega (arith, s.count, writes.count, flat_tokens e, left_join stack (Enter at ∷ []));
      }

  -- a group is closed
  pub spells_left : (w v : Writer) (stack : List Work) (at : ℕ) (end : List Unclosed × List Sexp) (tokens : ℕ) → Shuts w v → tokens_in v ≡ tokens_in w + 1 →
      Spells table ts w (stack ++ (Leave at ∷ [])) end tokens → Spells table ts v stack end tokens
  spells_left w v stack at end tokens shuts count s = go s.us s.stands s.«open» s.ends
    where
      go : (us : List Unclosed) → Written w us s.tops → closings (stack ++ (Leave at ∷ [])) ≤ length us → written_after table ts (stack ++ (Leave at ∷ [])) (us, s.tops) ≡ end →
          Spells table ts v stack end tokens
      go [] stands some ends = absurd (omega (arith, some, closings_join stack (Leave at ∷ [])))
      go (u ∷ us) stands some ends = record {
        us = (put (group_of u) us s.tops).0;
        tops = (put (group_of u) us s.tops).1;
        stands = shuts u us s.tops stands;
        «open» = omega (arith, some, closings_join stack (Leave at ∷ []), length_put (group_of u) us s.tops);
        ends = sym (after_join stack (Leave at ∷ []) (u ∷ us, s.tops)) ∙ ends;
        count = omega (arith, s.count, count, left_join stack (Leave at ∷ []));
      }

  -- a group is begun, and its parts are to be written
  pub spells_begun : (w v : Writer) (stack all : List Work) (at : ℕ) (node : Node) (end : List Unclosed × List Sexp) (tokens : ℕ) → tree_at ts at ≡ node_tree ts node →
      all ≡ (stack ++ (Leave at ∷ [])) ++ enters (node_parts node) → BeginsGroup table w v (tree_at ts at) →
      Spells table ts w (stack ++ (Enter at ∷ [])) end tokens → Spells table ts v all end tokens
  spells_begun w v stack all at node end tokens is work begins s = subst (λ us. Spells table ts v us end tokens) (sym work) (record {
    us = u ∷ s.us;
    tops = s.tops;
    stands = begins.heads.stands s.us s.tops s.stands;
    «open» = omega (arith, s.«open», closings_join stack (Enter at ∷ []), closings_join stack (Leave at ∷ []), closings_join (stack ++ (Leave at ∷ [])) (enters ks), closings_enters ks);
    ends = after_join (stack ++ (Leave at ∷ [])) (enters ks) (u ∷ s.us, s.tops) ∙ ap (written_after table ts (stack ++ (Leave at ∷ []))) (after_enters ks u s.us s.tops) ∙
        after_join stack (Leave at ∷ []) (with_trees (parts_at ts ks) u ∷ s.us, s.tops) ∙ ap (λ e. written_after table ts stack (put e s.us s.tops)) (group_with (parts_at ts ks) u ∙ sym spelled_is) ∙
        sym (after_join stack (Enter at ∷ []) (s.us, s.tops)) ∙ s.ends;
    count = omega (arith, s.count, begins.heads.count, left_join stack (Enter at ∷ []), left_join stack (Leave at ∷ []), left_join (stack ++ (Leave at ∷ [])) (enters ks), left_enters ks, ap tokens_of spelled_is);
  })
    where
      ks : List ℕ
      ks = node_parts node

      u : Unclosed
      u = record { opened = begins.at; before = leaf begins.at (symbol begins.name) ∷ [] }

      spelled_is : spelled table (tree_at ts at) ≡ group begins.at (more (leaf begins.at (symbol begins.name)) (all_spelled table (trees_of (parts_at ts ks))))
      spelled_is = begins.is ∙ ap (λ us. group begins.at (more (leaf begins.at (symbol begins.name)) (all_spelled table us))) (ap parts_of is ∙ parts_node ts node)

-- ---- the writing of a tree, as far as it came

pub record InSpelling (s : Spelling) (start : Writer) (at : ℕ) (w : Writer) (stack : List Work) : Type 0 where
  pub works : AreWorks (length s.trees.now) stack
  pub spells : (table : Table) (us : List Unclosed) (tops : List Sexp) → AreNamed table s → Written start us tops →
      Spells table (trees_in s.trees.now) w stack (put (spelled table (tree_at (trees_in s.trees.now) at)) us tops) (tokens_in start + tokens_of (spelled table (tree_at (trees_in s.trees.now) at)))

-- one tree is to be written
pub spelling_begins : (s : Spelling) (w : Writer) (at : ℕ) (stack : List Work) → stack ≡ Enter at ∷ [] → at < length s.trees.now → InSpelling s w at w stack
spelling_begins s w at stack is lt = subst (λ us. InSpelling s w at w us) (sym is) (record {
  works = (lt, tt);
  spells = λ table us tops named h. record { us = us; tops = tops; stands = h; «open» = omega arith; ends = refl; count = omega arith };
})

module _ (s : Spelling) (start w : Writer) (at : ℕ) (stack : List Work) (h : InSpelling s start at w stack) where
  pub can_spell : (table : Table) × AreNamed table s → IsWriting start → CanSpell s w stack
  can_spell named writing = (named.0, _, _, named.1, h.spells named.0 writing.0 writing.1 named.1 writing.2)

  -- nothing is left to be done
  pub spelling_ended : stack ≡ [] → IsWriting start → (table : Table) → AreNamed table s → Writes start w (spelled table (tree_at (trees_in s.trees.now) at))
  spelling_ended is writing table named =
      let e = spelled table (tree_at (trees_in s.trees.now) at) in
      record {
        stands = λ us tops k.
            let end = subst (λ works. Spells table (trees_in s.trees.now) w works (put e us tops) (tokens_in start + tokens_of e)) is (h.spells table us tops named k) in
            subst (λ p. Written w p.0 p.1) end.ends end.stands;
        count =
            let end = subst (λ works. Spells table (trees_in s.trees.now) w works (put e writing.0 writing.1) (tokens_in start + tokens_of e)) is (h.spells table writing.0 writing.1 named writing.2) in
            omega (arith, end.count, flat_tokens e);
      }

  -- more tokens than may be
  pub spelling_stops : most_tokens < tokens_in w → IsWriting start → (table : Table) → AreNamed table s →
      most_tokens < tokens_in start + tokens_of (spelled table (tree_at (trees_in s.trees.now) at))
  spelling_stops many writing table named =
      let so_far = h.spells table writing.0 writing.1 named writing.2 in omega (arith, so_far.count, many)

-- a group is to be closed
pub can_close : (s : Spelling) (w : Writer) (stack : List Work) (at : ℕ) → CanSpell s w (stack ++ (Leave at ∷ [])) → HasOpen w
can_close s w stack at can = let k = can.4 in (k.us, k.tops, k.stands, omega (arith, k.«open», closings_join stack (Leave at ∷ [])))
