-- Rows of trees for rows of states, with one more at their end, and over more lemmas.
use Rattle.std.proofs.Common.{◌≡◌, ℕ, suc, ◌+◌, List, [], ◌∷◌, ◌++◌, drop, length, append_assoc, Bool, true, false, cond, All, IsTrue, refl, ap, sym, ◌∙◌, subst, arith}
use Rattle.std.specs.Prelude.{sum_by}
use Rattle.std.proofs.lemmas.List.{append-nil, map-append}
use Rattle.std.proofs.lemmas.List.Sums.{sum_by-append}
use Rattle.poly_graph.specs.Problem.{Problem}
use Rattle.cover_model.specs.State.{State, Loosenings}
use Rattle.cover_model.specs.Honest.{is_honest}
use Rattle.cover_model.specs.Rules.{Line}
use Rattle.cover_model.specs.Derivation.{Tree, tree_lines}
use Rattle.cert_read.specs.CertLine.{CertLine}
use Rattle.cert_model.specs.Due.{Standing}
use Rattle.cert_model.specs.Written.{AreLemmaTrees, LemmaTree, lemma_lines, lemma_states, lemmas_lines, left_standing, tree_branches}
use Rattle.cert_resumed.specs.Resumed.{AreGrafts, AreShared, IsGraft, IsShared, Share, each_left, grafted, is_leaving, is_own, leaving_lines, lines_at, others, own_left}
use Rattle.cert_resumed.proofs.Grows.{lawful_with_more}
use Rattle.cert_resume.specs.Going.{standings}

-- ---- more lemmas

module _ (p : Problem) (s : Loosenings) (lemmas more : List State) where
  graft-more : (x : Standing) (t : Tree) → IsGraft p s lemmas x t → IsGraft p s (lemmas ++ more) x t
  graft-more x t g = record { left = g.left; lawful = (lawful_with_more p s lemmas more g.lawful).0; names = g.names }

  pub grafts_more : (left : List Standing) (ts : List Tree) → AreGrafts p s lemmas left ts → AreGrafts p s (lemmas ++ more) left ts
  grafts_more [] [] h = tt
  grafts_more [] (t ∷ ts) h = absurd h
  grafts_more (x ∷ left) [] h = absurd h
  grafts_more (x ∷ left) (t ∷ ts) h = (graft-more x t h.0, grafts_more left ts h.1)

  pub each_more : (left : List Standing) (ts : List Tree) → AreGrafts p s lemmas left ts → each_left p s (lemmas ++ more) left ts ≡ each_left p s lemmas left ts
  each_more [] [] h = refl
  each_more [] (t ∷ ts) h = absurd h
  each_more (x ∷ left) [] h = absurd h
  each_more (x ∷ left) (t ∷ ts) h =
      ap (λ (xs : List Standing). xs ∷ each_left p s (lemmas ++ more) left ts) (lawful_with_more p s lemmas more h.0.lawful).1
      ∙ ap (λ (xss : List (List Standing)). left_standing p s lemmas x.state t ∷ xss) (each_more left ts h.1)

  module _ (w : ℕ) (h : Share) where
    one-more : (own : Bool) (x : Standing) (t : Tree) → IsGraft p s lemmas x t → IsShared p w s lemmas own x t → IsShared p w s (lemmas ++ more) own x t
    one-more true x t g k = subst (All (λ (y : Standing). IsTrue (is_honest p w s y.state y.does))) (sym (lawful_with_more p s lemmas more g.lawful).2) k
    one-more false x t g k = k

    pub shared_more : (k : ℕ) (left : List Standing) (ts : List Tree) → AreGrafts p s lemmas left ts → AreShared p w s lemmas h k left ts → AreShared p w s (lemmas ++ more) h k left ts
    shared_more k [] [] g f = tt
    shared_more k [] (t ∷ ts) g f = absurd g
    shared_more k (x ∷ left) [] g f = absurd g
    shared_more k (x ∷ left) (t ∷ ts) g f = (one-more (is_own h k) x t g.0 f.0, shared_more (suc k) left ts g.1 f.1)

-- ---- one more state

module _ (p : Problem) (s : Loosenings) (lemmas : List State) (x : Standing) (t : Tree) where
  pub grafts_end : (left : List Standing) (ts : List Tree) → AreGrafts p s lemmas left ts → IsGraft p s lemmas x t → AreGrafts p s lemmas (left ++ (x ∷ [])) (ts ++ (t ∷ []))
  grafts_end [] [] h g = (g, tt)
  grafts_end [] (u ∷ ts) h g = absurd h
  grafts_end (y ∷ left) [] h g = absurd h
  grafts_end (y ∷ left) (u ∷ ts) h g = (h.0, grafts_end left ts h.1 g)

  pub each_end : (left : List Standing) (ts : List Tree) → AreGrafts p s lemmas left ts →
      each_left p s lemmas (left ++ (x ∷ [])) (ts ++ (t ∷ [])) ≡ each_left p s lemmas left ts ++ (left_standing p s lemmas x.state t ∷ [])
  each_end [] [] h = refl
  each_end [] (u ∷ ts) h = absurd h
  each_end (y ∷ left) [] h = absurd h
  each_end (y ∷ left) (u ∷ ts) h = ap (λ (xss : List (List Standing)). left_standing p s lemmas y.state u ∷ xss) (each_end left ts h.1)

  pub shared_end : (w : ℕ) (h : Share) (k : ℕ) (left : List Standing) (ts : List Tree) → AreShared p w s lemmas h k left ts → IsShared p w s lemmas (is_own h (k + length left)) x t →
      AreShared p w s lemmas h k (left ++ (x ∷ [])) (ts ++ (t ∷ []))
  shared_end w h k [] [] f g = let e : k + 0 ≡ k = omega arith in (subst (λ (n : ℕ). IsShared p w s lemmas (is_own h n) x t) e g, tt)
  shared_end w h k [] (u ∷ ts) f g = absurd f
  shared_end w h k (y ∷ left) [] f g = absurd f
  shared_end w h k (y ∷ left) (u ∷ ts) f g =
      let e : k + suc (length left) ≡ suc k + length left = omega arith in
      (f.0, shared_end w h (suc k) left ts f.1 (subst (λ (n : ℕ). IsShared p w s lemmas (is_own h n) x t) e g))

pub each_count : (p : Problem) (s : Loosenings) (lemmas : List State) (left : List Standing) (ts : List Tree) → AreGrafts p s lemmas left ts → length (each_left p s lemmas left ts) ≡ length left
each_count p s lemmas [] [] h = refl
each_count p s lemmas [] (t ∷ ts) h = absurd h
each_count p s lemmas (x ∷ left) [] h = absurd h
each_count p s lemmas (x ∷ left) (t ∷ ts) h = ap suc (each_count p s lemmas left ts h.1)

pub trees_count : (p : Problem) (s : Loosenings) (lemmas : List State) (left : List Standing) (ts : List Tree) → AreGrafts p s lemmas left ts → length ts ≡ length left
trees_count p s lemmas [] [] h = refl
trees_count p s lemmas [] (t ∷ ts) h = absurd h
trees_count p s lemmas (x ∷ left) [] h = absurd h
trees_count p s lemmas (x ∷ left) (t ∷ ts) h = ap suc (trees_count p s lemmas left ts h.1)

pub own_end : (h : Share) (k : ℕ) (xss : List (List Standing)) (ys : List Standing) → own_left h k (xss ++ (ys ∷ [])) ≡ own_left h k xss ++ cond (is_own h (k + length xss)) ys []
own_end h k [] ys = let e : k ≡ k + 0 = omega arith in append-nil (cond (is_own h k) ys []) ∙ ap (λ (n : ℕ). cond (is_own h n) ys []) e
own_end h k (xs ∷ xss) ys =
    let e : suc k + length xss ≡ k + suc (length xss) = omega arith in
    ap (λ (zs : List Standing). cond (is_own h k) xs [] ++ zs) (own_end h (suc k) xss ys ∙ ap (λ (n : ℕ). own_left h (suc k) xss ++ cond (is_own h n) ys []) e)
    ∙ sym (append_assoc (cond (is_own h k) xs []) (own_left h (suc k) xss) (cond (is_own h (k + suc (length xss))) ys []))

pub others_end : (h : Share) (k : ℕ) (xss : List (List Standing)) (ys : List Standing) → others h k (xss ++ (ys ∷ [])) ≡ others h k xss + cond (is_own h (k + length xss)) 0 1
others_end h k [] ys =
    let e : k ≡ k + 0 = omega arith in
    let z : others h k (ys ∷ []) ≡ 0 + cond (is_own h k) 0 1 = omega arith in
    z ∙ ap (λ (n : ℕ). 0 + cond (is_own h n) 0 1) e
others_end h k (xs ∷ xss) ys =
    let e : suc k + length xss ≡ k + suc (length xss) = omega arith in
    ap (λ (n : ℕ). cond (is_own h k) n (suc n)) (others_end h (suc k) xss ys ∙ ap (λ (n : ℕ). others h (suc k) xss + cond (is_own h n) 0 1) e)
    ∙ apart (is_own h k) (others h (suc k) xss) (cond (is_own h (k + suc (length xss))) 0 1)
  where
    apart : (b : Bool) (m n : ℕ) → cond b (m + n) (suc (m + n)) ≡ cond b m (suc m) + n
    apart true m n = refl
    apart false m n = omega arith

pub branches_end : (ts : List Tree) (t : Tree) → sum_by tree_branches (ts ++ (t ∷ [])) ≡ sum_by tree_branches ts + tree_branches t
branches_end ts t = omega (arith, sum_by-append tree_branches ts (t ∷ []))

-- ---- lines

pub leaving_end : (ls : List Line) (l : Line) → leaving_lines (ls ++ (l ∷ [])) ≡ leaving_lines ls ++ cond (is_leaving l) (l ∷ []) []
leaving_end [] l = refl
leaving_end (k ∷ ls) l = ap (λ (ms : List Line). cond (is_leaving k) (k ∷ ms) ms) (leaving_end ls l) ∙ both (is_leaving k)
  where
    both : (b : Bool) → cond b (k ∷ (leaving_lines ls ++ cond (is_leaving l) (l ∷ []) [])) (leaving_lines ls ++ cond (is_leaving l) (l ∷ []) []) ≡ cond b (k ∷ leaving_lines ls) (leaving_lines ls) ++ cond (is_leaving l) (l ∷ []) []
    both true = refl
    both false = refl

-- a line that leaves no state stays
pub grafted_other : (ls : List Line) (ts : List Tree) (l : Line) → is_leaving l ≡ false → grafted (ls ++ (l ∷ [])) ts ≡ grafted ls ts ++ (l ∷ [])
grafted_other [] ts l e = ap (λ (b : Bool). cond b (lines_at l ts ++ []) (l ∷ [])) e
grafted_other (k ∷ ls) ts l e = by (is_leaving k) (grafted_other ls (drop 1 ts) l e) (grafted_other ls ts l e)
  where
    by : (b : Bool) → grafted (ls ++ (l ∷ [])) (drop 1 ts) ≡ grafted ls (drop 1 ts) ++ (l ∷ []) → grafted (ls ++ (l ∷ [])) ts ≡ grafted ls ts ++ (l ∷ []) → cond b (lines_at k ts ++ grafted (ls ++ (l ∷ [])) (drop 1 ts)) (k ∷ grafted (ls ++ (l ∷ [])) ts) ≡ cond b (lines_at k ts ++ grafted ls (drop 1 ts)) (k ∷ grafted ls ts) ++ (l ∷ [])
    by true f g = ap (λ (ms : List Line). lines_at k ts ++ ms) f ∙ sym (append_assoc (lines_at k ts) (grafted ls (drop 1 ts)) (l ∷ []))
    by false f g = ap (λ (ms : List Line). k ∷ ms) g

-- one that does is replaced by the tree behind those for the lines before it
pub grafted_leaving : (ls : List Line) (ts : List Tree) (l : Line) (t : Tree) → is_leaving l ≡ true → length ts ≡ length (leaving_lines ls) → grafted (ls ++ (l ∷ [])) (ts ++ (t ∷ [])) ≡ grafted ls ts ++ tree_lines t
grafted_leaving [] [] l t e n = ap (λ (b : Bool). cond b (tree_lines t ++ []) (l ∷ [])) e ∙ append-nil (tree_lines t)
grafted_leaving [] (u ∷ ts) l t e n = absurd (omega (arith, n))
grafted_leaving (k ∷ ls) ts l t e n = by (is_leaving k) ts (λ us f. grafted_leaving ls us l t e f) n
  where
    by : (b : Bool) (us : List Tree) → ((vs : List Tree) → length vs ≡ length (leaving_lines ls) → grafted (ls ++ (l ∷ [])) (vs ++ (t ∷ [])) ≡ grafted ls vs ++ tree_lines t) → length us ≡ length (cond b (k ∷ leaving_lines ls) (leaving_lines ls)) →
        cond b (lines_at k (us ++ (t ∷ [])) ++ grafted (ls ++ (l ∷ [])) (drop 1 (us ++ (t ∷ [])))) (k ∷ grafted (ls ++ (l ∷ [])) (us ++ (t ∷ []))) ≡ cond b (lines_at k us ++ grafted ls (drop 1 us)) (k ∷ grafted ls us) ++ tree_lines t
    by true [] g f = absurd (omega (arith, f))
    by true (u ∷ us) g f = let m : length us ≡ length (leaving_lines ls) = omega (arith, f) in
        ap (λ (ms : List Line). tree_lines u ++ ms) (g us m) ∙ sym (append_assoc (tree_lines u) (grafted ls us) (tree_lines t))
    by false us g f = ap (λ (ms : List Line). k ∷ ms) (g us f)

-- ---- lemmas

pub lemma_trees_append : (p : Problem) (s : Loosenings) (before : List State) (xs ys : List LemmaTree) → AreLemmaTrees p s before xs → AreLemmaTrees p s (before ++ lemma_states xs) ys → AreLemmaTrees p s before (xs ++ ys)
lemma_trees_append p s before [] ys h k = subst (λ (bs : List State). AreLemmaTrees p s bs ys) (append-nil before) k
lemma_trees_append p s before (x ∷ xs) ys h k =
    (h.0, lemma_trees_append p s (before ++ (x.state ∷ [])) xs ys h.1 (subst (λ (bs : List State). AreLemmaTrees p s bs ys) (sym (append_assoc before (x.state ∷ []) (lemma_states xs))) k))

pub lemma_states_append : (xs ys : List LemmaTree) → lemma_states (xs ++ ys) ≡ lemma_states xs ++ lemma_states ys
lemma_states_append xs ys = map-append (λ (x : LemmaTree). x.state) xs ys

pub lemma_lines_append : (n : ℕ) (xs ys : List LemmaTree) → lemmas_lines n (xs ++ ys) ≡ lemmas_lines n xs ++ lemmas_lines (n + length xs) ys
lemma_lines_append n [] ys = let e : n ≡ n + 0 = omega arith in ap (λ (m : ℕ). lemmas_lines m ys) e
lemma_lines_append n (x ∷ xs) ys =
    let e : suc n + length xs ≡ n + suc (length xs) = omega arith in
    ap (λ (ls : List CertLine). lemma_lines n x ++ ls) (lemma_lines_append (suc n) xs ys ∙ ap (λ (m : ℕ). lemmas_lines (suc n) xs ++ lemmas_lines m ys) e)
    ∙ sym (append_assoc (lemma_lines n x) (lemmas_lines (suc n) xs) (lemmas_lines (n + suc (length xs)) ys))

-- ---- states with their lines

pub standings_end : (ls : List Line) (Ss : List State) (l : Line) (S : State) → length ls ≡ length Ss → (rest : List State) → standings (ls ++ (l ∷ [])) (Ss ++ (S ∷ rest)) ≡ standings ls (Ss ++ (S ∷ rest)) ++ (record { state = S; does = l } ∷ [])
standings_end [] [] l S e rest = refl
standings_end [] (T ∷ Ss) l S e rest = absurd (omega (arith, e))
standings_end (k ∷ ls) [] l S e rest = absurd (omega (arith, e))
standings_end (k ∷ ls) (T ∷ Ss) l S e rest = ap (λ (xs : List Standing). record { state = T; does = k } ∷ xs) (standings_end ls Ss l S (omega (arith, e)) rest)
