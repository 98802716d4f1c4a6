-- A lawful tree whose leaving lines are replaced by lawful trees is lawful.
use Rattle.std.proofs.Common.{◌≡◌, ◌≤◌, ℕ, ◌+◌, List, [], ◌∷◌, ◌++◌, Bool, true, false, not, cond, Option, Some, None, IsTrue, All, sum_by, refl, ap, ap₂, sym, ◌∙◌, subst, append_assoc, append-nil, drop, arith}
use Rattle.std.specs.List.{AllByRecursion}
use Rattle.std.proofs.lemmas.List.Elements.{All-nil, All-cons, All-head, All-tail, All-append}
use Rattle.std.proofs.lemmas.List.Sums.{sum_by-cons, sum_by-append}
use Rattle.poly_graph.specs.Problem.{Problem}
use Rattle.interval_model.specs.Space.{Space}
use Rattle.cover_model.specs.State.{State, Loosenings, in_version, may}
use Rattle.cover_model.specs.Rules.{is_void_by_squares, Line, narrow_by, end_by, mark_by, branch_by, stay_by, Ending, void_by, by_squares, false_form, by_lemma, Left, closed, one, two, stays, rule, ending, when, pulled, voided, can_narrow, narrowed_to, can_mark, marked, can_branch, first_child, second_child, can_stay, lemma_covers}
use Rattle.cover_model.specs.Honest.{is_honest, branch_count}
use Rattle.cover_model.specs.Derivation.{Tree, leaf, then, fork, tree_lines, Lawful, at_closed, at_left, at_step, at_fork}
use Rattle.cover_model.proofs.Later.{honest_later}
use Rattle.cert_model.specs.Due.{Standing, names_well}
use Rattle.cert_model.specs.Written.{NamesWell, leaf_standing, step_standing, fork_standing, left_standing, tree_standing, IsHonestTree, tree_branches}
use Rattle.cert_resumed.specs.Resumed.{is_leaving, lines_at, grafted, AreGrafts, each_left, joined}
use Rattle.cert_resumed.specs.Laws.{AreHonestGrafts}
use Rattle.cert_resumed.proofs.Parses.{all_append}

-- ---- a line leaves its state where its rule says that it stays

abbrev is_stays : Left → Bool
is_stays stays = true
is_stays x = false

-- what the rule leaves, if anything, stays or does not
abbrev Stays : Bool → Option Left → Type 0
Stays t None = Unit {0}
Stays t (Some x) = t ≡ is_stays x

when-stays : (t : Bool) (x : Left) → Stays (is_stays x) (when t x)
when-stays true x = refl
when-stays false x = tt

pulled-goes : (S : State) (o : Option Space) → Stays false (pulled S o)
pulled-goes S None = tt
pulled-goes S (Some space) = refl

voided-goes : (o : Option Space) → Stays false (voided o)
voided-goes None = refl
voided-goes (Some space) = tt

cond-goes : (t : Bool) (o : Option Left) → Stays false o → Stays false (cond t o None)
cond-goes true o h = h
cond-goes false o h = tt

ending-goes : (p : Problem) (s : Loosenings) (lemmas : List State) (S : State) (e : Ending) → Stays false (ending p s lemmas S e)
ending-goes p s lemmas S (void_by n) = cond-goes (can_narrow p s S n) (voided (narrowed_to p s S n)) (voided-goes (narrowed_to p s S n))
ending-goes p s lemmas S (by_squares ms bs) = when-stays (is_void_by_squares p s S ms bs) closed
ending-goes p s lemmas S false_form = when-stays (not (may p s S)) closed
ending-goes p s lemmas S (by_lemma i) = when-stays (lemma_covers lemmas i S) closed

rule-stays : (p : Problem) (s : Loosenings) (lemmas : List State) (S : State) (l : Line) → Stays (is_leaving l) (rule p s lemmas S l)
rule-stays p s lemmas S (narrow_by n) = cond-goes (can_narrow p s S n) (pulled S (narrowed_to p s S n)) (pulled-goes S (narrowed_to p s S n))
rule-stays p s lemmas S (end_by e) = ending-goes p s lemmas S e
rule-stays p s lemmas S (mark_by m) = when-stays (can_mark p s lemmas S m) (one (marked S m))
rule-stays p s lemmas S (branch_by b) = when-stays (can_branch p s S b) (two (first_child S b) (second_child S b))
rule-stays p s lemmas S (stay_by t) = when-stays (can_stay p s S t) stays

pub leaves_where_stays : (p : Problem) (s : Loosenings) (lemmas : List State) (S : State) (l : Line) (x : Left) → rule p s lemmas S l ≡ Some x → is_leaving l ≡ is_stays x
leaves_where_stays p s lemmas S l x e = subst (λ (o : Option Left). Stays (is_leaving l) o) e (rule-stays p s lemmas S l)

-- ---- lists of grafts

pub first_all : (P : Line → Type 0) (xs ys : List Line) → AllByRecursion P (xs ++ ys) → AllByRecursion P xs × AllByRecursion P ys
first_all P [] ys h = (tt, h)
first_all P (x ∷ xs) ys h = let e = first_all P xs ys h.1 in ((h.0, e.0), e.1)

joined-append : (xs ys : List (List Standing)) → joined (xs ++ ys) ≡ joined xs ++ joined ys
joined-append [] ys = refl
joined-append (x ∷ xs) ys = ap (λ (zs : List Standing). x ++ zs) (joined-append xs ys) ∙ sym (append_assoc x (joined xs) (joined ys))

-- all of two lists hold, so all of each
parts-hold : (P : Standing → Type 0) (xs ys : List Standing) → All P (xs ++ ys) → All P xs × All P ys
parts-hold P [] ys h = (All-nil P, h)
parts-hold P (x ∷ xs) ys h = let k = parts-hold P xs ys (All-tail P x (xs ++ ys) h) in (All-cons P x xs (All-head P x (xs ++ ys) h) k.0, k.1)

module _ (p : Problem) (s : Loosenings) (lemmas : List State) where
  -- the trees for the states of two lists
  record Parts (us vs : List Standing) (ts : List Tree) : Type 0 where
    first : List Tree
    second : List Tree
    whole : ts ≡ first ++ second
    firsts : AreGrafts p s lemmas us first
    seconds : AreGrafts p s lemmas vs second

  parts : (us vs : List Standing) (ts : List Tree) → AreGrafts p s lemmas (us ++ vs) ts → Parts us vs ts
  parts [] vs ts h = record { first = []; second = ts; whole = refl; firsts = tt; seconds = h }
  parts (u ∷ us) vs [] h = absurd h
  parts (u ∷ us) vs (t ∷ ts) h = let k = parts us vs ts h.1 in
      record { first = t ∷ k.first; second = k.second; whole = ap (λ (zs : List Tree). t ∷ zs) k.whole; firsts = (h.0, k.firsts); seconds = k.seconds }

  each-append : (us vs : List Standing) (ts ws : List Tree) → AreGrafts p s lemmas us ts → each_left p s lemmas (us ++ vs) (ts ++ ws) ≡ each_left p s lemmas us ts ++ each_left p s lemmas vs ws
  each-append [] vs [] ws h = refl
  each-append [] vs (t ∷ ts) ws h = absurd h
  each-append (u ∷ us) vs [] ws h = absurd h
  each-append (u ∷ us) vs (t ∷ ts) ws h = ap (λ (zs : List (List Standing)). left_standing p s lemmas u.state t ∷ zs) (each-append us vs ts ws h.1)

  honest-parts : (w : ℕ) (us vs : List Standing) (ts ws : List Tree) → AreGrafts p s lemmas us ts → AreHonestGrafts p w s lemmas (us ++ vs) (ts ++ ws) →
      AreHonestGrafts p w s lemmas us ts × AreHonestGrafts p w s lemmas vs ws
  honest-parts w [] vs [] ws h k = (tt, k)
  honest-parts w [] vs (t ∷ ts) ws h k = absurd h
  honest-parts w (u ∷ us) vs [] ws h k = absurd h
  honest-parts w (u ∷ us) vs (t ∷ ts) ws h k = let r = honest-parts w us vs ts ws h.1 k.1 in ((k.0, r.0), r.1)

-- ---- trees

-- no line that leaves its state is a branch
pub leaving_no_branch : (l : Line) → is_leaving l ≡ true → branch_count l ≡ 0
leaving_no_branch (stay_by t) h = refl
leaving_no_branch (branch_by b) h = cc
leaving_no_branch (narrow_by n) h = refl
leaving_no_branch (end_by e) h = refl
leaving_no_branch (mark_by m) h = refl

-- what a rule leaves over the old lemmas it leaves over the new ones under version v
module _ (p : Problem) (s : Loosenings) (v : ℕ) (newer : s.version ≤ v) (old new : List State) (keeps : (S : State) (l : Line) (x : Left) → rule p s old S l ≡ Some x → rule p (in_version v s) new S l ≡ Some x) where
  abbrev second : Loosenings
  second = in_version v s

  -- a lawful tree in place of this one, whose states xs go on by these trees
  pub record Grafted (S : State) (t : Tree) (xs : List Standing) (ts : List Tree) : Type 0 where
    pub tree : Tree
    pub rest : List State
    pub lawful : Lawful p second new S tree rest
    pub names : NamesWell p tree
    pub lines : (ls : List Line) (us : List Tree) → grafted (tree_lines t ++ ls) (ts ++ us) ≡ tree_lines tree ++ grafted ls us
    pub stands : left_standing p second new S tree ≡ joined (each_left p second new xs ts)
    pub count : tree_branches tree ≡ tree_branches t + sum_by tree_branches ts
    pub honest : (w : ℕ) → IsHonestTree p w s old S t → AreHonestGrafts p w second new xs ts → IsHonestTree p w second new S tree

  abbrev Honest : ℕ → Loosenings → Standing → Type 0
  Honest w r x = IsTrue (is_honest p w r x.state x.does)

  honest-first : (w : ℕ) (S : State) (l : Line) (xs ys : List Standing) → All (Honest w s) (record { state = S; does = l } ∷ xs) → All (Honest w second) ys → All (Honest w second) (record { state = S; does = l } ∷ ys)
  honest-first w S l xs ys h k = All-cons (Honest w second) (record { state = S; does = l }) ys
      (honest_later p s v newer w S l (All-head (Honest w s) (record { state = S; does = l }) xs h)) k

  -- what stands of a tree, and the trees for that
  abbrev Grows : State → Tree → List Standing → Type 0
  Grows S t xs = (ts : List Tree) → AreGrafts p second new xs ts → Grafted S t xs ts

  at-closed : (S : State) (l : Line) → rule p s old S l ≡ Some closed → IsTrue (names_well p l) → Grows S (leaf l) []
  at-closed S l e named [] h = record {
    tree = leaf l;
    rest = [];
    lawful = at_closed (keeps S l closed e);
    names = (named, tt);
    lines = λ ls us. ap (λ (t : Bool). cond t (lines_at l us ++ grafted ls (drop 1 us)) (l ∷ grafted ls us)) (leaves_where_stays p s old S l closed e);
    stands = ap (leaf_standing S l) (keeps S l closed e);
    count = omega arith;
    honest = λ w k m. honest-first w S l [] [] k (All-nil (Honest w second));
  }
  at-closed S l e named (t ∷ ts) h = absurd h

  at-left : (S : State) (l : Line) → rule p s old S l ≡ Some stays → Grows S (leaf l) (record { state = S; does = l } ∷ [])
  at-left S l e [] h = absurd h
  at-left S l e (t ∷ u ∷ ts) h = absurd h.1
  at-left S l e (t ∷ []) h =
      let leaves : is_leaving l ≡ true = leaves_where_stays p s old S l stays e in
      let none : branch_count l ≡ 0 = leaving_no_branch l leaves in
      record {
        tree = t;
        rest = h.0.left;
        lawful = h.0.lawful;
        names = h.0.names;
        lines = λ ls us. ap (λ (b : Bool). cond b (tree_lines t ++ grafted ls us) (l ∷ grafted ls (t ∷ us))) leaves;
        stands = sym (append-nil (left_standing p second new S t));
        count = omega (arith, none, sum_by-cons branch_count l [], sum_by-cons tree_branches t []);
        honest = λ w k m. m.0;
      }

  at-step : (S S' : State) (l : Line) (t : Tree) → rule p s old S l ≡ Some (one S') → IsTrue (names_well p l) → (xs : List Standing) → Grows S' t xs → Grows S (then l t) xs
  at-step S S' l t e named xs f ts h =
      let g = f ts h in let goes = leaves_where_stays p s old S l (one S') e in let d = keeps S l (one S') e in
      record {
        tree = then l g.tree;
        rest = g.rest;
        lawful = at_step d g.lawful;
        names = (named, g.names);
        lines = λ ls us. ap (λ (b : Bool). cond b (lines_at l (ts ++ us) ++ grafted (tree_lines t ++ ls) (drop 1 (ts ++ us))) (l ∷ grafted (tree_lines t ++ ls) (ts ++ us))) goes
            ∙ ap (λ (zs : List Line). l ∷ zs) (g.lines ls us);
        stands = ap (λ (o : Option Left). step_standing o (λ X. left_standing p second new X g.tree)) d ∙ g.stands;
        count = omega (arith, g.count, sum_by-cons branch_count l (tree_lines g.tree), sum_by-cons branch_count l (tree_lines t));
        honest = λ w k m.
            let x : Standing = record { state = S; does = l } in
            let k' : All (Honest w s) (x ∷ tree_standing p s old S' t) = subst (λ (o : Option Left). All (Honest w s) (x ∷ step_standing o (λ X. tree_standing p s old X t))) e k in
            subst (λ (o : Option Left). All (Honest w second) (x ∷ step_standing o (λ X. tree_standing p second new X g.tree))) (sym d)
            (honest-first w S l (tree_standing p s old S' t) (tree_standing p second new S' g.tree) k' (g.honest w (All-tail (Honest w s) x (tree_standing p s old S' t) k') m));
      }

  at-fork-parts : (S S' S'' : State) (l : Line) (t u : Tree) → rule p s old S l ≡ Some (two S' S'') → IsTrue (names_well p l) → (xs ys : List Standing) (ts ws : List Tree) →
      AreGrafts p second new xs ts → Grafted S' t xs ts → Grafted S'' u ys ws → Grafted S (fork l t u) (xs ++ ys) (ts ++ ws)
  at-fork-parts S S' S'' l t u e named xs ys ts ws h g g' =
      let goes = leaves_where_stays p s old S l (two S' S'') e in let d = keeps S l (two S' S'') e in
      record {
        tree = fork l g.tree g'.tree;
        rest = g.rest ++ g'.rest;
        lawful = at_fork d g.lawful g'.lawful;
        names = (named, all_append (λ (m : Line). IsTrue (names_well p m)) (tree_lines g.tree) (tree_lines g'.tree) g.names g'.names);
        lines = λ ls us.
            ap (λ (b : Bool). cond b (lines_at l ((ts ++ ws) ++ us) ++ grafted ((tree_lines t ++ tree_lines u) ++ ls) (drop 1 ((ts ++ ws) ++ us))) (l ∷ grafted ((tree_lines t ++ tree_lines u) ++ ls) ((ts ++ ws) ++ us))) goes
            ∙ ap (λ (zs : List Line). l ∷ zs)
            (ap₂ (λ (ks : List Line) (vs : List Tree). grafted ks vs) (append_assoc (tree_lines t) (tree_lines u) ls) (append_assoc ts ws us)
            ∙ g.lines (tree_lines u ++ ls) (ws ++ us)
            ∙ ap (λ (zs : List Line). tree_lines g.tree ++ zs) (g'.lines ls us)
            ∙ sym (append_assoc (tree_lines g.tree) (tree_lines g'.tree) (grafted ls us)));
        stands =
            ap (λ (o : Option Left). fork_standing o (λ X. left_standing p second new X g.tree) (λ X. left_standing p second new X g'.tree)) d
            ∙ ap₂ (λ (ks : List Standing) (ms : List Standing). ks ++ ms) g.stands g'.stands
            ∙ sym (joined-append (each_left p second new xs ts) (each_left p second new ys ws))
            ∙ ap joined (sym (each-append p second new xs ys ts ws h));
        count = omega (
          arith,
          g.count,
          g'.count,
          sum_by-append tree_branches ts ws,
          sum_by-cons branch_count l (tree_lines g.tree ++ tree_lines g'.tree),
          sum_by-append branch_count (tree_lines g.tree) (tree_lines g'.tree),
          sum_by-cons branch_count l (tree_lines t ++ tree_lines u),
          sum_by-append branch_count (tree_lines t) (tree_lines u),
        );
        honest = λ w k m.
            let x : Standing = record { state = S; does = l } in
            let fst : List Standing = tree_standing p s old S' t in let snd : List Standing = tree_standing p s old S'' u in
            let fst' : List Standing = tree_standing p second new S' g.tree in let snd' : List Standing = tree_standing p second new S'' g'.tree in
            let k' : All (Honest w s) (x ∷ (fst ++ snd)) = subst (λ (o : Option Left). All (Honest w s) (x ∷ fork_standing o (λ X. tree_standing p s old X t) (λ X. tree_standing p s old X u))) e k in
            let later = parts-hold (Honest w s) fst snd (All-tail (Honest w s) x (fst ++ snd) k') in
            let ms = honest-parts p second new w xs ys ts ws h m in
            subst (λ (o : Option Left). All (Honest w second) (x ∷ fork_standing o (λ X. tree_standing p second new X g.tree) (λ X. tree_standing p second new X g'.tree))) (sym d)
            (honest-first w S l (fst ++ snd) (fst' ++ snd') k' (All-append (Honest w second) fst' snd' (g.honest w later.0 ms.0) (g'.honest w later.1 ms.1)));
      }

  at-fork : (S S' S'' : State) (l : Line) (t u : Tree) → rule p s old S l ≡ Some (two S' S'') → IsTrue (names_well p l) → (xs ys : List Standing) → Grows S' t xs → Grows S'' u ys → Grows S (fork l t u) (xs ++ ys)
  at-fork S S' S'' l t u e named xs ys f f' ts h =
      let k = parts p second new xs ys ts h in
      subst (λ (zs : List Tree). Grafted S (fork l t u) (xs ++ ys) zs) (sym k.whole)
      (at-fork-parts S S' S'' l t u e named xs ys k.first k.second k.firsts (f k.first k.firsts) (f' k.second k.seconds))

  -- a lawful tree goes on by lawful trees for what it leaves
  pub grow : {S : State} {t : Tree} {rest : List State} → Lawful p s old S t rest → NamesWell p t → Grows S t (left_standing p s old S t)
  grow (at_closed {S = S} {l = l} e) h = subst (Grows S (leaf l)) (sym (ap (leaf_standing S l) e)) (at-closed S l e h.0)
  grow (at_left {S = S} {l = l} e) h = subst (Grows S (leaf l)) (sym (ap (leaf_standing S l) e)) (at-left S l e)
  grow (at_step {S = S} {S' = S'} {l = l} {t = t} e r) h =
      subst (Grows S (then l t)) (sym (ap (λ (o : Option Left). step_standing o (λ X. left_standing p s old X t)) e)) (at-step S S' l t e h.0 (left_standing p s old S' t) (grow r h.1))
  grow (at_fork {S = S} {S' = S'} {S'' = S''} {l = l} {t = t} {u = u} e r r') h =
      let k = first_all (λ (m : Line). IsTrue (names_well p m)) (tree_lines t) (tree_lines u) h.1 in
      subst (Grows S (fork l t u)) (sym (ap (λ (o : Option Left). fork_standing o (λ X. left_standing p s old X t) (λ X. left_standing p s old X u)) e))
      (at-fork S S' S'' l t u e h.0 (left_standing p s old S' t) (left_standing p s old S'' u) (grow r k.0) (grow r' k.1))
