-- The lines of a main tree that is taken whole are those of a lawful tree at the root, which leaves what stayed.
use Rattle.std.proofs.Common.{◌≡◌, ℕ, suc, List, [], ◌∷◌, ◌++◌, Bool, true, false, Option, Some, None, IsTrue, refl, ap, ap₂, sym, ◌∙◌, subst, append_assoc, append-nil}
use Rattle.std.specs.List.{AllByRecursion}
use Rattle.poly_graph.specs.Problem.{Problem, first_crossed}
use Rattle.cover_model.specs.State.{State, Loosenings, root_state}
use Rattle.cover_model.specs.Rules.{Line, Left, closed, one, two, stays, rule}
use Rattle.cover_model.specs.Derivation.{Tree, leaf, then, fork, tree_lines, Lawful, at_closed, at_left, at_step, at_fork}
use Rattle.cover_line.specs.Words.{word_of}
use Rattle.cert_read.specs.CertLine.{end_word}
use Rattle.cert_model.specs.Due.{RuleFails, Standing, left_open, Due, root_due, nothing_due, faulty, names_well, after_rule, tree_goes_on, is_some_axis, is_crossed_box}
use Rattle.cert_model.specs.Accepted.{ruled_line, root_line, Course, reached, course_next, course_of_lines}
use Rattle.cert_model.specs.Written.{rule_lines, NamesWell, leaf_standing, step_standing, fork_standing, left_standing}

pub all_append : {X : Type 0} (P : X → Type 0) (xs ys : List X) → AllByRecursion P xs → AllByRecursion P ys → AllByRecursion P (xs ++ ys)
all_append P [] ys h k = k
all_append P (x ∷ xs) ys h k = (h.0, all_append P xs ys h.1 k)

-- a main tree: lawful at the root of a declared box that is not empty, with these lines and what stays of it
pub record MainTree (p : Problem) (s : Loosenings) (lemmas : List State) (main : List Line) (left : List Standing) : Type 0 where
  pub tree : Tree
  pub rest : List State
  pub lawful : Lawful p s lemmas (root_state p) tree rest
  pub names : NamesWell p tree
  pub lines : tree_lines tree ≡ main
  pub stands : left_standing p s lemmas (root_state p) tree ≡ left
  pub not_crossed : first_crossed p ≡ None

module _ (p : Problem) (b : Option ℕ) (s : Loosenings) (lemmas : List State) where
  -- a lawful tree for each of these states, with the lines of all and what stays of them
  data Forest : List State → List Line → List Standing → Type 0 where
    bare : Forest [] [] []
    more : {S : State} {rest pending : List State} {t : Tree} {ls : List Line} {xs ys : List Standing} → Lawful p s lemmas S t rest → NamesWell p t →
        left_standing p s lemmas S t ≡ xs → Forest pending ls ys → Forest (S ∷ pending) (tree_lines t ++ ls) (xs ++ ys)

  module _ (S : State) (l : Line) (named : IsTrue (names_well p l)) (pending : List State) where
    first-closed : (ls : List Line) (xs : List Standing) → rule p s lemmas S l ≡ Some closed → Forest pending ls xs → Forest (S ∷ pending) (l ∷ ls) xs
    first-closed ls xs e f = more {t = leaf l} {xs = []} (at_closed e) (named, tt) (ap (leaf_standing S l) e) f

    first-stays : (ls : List Line) (xs : List Standing) → rule p s lemmas S l ≡ Some stays → Forest pending ls xs → Forest (S ∷ pending) (l ∷ ls) (record { state = S; does = l } ∷ xs)
    first-stays ls xs e f = more {t = leaf l} {xs = record { state = S; does = l } ∷ []} (at_left e) (named, tt) (ap (leaf_standing S l) e) f

    first-one : (S' : State) (ls : List Line) (xs : List Standing) → rule p s lemmas S l ≡ Some (one S') → Forest (S' ∷ pending) ls xs → Forest (S ∷ pending) (l ∷ ls) xs
    first-one S' _ _ e (more {t = t} r w z f) =
        more {t = then l t} (at_step e r) (named, w) (ap (λ (o : Option Left). step_standing o (λ X. left_standing p s lemmas X t)) e ∙ z) f

    first-two : (S' S'' : State) (ls : List Line) (xs : List Standing) → rule p s lemmas S l ≡ Some (two S' S'') → Forest (S' ∷ S'' ∷ pending) ls xs → Forest (S ∷ pending) (l ∷ ls) xs
    first-two S' S'' _ _ e (more {t = t} {xs = us} r w z (more {t = u} {ls = ms} {xs = vs} {ys = ws} r' w' z' f)) =
        subst (λ (ks : List Line). Forest (S ∷ pending) (l ∷ ks) (us ++ (vs ++ ws))) (append_assoc (tree_lines t) (tree_lines u) ms)
        (subst (λ (ks : List Standing). Forest (S ∷ pending) (l ∷ ((tree_lines t ++ tree_lines u) ++ ms)) ks) (append_assoc us vs ws)
        (more {t = fork l t u} {xs = us ++ vs} (at_fork e r r') (named, all_append (λ (m : Line). IsTrue (names_well p m)) (tree_lines t) (tree_lines u) w w')
        (ap (λ (o : Option Left). fork_standing o (λ X. left_standing p s lemmas X t) (λ X. left_standing p s lemmas X u)) e
        ∙ ap₂ (λ (ks : List Standing) (ms : List Standing). ks ++ ms) z z') f))

  -- ---- the course of lines

  -- what is reached where the lines are taken whole
  abbrev Whole : Loosenings → List State → List Standing → Course → Type 0
  Whole s' ks left c = (m : ℕ) × (c ≡ reached (nothing_due s' ks (left_open left)) m)

  -- what follows from that, where these states wait
  abbrev Planted : List State → List State → List Standing → List Standing → List Line → Type 0
  Planted ks pending done left ls = (lemmas ≡ ks) × (xs : List Standing) × Forest pending ls xs × (done ++ xs ≡ left)

  abbrev goes : ℕ → List State → List Standing → List Line → Course
  goes n pending done ls = course_of_lines p b n (tree_goes_on s lemmas pending done) (rule_lines ls ++ (end_word ∷ []))

  module _ (s' : Loosenings) (ks : List State) (left : List Standing) where
    by-rule : (S : State) (l : Line) (ls : List Line) (n : ℕ) (pending : List State) (done : List Standing) → ((ps : List State) (ds : List Standing) → Whole s' ks left (goes (suc n) ps ds ls) → Planted ks ps ds left ls) →
        (t : Bool) → names_well p l ≡ t → (o : Option Left) → rule p s lemmas S l ≡ o →
        Whole s' ks left (course_next (ruled_line t (after_rule o (RuleFails (word_of l)) (record { state = S; does = l }) pending done (tree_goes_on s lemmas))) (suc n) (λ d. course_of_lines p b (suc n) d (rule_lines ls ++ (end_word ∷ [])))) →
        Planted ks (S ∷ pending) done left (l ∷ ls)
    by-rule S l ls n pending done ih true h (Some closed) e w =
        let k = ih pending done w in (k.0, k.1, first-closed S l h pending ls k.1 e k.2, k.3)
    by-rule S l ls n pending done ih true h (Some stays) e w =
        let x : Standing = record { state = S; does = l } in
        let k = ih pending (done ++ (x ∷ [])) w in (k.0, x ∷ k.1, first-stays S l h pending ls k.1 e k.2, sym (append_assoc done (x ∷ []) k.1) ∙ k.3)
    by-rule S l ls n pending done ih true h (Some (one S')) e w =
        let k = ih (S' ∷ pending) done w in (k.0, k.1, first-one S l h pending S' ls k.1 e k.2, k.3)
    by-rule S l ls n pending done ih true h (Some (two S' S'')) e w =
        let k = ih (S' ∷ S'' ∷ pending) done w in (k.0, k.1, first-two S l h pending S' S'' ls k.1 e k.2, k.3)
    by-rule S l ls n pending done ih true h None e w = let z = w.1 in cc
    by-rule S l ls n pending done ih false h o e w = let z = w.1 in cc

    planted : (ls : List Line) (n : ℕ) (pending : List State) (done : List Standing) → Whole s' ks left (goes n pending done ls) → Planted ks pending done left ls
    planted [] n [] done w = let z = w.1 in let same : lemmas ≡ ks = cc in let all : done ≡ left = cc in (same, [], bare, append-nil done ∙ all)
    planted [] n (S ∷ pending) done w = let z = w.1 in cc
    planted (l ∷ ls) n [] done w = let z = w.1 in cc
    planted (l ∷ ls) n (S ∷ pending) done w = by-rule S l ls n pending done (λ ps ds k. planted ls (suc n) ps ds k) (names_well p l) refl (rule p s lemmas S l) refl w

    -- ---- from the root

    whole-forest : (ls : List Line) (xs : List Standing) → Forest (root_state p ∷ []) ls xs → xs ≡ left → first_crossed p ≡ None → MainTree p s lemmas ls left
    whole-forest _ _ (more {t = t} {xs = ys} r w z bare) e c = record {
      tree = t;
      rest = _;
      lawful = r;
      names = w;
      lines = sym (append-nil (tree_lines t));
      stands = z ∙ sym (append-nil ys) ∙ e;
      not_crossed = c;
    }

    not-named : (t : Bool) (l : Line) (n : ℕ) (k : Due → Course) → Whole s' ks left (course_next (ruled_line t (faulty (RuleFails (word_of l)))) n k) → ⊥
    not-named true l n k w = let z = w.1 in cc
    not-named false l n k w = let z = w.1 in cc

    none-crossed : (o : Option ℕ) → is_some_axis o ≡ false → o ≡ None
    none-crossed None e = refl
    none-crossed (Some i) e = cc

    by-crossed : (t : Bool) → is_crossed_box p ≡ t → (l : Line) (ls : List Line) (n : ℕ) →
        Whole s' ks left (course_next (root_line t p s lemmas l) (suc n) (λ d. course_of_lines p b (suc n) d (rule_lines ls ++ (end_word ∷ [])))) → (lemmas ≡ ks) × MainTree p s lemmas (l ∷ ls) left
    by-crossed true e l ls n w = absurd (not-named (names_well p l) l (suc n) (λ d. course_of_lines p b (suc n) d (rule_lines ls ++ (end_word ∷ []))) w)
    by-crossed false e l ls n w = let k = planted (l ∷ ls) n (root_state p ∷ []) [] w in (k.0, whole-forest (l ∷ ls) k.1 k.2 k.3 (none-crossed (first_crossed p) e))

    pub main_tree : (ls : List Line) (n : ℕ) → Whole s' ks left (course_of_lines p b n (root_due s lemmas) (rule_lines ls ++ (end_word ∷ []))) → (lemmas ≡ ks) × MainTree p s lemmas ls left
    main_tree [] n w = let z = w.1 in cc
    main_tree (l ∷ ls) n w = by-crossed (is_crossed_box p) refl l ls n w
