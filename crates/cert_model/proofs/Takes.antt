-- A lawful tree's lines are taken one after the other.
use Rattle.std.proofs.Common.{◌≡◌, ℕ, suc, ◌+◌, List, [], ◌∷◌, ◌++◌, map, Bool, Option, Some, IsTrue, refl, ap, ap₂, sym, ◌∙◌, length, append_assoc, append-nil, length-append, arith}
use Rattle.std.specs.List.{AllByRecursion}
use Rattle.std.proofs.lemmas.List.{map-append}
use Rattle.std.proofs.lemmas.List.Sums.{sum_by-cons, sum_by-append}
use Rattle.poly_graph.specs.Problem.{Problem}
use Rattle.cover_model.specs.State.{State, Loosenings}
use Rattle.cover_model.specs.Rules.{Line, Left, closed, one, two, stays, rule}
use Rattle.cover_model.specs.Honest.{branch_count}
use Rattle.cover_model.specs.Derivation.{Tree, tree_lines, Lawful, at_closed, at_left, at_step, at_fork}
use Rattle.cover_line.specs.Words.{word_of}
use Rattle.cert_read.specs.CertLine.{CertLine, rule_line}
use Rattle.cert_model.specs.Due.{RuleFails, Standing, Next, lemma_due, tree_due, names_well, after_rule, after_lemma_rule, tree_goes_on, lemma_goes_on}
use Rattle.cert_model.specs.Accepted.{next, ruled_line, Course, course_next, course_of_lines}
use Rattle.cert_model.specs.Derived.{states_of}
use Rattle.cert_model.specs.Written.{rule_lines, NamesWell, leaf_standing, step_standing, fork_standing, left_standing, tree_standing, tree_branches}
use Rattle.cert_model.specs.Standing.{Stands, standing_next, standing_of_lines, branches_of}
use Rattle.cert_model.proofs.Grown.{states_append}

-- all of two lists hold, so all of each
first-all : (P : Line → Type 0) (xs ys : List Line) → AllByRecursion P (xs ++ ys) → AllByRecursion P xs × AllByRecursion P ys
first-all P [] ys h = (tt, h)
first-all P (x ∷ xs) ys h = let e = first-all P xs ys h.1 in ((h.0, e.0), e.1)

rule-lines-append : (xs ys : List Line) (ls : List CertLine) → rule_lines (xs ++ ys) ++ ls ≡ rule_lines xs ++ (rule_lines ys ++ ls)
rule-lines-append [] ys ls = refl
rule-lines-append (x ∷ xs) ys ls = ap (λ (zs : List CertLine). rule_line x ∷ zs) (rule-lines-append xs ys ls)

branches-append : (xs ys : List Stands) → branches_of (xs ++ ys) ≡ branches_of xs + branches_of ys
branches-append [] ys = omega arith
branches-append (x ∷ xs) ys = omega (arith, branches-append xs ys)

module _ (p : Problem) (b : Option ℕ) (s : Loosenings) (lemmas : List State) where
  -- the states of what stands are those that the tree leaves
  pub standing_states : {S : State} {t : Tree} {rest : List State} → Lawful p s lemmas S t rest → states_of (left_standing p s lemmas S t) ≡ rest
  standing_states (at_closed {S = S} {l = l} e) = ap (λ (o : Option Left). states_of (leaf_standing S l o)) e
  standing_states (at_left {S = S} {l = l} e) = ap (λ (o : Option Left). states_of (leaf_standing S l o)) e
  standing_states (at_step {t = t} e r) = ap (λ (o : Option Left). states_of (step_standing o (λ S'. left_standing p s lemmas S' t))) e ∙ standing_states r
  standing_states (at_fork {S' = S'} {S'' = S''} {t = t} {u = u} e r r') =
      ap (λ (o : Option Left). states_of (fork_standing o (λ X. left_standing p s lemmas X t) (λ X. left_standing p s lemmas X u))) e
      ∙ states_append (left_standing p s lemmas S' t) (left_standing p s lemmas S'' u) ∙ ap₂ (λ (xs : List State) (ys : List State). xs ++ ys) (standing_states r) (standing_states r')

  -- ---- the main tree

  abbrev after_main : State → Line → List State → List Standing → Option Left → Next
  after_main S l pending done o = after_rule o (RuleFails (word_of l)) (record { state = S; does = l }) pending done (tree_goes_on s lemmas)

  main-next : (S : State) (l : Line) (pending : List State) (done : List Standing) → IsTrue (names_well p l) → (o : Option Left) → rule p s lemmas S l ≡ o →
      next p b (tree_due s lemmas S pending done) (rule_line l) ≡ after_main S l pending done o
  main-next S l pending done h o e =
      ap (λ (t : Bool). ruled_line t (after_main S l pending done (rule p s lemmas S l))) h
      ∙ ap (after_main S l pending done) e

  main-line : (S : State) (l : Line) (ls : List CertLine) (n : ℕ) (pending : List State) (done : List Standing) → IsTrue (names_well p l) → (o : Option Left) → rule p s lemmas S l ≡ o →
      course_of_lines p b n (tree_due s lemmas S pending done) (rule_line l ∷ ls) ≡ course_next (after_main S l pending done o) (suc n) (λ d. course_of_lines p b (suc n) d ls)
  main-line S l ls n pending done h o e = ap (λ (x : Next). course_next x (suc n) (λ d. course_of_lines p b (suc n) d ls)) (main-next S l pending done h o e)

  -- where the course goes on
  abbrev goes_from : ℕ → List State → List Standing → List CertLine → Course
  goes_from n pending done ls = course_of_lines p b n (tree_goes_on s lemmas pending done) ls

  -- the lines of a lawful tree take its state off, and what they leave open or stuck is added
  pub tree_takes : {S : State} {t : Tree} {rest : List State} → Lawful p s lemmas S t rest → NamesWell p t → (ls : List CertLine) (n : ℕ) (pending : List State) (done : List Standing) →
      course_of_lines p b n (tree_due s lemmas S pending done) (rule_lines (tree_lines t) ++ ls) ≡
      course_of_lines p b (n + length (tree_lines t)) (tree_goes_on s lemmas pending (done ++ left_standing p s lemmas S t)) ls
  tree_takes (at_closed {S = S} {l = l} e) h ls n pending done = main-line S l ls n pending done h.0 (Some closed) e
      ∙ ap₂ (λ (k : ℕ) (xs : List Standing). goes_from k pending xs ls) (omega arith) (sym (append-nil done) ∙ ap (λ (o : Option Left). done ++ leaf_standing S l o) (sym e))
  tree_takes (at_left {S = S} {l = l} e) h ls n pending done = main-line S l ls n pending done h.0 (Some stays) e
      ∙ ap₂ (λ (k : ℕ) (xs : List Standing). goes_from k pending xs ls) (omega arith) (ap (λ (o : Option Left). done ++ leaf_standing S l o) (sym e))
  tree_takes (at_step {S = S} {S' = S'} {l = l} {t = t} e r) h ls n pending done = main-line S l (rule_lines (tree_lines t) ++ ls) n pending done h.0 (Some (one S')) e
      ∙ tree_takes r h.1 ls (suc n) pending done
      ∙ ap₂ (λ (k : ℕ) (xs : List Standing). goes_from k pending xs ls) (omega arith) (ap (λ (o : Option Left). done ++ step_standing o (λ X. left_standing p s lemmas X t)) (sym e))
  tree_takes (at_fork {S = S} {S' = S'} {S'' = S''} {l = l} {t = t} {u = u} e r r') h ls n pending done =
      let k = first-all (λ (m : Line). IsTrue (names_well p m)) (tree_lines t) (tree_lines u) h.1 in
      let xs : List Standing = left_standing p s lemmas S' t in let ys : List Standing = left_standing p s lemmas S'' u in
      main-line S l (rule_lines (tree_lines t ++ tree_lines u) ++ ls) n pending done h.0 (Some (two S' S'')) e
      ∙ ap (λ (zs : List CertLine). course_of_lines p b (suc n) (tree_due s lemmas S' (S'' ∷ pending) done) zs) (rule-lines-append (tree_lines t) (tree_lines u) ls)
      ∙ tree_takes r k.0 (rule_lines (tree_lines u) ++ ls) (suc n) (S'' ∷ pending) done
      ∙ tree_takes r' k.1 ls (suc n + length (tree_lines t)) pending (done ++ xs)
      ∙ ap₂ (λ (j : ℕ) (zs : List Standing). goes_from j pending zs ls) (omega (arith, length-append (tree_lines t) (tree_lines u)))
      (append_assoc done xs ys ∙ ap (λ (o : Option Left). done ++ fork_standing o (λ X. left_standing p s lemmas X t) (λ X. left_standing p s lemmas X u)) (sym e))

  -- ---- the lines of the main tree with their states

  abbrev stood : Standing → Stands
  stood x = record { loosenings = s; line = x }

  stands-line : (S : State) (l : Line) (ls : List CertLine) (pending : List State) (done : List Standing) → IsTrue (names_well p l) → (o : Option Left) → rule p s lemmas S l ≡ o →
      standing_of_lines p b (tree_due s lemmas S pending done) (rule_line l ∷ ls) ≡
      stood (record { state = S; does = l }) ∷ standing_next (after_main S l pending done o) (λ d. standing_of_lines p b d ls)
  stands-line S l ls pending done h o e =
      ap (λ (x : Next). stood (record { state = S; does = l }) ∷ standing_next x (λ d. standing_of_lines p b d ls)) (main-next S l pending done h o e)

  -- what stands where the course goes on
  abbrev stands_from : List State → List Standing → List CertLine → List Stands
  stands_from pending done ls = standing_of_lines p b (tree_goes_on s lemmas pending done) ls

  -- the lines of a lawful tree stand where the tree has them
  pub tree_stands : {S : State} {t : Tree} {rest : List State} → Lawful p s lemmas S t rest → NamesWell p t → (ls : List CertLine) (pending : List State) (done : List Standing) →
      standing_of_lines p b (tree_due s lemmas S pending done) (rule_lines (tree_lines t) ++ ls) ≡
      map stood (tree_standing p s lemmas S t) ++ stands_from pending (done ++ left_standing p s lemmas S t) ls
  tree_stands (at_closed {S = S} {l = l} e) h ls pending done = stands-line S l ls pending done h.0 (Some closed) e
      ∙ ap (λ (xs : List Standing). stood (record { state = S; does = l }) ∷ stands_from pending xs ls) (sym (append-nil done) ∙ ap (λ (o : Option Left). done ++ leaf_standing S l o) (sym e))
  tree_stands (at_left {S = S} {l = l} e) h ls pending done = stands-line S l ls pending done h.0 (Some stays) e
      ∙ ap (λ (xs : List Standing). stood (record { state = S; does = l }) ∷ stands_from pending xs ls) (ap (λ (o : Option Left). done ++ leaf_standing S l o) (sym e))
  tree_stands (at_step {S = S} {S' = S'} {l = l} {t = t} e r) h ls pending done = stands-line S l (rule_lines (tree_lines t) ++ ls) pending done h.0 (Some (one S')) e
      ∙ ap (λ (xs : List Stands). stood (record { state = S; does = l }) ∷ xs) (tree_stands r h.1 ls pending done)
      ∙ ap (λ (o : Option Left). stood (record { state = S; does = l }) ∷ (map stood (step_standing o (λ X. tree_standing p s lemmas X t)) ++ stands_from pending (done ++ step_standing o (λ X. left_standing p s lemmas X t)) ls)) (sym e)
  tree_stands (at_fork {S = S} {S' = S'} {S'' = S''} {l = l} {t = t} {u = u} e r r') h ls pending done =
      let k = first-all (λ (m : Line). IsTrue (names_well p m)) (tree_lines t) (tree_lines u) h.1 in
      let xs : List Standing = left_standing p s lemmas S' t in let ys : List Standing = left_standing p s lemmas S'' u in
      let x : Stands = stood (record { state = S; does = l }) in
      stands-line S l (rule_lines (tree_lines t ++ tree_lines u) ++ ls) pending done h.0 (Some (two S' S'')) e
      ∙ ap (λ (zs : List CertLine). x ∷ standing_of_lines p b (tree_due s lemmas S' (S'' ∷ pending) done) zs) (rule-lines-append (tree_lines t) (tree_lines u) ls)
      ∙ ap (λ (zs : List Stands). x ∷ zs) (tree_stands r k.0 (rule_lines (tree_lines u) ++ ls) (S'' ∷ pending) done)
      ∙ ap (λ (zs : List Stands). x ∷ (map stood (tree_standing p s lemmas S' t) ++ zs)) (tree_stands r' k.1 ls pending (done ++ xs))
      ∙ ap (λ (zs : List Standing). x ∷ (map stood (tree_standing p s lemmas S' t) ++ (map stood (tree_standing p s lemmas S'' u) ++ stands_from pending zs ls))) (append_assoc done xs ys)
      ∙ ap (λ (zs : List Stands). x ∷ zs) (sym (append_assoc (map stood (tree_standing p s lemmas S' t)) (map stood (tree_standing p s lemmas S'' u)) (stands_from pending (done ++ (xs ++ ys)) ls)))
      ∙ ap (λ (zs : List Stands). x ∷ (zs ++ stands_from pending (done ++ (xs ++ ys)) ls)) (sym (map-append stood (tree_standing p s lemmas S' t) (tree_standing p s lemmas S'' u)))
      ∙ ap (λ (o : Option Left). x ∷ (map stood (fork_standing o (λ X. tree_standing p s lemmas X t) (λ X. tree_standing p s lemmas X u))
      ++ stands_from pending (done ++ fork_standing o (λ X. left_standing p s lemmas X t) (λ X. left_standing p s lemmas X u)) ls)) (sym e)

  -- a lawful tree has as many branches where its lines stand as it has branch lines
  pub branches_stand : {S : State} {t : Tree} {rest : List State} → Lawful p s lemmas S t rest → branches_of (map stood (tree_standing p s lemmas S t)) ≡ tree_branches t
  branches_stand (at_closed {S = S} {l = l} e) = sym (sum_by-cons branch_count l [])
  branches_stand (at_left {S = S} {l = l} e) = sym (sum_by-cons branch_count l [])
  branches_stand (at_step {S = S} {l = l} {t = t} e r) =
      ap (λ (o : Option Left). branch_count l + branches_of (map stood (step_standing o (λ X. tree_standing p s lemmas X t)))) e
      ∙ ap (λ (n : ℕ). branch_count l + n) (branches_stand r) ∙ sym (sum_by-cons branch_count l (tree_lines t))
  branches_stand (at_fork {S = S} {S' = S'} {S'' = S''} {l = l} {t = t} {u = u} e r r') =
      ap (λ (o : Option Left). branch_count l + branches_of (map stood (fork_standing o (λ X. tree_standing p s lemmas X t) (λ X. tree_standing p s lemmas X u)))) e
      ∙ ap (λ (xs : List Stands). branch_count l + branches_of xs) (map-append stood (tree_standing p s lemmas S' t) (tree_standing p s lemmas S'' u))
      ∙ ap (λ (n : ℕ). branch_count l + n)
      (branches-append (map stood (tree_standing p s lemmas S' t)) (map stood (tree_standing p s lemmas S'' u))
      ∙ ap₂ (λ (m : ℕ) (n : ℕ). m + n) (branches_stand r) (branches_stand r')
      ∙ sym (sum_by-append branch_count (tree_lines t) (tree_lines u)))
      ∙ sym (sum_by-cons branch_count l (tree_lines t ++ tree_lines u))

  -- ---- a lemma's tree

  module _ (k : ℕ) (L : State) where
    abbrev after_lemma : Line → List State → Option Left → Next
    after_lemma l pending o = after_lemma_rule o (RuleFails (word_of l)) pending (lemma_goes_on s k lemmas L)

    lemma-next : (S : State) (l : Line) (pending : List State) → IsTrue (names_well p l) → (o : Option Left) → rule p s lemmas S l ≡ o →
        next p b (lemma_due s k lemmas L S pending) (rule_line l) ≡ after_lemma l pending o
    lemma-next S l pending h o e =
        ap (λ (t : Bool). ruled_line t (after_lemma l pending (rule p s lemmas S l))) h
        ∙ ap (after_lemma l pending) e

    lemma-line : (S : State) (l : Line) (ls : List CertLine) (n : ℕ) (pending : List State) → IsTrue (names_well p l) → (o : Option Left) → rule p s lemmas S l ≡ o →
        course_of_lines p b n (lemma_due s k lemmas L S pending) (rule_line l ∷ ls) ≡ course_next (after_lemma l pending o) (suc n) (λ d. course_of_lines p b (suc n) d ls)
    lemma-line S l ls n pending h o e = ap (λ (x : Next). course_next x (suc n) (λ d. course_of_lines p b (suc n) d ls)) (lemma-next S l pending h o e)

    -- the lines of a lemma's tree are none of the main tree
    quiet-line : (S : State) (l : Line) (ls : List CertLine) (pending : List State) → IsTrue (names_well p l) → (o : Option Left) → rule p s lemmas S l ≡ o →
        standing_of_lines p b (lemma_due s k lemmas L S pending) (rule_line l ∷ ls) ≡ standing_next (after_lemma l pending o) (λ d. standing_of_lines p b d ls)
    quiet-line S l ls pending h o e = ap (λ (x : Next). standing_next x (λ d. standing_of_lines p b d ls)) (lemma-next S l pending h o e)

    none-first : (xs ys : List State) → xs ++ ys ≡ [] → (xs ≡ []) × (ys ≡ [])
    none-first [] ys h = (refl, h)
    none-first (x ∷ xs) ys h = cc

    abbrev lemma_from : ℕ → List State → List CertLine → Course
    lemma_from n pending ls = course_of_lines p b n (lemma_goes_on s k lemmas L pending) ls

    -- the lines of a lawful tree that leaves nothing take its state off
    pub lemma_takes : {S : State} {t : Tree} {rest : List State} → Lawful p s lemmas S t rest → rest ≡ [] → NamesWell p t → (ls : List CertLine) (n : ℕ) (pending : List State) →
        course_of_lines p b n (lemma_due s k lemmas L S pending) (rule_lines (tree_lines t) ++ ls) ≡ course_of_lines p b (n + length (tree_lines t)) (lemma_goes_on s k lemmas L pending) ls
    lemma_takes (at_closed {S = S} {l = l} e) z h ls n pending = lemma-line S l ls n pending h.0 (Some closed) e ∙ ap (λ (j : ℕ). lemma_from j pending ls) (omega arith)
    lemma_takes (at_left {S = S} {l = l} e) z h ls n pending = cc
    lemma_takes (at_step {S = S} {S' = S'} {l = l} {t = t} e r) z h ls n pending = lemma-line S l (rule_lines (tree_lines t) ++ ls) n pending h.0 (Some (one S')) e
        ∙ lemma_takes r z h.1 ls (suc n) pending ∙ ap (λ (j : ℕ). lemma_from j pending ls) (omega arith)
    lemma_takes (at_fork {S = S} {S' = S'} {S'' = S''} {l = l} {t = t} {u = u} {rest = xs} {rest' = ys} e r r') z h ls n pending =
        let w = first-all (λ (m : Line). IsTrue (names_well p m)) (tree_lines t) (tree_lines u) h.1 in let none = none-first xs ys z in
        lemma-line S l (rule_lines (tree_lines t ++ tree_lines u) ++ ls) n pending h.0 (Some (two S' S'')) e
        ∙ ap (λ (zs : List CertLine). course_of_lines p b (suc n) (lemma_due s k lemmas L S' (S'' ∷ pending)) zs) (rule-lines-append (tree_lines t) (tree_lines u) ls)
        ∙ lemma_takes r none.0 w.0 (rule_lines (tree_lines u) ++ ls) (suc n) (S'' ∷ pending)
        ∙ lemma_takes r' none.1 w.1 ls (suc n + length (tree_lines t)) pending
        ∙ ap (λ (j : ℕ). lemma_from j pending ls) (omega (arith, length-append (tree_lines t) (tree_lines u)))

    -- and leave nothing of the main tree
    pub lemma_quiet : {S : State} {t : Tree} {rest : List State} → Lawful p s lemmas S t rest → rest ≡ [] → NamesWell p t → (ls : List CertLine) (pending : List State) →
        standing_of_lines p b (lemma_due s k lemmas L S pending) (rule_lines (tree_lines t) ++ ls) ≡ standing_of_lines p b (lemma_goes_on s k lemmas L pending) ls
    lemma_quiet (at_closed {S = S} {l = l} e) z h ls pending = quiet-line S l ls pending h.0 (Some closed) e
    lemma_quiet (at_left {S = S} {l = l} e) z h ls pending = cc
    lemma_quiet (at_step {S = S} {S' = S'} {l = l} {t = t} e r) z h ls pending = quiet-line S l (rule_lines (tree_lines t) ++ ls) pending h.0 (Some (one S')) e ∙ lemma_quiet r z h.1 ls pending
    lemma_quiet (at_fork {S = S} {S' = S'} {S'' = S''} {l = l} {t = t} {u = u} {rest = xs} {rest' = ys} e r r') z h ls pending =
        let w = first-all (λ (m : Line). IsTrue (names_well p m)) (tree_lines t) (tree_lines u) h.1 in let none = none-first xs ys z in
        quiet-line S l (rule_lines (tree_lines t ++ tree_lines u) ++ ls) pending h.0 (Some (two S' S'')) e
        ∙ ap (λ (zs : List CertLine). standing_of_lines p b (lemma_due s k lemmas L S' (S'' ∷ pending)) zs) (rule-lines-append (tree_lines t) (tree_lines u) ls)
        ∙ lemma_quiet r none.0 w.0 (rule_lines (tree_lines u) ++ ls) (S'' ∷ pending)
        ∙ lemma_quiet r' none.1 w.1 ls pending
