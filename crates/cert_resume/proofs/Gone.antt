-- One line more is gone through.
use Rattle.std.proofs.Common.{◌≡◌, ℕ, suc, ◌+◌, ◌≤◌, List, [], ◌∷◌, ◌++◌, length, append_assoc, Bool, true, false, cond, true≢false, refl, ap, sym, ◌∙◌, subst, arith}
use Rattle.std.specs.Prelude.{Vec}
use Rattle.std.specs.Global.{Global}
use Rattle.std.proofs.lemmas.List.{append-nil}
use Rattle.poly_graph.specs.Problem.{Problem}
use Rattle.poly_graph.specs.ProblemViews.{Parts, problem_of}
use Rattle.cover_model.specs.State.{State, Loosenings}
use Rattle.cover_model.specs.Rules.{Line}
use Rattle.cover_model.specs.Derivation.{Tree, leaf, tree_lines}
use Rattle.cover_data.specs.declared.margins.Options.{Options}
use Rattle.cover_data.specs.declared.stored.StoredState.{StoredState}
use Rattle.cover_data.specs.Margins.{margins_of, loosenings_of}
use Rattle.cert_read.specs.CertLine.{CertLine, rule_line}
use Rattle.cert_read.specs.LineText.{IsSpelled}
use Rattle.cert_model.specs.Accepted.{certificate_text}
use Rattle.cert_model.specs.AnswerText.{has_open}
use Rattle.cert_model.specs.Due.{Standing}
use Rattle.cert_model.specs.Written.{AreLemmaTrees, LemmaTree, lemma_states, lemmas_lines, left_standing, rule_lines, tree_branches}
use Rattle.cert_text.specs.Lines.{HasAppended}
use Rattle.cert_text.proofs.Spelling.{both_appended, nothing_appended, rules_append}
use Rattle.cert_resumed.specs.Resumed.{AreGrafts, AreShared, IsGraft, IsShared, Share, each_left, grafted, is_leaving, is_own, leaving_lines, others, own_left}
use Rattle.cert_resumed.proofs.Grafts.{leaving_no_branch}
use Rattle.cert_resume.specs.Answer.{TellsOfOwn}
use Rattle.cert_resume.specs.Going.{HasGone, HasLearned, HasPassed, HasSearched, HasSkipped, IsBegun, MayGoOn}
use Rattle.cert_resume.specs.declared.answer.Own.{Own}
use Rattle.cert_resume.specs.declared.going.Going.{Going}
use Rattle.cert_resume.proofs.Owns.{open_either}
use Rattle.cert_resume.proofs.Rows.{grafts_more, each_more, shared_more, grafts_end, each_end, shared_end, each_count, trees_count, own_end, others_end, branches_end, grafted_other, grafted_leaving, lemma_trees_append, lemma_states_append, lemma_lines_append}

module _ (q : Parts) (o : Options) (h : Share) (start : List State) where
  abbrev p : Problem
  p = problem_of q

  abbrev s : Loosenings
  s = loosenings_of (margins_of o)

  -- ---- at first

  pub begun_gone : (g : Going) → IsBegun q o g → g.lemmas.items ≡ start → HasGone q o h start [] [] g
  begun_gone g f e = record {
    may = f.may;
    lemmas = [];
    learned = subst (λ (t : List ℕ). HasAppended [] [] t) (sym f.begun.learned) (nothing_appended []);
    states = e ∙ sym (append-nil start);
    lemma_trees = tt;
    trees = [];
    main = subst (λ (t : List ℕ). HasAppended [] [] t) (sym f.begun.main) (nothing_appended []);
    grafts = tt;
    shared = tt;
    budget = omega (arith, f.begun.budget);
    own = subst (λ (x : Own). TellsOfOwn x []) (sym f.begun.own) refl;
    spent = λ k. absurd (true≢false (sym k));
    others = f.begun.others;
  }

  -- ---- a line that leaves no state

  pub line_gone : (ls : List Line) (left : List Standing) (g : Going) (M : Vec ℕ Global) (l : Line) → HasGone q o h start ls left g → is_leaving l ≡ false → IsSpelled (rule_line l) →
      M.items ≡ g.main.items ++ certificate_text (rule_line l ∷ []) → HasGone q o h start (ls ++ (l ∷ [])) left (record g { main = M })
  line_gone ls left g M l f e k w = record {
    may = f.may;
    lemmas = f.lemmas;
    learned = f.learned;
    states = f.states;
    lemma_trees = f.lemma_trees;
    trees = f.trees;
    main = subst (λ (ms : List CertLine). HasAppended [] ms M.items) (sym (ap (λ (ms : List Line). rule_lines ms) (grafted_other ls f.trees l e) ∙ rules_append (grafted ls f.trees) (l ∷ [])))
        (both_appended [] g.main.items M.items (rule_lines (grafted ls f.trees)) (rule_line l ∷ []) f.main (record { written = w; spelled = (k, tt) }));
    grafts = f.grafts;
    shared = f.shared;
    budget = f.budget;
    own = f.own;
    spent = f.spent;
    others = f.others;
  }

  -- ---- a state that was left

  -- what was made of it: lemmas and a tree
  pub record Made (own : Bool) (x : Standing) (g g' : Going) : Type 0 where
    pub may : MayGoOn q o g'
    pub lemmas : List LemmaTree
    pub learns : HasLearned q o lemmas g g'
    pub tree : Tree
    pub main : HasAppended g.main.items (rule_lines (tree_lines tree)) g'.main.items
    pub graft : IsGraft p s g'.lemmas.items x tree
    pub shared : IsShared p o.least_bits s g'.lemmas.items own x tree
    pub budget : g'.budget + tree_branches tree ≡ g.budget
    pub own_tells : (xs : List Standing) → TellsOfOwn g.own xs → TellsOfOwn g'.own (xs ++ cond own (left_standing p s g'.lemmas.items x.state tree) [])
    pub spent : has_open (cond own (left_standing p s g'.lemmas.items x.state tree) []) ≡ true → g'.budget ≡ 0
    pub others : g'.others ≡ g.others + cond own 0 1

  module _ (ls : List Line) (left : List Standing) (g g' : Going) (l : Line) (S : State) (f : HasGone q o h start ls left g) (e : is_leaving l ≡ true) (n : length left ≡ length (leaving_lines ls))
      (m : Made (is_own h (length left)) (record { state = S; does = l }) g g') where
    abbrev x : Standing
    x = record { state = S; does = l }

    abbrev new : List State
    new = g'.lemmas.items

    abbrev old : List State
    old = g.lemmas.items ++ lemma_states m.lemmas

    abbrev here : List Standing
    here = left_standing p s new S m.tree

    old-is : old ≡ new
    old-is = sym m.learns.states

    grafts : AreGrafts p s new left f.trees
    grafts = subst (λ (ks : List State). AreGrafts p s ks left f.trees) old-is (grafts_more p s g.lemmas.items (lemma_states m.lemmas) left f.trees f.grafts)

    shared : AreShared p o.least_bits s new h 0 left f.trees
    shared = subst (λ (ks : List State). AreShared p o.least_bits s ks h 0 left f.trees) old-is (shared_more p s g.lemmas.items (lemma_states m.lemmas) o.least_bits h 0 left f.trees f.grafts f.shared)

    before : each_left p s new left f.trees ≡ each_left p s g.lemmas.items left f.trees
    before = ap (λ (ks : List State). each_left p s ks left f.trees) (sym old-is) ∙ each_more p s g.lemmas.items (lemma_states m.lemmas) left f.trees f.grafts

    each : each_left p s new (left ++ (x ∷ [])) (f.trees ++ (m.tree ∷ [])) ≡ each_left p s g.lemmas.items left f.trees ++ (here ∷ [])
    each = each_end p s new x m.tree left f.trees grafts ∙ ap (λ (xss : List (List Standing)). xss ++ (here ∷ [])) before

    count : length (each_left p s g.lemmas.items left f.trees) ≡ length left
    count = each_count p s g.lemmas.items left f.trees f.grafts

    own-is : own_left h 0 (each_left p s new (left ++ (x ∷ [])) (f.trees ++ (m.tree ∷ []))) ≡ own_left h 0 (each_left p s g.lemmas.items left f.trees) ++ cond (is_own h (length left)) here []
    own-is = ap (own_left h 0) each ∙ own_end h 0 (each_left p s g.lemmas.items left f.trees) here
        ∙ (let z : 0 + length (each_left p s g.lemmas.items left f.trees) ≡ length left = omega (arith, count) in ap (λ (i : ℕ). own_left h 0 (each_left p s g.lemmas.items left f.trees) ++ cond (is_own h i) here []) z)

    others-is : others h 0 (each_left p s new (left ++ (x ∷ [])) (f.trees ++ (m.tree ∷ []))) ≡ others h 0 (each_left p s g.lemmas.items left f.trees) + cond (is_own h (length left)) 0 1
    others-is = ap (others h 0) each ∙ others_end h 0 (each_left p s g.lemmas.items left f.trees) here
        ∙ (let z : 0 + length (each_left p s g.lemmas.items left f.trees) ≡ length left = omega (arith, count) in ap (λ (i : ℕ). others h 0 (each_left p s g.lemmas.items left f.trees) + cond (is_own h i) 0 1) z)

    less : g'.budget ≤ g.budget
    less = omega (arith, m.budget)

    all-spent : (b : Bool) → has_open (own_left h 0 (each_left p s g.lemmas.items left f.trees)) ≡ b → has_open (own_left h 0 (each_left p s g.lemmas.items left f.trees) ++ cond (is_own h (length left)) here []) ≡ true → g'.budget ≡ 0
    all-spent true k j = omega (arith, less, f.spent k)
    all-spent false k j = m.spent (open_either (own_left h 0 (each_left p s g.lemmas.items left f.trees)) (cond (is_own h (length left)) here []) j k)

    pub state_gone : HasGone q o h start (ls ++ (l ∷ [])) (left ++ (x ∷ [])) g'
    state_gone = record {
      may = m.may;
      lemmas = f.lemmas ++ m.lemmas;
      learned = subst (λ (ks : List CertLine). HasAppended [] ks g'.learned.items) (sym (lemma_lines_append (length start) f.lemmas m.lemmas))
          (both_appended [] g.learned.items g'.learned.items (lemmas_lines (length start) f.lemmas) (lemmas_lines (length start + length f.lemmas) m.lemmas) f.learned
          (let z : length g.lemmas.items ≡ length start + length f.lemmas = ap (λ (ks : List State). length ks) f.states ∙ states-count start f.lemmas in
          subst (λ (i : ℕ). HasAppended g.learned.items (lemmas_lines i m.lemmas) g'.learned.items) z m.learns.learned));
      states = m.learns.states ∙ ap (λ (ks : List State). ks ++ lemma_states m.lemmas) f.states ∙ append_assoc start (lemma_states f.lemmas) (lemma_states m.lemmas) ∙ ap (λ (ks : List State). start ++ ks) (sym (lemma_states_append f.lemmas m.lemmas));
      lemma_trees = lemma_trees_append p s start f.lemmas m.lemmas f.lemma_trees (subst (λ (ks : List State). AreLemmaTrees p s ks m.lemmas) f.states m.learns.lemma_trees);
      trees = f.trees ++ (m.tree ∷ []);
      main = subst (λ (ms : List CertLine). HasAppended [] ms g'.main.items)
          (sym (ap (λ (ms : List Line). rule_lines ms) (grafted_leaving ls f.trees l m.tree e (trees_count p s g.lemmas.items left f.trees f.grafts ∙ n)) ∙ rules_append (grafted ls f.trees) (tree_lines m.tree)))
          (both_appended [] g.main.items g'.main.items (rule_lines (grafted ls f.trees)) (rule_lines (tree_lines m.tree)) f.main m.main);
      grafts = grafts_end p s new x m.tree left f.trees grafts m.graft;
      shared = shared_end p s new x m.tree o.least_bits h 0 left f.trees shared (let z : 0 + length left ≡ length left = omega arith in subst (λ (i : ℕ). IsShared p o.least_bits s new (is_own h i) x m.tree) (sym z) m.shared);
      budget = omega (arith, f.budget, m.budget, branches_end f.trees m.tree);
      own = subst (TellsOfOwn g'.own) (sym own-is) (m.own_tells (own_left h 0 (each_left p s g.lemmas.items left f.trees)) f.own);
      spent = λ k. all-spent (has_open (own_left h 0 (each_left p s g.lemmas.items left f.trees))) refl (ap has_open (sym own-is) ∙ k);
      others = m.others ∙ ap (λ (i : ℕ). i + cond (is_own h (length left)) 0 1) f.others ∙ sym others-is;
    }
      where
        map-count : (xs : List LemmaTree) → length (lemma_states xs) ≡ length xs
        map-count [] = refl
        map-count (y ∷ xs) = ap suc (map-count xs)

        states-count : (ks : List State) (xs : List LemmaTree) → length (ks ++ lemma_states xs) ≡ length ks + length xs
        states-count [] xs = omega (arith, map-count xs)
        states-count (k ∷ ks) xs = omega (arith, states-count ks xs)

  -- ---- what was made, by whether the state is in the share

  pub searched_made : (S : State) (l : Line) (g g' : Going) → HasSearched q o S g g' → Made true (record { state = S; does = l }) g g'
  searched_made S l g g' k = record {
    may = k.may;
    lemmas = k.lemmas;
    learns = k.learns;
    tree = k.tree;
    main = k.main;
    graft = k.graft l;
    shared = k.honest;
    budget = k.budget;
    own_tells = k.own;
    spent = k.spent;
    others = omega (arith, k.others);
  }

  skipped-made : (S : State) (l : Line) (g g' : Going) → HasSkipped l g g' → is_leaving l ≡ true → MayGoOn q o g → IsSpelled (rule_line l) →
      IsGraft p s g.lemmas.items (record { state = S; does = l }) (leaf l) → Made false (record { state = S; does = l }) g g'
  skipped-made S l g g' k e may spelled graft =
      let same : g.lemmas.items ≡ g'.lemmas.items = ap (λ (v : Vec StoredState Global). v.items) (sym k.lemmas) in
      record {
        may = subst (λ (v : Vec StoredState Global). MayGoOn q o (record g' { lemmas = v })) (sym k.lemmas) (subst (λ (n : ℕ). MayGoOn q o (record g { budget = n })) (sym k.budget) may);
        lemmas = [];
        learns = record {
          learned = subst (λ (v : Vec ℕ Global). HasAppended g.learned.items [] v.items) (sym k.learned) (nothing_appended g.learned.items);
          states = sym same ∙ sym (append-nil g.lemmas.items);
          lemma_trees = tt;
        };
        tree = leaf l;
        main = record { written = k.main; spelled = (spelled, tt) };
        graft = subst (λ (ks : List State). IsGraft p s ks (record { state = S; does = l }) (leaf l)) same graft;
        shared = refl;
        budget = omega (arith, k.budget, leaving_no_branch l e);
        own_tells = λ xs h. subst (λ (x : Own). TellsOfOwn x (xs ++ [])) (sym k.own) (subst (TellsOfOwn g.own) (sym (append-nil xs)) h);
        spent = λ e. absurd (true≢false (sym e));
        others = omega (arith, k.others);
      }

  pub passed_made : (own : Bool) (S : State) (l : Line) (g g' : Going) → HasPassed own q o S l g g' → is_leaving l ≡ true → MayGoOn q o g → IsSpelled (rule_line l) →
      IsGraft p s g.lemmas.items (record { state = S; does = l }) (leaf l) → Made own (record { state = S; does = l }) g g'
  passed_made true S l g g' k e may spelled graft = searched_made S l g g' k
  passed_made false S l g g' k e may spelled graft = skipped-made S l g g' k e may spelled graft
