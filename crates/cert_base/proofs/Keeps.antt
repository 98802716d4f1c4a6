-- Each line goes where it belongs.
use Rattle.std.proofs.Common.{◌≡◌, ℕ, List, [], ◌∷◌, ◌++◌, Bool, true, false, cond, IsTrue, Option, Some, None, refl, ap, ap₂, sym, ◌∙◌, subst, length, map, nat_eq, nat_lt, nat_le, append_assoc, append-nil, ◌&&◌}
use Rattle.std.proofs.lemmas.Bool.{eqb-true}
use Rattle.std.proofs.lemmas.List.{map-append}
use Rattle.interval_model.specs.Space.{Space}
use Rattle.dyadic.specs.Fraction.{at_most}
use Rattle.dyadic.specs.Rounding.{exact}
use Rattle.interval_model.specs.Space.{real_domain, bool_domain}
use Rattle.poly_graph.specs.Problem.{Declared, real_between, any_bool, Axis, Problem, crosses}
use Rattle.cover_line.specs.Words.{word_of}
use Rattle.cover_model.specs.State.{State, Loosenings, root_state}
use Rattle.cover_model.specs.Rules.{Line, narrow_by, end_by, void_by, by_squares, false_form, by_lemma, mark_by, branch_by, stay_by, Left, closed, one, two, stays, when, pulled, voided, rule}
use Rattle.cert_read.specs.CertLine.{says_both, says_false, says_true, CertLine, version, margin, delta, bound, cover, point_word, tree_word, end_word, lemma, real_interval, real_value, bool_value, yes_list, no_list, rule_line, crossing}
use Rattle.cert_model.specs.Due.{CertFault, BadHeader, BadNumber, Missing, WrongBound, NotShown, RuleFails, Standing, Value, at_point, left_open, Due, version_due, margin_due, delta_due, bound_due, kind_due, next_due, axis_due, yes_due, no_due, lemma_due, root_due, tree_due, coordinate_due, end_due, nothing_due, Next, on, faulty, given, is_version, same_bound, ascends, apart, all_below, names_well, after_rule, after_lemma_rule, tree_goes_on, lemma_goes_on, axis_next, coordinate_next, is_crossed_box, is_shown}
use Rattle.cert_model.specs.Accepted.{next, loosenings_fit, ruled_line, tree_line, root_line, axis_line, coordinate_line, no_crossing, most_lemmas}
use Rattle.cert_model.specs.Written.{rule_lines}
use Rattle.cert_model.proofs.Invariant.{IfOn, given_on, cond_on}
use Rattle.cert_resumed.specs.Resumed.{is_leaving}
use Rattle.cert_check.specs.Courses.{stand_due}
use Rattle.cert_base.specs.Gathered.{Gathered, IsHead, IsInLemmas, IsInTree, IsWhole, Gathers, heading, standing_states, state_at_root, if_leaving, place, gather, in_lemmas, in_tree}

-- ---- a line is one of those that leave their states where its rule does

abbrev pub is_stays : Left → Bool
is_stays stays = true
is_stays l = false

abbrev Agrees : Option Left → Bool → Type 0
Agrees None t = Unit {0}
Agrees (Some o) t = is_stays o ≡ t

cond-agrees : (t : Bool) (o : Option Left) (v : Bool) → Agrees o v → Agrees (cond t o None) v
cond-agrees true o v h = h
cond-agrees false o v h = tt

when-agrees : (t : Bool) (l : Left) (v : Bool) → is_stays l ≡ v → Agrees (when t l) v
when-agrees true l v h = h
when-agrees false l v h = tt

pulled-agrees : (S : State) (o : Option Space) → Agrees (pulled S o) false
pulled-agrees S None = tt
pulled-agrees S (Some space) = refl

voided-agrees : (o : Option Space) → Agrees (voided o) false
voided-agrees None = refl
voided-agrees (Some space) = tt

leaves : (p : Problem) (s : Loosenings) (lemmas : List State) (S : State) (l : Line) → Agrees (rule p s lemmas S l) (is_leaving l)
leaves p s lemmas S (narrow_by n) = cond-agrees _ (pulled S _) false (pulled-agrees S _)
leaves p s lemmas S (end_by (void_by n)) = cond-agrees _ (voided _) false (voided-agrees _)
leaves p s lemmas S (end_by (by_squares ms bs)) = when-agrees _ closed false refl
leaves p s lemmas S (end_by false_form) = when-agrees _ closed false refl
leaves p s lemmas S (end_by (by_lemma i)) = when-agrees _ closed false refl
leaves p s lemmas S (mark_by m) = when-agrees _ _ false refl
leaves p s lemmas S (branch_by b) = when-agrees _ _ false refl
leaves p s lemmas S (stay_by t) = when-agrees _ stays true refl

-- ---- lists

one-more : (xs ys zs : List CertLine) (t l : CertLine) → (xs ++ (ys ++ (t ∷ zs))) ++ (l ∷ []) ≡ xs ++ (ys ++ (t ∷ (zs ++ (l ∷ []))))
one-more xs ys zs t l = append_assoc xs (ys ++ (t ∷ zs)) (l ∷ []) ∙ ap (λ (us : List CertLine). xs ++ us) (append_assoc ys (t ∷ zs) (l ∷ []))

rule-more : (rules : List Line) (l : Line) → (rule_lines rules ++ []) ++ (rule_line l ∷ []) ≡ rule_lines (rules ++ (l ∷ [])) ++ []
rule-more rules l =
    ap (λ (us : List CertLine). us ++ (rule_line l ∷ [])) (append-nil (rule_lines rules))
    ∙ sym (map-append rule_line rules (l ∷ [])) ∙ sym (append-nil (rule_lines (rules ++ (l ∷ []))))

same-bound : (n b : Option ℕ) → IsTrue (same_bound n b) → n ≡ b
same-bound None None h = refl
same-bound (Some m) (Some n) h = ap (λ (k : ℕ). Some k) (eqb-true m n h)
same-bound None (Some n) h = cc
same-bound (Some m) None h = cc

-- ---- what is gathered

module _ (b : Option ℕ) where
  head-more : (xs ls : List CertLine) (g : Gathered) → IsHead xs ls g → (l : CertLine) → IsHead (xs ++ (l ∷ [])) (ls ++ (l ∷ [])) g
  head-more xs ls g h l = record { taken = ap (λ (us : List CertLine). us ++ (l ∷ [])) h.taken; nothing = h.nothing }

  begin-lemmas : (s : Loosenings) (k : ℕ) (ls : List CertLine) (g : Gathered) → Gathers b (kind_due s) ls g → IsInLemmas s b k (ls ++ (cover k ∷ [])) g
  begin-lemmas s k ls g h = record {
    taken = ap (λ (us : List CertLine). us ++ (cover k ∷ [])) h.taken ∙ ap (λ (x : Gathered). heading s b k ++ x.lemma_lines) (sym h.nothing);
    main = ap (λ (x : Gathered). x.main) h.nothing;
    left = ap (λ (x : Gathered). x.left) h.nothing;
  }

  lemmas-more : (s : Loosenings) (k : ℕ) (ls : List CertLine) (g : Gathered) → IsInLemmas s b k ls g → (l : CertLine) → IsInLemmas s b k (ls ++ (l ∷ [])) (gather in_lemmas l g)
  lemmas-more s k ls g h l = record {
    taken = ap (λ (us : List CertLine). us ++ (l ∷ [])) h.taken ∙ append_assoc (heading s b k) g.lemma_lines (l ∷ []);
    main = h.main;
    left = h.left;
  }

  begin-tree : (s : Loosenings) (k : ℕ) (ls : List CertLine) (g : Gathered) → IsInLemmas s b k ls g → IsInTree s b k [] (ls ++ (tree_word ∷ [])) g × (g.left ≡ [])
  begin-tree s k ls g h = (
    record {
      taken = ap (λ (us : List CertLine). us ++ (tree_word ∷ [])) h.taken ∙ append_assoc (heading s b k) g.lemma_lines (tree_word ∷ [])
          ∙ ap (λ (rules : List Line). heading s b k ++ (g.lemma_lines ++ (tree_word ∷ (rule_lines rules ++ [])))) (sym h.main);
    },
    h.left,
  )

  tree-more : (s : Loosenings) (k : ℕ) (ls : List CertLine) (g : Gathered) → IsInTree s b k [] ls g → (l : Line) (o : Option State) → IsInTree s b k [] (ls ++ (rule_line l ∷ [])) (gather (in_tree o) (rule_line l) g)
  tree-more s k ls g h l o = record {
    taken = ap (λ (us : List CertLine). us ++ (rule_line l ∷ [])) h.taken ∙ one-more (heading s b k) g.lemma_lines (rule_lines g.main ++ []) tree_word (rule_line l)
        ∙ ap (λ (us : List CertLine). heading s b k ++ (g.lemma_lines ++ (tree_word ∷ us))) (rule-more g.main l);
  }

  tree-ends : (s : Loosenings) (k : ℕ) (ls : List CertLine) (done : List Standing) (g : Gathered) → IsWhole s b k [] ls done g → IsWhole s b k (end_word ∷ []) (ls ++ (end_word ∷ [])) done g
  tree-ends s k ls done g h = record {
    left = h.left;
    tree = λ some. record {
      taken = ap (λ (us : List CertLine). us ++ (end_word ∷ [])) (h.tree some).taken ∙ one-more (heading s b k) g.lemma_lines (rule_lines g.main ++ []) tree_word end_word
          ∙ ap (λ (us : List CertLine). heading s b k ++ (g.lemma_lines ++ (tree_word ∷ (us ++ (end_word ∷ []))))) (append-nil (rule_lines g.main));
    };
  }

  -- ---- by what is due

  in-axes : (s : Loosenings) (k : ℕ) (lemmas : List State) (axes : List Axis) (space : Space) (ls : List CertLine) (g : Gathered) → IsInLemmas s b k ls g → Gathers b (axis_next s k lemmas axes space) ls g
  in-axes s k lemmas [] space ls g h = h
  in-axes s k lemmas (a ∷ axes) space ls g h = h

  in-point : (s : Loosenings) (axes : List Axis) (space : Space) (ls : List CertLine) (g : Gathered) → Gathers b (coordinate_next s axes space) ls g
  in-point s [] space ls g = tt
  in-point s (a ∷ axes) space ls g = tt

  in-lemma : (s : Loosenings) (k : ℕ) (lemmas : List State) (L : State) (pending : List State) (ls : List CertLine) (g : Gathered) → IsInLemmas s b k ls g → Gathers b (lemma_goes_on s k lemmas L pending) ls g
  in-lemma s k lemmas L [] ls g h = h
  in-lemma s k lemmas L (S ∷ pending) ls g h = h

  in-main : (s : Loosenings) (lemmas pending : List State) (done : List Standing) (ls : List CertLine) (g : Gathered) → IsInTree s b (length lemmas) [] ls g → g.left ≡ standing_states done →
      Gathers b (tree_goes_on s lemmas pending done) ls g
  in-main s lemmas [] done ls g h e = record { left = e; tree = λ some. h }
  in-main s lemmas (S ∷ pending) done ls g h e = (h, e)

  module _ (p : Problem) where
    abbrev Gives : List CertLine → Gathered → Next → Type 0
    Gives ls g x = IfOn (λ d. Gathers b d ls g) x

    ruled : (t : Bool) (x : Next) (ls : List CertLine) (g : Gathered) → Gives ls g x → Gives ls g (ruled_line t x)
    ruled true x ls g h = h
    ruled false x ls g h = tt

    after-lemma : (o : Option Left) (f : CertFault) (s : Loosenings) (k : ℕ) (lemmas : List State) (L : State) (pending : List State) (ls : List CertLine) (g : Gathered) → IsInLemmas s b k ls g →
        Gives ls g (after_lemma_rule o f pending (lemma_goes_on s k lemmas L))
    after-lemma None f s k lemmas L pending ls g h = tt
    after-lemma (Some closed) f s k lemmas L pending ls g h = in-lemma s k lemmas L pending ls g h
    after-lemma (Some stays) f s k lemmas L pending ls g h = tt
    after-lemma (Some (one S')) f s k lemmas L pending ls g h = h
    after-lemma (Some (two S' S'')) f s k lemmas L pending ls g h = h

    axis-line : (s : Loosenings) (k : ℕ) (lemmas : List State) (a : Declared) (axes : List Axis) (space : Space) (l : CertLine) (ls : List CertLine) (g : Gathered) → IsInLemmas s b k ls g →
        Gives (ls ++ (l ∷ [])) (gather (place p (stand_due (next_due s k lemmas)) l) l g) (axis_line p s k lemmas a axes space l)
    axis-line s k lemmas (real_between lo hi) axes space (real_interval l u) ls g h =
        given_on (λ d. Gathers b d (ls ++ (real_interval l u ∷ [])) (gather in_lemmas (real_interval l u) g)) (at_most (exact l) (exact u)) (axis_next s k lemmas axes (space ++ (real_domain l u ∷ []))) BadNumber
        (λ e. in-axes s k lemmas axes _ _ _ (lemmas-more s k ls g h (real_interval l u)))
    axis-line s k lemmas any_bool axes space (bool_value w) ls g h = in-axes s k lemmas axes _ _ _ (lemmas-more s k ls g h (bool_value w))
    axis-line s k lemmas _ axes space _ ls g h = tt

    coordinate-line : (s : Loosenings) (a : Declared) (axes : List Axis) (space : Space) (l : CertLine) (ls : List CertLine) (g : Gathered) → Gives ls g (coordinate_line s a axes space l)
    coordinate-line s (real_between lo hi) axes space (real_value v) ls g = in-point s axes _ ls g
    coordinate-line s any_bool axes space (bool_value says_false) ls g = in-point s axes _ ls g
    coordinate-line s any_bool axes space (bool_value says_true) ls g = in-point s axes _ ls g
    coordinate-line s _ axes space _ ls g = tt

    -- ---- lines of the main tree

    module _ (s : Loosenings) (lemmas : List State) (S : State) (l : Line) (pending : List State) (done : List Standing) (ls : List CertLine) (g : Gathered) where
      abbrev gathered : Gathered
      gathered = gather (in_tree (if_leaving l (Some S))) (rule_line l) g

      left-quiet : is_leaving l ≡ false → g.left ≡ standing_states done → gathered.left ≡ standing_states done
      left-quiet e h = ap (λ (t : Bool). (gather (in_tree (cond t (Some S) None)) (rule_line l) g).left) e ∙ h

      left-more : is_leaving l ≡ true → g.left ≡ standing_states done → gathered.left ≡ standing_states (done ++ (record { state = S; does = l } ∷ []))
      left-more e h = ap (λ (t : Bool). (gather (in_tree (cond t (Some S) None)) (rule_line l) g).left) e ∙ ap (λ (xs : List State). xs ++ (S ∷ [])) h
          ∙ sym (map-append (λ (x : Standing). x.state) done (record { state = S; does = l } ∷ []))

      after-main : (f : CertFault) → IsInTree s b (length lemmas) [] ls g → g.left ≡ standing_states done → (o : Option Left) → Agrees o (is_leaving l) →
          Gives (ls ++ (rule_line l ∷ [])) gathered (after_rule o f (record { state = S; does = l }) pending done (tree_goes_on s lemmas))
      after-main f h e None a = tt
      after-main f h e (Some closed) a = in-main s lemmas pending done _ _ (tree-more s (length lemmas) ls g h l (if_leaving l (Some S))) (left-quiet (sym a) e)
      after-main f h e (Some stays) a = in-main s lemmas pending (done ++ (record { state = S; does = l } ∷ [])) _ _ (tree-more s (length lemmas) ls g h l (if_leaving l (Some S))) (left-more (sym a) e)
      after-main f h e (Some (one S')) a = (tree-more s (length lemmas) ls g h l (if_leaving l (Some S)), left-quiet (sym a) e)
      after-main f h e (Some (two S' S'')) a = (tree-more s (length lemmas) ls g h l (if_leaving l (Some S)), left-quiet (sym a) e)

      main-line : IsInTree s b (length lemmas) [] ls g → g.left ≡ standing_states done → Gives (ls ++ (rule_line l ∷ [])) gathered (tree_line p s lemmas S pending done l)
      main-line h e = ruled (names_well p l) _ _ gathered (after-main (RuleFails (word_of l)) h e (rule p s lemmas S l) (leaves p s lemmas S l))

    root-line : (t : Bool) (s : Loosenings) (lemmas : List State) (l : Line) (ls : List CertLine) (g : Gathered) → IsInTree s b (length lemmas) [] ls g → g.left ≡ [] →
        Gives (ls ++ (rule_line l ∷ [])) (gather (in_tree (if_leaving l (state_at_root t p))) (rule_line l) g) (root_line t p s lemmas l)
    root-line true s lemmas l ls g h e = ruled (names_well p l) (faulty (RuleFails (word_of l))) _ (gather (in_tree (if_leaving l None)) (rule_line l) g) (tt {0})
    root-line false s lemmas l ls g h e = main-line s lemmas (root_state p) l [] [] ls g h e

    -- ---- a line, where something is due

    ends : (s : Loosenings) (lemmas : List State) (v : Value) (ls : List CertLine) (g : Gathered) → Gathers b (end_due s lemmas v) ls g → Gathers b (nothing_due s lemmas v) (ls ++ (end_word ∷ [])) g
    ends s lemmas (at_point space) ls g h = tt
    ends s lemmas (left_open done) ls g h = tree-ends s (length lemmas) ls done g h

    pub gathers_line : (d : Due) (l : CertLine) (ls : List CertLine) (g : Gathered) → Gathers b d ls g → Gives (ls ++ (l ∷ [])) (gather (place p (stand_due d) l) l g) (next p b d l)
    gathers_line version_due (version n) ls g h = given_on (λ d. Gathers b d (ls ++ (version n ∷ [])) g) (is_version n) (margin_due n) BadHeader (λ e. head-more [] ls g h (version n))
    gathers_line version_due _ ls g h = tt
    gathers_line (margin_due v) (margin m) ls g h = head-more (version v ∷ []) ls g h (margin m)
    gathers_line (margin_due v) _ ls g h = tt
    gathers_line (delta_due v m) (delta n) ls g h = given_on (λ d. Gathers b d (ls ++ (delta n ∷ [])) g) (loosenings_fit m n) (bound_due (record { margin_bits = m; delta_bits = n; version = v })) BadHeader (λ e. head-more (version v ∷ margin m ∷ []) ls g h (delta n))
    gathers_line (delta_due v m) _ ls g h = tt
    gathers_line (bound_due s) (bound n) ls g h = given_on (λ d. Gathers b d (ls ++ (bound n ∷ [])) g) (same_bound n b) (kind_due s) WrongBound
        (λ e. subst (λ (c : Option ℕ). IsHead (version s.version ∷ margin s.margin_bits ∷ delta s.delta_bits ∷ bound c ∷ []) (ls ++ (bound n ∷ [])) g) (same-bound n b e)
        (head-more (version s.version ∷ margin s.margin_bits ∷ delta s.delta_bits ∷ []) ls g h (bound n)))
    gathers_line (bound_due s) _ ls g h = tt
    gathers_line (kind_due s) (cover k) ls g h = given_on (λ d. Gathers b d (ls ++ (cover k ∷ [])) g) (nat_le k most_lemmas) (next_due s k []) BadHeader (λ e. begin-lemmas s k ls g h)
    gathers_line (kind_due s) point_word ls g h = in-point s p.axes [] (ls ++ (point_word ∷ [])) g
    gathers_line (kind_due s) _ ls g h = tt
    gathers_line (next_due s k lemmas) (lemma i) ls g h =
        cond_on (λ d. Gathers b d (ls ++ (lemma i ∷ [])) (gather in_lemmas (lemma i) g)) (nat_lt (length lemmas) k) (given (nat_eq i (length lemmas)) (axis_next s k lemmas p.axes []) BadNumber) (faulty Missing)
        (λ e. given_on (λ d. Gathers b d (ls ++ (lemma i ∷ [])) (gather in_lemmas (lemma i) g)) (nat_eq i (length lemmas)) (axis_next s k lemmas p.axes []) BadNumber
        (λ e'. in-axes s k lemmas p.axes [] _ _ (lemmas-more s k ls g h (lemma i)))) (tt {0})
    gathers_line (next_due s k lemmas) tree_word ls g h = given_on (λ d. Gathers b d (ls ++ (tree_word ∷ [])) g) (nat_eq (length lemmas) k) (root_due s lemmas) Missing
        (λ e. subst (λ (n : ℕ). IsInTree s b n [] (ls ++ (tree_word ∷ [])) g × (g.left ≡ [])) (sym (eqb-true (length lemmas) k e)) (begin-tree s k ls g h))
    gathers_line (next_due s k lemmas) _ ls g h = tt
    gathers_line (axis_due s k lemmas a axes space) l ls g h = axis-line s k lemmas a.declared axes space l ls g h
    gathers_line (yes_due s k lemmas space) (yes_list js) ls g h = given_on (λ d. Gathers b d (ls ++ (yes_list js ∷ [])) (gather in_lemmas (yes_list js) g)) (all_below (length p.atoms) js && ascends js) (no_due s k lemmas space js) BadNumber
        (λ e. lemmas-more s k ls g h (yes_list js))
    gathers_line (yes_due s k lemmas space) _ ls g h = tt
    gathers_line (no_due s k lemmas space is) (no_list js) ls g h = given_on (λ d. Gathers b d (ls ++ (no_list js ∷ [])) (gather in_lemmas (no_list js) g)) (all_below (length p.atoms) js && ascends js && apart is js) (lemma_due s k lemmas _ _ []) BadNumber
        (λ e. lemmas-more s k ls g h (no_list js))
    gathers_line (no_due s k lemmas space is) _ ls g h = tt
    gathers_line (lemma_due s k lemmas L S pending) (rule_line l) ls g h = ruled (names_well p l) _ _ _
        (after-lemma (rule p s lemmas S l) (RuleFails (word_of l)) s k lemmas L pending (ls ++ (rule_line l ∷ [])) (gather in_lemmas (rule_line l) g) (lemmas-more s k ls g h (rule_line l)))
    gathers_line (lemma_due s k lemmas L S pending) _ ls g h = tt
    gathers_line (root_due s lemmas) (crossing i) ls g h = cond_on (λ d. Gathers b d (ls ++ (crossing i ∷ [])) g) (crosses p i) (on (end_due s lemmas (left_open []))) (no_crossing p i)
        (λ e. record { left = h.1; tree = λ some. absurd (some refl) }) (tt {0})
    gathers_line (root_due s lemmas) (rule_line l) ls g h = root-line (is_crossed_box p) s lemmas l ls g h.0 h.1
    gathers_line (root_due s lemmas) _ ls g h = tt
    gathers_line (tree_due s lemmas S pending done) (rule_line l) ls g h = main-line s lemmas S l pending done ls g h.0 h.1
    gathers_line (tree_due s lemmas S pending done) _ ls g h = tt
    gathers_line (coordinate_due s a axes space) l ls g h = coordinate-line s a.declared axes space l _ _
    gathers_line (end_due s lemmas v) end_word ls g h = given_on (λ d. Gathers b d (ls ++ (end_word ∷ [])) g) (is_shown p s v) (nothing_due s lemmas v) NotShown (λ e. ends s lemmas v ls g h)
    gathers_line (end_due s lemmas v) _ ls g h = tt
    gathers_line (nothing_due s lemmas v) _ ls g h = tt
