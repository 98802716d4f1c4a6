-- Covers that are written as lines are accepted.
use Rattle.std.proofs.Common.{◌≡◌, inl, inr, ℕ, suc, ◌+◌, ◌<◌, ◌≤◌, List, [], ◌∷◌, ◌++◌, map, Bool, true, false, ◌&&◌, cond, Option, Some, None, IsTrue, refl, ap, sym, ◌∙◌, subst, true≢false, nat_eq, length, append_assoc, append-nil, length-append, arith}
use Rattle.std.proofs.lemmas.Bool.{le-leb}
use Rattle.std.proofs.lemmas.Bool.Decides.{eqb_tells}
use Rattle.dyadic.specs.Rounding.{Dyadic}
use Rattle.dyadic.proofs.Equal.{both_true, both_pass}
use Rattle.interval_model.specs.Space.{Domain, real_domain, bool_domain, Space}
use Rattle.poly_graph.specs.Problem.{Declared, real_between, any_bool, Axis, Problem, first_crossed, crosses}
use Rattle.poly_graph.specs.Marks.{Mark, yes_of, no_of, marks_of, numbers_from, is_no, is_yes}
use Rattle.cover_model.specs.State.{State, Loosenings, root_state}
use Rattle.cover_model.specs.Derivation.{Tree, leaf, then, fork, tree_lines, Lawful}
use Rattle.cert_read.specs.CertLine.{CertLine, line, version, margin, delta, bound, cover, lemma, point_word, tree_word, end_word, yes_list, no_list, crossing}
use Rattle.cert_model.specs.Due.{BadHeader, BadNumber, Missing, WrongBound, NotShown, Standing, Value, at_point, left_open, is_shown, coordinate_next, Due, version_due, margin_due, delta_due, bound_due, kind_due, next_due, yes_due, no_due, lemma_due, root_due, tree_due, end_due, nothing_due, Next, on, faulty, given, is_version, same_bound, ascends, apart, all_below, state_of, axis_next, is_some_axis}
use Rattle.cert_model.specs.Accepted.{next, coordinate_line, axis_line, no_crossing, root_line, loosenings_fit, is_header, most_lemmas, reached, course_next, course_of_lines, ended, accepted}
use Rattle.cert_model.specs.Written.{rule_lines, NamesWell, left_standing, tree_standing, LemmaTree, lemma_states, domain_line, lemma_lines, lemmas_lines, cover_lines, FitsAxis, FitsAxes, IsLemmaTree, AreLemmaTrees, point_line, point_lines}
use Rattle.cert_model.specs.Standing.{Stands, at_root, stands_at, standing_next, standing_of_lines}
use Rattle.cert_model.specs.Derived.{IsSingle, AreSingle}
use Rattle.cert_model.specs.SessionLaws.{WrittenEnd, written_tree, written_crossing, end_lines, value_of_end, standing_of_end, IsLawfulEnd}
use Rattle.cert_model.proofs.MarkLists.{numbers_ascend, numbers_below, marks_again, lists_apart}
use Rattle.cert_model.proofs.Takes.{tree_takes, tree_stands, lemma_takes, lemma_quiet}

pub same_number : (c : ℕ) → nat_eq c c ≡ true
same_number c = elim (eqb_tells c c) [ inl h ↦ h.0 | inr h ↦ absurd (h.1 refl) ]

pub same_bounds : (b : Option ℕ) → same_bound b b ≡ true
same_bounds None = refl
same_bounds (Some n) = same_number n

states-length : (xs : List LemmaTree) → length (lemma_states xs) ≡ length xs
states-length [] = refl
states-length (x ∷ xs) = ap suc (states-length xs)

module _ (p : Problem) (b : Option ℕ) (s : Loosenings) where
  -- the course of some lines leads to that of what is due then, with the rest of the lines, and none of those passed is one of the main tree
  record Leads (d : Due) (ls : List CertLine) (d' : Due) (ls' : List CertLine) : Type 0 where
    to : (n : ℕ) → (m : ℕ) × (course_of_lines p b n d ls ≡ course_of_lines p b m d' ls')
    quiet : standing_of_lines p b d ls ≡ standing_of_lines p b d' ls'

  through : {d d' d'' : Due} {ls ls' ls'' : List CertLine} → Leads d ls d' ls' → Leads d' ls' d'' ls'' → Leads d ls d'' ls''
  through f g = record { to = λ n. let x = f.to n in let y = g.to x.0 in (y.0, x.1 ∙ y.1); quiet = f.quiet ∙ g.quiet }

  at-once : (d d' : Due) (ls : List CertLine) → d ≡ d' → Leads d ls d' ls
  at-once d d' ls e = record { to = λ n. (n, ap (λ (x : Due). course_of_lines p b n x ls) e); quiet = ap (λ (x : Due). standing_of_lines p b x ls) e }

  one-line : (d : Due) (l : CertLine) (ls : List CertLine) (d' : Due) → next p b d l ≡ on d' → stands_at p d (line l) ≡ [] → Leads d (l ∷ ls) d' ls
  one-line d l ls d' e q = record {
    to = λ n. (suc n, ap (λ (x : Next). course_next x (suc n) (λ y. course_of_lines p b (suc n) y ls)) e);
    quiet = ap (λ (xs : List Stands). xs ++ standing_next (next p b d l) (λ y. standing_of_lines p b y ls)) q ∙ ap (λ (x : Next). standing_next x (λ y. standing_of_lines p b y ls)) e;
  }

  -- ---- a lemma's state

  domain-step : (k : ℕ) (lemmas : List State) (a : Declared) (axes : List Axis) (space : Space) (d : Domain) → FitsAxis a d → axis_line p s k lemmas a axes space (domain_line d) ≡ on (axis_next s k lemmas axes (space ++ (d ∷ [])))
  domain-step k lemmas (real_between lo hi) axes space (real_domain l h) f = ap (λ (t : Bool). given t (axis_next s k lemmas axes (space ++ (real_domain l h ∷ []))) BadNumber) f
  domain-step k lemmas any_bool axes space (bool_domain true true) f = refl
  domain-step k lemmas any_bool axes space (bool_domain true false) f = refl
  domain-step k lemmas any_bool axes space (bool_domain false true) f = refl
  domain-step k lemmas any_bool axes space (bool_domain false false) f = absurd (true≢false (sym f))
  domain-step k lemmas (real_between lo hi) axes space (bool_domain f' t) f = elim f [ ]
  domain-step k lemmas any_bool axes space (real_domain l h) f = elim f [ ]

  axes-lead : (k : ℕ) (lemmas : List State) (axes : List Axis) (ds : Space) → FitsAxes axes ds → (space : Space) (ls : List CertLine) →
      Leads (axis_next s k lemmas axes space) (map domain_line ds ++ ls) (yes_due s k lemmas (space ++ ds)) ls
  axes-lead k lemmas [] [] f space ls = at-once (yes_due s k lemmas space) (yes_due s k lemmas (space ++ [])) ls (ap (yes_due s k lemmas) (sym (append-nil space)))
  axes-lead k lemmas (a ∷ axes) (d ∷ ds) f space ls =
      subst (λ (x : Space). Leads (axis_next s k lemmas (a ∷ axes) space) (map domain_line (d ∷ ds) ++ ls) (yes_due s k lemmas x) ls) (append_assoc space (d ∷ []) ds)
      (through
      (one-line (axis_next s k lemmas (a ∷ axes) space) (domain_line d) (map domain_line ds ++ ls) _ (domain-step k lemmas a.declared axes space d f.0) refl)
      (axes-lead k lemmas axes ds f.1 (space ++ (d ∷ [])) ls))
  axes-lead k lemmas [] (d ∷ ds) f space ls = elim f [ ]
  axes-lead k lemmas (a ∷ axes) [] f space ls = elim f [ ]

  list-fits : (test : Mark → Bool) (marks : List Mark) → length marks ≡ length p.atoms → all_below (length p.atoms) (numbers_from test 0 marks) && ascends (numbers_from test 0 marks) ≡ true
  list-fits test marks e = both_pass (all_below (length p.atoms) (numbers_from test 0 marks)) (ascends (numbers_from test 0 marks))
      (numbers_below test marks 0 (length p.atoms) (omega (arith, e))) (numbers_ascend test marks 0)

  state-again : (S : State) → length S.marks ≡ length p.atoms → state_of p S.space (yes_of S.marks) (no_of S.marks) ≡ S
  state-again S e = ap (λ (ms : List Mark). record { space = S.space; marks = ms }) (ap (λ (n : ℕ). marks_of n (yes_of S.marks) (no_of S.marks)) (sym e) ∙ marks_again S.marks)

  -- ---- a lemma

  lemma-begins : (k : ℕ) (lemmas : List State) → length lemmas < k → next p b (next_due s k lemmas) (lemma (length lemmas)) ≡ on (axis_next s k lemmas p.axes [])
  lemma-begins k lemmas h =
      ap (λ (t : Bool). cond t (given (nat_eq (length lemmas) (length lemmas)) (axis_next s k lemmas p.axes []) BadNumber) (faulty Missing)) (le-leb (suc (length lemmas)) k h)
      ∙ ap (λ (t : Bool). given t (axis_next s k lemmas p.axes []) BadNumber) (same_number (length lemmas))

  no-step : (k : ℕ) (lemmas : List State) (S : State) → length S.marks ≡ length p.atoms → next p b (no_due s k lemmas S.space (yes_of S.marks)) (no_list (no_of S.marks)) ≡ on (lemma_due s k lemmas S S [])
  no-step k lemmas S e =
      ap (λ (t : Bool). given t (lemma_due s k lemmas (state_of p S.space (yes_of S.marks) (no_of S.marks)) (state_of p S.space (yes_of S.marks) (no_of S.marks)) []) BadNumber)
      (both_pass (all_below (length p.atoms) (no_of S.marks) && ascends (no_of S.marks)) (apart (yes_of S.marks) (no_of S.marks)) (list-fits is_no S.marks e) (lists_apart S.marks))
      ∙ ap (λ (X : State). on (lemma_due s k lemmas X X [])) (state-again S e)

  lemma-leads : (k : ℕ) (lemmas : List State) (x : LemmaTree) → IsLemmaTree p s lemmas x → length lemmas < k → (ls : List CertLine) →
      Leads (next_due s k lemmas) (lemma_lines (length lemmas) x ++ ls) (next_due s k (lemmas ++ (x.state ∷ []))) ls
  lemma-leads k lemmas x g h ls =
      let S : State = x.state in let rules : List CertLine = rule_lines (tree_lines x.tree) ++ ls in
      let lists : List CertLine = yes_list (yes_of S.marks) ∷ no_list (no_of S.marks) ∷ rules in
      let first : Leads (next_due s k lemmas) (lemma (length lemmas) ∷ (map domain_line S.space ++ lists)) (axis_next s k lemmas p.axes []) (map domain_line S.space ++ lists) =
      one-line (next_due s k lemmas) (lemma (length lemmas)) (map domain_line S.space ++ lists) (axis_next s k lemmas p.axes []) (lemma-begins k lemmas h) refl in
      let space : Leads (axis_next s k lemmas p.axes []) (map domain_line S.space ++ lists) (yes_due s k lemmas S.space) lists = axes-lead k lemmas p.axes S.space g.fits [] lists in
      let yes : Leads (yes_due s k lemmas S.space) lists (no_due s k lemmas S.space (yes_of S.marks)) (no_list (no_of S.marks) ∷ rules) =
      one-line (yes_due s k lemmas S.space) (yes_list (yes_of S.marks)) (no_list (no_of S.marks) ∷ rules) (no_due s k lemmas S.space (yes_of S.marks))
      (ap (λ (t : Bool). given t (no_due s k lemmas S.space (yes_of S.marks)) BadNumber) (list-fits is_yes S.marks g.marks)) refl in
      let no : Leads (no_due s k lemmas S.space (yes_of S.marks)) (no_list (no_of S.marks) ∷ rules) (lemma_due s k lemmas S S []) rules =
      one-line (no_due s k lemmas S.space (yes_of S.marks)) (no_list (no_of S.marks)) rules (lemma_due s k lemmas S S []) (no-step k lemmas S g.marks) refl in
      let tree : Leads (lemma_due s k lemmas S S []) rules (next_due s k (lemmas ++ (S ∷ []))) ls =
      record { to = λ n. (n + length (tree_lines x.tree), lemma_takes p b s lemmas k S g.lawful refl g.names ls n []); quiet = lemma_quiet p b s lemmas k S g.lawful refl g.names ls [] } in
      subst (λ (zs : List CertLine). Leads (next_due s k lemmas) (lemma (length lemmas) ∷ zs) (next_due s k (lemmas ++ (S ∷ []))) ls)
      (sym (append_assoc (map domain_line S.space) (yes_list (yes_of S.marks) ∷ no_list (no_of S.marks) ∷ rule_lines (tree_lines x.tree)) ls))
      (through first
      (through space
      (through yes
      (through no tree))))

  lemmas-lead : (k : ℕ) (lemmas : List State) (xs : List LemmaTree) → AreLemmaTrees p s lemmas xs → length lemmas + length xs ≤ k → (ls : List CertLine) →
      Leads (next_due s k lemmas) (lemmas_lines (length lemmas) xs ++ ls) (next_due s k (lemmas ++ lemma_states xs)) ls
  lemmas-lead k lemmas [] g h ls = at-once (next_due s k lemmas) (next_due s k (lemmas ++ [])) ls (ap (next_due s k) (sym (append-nil lemmas)))
  lemmas-lead k lemmas (x ∷ xs) g h ls =
      let more : List State = lemmas ++ (x.state ∷ []) in
      let count : length more ≡ suc (length lemmas) = length-append lemmas (x.state ∷ []) ∙ omega arith in
      let one : Leads (next_due s k lemmas) (lemma_lines (length lemmas) x ++ (lemmas_lines (suc (length lemmas)) xs ++ ls)) (next_due s k more) (lemmas_lines (suc (length lemmas)) xs ++ ls) =
      lemma-leads k lemmas x g.0 (omega (arith, h)) (lemmas_lines (suc (length lemmas)) xs ++ ls) in
      let rest : Leads (next_due s k more) (lemmas_lines (suc (length lemmas)) xs ++ ls) (next_due s k (more ++ lemma_states xs)) ls =
      subst (λ (i : ℕ). Leads (next_due s k more) (lemmas_lines i xs ++ ls) (next_due s k (more ++ lemma_states xs)) ls) count (lemmas-lead k more xs g.1 (omega (arith, count, h)) ls) in
      subst (λ (zs : List CertLine). Leads (next_due s k lemmas) zs (next_due s k (lemmas ++ lemma_states (x ∷ xs))) ls) (sym (append_assoc (lemma_lines (length lemmas) x) (lemmas_lines (suc (length lemmas)) xs) ls))
      (subst (λ (ys : List State). Leads (next_due s k lemmas) (lemma_lines (length lemmas) x ++ (lemmas_lines (suc (length lemmas)) xs ++ ls)) (next_due s k ys) ls) (append_assoc lemmas (x.state ∷ []) (lemma_states xs))
      (through one rest))

  -- ---- the header, the main tree and the end

  header-parts : IsTrue (is_header s) → IsTrue (is_version s.version) × IsTrue (loosenings_fit s.margin_bits s.delta_bits)
  header-parts h = both_true (is_version s.version) (loosenings_fit s.margin_bits s.delta_bits) h

  bound-leads : IsTrue (is_header s) → (ls : List CertLine) →
      Leads version_due (version s.version ∷ margin s.margin_bits ∷ delta s.delta_bits ∷ bound b ∷ ls) (kind_due s) ls
  bound-leads f ls =
      through (one-line version_due (version s.version) _ (margin_due s.version) (ap (λ (t : Bool). given t (margin_due s.version) BadHeader) (header-parts f).0) refl)
      (through (one-line (margin_due s.version) (margin s.margin_bits) _ (delta_due s.version s.margin_bits) refl refl)
      (through (one-line (delta_due s.version s.margin_bits) (delta s.delta_bits) _ (bound_due s) (ap (λ (t : Bool). given t (bound_due s) BadHeader) (header-parts f).1) refl)
      (one-line (bound_due s) (bound b) ls (kind_due s) (ap (λ (t : Bool). given t (kind_due s) WrongBound) (same_bounds b)) refl)))

  header-leads : (k : ℕ) → IsTrue (is_header s) → k ≤ most_lemmas → (ls : List CertLine) →
      Leads version_due (version s.version ∷ margin s.margin_bits ∷ delta s.delta_bits ∷ bound b ∷ cover k ∷ ls) (next_due s k []) ls
  header-leads k f h ls = through (bound-leads f (cover k ∷ ls))
      (one-line (kind_due s) (cover k) ls (next_due s k []) (ap (λ (t : Bool). given t (next_due s k []) BadHeader) (le-leb k most_lemmas h)) refl)

  tree-begins : (lemmas : List State) (k : ℕ) → length lemmas ≡ k → next p b (next_due s k lemmas) tree_word ≡ on (root_due s lemmas)
  tree-begins lemmas k e = ap (λ (t : Bool). given t (root_due s lemmas) Missing) (ap (λ (i : ℕ). nat_eq (length lemmas) i) (sym e) ∙ same_number (length lemmas))

  -- where the declared box is not empty, the first line of the tree is as any other
  root-leads : (lemmas : List State) (t : Tree) → first_crossed p ≡ None → (ls : List CertLine) (n : ℕ) →
      course_of_lines p b n (root_due s lemmas) (rule_lines (tree_lines t) ++ ls) ≡ course_of_lines p b n (tree_due s lemmas (root_state p) [] []) (rule_lines (tree_lines t) ++ ls)
  root-leads lemmas (leaf l) e ls n = ap (λ (o : Option ℕ). course_next (root_line (is_some_axis o) p s lemmas l) (suc n) (λ d. course_of_lines p b (suc n) d ls)) e
  root-leads lemmas (then l t) e ls n = ap (λ (o : Option ℕ). course_next (root_line (is_some_axis o) p s lemmas l) (suc n) (λ d. course_of_lines p b (suc n) d (rule_lines (tree_lines t) ++ ls))) e
  root-leads lemmas (fork l t u) e ls n = ap (λ (o : Option ℕ). course_next (root_line (is_some_axis o) p s lemmas l) (suc n) (λ d. course_of_lines p b (suc n) d (rule_lines (tree_lines t ++ tree_lines u) ++ ls))) e

  -- up to the first line of the main tree, where these lemmas are kept
  tree-leads : (kept : List State) (xs : List LemmaTree) → AreLemmaTrees p s kept xs → (ls : List CertLine) →
      Leads (next_due s (length kept + length xs) kept) (lemmas_lines (length kept) xs ++ (tree_word ∷ ls)) (root_due s (kept ++ lemma_states xs)) ls
  tree-leads kept xs g ls =
      let k : ℕ = length kept + length xs in
      let count : length (kept ++ lemma_states xs) ≡ k = length-append kept (lemma_states xs) ∙ ap (λ (n : ℕ). length kept + n) (states-length xs) in
      through (lemmas-lead k kept xs g (omega arith) (tree_word ∷ ls))
      (one-line (next_due s k (kept ++ lemma_states xs)) tree_word ls (root_due s (kept ++ lemma_states xs)) (tree-begins (kept ++ lemma_states xs) k count) refl)

  -- and so do the states of its first line
  root-stands : (lemmas : List State) (t : Tree) → first_crossed p ≡ None → (ls : List CertLine) →
      standing_of_lines p b (root_due s lemmas) (rule_lines (tree_lines t) ++ ls) ≡ standing_of_lines p b (tree_due s lemmas (root_state p) [] []) (rule_lines (tree_lines t) ++ ls)
  root-stands lemmas (leaf l) e ls =
      ap (λ (o : Option ℕ). at_root (is_some_axis o) p s l ++ standing_next (root_line (is_some_axis o) p s lemmas l) (λ d. standing_of_lines p b d ls)) e
  root-stands lemmas (then l t) e ls =
      ap (λ (o : Option ℕ). at_root (is_some_axis o) p s l ++ standing_next (root_line (is_some_axis o) p s lemmas l) (λ d. standing_of_lines p b d (rule_lines (tree_lines t) ++ ls))) e
  root-stands lemmas (fork l t u) e ls =
      ap (λ (o : Option ℕ). at_root (is_some_axis o) p s l ++ standing_next (root_line (is_some_axis o) p s lemmas l) (λ d. standing_of_lines p b d (rule_lines (tree_lines t ++ tree_lines u) ++ ls))) e

  -- ---- whole parts

  -- the lines lead to the end of a certificate with these lemmas and this value, and those of the main tree are these
  pub record Finishes (d : Due) (ls : List CertLine) (lemmas : List State) (v : Value) (xs : List Standing) : Type 0 where
    pub to : (n : ℕ) → (m : ℕ) × (course_of_lines p b n d ls ≡ reached (nothing_due s lemmas v) m)
    pub stand : standing_of_lines p b d ls ≡ map (λ (x : Standing). record { loosenings = s; line = x }) xs

  and-finishes : {d d' : Due} {ls ls' : List CertLine} {lemmas : List State} {v : Value} {xs : List Standing} → Leads d ls d' ls' → Finishes d' ls' lemmas v xs → Finishes d ls lemmas v xs
  and-finishes f g = record { to = λ n. let x = f.to n in let y = g.to x.0 in (y.0, x.1 ∙ y.1); stand = f.quiet ∙ g.stand }

  end-line : (lemmas : List State) (v : Value) → IsTrue (is_shown p s v) → next p b (end_due s lemmas v) end_word ≡ on (nothing_due s lemmas v)
  end-line lemmas v h = ap (λ (t : Bool). given t (nothing_due s lemmas v) NotShown) h

  -- a lawful tree, or the line for bounds that cross, and `end`
  end-finishes : (lemmas : List State) (e : WrittenEnd) → IsLawfulEnd p s lemmas e → Finishes (root_due s lemmas) (end_lines e ++ (end_word ∷ [])) lemmas (value_of_end s p lemmas e) (standing_of_end s p lemmas e)
  end-finishes lemmas (written_tree t) h = record {
    to = λ n. (suc (n + length (tree_lines t)), root-leads lemmas t h.0 (end_word ∷ []) n ∙ tree_takes p b s lemmas h.1.1 h.2 (end_word ∷ []) n [] []);
    stand = root-stands lemmas t h.0 (end_word ∷ []) ∙ tree_stands p b s lemmas h.1.1 h.2 (end_word ∷ []) [] []
        ∙ append-nil (map (λ (x : Standing). record { loosenings = s; line = x }) (tree_standing p s lemmas (root_state p) t));
  }
  end-finishes lemmas (written_crossing i) h = record {
    to = λ n. (suc (suc n), ap (λ (t : Bool). course_next (cond t (on (end_due s lemmas (left_open []))) (no_crossing p i)) (suc n) (λ d. course_of_lines p b (suc n) d (end_word ∷ []))) h);
    stand = ap (λ (t : Bool). standing_next (cond t (on (end_due s lemmas (left_open []))) (no_crossing p i)) (λ d. standing_of_lines p b d (end_word ∷ []))) h;
  }

  -- lemmas with their trees behind those that are kept, a main tree and `end`
  pub cover_finishes : (kept : List State) (xs : List LemmaTree) (e : WrittenEnd) → AreLemmaTrees p s kept xs → IsLawfulEnd p s (kept ++ lemma_states xs) e →
      Finishes (next_due s (length kept + length xs) kept) (lemmas_lines (length kept) xs ++ (tree_word ∷ (end_lines e ++ (end_word ∷ [])))) (kept ++ lemma_states xs)
      (value_of_end s p (kept ++ lemma_states xs) e) (standing_of_end s p (kept ++ lemma_states xs) e)
  cover_finishes kept xs e g h = and-finishes (tree-leads kept xs g (end_lines e ++ (end_word ∷ []))) (end-finishes (kept ++ lemma_states xs) e h)

  -- ---- covers of one check

  whole-cover : (xs : List LemmaTree) (e : WrittenEnd) → IsTrue (is_header s) → length xs ≤ most_lemmas → AreLemmaTrees p s [] xs → IsLawfulEnd p s (lemma_states xs) e →
      Finishes version_due (cover_lines s b xs (end_lines e)) (lemma_states xs) (value_of_end s p (lemma_states xs) e) (standing_of_end s p (lemma_states xs) e)
  whole-cover xs e f h g i =
      let ls : List CertLine = lemmas_lines 0 xs ++ (tree_word ∷ (end_lines e ++ (end_word ∷ []))) in let lemmas : List State = lemma_states xs in
      and-finishes (header-leads (length xs) f h ls)
      (subst (λ (k : ℕ). Finishes (next_due s k []) ls lemmas (value_of_end s p lemmas e) (standing_of_end s p lemmas e)) (omega arith) (cover_finishes [] xs e g i))

  tree-end : (xs : List LemmaTree) → first_crossed p ≡ None → (t : Tree) (rest : List State) → Lawful p s (lemma_states xs) (root_state p) t rest → NamesWell p t → IsLawfulEnd p s (lemma_states xs) (written_tree t)
  tree-end xs e t rest r w = (e, (rest, r), w)

  -- lemmas with their trees and a lawful tree at the root, written as lines, are accepted with what the tree leaves
  pub cover_accepted : (xs : List LemmaTree) → IsTrue (is_header s) → length xs ≤ most_lemmas → AreLemmaTrees p s [] xs → first_crossed p ≡ None →
      (t : Tree) (rest : List State) → Lawful p s (lemma_states xs) (root_state p) t rest → NamesWell p t →
      ended (course_of_lines p b 0 version_due (cover_lines s b xs (rule_lines (tree_lines t)))) ≡ accepted s (left_open (left_standing p s (lemma_states xs) (root_state p) t))
  cover_accepted xs f h g e t rest r w = ap ended ((whole-cover xs (written_tree t) f h g (tree-end xs e t rest r w)).to 0).1

  -- where the tree's lines stand as in the tree
  pub cover_stands : (xs : List LemmaTree) → IsTrue (is_header s) → length xs ≤ most_lemmas → AreLemmaTrees p s [] xs → first_crossed p ≡ None →
      (t : Tree) (rest : List State) → Lawful p s (lemma_states xs) (root_state p) t rest → NamesWell p t →
      standing_of_lines p b version_due (cover_lines s b xs (rule_lines (tree_lines t))) ≡ map (λ (x : Standing). record { loosenings = s; line = x }) (tree_standing p s (lemma_states xs) (root_state p) t)
  cover_stands xs f h g e t rest r w = (whole-cover xs (written_tree t) f h g (tree-end xs e t rest r w)).stand

  -- and so is the line for bounds that cross
  pub crossing_accepted : (xs : List LemmaTree) → IsTrue (is_header s) → length xs ≤ most_lemmas → AreLemmaTrees p s [] xs → (i : ℕ) → IsTrue (crosses p i) →
      ended (course_of_lines p b 0 version_due (cover_lines s b xs (crossing i ∷ []))) ≡ accepted s (left_open [])
  crossing_accepted xs f h g i c = ap ended ((whole-cover xs (written_crossing i) f h g c).to 0).1

  -- which is no line that stands at a state
  pub crossing_stands : (xs : List LemmaTree) → IsTrue (is_header s) → length xs ≤ most_lemmas → AreLemmaTrees p s [] xs → (i : ℕ) → IsTrue (crosses p i) →
      standing_of_lines p b version_due (cover_lines s b xs (crossing i ∷ [])) ≡ []
  crossing_stands xs f h g i c = (whole-cover xs (written_crossing i) f h g c).stand

  -- ---- points

  coordinate-step : (a : Declared) (axes : List Axis) (space : Space) (d : Domain) → IsSingle a d → coordinate_line s a axes space (point_line d) ≡ on (coordinate_next s axes (space ++ (d ∷ [])))
  coordinate-step (real_between lo hi) axes space (real_domain l h) f = ap (λ (u : Dyadic). on (coordinate_next s axes (space ++ (real_domain l u ∷ [])))) f
  coordinate-step any_bool axes space (bool_domain true false) f = refl
  coordinate-step any_bool axes space (bool_domain false true) f = refl
  coordinate-step any_bool axes space (bool_domain true true) f = elim f [ ]
  coordinate-step any_bool axes space (bool_domain false false) f = elim f [ ]
  coordinate-step (real_between lo hi) axes space (bool_domain f' t) f = elim f [ ]
  coordinate-step any_bool axes space (real_domain l h) f = elim f [ ]

  coordinates-lead : (axes : List Axis) (ds : Space) → AreSingle axes ds → (space : Space) (ls : List CertLine) →
      Leads (coordinate_next s axes space) (map point_line ds ++ ls) (end_due s [] (at_point (space ++ ds))) ls
  coordinates-lead [] [] f space ls = at-once (end_due s [] (at_point space)) (end_due s [] (at_point (space ++ []))) ls (ap (λ (x : Space). end_due s [] (at_point x)) (sym (append-nil space)))
  coordinates-lead (a ∷ axes) (d ∷ ds) f space ls =
      subst (λ (x : Space). Leads (coordinate_next s (a ∷ axes) space) (map point_line (d ∷ ds) ++ ls) (end_due s [] (at_point x)) ls) (append_assoc space (d ∷ []) ds)
      (through (one-line (coordinate_next s (a ∷ axes) space) (point_line d) (map point_line ds ++ ls) _ (coordinate-step a.declared axes space d f.0) refl)
      (coordinates-lead axes ds f.1 (space ++ (d ∷ [])) ls))
  coordinates-lead [] (d ∷ ds) f space ls = elim f [ ]
  coordinates-lead (a ∷ axes) [] f space ls = elim f [ ]

  -- from the word `point` on
  pub point_finishes : (space : Space) → AreSingle p.axes space → IsTrue (is_shown p s (at_point space)) →
      Finishes (kind_due s) (point_word ∷ (map point_line space ++ (end_word ∷ []))) [] (at_point space) []
  point_finishes space g h =
      and-finishes (one-line (kind_due s) point_word (map point_line space ++ (end_word ∷ [])) (coordinate_next s p.axes []) refl refl)
      (and-finishes (coordinates-lead p.axes space g [] (end_word ∷ []))
      (record {
        to = λ n. (suc n, ap (λ (x : Next). course_next x (suc n) (λ d. course_of_lines p b (suc n) d [])) (end-line [] (at_point space) h));
        stand = ap (λ (x : Next). standing_next x (λ d. standing_of_lines p b d [])) (end-line [] (at_point space) h);
      }))

  whole-point : IsTrue (is_header s) → (space : Space) → AreSingle p.axes space → IsTrue (is_shown p s (at_point space)) → Finishes version_due (point_lines s b space) [] (at_point space) []
  whole-point f space g h = and-finishes (bound-leads f _) (point_finishes space g h)

  -- a point that is shown, written as lines, is accepted
  pub point_accepted : IsTrue (is_header s) → (space : Space) → AreSingle p.axes space → IsTrue (is_shown p s (at_point space)) →
      ended (course_of_lines p b 0 version_due (point_lines s b space)) ≡ accepted s (at_point space)
  point_accepted f space g h = ap ended ((whole-point f space g h).to 0).1

  pub point_stands : IsTrue (is_header s) → (space : Space) → AreSingle p.axes space → IsTrue (is_shown p s (at_point space)) →
      standing_of_lines p b version_due (point_lines s b space) ≡ []
  point_stands f space g h = (whole-point f space g h).stand
