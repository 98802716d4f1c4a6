-- A cover that was read: its header, its lemmas under later versions, its main tree.
use Rattle.std.proofs.Common.{◌≡◌, ℕ, suc, ◌+◌, ◌≤◌, List, [], ◌∷◌, ◌++◌, map, Bool, Option, IsTrue, refl, ap, sym, ◌∙◌, subst, length, nat_eq, nat_le, append-nil, arith}
use Rattle.std.specs.Bool.{passes}
use Rattle.std.proofs.Math.Facts.{leb_yes}
use Rattle.std.proofs.lemmas.Bool.{le-leb}
use Rattle.dyadic.proofs.Equal.{both_true, both_pass}
use Rattle.poly_graph.specs.Problem.{Problem}
use Rattle.cover_model.specs.State.{State, Loosenings, in_version, root_state}
use Rattle.cover_model.specs.Rules.{Line}
use Rattle.cover_model.specs.Derivation.{Tree, tree_lines}
use Rattle.cert_read.specs.Lines.{lines_of}
use Rattle.cert_read.specs.CertLine.{CertLine, version, margin, delta, bound, cover, tree_word, end_word, Parsed, line, parsed}
use Rattle.cert_model.specs.Due.{BadHeader, WrongBound, Missing, Standing, left_open, Due, version_due, margin_due, delta_due, bound_due, kind_due, next_due, root_due, nothing_due, Next, on, faulty, given, is_version, same_bound}
use Rattle.cert_model.specs.Accepted.{next, next_parsed, loosenings_fit, is_header, most_lemmas, Course, reached, course_next, course, course_of_lines}
use Rattle.cert_model.specs.Standing.{Stands, stands_at, standing_next, standing_from, standing_of_lines, standing}
use Rattle.cert_model.specs.Written.{rule_lines, left_standing, tree_standing}
use Rattle.cert_model.specs.SessionLaws.{written_tree, IsLawfulEnd}
use Rattle.cert_model.proofs.Writes.{same_bounds, same_number, Finishes, cover_finishes}
use Rattle.cert_resumed.specs.Resumed.{CoverRead, IsCoverRead, read_lines}
use Rattle.cert_resumed.proofs.Parses.{MainTree, main_tree}
use Rattle.cert_resumed.proofs.Sections.{given_goes, Leads, through, one_line, Ends, lemmas_end}

-- the line of a main tree with its state
abbrev pub stood : Loosenings → Standing → Stands
stood s x = record { loosenings = s; line = x }

module _ (p : Problem) (b : Option ℕ) where
  -- ---- lines of bytes are read as these

  same-next : (x : Next) (n : ℕ) (j k : Due → Course) → ((d : Due) → j d ≡ k d) → course_next x n j ≡ course_next x n k
  same-next (on d) n j k h = h d
  same-next (faulty f) n j k h = refl

  same-standing : (x : Next) (j k : Due → List Stands) → ((d : Due) → j d ≡ k d) → standing_next x j ≡ standing_next x k
  same-standing (on d) j k h = h d
  same-standing (faulty f) j k h = refl

  pub course_reads : (ls : List (List ℕ)) (xs : List CertLine) → map parsed ls ≡ map line xs → (n : ℕ) (d : Due) → course p b n d ls ≡ course_of_lines p b n d xs
  course_reads [] [] e n d = refl
  course_reads [] (x ∷ xs) e n d = cc
  course_reads (l ∷ ls) [] e n d = cc
  course_reads (l ∷ ls) (x ∷ xs) e n d =
      let first : parsed l ≡ line x = cc in let rest : map parsed ls ≡ map line xs = cc in
      ap (λ (y : Parsed). course_next (next_parsed p b d y) (suc n) (λ d'. course p b (suc n) d' ls)) first
      ∙ same-next (next p b d x) (suc n) _ _ (λ d'. course_reads ls xs rest (suc n) d')

  pub standing_reads : (ls : List (List ℕ)) (xs : List CertLine) → map parsed ls ≡ map line xs → (d : Due) → standing_from p b d ls ≡ standing_of_lines p b d xs
  standing_reads [] [] e d = refl
  standing_reads [] (x ∷ xs) e d = cc
  standing_reads (l ∷ ls) [] e d = cc
  standing_reads (l ∷ ls) (x ∷ xs) e d =
      let first : parsed l ≡ line x = cc in let rest : map parsed ls ≡ map line xs = cc in
      ap (λ (y : Parsed). stands_at p d y ++ standing_next (next_parsed p b d y) (λ d'. standing_from p b d' ls)) first
      ∙ ap (λ (zs : List Stands). stands_at p d (line x) ++ zs) (same-standing (next p b d x) _ _ (λ d'. standing_reads ls xs rest d'))

  -- ---- the header

  abbrev header_of : Loosenings → ℕ → List CertLine → List CertLine
  header_of s k ls = version s.version ∷ margin s.margin_bits ∷ delta s.delta_bits ∷ bound b ∷ cover k ∷ ls

  pub header_leads : (s : Loosenings) (k : ℕ) (ls : List CertLine) → IsTrue (is_header s) → k ≤ most_lemmas → Leads p b version_due (header_of s k ls) (next_due s k []) ls
  header_leads s k ls f h =
      let e = both_true (is_version s.version) (loosenings_fit s.margin_bits s.delta_bits) f in
      through p b (one_line p b version_due (version s.version) _ (margin_due s.version) (ap (λ (t : Bool). given t (margin_due s.version) BadHeader) e.0) refl)
      (through p b (one_line p b (margin_due s.version) (margin s.margin_bits) _ (delta_due s.version s.margin_bits) refl refl)
      (through p b (one_line p b (delta_due s.version s.margin_bits) (delta s.delta_bits) _ (bound_due s) (ap (λ (t : Bool). given t (bound_due s) BadHeader) e.1) refl)
      (through p b (one_line p b (bound_due s) (bound b) _ (kind_due s) (ap (λ (t : Bool). given t (kind_due s) WrongBound) (same_bounds b)) refl)
      (one_line p b (kind_due s) (cover k) ls (next_due s k []) (ap (λ (t : Bool). given t (next_due s k []) BadHeader) (le-leb k most_lemmas h)) refl))))

  record Header (s : Loosenings) (k : ℕ) : Type 0 where
    loosenings : IsTrue (is_header s)
    few : k ≤ most_lemmas

  -- where all is taken, the header is right
  header-right : (s : Loosenings) (k : ℕ) (ls : List CertLine) (e : Due) (m : ℕ) → course_of_lines p b 0 version_due (header_of s k ls) ≡ reached e m → Header s k
  header-right s k ls e m z =
      let v = given_goes (is_version s.version) (margin_due s.version) BadHeader 1 (λ d. course_of_lines p b 1 d (margin s.margin_bits ∷ delta s.delta_bits ∷ bound b ∷ cover k ∷ ls)) e m z in
      let l = given_goes (loosenings_fit s.margin_bits s.delta_bits) (bound_due s) BadHeader 3 (λ d. course_of_lines p b 3 d (bound b ∷ cover k ∷ ls)) e m v.1 in
      let w = given_goes (same_bound b b) (kind_due s) WrongBound 4 (λ d. course_of_lines p b 4 d (cover k ∷ ls)) e m l.1 in
      let c = given_goes (nat_le k most_lemmas) (next_due s k []) BadHeader 5 (λ d. course_of_lines p b 5 d ls) e m w.1 in
      record { loosenings = both_pass (is_version s.version) (loosenings_fit s.margin_bits s.delta_bits) v.0 l.0; few = leb_yes (passes _ c.0) }

  -- ---- from the line `tree` on

  tree-leads : (s : Loosenings) (lemmas : List State) (k : ℕ) (ls : List CertLine) → length lemmas ≡ k → Leads p b (next_due s k lemmas) (tree_word ∷ ls) (root_due s lemmas) ls
  tree-leads s lemmas k ls e = one_line p b (next_due s k lemmas) tree_word ls (root_due s lemmas)
      (ap (λ (t : Bool). given t (root_due s lemmas) Missing) (ap (λ (i : ℕ). nat_eq (length lemmas) i) (sym e) ∙ same_number (length lemmas))) refl

  -- a lawful tree and `end` finish a certificate
  tree-finishes : (s : Loosenings) (lemmas : List State) (t : Tree) → IsLawfulEnd p s lemmas (written_tree t) →
      Finishes p b s (next_due s (length lemmas) lemmas) (tree_word ∷ (rule_lines (tree_lines t) ++ (end_word ∷ []))) lemmas (left_open (left_standing p s lemmas (root_state p) t)) (tree_standing p s lemmas (root_state p) t)
  tree-finishes s lemmas t h =
      let none : lemmas ++ [] ≡ lemmas = append-nil lemmas in
      let count : length lemmas + 0 ≡ length lemmas = omega arith in
      let ls : List CertLine = tree_word ∷ (rule_lines (tree_lines t) ++ (end_word ∷ [])) in
      subst (λ (ks : List State). Finishes p b s (next_due s (length lemmas) lemmas) ls ks (left_open (left_standing p s ks (root_state p) t)) (tree_standing p s ks (root_state p) t)) none
      (subst (λ (k : ℕ). Finishes p b s (next_due s k lemmas) ls (lemmas ++ []) (left_open (left_standing p s (lemmas ++ []) (root_state p) t)) (tree_standing p s (lemmas ++ []) (root_state p) t)) count
      (cover_finishes p b s lemmas [] (written_tree t) tt (subst (λ (ks : List State). IsLawfulEnd p s ks (written_tree t)) (sym none) h)))

  -- ---- the whole

  -- what is known of a cover that was read: its header, that its lemmas' lines lead under a later version to its lemmas, also where
  -- more are announced, its main tree, and where the lines of that stand
  pub record Known (bytes : List ℕ) (c : CoverRead) : Type 0 where
    pub loosenings : IsTrue (is_header c.loosenings)
    pub few : length c.lemmas ≤ most_lemmas
    pub again : (v : ℕ) → c.loosenings.version ≤ v → (j : ℕ) → length c.lemmas ≤ j → (more : List CertLine) → Leads p b (next_due (in_version v c.loosenings) j []) (c.lemma_lines ++ more) (next_due (in_version v c.loosenings) j c.lemmas) more
    pub main : MainTree p c.loosenings c.lemmas c.main c.left
    pub stands : standing p b bytes ≡ map (stood c.loosenings) (tree_standing p c.loosenings c.lemmas (root_state p) main.tree)

  module _ (bytes : List ℕ) (c : CoverRead) (h : IsCoverRead p b bytes c) where
    abbrev own : Loosenings
    own = c.loosenings

    abbrev rest : List CertLine
    rest = rule_lines c.main ++ (end_word ∷ [])

    abbrev inside : List CertLine
    inside = c.lemma_lines ++ (tree_word ∷ rest)

    abbrev last : Due
    last = nothing_due own c.lemmas (left_open c.left)

    whole : course_of_lines p b 0 version_due (header_of own (length c.lemmas) inside) ≡ reached last (length (lines_of bytes))
    whole = sym (course_reads (lines_of bytes) (read_lines b c) h.lines 0 version_due) ∙ h.ends

    right : Header own (length c.lemmas)
    right = header-right own (length c.lemmas) inside last (length (lines_of bytes)) whole

    behind-header : Leads p b version_due (header_of own (length c.lemmas) inside) (next_due own (length c.lemmas) []) inside
    behind-header = header_leads own (length c.lemmas) inside right.loosenings right.few

    ends : (v : ℕ) (n : own.version ≤ v) (j : ℕ) (g : length c.lemmas ≤ j) → Ends p b own v n (length c.lemmas) j g (next_due own (length c.lemmas) []) (next_due (in_version v own) j []) c.lemma_lines rest
    ends v n j g = let f = behind-header.to 0 in lemmas_end p b own v n (length c.lemmas) j g c.lemma_lines rest f.0 (length (lines_of bytes)) last (sym f.1 ∙ whole)

    at-root : (v : ℕ) (n : own.version ≤ v) (j : ℕ) (g : length c.lemmas ≤ j) → Leads p b version_due (header_of own (length c.lemmas) inside) (root_due own (ends v n j g).lemmas) rest
    at-root v n j g = through p b behind-header (through p b (ends v n j g).old (tree-leads own (ends v n j g).lemmas (length c.lemmas) rest (ends v n j g).count))

    main : (v : ℕ) (n : own.version ≤ v) (j : ℕ) (g : length c.lemmas ≤ j) → ((ends v n j g).lemmas ≡ c.lemmas) × MainTree p own (ends v n j g).lemmas c.main c.left
    main v n j g = let f = (at-root v n j g).to 0 in main_tree p b own (ends v n j g).lemmas own c.lemmas c.left c.main f.0 (length (lines_of bytes), sym f.1 ∙ whole)

    same-count : length c.lemmas ≤ length c.lemmas
    same-count = omega arith

    same-version : own.version ≤ own.version
    same-version = omega arith

    main-tree : MainTree p own c.lemmas c.main c.left
    main-tree = let m = main own.version same-version (length c.lemmas) same-count in subst (λ (ks : List State). MainTree p own ks c.main c.left) m.0 m.1

    main-finishes : Finishes p b own (next_due own (length c.lemmas) c.lemmas) (tree_word ∷ rest) c.lemmas
        (left_open (left_standing p own c.lemmas (root_state p) main-tree.tree)) (tree_standing p own c.lemmas (root_state p) main-tree.tree)
    main-finishes = subst (λ (ls : List Line). Finishes p b own (next_due own (length c.lemmas) c.lemmas) (tree_word ∷ (rule_lines ls ++ (end_word ∷ []))) c.lemmas
        (left_open (left_standing p own c.lemmas (root_state p) main-tree.tree)) (tree_standing p own c.lemmas (root_state p) main-tree.tree)) main-tree.lines
        (tree-finishes own c.lemmas main-tree.tree (main-tree.not_crossed, (main-tree.rest, main-tree.lawful), main-tree.names))

    to-tree : Leads p b version_due (header_of own (length c.lemmas) inside) (next_due own (length c.lemmas) c.lemmas) (tree_word ∷ rest)
    to-tree = subst (λ (ks : List State). Leads p b version_due (header_of own (length c.lemmas) inside) (next_due own (length c.lemmas) ks) (tree_word ∷ rest))
        (main own.version same-version (length c.lemmas) same-count).0 (through p b behind-header (ends own.version same-version (length c.lemmas) same-count).old)

    pub known : Known bytes c
    known = record {
      loosenings = right.loosenings;
      few = right.few;
      again = λ v n j g more. subst (λ (ks : List State). Leads p b (next_due (in_version v own) j []) (c.lemma_lines ++ more) (next_due (in_version v own) j ks) more) (main v n j g).0 ((ends v n j g).new more);
      main = main-tree;
      stands = standing_reads (lines_of bytes) (read_lines b c) h.lines version_due ∙ to-tree.quiet ∙ main-finishes.stand;
    }
