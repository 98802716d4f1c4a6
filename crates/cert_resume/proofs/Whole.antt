-- What is known of a base, and what a cover that goes on from it is.
use Rattle.std.proofs.Common.{◌≡◌, inl, inr, ℕ, ◌≤◌, List, [], ◌∷◌, ◌++◌, map, length, All, Bool, true, false, cond, nat_le, refl, ap, ap₂, sym, ◌∙◌, subst, arith}
use Rattle.std.specs.List.{AllByRecursion}
use Rattle.std.proofs.lemmas.Bool.{leb-true}
use Rattle.std.proofs.lemmas.List.{length-map}
use Rattle.std.proofs.lemmas.List.Elements.{All-map, All-weaker}
use Rattle.dyadic.proofs.Equal.{both_true}
use Rattle.interval_model.specs.Space.{Space}
use Rattle.poly_graph.specs.Problem.{Problem}
use Rattle.poly_graph.specs.ProblemViews.{Parts, IsWhole, problem_of}
use Rattle.cover_line.specs.Views.{line_of as rule_of}
use Rattle.cover_model.specs.State.{State, Loosenings, IsLemma, in_version}
use Rattle.cover_model.specs.Fits.{FitsProblem}
use Rattle.cover_model.specs.Rules.{Line}
use Rattle.cover_model.specs.Derivation.{leaf}
use Rattle.cover_data.specs.declared.margins.Options.{Options}
use Rattle.cover_data.specs.Margins.{margins_of, loosenings_of, options_in}
use Rattle.cover_book.specs.Keeps.{IsKeptLemma}
use Rattle.cover_book.specs.Limits.{IsWithinLimits}
use Rattle.cert_read.specs.CertLine.{CertLine, version, margin, delta, bound, cover, tree_word, end_word}
use Rattle.cert_read.specs.Views.{line_of}
use Rattle.cert_read.specs.LineText.{IsCount, IsSpelled}
use Rattle.cert_model.specs.Accepted.{IsAccepted, certificate_text, loosenings_fit, most_bytes, most_lemmas}
use Rattle.cert_model.specs.Due.{Standing, is_version, left_open}
use Rattle.cert_model.specs.Least.{is_lines_version}
use Rattle.cert_model.proofs.Header.{version_limits}
use Rattle.cert_text.specs.Means.{IsPointCertificate}
use Rattle.cert_model.specs.Written.{AreLemmaTrees, LemmaTree, lemma_states, lemmas_lines, left_standing, rule_lines}
use Rattle.cert_base.specs.Base.{IsBase}
use Rattle.cert_base.specs.declared.base.Base.{Base}
use Rattle.cert_resumed.specs.Resumed.{IsResumption, IsVersionBehind, grafted, joined, others, own_left, resumed_lines, resumed_text, AreGrafts, AreShared, CoverRead, IsGraft, Share, each_left, all_lemmas, leaving_lines, read_lines}
use Rattle.cert_resumed.proofs.Leaving.{read_is_sound}
use Rattle.cert_resumed.proofs.LemmaStates.{lemmas_fit}
use Rattle.cert_resumed.proofs.Stays.{left_stays}
use Rattle.cert_resumed.proofs.Within.{left_fits}
use Rattle.cert_resume.specs.Calls.{IsFoundPoint}
use Rattle.cert_resume.specs.Going.{CanBeResumed, HasGone, IsBegun, IsBegunWith, IsWithinRoot, options_now, standings}
use Rattle.cert_resume.specs.Answer.{IsResumedCover, IsResumedPoint, TellsOfOwn}
use Rattle.cert_resume.specs.Request.{IsVersionOn, first_version, options_of, share_of}
use Rattle.cert_resume.proofs.Later.{IsWritten, searchable_in, version_on_later, version_on_written}
use Rattle.cert_resume.specs.declared.answer.Cover.{Cover}
use Rattle.cert_resume.specs.declared.answer.Own.{Own}
use Rattle.cert_resume.specs.Text.{header_lines, whole_text}
use Rattle.cert_model.specs.AnswerText.{has_open}
use Rattle.cert_model.specs.Laws.{CanBeWritten}
use Rattle.cert_resumed.specs.Laws.{GoesOn}
use Rattle.cert_resumed.proofs.Resumes.{resumed_accepted}
use Rattle.cert_text.proofs.Spelling.{decimal_short, text_append}
use Rattle.cert_resume.specs.declared.going.Going.{Going}
use Rattle.cert_resume.specs.declared.request.Request.{Request}

all-first : (xs ys : List CertLine) → AllByRecursion IsSpelled (xs ++ ys) → AllByRecursion IsSpelled xs
all-first [] ys k = tt
all-first (x ∷ xs) ys k = (k.0, all-first xs ys k.1)

all-both : (xs ys : List CertLine) → AllByRecursion IsSpelled xs → AllByRecursion IsSpelled ys → AllByRecursion IsSpelled (xs ++ ys)
all-both [] ys k j = j
all-both (x ∷ xs) ys k j = (k.0, all-both xs ys k.1 j)

-- the lines of the main tree, among those that were read
pub first_main : (xs : List CertLine) (ls : List Line) → AllByRecursion IsSpelled (xs ++ (tree_word ∷ (rule_lines ls ++ (end_word ∷ [])))) → AllByRecursion IsSpelled (rule_lines ls)
first_main [] ls k = all-first (rule_lines ls) (end_word ∷ []) k.1
first_main (x ∷ xs) ls k = first_main xs ls k.1

-- ---- the version in which a search begins

first-written : (v : ℕ) → IsWritten (first_version v)
first-written v = go (nat_le v 2)
  where
    go : (t : Bool) → IsWritten (cond t 2 5)
    go true = inl refl
    go false = inr refl

first-later : (v : ℕ) → v ≤ 5 → v ≤ first_version v
first-later v h = go (nat_le v 2) refl
  where
    go : (t : Bool) → nat_le v 2 ≡ t → v ≤ cond t 2 5
    go true e = leb-true v 2 e
    go false e = h

-- ---- the states that stay

standings-back : (left : List Standing) → standings (map (λ (x : Standing). x.does) left) (map (λ (x : Standing). x.state) left) ≡ left
standings-back [] = refl
standings-back (x ∷ left) = ap (λ (xs : List Standing). x ∷ xs) (standings-back left)

module _ (q : Parts) (whole : IsWhole q) (base : Base) (r : Request) (limits : IsWithinLimits q (options_of base r)) (bytes : List ℕ) (is : IsBase (problem_of q) base.bound bytes base) where
  abbrev c : CoverRead
  c = is.read

  abbrev p : Problem
  p = problem_of q

  abbrev o : Options
  o = options_of base r

  abbrev s : Loosenings
  s = loosenings_of (margins_of o)

  pub same_loosenings : (v : ℕ) → in_version v c.loosenings ≡ loosenings_of (margins_of (options_in v o))
  same_loosenings v = ap (in_version v) (sym is.of.loosenings)

  no-later : c.loosenings.version ≤ o.version
  no-later =
      let k = both_true (is_version c.loosenings.version) (loosenings_fit c.loosenings.margin_bits c.loosenings.delta_bits) (read_is_sound p base.bound bytes c is.is_read).loosenings in
      let same : c.loosenings.version ≡ base.version = ap (λ (u : Loosenings). u.version) (sym is.of.loosenings) in
      omega (arith, same, first-later base.version (omega (arith, same, (version_limits c.loosenings.version k.0).1)))

  written : (v : ℕ) → IsVersionOn o.version v → IsWritten v
  written v on = version_on_written o.version v (first-written base.version) on

  behind : (v : ℕ) → IsVersionOn o.version v → IsVersionBehind c.loosenings.version v
  behind v on = (
    elim (written v on) [ inl e ↦ ap is_lines_version e | inr e ↦ ap is_lines_version e ],
    omega (arith, no-later, version_on_later o.version v (first-written base.version) on),
  )

  pub kept : All (IsKeptLemma p s) base.lemmas.items
  kept = subst (All (IsKeptLemma p s)) (sym is.of.lemmas)
      (All-weaker (λ (L : State). FitsProblem p L × IsLemma p (in_version o.version c.loosenings) L) (IsKeptLemma p s)
      (λ L h. record { fits = h.0; lemma = subst (λ (u : Loosenings). IsLemma p u L) (same_loosenings o.version) h.1 }) c.lemmas (lemmas_fit p whole.problem base.bound bytes c is.is_read o.version))

  pub few : length base.lemmas.items ≤ most_lemmas
  few = omega (arith, ap (λ (ls : List State). length ls) is.of.lemmas, (read_is_sound p base.bound bytes c is.is_read).few)

  pub is_begun : (g : Going) → IsBegunWith base.lemmas r.budget o.version g → IsBegun q o g
  is_begun g f = record {
    may = record { kept = subst (λ v. All (IsKeptLemma p s) v.items) (sym f.lemmas) kept; few = subst (λ v. length v.items ≤ most_lemmas) (sym f.lemmas) few; budget = omega (arith, f.budget) };
    begun = record { main = f.main; learned = f.learned; lemmas = refl; version = f.version; budget = f.budget; own = f.own; others = f.others };
  }

  leaving-is : leaving_lines (map rule_of base.main.items) ≡ map (λ (x : Standing). x.does) c.left
  leaving-is = ap leaving_lines is.of.main ∙ sym (read_is_sound p base.bound bytes c is.is_read).leaving

  pub left_is : standings (leaving_lines (map rule_of base.main.items)) base.left.items ≡ c.left
  left_is = ap (λ (ks : List Line). standings ks base.left.items) leaving-is ∙ ap (standings (map (λ (x : Standing). x.does) c.left)) is.of.left ∙ standings-back c.left

  -- where the lines of the main tree can be spelled
  pub can_be_resumed : AllByRecursion IsSpelled (rule_lines c.main) → CanBeResumed q o base.lemmas.items (map rule_of base.main.items) base.left.items
  can_be_resumed spelled = record {
    searchable = record { limits = limits; not_crossed = (read_is_sound p base.bound bytes c is.is_read).not_crossed };
    spelled = subst (λ (ls : List Line). AllByRecursion IsSpelled (rule_lines ls)) (sym is.of.main) spelled;
    leaves = ap (λ (ls : List Line). length ls) leaving-is ∙ length-map c.left (λ (x : Standing). x.does) ∙ sym (length-map c.left (λ (x : Standing). x.state)) ∙ ap (λ (Ss : List State). length Ss) (sym is.of.left);
    fits = subst (All (IsWithinRoot q)) (sym is.of.left) (All-map (IsWithinRoot q) (λ (x : Standing). x.state) c.left (left_fits p whole.problem base.bound bytes c is.is_read));
    stays = λ v later xs.
        let P : Loosenings → List State → Standing → Type 0 = λ (u : Loosenings) (ls : List State) (x : Standing). IsGraft p u ls x (leaf x.does) × (left_standing p u ls x.state (leaf x.does) ≡ x ∷ []) in
        let t : Loosenings = loosenings_of (margins_of (options_in v o)) in
        subst (All (P t (base.lemmas.items ++ lemma_states xs))) (sym left_is)
        (subst (λ (ks : List State). All (P t (ks ++ lemma_states xs)) c.left) (sym is.of.lemmas)
        (subst (λ (u : Loosenings). All (P u (all_lemmas c xs)) c.left) (same_loosenings v) (left_stays p base.bound bytes c is.is_read v (omega (arith, no-later, later)) xs)));
  }

  module _ (h : Share) (g : Going) (gone : HasGone q (options_now o g) h c.lemmas c.main c.left g) where
    abbrev t : Loosenings
    t = loosenings_of (margins_of (options_now o g))

    abbrev now : Loosenings
    now = in_version g.version c.loosenings

    same-now : now ≡ t
    same-now = same_loosenings g.version

    all-states : g.lemmas.items ≡ all_lemmas c gone.lemmas
    all-states = gone.states

    pub grafts : AreGrafts p now (all_lemmas c gone.lemmas) c.left gone.trees
    grafts = subst (λ (u : Loosenings). AreGrafts p u (all_lemmas c gone.lemmas) c.left gone.trees) (sym same-now) (subst (λ (ks : List State). AreGrafts p t ks c.left gone.trees) all-states gone.grafts)

    pub shared : AreShared p r.least_bits now (all_lemmas c gone.lemmas) h 0 c.left gone.trees
    shared = subst (λ (u : Loosenings). AreShared p r.least_bits u (all_lemmas c gone.lemmas) h 0 c.left gone.trees) (sym same-now) (subst (λ (ks : List State). AreShared p r.least_bits t ks h 0 c.left gone.trees) all-states gone.shared)

    pub lemma_trees : AreLemmaTrees p now c.lemmas gone.lemmas
    lemma_trees = subst (λ (u : Loosenings). AreLemmaTrees p u c.lemmas gone.lemmas) (sym same-now) gone.lemma_trees

    pub all_few : length (all_lemmas c gone.lemmas) ≤ most_lemmas
    all_few = omega (arith, gone.may.few, ap (λ (ks : List State). length ks) all-states)

    pub each_is : each_left p t g.lemmas.items c.left gone.trees ≡ each_left p now (all_lemmas c gone.lemmas) c.left gone.trees
    each_is = ap (λ (ks : List State). each_left p t ks c.left gone.trees) all-states ∙ ap (λ (u : Loosenings). each_left p u (all_lemmas c gone.lemmas) c.left gone.trees) (sym same-now)

  -- the same of the cover that was read
  pub gone_of : (h : Share) (g : Going) → HasGone q (options_now o g) h base.lemmas.items (map rule_of base.main.items) (standings (leaving_lines (map rule_of base.main.items)) base.left.items) g →
      HasGone q (options_now o g) h c.lemmas c.main c.left g
  gone_of h g f =
      subst (λ (ks : List State). HasGone q (options_now o g) h ks c.main c.left g) is.of.lemmas
      (subst (λ (ls : List Line). HasGone q (options_now o g) h base.lemmas.items ls c.left g) is.of.main
      (subst (λ (xs : List Standing). HasGone q (options_now o g) h base.lemmas.items (map rule_of base.main.items) xs g) left_is f))

  -- where the lines that were read can be spelled, the text that was written is that of a cover that goes on
  module _ (h : Share) (g : Going) (gone : HasGone q (options_now o g) h c.lemmas c.main c.left g) (on : IsVersionOn o.version g.version) (spelled : AllByRecursion IsSpelled (read_lines base.bound c)) (cert : List ℕ)
      (text : cert ≡ whole_text o (map line_of base.lemma_lines.items) g) (short : length cert ≤ most_bytes) where
    abbrev xs : List LemmaTree
    xs = gone.lemmas

    abbrev n : ℕ
    n = length (all_lemmas c xs)

    heads : header_lines (options_now o g) (length g.lemmas.items) ≡ version g.version ∷ margin c.loosenings.margin_bits ∷ delta c.loosenings.delta_bits ∷ bound base.bound ∷ cover n ∷ []
    heads = ap (λ (k : ℕ). header_lines (options_now o g) k) (ap (λ (ks : List State). length ks) (all-states h g gone))
        ∙ ap (λ (u : Loosenings). version g.version ∷ margin u.margin_bits ∷ delta u.delta_bits ∷ bound base.bound ∷ cover n ∷ []) is.of.loosenings

    four : (A B C D E F : List CertLine) → certificate_text (A ++ (B ++ (C ++ (D ++ (E ++ F))))) ≡ certificate_text A ++ (certificate_text B ++ (certificate_text C ++ (certificate_text D ++ (certificate_text E ++ certificate_text F))))
    four A B C D E F = text_append A (B ++ (C ++ (D ++ (E ++ F)))) ∙ ap (λ (t : List ℕ). certificate_text A ++ t) (text_append B (C ++ (D ++ (E ++ F)))
        ∙ ap (λ (t : List ℕ). certificate_text B ++ t) (text_append C (D ++ (E ++ F)) ∙ ap (λ (t : List ℕ). certificate_text C ++ t) (text_append D (E ++ F) ∙ ap (λ (t : List ℕ). certificate_text D ++ t) (text_append E F))))

    pub text_is : cert ≡ resumed_text g.version base.bound c xs gone.trees
    text_is = text
        ∙ ap (λ (ls : List CertLine). certificate_text ls ++ (certificate_text (map line_of base.lemma_lines.items) ++ (g.learned.items ++ (certificate_text (tree_word ∷ []) ++ (g.main.items ++ certificate_text (end_word ∷ [])))))) heads
        ∙ ap (λ (ls : List CertLine). certificate_text (version g.version ∷ margin c.loosenings.margin_bits ∷ delta c.loosenings.delta_bits ∷ bound base.bound ∷ cover n ∷ []) ++ (certificate_text ls ++ (g.learned.items ++ (certificate_text (tree_word ∷ []) ++ (g.main.items ++ certificate_text (end_word ∷ [])))))) is.of.lemma_lines
        ∙ ap₂ (λ (a b : List ℕ). certificate_text (version g.version ∷ margin c.loosenings.margin_bits ∷ delta c.loosenings.delta_bits ∷ bound base.bound ∷ cover n ∷ []) ++ (certificate_text c.lemma_lines ++ (a ++ (certificate_text (tree_word ∷ []) ++ (b ++ certificate_text (end_word ∷ [])))))) gone.learned.written gone.main.written
        ∙ sym (four (version g.version ∷ margin c.loosenings.margin_bits ∷ delta c.loosenings.delta_bits ∷ bound base.bound ∷ cover n ∷ []) c.lemma_lines (lemmas_lines (length c.lemmas) xs) (tree_word ∷ []) (rule_lines (grafted c.main gone.trees)) (end_word ∷ []))

    before-rest : AllByRecursion IsSpelled c.lemma_lines
    before-rest = all-first c.lemma_lines (tree_word ∷ (rule_lines c.main ++ (end_word ∷ []))) spelled.1.1.1.1.1

    version-spelled : IsSpelled (version g.version)
    version-spelled =
        let k : IsCount g.version = elim (written g.version on) [ inl e ↦ omega (arith, e) | inr e ↦ omega (arith, e) ] in
        (k, omega (arith, decimal_short g.version k))

    count-spelled : IsSpelled (cover n)
    count-spelled = let k : IsCount n = omega (arith, all_few h g gone) in (k, omega (arith, decimal_short n k))

    pub can_be_written : CanBeWritten (resumed_lines g.version base.bound c xs gone.trees)
    can_be_written = (
      (
        version-spelled,
        (
          spelled.1.0,
          (
            spelled.1.1.0,
            (
              spelled.1.1.1.0,
              (
                count-spelled,
                all-both c.lemma_lines _ before-rest (all-both (lemmas_lines (length c.lemmas) xs) _ gone.learned.spelled
                    ((tt, omega arith), all-both (rule_lines (grafted c.main gone.trees)) (end_word ∷ []) gone.main.spelled ((tt, omega arith), tt))),
              ),
            ),
          ),
        ),
      ),
      subst (λ (t : List ℕ). length t ≤ most_bytes) text_is short,
    )

    goes : GoesOn p base.bound bytes g.version c xs gone.trees
    goes = record { read = is.is_read; behind = behind g.version on; few = all_few h g gone; lemmas = lemma_trees h g gone; grafts = grafts h g gone; written = can_be_written }

    -- so it is one that goes on
    pub resumption : IsResumption p base.bound r.least_bits r.budget h bytes cert
    resumption = record {
      read = c;
      is_read = is.is_read;
      version = g.version;
      behind = behind g.version on;
      lemmas = xs;
      trees = gone.trees;
      text = text_is;
      accepted = subst (λ (t : List ℕ). IsAccepted p base.bound t (now h g gone) (left_open (joined (each_left p (now h g gone) (all_lemmas c xs) c.left gone.trees)))) (sym text_is)
          (resumed_accepted p base.bound bytes g.version c xs gone.trees goes);
      shared = shared h g gone;
      within = omega (arith, gone.budget);
      spent = λ k. omega (arith, gone.budget, gone.spent (ap (λ (xss : List (List Standing)). has_open (own_left h 0 xss)) (each_is h g gone) ∙ k));
    }

  -- with what was gone through, it is what the base is resumed to
  pub is_resumed_cover : (x : Cover) (g : Going) → IsVersionOn o.version g.version → (gone : HasGone q (options_now o g) (share_of r.share) c.lemmas c.main c.left g) → AllByRecursion IsSpelled (read_lines base.bound c) →
      x.cert.items ≡ whole_text o (map line_of base.lemma_lines.items) g → length x.cert.items ≤ most_bytes → x.own ≡ g.own → x.others ≡ g.others → IsResumedCover p base.bound r bytes x
  unfolding resumption
  is_resumed_cover x g on gone spelled text short own-is others-is = let h = share_of r.share in record {
    resumption = resumption h g gone on spelled x.cert.items text short;
    own = subst (λ (y : Own). TellsOfOwn y (own_left h 0 (each_left p (in_version g.version c.loosenings) (all_lemmas c gone.lemmas) c.left gone.trees))) (sym own-is)
        (subst (λ (xss : List (List Standing)). TellsOfOwn g.own (own_left h 0 xss)) (each_is h g gone) gone.own);
    others = others-is ∙ gone.others ∙ ap (λ (xss : List (List Standing)). others h 0 xss) (each_is h g gone);
  }

  -- a point that was found, with its certificate in the version so far
  pub is_resumed_point : (g : Going) (x : Space) (cert : List ℕ) → IsFoundPoint q o o.version g x → IsPointCertificate p (options_now o g) x cert → IsResumedPoint p base cert x
  is_resumed_point g x cert f k =
      let searchable = searchable_in q o g.version f.0 (record { limits = limits; not_crossed = (read_is_sound p base.bound bytes c is.is_read).not_crossed }) in
      record {
        version = g.version;
        behind = subst (λ (u : Loosenings). IsVersionBehind u.version g.version) (sym is.of.loosenings) (behind g.version f.0);
        shown = f.1;
        accepted = k searchable.limits.margins f.1;
      }
