-- The text of the books of several checks: the parts behind one another, and what it is accepted with.
use Rattle.std.proofs.Common.{◌≡◌, ℕ, zero, suc, ◌+◌, ◌<◌, ◌≤◌, List, [], ◌∷◌, ◌++◌, take, get_or, length, append_assoc, Bool, Some, None, refl, ap, sym, ◌∙◌, subst, arith}
use Rattle.std.specs.Prelude.{slice_get}
use Rattle.std.proofs.lemmas.List.{length-map, append-nil, take_all}
use Rattle.interval_model.specs.Space.{Space}
use Rattle.poly_graph.specs.ProblemViews.{Parts, problem_of}
use Rattle.problem_session.specs.Session.{checked_of, problems_of}
use Rattle.cover_data.specs.declared.margins.Options.{Options}
use Rattle.cert_read.specs.CertLine.{CertLine, checks, cover, keep}
use Rattle.cert_model.specs.Accepted.{most_bytes}
use Rattle.cert_model.specs.Laws.{CanBeWritten}
use Rattle.cert_model.specs.Session.{AreAccepted, session_standing}
use Rattle.cert_model.specs.SessionLaws.{WrittenPart, written_cover, written_point, part_lines, parts_lines, session_lines, session_text, values_of_parts, AreLawfulParts, is_session_header}
use Rattle.cert_model.proofs.SessionTexts.{session_accepted, session_stands}
use Rattle.cover_book.specs.Model.{BookModel, lemma_count}
use Rattle.cover_book.specs.Tree.{lemma_tree, lemma_trees}
use Rattle.cover_book.specs.Session.{AreBooksOf}
use Rattle.cover_book.proofs.Meaning.{fits_limits}
use Rattle.cert_text.specs.Calls.{header_of}
use Rattle.cert_text.specs.Lines.{HasAppended}
use Rattle.cert_text.specs.Parts.{whole_point}
use Rattle.cert_text.specs.Session.{body_lines, HasAppendedBody, HasAppendedPart, ArePartsOf, HasAppendedParts, TellsOf, session_loosenings, session_version, IsSessionText, IsSessionCertificateOf}
use Rattle.cert_text.proofs.Margins.{session_version_fits}
use Rattle.cert_text.proofs.Spelling.{nothing_appended, both_appended}
use Rattle.cert_text.proofs.Sessions.{lawful_parts, values_count, each_tells}

-- ---- parts

-- the number of lemmas, the number of those that are kept, and the rest
pub cover_part : (b : BookModel) → b.point ≡ None → (k q : ℕ) (t0 t1 t2 t3 : List ℕ) → k ≡ lemma_count b → q ≡ length b.kept → HasAppended t0 (cover k ∷ []) t1 → HasAppended t1 (keep q ∷ []) t2 → HasAppendedBody t2 b t3 →
    HasAppendedPart t0 b t3
cover_part b none k q t0 t1 t2 t3 count first c f body =
    let many : k ≡ length b.kept + length (lemma_trees b) = omega (arith, count, length-map b.lemmas lemma_tree) in
    let rest : List CertLine = body_lines (length b.kept) (lemma_trees b) body.0 in
    let all : HasAppended t0 (cover k ∷ keep q ∷ rest) t3 = both_appended t0 t1 t3 (cover k ∷ []) (keep q ∷ rest) c (both_appended t1 t2 t3 (keep q ∷ []) rest f body.2) in (
      written_cover b.kept (lemma_trees b) body.0,
      (none, refl, refl, body.1),
      subst (λ (n : ℕ). HasAppended t0 (cover n ∷ keep (length b.kept) ∷ rest) t3) many (subst (λ (n : ℕ). HasAppended t0 (cover k ∷ keep n ∷ rest) t3) first all),
    )

pub point_part : (b : BookModel) (space space' : Space) (t0 t1 : List ℕ) → b.point ≡ Some space → space' ≡ space → HasAppended t0 (whole_point space') t1 → HasAppendedPart t0 b t1
point_part b space space' t0 t1 e same a = (written_point space, e, subst (λ (x : Space). HasAppended t0 (whole_point x) t1) same a)

-- one behind the other

pub no_parts : (t : List ℕ) → HasAppendedParts t [] t
no_parts t = ([], tt, nothing_appended t)

parts-append : (xs ys : List WrittenPart) → parts_lines (xs ++ ys) ≡ parts_lines xs ++ parts_lines ys
parts-append [] ys = refl
parts-append (x ∷ xs) ys = ap (λ (ls : List CertLine). part_lines x ++ ls) (parts-append xs ys) ∙ sym (append_assoc (part_lines x) (parts_lines xs) (parts_lines ys))

one-more : (books : List BookModel) (parts : List WrittenPart) (b : BookModel) (x : WrittenPart) → ArePartsOf books parts → ArePartsOf (b ∷ []) (x ∷ []) → ArePartsOf (books ++ (b ∷ [])) (parts ++ (x ∷ []))
one-more [] [] b x h g = g
one-more [] (y ∷ parts) b x h g = absurd h
one-more (c ∷ books) [] b x h g = absurd h
one-more (c ∷ books) (y ∷ parts) b x h g = (h.0, one-more books parts b x h.1 g)

taken-more : (books : List BookModel) (k : ℕ) (b : BookModel) → k < length books → b ≡ get_or books k b → take k books ++ (b ∷ []) ≡ take (suc k) books
taken-more [] k b h e = absurd (omega (arith, h))
taken-more (c ∷ books) zero b h e = ap (λ (x : BookModel). x ∷ []) e
taken-more (c ∷ books) (suc k) b h e = ap (λ (xs : List BookModel). c ∷ xs) (taken-more books k b (omega (arith, h)) e)

pub next_part : (books : List BookModel) (k : ℕ) (b : BookModel) (t0 t1 t2 : List ℕ) → k < length books → b ≡ get_or books k b → HasAppendedParts t0 (take k books) t1 → HasAppendedPart t1 b t2 → HasAppendedParts t0 (take (k + 1) books) t2
next_part books k b t0 t1 t2 h e done new =
    let lines : parts_lines (done.0 ++ (new.0 ∷ [])) ≡ parts_lines done.0 ++ part_lines new.0 = parts-append done.0 (new.0 ∷ []) ∙ ap (λ (ls : List CertLine). parts_lines done.0 ++ ls) (append-nil (part_lines new.0)) in
    let next : suc k ≡ k + 1 = omega arith in
    subst (λ (xs : List BookModel). HasAppendedParts t0 xs t2) (taken-more books k b h e ∙ ap (λ (n : ℕ). take n books) next) (
      done.0 ++ (new.0 ∷ []),
      one-more (take k books) done.0 b new.0 done.1 (new.1, tt),
      subst (λ (ls : List CertLine). HasAppended t0 ls t2) (sym lines) (both_appended t0 t1 t2 (parts_lines done.0) (part_lines new.0) done.2 new.2),
    )

pub all_parts : (books : List BookModel) (k : ℕ) (t0 t1 : List ℕ) → length books ≤ k → HasAppendedParts t0 (take k books) t1 → HasAppendedParts t0 books t1
all_parts books k t0 t1 h a = subst (λ (xs : List BookModel). HasAppendedParts t0 xs t1) (take_all k books h) a

-- ---- the whole text

same-count : (books : List BookModel) (parts : List WrittenPart) → ArePartsOf books parts → length books ≡ length parts
same-count [] [] h = refl
same-count [] (x ∷ parts) h = absurd h
same-count (b ∷ books) [] h = absurd h
same-count (b ∷ books) (x ∷ parts) h = ap suc (same-count books parts h.1)

module _ (o : Options) (c d : Parts × Bool) (later : List (Parts × Bool)) (books : List BookModel) (are : AreBooksOf o [] (c ∷ d ∷ later) books) (parts : List WrittenPart) (of : ArePartsOf books parts)
    (text : List ℕ) (a : HasAppended [] (session_lines (session_loosenings o) o.bound parts) text) (short : length text ≤ most_bytes) where
  abbrev lines : List CertLine
  lines = session_lines (session_loosenings o) o.bound parts

  can : CanBeWritten lines
  can = (a.spelled, subst (λ (t : List ℕ). length t ≤ most_bytes) a.written short)

  header : (books : List BookModel) → AreBooksOf o [] (c ∷ d ∷ later) books → is_session_header (session_loosenings o)
  header [] h = absurd h
  header (b ∷ rest) h =
      subst (λ (u : Options). is_session_header (session_loosenings u)) h.2 (session_version_fits b.options.version h.0.limits.margins.version_is, fits_limits b h.0)

  fit : is_session_header (session_loosenings o)
  fit = header books are

  lawful : AreLawfulParts (session_loosenings o) (problem_of c.0) [] (problems_of (d ∷ later)) parts
  lawful = lawful_parts o [] c.0 c.1 (d ∷ later) books parts are of

  same : session_text (session_loosenings o) o.bound parts ≡ text
  same = sym a.written

  pub session_tells : IsSessionText o (c ∷ d ∷ later) books text
  session_tells = record {
    values = values_of_parts (session_loosenings o) (problem_of c.0) (problems_of (d ∷ later)) parts;
    accepted = subst (λ (t : List ℕ). AreAccepted (problems_of (c ∷ d ∷ later)) o.bound t (session_loosenings o) (values_of_parts (session_loosenings o) (problem_of c.0) (problems_of (d ∷ later)) parts)) same
        (session_accepted (problem_of c.0) c.1 (checked_of d) (problems_of later) o.bound (session_loosenings o) parts fit lawful can);
    count = values_count o [] c.0 c.1 (d ∷ later) books parts are of;
    each = λ k b v i j.
        let f = each_tells o [] c.0 c.1 (d ∷ later) books parts are of k b v i j in
        let stand = session_stands (problem_of c.0) c.1 (checked_of d) (problems_of later) o.bound (session_loosenings o) parts fit lawful can k f.0 f.1 in
        subst (λ (t : List ℕ). TellsOf b v (session_standing (problems_of (c ∷ d ∷ later)) o.bound t k)) same (subst (TellsOf b v) (sym stand) f.2);
  }

-- the options of a session's first book
abbrev pub HasFirst : List BookModel → Options → Type 0
HasFirst [] o = Unit {0}
HasFirst (b ∷ books) o = b.options ≡ o

pub first_is : (books : List BookModel) (b : BookModel) (u : Options) → Some b ≡ slice_get books 0 → u ≡ b.options → HasFirst books u
first_is [] b u e f = tt
first_is (c ∷ books) b u e f = let same : c ≡ b = cc in ap (λ (x : BookModel). x.options) same ∙ sym f

first-options : (o u : Options) (c : Parts × Bool) (later : List (Parts × Bool)) (books : List BookModel) → AreBooksOf o [] (c ∷ later) books → HasFirst books u → u ≡ o
first-options o u c later [] h g = absurd h
first-options o u c later (b ∷ books) h g = sym g ∙ h.2

-- what the code wrote
pub session_written : (books : List BookModel) (u : Options) (v : ℕ) (t0 t1 t2 text : List ℕ) → HasFirst books u → v ≡ session_version u.version → t0 ≡ [] → HasAppended t0 (header_of v u) t1 → HasAppended t1 (checks (length books) ∷ []) t2 → HasAppendedParts t2 books text →
    length text ≤ most_bytes → IsSessionCertificateOf books text
session_written books u v t0 t1 t2 text first is start h c f short = λ o p q later are.
    let parts : List WrittenPart = f.0 in
    let head : Options → List CertLine = λ x. header_of (session_version x.version) x in
    let all : HasAppended t0 (head u ++ (checks (length books) ∷ parts_lines parts)) text =
    both_appended t0 t1 text (head u) (checks (length books) ∷ parts_lines parts) (subst (λ (n : ℕ). HasAppended t0 (header_of n u) t1) is h) (both_appended t1 t2 text (checks (length books) ∷ []) (parts_lines parts) c f.2) in
    session_tells o p q later books are parts f.1 text
    (subst (λ (x : Options). HasAppended [] (head x ++ (checks (length parts) ∷ parts_lines parts)) text) (first-options o u p (q ∷ later) books are first)
    (subst (λ (n : ℕ). HasAppended [] (head u ++ (checks n ∷ parts_lines parts)) text) (same-count books parts f.1)
    (subst (λ (t : List ℕ). HasAppended t (head u ++ (checks (length books) ∷ parts_lines parts)) text) start all)))
    short
