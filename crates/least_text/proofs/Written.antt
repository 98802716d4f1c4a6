-- What the code wrote is a certificate of a least value.
use Rattle.std.proofs.Common.{◌≡◌, ℕ, ◌≤◌, List, [], ◌∷◌, ◌++◌, Option, Some, ap, sym, subst, length, arith}
use Rattle.std.proofs.lemmas.List.{length-map}
use Rattle.dyadic.specs.Rounding.{Dyadic}
use Rattle.interval_model.specs.Space.{Space}
use Rattle.cover_model.specs.State.{State, Loosenings}
use Rattle.cover_data.specs.declared.margins.Options.{Options}
use Rattle.cover_data.specs.Margins.{margins_of, loosenings_of}
use Rattle.cert_read.specs.CertLine.{CertLine, goal, cover, tree_word, end_word, over}
use Rattle.cert_model.specs.Accepted.{most_bytes, most_lemmas}
use Rattle.cert_model.specs.Laws.{CanBeWritten}
use Rattle.cert_model.specs.Least.{least, IsGoalAccepted}
use Rattle.cert_model.specs.SessionLaws.{WrittenEnd}
use Rattle.cert_model.specs.Written.{AreLemmaTrees}
use Rattle.cover_book.specs.declared.verdict.BookVerdict.TheVariants.{Unsat}
use Rattle.cover_book.specs.Model.{BookModel, IsOfRoot, lemma_count, problem_in, loosenings_in}
use Rattle.cover_book.specs.Verdict.{verdict_of}
use Rattle.cover_book.specs.Tree.{lemma_tree, lemma_trees}
use Rattle.cover_book.specs.Keeps.{IsBook}
use Rattle.cert_text.specs.Lines.{HasAppended}
use Rattle.cert_text.specs.Parts.{whole_point}
use Rattle.cert_text.specs.Session.{body_lines, HasAppendedBody}
use Rattle.cert_text.proofs.Spelling.{both_appended}
use Rattle.least_text.specs.Lines.{least_header, root_over, over_lines, limited_cover, limited_lines}
use Rattle.least_text.specs.Means.{open_root, IsOverCertificate, IsLimitedCertificate}
use Rattle.least_text.proofs.Books.{end_lawful, end_leaves_nothing}
use Rattle.least_text.proofs.Whole.{over_accepted, limited_accepted}

can-be : (ls : List CertLine) (text : List ℕ) → HasAppended [] ls text → length text ≤ most_bytes → CanBeWritten ls
can-be ls text a h = (a.spelled, subst (λ (t : List ℕ). length t ≤ most_bytes) a.written h)

-- ---- the root over the bound

pub root_appended : (a b c d e : List ℕ) → HasAppended a (cover 0 ∷ []) b → HasAppended b (tree_word ∷ []) c → HasAppended c (over ∷ []) d → HasAppended d (end_word ∷ []) e → HasAppended a root_over e
root_appended a b c d e h k l m =
    both_appended a b e (cover 0 ∷ []) (tree_word ∷ over ∷ end_word ∷ []) h
    (both_appended b c e (tree_word ∷ []) (over ∷ end_word ∷ []) k (both_appended c d e (over ∷ []) (end_word ∷ []) l m))

pub over_written : (o : Options) (low : Option Dyadic) (x : Space) (t0 t1 t2 text : List ℕ) → t0 ≡ [] → HasAppended t0 (least_header (loosenings_of (margins_of o)) o.bound low) t1 →
    HasAppended t1 root_over t2 → HasAppended t2 (whole_point x) text → length text ≤ most_bytes → IsOverCertificate o low x text
over_written o low x t0 t1 t2 text start h r point short = λ p g room m crossed ov shown.
    let s : Loosenings = loosenings_of (margins_of o) in let ls : List CertLine = over_lines s o.bound low x in
    let all : HasAppended t0 ls text = both_appended t0 t1 text (least_header s o.bound low) (root_over ++ whole_point x) h (both_appended t1 t2 text root_over (whole_point x) r point) in
    let whole : HasAppended [] ls text = subst (λ (t : List ℕ). HasAppended t ls text) start all in
    subst (λ (t : List ℕ). IsGoalAccepted p g room o.bound t s (least (record { lower = low; over = open_root p ∷ []; point = Some x }))) (sym whole.written)
    (over_accepted p g room o.bound (margins_of o) m low x crossed ov shown (can-be ls text whole short))

-- ---- a book of the problem with a limit

pub limited_written : (b : BookModel) → IsBook b → (o : Options) (k n : ℕ) (d : Dyadic) (x : Space) (t0 t1 t2 t3 t4 text : List ℕ) → t0 ≡ [] → o ≡ b.options → n ≡ lemma_count b →
    HasAppended t0 (least_header (loosenings_of (margins_of o)) o.bound (Some d)) t1 → HasAppended t1 (goal k ∷ []) t2 → HasAppended t2 (cover n ∷ []) t3 → HasAppendedBody t3 b t4 →
    HasAppended t4 (whole_point x) text → length text ≤ most_bytes → b.kept ≡ [] → IsOfRoot b → verdict_of b ≡ Unsat → IsLimitedCertificate b k d x text
limited_written b w o k n d x t0 t1 t2 t3 t4 text start same count h gl c body point short none rooted unsat = λ p g room can limit shown.
    let end : WrittenEnd = body.0 in let first : length b.kept ≡ 0 = ap (λ (xs : List State). length xs) none in
    let many : n ≡ length (lemma_trees b) = omega (arith, count, length-map b.lemmas lemma_tree, first) in
    let few : length (lemma_trees b) ≤ most_lemmas = omega (arith, length-map b.lemmas lemma_tree, w.few_lemmas) in
    let rest : HasAppended t3 (body_lines 0 (lemma_trees b) end) t4 = subst (λ (i : ℕ). HasAppended t3 (body_lines i (lemma_trees b) end) t4) first body.2 in
    let counted : HasAppended t2 (cover (length (lemma_trees b)) ∷ []) t3 = subst (λ (i : ℕ). HasAppended t2 (cover i ∷ []) t3) many c in
    let lines : HasAppended t1 (limited_cover k (lemma_trees b) end) t4 =
    both_appended t1 t2 t4 (goal k ∷ []) (cover (length (lemma_trees b)) ∷ body_lines 0 (lemma_trees b) end) gl (both_appended t2 t3 t4 (cover (length (lemma_trees b)) ∷ []) (body_lines 0 (lemma_trees b) end) counted rest) in
    let header : HasAppended t0 (least_header (loosenings_in b) b.options.bound (Some d)) t1 = subst (λ (u : Options). HasAppended t0 (least_header (loosenings_of (margins_of u)) u.bound (Some d)) t1) same h in
    let ls : List CertLine = limited_lines (loosenings_in b) b.options.bound (Some d) k (lemma_trees b) end x in
    let all : HasAppended t0 ls text = both_appended t0 t1 text (least_header (loosenings_in b) b.options.bound (Some d)) (limited_cover k (lemma_trees b) end ++ whole_point x) header
    (both_appended t1 t4 text (limited_cover k (lemma_trees b) end) (whole_point x) lines point) in
    let whole : HasAppended [] ls text = subst (λ (t : List ℕ). HasAppended t ls text) start all in
    subst (λ (t : List ℕ). IsGoalAccepted p g room b.options.bound t (loosenings_in b) (least (record { lower = Some d; over = []; point = Some x }))) (sym whole.written)
    (limited_accepted p g room b.options.bound (margins_of b.options) w.limits.margins d k (problem_in b) (lemma_trees b) end x can limit few
    (subst (λ (ks : List State). AreLemmaTrees (problem_in b) (loosenings_in b) ks (lemma_trees b)) none w.lemmas) (end_lawful b w none rooted end body.1) (end_leaves_nothing b w none rooted unsat end body.1) shown
    (can-be ls text whole short))
