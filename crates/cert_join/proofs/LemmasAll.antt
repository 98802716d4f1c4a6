-- The lemmas of all certificates.
use Rattle.std.proofs.Common.{◌≡◌, inl, inr, ⊎_elim, ◌⊎◌, ℕ, zero, suc, ◌+◌, ◌<◌, ◌≤◌, List, [], ◌∷◌, ◌++◌, false, map, length, drop, get_or, set, refl, ap, ap₂, sym, subst, ◌∙◌, append_assoc, append-nil, length-append, add-zero, arith}
use Rattle.std.specs.Prelude.{Result, Ok, Err, Some, slice_get}
use Rattle.std.specs.declared.alloc.AllocError.{AllocError}
use Rattle.std.specs.List.{AllByRecursion}
use Rattle.std.proofs.Math.Seq.{drop-cons}
use Rattle.std.proofs.lemmas.List.{length-map}
use Rattle.cover_model.specs.Derivation.{Tree}
use Rattle.cert_read.specs.CertLine.{CertLine}
use Rattle.cert_joined.specs.Covers.{Cover, Lemma, lemma_lines, lemmas_lines}
use Rattle.cert_join.specs.Ahead.{AreBefore}
use Rattle.cert_join.specs.Spot.{Spot, IsBefore}
use Rattle.cert_join.specs.Written.{behind_header, behind_lemmas, new_ones, text_of, texts_of, written_from}
use Rattle.cert_join.specs.LemmasDue.{all_left, covers_of, each_ahead, later_due, lemmas_due, lines_ahead, lines_due, next_behind, tree_part, AreAsLong, AreLemmasDue, GoesOn, HasLemmas, IsBehind, IsLeft, IsRest, LemmasGoOn, LemmasLeft, within, none, LemmasStay, Rest, StepsLemmas, StepsWithin, Waits}
use Rattle.cert_join.specs.declared.joiner.Step.{Step}
use Rattle.cert_join.specs.declared.joiner.Step.TheVariants.{Read, On, Over}
use Rattle.cert_join.specs.declared.lemmas.Lemmas.{Lemmas}
use Rattle.cert_join.proofs.LemmaLines.{map_both, text_append}

-- ---- the place in one certificate

-- the place in the certificate behind these, and that it may be before other lines
pub record IsPart (certs : List (List ℕ)) (done : List (List (List ℕ))) (ls : List (List ℕ)) (later : List (List (List ℕ))) (spots : List Spot) : Type 0 where
  pub cert : List ℕ
  pub there : length done < length spots
  pub before : (d : Spot) → IsBefore cert ls (get_or spots (length done) d)
  pub changed : (ks : List (List ℕ)) (s : Spot) → IsBefore cert ks s → AreBefore certs (done ++ (ks ∷ later)) (set spots (length done) s)

pub part_of : (certs : List (List ℕ)) (done : List (List (List ℕ))) (ls : List (List ℕ)) (later : List (List (List ℕ))) (spots : List Spot) →
    AreBefore certs (done ++ (ls ∷ later)) spots → IsPart certs done ls later spots
part_of (cert ∷ certs) [] ls later (s ∷ spots) h = record {
  cert = cert;
  there = omega arith;
  before = λ d. h.0;
  changed = λ ks k b. (b, h.1);
}
part_of (cert ∷ certs) (ks ∷ done) ls later (s ∷ spots) h =
    let p = part_of certs done ls later spots h.1 in record {
      cert = p.cert;
      there = omega (arith, p.there);
      before = p.before;
      changed = λ js k b. (h.0, p.changed js k b);
    }
part_of [] [] ls later spots h = absurd h
part_of [] (ks ∷ done) ls later spots h = absurd h
part_of (cert ∷ certs) [] ls later [] h = absurd h
part_of (cert ∷ certs) (ks ∷ done) ls later [] h = absurd h

pub as_many : (certs : List (List ℕ)) (lss : List (List (List ℕ))) (spots : List Spot) → AreBefore certs lss spots → length spots ≡ length lss
as_many [] [] [] h = refl
as_many (cert ∷ certs) (ls ∷ lss) (s ∷ spots) h = ap suc (as_many certs lss spots h.1)
as_many [] [] (s ∷ spots) h = absurd h
as_many [] (ls ∷ lss) spots h = absurd h
as_many (cert ∷ certs) [] spots h = absurd h
as_many (cert ∷ certs) (ls ∷ lss) [] h = absurd h

-- ---- numbers of lemmas

lemmas-both : (n : ℕ) (xs ys : List Lemma) → lemmas_lines n (xs ++ ys) ≡ lemmas_lines n xs ++ lemmas_lines (n + length xs) ys
lemmas-both n [] ys = ap (λ (m : ℕ). lemmas_lines m ys) (sym (add-zero n))
lemmas-both n (x ∷ xs) ys =
    let e : suc n + length xs ≡ n + length (x ∷ xs) = omega arith in
    ap (λ (ls : List CertLine). lemma_lines n x ++ ls) (lemmas-both (suc n) xs ys)
    ∙ sym (append_assoc (lemma_lines n x) (lemmas_lines (suc n) xs) (lemmas_lines (suc n + length xs) ys))
    ∙ ap (λ (m : ℕ). (lemma_lines n x ++ lemmas_lines (suc n) xs) ++ lemmas_lines m ys) e

written-none : (n : ℕ) (numbers : List (List ℕ)) → written_from n numbers [] ≡ []
written-none n [] = refl
written-none n (ns ∷ numbers) = refl

-- ---- where a certificate is begun

abbrev pub begun_at : ℕ → ℕ → Lemmas
begun_at part next = record { part = part; begun = 0; is_written = false; next = next }

ahead-left : (done later : List Cover) → each_ahead 0 (all_left done later) ≡ map behind_lemmas done ++ map behind_header later
ahead-left done [] = sym (append-nil (map behind_lemmas done))
ahead-left done (c ∷ later) = refl

covers-left : (done later : List Cover) → covers_of (all_left done later) ≡ done ++ later
covers-left done [] = sym (append-nil done)
covers-left done (c ∷ later) = refl

is-left : (done later : List Cover) (next : ℕ) → AllByRecursion HasLemmas later → IsLeft (begun_at (length done) next) (all_left done later)
is-left done [] next h = refl
is-left done (c ∷ later) next h = (refl, h.0, h.1, (let z : 0 + length c.lemmas ≡ length c.lemmas = omega arith in z))

-- what is due then
pub due_left : (numbers : List (List ℕ)) (done later : List Cover) (next : ℕ) → length numbers ≡ length (done ++ later) →
    lemmas_due numbers (begun_at (length done) next) (all_left done later) ≡ later_due next (drop (length done) numbers) later
due_left numbers done [] next e = ap (lemmas_lines next) (sym (written-none next (drop (length done) numbers)))
due_left numbers done (c ∷ later) next e =
    let own = get_or numbers (length done) [] in
    let news = new_ones own next own c.lemmas in
    sym (lemmas-both next news (written_from (next + length news) (drop (suc (length done)) numbers) later))
    ∙ ap (λ (ns : List (List ℕ)). later_due next ns (c ∷ later)) (sym (drop-cons numbers (length done) [] (omega (arith, e, length-append done (c ∷ later)))))

pub are_due : (certs numbers : List (List ℕ)) (done later : List Cover) (next : ℕ) (spots : List Spot) →
    AreBefore certs (map behind_lemmas done ++ map behind_header later) spots → AllByRecursion HasLemmas later → length numbers ≡ length (done ++ later) → AreAsLong numbers (done ++ later) →
    AreLemmasDue certs numbers (all_left done later) (begun_at (length done) next) spots
are_due certs numbers done later next spots h k e long =
    let P : List (List (List ℕ)) → Type 0 = λ lss. AreBefore certs lss spots in
    let L : List Cover → Type 0 = λ cs. AreAsLong numbers cs in record {
      before = subst P (sym (ahead-left done later)) h;
      left = is-left done later next k;
      numbered = e ∙ ap length (sym (covers-left done later));
      long = subst L (sym (covers-left done later)) long;
    }

-- ---- a step

behind-more : (done : List Cover) (c : Cover) (later : List (List (List ℕ))) → map behind_lemmas done ++ (behind_lemmas c ∷ later) ≡ map behind_lemmas (done ++ (c ∷ [])) ++ later
behind-more done c later =
    sym (append_assoc (map behind_lemmas done) (behind_lemmas c ∷ []) later)
    ∙ ap (λ (lss : List (List (List ℕ))). lss ++ later) (sym (map_both behind_lemmas done (c ∷ [])))

module _ (certs numbers : List (List ℕ)) (s s' : Lemmas) (done : List Cover) (c : Cover) (r : Rest) (later : List Cover) (cert : List ℕ) (spot : Spot) (spots : List Spot) (old new : List ℕ) where
  abbrev own : List ℕ
  own = get_or numbers (length done) []

  goes : s.part ≡ length done → AllByRecursion HasLemmas later → s.begun + length r.lemmas ≡ length c.lemmas → length numbers ≡ length (done ++ (c ∷ later)) → AreAsLong numbers (done ++ (c ∷ later)) →
      ((ks : List (List ℕ)) → IsBefore cert ks spot → AreBefore certs (map behind_lemmas done ++ (ks ∷ map behind_header later)) spots) →
      GoesOn cert c.tree own s s' r spot old new → LemmasGoOn certs numbers s s' (within done c r later) spots old new
  goes part ok fit many long changed g =
      let rest = drop (suc (length done)) numbers in record {
        left = within done c g.rest later;
        due = record { before = changed (texts_of (lines_ahead s'.begun g.rest c.tree)) g.before; left = (g.part ∙ part, g.is_rest, ok, g.kept ∙ fit); numbered = many; long = long };
        covers = refl;
        written = g.written;
        appended = g.appended;
        writes = text_append (lines_due own s r) (later_due (next_behind own s r) rest later)
            ∙ ap₂ (λ (xs : List ℕ) (n : ℕ). xs ++ text_of (later_due n rest later)) g.due (sym g.next)
            ∙ append_assoc g.written (text_of (lines_due own s' g.rest)) (text_of (later_due (next_behind own s' g.rest) rest later))
            ∙ ap (λ (xs : List ℕ). g.written ++ xs) (sym (text_append (lines_due own s' g.rest) (later_due (next_behind own s' g.rest) rest later)));
      }

  ends : s.part ≡ length done → AllByRecursion HasLemmas later → length numbers ≡ length (done ++ (c ∷ later)) → AreAsLong numbers (done ++ (c ∷ later)) →
      ((ks : List (List ℕ)) → IsBefore cert ks spot → AreBefore certs (map behind_lemmas done ++ (ks ∷ map behind_header later)) spots) →
      IsBehind cert c.tree own s s' r spot old new → LemmasGoOn certs numbers s s' (within done c r later) spots old new
  ends part ok many long changed g =
      let more : List Cover = done ++ (c ∷ []) in
      let size : length more ≡ suc (length done) = omega (arith, length-append done (c ∷ [])) in
      let all : done ++ (c ∷ later) ≡ more ++ later = sym (append_assoc done (c ∷ []) later) in
      let many' : length numbers ≡ length (more ++ later) = many ∙ ap length all in
      let state : s' ≡ begun_at (length more) s.next = g.state ∙ ap (λ (n : ℕ). begun_at n s.next) (omega (arith, part, size)) in
      let P : Lemmas → Type 0 = λ k. LemmasGoOn certs numbers s k (within done c r later) spots old new in
      let Q : List (List (List ℕ)) → Type 0 = λ lss. AreBefore certs lss spots in
      let L : List Cover → Type 0 = λ cs. AreAsLong numbers cs in
      subst P (sym state) (record {
        left = all_left more later;
        due = are_due certs numbers more later s.next spots (subst Q (behind-more done c (map behind_header later)) (changed (texts_of (tree_part c.tree)) g.before)) ok many' (subst L all long);
        covers = covers-left more later ∙ sym all;
        written = [];
        appended = g.same ∙ sym (append-nil old);
        writes = ap₂ (λ (ls : List CertLine) (n : ℕ). text_of (ls ++ later_due n (drop (suc (length done)) numbers) later)) g.due g.next
            ∙ ap (λ (n : ℕ). text_of (later_due s.next (drop n numbers) later)) (sym size)
            ∙ ap text_of (sym (due_left numbers more later s.next many'));
      })

  waits : s.part ≡ length done → IsRest s.begun r → AllByRecursion HasLemmas later → s.begun + length r.lemmas ≡ length c.lemmas → length numbers ≡ length (done ++ (c ∷ later)) → AreAsLong numbers (done ++ (c ∷ later)) →
      ((ks : List (List ℕ)) → IsBefore cert ks spot → AreBefore certs (map behind_lemmas done ++ (ks ∷ map behind_header later)) spots) →
      Waits cert c.tree s s' r spot old new → LemmasStay certs numbers s s' (within done c r later) spots old new
  waits part h ok fit many long changed g =
      let P : Lemmas → Type 0 = λ k. LemmasStay certs numbers s k (within done c r later) spots old new in
      subst P (sym g.state) (record {
        due = record { before = changed (texts_of (lines_ahead s.begun r c.tree)) g.before; left = (part, h, ok, fit); numbered = many; long = long };
        state = refl;
        same = g.same;
      })

  by_result : (result : Result Step AllocError) → s.part ≡ length done → IsRest s.begun r → AllByRecursion HasLemmas later → s.begun + length r.lemmas ≡ length c.lemmas → length numbers ≡ length (done ++ (c ∷ later)) → AreAsLong numbers (done ++ (c ∷ later)) →
      ((ks : List (List ℕ)) → IsBefore cert ks spot → AreBefore certs (map behind_lemmas done ++ (ks ∷ map behind_header later)) spots) →
      StepsWithin cert c.tree own s s' r spot old new result → StepsLemmas certs numbers s s' (within done c r later) spots old new result
  by_result (Ok On) part h ok fit many long changed g = ⊎_elim (goes part ok fit many long changed) (ends part ok many long changed) g
  by_result (Ok (Read k)) part h ok fit many long changed g = waits part h ok fit many long changed g
  by_result (Ok Over) part h ok fit many long changed g = absurd g
  by_result (Err e) part h ok fit many long changed g = tt

-- the cover that is gone through is that at its place
cover-at : (done : List Cover) (c : Cover) (later : List Cover) → slice_get (done ++ (c ∷ later)) (length done) ≡ Some c
cover-at [] c later = refl
cover-at (d ∷ done) c later = cover-at done c later

-- by a step in the certificate that is next
pub steps_all : (certs numbers : List (List ℕ)) (f : LemmasLeft) (s s' : Lemmas) (spot spot' : Spot) (spots : List Spot) (ns old new : List ℕ) (result : Result Step AllocError) →
    AreLemmasDue certs numbers f s spots → s.part < length spots → ns ≡ get_or numbers s.part [] →
    ((cert : List ℕ) (t : Tree) (r : Rest) → IsRest s.begun r → s.begun + length r.lemmas ≡ length ns → IsBefore cert (texts_of (lines_ahead s.begun r t)) (get_or spots s.part spot) → StepsWithin cert t ns s s' r spot' old new result) →
    StepsLemmas certs numbers s s' f (set spots s.part spot') old new result
steps_all certs numbers (none done) s s' spot spot' spots ns old new result h there e step =
    absurd (omega (arith, there, h.left, as_many certs (map behind_lemmas done) spots h.before, length-map done behind_lemmas))
steps_all certs numbers (within done c r later) s s' spot spot' spots ns old new result h there e step =
    let p = part_of certs (map behind_lemmas done) (texts_of (lines_ahead s.begun r c.tree)) (map behind_header later) spots h.before in
    let at : length (map behind_lemmas done) ≡ s.part = length-map done behind_lemmas ∙ sym h.left.0 in
    let B : Spot → Type 0 = λ k. IsBefore p.cert (texts_of (lines_ahead s.begun r c.tree)) k in
    let before = subst B (ap (λ (n : ℕ). get_or spots n spot) at) (p.before spot) in
    let O : List ℕ → Type 0 = λ ks. StepsWithin p.cert c.tree ks s s' r spot' old new result in
    let C : ℕ → Type 0 = λ n. (ks : List (List ℕ)) → IsBefore p.cert ks spot' → AreBefore certs (map behind_lemmas done ++ (ks ∷ map behind_header later)) (set spots n spot') in
    let own : ns ≡ get_or numbers (length done) [] = e ∙ ap (λ (n : ℕ). get_or numbers n []) h.left.0 in
    let long : s.begun + length r.lemmas ≡ length ns = h.left.3 ∙ sym (h.long (length done) c (cover-at done c later)) ∙ ap length (sym own) in
    by_result certs numbers s s' done c r later p.cert spot' (set spots s.part spot') old new result h.left.0 h.left.1 h.left.2 h.left.3 h.numbered h.long
    (subst C at (λ ks b. p.changed ks spot' b))
    (subst O own (step p.cert c.tree r h.left.1 long before))

-- where no certificate is next, all lemmas are behind
pub over_all : (certs numbers : List (List ℕ)) (f : LemmasLeft) (s : Lemmas) (spots : List Spot) (old : List ℕ) → AreLemmasDue certs numbers f s spots →
    (s.part < length spots → s.part < length numbers → ⊥) → LemmasStay certs numbers s s f spots old old × (f ≡ none (covers_of f))
over_all certs numbers (none done) s spots old h past = (record { due = h; state = refl; same = refl }, refl)
over_all certs numbers (within done c r later) s spots old h past =
    let p = part_of certs (map behind_lemmas done) (texts_of (lines_ahead s.begun r c.tree)) (map behind_header later) spots h.before in
    absurd (past (omega (arith, p.there, length-map done behind_lemmas, h.left.0)) (omega (arith, h.numbered, h.left.0, length-append done (c ∷ later))))

-- what a list gives at a place, seen through a function
pub mapped_at : {A B : Type 0} (f : A → B) (xs : List A) (i : ℕ) (x : A) (d : B) → i < length xs → x ≡ get_or xs i x → f x ≡ get_or (map f xs) i d
mapped_at f [] i x d h e = absurd (omega (arith, h))
mapped_at f (y ∷ ys) zero x d h e = ap f e
mapped_at f (y ∷ ys) (suc i) x d h e = mapped_at f ys i x d (omega (arith, h)) e

pub past_one : (part m n : ℕ) → (m ≤ part) ⊎ ((part < m) × (n ≤ part)) → part < m → part < n → ⊥
past_one part m n (inl h) l k = omega (arith, h, l)
past_one part m n (inr h) l k = omega (arith, h.1, k)
