-- Certificates whose first lines are read one after the other.
use Rattle.std.proofs.Common.{◌≡◌, ◌≢◌, ◌<◌, ◌≤◌, ◌+◌, ◌*◌, ℕ, zero, suc, List, [], ◌∷◌, ◌++◌, append_assoc, Bool, true, false, true≢false, cond, Option, Some, None, Result, Ok, Err, IsTrue, length, take, drop, map, get_or, refl, ap, sym, ◌∙◌, subst, inl, inr, arith}
use Rattle.std.specs.Prelude.{nat_eq, slice_get, slice_set, unwrap_or, OnOk}
use Rattle.std.specs.List.{AllByRecursion}
use Rattle.std.proofs.lemmas.Bool.Decides.{eqb_tells}
use Rattle.std.proofs.lemmas.Bool.{cases_lt}
use Rattle.std.proofs.lemmas.Option.{slice_get_within}
use Rattle.std.specs.declared.alloc.AllocError.{AllocError}
use Rattle.cert_read.specs.CertLine.{CertLine, Parsed, parsed, line, version, margin, delta, bound, cover}
use Rattle.cert_read.specs.LineText.{line_text, IsSpelled, text_of_lines}
use Rattle.cert_read.proofs.Spelled.{spelled_line}
use Rattle.cert_model.specs.Due.{is_version}
use Rattle.cert_joined.specs.Covers.{Cover, IsTextOf, AreTextsOf, joined_version, versions}
use Rattle.cert_join.specs.declared.heads.Heads.{Heads}
use Rattle.cert_join.specs.declared.joiner.Step.{Step}
use Rattle.cert_join.specs.declared.joiner.Step.TheVariants.{Read, On, Over}
use Rattle.cert_join.specs.declared.stop.Unjoined.{Unjoined}
use Rattle.cert_join.specs.declared.stop.Unjoined.TheVariants.{Unlike}
use Rattle.cert_join.specs.Ahead.{AreBefore}
use Rattle.cert_join.specs.Spot.{Spot, IsBefore, IsFirst, line_in}
use Rattle.cert_join.specs.Written.{text_of, behind_header}
use Rattle.cert_join.specs.Heads.{all_lines, ahead_of, firsts, lines_read, IsKept, margin_line, delta_line, bound_line, HasRead, IsReading, TakesText, TakesLine, IsBehind, HasReadOf, ReadsOf, ReadsHeads, AreAlike, head_lines, head_text, AreHeadsRead, IsUnjoined, IsUnlike}

-- ---- places

pub ahead_at_first : (covers : List Cover) → ahead_of 0 0 covers ≡ map all_lines covers
ahead_at_first [] = refl
ahead_at_first (c ∷ covers) = refl

-- five lines of one are read: the next one's are due
pub ahead_at_next : (part : ℕ) (covers : List Cover) → ahead_of (suc part) 0 covers ≡ ahead_of part 5 covers
ahead_at_next part [] = refl
ahead_at_next zero (c ∷ covers) = ap (λ (lss : List (List (List ℕ))). behind_header c ∷ lss) (ahead_at_first covers)
ahead_at_next (suc part) (c ∷ covers) = ap (λ (lss : List (List (List ℕ))). behind_header c ∷ lss) (ahead_at_next part covers)

-- the place in one of them, and what becomes of all where it moves on
pub record AtPart (part row : ℕ) (covers : List Cover) (certs : List (List ℕ)) (spots : List Spot) (d : Spot) : Type 0 where
  pub cert : List ℕ
  pub cover : Cover
  pub covers_at : slice_get covers part ≡ Some cover
  pub text : IsTextOf cover cert
  pub before : IsBefore cert (drop row (all_lines cover)) (get_or spots part d)
  pub put : (s : Spot) (next : ℕ) → IsBefore cert (drop next (all_lines cover)) s → AreBefore certs (ahead_of part next covers) (slice_set spots part s)

pub at_part : (part row : ℕ) (covers : List Cover) (certs : List (List ℕ)) (spots : List Spot) (d : Spot) →
    AreTextsOf covers certs → AreBefore certs (ahead_of part row covers) spots → part < length spots → AtPart part row covers certs spots d
at_part part row [] [] [] d t b h = absurd (omega (arith, h))
at_part part row [] [] (s ∷ spots) d t b h = absurd b
at_part part row [] (cert ∷ certs) spots d t b h = absurd t
at_part part row (c ∷ covers) [] spots d t b h = absurd t
at_part zero row (c ∷ covers) (cert ∷ certs) [] d t b h = absurd b
at_part (suc part) row (c ∷ covers) (cert ∷ certs) [] d t b h = absurd b
at_part zero row (c ∷ covers) (cert ∷ certs) (s ∷ spots) d t b h =
    record { cert = cert; cover = c; covers_at = refl; text = t.0; before = b.0; put = λ s' next k. (k, b.1) }
at_part (suc part) row (c ∷ covers) (cert ∷ certs) (s ∷ spots) d t b h =
    let r = at_part part row covers certs spots d t.1 b.1 (omega (arith, h)) in
    record { cert = r.cert; cover = r.cover; covers_at = r.covers_at; text = r.text; before = r.before; put = λ s' next k. (b.0, r.put s' next k) }

-- all were read
pub at_end : (part row : ℕ) (covers : List Cover) (certs : List (List ℕ)) (spots : List Spot) →
    AreTextsOf covers certs → AreBefore certs (ahead_of part row covers) spots → length spots ≤ part → AreBefore certs (map behind_header covers) spots × (length covers ≤ part)
at_end part row [] [] spots t b h = (b, omega arith)
at_end part row [] (cert ∷ certs) spots t b h = absurd t
at_end part row (c ∷ covers) [] spots t b h = absurd t
at_end zero row (c ∷ covers) (cert ∷ certs) [] t b h = absurd b
at_end (suc part) row (c ∷ covers) (cert ∷ certs) [] t b h = absurd b
at_end zero row (c ∷ covers) (cert ∷ certs) (s ∷ spots) t b h = absurd (omega (arith, h))
at_end (suc part) row (c ∷ covers) (cert ∷ certs) (s ∷ spots) t b h =
    let r = at_end part row covers certs spots t.1 b.1 (omega (arith, h)) in ((b.0, r.0), omega (arith, r.1))

-- ---- one line

-- line `row` of the first five, as bytes
record IsLine (c : Cover) (row : ℕ) (l : List ℕ) : Type 0 where
  ahead : drop row (all_lines c) ≡ l ∷ drop (suc row) (all_lines c)
  version : row ≡ 0 → l ≡ line_text (version c.version)
  margin : row ≡ 1 → l ≡ line_text (margin_line c)
  delta : row ≡ 2 → l ≡ line_text (delta_line c)
  bound : row ≡ 3 → l ≡ line_text (bound_line c)
  cover : 4 ≤ row → l ≡ line_text (cover (length c.lemmas))

is_line : (c : Cover) (row : ℕ) → row < 5 → (l : List ℕ) × IsLine c row l
is_line c zero h = (line_text (version c.version), record { ahead = refl; version = λ e. refl; margin = λ e. absurd (omega (arith, e)); delta = λ e. absurd (omega (arith, e)); bound = λ e. absurd (omega (arith, e)); cover = λ e. absurd (omega (arith, e)) })
is_line c (suc zero) h = (line_text (margin_line c), record { ahead = refl; version = λ e. absurd (omega (arith, e)); margin = λ e. refl; delta = λ e. absurd (omega (arith, e)); bound = λ e. absurd (omega (arith, e)); cover = λ e. absurd (omega (arith, e)) })
is_line c (suc (suc zero)) h = (line_text (delta_line c), record { ahead = refl; version = λ e. absurd (omega (arith, e)); margin = λ e. absurd (omega (arith, e)); delta = λ e. refl; bound = λ e. absurd (omega (arith, e)); cover = λ e. absurd (omega (arith, e)) })
is_line c (suc (suc (suc zero))) h = (line_text (bound_line c), record { ahead = refl; version = λ e. absurd (omega (arith, e)); margin = λ e. absurd (omega (arith, e)); delta = λ e. absurd (omega (arith, e)); bound = λ e. refl; cover = λ e. absurd (omega (arith, e)) })
is_line c (suc (suc (suc (suc zero)))) h = (line_text (cover (length c.lemmas)), record { ahead = refl; version = λ e. absurd (omega (arith, e)); margin = λ e. absurd (omega (arith, e)); delta = λ e. absurd (omega (arith, e)); bound = λ e. absurd (omega (arith, e)); cover = λ e. refl })
is_line c (suc (suc (suc (suc (suc row))))) h = absurd (omega (arith, h))

first_same : (l m : List ℕ) (ls ms : List (List ℕ)) → l ∷ ls ≡ m ∷ ms → l ≡ m
first_same l m ls ms e = ap (λ (xs : List (List ℕ)). get_or xs 0 l) e

rest_same : (l m : List ℕ) (ls ms : List (List ℕ)) → l ∷ ls ≡ m ∷ ms → ls ≡ ms
rest_same l m ls ms e = ap (λ (xs : List (List ℕ)). drop 1 xs) e

some_same : (c d : Cover) → Some c ≡ Some d → c ≡ d
some_same c d e = ap (λ (o : Option Cover). unwrap_or o c) e

one_cover : (covers : List Cover) (i : ℕ) (c d : Cover) → slice_get covers i ≡ Some c → slice_get covers i ≡ Some d → c ≡ d
one_cover covers i c d e f = some_same c d (sym e ∙ f)

cover_here : (covers : List Cover) (i j : ℕ) (c d : Cover) → slice_get covers i ≡ Some c → slice_get covers j ≡ Some d → i ≡ j → c ≡ d
cover_here covers i j c d e f k = one_cover covers i c d e (ap (slice_get covers) k ∙ f)

-- what is kept, one line later: another line, the first one's, or another one's
keeps_other : (f : Cover → CertLine) (k part row count : ℕ) (covers : List Cover) (old new : List ℕ) →
    row < 5 → k < 5 → count ≡ 5 * part + row → row ≢ k → IsKept f k covers count old → new ≡ old → IsKept f k covers (suc count) new
keeps_other f k part row count covers old new r s n ne h t = record {
  new = λ a. t ∙ h.new (omega (arith, a));
  kept = λ i x a b. t ∙ h.kept i x a (omega (arith, b, n, r, s, ne));
}

keeps_first : (f : Cover → CertLine) (k part row count : ℕ) (covers : List Cover) (c : Cover) (l old new : List ℕ) →
    row < 5 → count ≡ 5 * part + row → slice_get covers part ≡ Some c → row ≡ k → part ≡ 0 → IsKept f k covers count old → new ≡ old ++ l →
    l ≡ line_text (f c) → IsKept f k covers (suc count) new
keeps_first f k part row count covers c l old new r n e d p h t g = record {
  new = λ a. absurd (omega (arith, a, n, d));
  kept = λ i x a b.
      t ∙ ap (λ (y : List ℕ). y ++ l) (h.new (omega (arith, n, p, d))) ∙ g
      ∙ ap (λ (y : Cover). line_text (f y)) (cover_here covers part i c x e a (omega (arith, p, b, n, d, r)));
}

keeps_alike : (f : Cover → CertLine) (k part row count : ℕ) (covers : List Cover) (c : Cover) (l old new : List ℕ) →
    row < 5 → count ≡ 5 * part + row → slice_get covers part ≡ Some c → row ≡ k → IsKept f k covers count old → new ≡ old → l ≡ old →
    l ≡ line_text (f c) → IsKept f k covers (suc count) new
keeps_alike f k part row count covers c l old new r n e d h t same g = record {
  new = λ a. absurd (omega (arith, a, n, d));
  kept = λ i x a b. elim (cases_lt i part) [
    | inl q ↦ t ∙ h.kept i x a (omega (arith, n, d, q, r))
    | inr q ↦ t ∙ sym same ∙ g ∙ ap (λ (y : Cover). line_text (f y)) (cover_here covers part i c x e a (omega (arith, q, b, n, d, r)))
  ];
}

keeps : (f : Cover → CertLine) (k part row count : ℕ) (covers : List Cover) (c : Cover) (l old new : List ℕ) →
    row < 5 → k < 5 → count ≡ 5 * part + row → slice_get covers part ≡ Some c → IsKept f k covers count old → TakesText k row part l old new →
    (row ≡ k → l ≡ line_text (f c)) → IsKept f k covers (suc count) new
keeps f k part row count covers c l old new r s n e h t g = elim (eqb_tells row k) [
  | inr d ↦ keeps_other f k part row count covers old new r s n d.1 h (t.other d.1)
  | inl d ↦ elim (cases_lt 0 part) [
    | inl p ↦ keeps_alike f k part row count covers c l old new r n e d.1 h (t.alike d.1 p).0 (t.alike d.1 p).1 (g d.1)
    | inr p ↦ let z : part ≡ 0 = omega (arith, p) in keeps_first f k part row count covers c l old new r n e d.1 z h (t.first d.1 z) (g d.1)
  ]
]

none_some : (c : Cover) → None ≡ Some c → ⊥
none_some c e = cc

take_one_more : (covers : List Cover) (part : ℕ) (c : Cover) → slice_get covers part ≡ Some c →
    map (λ (x : Cover). length x.lemmas) (take (suc part) covers) ≡ map (λ (x : Cover). length x.lemmas) (take part covers) ++ (length c.lemmas ∷ [])
take_one_more [] part c e = absurd (none_some c e)
take_one_more (d ∷ covers) zero c e = ap (λ (x : Cover). length x.lemmas ∷ []) (some_same d c e)
take_one_more (d ∷ covers) (suc part) c e = ap (λ (xs : List ℕ). length d.lemmas ∷ xs) (take_one_more covers part c e)

-- ---- versions

either-order : (t u : Bool) (n : ℕ) → cond t 5 (cond u 5 n) ≡ cond u 5 (cond t 5 n)
either-order true true n = refl
either-order true false n = refl
either-order false true n = refl
either-order false false n = refl

version-of-more : (covers : List Cover) (part : ℕ) (c : Cover) → slice_get covers part ≡ Some c →
    joined_version (versions (take (suc part) covers)) ≡ cond (nat_eq c.version 5) 5 (joined_version (versions (take part covers)))
version-of-more [] part c e = absurd (none_some c e)
version-of-more (d ∷ covers) zero c e = ap (λ (x : Cover). cond (nat_eq x.version 5) 5 2) (some_same d c e)
version-of-more (d ∷ covers) (suc part) c e =
    ap (λ (n : ℕ). cond (nat_eq d.version 5) 5 n) (version-of-more covers part c e)
    ∙ either-order (nat_eq d.version 5) (nat_eq c.version 5) (joined_version (versions (take part covers)))

-- once the first line of one more certificate was read, and behind each later one
version-behind : (covers : List Cover) (c : Cover) (part row old new : ℕ) → slice_get covers part ≡ Some c → old ≡ joined_version (versions (take (firsts part row) covers)) →
    (row ≡ 0 → new ≡ cond (nat_eq c.version 5) 5 old) → (0 < row → new ≡ old) → new ≡ joined_version (versions (take (suc part) covers))
version-behind covers c part zero old new e h f g = f refl ∙ ap (λ (n : ℕ). cond (nat_eq c.version 5) 5 n) h ∙ sym (version-of-more covers part c e)
version-behind covers c part (suc row) old new e h f g = g (omega arith) ∙ h

firsts-many : (part row : ℕ) → part ≤ firsts part row
firsts-many part zero = omega arith
firsts-many part (suc row) = omega arith

-- ---- all lines

all_by_get : (P : Cover → Type 0) (covers : List Cover) → ((i : ℕ) (c : Cover) → slice_get covers i ≡ Some c → P c) → AllByRecursion P covers
all_by_get P [] h = tt
all_by_get P (c ∷ covers) h = (h 0 c refl, all_by_get P covers (λ i d e. h (suc i) d e))

pub text_at : (covers : List Cover) (certs : List (List ℕ)) (i : ℕ) (c : Cover) → AreTextsOf covers certs → slice_get covers i ≡ Some c → (cert : List ℕ) × IsTextOf c cert
text_at [] certs i c t e = absurd (none_some c e)
text_at (d ∷ covers) [] i c t e = absurd t
text_at (d ∷ covers) (cert ∷ certs) zero c t e = (cert, subst (λ (x : Cover). IsTextOf x cert) (some_same d c e) t.0)
text_at (d ∷ covers) (cert ∷ certs) (suc i) c t e = text_at covers certs i c t.1 e

abbrev number_said : Parsed → ℕ
number_said (line (margin n)) = n
number_said (line (delta n)) = n
number_said _ = 0

abbrev bound_said : Parsed → Option ℕ
bound_said (line (bound b)) = b
bound_said _ = None

lines_same : (l m : CertLine) → IsSpelled l → IsSpelled m → line_text l ≡ line_text m → line l ≡ line m
lines_same l m h k e = sym (spelled_line l h) ∙ ap parsed e ∙ spelled_line m k

-- the texts of a line that is kept are one, so what it says is
kept_same : (f : Cover → CertLine) (k : ℕ) (covers : List Cover) (certs : List (List ℕ)) (count : ℕ) (text : List ℕ) →
    k < 5 → 5 * length covers ≤ count → AreTextsOf covers certs → ((c : Cover) (cert : List ℕ) → IsTextOf c cert → IsSpelled (f c)) →
    IsKept f k covers count text → (c : Cover) → slice_get covers 0 ≡ Some c → AllByRecursion (λ (d : Cover). line (f d) ≡ line (f c)) covers
kept_same f k covers certs count text s n t spelled h c e = all_by_get (λ (d : Cover). line (f d) ≡ line (f c)) covers (λ i d a.
    let w = slice_get_within covers i d a in
    let v = slice_get_within covers 0 c e in
    let x = text_at covers certs i d t a in
    let y = text_at covers certs 0 c t e in
    lines_same (f d) (f c) (spelled d x.0 x.1) (spelled c y.0 y.1) (sym (h.kept i d a (omega (arith, s, n, w))) ∙ h.kept 0 c e (omega (arith, s, n, v))))

weaker : (P Q : Cover → Type 0) → ((c : Cover) → P c → Q c) → (covers : List Cover) → AllByRecursion P covers → AllByRecursion Q covers
weaker P Q h [] a = tt
weaker P Q h (c ∷ covers) a = (h c a.0, weaker P Q h covers a.1)

pub take_whole : (covers : List Cover) (part : ℕ) → length covers ≤ part → take part covers ≡ covers
take_whole [] zero h = refl
take_whole [] (suc part) h = refl
take_whole (c ∷ covers) zero h = absurd (omega (arith, h))
take_whole (c ∷ covers) (suc part) h = ap (λ (xs : List Cover). c ∷ xs) (take_whole covers part (omega (arith, h)))

first_of_some : (covers rest : List Cover) (c : Cover) → covers ≡ c ∷ rest → slice_get covers 0 ≡ Some c
first_of_some covers rest c e = ap (λ (xs : List Cover). slice_get xs 0) e

alike : (covers : List Cover) (certs : List (List ℕ)) (h : Heads) → AreTextsOf covers certs → HasRead covers h → length covers ≤ h.part →
    (c : Cover) → slice_get covers 0 ≡ Some c → AreAlike c covers
alike covers certs h t r n c e = let m : 5 * length covers ≤ lines_read h = omega (arith, n) in record {
  margin = weaker (λ (d : Cover). line (margin_line d) ≡ line (margin_line c)) (λ (d : Cover). d.margin_bits ≡ c.margin_bits) (λ d x. ap number_said x) covers
      (kept_same margin_line 1 covers certs (lines_read h) h.margin.items (omega arith) m t (λ d cert x. x.spelled.1.0) r.margin c e);
  delta = weaker (λ (d : Cover). line (delta_line d) ≡ line (delta_line c)) (λ (d : Cover). d.delta_bits ≡ c.delta_bits) (λ d x. ap number_said x) covers
      (kept_same delta_line 2 covers certs (lines_read h) h.delta.items (omega arith) m t (λ d cert x. x.spelled.1.1.0) r.delta c e);
  bound = weaker (λ (d : Cover). line (bound_line d) ≡ line (bound_line c)) (λ (d : Cover). d.bound ≡ c.bound) (λ d x. ap bound_said x) covers
      (kept_same bound_line 3 covers certs (lines_read h) h.bound.items (omega arith) m t (λ d cert x. x.spelled.1.1.1.0) r.bound c e);
}

texts : (covers : List Cover) (h : Heads) → HasRead covers h → length covers ≤ h.part → (c : Cover) → slice_get covers 0 ≡ Some c → head_text h ≡ text_of (head_lines covers c)
texts covers h r n c e =
    let w = slice_get_within covers 0 c e in
    let m : 3 < lines_read h = omega (arith, w, n) in
    let v : ℕ = joined_version (versions covers) in
    ap (λ (k : ℕ). text_of_lines (line_text (version k) ∷ h.margin.items ∷ h.delta.items ∷ h.bound.items ∷ []))
    (r.version ∙ ap (λ (cs : List Cover). joined_version (versions cs)) (take_whole covers (firsts h.part h.row) (omega (arith, n, firsts-many h.part h.row))))
    ∙ ap (λ (x : List ℕ). text_of_lines (line_text (version v) ∷ x ∷ h.delta.items ∷ h.bound.items ∷ [])) (r.margin.kept 0 c e (omega (arith, m)))
    ∙ ap (λ (x : List ℕ). text_of_lines (line_text (version v) ∷ line_text (margin_line c) ∷ x ∷ h.bound.items ∷ [])) (r.delta.kept 0 c e (omega (arith, m)))
    ∙ ap (λ (x : List ℕ). text_of_lines (line_text (version v) ∷ line_text (margin_line c) ∷ line_text (delta_line c) ∷ x ∷ [])) (r.bound.kept 0 c e (omega (arith, m)))

-- the first lines of all were read
pub all_read : (certs : List (List ℕ)) (covers : List Cover) (h : Heads) (spots : List Spot) →
    AreTextsOf covers certs → IsReading certs covers h spots → length spots ≤ h.part → AreHeadsRead certs covers h spots
all_read certs covers h spots t r n = let a = at_end h.part h.row covers certs spots t r.before n in record {
  before = a.0;
  point = r.read.point;
  counts = r.read.counts ∙ ap (map (λ (c : Cover). length c.lemmas)) (take_whole covers h.part a.1);
  alike = λ c rest e. alike covers certs h t r.read a.1 c (first_of_some covers rest c e);
  text = λ c rest e. texts covers h r.read a.1 c (first_of_some covers rest c e);
}

-- ---- a step

-- what was read, one line later
read_more : (cert : List ℕ) (covers : List Cover) (c : Cover) (old mid new : Heads) (l : List ℕ) →
    IsTextOf c cert → slice_get covers old.part ≡ Some c → HasRead covers old → IsLine c old.row l → TakesLine l old mid → IsBehind mid new → HasRead covers new
read_more cert covers c old mid new l t e r i k b =
    let version-read = version-behind covers c old.part old.row old.version mid.version e r.version (λ z. k.version z c.version t.spelled.0.0 (i.version z)) k.same_version in
    elim (cases_lt old.row 4) [
      | inl early ↦
          let lt : mid.row < 4 = omega (arith, k.row, early) in
          let n : lines_read (record mid { row = suc mid.row }) ≡ suc (lines_read old) = omega (arith, k.row, k.part) in
          let more : HasRead covers (record mid { row = suc mid.row }) = record {
            row = omega (arith, lt);
            version = subst (λ (x : ℕ). mid.version ≡ joined_version (versions (take (suc x) covers))) (sym k.part) version-read;
            margin = subst (λ (x : ℕ). IsKept margin_line 1 covers x mid.margin.items) (sym n)
                (keeps margin_line 1 old.part old.row (lines_read old) covers c l old.margin.items mid.margin.items r.row (omega arith) refl e r.margin k.margin i.margin);
            delta = subst (λ (x : ℕ). IsKept delta_line 2 covers x mid.delta.items) (sym n)
                (keeps delta_line 2 old.part old.row (lines_read old) covers c l old.delta.items mid.delta.items r.row (omega arith) refl e r.delta k.delta i.delta);
            bound = subst (λ (x : ℕ). IsKept bound_line 3 covers x mid.bound.items) (sym n)
                (keeps bound_line 3 old.part old.row (lines_read old) covers c l old.bound.items mid.bound.items r.row (omega arith) refl e r.bound k.bound i.bound);
            point = (k.early early).0 ∙ r.point;
            counts = (k.early early).1 ∙ r.counts ∙ ap (λ (x : ℕ). map (λ (y : Cover). length y.lemmas) (take x covers)) (sym k.part);
          } in
          subst (HasRead covers) (sym (b.0 lt)) more
      | inr late ↦
          let le : 4 ≤ mid.row = omega (arith, k.row, late) in
          let n : lines_read (record mid { part = suc mid.part; row = 0 }) ≡ suc (lines_read old) = omega (arith, k.part, r.row, late) in
          let last = k.last late (length c.lemmas) t.spelled.1.1.1.1.0.0 (i.cover late) in
          let more : HasRead covers (record mid { part = suc mid.part; row = 0 }) = record {
            row = omega arith;
            version = subst (λ (x : ℕ). mid.version ≡ joined_version (versions (take (suc x) covers))) (sym k.part) version-read;
            margin = subst (λ (x : ℕ). IsKept margin_line 1 covers x mid.margin.items) (sym n)
                (keeps margin_line 1 old.part old.row (lines_read old) covers c l old.margin.items mid.margin.items r.row (omega arith) refl e r.margin k.margin i.margin);
            delta = subst (λ (x : ℕ). IsKept delta_line 2 covers x mid.delta.items) (sym n)
                (keeps delta_line 2 old.part old.row (lines_read old) covers c l old.delta.items mid.delta.items r.row (omega arith) refl e r.delta k.delta i.delta);
            bound = subst (λ (x : ℕ). IsKept bound_line 3 covers x mid.bound.items) (sym n)
                (keeps bound_line 3 old.part old.row (lines_read old) covers c l old.bound.items mid.bound.items r.row (omega arith) refl e r.bound k.bound i.bound);
            point = last.0 ∙ r.point;
            counts = last.1 ∙ ap (λ (x : List ℕ). x ++ (length c.lemmas ∷ [])) r.counts ∙ sym (take_one_more covers old.part c e)
                ∙ ap (λ (x : ℕ). map (λ (y : Cover). length y.lemmas) (take (suc x) covers)) (sym k.part);
          } in
          subst (HasRead covers) (sym (b.1 le)) more
    ]

place_more : (old mid new : Heads) → old.row < 5 → mid.part ≡ old.part → mid.row ≡ old.row → IsBehind mid new →
    (rest : List Cover) → ahead_of new.part new.row rest ≡ ahead_of old.part (suc old.row) rest
place_more old mid new r p q b rest = elim (cases_lt mid.row 4) [
  | inl early ↦ ap (λ (h : Heads). ahead_of h.part h.row rest) (b.0 early) ∙ ap (λ (x : ℕ). ahead_of x (suc mid.row) rest) p ∙ ap (λ (x : ℕ). ahead_of old.part (suc x) rest) q
  | inr late ↦
      let five : 5 ≡ suc old.row = omega (arith, late, q, r) in
      ap (λ (h : Heads). ahead_of h.part h.row rest) (b.1 late) ∙ ap (λ (x : ℕ). ahead_of (suc x) 0 rest) p ∙ ahead_at_next old.part rest ∙ ap (λ (x : ℕ). ahead_of old.part x rest) five
]

-- the line of one certificate was taken and passed
pub reads : (cert : List ℕ) (covers : List Cover) (c : Cover) (old mid new : Heads) (s s' : Spot) (l : List ℕ) →
    IsTextOf c cert → slice_get covers old.part ≡ Some c → HasRead covers old → IsBefore cert (drop old.row (all_lines c)) s →
    line_in s ≡ Some l → IsFirst (drop old.row (all_lines c)) (Some l) → TakesLine l old mid → IsBehind mid new →
    ((l : List ℕ) (ls : List (List ℕ)) → IsBefore cert (l ∷ ls) s → line_in s ≡ Some l → IsBefore cert ls s') → HasReadOf cert covers c old new s'
reads cert covers c old mid new s s' l t e r b has first k behind pass =
    let i = is_line c old.row r.row in
    let same : l ≡ i.0 = first_same l i.0 first.0 (drop (suc old.row) (all_lines c)) (sym first.1 ∙ i.1.ahead) in
    record {
      read = read_more cert covers c old mid new l t e r (subst (IsLine c old.row) (sym same) i.1) k behind;
      ahead = suc old.row;
      before = pass l (drop (suc old.row) (all_lines c))
          (subst (λ (ls : List (List ℕ)). IsBefore cert ls s) (i.1.ahead ∙ ap (λ (x : List ℕ). x ∷ drop (suc old.row) (all_lines c)) (sym same)) b) has;
      place = place_more old mid new r.row k.part k.row behind;
    }

-- ---- a line that may not stand there

all_get : (P : Cover → Type 0) (covers : List Cover) (i : ℕ) (c : Cover) → AllByRecursion P covers → slice_get covers i ≡ Some c → P c
all_get P [] i c a e = absurd (none_some c e)
all_get P (d ∷ covers) zero c a e = subst P (some_same d c e) a.0
all_get P (d ∷ covers) (suc i) c a e = all_get P covers i c a.1 e

-- a kept line is that of each cover, where all have one
kept_by : (f : Cover → CertLine) (k part row count : ℕ) (covers : List Cover) (c : Cover) (l text : List ℕ) → IsKept f k covers count text → count ≡ 5 * part + row → k ≡ row → 0 < part →
    slice_get covers part ≡ Some c → l ≡ line_text (f c) → ((first : Cover) (others : List Cover) → covers ≡ first ∷ others → line_text (f c) ≡ line_text (f first)) → l ≡ text
kept_by f k part row count [] c l text h n e p at is same = absurd (none_some c at)
kept_by f k part row count (first ∷ others) c l text h n e p at is same =
    is ∙ same first others refl ∙ sym (h.kept 0 first refl (omega (arith, n, e, p)))

-- no line of covers that may be joined is such a one
pub none_unlike : (cert : List ℕ) (covers : List Cover) (c : Cover) (h : Heads) (l : List ℕ) → IsTextOf c cert → slice_get covers h.part ≡ Some c → HasRead covers h →
    IsFirst (drop h.row (all_lines c)) (Some l) → IsUnlike l h → IsUnjoined covers Unlike
none_unlike cert covers c h l t e r has u j =
    let i = is_line c h.row r.row in
    let same : l ≡ i.0 = first_same l i.0 has.0 (drop (suc h.row) (all_lines c)) (sym has.1 ∙ i.1.ahead) in
    by (subst (IsLine c h.row) (sym same) i.1) h.row refl
  where
    margins : (first : Cover) (others : List Cover) → covers ≡ first ∷ others → line_text (margin_line c) ≡ line_text (margin_line first)
    margins first others k = ap (λ (n : ℕ). line_text (margin n)) (all_get (λ (d : Cover). d.margin_bits ≡ first.margin_bits) covers h.part c (j.alike first others k).margin e)

    deltas : (first : Cover) (others : List Cover) → covers ≡ first ∷ others → line_text (delta_line c) ≡ line_text (delta_line first)
    deltas first others k = ap (λ (n : ℕ). line_text (delta n)) (all_get (λ (d : Cover). d.delta_bits ≡ first.delta_bits) covers h.part c (j.alike first others k).delta e)

    bounds : (first : Cover) (others : List Cover) → covers ≡ first ∷ others → line_text (bound_line c) ≡ line_text (bound_line first)
    bounds first others k = ap (λ (n : Option ℕ). line_text (bound n)) (all_get (λ (d : Cover). d.bound ≡ first.bound) covers h.part c (j.alike first others k).bound e)

    by : IsLine c h.row l → (row : ℕ) → h.row ≡ row → ⊥
    by i zero k =
        let known = all_get (λ (d : Cover). IsTrue (is_version d.version)) covers h.part c j.versions e in
        true≢false (sym known ∙ u.version k c.version t.spelled.0.0 (i.version k))
    by i (suc zero) k = let x = u.margin k in x.1 (kept_by margin_line 1 h.part h.row (lines_read h) covers c l h.margin.items r.margin refl (sym k) x.0 e (i.margin k) margins)
    by i (suc (suc zero)) k = let x = u.delta k in x.1 (kept_by delta_line 2 h.part h.row (lines_read h) covers c l h.delta.items r.delta refl (sym k) x.0 e (i.delta k) deltas)
    by i (suc (suc (suc zero))) k = let x = u.bound k in x.1 (kept_by bound_line 3 h.part h.row (lines_read h) covers c l h.bound.items r.bound refl (sym k) x.0 e (i.bound k) bounds)
    by i (suc (suc (suc (suc row)))) k = let le : 4 ≤ h.row = omega (arith, k) in u.kind le (length c.lemmas) t.spelled.1.1.1.1.0.0 (i.cover le)

-- the certificate whose turn it is moved on
pub goes_on : (certs : List (List ℕ)) (covers : List Cover) (old : Heads) (spots : List Spot) (d : Spot) (a : AtPart old.part old.row covers certs spots d)
    (r : Result Step Unjoined) (new : Heads) (s : Spot) → ReadsOf a.cert covers a.cover old r new s → ReadsHeads certs covers r new (slice_set spots old.part s)
goes_on certs covers old spots d a (Ok Over) new s h = absurd h
goes_on certs covers old spots d a (Ok (Read part)) new s h =
    record { before = subst (λ (lss : List (List (List ℕ))). AreBefore certs lss (slice_set spots old.part s)) (sym (h.place covers)) (a.put s h.ahead h.before); read = h.read }
goes_on certs covers old spots d a (Ok On) new s h =
    record { before = subst (λ (lss : List (List (List ℕ))). AreBefore certs lss (slice_set spots old.part s)) (sym (h.place covers)) (a.put s h.ahead h.before); read = h.read }
goes_on certs covers old spots d a (Err e) new s h = h

pub some_ahead : (cert : List ℕ) (c : Cover) (row : ℕ) → IsTextOf c cert → row < 5 → 0 < length (drop row (all_lines c))
some_ahead cert c row t h = let i = is_line c row h in omega (arith, ap length i.1.ahead)

-- ---- the text

line_more : (t u l : List ℕ) (ls : List (List ℕ)) (v : List ℕ) → u ≡ t ++ (l ++ (10 ∷ [])) → v ≡ u ++ text_of_lines ls → v ≡ t ++ text_of_lines (l ∷ ls)
line_more t u l ls v e f =
    f ∙ ap (λ (x : List ℕ). x ++ text_of_lines ls) e ∙ append_assoc t (l ++ (10 ∷ [])) (text_of_lines ls)
    ∙ ap (λ (x : List ℕ). t ++ x) (append_assoc l (10 ∷ []) (text_of_lines ls))

-- the first four lines were appended, each by a call
pub appends : (h : Heads) (r : Result (Unit {0}) AllocError) (t t1 t2 t3 t4 m d b : List ℕ) →
    t1 ≡ t ++ (line_text (version h.version) ++ (10 ∷ [])) → m ≡ h.margin.items → t2 ≡ t1 ++ (m ++ (10 ∷ [])) → d ≡ h.delta.items → t3 ≡ t2 ++ (d ++ (10 ∷ [])) →
    b ≡ h.bound.items → OnOk r (t4 ≡ t3 ++ (b ++ (10 ∷ []))) → OnOk r (t4 ≡ t ++ head_text h)
appends h (Err e) t t1 t2 t3 t4 m d b e1 em e2 ed e3 eb e4 = tt
appends h (Ok x) t t1 t2 t3 t4 m d b e1 em e2 ed e3 eb e4 =
    line_more t t1 (line_text (version h.version)) (m ∷ d ∷ b ∷ []) t4 e1 (line_more t1 t2 m (d ∷ b ∷ []) t4 e2 (line_more t2 t3 d (b ∷ []) t4 e3 e4))
    ∙ ap (λ (v : List ℕ). t ++ text_of_lines (line_text (version h.version) ∷ v ∷ d ∷ b ∷ [])) em
    ∙ ap (λ (v : List ℕ). t ++ text_of_lines (line_text (version h.version) ∷ h.margin.items ∷ v ∷ b ∷ [])) ed
    ∙ ap (λ (v : List ℕ). t ++ text_of_lines (line_text (version h.version) ∷ h.margin.items ∷ h.delta.items ∷ v ∷ [])) eb
