-- Places at the beginnings of certificates, and one of several places that is given more bytes.
use Rattle.std.proofs.Common.{◌≡◌, ◌<◌, inl, inr, ℕ, zero, suc, List, [], ◌∷◌, Option, Some, None, Result, Ok, Err, OnOk, drop, length, map, get_or, replicate, slice_set, refl, sym, ap, ◌∙◌, subst, arith, length-set, ⊎_elim, get_or-set_other, get_or-set_same}
use Rattle.std.proofs.lemmas.Bool.{cases_eq}
use Rattle.std.proofs.lemmas.Option.{get_or_from_slice_get}
use Rattle.std.specs.List.{slice_get}
use Rattle.std.specs.List.{AllByRecursion}
use Rattle.cert_read.specs.CertLine.{CertLine}
use Rattle.cert_read.specs.LineText.{IsSpelled}
use Rattle.cert_joined.specs.Covers.{Cover, AreTextsOf, cover_lines}
use Rattle.cert_join.specs.Written.{texts_of}
use Rattle.std.specs.declared.alloc.AllocError.{AllocError}
use Rattle.cert_join.specs.declared.heads.Heads.{Heads as HeadsRead}
use Rattle.cert_join.specs.declared.joiner.Joiner.{Joiner}
use Rattle.cert_join.specs.declared.joiner.Stage.{Stage}
use Rattle.cert_join.specs.declared.joiner.Stage.TheVariants.{Heads, Point, Numbering, Lemmas, Trees, Ends}
use Rattle.cert_join.specs.declared.lemmas.Lemmas.{Lemmas as LemmasRead}
use Rattle.cert_join.specs.declared.numbering.Numbering.{Numbering as NumberingRead}
use Rattle.cert_join.specs.declared.cursor.Mark.{Mark}
use Rattle.cert_join.specs.declared.trees.Task.{Task}
use Rattle.cert_join.specs.declared.trees.Task.TheVariants.{Compare, Copy, Weigh}
use Rattle.cert_join.specs.declared.weighing.Weighing.{Weighing}
use Rattle.cert_join.specs.Ahead.{AreBefore}
use Rattle.cert_join.specs.Due.{Course, IsNextDue, stacked}
use Rattle.cert_join.specs.Gathered.{Stand, lists_of, nowhere, spot_at}
use Rattle.cert_join.specs.Heads.{IsReading, all_lines}
use Rattle.cert_join.specs.Joining.{IsAt, IsJoining, IsPiece}
use Rattle.cert_join.specs.LemmasDue.{AreLemmasDue, LemmasLeft}
use Rattle.cert_join.specs.Numbered.{IsMarked, IsNumbering, IsWithin}
use Rattle.cert_join.specs.Spot.{Spot, AreShort, IsBefore, IsPieceAt}
use Rattle.cert_join.specs.Weighed.{Branch, IsWeighing}
use Rattle.cert_join.proofs.Passing.{there_moved}
use Rattle.cert_join.proofs.Places.{get_set_same, get_set_other}
use Rattle.cert_join.proofs.Spots.{before_all}

-- ---- the beginnings

short_texts : (ls : List CertLine) → AllByRecursion IsSpelled ls → AreShort (texts_of ls)
short_texts [] h = tt
short_texts (l ∷ ls) h = (h.0.1, short_texts ls h.1)

pub before_start : (certs : List (List ℕ)) (covers : List Cover) → AreTextsOf covers certs → AreBefore certs (map all_lines covers) (replicate (length certs) nowhere)
before_start [] [] t = tt
before_start (cert ∷ certs) (c ∷ covers) t = (before_all cert (all_lines c) t.0.few t.0.lines (short_texts (cover_lines c) t.0.spelled), before_start certs covers t.1)
before_start [] (c ∷ covers) t = absurd t
before_start (cert ∷ certs) [] t = absurd t

-- ---- a place that is given more bytes

-- it stands before the lines before which the other one does
abbrev pub Stays : List ℕ → Spot → Spot → Type 0
Stays cert s t = (ls : List (List ℕ)) → IsBefore cert ls s → IsBefore cert ls t

pub before_given : (certs : List (List ℕ)) (lines : List (List (List ℕ))) (spots : List Spot) (part : ℕ) (t : Spot) → Stays (get_or certs part []) (spot_at spots part) t
    → AreBefore certs lines spots → AreBefore certs lines (slice_set spots part t)
before_given [] [] [] part t m b = tt
before_given (cert ∷ certs) (ls ∷ lines) (s ∷ spots) zero t m b = (m ls b.0, b.1)
before_given (cert ∷ certs) (ls ∷ lines) (s ∷ spots) (suc i) t m b = (b.0, before_given certs lines spots i t m b.1)
before_given [] [] (s ∷ spots) part t m b = absurd b
before_given [] (ls ∷ lines) spots part t m b = absurd b
before_given (cert ∷ certs) [] spots part t m b = absurd b
before_given (cert ∷ certs) (ls ∷ lines) [] part t m b = absurd b

pub stand_given : (cert : ℕ → List ℕ) (ahead : ℕ → List (List ℕ)) (spots : List Spot) (part : ℕ) (t : Spot) → Stays (cert part) (spot_at spots part) t
    → Stand cert ahead spots → Stand cert ahead (slice_set spots part t)
stand_given cert ahead spots part t m stand i h =
    let there : i < length spots = omega (arith, h, length-set spots part t) in
    ⊎_elim
    (λ (e : i ≡ part).
    let P : ℕ → Type 0 = λ j. IsBefore (cert j) (ahead j) t in
    let own : part < length spots = subst (λ (j : ℕ). j < length spots) e there in
    subst (IsBefore (cert i) (ahead i)) (sym (ap (λ (j : ℕ). spot_at (slice_set spots part t) j) e ∙ get_or-set_same spots part t nowhere own))
    (subst P (sym e) (m (ahead part) (stand part own))))
    (λ (ne : i ≡ part → ⊥). subst (IsBefore (cert i) (ahead i)) (sym (get_or-set_other spots part i t nowhere ne)) (stand i there))
    (cases_eq i part)

module _ (certs : List (List ℕ)) (spots : List Spot) (part : ℕ) (t : Spot) (m : Stays (get_or certs part []) (spot_at spots part) t) where
  -- ---- headers

  pub reading_given : (covers : List Cover) (h : HeadsRead) → IsReading certs covers h spots → IsReading certs covers h (slice_set spots part t)
  reading_given covers h r = record { before = before_given certs _ spots part t m r.before; read = r.read }

  -- ---- numbers

  marked : (cert : List ℕ) (c : Cover) (k : Option Mark) (s : Spot) → Stays cert s t → IsMarked cert c k s → IsMarked cert c k t
  marked cert c None s n i = n _ i
  marked cert c (Some k) s n i = i

  within_given : (covers : List Cover) (before : List (List ℕ)) (n : NumberingRead) → IsWithin certs covers before n spots
      → ((s : Spot) (cert : List ℕ) → slice_get spots n.part ≡ Some s → slice_get certs n.part ≡ Some cert → (u : Spot) × (slice_get (slice_set spots part t) n.part ≡ Some u) × Stays cert s u
      × ((c : Cover) (k : Option Mark) → IsMarked cert c k s → IsMarked cert c k u))
      → IsWithin certs covers before n (slice_set spots part t)
  within_given covers before n w f =
      let g = f w.spot w.cert w.spots_at w.certs_at in
      let r = w.reading in
      record {
        cover = w.cover;
        covers_at = w.covers_at;
        cert = w.cert;
        certs_at = w.certs_at;
        spot = g.0;
        spots_at = g.1;
        reading = record { known = r.known; is_known = r.is_known; few = r.few; ls = r.ls; ahead = g.2 _ r.ahead; at = r.at; marked = g.3 w.cover n.mark r.marked };
        ahead = before_given certs _ spots part t m w.ahead;
      }

  -- the place with this number
  place_given : (i : ℕ) (s : Spot) (cert : List ℕ) → slice_get spots i ≡ Some s → slice_get certs i ≡ Some cert
      → (u : Spot) × (slice_get (slice_set spots part t) i ≡ Some u) × Stays cert s u × ((c : Cover) (k : Option Mark) → IsMarked cert c k s → IsMarked cert c k u)
  place_given i s cert e h =
      ⊎_elim
      (λ (same : i ≡ part).
      let e' : slice_get spots part ≡ Some s = subst (λ (j : ℕ). slice_get spots j ≡ Some s) same e in
      let h' : slice_get certs part ≡ Some cert = subst (λ (j : ℕ). slice_get certs j ≡ Some cert) same h in
      let n : Stays cert s t = λ ls b.
      subst (λ (w : List ℕ). IsBefore w ls t) (get_or_from_slice_get certs part cert [] h')
      (m ls (subst (λ (w : List ℕ). IsBefore w ls (spot_at spots part)) (sym (get_or_from_slice_get certs part cert [] h'))
      (subst (IsBefore cert ls) (sym (get_or_from_slice_get spots part s nowhere e')) b))) in
      (t, subst (λ (j : ℕ). slice_get (slice_set spots part t) j ≡ Some t) (sym same) (get_set_same spots part s t e'), n, λ c k. marked cert c k s n))
      (λ (ne : i ≡ part → ⊥). (s, get_set_other spots part i t ne ∙ e, (λ ls b. b), λ c k b. b))
      (cases_eq i part)

  pub numbering_given : (covers : List Cover) (n : NumberingRead) → IsNumbering certs covers n spots → IsNumbering certs covers n (slice_set spots part t)
  numbering_given covers n r = record {
    before = r.before;
    all = r.all;
    here = elim r.here [
      | inl w ↦ inl (record {
        ahead = before_given certs _ spots part t m w.ahead;
        is_known = w.is_known;
        few = w.few;
        count = w.count;
        outside = w.outside;
        unmarked = w.unmarked;
        empty = w.empty;
      })
      | inr w ↦ inr (within_given covers r.before n w (place_given n.part))
    ];
  }

  -- ---- lemmas

  pub lemmas_given : (numbers : List (List ℕ)) (f : LemmasLeft) (s : LemmasRead) → AreLemmasDue certs numbers f s spots → AreLemmasDue certs numbers f s (slice_set spots part t)
  lemmas_given numbers f s d = record { before = before_given certs _ spots part t m d.before; left = d.left; numbered = d.numbered; long = d.long }

  -- ---- the choice of a tree

  pub weighing_given : (taken : Branch) (end : List (List (List ℕ))) (w : Weighing) → IsWeighing certs taken end w spots → IsWeighing certs taken end w (slice_set spots part t)
  weighing_given taken end w d = record {
    lines = d.lines;
    due = d.due;
    before = before_given certs d.lines spots part t m d.before;
    parts = d.parts;
    ends = d.ends;
    apart = d.apart;
    first = d.first;
    choosing = d.choosing;
  }

-- ---- main trees

module _ (k : Course) (spots : List Spot) (part : ℕ) (t : Spot) (there : part < length spots) (m : Stays (k.cert part) (spot_at spots part) t) where
  next_given : (task : Task) (parts : List (List ℕ)) (text : List ℕ) → IsNextDue k task parts text spots → IsNextDue k task parts text (slice_set spots part t)
  next_given Compare parts text d = record { due = d.due; places = d.places; there = there_moved parts spots (slice_set spots part t) (length-set spots part t) d.there; good = d.good; stand = stand_given k.cert _ spots part t m d.stand; whole = d.whole }
  next_given (Copy own waiting) parts text d = record {
    lines = d.lines;
    trees = d.trees;
    spelled = d.spelled;
    due = d.due;
    places = d.places;
    there = there_moved ((own ∷ []) ∷ parts) spots (slice_set spots part t) (length-set spots part t) d.there;
    good = d.good;
    stand = stand_given k.cert _ spots part t m d.stand;
    whole = d.whole;
  }
  next_given (Weigh w) parts text d =
      let within : (i : ℕ) → i < length (slice_set spots part t) → i < length spots = λ i h. omega (arith, h, length-set spots part t) in
      let m' : Stays (get_or d.certs part []) (spot_at spots part) t = subst (λ (x : List ℕ). Stays x (spot_at spots part) t) (sym (d.certs_are part there)) m in
      record {
        certs = d.certs;
        ends = d.ends;
        taken = d.taken;
        due = d.due;
        weighing = weighing_given d.certs spots part t m' d.taken d.ends w d.weighing;
        certs_are = λ i h. d.certs_are i (within i h);
        ends_are = λ i h. d.ends_are i (within i h);
        behind = d.behind;
        shaped = d.shaped;
        spelled = d.spelled;
        places = d.places;
        there = there_moved ((d.taken.part ∷ []) ∷ parts) spots (slice_set spots part t) (length-set spots part t) d.there;
        good = d.good;
        whole = d.whole;
      }

-- ---- all stages

pub at_given : (certs : List (List ℕ)) (first : Cover) (covers : List Cover) (done text : List ℕ) (numbers : List (List ℕ)) (stage : Stage) (spots : List Spot) (part : ℕ) (t : Spot)
    → part < length spots → Stays (get_or certs part []) (spot_at spots part) t → IsAt certs first covers done text numbers stage spots → IsAt certs first covers done text numbers stage (slice_set spots part t)
at_given certs first covers done text numbers (Heads h) spots part t there m d = (d.0, reading_given certs spots part t m covers h d.1)
at_given certs first covers done text numbers (Point p) spots part t there m d = absurd d
at_given certs first covers done text numbers (Numbering h n) spots part t there m d = (d.0, d.1, numbering_given certs spots part t m covers n d.2)
at_given certs first covers done text numbers (Lemmas s) spots part t there m d = record {
  settled = d.settled;
  left = d.left;
  same = d.same;
  due = lemmas_given certs spots part t m numbers d.left s d.due;
  whole = d.whole;
}
at_given certs first covers done text numbers (Trees s) spots part t there m d = record {
  settled = d.settled;
  course = d.course;
  is = d.is;
  due = next_given d.course spots part t there (subst (λ (w : List ℕ). Stays w (spot_at spots part) t) (sym (d.is.cert_is part)) m) s.task (stacked s.places.items) text d.due;
}
at_given certs first covers done text numbers (Ends p is_read) spots part t there m d = d

-- as many places as certificates
pub before_many : (certs : List (List ℕ)) (lines : List (List (List ℕ))) (spots : List Spot) → AreBefore certs lines spots → length spots ≡ length certs
before_many [] [] [] b = refl
before_many (cert ∷ certs) (ls ∷ lines) (s ∷ spots) b = ap suc (before_many certs lines spots b.1)
before_many [] [] (s ∷ spots) b = absurd b
before_many [] (ls ∷ lines) spots b = absurd b
before_many (cert ∷ certs) [] spots b = absurd b
before_many (cert ∷ certs) (ls ∷ lines) [] b = absurd b

-- one is given a piece
pub gives : (r : Result Unit AllocError) (j new : Joiner) (part : ℕ) (piece : List ℕ) (s t : Spot) → part < length j.cursors.items → s ≡ spot_at j.cursors.items part
    → new.cursors.items ≡ slice_set j.cursors.items part t → new.numbers ≡ j.numbers → new.stage ≡ j.stage
    → ((cert : List ℕ) (ls : List (List ℕ)) → IsBefore cert ls s → IsPieceAt (drop s.behind cert) piece → r ≡ Ok (tt) → IsBefore cert ls t)
    → OnOk r ((certs : List (List ℕ)) (first : Cover) (covers : List Cover) (done text : List ℕ) → IsPiece certs part piece j → IsJoining certs first covers done text j → IsJoining certs first covers done text new)
gives (Err e) j new part piece s t there same cursors numbers stage f = tt
gives (Ok u) j new part piece s t there same cursors numbers stage f = λ certs first covers done text p d.
    let own : get_or certs part [] ≡ p.cert = get_or_from_slice_get certs part p.cert [] p.there in
    let m : Stays (get_or certs part []) (spot_at j.cursors.items part) t = λ ls b.
    let b' : IsBefore p.cert ls s = subst (IsBefore p.cert ls) (sym same) (subst (λ (w : List ℕ). IsBefore w ls (spot_at j.cursors.items part)) own b) in
    let at : IsPieceAt (drop s.behind p.cert) piece = subst (λ (x : Spot). IsPieceAt (drop x.behind p.cert) piece) (sym same) p.at in
    subst (λ (w : List ℕ). IsBefore w ls t) (sym own) (f p.cert ls b' at refl) in
    let given = at_given certs first covers done text (lists_of j.numbers.items) j.stage j.cursors.items part t there m d.at in
    let spots = subst (λ (x : List Spot). IsAt certs first covers done text (lists_of j.numbers.items) j.stage x) (sym cursors) given in
    let staged = subst (λ (x : Stage). IsAt certs first covers done text (lists_of j.numbers.items) x new.cursors.items) (sym stage) spots in
    record {
      many = ap length cursors ∙ length-set j.cursors.items part t ∙ d.many;
      at = subst (λ (v : _). IsAt certs first covers done text (lists_of v.items) new.stage new.cursors.items) (sym numbers) staged;
    }
