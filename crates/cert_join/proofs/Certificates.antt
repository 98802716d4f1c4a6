-- Certificates whose lemmas are numbered, one after the other.
use Rattle.std.proofs.Common.{◌≡◌, ◌≢◌, ◌<◌, ◌≤◌, ℕ, zero, suc, List, [], ◌∷◌, ◌++◌, append_assoc, Bool, true, false, Option, Some, None, Result, Ok, Err, length, map, take, get_or, refl, ap, sym, ◌∙◌, subst, ◌⊎◌, inl, inr, arith}
use Rattle.std.specs.Prelude.{slice_get, slice_set, unwrap_or}
use Rattle.std.specs.List.{AllByRecursion}
use Rattle.std.specs.declared.alloc.Global.{Global}
use Rattle.std.specs.declared.vec.Vec.{Vec}
use Rattle.std.proofs.lemmas.List.{map-append}
use Rattle.std.proofs.lemmas.Option.{slice_get_within}
use Rattle.cover_model.specs.Derivation.{tree_lines}
use Rattle.cert_model.specs.Accepted.{most_lemmas}
use Rattle.cert_model.specs.Written.{rule_lines}
use Rattle.cert_read.specs.CertLine.{CertLine, end_word, no_list, tree_word}
use Rattle.cert_read.specs.LineText.{line_text, IsSpelled}
use Rattle.cert_joined.specs.Covers.{Cover, Lemma, IsLemmaAt, IsTextOf, AreTextsOf, state_lines, lemma_lines, lemmas_lines}
use Rattle.cert_join.specs.declared.cursor.Mark.{Mark}
use Rattle.cert_join.specs.declared.joiner.Step.{Step}
use Rattle.cert_join.specs.declared.joiner.Step.TheVariants.{Read, On, Over}
use Rattle.cert_join.specs.declared.stop.Unjoined.{Unjoined}
use Rattle.cert_join.specs.declared.stop.Unjoined.TheVariants.{Memory, Unlike, Crowded}
use Rattle.cert_join.specs.declared.numbering.Kind.{Kind}
use Rattle.cert_join.specs.declared.numbering.Kind.TheVariants.{Lemma as LemmaKind, No, Tree as TreeKind, Other}
use Rattle.cert_join.specs.declared.numbering.Known.{Known}
use Rattle.cert_join.specs.declared.numbering.Numbering.{Numbering}
use Rattle.cert_join.specs.Ahead.{AreBefore}
use Rattle.cert_join.specs.Spot.{Spot, IsBefore, IsFirst, IsMark, IsReady, line_in, rewound, text_in}
use Rattle.cert_join.specs.Written.{texts_of, behind_header}
use Rattle.cert_join.specs.Numbered.{line_kind, IsKnown, HaveNumbers, AllHaveNumbers, IsAt, IsBetween, tail_lines, TakesLine, TakesNext, EndsPart, IsMarked, IsPartCrowded, IsReadingPart, IsPartRead, StaysInPart, ReadsPart, lists_of, around, IsResting, IsWithin, IsNumbering, AreNumbered, ReadsLemmas}
use Rattle.cert_join.proofs.AllNumbers.{AreStatesSpelled, are_all_lemmas, are_crowded, get_front, all_counted, all_long, all_many}
use Rattle.cert_join.proofs.Headers.{text_at, take_whole}
use Rattle.cert_join.proofs.Spots.{before_again, before_same, ready_first}
use Rattle.cert_join.proofs.Walks.{HasBoxes, all_split, takes, at_tree}

none_some : {X : Type 0} (x : X) → None ≡ Some x → ⊥
none_some x e = cc

some_same : {X : Type 0} (x y : X) → Some x ≡ Some y → x ≡ y
some_same x y e = ap (λ o. unwrap_or o x) e

-- ---- the next line

record IsNextLine (ls : List CertLine) (t : List ℕ) : Type 0 where
  l : CertLine
  rest : List CertLine
  here : ls ≡ l ∷ rest
  text : t ≡ line_text l

next_line : (ls : List CertLine) (t : List ℕ) → IsFirst (texts_of ls) (Some t) → IsNextLine ls t
next_line [] t h = absurd (let e : [] ≡ t ∷ h.0 = h.1 in cc)
next_line (l ∷ rest) t h = record { l = l; rest = rest; here = refl; text = sym (ap (λ (xs : List (List ℕ)). get_or xs 0 []) h.1) }

marked_behind : (cert : List ℕ) (c : Cover) (o : Option Mark) (s : Spot) (m : Mark) → IsMarked cert c o s → (o ≡ Some m) ⊎ ((o ≡ None) × IsMark s m) →
    IsBefore cert (behind_header c) (rewound m)
marked_behind cert c o s m h (inl e) = subst (λ (x : Option Mark). IsMarked cert c x s) e h
marked_behind cert c o s m h (inr e) = before_again cert (behind_header c) s m (subst (λ (x : Option Mark). IsMarked cert c x s) e.0 h) e.1

abbrev pub marked : Numbering → Mark → Numbering
marked n m = record n { mark = Some m }

-- nothing was read, or the place is marked now
pub reads_none : (cert : List ℕ) (before : List (List ℕ)) (c : Cover) (old : Numbering) (s s' : Spot) (m : Mark) →
    IsReadingPart cert before c old s → (old.mark ≡ Some m) ⊎ ((old.mark ≡ None) × IsMark s m) → s' ≡ record s { size = s'.size } →
    StaysInPart cert before c old (marked old m) s'
reads_none cert before c old s s' m r k same = record {
  part = refl;
  lists = refl;
  reading = record {
    known = r.known;
    is_known = r.is_known;
    few = r.few;
    ls = r.ls;
    ahead = subst (IsBefore cert (texts_of r.ls)) (sym same) (before_same cert (texts_of r.ls) s s'.size r.ahead);
    at = r.at;
    marked = marked_behind cert c old.mark s m r.marked k;
  };
}

read_line : (cert : List ℕ) (before : List (List ℕ)) (c : Cover) (old new : Numbering) (s' s'' : Spot) (m : Mark) (l : CertLine) (rest : List CertLine) (known : List (List ℕ)) →
    AllByRecursion HasBoxes c.lemmas → IsKnown old.known known → old.known.count ≤ 1048576 → IsAt old.is_in_state before c old.state.items old.own.items known (l ∷ rest) →
    IsBefore cert (behind_header c) (rewound m) → line_kind l ≢ TreeKind → TakesLine (line_kind l) (line_text l) (marked old m) new → new.known.count ≤ 1048576 →
    IsBefore cert (texts_of rest) s'' → StaysInPart cert before c old new s''
read_line cert before c old new s' s'' m l rest known boxes ik few at behind ne t few' b =
    let x = takes before c (marked old m) new l rest known old.is_in_state boxes ik few t ne refl at in
    record {
      part = t.part;
      lists = t.numbers;
      reading = record {
        known = x.known;
        is_known = x.is_known;
        few = few';
        ls = rest;
        ahead = b;
        at = x.at;
        marked = subst (λ (o : Option Mark). IsMarked cert c o s'') (sym t.mark) behind;
      };
    }

read_tree : (cert : List ℕ) (before : List (List ℕ)) (c : Cover) (old new : Numbering) (s'' : Spot) (m : Mark) (l : CertLine) (rest : List CertLine) (known : List (List ℕ)) →
    IsKnown old.known known → old.known.count ≤ 1048576 → IsAt old.is_in_state before c old.state.items old.own.items known (l ∷ rest) →
    IsBefore cert (behind_header c) (rewound m) → line_kind l ≡ TreeKind → EndsPart (marked old m) new → s'' ≡ rewound m → IsPartRead cert before c old new s''
read_tree cert before c old new s'' m l rest known ik few at behind k t back =
    let x = at_tree before c old.state.items old.own.items l rest known old.is_in_state k at in
    record {
      known = known;
      is_known = subst (λ (y : Known). IsKnown y known) (sym t.known) ik;
      few = subst (λ (y : Known). y.count ≤ 1048576) (sym t.known) few;
      count = t.count;
      own = old.own;
      part = t.part;
      outside = t.outside ∙ x.0;
      unmarked = t.unmarked;
      empty = t.empty;
      lists = t.lists;
      numbers = x.1;
      ahead = subst (IsBefore cert (behind_header c)) (sym back) behind;
    }

lemma_not_tree : LemmaKind ≡ TreeKind → ⊥
lemma_not_tree e = cc

no_not_tree : No ≡ TreeKind → ⊥
no_not_tree e = cc

other_not_tree : Other ≡ TreeKind → ⊥
other_not_tree e = cc

-- ---- a line is next

some_behind : (xs : List CertLine) (y : CertLine) (ys : List CertLine) → 0 < length (texts_of (xs ++ (y ∷ ys)))
some_behind [] y ys = omega arith
some_behind (x ∷ xs) y ys = omega arith

some_next : (inside : Bool) (before : List (List ℕ)) (c : Cover) (state own : List ℕ) (known : List (List ℕ)) (ls : List CertLine) → IsAt inside before c state own known ls →
    0 < length (texts_of ls)
some_next true before c state own known ls a =
    omega (arith, some_behind a.left (no_list a.last) (rule_lines (tree_lines a.now.tree) ++ (lemmas_lines (suc (length a.done)) a.due ++ tail_lines c)), ap (λ (xs : List CertLine). length (texts_of xs)) a.ahead)
some_next false before c state own known ls a =
    let tail = rule_lines (tree_lines c.tree) ++ (end_word ∷ []) in
    let lemmas = lemmas_lines (length a.done) a.due in
    let e : ls ≡ (a.rules ++ lemmas) ++ (tree_word ∷ tail) = a.ahead ∙ sym (append_assoc a.rules lemmas (tree_word ∷ tail)) in
    omega (arith, some_behind (a.rules ++ lemmas) tree_word tail, ap (λ (xs : List CertLine). length (texts_of xs)) e)

-- too many states are known
many_known : (inside : Bool) (before : List (List ℕ)) (c : Cover) (state own : List ℕ) (known : List (List ℕ)) (ls : List CertLine) → IsAt inside before c state own known ls →
    most_lemmas < length known → IsPartCrowded before c
many_known true before c state own known ls a many = record { own = own; done = a.done; due = a.now ∷ a.due; known = known; lemmas = a.lemmas; numbers = a.numbers; many = many }
many_known false before c state own known ls a many = record { own = own; done = a.done; due = a.due; known = known; lemmas = a.lemmas; numbers = a.numbers; many = many }

-- what comes of a line that was taken
abbrev pub ReadsNext : List ℕ → List (List ℕ) → Cover → Numbering → Result Kind Unjoined → Numbering → Spot → Type 0
ReadsNext cert before c old (Ok found) new s = StaysInPart cert before c old new s ⊎ IsPartRead cert before c old new s
ReadsNext cert before c old (Err e) new s = ReadsPart cert before c old (Err e) new s

abbrev pub MovesOn : Result Kind Unjoined → Mark → Spot → Spot → Type 0
MovesOn (Ok found) m s' s'' = (found ≡ TreeKind → s'' ≡ rewound m) × ((found ≢ TreeKind) → (cert l : List ℕ) (ls : List (List ℕ)) → IsBefore cert (l ∷ ls) s' → line_in s' ≡ Some l → IsBefore cert ls s'')
MovesOn (Err e) m s' s'' = Unit {0}

-- a line was read
pub reads_next : (cert : List ℕ) (before : List (List ℕ)) (c : Cover) (old new : Numbering) (s s' s'' : Spot) (m : Mark) (result : Result Kind Unjoined) →
    IsTextOf c cert → (r : IsReadingPart cert before c old s) → (old.mark ≡ Some m) ⊎ ((old.mark ≡ None) × IsMark s m) → s' ≡ record s { size = s'.size } → IsReady s' →
    ((l : CertLine) → line_in s' ≡ Some (line_text l) → TakesNext (line_kind l) (line_text l) (marked old m) result new) → MovesOn result m s' s'' → ReadsNext cert before c old result new s''
reads_next cert before c old new s s' s'' m result t r k same ready take moves =
    let told = subst (IsBefore cert (texts_of r.ls)) (sym same) (before_same cert (texts_of r.ls) s s'.size r.ahead) in
    let f = ready_first cert (texts_of r.ls) s' (some_next old.is_in_state before c old.state.items old.own.items r.known r.ls r.at) told ready in
    let x = next_line r.ls (text_in s') f.0 in
    let has : line_in s' ≡ Some (line_text x.l) = f.1 ∙ ap Some x.text in
    let at = subst (IsAt old.is_in_state before c old.state.items old.own.items r.known) x.here r.at in
    let behind = marked_behind cert c old.mark s m r.marked k in
    let b : IsBefore cert (texts_of (x.l ∷ x.rest)) s' = subst (λ (ls : List CertLine). IsBefore cert (texts_of ls) s') x.here told in
    go result x.l x.rest at behind b has (take x.l has) moves
  where
    line : (found : Kind) (l : CertLine) (rest : List CertLine) → IsAt old.is_in_state before c old.state.items old.own.items r.known (l ∷ rest) →
        IsBefore cert (behind_header c) (rewound m) → IsBefore cert (texts_of (l ∷ rest)) s' → line_in s' ≡ Some (line_text l) → found ≢ TreeKind →
        (line_kind l ≢ TreeKind) × TakesLine (line_kind l) (line_text l) (marked old m) new × (new.known.count ≤ 1048576) → MovesOn (Ok found) m s' s'' → StaysInPart cert before c old new s''
    line found l rest at behind b has ne k moves =
        read_line cert before c old new s' s'' m l rest r.known t.boxes r.is_known r.few at behind k.0 k.1 k.2 (moves.1 ne cert (line_text l) (texts_of rest) b has)

    go : (result : Result Kind Unjoined) (l : CertLine) (rest : List CertLine) → IsAt old.is_in_state before c old.state.items old.own.items r.known (l ∷ rest) →
        IsBefore cert (behind_header c) (rewound m) → IsBefore cert (texts_of (l ∷ rest)) s' → line_in s' ≡ Some (line_text l) →
        TakesNext (line_kind l) (line_text l) (marked old m) result new → MovesOn result m s' s'' → ReadsNext cert before c old result new s''
    go (Ok TreeKind) l rest at behind b has k moves = inr (read_tree cert before c old new s'' m l rest r.known r.is_known r.few at behind k.0 k.1 (moves.0 refl))
    go (Ok LemmaKind) l rest at behind b has k moves = inl (line LemmaKind l rest at behind b has lemma_not_tree k moves)
    go (Ok No) l rest at behind b has k moves = inl (line No l rest at behind b has no_not_tree k moves)
    go (Ok Other) l rest at behind b has k moves = inl (line Other l rest at behind b has other_not_tree k moves)
    go (Err Memory) l rest at behind b has k moves = tt
    go (Err Unlike) l rest at behind b has k moves = absurd k
    go (Err Crowded) l rest at behind b has k moves =
        let x = takes before c (marked old m) new l rest r.known old.is_in_state t.boxes r.is_known r.few k.1 k.0 refl at in
        many_known new.is_in_state before c new.state.items new.own.items x.known rest x.at (omega (arith, k.2, x.is_known.count))

-- ---- numbers

all_more : (ts mid after : List (List ℕ)) (numbers : List (List ℕ)) (covers : List Cover) (ns : List ℕ) (c : Cover) →
    AllHaveNumbers ts numbers covers mid → HaveNumbers mid ns c.lemmas after → AllHaveNumbers ts (numbers ++ (ns ∷ [])) (covers ++ (c ∷ [])) after
all_more ts mid after [] [] ns c h k = (after, subst (λ (a : List (List ℕ)). HaveNumbers a ns c.lemmas after) h k, refl)
all_more ts mid after [] (d ∷ covers) ns c h k = absurd h
all_more ts mid after (m ∷ numbers) [] ns c h k = absurd h
all_more ts mid after (m ∷ numbers) (d ∷ covers) ns c h k = (h.0, h.1, all_more h.0 mid after numbers covers ns c h.2 k)

take_more : (covers : List Cover) (part : ℕ) (c : Cover) → slice_get covers part ≡ Some c → take (suc part) covers ≡ take part covers ++ (c ∷ [])
take_more [] part c e = absurd (none_some c e)
take_more (d ∷ covers) zero c e = ap (λ (x : Cover). x ∷ []) (some_same d c e)
take_more (d ∷ covers) (suc part) c e = ap (λ (xs : List Cover). d ∷ xs) (take_more covers part c e)

-- ---- places

record AtSpot (part : ℕ) (ls : List (List ℕ)) (covers : List Cover) (certs : List (List ℕ)) (spots : List Spot) (d : Spot) : Type 0 where
  cert : List ℕ
  certs_at : slice_get certs part ≡ Some cert
  cover : Cover
  covers_at : slice_get covers part ≡ Some cover
  spots_at : slice_get spots part ≡ Some (get_or spots part d)
  text : IsTextOf cover cert
  before : IsBefore cert ls (get_or spots part d)
  put : (s : Spot) (next : List (List ℕ)) → IsBefore cert next s → AreBefore certs (around part next covers) (slice_set spots part s)
  set_at : (s : Spot) → slice_get (slice_set spots part s) part ≡ Some s

at_spot : (part : ℕ) (ls : List (List ℕ)) (covers : List Cover) (certs : List (List ℕ)) (spots : List Spot) (d : Spot) →
    AreTextsOf covers certs → AreBefore certs (around part ls covers) spots → part < length spots → AtSpot part ls covers certs spots d
at_spot part ls [] [] [] d t b h = absurd (omega (arith, h))
at_spot part ls [] [] (s ∷ spots) d t b h = absurd b
at_spot part ls [] (cert ∷ certs) spots d t b h = absurd t
at_spot part ls (c ∷ covers) [] spots d t b h = absurd t
at_spot zero ls (c ∷ covers) (cert ∷ certs) [] d t b h = absurd b
at_spot (suc part) ls (c ∷ covers) (cert ∷ certs) [] d t b h = absurd b
at_spot zero ls (c ∷ covers) (cert ∷ certs) (s ∷ spots) d t b h =
    record { cert = cert; certs_at = refl; cover = c; covers_at = refl; spots_at = refl; text = t.0; before = b.0; put = λ s' next k. (k, b.1); set_at = λ s'. refl }
at_spot (suc part) ls (c ∷ covers) (cert ∷ certs) (s ∷ spots) d t b h =
    let r = at_spot part ls covers certs spots d t.1 b.1 (omega (arith, h)) in
    record {
      cert = r.cert;
      certs_at = r.certs_at;
      cover = r.cover;
      covers_at = r.covers_at;
      spots_at = r.spots_at;
      text = r.text;
      before = r.before;
      put = λ s' next k. (b.0, r.put s' next k);
      set_at = r.set_at;
    }

cover_there : (part : ℕ) (covers : List Cover) (certs : List (List ℕ)) (spots : List Spot) → AreTextsOf covers certs → AreBefore certs (map behind_header covers) spots →
    part < length spots → (c : Cover) × (slice_get covers part ≡ Some c)
cover_there part [] [] [] t b h = absurd (omega (arith, h))
cover_there part [] [] (s ∷ spots) t b h = absurd b
cover_there part [] (cert ∷ certs) spots t b h = absurd t
cover_there part (c ∷ covers) [] spots t b h = absurd t
cover_there part (c ∷ covers) (cert ∷ certs) [] t b h = absurd b
cover_there zero (c ∷ covers) (cert ∷ certs) (s ∷ spots) t b h = (c, refl)
cover_there (suc part) (c ∷ covers) (cert ∷ certs) (s ∷ spots) t b h = cover_there part covers certs spots t.1 b.1 (omega (arith, h))

few_covers : (covers : List Cover) (certs : List (List ℕ)) (spots : List Spot) → AreTextsOf covers certs → AreBefore certs (map behind_header covers) spots →
    length covers ≤ length spots
few_covers [] certs spots t b = omega arith
few_covers (c ∷ covers) [] spots t b = absurd t
few_covers (c ∷ covers) (cert ∷ certs) [] t b = absurd b
few_covers (c ∷ covers) (cert ∷ certs) (s ∷ spots) t b = let h = few_covers covers certs spots t.1 b.1 in omega (arith, h)

around_same : (part : ℕ) (covers : List Cover) (c : Cover) → slice_get covers part ≡ Some c → around part (behind_header c) covers ≡ map behind_header covers
around_same part [] c e = refl
around_same zero (d ∷ covers) c e = ap (λ (x : Cover). behind_header x ∷ map behind_header covers) (sym (some_same d c e))
around_same (suc part) (d ∷ covers) c e = ap (λ (lss : List (List (List ℕ))). behind_header d ∷ lss) (around_same part covers c e)

-- ---- the certificate whose turn it is

pub record IsTurn (certs : List (List ℕ)) (covers : List Cover) (before : List (List ℕ)) (n : Numbering) (spots : List Spot) (d : Spot) : Type 0 where
  pub cert : List ℕ
  pub certs_at : slice_get certs n.part ≡ Some cert
  pub cover : Cover
  pub covers_at : slice_get covers n.part ≡ Some cover
  pub text : IsTextOf cover cert
  pub reading : IsReadingPart cert before cover n (get_or spots n.part d)
  pub put : (s : Spot) (next : List (List ℕ)) → IsBefore cert next s → AreBefore certs (around n.part next covers) (slice_set spots n.part s)
  pub set_at : (s : Spot) → slice_get (slice_set spots n.part s) n.part ≡ Some s

begins : (cert : List ℕ) (covers : List Cover) (certs : List (List ℕ)) (before : List (List ℕ)) (c : Cover) (n : Numbering) (spots : List Spot) (s : Spot) →
    IsResting certs covers before n spots → IsBefore cert (behind_header c) s → IsReadingPart cert before c n s
begins cert covers certs before c n spots s r b =
    let at : IsBetween before c n.own.items before (lemmas_lines 0 c.lemmas ++ tail_lines c) = record {
      done = [];
      due = c.lemmas;
      rules = [];
      lemmas = refl;
      ahead = refl;
      others = tt;
      numbers = subst (λ (o : List ℕ). HaveNumbers before o [] before) (sym r.empty) refl;
    } in
    record {
      known = before;
      is_known = r.is_known;
      few = r.few;
      ls = lemmas_lines 0 c.lemmas ++ tail_lines c;
      ahead = b;
      at = subst (λ (x : Bool). IsAt x before c n.state.items n.own.items before (lemmas_lines 0 c.lemmas ++ tail_lines c)) (sym r.outside) at;
      marked = subst (λ (o : Option Mark). IsMarked cert c o s) (sym r.unmarked) b;
    }

pub turn_of : (certs : List (List ℕ)) (covers : List Cover) (before : List (List ℕ)) (n : Numbering) (spots : List Spot) (d : Spot) → AreTextsOf covers certs →
    n.part < length spots → IsResting certs covers before n spots ⊎ IsWithin certs covers before n spots → IsTurn certs covers before n spots d
turn_of certs covers before n spots d t h (inl r) =
    let c = cover_there n.part covers certs spots t r.ahead h in
    let a = at_spot n.part (behind_header c.0) covers certs spots d t
    (subst (λ (lss : List (List (List ℕ))). AreBefore certs lss spots) (sym (around_same n.part covers c.0 c.1)) r.ahead) h in
    let same : c.0 ≡ a.cover = some_same c.0 a.cover (sym c.1 ∙ a.covers_at) in
    record {
      cert = a.cert;
      certs_at = a.certs_at;
      cover = a.cover;
      covers_at = a.covers_at;
      text = a.text;
      put = a.put;
      set_at = a.set_at;
      reading = begins a.cert covers certs before a.cover n spots (get_or spots n.part d) r
          (subst (λ (x : Cover). IsBefore a.cert (behind_header x) (get_or spots n.part d)) same a.before);
    }
turn_of certs covers before n spots d t h (inr w) =
    let a = at_spot n.part (texts_of w.reading.ls) covers certs spots d t w.ahead h in
    let cert : w.cert ≡ a.cert = some_same w.cert a.cert (sym w.certs_at ∙ a.certs_at) in
    let cov : w.cover ≡ a.cover = some_same w.cover a.cover (sym w.covers_at ∙ a.covers_at) in
    let spot : w.spot ≡ get_or spots n.part d = some_same w.spot (get_or spots n.part d) (sym w.spots_at ∙ a.spots_at) in
    record {
      cert = a.cert;
      certs_at = a.certs_at;
      cover = a.cover;
      covers_at = a.covers_at;
      text = a.text;
      put = a.put;
      set_at = a.set_at;
      reading = subst (λ (x : List ℕ). IsReadingPart x before a.cover n (get_or spots n.part d)) cert
          (subst (λ (x : Cover). IsReadingPart w.cert before x n (get_or spots n.part d)) cov
          (subst (λ (x : Spot). IsReadingPart w.cert before w.cover n x) spot w.reading));
    }

-- ---- a step

stays_on : (certs : List (List ℕ)) (covers : List Cover) (before : List (List ℕ)) (old new : Numbering) (spots : List Spot) (d s : Spot) →
    AllHaveNumbers [] (lists_of old) (take old.part covers) before → (a : IsTurn certs covers before old spots d) → StaysInPart a.cert before a.cover old new s →
    IsNumbering certs covers new (slice_set spots old.part s)
stays_on certs covers before old new spots d s all a h =
    let P = λ (p : ℕ). slice_get covers p ≡ Some a.cover in
    let Q = λ (p : ℕ). slice_get certs p ≡ Some a.cert in
    let S = λ (p : ℕ). slice_get (slice_set spots old.part s) p ≡ Some s in
    record {
      before = before;
      all = subst (λ (p : ℕ). AllHaveNumbers [] (lists_of new) (take p covers) before) (sym h.part)
          (subst (λ (v : List (List ℕ)). AllHaveNumbers [] v (take old.part covers) before) (ap (λ v. map (λ (x : Vec ℕ Global). x.items) v.items) (sym h.lists)) all);
      here = inr (record {
        cover = a.cover;
        covers_at = subst P (sym h.part) a.covers_at;
        cert = a.cert;
        certs_at = subst Q (sym h.part) a.certs_at;
        spot = s;
        spots_at = subst S (sym h.part) (a.set_at s);
        reading = h.reading;
        ahead = subst (λ (p : ℕ). AreBefore certs (around p (texts_of h.reading.ls) covers) (slice_set spots old.part s)) (sym h.part)
            (a.put s (texts_of h.reading.ls) h.reading.ahead);
      });
    }

part_read : (certs : List (List ℕ)) (covers : List Cover) (before : List (List ℕ)) (old new : Numbering) (spots : List Spot) (d s : Spot) →
    AllHaveNumbers [] (lists_of old) (take old.part covers) before → (a : IsTurn certs covers before old spots d) → IsPartRead a.cert before a.cover old new s →
    IsNumbering certs covers new (slice_set spots old.part s)
part_read certs covers before old new spots d s all a h =
    let lists : lists_of old ++ (h.own.items ∷ []) ≡ lists_of new =
    sym (map-append (λ (x : Vec ℕ Global). x.items) old.numbers.items (h.own ∷ [])) ∙ ap (map (λ (x : Vec ℕ Global). x.items)) (sym h.lists) in
    let taken : take old.part covers ++ (a.cover ∷ []) ≡ take new.part covers = sym (take_more covers old.part a.cover a.covers_at) ∙ ap (λ (p : ℕ). take p covers) (sym h.part) in
    record {
      before = h.known;
      all = subst (λ (xs : List Cover). AllHaveNumbers [] (lists_of new) xs h.known) taken
          (subst (λ (v : List (List ℕ)). AllHaveNumbers [] v (take old.part covers ++ (a.cover ∷ [])) h.known) lists
          (all_more [] before h.known (lists_of old) (take old.part covers) h.own.items a.cover all h.numbers));
      here = inl (record {
        ahead = subst (λ (lss : List (List (List ℕ))). AreBefore certs lss (slice_set spots old.part s)) (around_same old.part covers a.cover a.covers_at)
            (a.put s (behind_header a.cover) h.ahead);
        is_known = h.is_known;
        few = h.few;
        count = h.count;
        outside = h.outside;
        unmarked = h.unmarked;
        empty = h.empty;
      });
    }

-- a lemma of the covers up to one, of which only some lemmas are counted, is one of these covers
sub_at : (covers : List Cover) (part : ℕ) (c : Cover) (done due : List Lemma) → slice_get covers part ≡ Some c → c.lemmas ≡ done ++ due → (i k : ℕ) (x : Lemma) →
    IsLemmaAt (take part covers ++ (record c { lemmas = done } ∷ [])) i k x → IsLemmaAt covers i k x
sub_at [] part c done due e f i k x at = absurd (none_some c e)
sub_at (d ∷ covers) zero c done due e f zero k x at =
    let own : record c { lemmas = done } ≡ at.cover = some_same (record c { lemmas = done }) at.cover at.covers_at in
    let here : slice_get done k ≡ Some x = ap (λ (z : Cover). slice_get z.lemmas k) own ∙ at.lemma_at in
    record { cover = c; covers_at = e; lemma_at = ap (λ (xs : List Lemma). slice_get xs k) f ∙ get_front done due k x here }
sub_at (d ∷ covers) zero c done due e f (suc i) k x at = absurd (none_some at.cover at.covers_at)
sub_at (d ∷ covers) (suc part) c done due e f zero k x at = record { cover = at.cover; covers_at = at.covers_at; lemma_at = at.lemma_at }
sub_at (d ∷ covers) (suc part) c done due e f (suc i) k x at =
    let r = sub_at covers part c done due e f i k x (record { cover = at.cover; covers_at = at.covers_at; lemma_at = at.lemma_at }) in
    record { cover = r.cover; covers_at = r.covers_at; lemma_at = r.lemma_at }

pub numbers_on : (certs : List (List ℕ)) (covers : List Cover) (before : List (List ℕ)) (old : Numbering) (spots : List Spot) (d : Spot) (r : Result Step Unjoined) (new : Numbering) (s : Spot) →
    AllHaveNumbers [] (lists_of old) (take old.part covers) before → (a : IsTurn certs covers before old spots d) → ReadsPart a.cert before a.cover old r new s →
    ReadsLemmas certs covers r new (slice_set spots old.part s)
numbers_on certs covers before old spots d (Ok Over) new s all a h = absurd h
numbers_on certs covers before old spots d (Ok (Read part)) new s all a (inl h) = stays_on certs covers before old new spots d s all a h
numbers_on certs covers before old spots d (Ok (Read part)) new s all a (inr h) = part_read certs covers before old new spots d s all a h
numbers_on certs covers before old spots d (Ok On) new s all a (inl h) = stays_on certs covers before old new spots d s all a h
numbers_on certs covers before old spots d (Ok On) new s all a (inr h) = part_read certs covers before old new spots d s all a h
numbers_on certs covers before old spots d (Err Memory) new s all a h = tt
numbers_on certs covers before old spots d (Err Unlike) new s all a h = absurd h
numbers_on certs covers before old spots d (Err Crowded) new s all a h =
    are_crowded (lists_of old ++ (h.own ∷ [])) (take old.part covers ++ (record a.cover { lemmas = h.done } ∷ [])) covers h.known
    (sub_at covers old.part a.cover h.done h.due a.covers_at h.lemmas)
    (all_more [] before h.known (lists_of old) (take old.part covers) h.own (record a.cover { lemmas = h.done }) all h.numbers) h.many

-- ---- the end

lemma_spelled : (i : ℕ) (xs : List Lemma) (k : ℕ) (x : Lemma) → AllByRecursion IsSpelled (lemmas_lines i xs) → slice_get xs k ≡ Some x → AllByRecursion IsSpelled (state_lines x)
lemma_spelled i [] k x h e = absurd (none_some x e)
lemma_spelled i (y ∷ xs) zero x h e =
    let r = all_split IsSpelled (lemma_lines i y) (lemmas_lines (suc i) xs) h in
    let q = all_split IsSpelled (state_lines y) (rule_lines (tree_lines y.tree)) r.0.1 in
    subst (λ (z : Lemma). AllByRecursion IsSpelled (state_lines z)) (some_same y x e) q.0
lemma_spelled i (y ∷ xs) (suc k) x h e =
    let r = all_split IsSpelled (lemma_lines i y) (lemmas_lines (suc i) xs) h in lemma_spelled (suc i) xs k x r.1 e

states_spelled : (covers : List Cover) (certs : List (List ℕ)) → AreTextsOf covers certs → AreStatesSpelled covers
states_spelled covers certs t i k c x e g =
    let a = text_at covers certs i c t e in
    let h = all_split IsSpelled (lemmas_lines 0 c.lemmas) (tail_lines c) a.1.spelled.1.1.1.1.1 in
    lemma_spelled 0 c.lemmas k x h.0 g

pub all_numbered : (certs : List (List ℕ)) (covers : List Cover) (n : Numbering) (spots : List Spot) → AreTextsOf covers certs → IsNumbering certs covers n spots →
    length spots ≤ n.part → AreNumbered certs covers n spots
all_numbered certs covers n spots t h over = go h.here
  where
    go : IsResting certs covers h.before n spots ⊎ IsWithin certs covers h.before n spots → AreNumbered certs covers n spots
    go (inr w) = let l = slice_get_within spots n.part w.spot w.spots_at in absurd (omega (arith, l, over))
    go (inl r) =
        let few = few_covers covers certs spots t r.ahead in
        let whole : take n.part covers ≡ covers = take_whole covers n.part (omega (arith, few, over)) in
        let all = subst (λ (xs : List Cover). AllHaveNumbers [] (lists_of n) xs h.before) whole h.all in
        record {
          ahead = r.ahead;
          lemmas = are_all_lemmas (lists_of n) covers h.before (states_spelled covers certs t) all;
          many = all_many (lists_of n) covers [] h.before all;
          long = λ i c e. all_long (lists_of n) covers [] h.before i c all e;
          count = r.count ∙ r.is_known.count ∙ sym (all_counted (lists_of n) covers h.before all);
          texts = h.before;
          numbers = all;
        }
