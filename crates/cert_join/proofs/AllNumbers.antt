-- The lemmas that are written by their numbers are all, each state once.
use Rattle.std.proofs.Common.{◌≡◌, ◌<◌, ◌+◌, ℕ, zero, suc, List, [], ◌∷◌, ◌++◌, append_assoc, Bool, true, false, cond, nat_eq, Some, None, length, length-append, map, get_or, drop, refl, ap, ap₂, sym, ◌∙◌, subst, ◌⊎◌, inl, inr, arith}
use Rattle.std.specs.Prelude.{slice_get, unwrap_or}
use Rattle.std.specs.List.{AllByRecursion}
use Rattle.std.proofs.lemmas.List.{append-nil, map-append, length-map}
use Rattle.std.proofs.lemmas.Option.{slice_get_within}
use Rattle.std.proofs.lemmas.Bool.Decides.{eqb_tells}
use Rattle.std.specs.Str.{bytes_eq}
use Rattle.cert_read.specs.CertLine.{CertLine, Parsed, parsed, line, tree_word}
use Rattle.cert_read.specs.Lines.{lines_of}
use Rattle.cert_read.specs.LineText.{line_text, IsSpelled}
use Rattle.cert_read.proofs.Pieces.{AllLack, lines_of_text}
use Rattle.cert_read.proofs.Spelled.{spelled_line, line_lacks_break}
use Rattle.cert_model.specs.Accepted.{most_lemmas}
use Rattle.cert_joined.specs.Covers.{Cover, Lemma, AreAllLemmas, IsCrowded, IsLemmaAt, state_lines, numbered, number_at}
use Rattle.cert_join.specs.Numbered.{state_text, place_of, IsNumbered, HaveNumbers, AllHaveNumbers}
use Rattle.cert_join.specs.Written.{texts_of, text_of, lemma_by, new_ones, written_from}
use Rattle.cert_join.proofs.Numbers.{place_new, place_other, at_place, not_there, not_same}

none_some : {X : Type 0} (x : X) → None ≡ Some x → ⊥
none_some x e = cc

some_same : {X : Type 0} (x y : X) → Some x ≡ Some y → x ≡ y
some_same x y e = ap (λ o. unwrap_or o x) e

-- ---- lists

pub get_front : {X : Type 0} (xs ys : List X) (n : ℕ) (x : X) → slice_get xs n ≡ Some x → slice_get (xs ++ ys) n ≡ Some x
get_front [] ys n x e = absurd (none_some x e)
get_front (y ∷ xs) ys zero x e = e
get_front (y ∷ xs) ys (suc n) x e = get_front xs ys n x e

get_either : {X : Type 0} (xs ys : List X) (n : ℕ) (x : X) → slice_get (xs ++ ys) n ≡ Some x →
    (slice_get xs n ≡ Some x) ⊎ ((m : ℕ) × (n ≡ length xs + m) × (slice_get ys m ≡ Some x))
get_either [] ys n x e = inr (n, omega arith, e)
get_either (y ∷ xs) ys zero x e = inl e
get_either (y ∷ xs) ys (suc n) x e = elim (get_either xs ys n x e) [ inl h ↦ inl h | inr h ↦ inr (h.0, omega (arith, h.1), h.2) ]

get_map : {X Y : Type 0} (f : X → Y) (xs : List X) (n : ℕ) (t : Y) → slice_get (map f xs) n ≡ Some t → (x : X) × (slice_get xs n ≡ Some x) × (f x ≡ t)
get_map f [] n t e = absurd (none_some t e)
get_map f (x ∷ xs) zero t e = (x, refl, some_same (f x) t e)
get_map f (x ∷ xs) (suc n) t e = get_map f xs n t e

map_get : {X : Type 0} (f : X → List ℕ) (xs : List X) (n : ℕ) (x : X) → slice_get xs n ≡ Some x → slice_get (map f xs) n ≡ Some (f x)
map_get f [] n x e = absurd (none_some x e)
map_get f (y ∷ xs) zero x e = ap (λ z. Some (f z)) (some_same y x e)
map_get f (y ∷ xs) (suc n) x e = map_get f xs n x e

test_same : (m n : ℕ) → m ≡ n → nat_eq m n ≡ true
test_same m n e = elim (eqb_tells m n) [ inl h ↦ h.0 | inr h ↦ absurd (h.1 e) ]

test_other : (m n : ℕ) → m < n → nat_eq m n ≡ false
test_other m n l = elim (eqb_tells m n) [ inl h ↦ absurd (omega (arith, h.1, l)) | inr h ↦ h.0 ]

-- ---- one cover

-- the number of a state is one of those that are known, or the next one
is_old : (ts mid : List (List ℕ)) (t : List ℕ) (n : ℕ) → place_of t ts ≡ Some n → nat_eq n (length ts) ≡ false
is_old ts mid t n e = test_other n (length ts) (slice_get_within ts n t (at_place t ts n e))

length-one : (ts : List (List ℕ)) (t : List ℕ) → length (ts ++ (t ∷ [])) ≡ suc (length ts)
length-one ts t = let e = length-append ts (t ∷ []) in omega (arith, e)

pub one_new : (N ns : List ℕ) (xs : List Lemma) (ts after : List (List ℕ)) → HaveNumbers ts ns xs after → after ≡ ts ++ map state_text (new_ones N (length ts) ns xs)
one_new N [] [] ts after h = h ∙ sym (append-nil ts)
one_new N [] (x ∷ xs) ts after h = absurd h
one_new N (n ∷ ns) [] ts after h = absurd h
one_new N (n ∷ ns) (x ∷ xs) ts after h = elim h.1 [
  | inl s ↦
      let r = one_new N ns xs ts after (subst (λ (m : List (List ℕ)). HaveNumbers m ns xs after) s.1 h.2) in
      r ∙ ap (λ (b : Bool). ts ++ map state_text (cond b (lemma_by N x ∷ new_ones N (suc (length ts)) ns xs) (new_ones N (length ts) ns xs))) (sym (is_old ts h.0 (state_text x) n s.0))
  | inr s ↦
      let mid = ts ++ (state_text x ∷ []) in
      let r = one_new N ns xs mid after (subst (λ (m : List (List ℕ)). HaveNumbers m ns xs after) s.2 h.2) in
      r ∙ append_assoc ts (state_text x ∷ []) (map state_text (new_ones N (length mid) ns xs))
      ∙ ap (λ (k : ℕ). ts ++ (state_text x ∷ map state_text (new_ones N k ns xs))) (length-one ts (state_text x))
      ∙ ap (λ (b : Bool). ts ++ map state_text (cond b (lemma_by N x ∷ new_ones N (suc (length ts)) ns xs) (new_ones N (length ts) ns xs))) (sym (test_same n (length ts) s.1))
]

place_in : (ts mid : List (List ℕ)) (t : List ℕ) (n : ℕ) → IsNumbered ts t n mid → slice_get mid n ≡ Some t
place_in ts mid t n (inl s) = ap (λ (m : List (List ℕ)). slice_get m n) s.1 ∙ at_place t ts n s.0
place_in ts mid t n (inr s) = ap (λ (m : List (List ℕ)). slice_get m n) s.2 ∙ ap (slice_get (ts ++ (t ∷ []))) s.1 ∙ at_place t (ts ++ (t ∷ [])) (length ts) (place_new ts t s.0)

one_kept : (ns : List ℕ) (xs : List Lemma) (ts after : List (List ℕ)) (k : ℕ) (x : Lemma) → HaveNumbers ts ns xs after → slice_get xs k ≡ Some x →
    slice_get after (numbered ns k) ≡ Some (state_text x)
one_kept [] [] ts after k x h e = absurd (none_some x e)
one_kept [] (y ∷ xs) ts after k x h e = absurd h
one_kept (n ∷ ns) [] ts after k x h e = absurd h
one_kept (n ∷ ns) (y ∷ xs) ts after zero x h e =
    ap (λ (a : List (List ℕ)). slice_get a n) (one_new [] ns xs h.0 after h.2)
    ∙ get_front h.0 (map state_text (new_ones [] (length h.0) ns xs)) n (state_text y) (place_in ts h.0 (state_text y) n h.1)
    ∙ ap (λ z. Some (state_text z)) (some_same y x e)
one_kept (n ∷ ns) (y ∷ xs) ts after (suc k) x h e = one_kept ns xs h.0 after k x h.2 e

record OneTaken (N ns : List ℕ) (xs : List Lemma) (n : ℕ) (y : Lemma) : Type 0 where
  k : ℕ
  x : Lemma
  here : slice_get xs k ≡ Some x
  number : numbered ns k ≡ n
  same : y ≡ lemma_by N x

take_next : (N ns : List ℕ) (xs : List Lemma) (n : ℕ) (x : Lemma) (count m : ℕ) (y : Lemma) (rest : List Lemma) →
    slice_get (lemma_by N x ∷ rest) m ≡ Some y → n ≡ count → ((k : ℕ) → slice_get rest k ≡ Some y → OneTaken N ns xs (suc count + k) y) →
    OneTaken N (n ∷ ns) (x ∷ xs) (count + m) y
take_next N ns xs n x count zero y rest e c f = record { k = 0; x = x; here = refl; number = omega (arith, c); same = sym (some_same (lemma_by N x) y e) }
take_next N ns xs n x count (suc m) y rest e c f = let r = f m e in
    record { k = suc r.k; x = r.x; here = r.here; number = let q : numbered ns r.k ≡ suc count + m = r.number in q ∙ omega arith; same = r.same }

one_taken : (N ns : List ℕ) (xs : List Lemma) (ts after : List (List ℕ)) (m : ℕ) (y : Lemma) → HaveNumbers ts ns xs after →
    slice_get (new_ones N (length ts) ns xs) m ≡ Some y → OneTaken N ns xs (length ts + m) y
one_taken N [] [] ts after m y h e = absurd (none_some y e)
one_taken N [] (x ∷ xs) ts after m y h e = absurd h
one_taken N (n ∷ ns) [] ts after m y h e = absurd h
one_taken N (n ∷ ns) (x ∷ xs) ts after m y h e = elim h.1 [
  | inl s ↦
      let cut = λ (b : Bool). slice_get (cond b (lemma_by N x ∷ new_ones N (suc (length ts)) ns xs) (new_ones N (length ts) ns xs)) m in
      let r = one_taken N ns xs ts after m y (subst (λ (a : List (List ℕ)). HaveNumbers a ns xs after) s.1 h.2) (sym (ap cut (is_old ts h.0 (state_text x) n s.0)) ∙ e) in
      record { k = suc r.k; x = r.x; here = r.here; number = r.number; same = r.same }
  | inr s ↦
      let cut = λ (b : Bool). slice_get (cond b (lemma_by N x ∷ new_ones N (suc (length ts)) ns xs) (new_ones N (length ts) ns xs)) m in
      let mid = ts ++ (state_text x ∷ []) in
      let len = length-one ts (state_text x) in
      take_next N ns xs n x (length ts) m y (new_ones N (suc (length ts)) ns xs) (sym (ap cut (test_same n (length ts) s.1)) ∙ e) s.1 (λ k g.
      subst (λ (c : ℕ). OneTaken N ns xs (c + k) y) len
      (one_taken N ns xs mid after k y (subst (λ (a : List (List ℕ)). HaveNumbers a ns xs after) s.2 h.2)
      (ap (λ (c : ℕ). slice_get (new_ones N c ns xs) k) len ∙ g)))
]

-- ---- all covers

pub all_new : (numbers : List (List ℕ)) (covers : List Cover) (ts after : List (List ℕ)) → AllHaveNumbers ts numbers covers after →
    after ≡ ts ++ map state_text (written_from (length ts) numbers covers)
all_new [] [] ts after h = h ∙ sym (append-nil ts)
all_new [] (c ∷ covers) ts after h = absurd h
all_new (ns ∷ numbers) [] ts after h = absurd h
all_new (ns ∷ numbers) (c ∷ covers) ts after h =
    let A = new_ones ns (length ts) ns c.lemmas in
    let mid = one_new ns ns c.lemmas ts h.0 h.1 in
    let one = ap (λ (a : List (List ℕ)). length a) mid ∙ length-append ts (map state_text A) ∙ ap (λ (k : ℕ). length ts + k) (length-map A state_text) in
    all_new numbers covers h.0 after h.2
    ∙ ap₂ (λ (a : List (List ℕ)) (k : ℕ). a ++ map state_text (written_from k numbers covers)) mid one
    ∙ append_assoc ts (map state_text A) (map state_text (written_from (length ts + length A) numbers covers))
    ∙ ap (λ (a : List (List ℕ)). ts ++ a) (sym (map-append state_text A (written_from (length ts + length A) numbers covers)))

all_kept : (numbers : List (List ℕ)) (covers : List Cover) (ts after : List (List ℕ)) (i k : ℕ) (c : Cover) (x : Lemma) → AllHaveNumbers ts numbers covers after →
    slice_get covers i ≡ Some c → slice_get c.lemmas k ≡ Some x → slice_get after (number_at numbers i k) ≡ Some (state_text x)
all_kept [] [] ts after i k c x h e g = absurd (none_some c e)
all_kept [] (d ∷ covers) ts after i k c x h e g = absurd h
all_kept (ns ∷ numbers) [] ts after i k c x h e g = absurd h
all_kept (ns ∷ numbers) (d ∷ covers) ts after zero k c x h e g =
    let r = all_new numbers covers h.0 after h.2 in
    ap (λ (a : List (List ℕ)). slice_get a (numbered ns k)) r
    ∙ get_front h.0 (map state_text (written_from (length h.0) numbers covers)) (numbered ns k) (state_text x)
    (one_kept ns d.lemmas ts h.0 k x h.1 (ap (λ (z : Cover). slice_get z.lemmas k) (some_same d c e) ∙ g))
all_kept (ns ∷ numbers) (d ∷ covers) ts after (suc i) k c x h e g = all_kept numbers covers h.0 after i k c x h.2 e g

record AllTaken (numbers : List (List ℕ)) (covers : List Cover) (n : ℕ) (y : Lemma) : Type 0 where
  i : ℕ
  k : ℕ
  c : Cover
  x : Lemma
  covers_at : slice_get covers i ≡ Some c
  here : slice_get c.lemmas k ≡ Some x
  number : number_at numbers i k ≡ n
  same : y ≡ lemma_by (get_or numbers i []) x

moved : (n a b c d m : ℕ) → n ≡ a + d → a ≡ b + c → m ≡ c + d → n ≡ b + m
moved n a b c d m e f g = omega (arith, e, f, g)

all_taken : (numbers : List (List ℕ)) (covers : List Cover) (ts after : List (List ℕ)) (m : ℕ) (y : Lemma) → AllHaveNumbers ts numbers covers after →
    slice_get (written_from (length ts) numbers covers) m ≡ Some y → AllTaken numbers covers (length ts + m) y
all_taken [] [] ts after m y h e = absurd (none_some y e)
all_taken [] (c ∷ covers) ts after m y h e = absurd h
all_taken (ns ∷ numbers) [] ts after m y h e = absurd h
all_taken (ns ∷ numbers) (c ∷ covers) ts after m y h e =
    let A = new_ones ns (length ts) ns c.lemmas in
    let mid = one_new ns ns c.lemmas ts h.0 h.1 in
    let one = ap (λ (a : List (List ℕ)). length a) mid ∙ length-append ts (map state_text A) ∙ ap (λ (k : ℕ). length ts + k) (length-map A state_text) in
    elim (get_either A (written_from (length ts + length A) numbers covers) m y e) [
      | inl g ↦ let r = one_taken ns ns c.lemmas ts h.0 m y h.1 g in
          record { i = 0; k = r.k; c = c; x = r.x; covers_at = refl; here = r.here; number = r.number; same = r.same }
      | inr g ↦
          let r = all_taken numbers covers h.0 after g.0 y h.2 (ap (λ (k : ℕ). slice_get (written_from k numbers covers) g.0) one ∙ g.2) in
          record { i = suc r.i; k = r.k; c = r.c; x = r.x; covers_at = r.covers_at; here = r.here; number = moved (number_at numbers r.i r.k) (length h.0) (length ts) (length A) g.0 m r.number one g.1; same = r.same }
    ]

-- ---- no text twice

abbrev IsOnce : List (List ℕ) → Type 0
IsOnce ts = (n : ℕ) (t : List ℕ) → slice_get ts n ≡ Some t → place_of t ts ≡ Some n

once_more : (ts mid : List (List ℕ)) (t : List ℕ) (n : ℕ) → IsOnce ts → IsNumbered ts t n mid → IsOnce mid
once_more ts mid t n o (inl s) = subst IsOnce (sym s.1) o
once_more ts mid t n o (inr s) = subst IsOnce (sym s.2) (λ m u e. elim (get_either ts (t ∷ []) m u e) [
  | inl g ↦ place_other ts t u (other m u g) ∙ o m u g
  | inr g ↦ last m g.0 u g.1 g.2
])
  where
    other : (m : ℕ) (u : List ℕ) → slice_get ts m ≡ Some u → bytes_eq u t ≡ false
    other m u g = not_same u t (λ e. not_there t ts s.0 m (g ∙ ap Some e))

    last : (m k : ℕ) (u : List ℕ) → m ≡ length ts + k → slice_get (t ∷ []) k ≡ Some u → place_of u (ts ++ (t ∷ [])) ≡ Some m
    last m zero u e g = ap (λ (v : List ℕ). place_of v (ts ++ (t ∷ []))) (sym (some_same t u g)) ∙ place_new ts t s.0 ∙ ap Some (omega (arith, e))
    last m (suc k) u e g = absurd (none_some u g)

one_once : (ns : List ℕ) (xs : List Lemma) (ts after : List (List ℕ)) → IsOnce ts → HaveNumbers ts ns xs after → IsOnce after
one_once [] [] ts after o h = subst IsOnce (sym h) o
one_once [] (x ∷ xs) ts after o h = absurd h
one_once (n ∷ ns) [] ts after o h = absurd h
one_once (n ∷ ns) (x ∷ xs) ts after o h = one_once ns xs h.0 after (once_more ts h.0 (state_text x) n o h.1) h.2

all_once : (numbers : List (List ℕ)) (covers : List Cover) (ts after : List (List ℕ)) → IsOnce ts → AllHaveNumbers ts numbers covers after → IsOnce after
all_once [] [] ts after o h = subst IsOnce (sym h) o
all_once [] (c ∷ covers) ts after o h = absurd h
all_once (ns ∷ numbers) [] ts after o h = absurd h
all_once (ns ∷ numbers) (c ∷ covers) ts after o h = all_once numbers covers h.0 after (one_once ns c.lemmas ts h.0 o h.1) h.2

-- ---- states by their texts

abbrev said : Parsed → CertLine
said (line l) = l
said _ = tree_word

lines_by_texts : (ls ms : List CertLine) → AllByRecursion IsSpelled ls → AllByRecursion IsSpelled ms → texts_of ls ≡ texts_of ms → ls ≡ ms
lines_by_texts [] [] h k e = refl
lines_by_texts [] (m ∷ ms) h k e = absurd (let q : [] ≡ line_text m ∷ texts_of ms = e in cc)
lines_by_texts (l ∷ ls) [] h k e = absurd (let q : line_text l ∷ texts_of ls ≡ [] = e in cc)
lines_by_texts (l ∷ ls) (m ∷ ms) h k e =
    ap₂ (λ (a : CertLine) (b : List CertLine). a ∷ b)
    (ap said (sym (spelled_line l h.0) ∙ ap parsed (ap (λ (xs : List (List ℕ)). get_or xs 0 []) e) ∙ spelled_line m k.0))
    (lines_by_texts ls ms h.1 k.1 (ap (drop 1) e))

all_lack : (ls : List CertLine) → AllByRecursion IsSpelled ls → AllLack 10 (texts_of ls)
all_lack [] h = tt
all_lack (l ∷ ls) h = (line_lacks_break l h.0.0, all_lack ls h.1)

pub lines_by_text : (ls ms : List CertLine) → AllByRecursion IsSpelled ls → AllByRecursion IsSpelled ms → text_of ls ≡ text_of ms → ls ≡ ms
lines_by_text ls ms h k e =
    lines_by_texts ls ms h k (sym (lines_of_text (texts_of ls) (all_lack ls h)) ∙ ap lines_of e ∙ lines_of_text (texts_of ms) (all_lack ms k))

-- the states of all lemmas are spelled
abbrev pub AreStatesSpelled : List Cover → Type 0
AreStatesSpelled covers = (i k : ℕ) (c : Cover) (x : Lemma) → slice_get covers i ≡ Some c → slice_get c.lemmas k ≡ Some x → AllByRecursion IsSpelled (state_lines x)

-- ---- all

pub are_all_lemmas : (numbers : List (List ℕ)) (covers : List Cover) (after : List (List ℕ)) → AreStatesSpelled covers → AllHaveNumbers [] numbers covers after →
    AreAllLemmas covers numbers (written_from 0 numbers covers)
are_all_lemmas numbers covers after spelled h =
    let all : after ≡ map state_text (written_from 0 numbers covers) = all_new numbers covers [] after h in
    let once : IsOnce after = all_once numbers covers [] after (λ n t e. absurd (none_some t e)) h in
    record {
      kept = λ i k x at.
          let e = sym (ap (λ (a : List (List ℕ)). slice_get a (number_at numbers i k)) all) ∙ all_kept numbers covers [] after i k at.cover x h at.covers_at at.lemma_at in
          let y = get_map state_text (written_from 0 numbers covers) (number_at numbers i k) (state_text x) e in
          let t = all_taken numbers covers [] after (number_at numbers i k) y.0 h y.1 in
          let same : state_lines y.0 ≡ state_lines t.x = ap state_lines t.same in
          (y.0, y.1, same ∙ lines_by_text (state_lines t.x) (state_lines x) (spelled t.i t.k t.c t.x t.covers_at t.here) (spelled i k at.cover x at.covers_at at.lemma_at) (sym (ap text_of same) ∙ y.2));
      taken = λ n y e.
          let t = all_taken numbers covers [] after n y h e in
          (t.i, t.k, t.x, record { cover = t.c; covers_at = t.covers_at; lemma_at = t.here }, t.number ∙ omega arith, ap state_lines t.same, ap (λ (z : Lemma). z.tree) t.same);
      once = λ m n x y e g s.
          let a : slice_get after m ≡ Some (state_text x) = ap (λ (b : List (List ℕ)). slice_get b m) all ∙ map_get state_text (written_from 0 numbers covers) m x e in
          let b : slice_get after n ≡ Some (state_text y) = ap (λ (b : List (List ℕ)). slice_get b n) all ∙ map_get state_text (written_from 0 numbers covers) n y g in
          some_same m n (sym (once m (state_text x) a) ∙ ap (λ (t : List ℕ). place_of t after) (ap text_of s) ∙ once n (state_text y) b);
    }

pub all_counted : (numbers : List (List ℕ)) (covers : List Cover) (after : List (List ℕ)) → AllHaveNumbers [] numbers covers after →
    length (written_from 0 numbers covers) ≡ length after
all_counted numbers covers after h = sym (length-map (written_from 0 numbers covers) state_text) ∙ sym (ap (λ (a : List (List ℕ)). length a) (all_new numbers covers [] after h))

one_long : (ns : List ℕ) (xs : List Lemma) (ts after : List (List ℕ)) → HaveNumbers ts ns xs after → length ns ≡ length xs
one_long [] [] ts after h = refl
one_long [] (x ∷ xs) ts after h = absurd h
one_long (n ∷ ns) [] ts after h = absurd h
one_long (n ∷ ns) (x ∷ xs) ts after h = let r = one_long ns xs h.0 after h.2 in omega (arith, r)

pub all_many : (numbers : List (List ℕ)) (covers : List Cover) (ts after : List (List ℕ)) → AllHaveNumbers ts numbers covers after → length numbers ≡ length covers
all_many [] [] ts after h = refl
all_many [] (c ∷ covers) ts after h = absurd h
all_many (ns ∷ numbers) [] ts after h = absurd h
all_many (ns ∷ numbers) (c ∷ covers) ts after h = let r = all_many numbers covers h.0 after h.2 in omega (arith, r)

pub all_long : (numbers : List (List ℕ)) (covers : List Cover) (ts after : List (List ℕ)) (i : ℕ) (c : Cover) → AllHaveNumbers ts numbers covers after →
    slice_get covers i ≡ Some c → length (get_or numbers i []) ≡ length c.lemmas
all_long [] [] ts after i c h e = absurd (none_some c e)
all_long [] (d ∷ covers) ts after i c h e = absurd h
all_long (ns ∷ numbers) [] ts after i c h e = absurd h
all_long (ns ∷ numbers) (d ∷ covers) ts after zero c h e = one_long ns d.lemmas ts h.0 h.1 ∙ ap (λ (x : Cover). length x.lemmas) (some_same d c e)
all_long (ns ∷ numbers) (d ∷ covers) ts after (suc i) c h e = all_long numbers covers h.0 after i c h.2 e

-- ---- too many

-- lemmas of some covers, which are lemmas of these as well, have too many states
pub are_crowded : (numbers : List (List ℕ)) (some covers : List Cover) (after : List (List ℕ)) → ((i k : ℕ) (x : Lemma) → IsLemmaAt some i k x → IsLemmaAt covers i k x) →
    AllHaveNumbers [] numbers some after → most_lemmas < length after → IsCrowded covers
are_crowded numbers some covers after sub h many =
    let xs = written_from 0 numbers some in
    let all : after ≡ map state_text xs = all_new numbers some [] after h in
    let once : IsOnce after = all_once numbers some [] after (λ n t e. absurd (none_some t e)) h in
    let place : (n : ℕ) (s : List CertLine) → slice_get (map state_lines xs) n ≡ Some s → place_of (text_of s) after ≡ Some n =
    λ n s e. let y = get_map state_lines xs n s e in
    once n (text_of s) (ap (λ (b : List (List ℕ)). slice_get b n) all ∙ map_get state_text xs n y.0 y.1 ∙ ap (λ (ls : List CertLine). Some (text_of ls)) y.2) in
    record {
      states = map state_lines xs;
      among = λ n s e.
          let y = get_map state_lines xs n s e in
          let t = all_taken numbers some [] after n y.0 h y.1 in
          (t.i, t.k, t.x, sub t.i t.k t.x (record { cover = t.c; covers_at = t.covers_at; lemma_at = t.here }), sym y.2 ∙ ap state_lines t.same);
      once = λ m n s e g. some_same m n (sym (place m s e) ∙ place n s g);
      many = omega (arith, many, length-map xs state_lines, all_counted numbers some after h);
    }
