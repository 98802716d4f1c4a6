-- A place before some lines: how long the next one is, the place behind it, more bytes, and back to a mark.
use Rattle.std.proofs.Common.{◌≡◌, ◌≢◌, ◌<◌, ◌≤◌, ◌==◌, nat_eq, cond, ◌⊎◌, ℕ, suc, ◌+◌, ◌-◌, List, [], ◌∷◌, ◌++◌, append_assoc, Bool, true, false, Option, Some, None, MatchOption, IsTrue, true≢false, length, take, drop, min, get_or, refl, ap, sym, ◌∙◌, subst, ⊎_elim, arith}
use Rattle.std.proofs.Math.ListN.{drop_of_length-le}
use Rattle.std.proofs.lemmas.Bool.{cases_lt}
use Rattle.std.proofs.lemmas.Bool.Decides.{nat_tests}
use Rattle.std.proofs.lemmas.List.{append-nil, take_all, take-append-le, take-append-drop, length-drop, length-append, drop-drop, drop-append-le, get_or-drop, get_or_append_left}
use Rattle.std.specs.Option.{option_map}
use Rattle.memchr.specs.Find.{NoneBefore, Nowhere, Passes, is_byte}
use Rattle.cert_model.specs.Accepted.{most_bytes}
use Rattle.cert_read.specs.Lines.{split_at, onto_first, lines_of, without_last_empty}
use Rattle.cert_read.proofs.Ahead.{ahead_line, ahead_last}
use Rattle.cert_read.proofs.Parts.{split_some}
use Rattle.cert_join.specs.declared.cursor.Mark.{Mark}
use Rattle.cert_join.specs.Spot.{Spot, AreShort, IsBefore, IsFirst, IsLineSize, HasNoLine, IsPieceAt, IsReady, IsMark, line_in, or_none, rewound, start, text_in}

-- ---- how long the next line is

-- a line feed found behind bytes that hold none
pub found_size : (u hay : List ℕ) (e : Bool) (from n : ℕ) → hay ≡ drop from u → from ≤ length u → ((k : ℕ) → k < from → get_or u k 0 ≢ 10)
    → NoneBefore (Passes (is_byte 10) hay) 0 (length hay) n → Passes (is_byte 10) hay n → IsLineSize u e (from + n)
found_size u hay e from n h w none before at =
    let size : length hay ≡ length u - from = ap length h ∙ length-drop from u in
    let there : get_or u (from + n) 0 ≡ 10 = sym (ap (λ (xs : List ℕ). get_or xs n 0) h ∙ get_or-drop from u n 0) ∙ is_ten (get_or hay n 0) at in
    record {
      within = omega (arith, size, before.high);
      before = λ k o p. ⊎_elim (λ (l : k < from). none k l p)
          (λ (l : from ≤ k). before.before (k - from) (omega arith) (omega (arith, o, l))
          (ten_is (get_or hay (k - from) 0) (ap (λ (xs : List ℕ). get_or xs (k - from) 0) h ∙ get_or-drop from u (k - from) 0 ∙ ap (λ (j : ℕ). get_or u j 0) (rejoin from k l) ∙ p)))
          (cases_lt k from);
      feed = λ o. there;
      last = λ o. absurd (omega (arith, size, before.high, o));
    } where
      is_ten : (b : ℕ) → (b == 10) ≡ true → b ≡ 10
      is_ten b t = grind (arith, nat_tests)

      ten_is : (b : ℕ) → b ≡ 10 → (b == 10) ≡ true
      ten_is b t = grind (arith, nat_tests)

      rejoin : (i k : ℕ) → i ≤ k → i + (k - i) ≡ k
      rejoin i k l = omega (arith, l)

-- none found there: none at all
pub found_none : (u hay : List ℕ) (from : ℕ) → hay ≡ drop from u → from ≤ length u → ((k : ℕ) → k < from → get_or u k 0 ≢ 10)
    → Nowhere (Passes (is_byte 10) hay) 0 (length hay) → (k : ℕ) → k < length u → get_or u k 0 ≢ 10
found_none u hay from h w none nowhere k o p =
    let size : length hay ≡ length u - from = ap length h ∙ length-drop from u in
    ⊎_elim (λ (l : k < from). none k l p)
    (λ (l : from ≤ k). nowhere (k - from) (omega arith) (omega (arith, o, l, size))
    (ten_is (get_or hay (k - from) 0) (ap (λ (xs : List ℕ). get_or xs (k - from) 0) h ∙ get_or-drop from u (k - from) 0 ∙ ap (λ (j : ℕ). get_or u j 0) (rejoin from k l) ∙ p)))
    (cases_lt k from) where
      ten_is : (b : ℕ) → b ≡ 10 → (b == 10) ≡ true
      ten_is b t = grind (arith, nat_tests)

      rejoin : (i k : ℕ) → i ≤ k → i + (k - i) ≡ k
      rejoin i k l = omega (arith, l)

-- the last line, where no more follows
pub last_size : (s : Spot) (o : Option ℕ) → ((k : ℕ) → k < length s.unread → get_or s.unread k 0 ≢ 10)
    → MatchOption o (IsTrue s.ended → length s.unread ≡ 0) (λ n. (n ≡ length s.unread) × IsTrue s.ended × (0 < n)) → MatchOption o (HasNoLine s.unread s.ended) (IsLineSize s.unread s.ended)
last_size s None none h = record { before = none; none = h }
last_size s (Some n) none h = record {
  within = omega (arith, h.0);
  before = λ k o. none k (omega (arith, o, h.0));
  feed = λ o. absurd (omega (arith, o, h.0));
  last = λ o. (h.1, h.2);
}

-- ---- the lines ahead

-- the first line of some bytes, and those behind it, whatever follows
pub lines_by_size : (u tail : List ℕ) (e : Bool) (n : ℕ) → IsLineSize u e n → (IsTrue e → tail ≡ []) → lines_of (u ++ tail) ≡ take n u ∷ lines_of (drop (n + 1) u ++ tail)
lines_by_size u tail e n h t = ⊎_elim feeds ends (cases_lt n (length u)) where
  feeds : n < length u → lines_of (u ++ tail) ≡ take n u ∷ lines_of (drop (n + 1) u ++ tail)
  feeds l =
      ahead_line (u ++ tail) true n (omega (arith, l, length-append u tail)) (get_or_append_left u tail 0 n l ∙ h.feed l)
      (λ k o p. h.before k o (sym (get_or_append_left u tail 0 k (omega (arith, o, l))) ∙ p))
      ∙ ap (λ (w : List ℕ). w ∷ lines_of (drop (n + 1) (u ++ tail))) (take-append-le n u tail (omega (arith, l)))
      ∙ ap (λ (w : List ℕ). take n u ∷ lines_of w) (drop-append-le (n + 1) u tail (omega (arith, l)))

  ends : length u ≤ n → lines_of (u ++ tail) ≡ take n u ∷ lines_of (drop (n + 1) u ++ tail)
  ends l =
      let all : n ≡ length u = omega (arith, l, h.within) in
      let last = h.last all in
      let no_tail : tail ≡ [] = t last.0 in
      let nothing : drop (n + 1) u ≡ [] = drop_of_length-le u (omega (arith, all)) in
      ap (λ (w : List ℕ). lines_of (u ++ w)) no_tail ∙ ap lines_of (append-nil u)
      ∙ ahead_last u n all last.1 h.before
      ∙ ap (λ (w : List ℕ). w ∷ []) (sym (take_all n u (omega (arith, all))))
      ∙ ap (λ (ls : List (List ℕ)). take n u ∷ ls) (sym (ap lines_of (ap (λ (w : List ℕ). w ++ tail) nothing ∙ no_tail)))

differs : (b c : ℕ) → b ≢ c → nat_eq b c ≡ false
differs b c h = grind (arith, nat_tests)

-- what stands first in bytes that begin without the separator
split_on : (c : ℕ) (xs ys : List ℕ) → ((k : ℕ) → k < length xs → get_or xs k 0 ≢ c) → (w : List ℕ) × (ws : List (List ℕ)) × (split_at c (xs ++ ys) ≡ (xs ++ w) ∷ ws)
split_on c [] ys h = split_some c ys
split_on c (x ∷ xs) ys h =
    let r = split_on c xs ys (λ k o. h (suc k) (omega (arith, o))) in (
      r.0,
      r.1,
      ap (λ (t : Bool). cond t ([] ∷ split_at c (xs ++ ys)) (onto_first x (split_at c (xs ++ ys)))) (differs x c (h 0 (omega arith))) ∙ ap (onto_first x) r.2,
    )

pub some_kept : (b : ℕ) (w : List ℕ) (ws : List (List ℕ)) → without_last_empty ((b ∷ w) ∷ ws) ≡ (b ∷ w) ∷ without_last_empty ws
some_kept b w [] = refl
some_kept b w (v ∷ ws) = refl

-- bytes without a line feed are the first ones of a line
lines_long : (u tail : List ℕ) → 0 < length u → ((k : ℕ) → k < length u → get_or u k 0 ≢ 10) → (w : List ℕ) × (ls : List (List ℕ)) × (lines_of (u ++ tail) ≡ (u ++ w) ∷ ls)
lines_long [] tail l h = absurd (omega (arith, l))
lines_long (b ∷ u) tail l h =
    let r = split_on 10 (b ∷ u) tail h in (r.0, without_last_empty r.1, ap without_last_empty r.2 ∙ some_kept b (u ++ r.0) r.1)

empty_by_length : (u : List ℕ) → length u ≡ 0 → u ≡ []
empty_by_length [] h = refl
empty_by_length (b ∷ u) h = absurd (omega (arith, h))

-- ---- places

-- the next line is the one of this size
pub before_first : (cert : List ℕ) (ls : List (List ℕ)) (s : Spot) (n : ℕ) → IsBefore cert ls s → IsLineSize s.unread s.ended n → IsFirst ls (Some (take n s.unread))
before_first cert ls s n b h =
    (lines_of (drop (n + 1) s.unread ++ drop s.behind cert), sym b.lines ∙ ap lines_of b.held ∙ lines_by_size s.unread (drop s.behind cert) s.ended n h b.ended)

-- it is known
pub ready_line : (s : Spot) (n : ℕ) → s.size ≡ Some n → IsLineSize s.unread s.ended n → IsReady s
ready_line s n e h = λ cert ls b.
    subst (λ (o : Option ℕ). IsFirst ls (option_map (λ k. take k s.unread) o)) (sym e) (before_first cert ls s n b h)

pub before_none : (cert : List ℕ) (ls : List (List ℕ)) (s : Spot) → IsBefore cert ls s → HasNoLine s.unread s.ended → IsTrue s.ended ⊎ (524288 < length s.unread) → IsFirst ls None
before_none cert ls s b h t =
    ⊎_elim
    (λ (e : IsTrue s.ended).
    let all : drop (start s) cert ≡ [] = b.held ∙ ap (λ (w : List ℕ). w ++ drop s.behind cert) (empty_by_length s.unread (h.none e)) ∙ b.ended e in
    subst (λ (ks : List (List ℕ)). IsFirst ks None) (sym (ap lines_of all) ∙ b.lines) tt)
    (λ (l : 524288 < length s.unread).
    let r = lines_long s.unread (drop s.behind cert) (omega (arith, l)) h.before in
    subst (λ (ks : List (List ℕ)). IsFirst ks None) (sym (ap lines_of b.held ∙ r.2) ∙ b.lines) (omega (arith, l, length-append s.unread r.0)))
    t

-- that there is none, or it is too long
pub ready_none : (s : Spot) → s.size ≡ None → HasNoLine s.unread s.ended → IsTrue s.ended ⊎ (524288 < length s.unread) → IsReady s
ready_none s e h t = λ cert ls b. subst (λ (o : Option ℕ). IsFirst ls (option_map (λ k. take k s.unread) o)) (sym e) (before_none cert ls s b h t)

-- where a line is ahead and ready, it is the text of the place
ready-is : (ls : List (List ℕ)) (o : Option (List ℕ)) → 0 < length ls → AreShort ls → IsFirst ls o → IsFirst ls (Some (or_none o)) × (o ≡ Some (or_none o))
ready-is ls (Some l) some short f = (f, refl)
ready-is [] None some short f = absurd (omega (arith, some))
ready-is (l ∷ ls) None some short f = absurd (omega (arith, f, short.0))

pub ready_first : (cert : List ℕ) (ls : List (List ℕ)) (s : Spot) → 0 < length ls → IsBefore cert ls s → IsReady s → IsFirst ls (Some (text_in s)) × (line_in s ≡ Some (text_in s))
ready_first cert ls s some b ready = ready-is ls (line_in s) some b.short (ready cert ls b)

first-line : (l m : List ℕ) (ls rest : List (List ℕ)) → l ∷ ls ≡ m ∷ rest → m ≡ l
first-line l m ls rest e = cc

-- the first of these lines is
pub ready_text : (cert l : List ℕ) (ls : List (List ℕ)) (s : Spot) → IsBefore cert (l ∷ ls) s → IsReady s → (text_in s ≡ l) × (line_in s ≡ Some l)
ready_text cert l ls s b ready =
    let f = ready_first cert (l ∷ ls) s (omega arith) b ready in
    let e = first-line l (text_in s) ls f.0.0 f.0.1 in
    (e, f.1 ∙ ap (λ (x : List ℕ). Some x) e)

-- whether the next line is known does not move a place
pub before_same : (cert : List ℕ) (ls : List (List ℕ)) (s : Spot) (o : Option ℕ) → IsBefore cert ls s → IsBefore cert ls (record s { size = o })
before_same cert ls s o b = record { few = b.few; within = b.within; reached = b.reached; held = b.held; ended = b.ended; lines = b.lines; short = b.short }

-- the place behind the next line
pub before_next : (cert l : List ℕ) (ls : List (List ℕ)) (s : Spot) (n : ℕ) → IsBefore cert (l ∷ ls) s → IsLineSize s.unread s.ended n
    → IsBefore cert ls (record { unread = drop (n + 1) s.unread; behind = s.behind; ended = s.ended; size = None })
before_next cert l ls s n b h =
    let tail = drop s.behind cert in
    let left = drop (n + 1) s.unread in
    let held : drop (s.behind - length left) cert ≡ left ++ tail = ⊎_elim
    (λ (m : n < length s.unread).
    let from : s.behind - length left ≡ start s + (n + 1) = omega (arith, m, length-drop (n + 1) s.unread, b.within) in
    ap (λ (j : ℕ). drop j cert) from ∙ sym (drop-drop (n + 1) (start s) cert) ∙ ap (drop (n + 1)) b.held ∙ drop-append-le (n + 1) s.unread tail (omega (arith, m)))
    (λ (m : length s.unread ≤ n).
    let none : left ≡ [] = drop_of_length-le s.unread (omega (arith, m)) in
    ap (λ (j : ℕ). drop j cert) (omega (arith, ap length none)) ∙ ap (λ (w : List ℕ). w ++ tail) (sym none))
    (cases_lt n (length s.unread)) in
    let both : (l ∷ ls) ≡ (take n s.unread ∷ lines_of (left ++ tail)) = sym b.lines ∙ ap lines_of b.held ∙ lines_by_size s.unread tail s.ended n h b.ended in
    let rest : lines_of (left ++ tail) ≡ ls = cc in
    record {
      few = b.few;
      within = omega (arith, length-drop (n + 1) s.unread, b.within);
      reached = b.reached;
      held = held;
      ended = b.ended;
      lines = ap lines_of held ∙ rest;
      short = b.short.1;
    }

-- with more bytes
pub before_more : (cert : List ℕ) (ls : List (List ℕ)) (s : Spot) (piece : List ℕ) (e : Bool) → IsBefore cert ls s → IsPieceAt (drop s.behind cert) piece → (IsTrue e → piece ≡ [])
    → IsBefore cert ls (record { unread = s.unread ++ piece; behind = s.behind + length piece; ended = e; size = None })
before_more cert ls s piece e b p t =
    let all = length-append s.unread piece in
    let same : s.behind + length piece - length (s.unread ++ piece) ≡ start s = omega (arith, all, b.within) in
    let tail : drop s.behind cert ≡ piece ++ drop (s.behind + length piece) cert =
    sym (take-append-drop (length piece) (drop s.behind cert))
    ∙ ap (λ (w : List ℕ). w ++ drop (length piece) (drop s.behind cert)) (sym p.front)
    ∙ ap (λ (w : List ℕ). piece ++ w) (drop-drop (length piece) s.behind cert) in
    record {
      few = b.few;
      within = omega (arith, all, b.within);
      reached = omega (arith, p.within, length-drop s.behind cert, b.reached);
      held = ap (λ (j : ℕ). drop j cert) same ∙ b.held ∙ ap (λ (w : List ℕ). s.unread ++ w) tail ∙ sym (append_assoc s.unread piece (drop (s.behind + length piece) cert));
      ended = λ i. sym (drop-drop (length piece) s.behind cert) ∙ ap (drop (length piece)) (p.some (t i)) ∙ drop_of_length-le [] (omega arith);
      lines = ap (λ (j : ℕ). lines_of (drop j cert)) same ∙ b.lines;
      short = b.short;
    }

-- back at the mark of a place before some lines, the place is before these again
pub before_again : (cert : List ℕ) (ls : List (List ℕ)) (s : Spot) (m : Mark) → IsBefore cert ls s → IsMark s m → IsBefore cert ls (rewound m)
before_again cert ls s m b i = record {
  few = b.few;
  within = omega arith;
  reached = omega (arith, i, b.reached);
  held = ap (λ (j : ℕ). drop j cert) (nothing_less m.at);
  ended = λ t. absurd (true≢false (sym t));
  lines = ap (λ (j : ℕ). lines_of (drop j cert)) (nothing_less m.at ∙ i) ∙ b.lines;
  short = b.short;
} where
  nothing_less : (n : ℕ) → n - 0 ≡ n
  nothing_less n = omega arith

-- at the certificate's beginning
pub before_all : (cert : List ℕ) (ls : List (List ℕ)) → length cert ≤ most_bytes → lines_of cert ≡ ls → AreShort ls → IsBefore cert ls (record { unread = []; behind = 0; ended = false; size = None })
before_all cert ls h e short = record { few = h; within = omega arith; reached = omega arith; held = refl; ended = λ t. absurd (true≢false (sym t)); lines = e; short = short }

-- ---- as the code cuts

-- the bytes from a place on, where it may stand behind their end
pub rest_at : (xs : List ℕ) (at place size : ℕ) → size ≡ length xs → place ≡ min at size → drop place xs ≡ drop at xs
rest_at xs at place size e p =
    ⊎_elim
    (λ (l : at < size). ap (λ (k : ℕ). drop k xs) (omega (arith, l, p)))
    (λ (l : size ≤ at). drop_of_length-le xs (omega (arith, l, p, e)) ∙ sym (drop_of_length-le xs (omega (arith, l, e))))
    (cases_lt at size)

-- the same behind a line
pub rest_behind : (xs : List ℕ) (at size place longest : ℕ) → length xs ≤ longest → place ≡ min (min (at + size) longest + 1) longest → drop place xs ≡ drop (size + 1) (drop at xs)
rest_behind xs at size place longest e p =
    ⊎_elim
    (λ (l : at + size < longest). ap (λ (k : ℕ). drop k xs) (next l) ∙ sym (drop-drop (size + 1) at xs))
    (λ (l : longest ≤ at + size). drop_of_length-le xs (omega (arith, l, p, e)) ∙ sym (drop_of_length-le xs (omega (arith, l, e))) ∙ sym (drop-drop (size + 1) at xs))
    (cases_lt (at + size) longest) where
      next : at + size < longest → place ≡ at + (size + 1)
      next l = omega (arith, l, p)

pub empty_by_test : (xs : List ℕ) (t : Bool) → t ≡ (length xs == 0) → IsTrue t → xs ≡ []
empty_by_test xs t e i = empty_by_length xs (tested (length xs) (sym e ∙ i)) where
  tested : (n : ℕ) → (n == 0) ≡ true → n ≡ 0
  tested n h = grind (arith, nat_tests)
