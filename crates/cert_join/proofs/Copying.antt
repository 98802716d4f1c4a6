-- One more line of a certificate's tree is copied.
use Rattle.std.proofs.Common.{◌≡◌, ◌<◌, ◌≤◌, ℕ, suc, ◌-◌, ◌^◌, List, [], ◌∷◌, ◌++◌, length, Bool, true, false, cond, refl, sym, ap, subst, ◌∙◌, append_assoc, arith, nat_eq, drop, length-append, length-drop}
use Rattle.std.proofs.lemmas.List.{length-map}
use Rattle.cover_model.specs.Rules.{Line}
use Rattle.cert_read.specs.CertLine.{CertLine, rule_line}
use Rattle.cert_read.specs.LineText.{IsSpelled, line_text}
use Rattle.cert_read.specs.Lines.{split_at, onto_first, without_last_empty, lines_of}
use Rattle.cert_joined.specs.Covers.{Arity, ends, goes_on, splits, arity, line_by, numbered}
use Rattle.cert_join.specs.declared.line.Left.{Left}
use Rattle.cert_join.specs.declared.line.Left.TheVariants.{Nothing, One, Two, Open, Stuck, Unknown}
use Rattle.cert_join.specs.Kinds.{rule_text, left_kind, arity_of, waiting_behind, IsRenumbered}
use Rattle.cert_join.specs.Spot.{Spot, start, IsBefore, IsReady, text_in}
use Rattle.cert_join.specs.Due.{due_behind, AreTreesOf, AreSpelled, rule_texts, text_by, IsCopying}
use Rattle.cert_join.specs.Gathered.{Passed}
use Rattle.cert_join.proofs.Below.{arity_left}
use Rattle.cert_join.proofs.Spots.{ready_text}

-- ---- how many lines there are

onto-first-length : (b : ℕ) (ws : List (List ℕ)) (n : ℕ) → length ws ≤ suc n → length (onto_first b ws) ≤ suc n
onto-first-length b [] n h = omega arith
onto-first-length b (w ∷ ws) n h = h

cond-length : (c : Bool) (xs ys : List (List ℕ)) (n : ℕ) → length xs ≤ n → length ys ≤ n → length (cond c xs ys) ≤ n
cond-length true xs ys n h h' = h
cond-length false xs ys n h h' = h'

split-length : (c : ℕ) (bs : List ℕ) → length (split_at c bs) ≤ suc (length bs)
split-length c [] = omega arith
split-length c (b ∷ bs) =
    let h : length (split_at c bs) ≤ suc (length bs) = split-length c bs in
    cond-length (nat_eq b c) ([] ∷ split_at c bs) (onto_first b (split_at c bs)) _ (omega arith) (let h' : length (onto_first b (split_at c bs)) ≤ suc (length bs) = onto-first-length b _ _ h in omega arith)

without-length : (ls : List (List ℕ)) → length (without_last_empty ls) ≤ length ls
without-length [] = omega arith
without-length ([] ∷ []) = omega arith
without-length ([] ∷ l ∷ ls) = let h : length (without_last_empty (l ∷ ls)) ≤ length (l ∷ ls) = without-length (l ∷ ls) in omega arith
without-length ((b ∷ bs) ∷ ls) = let h : length (without_last_empty ls) ≤ length ls = without-length ls in omega arith

-- a certificate has no more lines
pub few_lines : (cert : List ℕ) (ls : List (List ℕ)) (s : Spot) → IsBefore cert ls s → length ls ≤ 2 ^ 64
few_lines cert ls s b =
    let u : List ℕ = drop (start s) cert in
    let h : length (split_at 10 u) ≤ suc (length u) = split-length 10 u in
    let h' : length (lines_of u) ≤ length (split_at 10 u) = without-length (split_at 10 u) in
    let e : length (lines_of u) ≡ length ls = ap length b.lines in
    let few : length cert ≤ 2 ^ 64 - 1 = b.few in
    omega (arith, length-drop (start s) cert)

fewer-before : (a : Arity) (n k : ℕ) → due_behind a n ≤ k → n ≤ suc k
fewer-before ends n k h = omega arith
fewer-before goes_on n k h = omega arith
fewer-before splits n k h = omega arith

trees-few : (ls : List Line) (n : ℕ) → AreTreesOf ls n → n ≤ length ls
trees-few [] n h = omega arith
trees-few (l ∷ ls) n h = fewer-before (arity l) n (length ls) (trees-few ls _ h.1)

-- ---- one line

behind-same : (k : Left) (n m : ℕ) → due_behind (arity_of k) n ≤ m → m ≤ 2 ^ 64 - 1 → waiting_behind k n ≡ due_behind (arity_of k) n
behind-same Nothing n m h h' = refl
behind-same One n m h h' = refl
behind-same Two n m h h' = omega arith
behind-same Open n m h h' = refl
behind-same Stuck n m h h' = refl
behind-same Unknown n m h h' = refl

-- how long the next line is does not tell where the place stands
pub resized : (cert : List ℕ) (ls : List (List ℕ)) (s t : Spot) → t ≡ record s { size = t.size } → IsBefore cert ls s → IsBefore cert ls t
resized cert ls s t e b =
    let P : Spot → Type 0 = λ x. IsBefore cert ls x in
    subst P (sym e) (record { few = b.few; within = b.within; reached = b.reached; held = b.held; ended = b.ended; lines = b.lines; short = b.short })

waits : (k : Left) (l : Line) (n : ℕ) (ls : List Line) → k ≡ left_kind l → length ls ≤ 2 ^ 64 - 1 → AreTreesOf ls (due_behind (arity l) n) → AreTreesOf ls (waiting_behind k n)
waits k l n ls e few trees =
    let P : ℕ → Type 0 = λ m. AreTreesOf ls m in
    let a : arity l ≡ arity_of k = arity_left l ∙ ap arity_of (sym e) in
    let h : due_behind (arity l) n ≤ length ls = trees-few ls _ trees in
    let Q : Arity → Type 0 = λ x. due_behind x n ≤ length ls in
    let f : due_behind (arity l) n ≡ waiting_behind k n = ap (λ x. due_behind x n) a ∙ sym (behind-same k n (length ls) (subst Q a h) few) in
    subst P f trees

no-lines : {A : Type 0} (n : ℕ) → 0 < n → n ≡ 0 → A
no-lines n h e = absurd (omega arith)

abbrev pub Taken : List ℕ → List ℕ → List ℕ → List ℕ → Type 0
Taken numbers line text after = (r : CertLine) → line ≡ line_text r → IsSpelled r → IsRenumbered numbers r text after

module _ (cert numbers : List ℕ) (rest : List (List ℕ)) (whole : List ℕ) (n : ℕ) (text : List ℕ) (s t u : Spot) (line : List ℕ) (k : Left) (after : List ℕ) where
  copied : (ls : List Line) → AreTreesOf ls n → AreSpelled ls → IsBefore cert (rule_texts ls ++ rest) s → whole ≡ text ++ text_by numbers ls →
      0 < n → t ≡ record s { size = t.size } → IsReady t → line ≡ text_in t →
      ((r : Line) → line ≡ rule_text r → k ≡ left_kind r) → Taken numbers line text after → Passed t u →
      IsCopying cert numbers rest whole (waiting_behind k n) (after ++ (10 ∷ [])) u
  copied [] trees spelled before whole-is some same ready line-is left taken passed = no-lines n some trees
  copied (l ∷ ls) trees spelled before whole-is some same ready line-is left taken passed =
      let b : IsBefore cert (rule_text l ∷ (rule_texts ls ++ rest)) t = resized cert _ s t same before in
      let first = ready_text cert (rule_text l) _ t b ready in
      let e : line ≡ rule_text l = line-is ∙ first.0 in
      let few : length (rule_text l ∷ (rule_texts ls ++ rest)) ≤ 2 ^ 64 = few_lines cert _ t b in
      let fewer : length ls ≤ 2 ^ 64 - 1 = omega (arith, length-map {A = Line} {B = List ℕ} ls rule_text, length-append (rule_texts ls) rest) in
      let app : after ≡ text ++ rule_text (line_by (numbered numbers) l) = taken (rule_line l) e spelled.0 in
      let own : List ℕ = rule_text (line_by (numbered numbers) l) in
      record {
        lines = ls;
        trees = waits k l n ls (left l e) fewer trees.1;
        spelled = spelled.1;
        before = passed cert (rule_text l) _ b first.1;
        adds_up = whole-is ∙ sym (ap (λ x. (x ++ (10 ∷ [])) ++ text_by numbers ls) app ∙ append_assoc (text ++ own) (10 ∷ []) (text_by numbers ls) ∙ append_assoc text own (10 ∷ text_by numbers ls));
      }

  pub line_copied : (w : ℕ) (text' : List ℕ) → 0 < n → IsCopying cert numbers rest whole n text s → t ≡ record s { size = t.size } → IsReady t → line ≡ text_in t →
      ((r : Line) → line ≡ rule_text r → k ≡ left_kind r) → Taken numbers line text after → Passed t u →
      w ≡ waiting_behind k n → text' ≡ after ++ (10 ∷ []) → IsCopying cert numbers rest whole w text' u
  line_copied w text' some d same ready line-is left taken passed w-is text-is =
      let Q : ℕ → Type 0 = λ x. IsCopying cert numbers rest whole x text' u in
      let R : List ℕ → Type 0 = λ x. IsCopying cert numbers rest whole (waiting_behind k n) x u in
      subst Q (sym w-is) (subst R (sym text-is) (copied d.lines d.trees d.spelled d.before d.adds_up some same ready line-is left taken passed))
