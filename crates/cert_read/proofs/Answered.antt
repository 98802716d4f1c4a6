-- What is answered of the lines ahead.
use Rattle.std.proofs.Common.{◌≡◌, ◌≢◌, ◌<◌, ◌≤◌, ℕ, ◌+◌, List, [], ◌∷◌, Bool, true, false, ◌&&◌, nat_lt, true≢false, Some, None, Ok, Err, length, take, drop, get_or, min, refl, ap, sym, ◌∙◌, subst, ⊎_elim, arith}
use Rattle.std.proofs.Math.ListN.{drop_of_length-le}
use Rattle.std.proofs.lemmas.Bool.{cases_lt}
use Rattle.std.proofs.lemmas.Bool.Decides.{nat_tests}
use Rattle.std.proofs.lemmas.List.{take_all, length-take, drop-drop}
use Rattle.cert_read.specs.declared.line.Line.{Line}
use Rattle.cert_read.specs.declared.fault.LineFault.{LineFault}
use Rattle.cert_read.specs.declared.fault.LineFault.TheVariants.{LineTooLong}
use Rattle.cert_read.specs.CertLine.{parsed}
use Rattle.cert_read.specs.Reading.{lines_ahead, IsNextLine}
use Rattle.cert_read.specs.State.{Reading}
use Rattle.cert_read.specs.LineAnswers.{IsFault, IsParse}
use Rattle.cert_read.proofs.Ahead.{ahead_line, ahead_last, ahead_empty, ahead_unfinished, ahead_long, long_parsed}

-- no line feed stands in the first bytes
abbrev pub NoFeed : List ℕ → ℕ → Type 0
NoFeed u n = (k : ℕ) → k < n → get_or u k 0 ≢ 10

pub told_long : (r : Reading) (n : ℕ) → n ≡ length r.unread → 524288 < n → NoFeed r.unread n → IsNextLine (lines_ahead r) r r (Err LineTooLong)
told_long r n e l h =
    subst (λ ls. IsNextLine ls r r (Err LineTooLong)) (sym (ahead_long r.unread r.ended n e l h)) (long_parsed r.unread (omega (arith, e, l)), refl)

pub told_none : (r new : Reading) → lines_ahead r ≡ [] → new ≡ r → IsNextLine (lines_ahead r) r new (Ok None)
told_none r new e f = subst (λ ls. IsNextLine ls r new (Ok None)) (sym e) (refl, f)

some_test : (n : ℕ) → nat_lt 0 n ≡ false → n ≡ 0
some_test n h = grind (arith, nat_tests)

some_back : (n : ℕ) → nat_lt 0 n ≡ true → 0 < n
some_back n h = grind (arith, nat_tests)

and_true : (t : Bool) → (t && true) ≡ t
and_true true = refl
and_true false = refl

and_false : (t : Bool) → (t && false) ≡ false
and_false true = refl
and_false false = refl

none_of : (u : List ℕ) (e : Bool) (n : ℕ) → (nat_lt 0 n && e) ≡ false → n ≡ length u → n ≤ 524288 → NoFeed u n → lines_ahead (record { unread = u; ended = e }) ≡ []
none_of u true n f e l h = ahead_empty u true (omega (arith, e, some_test n (sym (and_true (nat_lt 0 n)) ∙ f)))
none_of u false n f e l h = ahead_unfinished u n e l h

-- bytes without a line feed are no line where they are not the last one
pub none_whole : (r : Reading) (n : ℕ) → (nat_lt 0 n && r.ended) ≡ false → n ≡ length r.unread → n ≤ 524288 → NoFeed r.unread n → lines_ahead r ≡ []
none_whole r n f e l h = none_of r.unread r.ended n f e l h

pub is_last : (n : ℕ) (e : Bool) → (nat_lt 0 n && e) ≡ true → (0 < n) × (e ≡ true)
is_last n true f = (some_back n (sym (and_true (nat_lt 0 n)) ∙ f), refl)
is_last n false f = absurd (true≢false (sym f ∙ and_false (nat_lt 0 n)))

-- what is left behind the first n bytes and one more
abbrev pub left : Reading → ℕ → Reading
left r n = record { unread = drop (n + 1) r.unread; ended = r.ended }

pub first_line : (r : Reading) (n : ℕ) → n < length r.unread → get_or r.unread n 0 ≡ 10 → NoFeed r.unread n → lines_ahead r ≡ take n r.unread ∷ lines_ahead (left r n)
first_line r n l e h = ahead_line r.unread r.ended n l e h

pub last_line : (r : Reading) (n : ℕ) → r.ended ≡ true → n ≡ length r.unread → 0 < n → NoFeed r.unread n → lines_ahead r ≡ take n r.unread ∷ lines_ahead (left r n)
last_line r n f e l h =
    let all : take n r.unread ≡ r.unread = take_all n r.unread (omega (arith, e)) in
    let none : drop (n + 1) r.unread ≡ [] = drop_of_length-le r.unread (omega (arith, e)) in
    ap (λ (t : Bool). lines_ahead (record { unread = r.unread; ended = t })) f
    ∙ ahead_last r.unread n e l h
    ∙ ap (λ (w : List ℕ). w ∷ []) (sym all)
    ∙ ap (λ (ls : List (List ℕ)). take n r.unread ∷ ls) (sym (ahead_empty (drop (n + 1) r.unread) r.ended (ap length none)))

pub told_fault : (r : Reading) (n : ℕ) (l : List ℕ) (f : LineFault) → lines_ahead r ≡ take n r.unread ∷ lines_ahead (left r n) → l ≡ take n r.unread → IsFault f (parsed l) → IsNextLine (lines_ahead r) r r (Err f)
told_fault r n l f e g s = subst (λ ls. IsNextLine ls r r (Err f)) (sym e) (subst (λ w. IsFault f (parsed w)) g s, refl)

pub told_line : (r new : Reading) (n : ℕ) (l : List ℕ) (said : Line) → n ≤ length r.unread → lines_ahead r ≡ take n r.unread ∷ lines_ahead (left r n) → l ≡ take n r.unread
    → IsParse (Ok said) (parsed l) → new ≡ left r n → IsNextLine (lines_ahead r) r new (Ok (Some said))
told_line r new n l said m e g s f =
    let size : length (take n r.unread) ≡ n = omega (arith, length-take n r.unread, m) in
    subst (λ ls. IsNextLine ls r new (Ok (Some said))) (sym e) (
      subst (λ w. IsParse (Ok said) (parsed w)) g s,
      f ∙ ap (λ (k : ℕ). left r k) (sym size),
      ap lines_ahead f,
    )

-- the place behind a line, where it is within the bytes
pub behind_place : (xs u : List ℕ) (at n place size : ℕ) → size ≡ length xs → u ≡ drop at xs → place ≡ min (at + n + 1) size → drop place xs ≡ drop (n + 1) u
behind_place xs u at n place size e f g =
    ⊎_elim
    (λ (l : at + n + 1 < size). let p : place ≡ at + (n + 1) = omega (arith, l, g) in ap (λ (k : ℕ). drop k xs) p ∙ sym (drop-drop (n + 1) at xs) ∙ ap (drop (n + 1)) (sym f))
    (λ (l : size ≤ at + n + 1). drop_of_length-le xs (omega (arith, l, g, e)) ∙ sym (ap (drop (n + 1)) f ∙ drop-drop (n + 1) at xs ∙ drop_of_length-le xs (omega (arith, l, e))))
    (cases_lt (at + n + 1) size)
