-- The lines that stand in what was fed, and what was fed before.
use Rattle.std.proofs.Common.{◌≡◌, ◌≢◌, ◌<◌, ◌≤◌, ℕ, ◌+◌, List, [], ◌∷◌, ◌++◌, append_assoc, Bool, true, false, cond, nat_lt, length, take, drop, get_or, refl, ap, sym, ◌∙◌, arith, if◌then◌else◌}
use Rattle.std.proofs.lemmas.Bool.Decides.{nat_tests}
use Rattle.std.proofs.lemmas.List.{drop-append-le, get_or_append_left, length-drop, length-append}
use Rattle.cert_read.specs.CertLine.{parsed, too_long, unless_long}
use Rattle.cert_read.specs.Lines.{split_at, without_last_empty, without_unfinished}
use Rattle.cert_read.specs.Reading.{lines_ahead, fed}
use Rattle.cert_read.specs.State.{Reading}
use Rattle.cert_read.specs.LineText.{text_of_lines}
use Rattle.cert_read.proofs.Parts.{split_found, split_whole, split_some}
use Rattle.cert_read.proofs.Pieces.{AllLack, split_joined}

abbrev reading : List ℕ → Bool → Reading
reading u e = record { unread = u; ended = e }

first_kept : (l m : List ℕ) (ls : List (List ℕ)) → without_last_empty (l ∷ m ∷ ls) ≡ l ∷ without_last_empty (m ∷ ls)
first_kept [] m ls = refl
first_kept (b ∷ l) m ls = refl

-- a line before others is a line
pub line_before : (l u : List ℕ) (e : Bool) (v : List ℕ) → split_at 10 v ≡ l ∷ split_at 10 u → lines_ahead (reading v e) ≡ l ∷ lines_ahead (reading u e)
line_before l u true v h =
    let s = split_some 10 u in
    ap without_last_empty (h ∙ ap (λ (ls : List (List ℕ)). l ∷ ls) s.2) ∙ first_kept l s.0 s.1 ∙ ap (λ (ls : List (List ℕ)). l ∷ without_last_empty ls) (sym s.2)
line_before l u false v h =
    let s = split_some 10 u in
    ap without_unfinished (h ∙ ap (λ (ls : List (List ℕ)). l ∷ ls) s.2) ∙ ap (λ (ls : List (List ℕ)). l ∷ without_unfinished ls) (sym s.2)

pub ahead_line : (u : List ℕ) (e : Bool) (n : ℕ) → n < length u → get_or u n 0 ≡ 10 → ((k : ℕ) → k < n → get_or u k 0 ≢ 10)
    → lines_ahead (reading u e) ≡ take n u ∷ lines_ahead (reading (drop (n + 1) u) e)
ahead_line u e n l f h = line_before (take n u) (drop (n + 1) u) e u (split_found 10 u n l f h)

last_some : (u : List ℕ) → 0 < length u → without_last_empty (u ∷ []) ≡ u ∷ []
last_some [] l = absurd (omega (arith, l))
last_some (b ∷ u) l = refl

pub ahead_last : (u : List ℕ) (n : ℕ) → n ≡ length u → 0 < n → ((k : ℕ) → k < n → get_or u k 0 ≢ 10) → lines_ahead (reading u true) ≡ u ∷ []
ahead_last u n e l h = ap without_last_empty (split_whole 10 u n e h) ∙ last_some u (omega (arith, l, e))

pub ahead_empty : (u : List ℕ) (e : Bool) → length u ≡ 0 → lines_ahead (reading u e) ≡ []
ahead_empty [] true h = refl
ahead_empty [] false h = refl
ahead_empty (b ∷ u) e h = absurd (omega (arith, h))

short_test : (n : ℕ) → n ≤ 524288 → nat_lt 524288 n ≡ false
short_test n h = grind (arith, nat_tests)

long_test : (n : ℕ) → 524288 < n → nat_lt 524288 n ≡ true
long_test n h = grind (arith, nat_tests)

pub ahead_unfinished : (u : List ℕ) (n : ℕ) → n ≡ length u → n ≤ 524288 → ((k : ℕ) → k < n → get_or u k 0 ≢ 10) → lines_ahead (reading u false) ≡ []
ahead_unfinished u n e l h =
    ap without_unfinished (split_whole 10 u n e h) ∙ ap (λ (t : Bool). cond t (u ∷ []) []) (short_test (length u) (omega (arith, e, l)))

pub ahead_long : (u : List ℕ) (e : Bool) (n : ℕ) → n ≡ length u → 524288 < n → ((k : ℕ) → k < n → get_or u k 0 ≢ 10) → lines_ahead (reading u e) ≡ u ∷ []
ahead_long u true n e l h = ahead_last u n e (omega (arith, l)) h
ahead_long u false n e l h =
    ap without_unfinished (split_whole 10 u n e h) ∙ ap (λ (t : Bool). cond t (u ∷ []) []) (long_test (length u) (omega (arith, e, l)))

pub long_parsed : (u : List ℕ) → 524288 < length u → parsed u ≡ too_long
long_parsed u l = ap (λ (t : Bool). unless_long t u) (long_test (length u) l)

-- ---- laws

-- of lines that were answered and what is left, the lines ahead are these and those
pub lines_after : (ls : List (List ℕ)) (u : List ℕ) (e : Bool) → AllLack 10 ls → lines_ahead (reading (text_of_lines ls ++ u) e) ≡ ls ++ lines_ahead (reading u e)
lines_after [] u e h = refl
lines_after (l ∷ ls) u e h =
    let rest = text_of_lines ls ++ u in
    line_before l rest e (text_of_lines (l ∷ ls) ++ u) (ap (split_at 10) (append_assoc l (10 ∷ text_of_lines ls) u) ∙ split_joined 10 l rest h.0)
    ∙ ap (λ (ks : List (List ℕ)). l ∷ ks) (lines_after ls u e h.1)

-- two pieces are one
pub fed_twice : (r : Reading) (a b : List ℕ) → fed (fed r a) b ≡ fed r (a ++ b)
fed_twice r a b = by_end r.ended where
  by_end : (t : Bool) → fed (fed (reading r.unread t) a) b ≡ fed (reading r.unread t) (a ++ b)
  by_end true = refl
  by_end false = ap (λ (u : List ℕ). reading u false) (append_assoc r.unread a b)

-- ---- what is known of the bytes stays known as more come

pub held_on : (xs ys zs piece : List ℕ) (at new n : ℕ) (t : Bool) → at + n ≤ length xs → ((k : ℕ) → k < n → get_or (drop at xs) k 0 ≢ 10)
    → drop new ys ≡ drop at xs → new ≤ length ys → zs ≡ (if t then ys ++ piece else ys)
    → (new + n ≤ length zs) × ((k : ℕ) → k < n → get_or (drop new zs) k 0 ≢ 10)
held_on xs ys zs piece at new n true l h e m f =
    let lengths = ap length e in
    let within : n ≤ length (drop at xs) = omega (arith, length-drop at xs) in
    let same : drop new zs ≡ drop at xs ++ piece = ap (drop new) f ∙ drop-append-le new ys piece m ∙ ap (λ (w : List ℕ). w ++ piece) e in (
      omega (arith, lengths, length-drop at xs, length-drop new ys, ap length f, length-append ys piece),
      λ k o p. h k o (sym (get_or_append_left (drop at xs) piece 0 k (omega (arith, o, within))) ∙ ap (λ (w : List ℕ). get_or w k 0) (sym same) ∙ p),
    )
held_on xs ys zs piece at new n false l h e m f =
    let lengths = ap length e in
    let same : drop new zs ≡ drop at xs = ap (drop new) f ∙ e in (
      omega (arith, lengths, length-drop at xs, length-drop new ys, ap length f),
      λ k o p. h k o (ap (λ (w : List ℕ). get_or w k 0) (sym same) ∙ p),
    )
