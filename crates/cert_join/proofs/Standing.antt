-- How what is due changes with each step.
use Rattle.std.proofs.Common.{◌≡◌, ◌<◌, ℕ, suc, List, [], ◌∷◌, ◌++◌, length, map, Bool, ◌||◌, Some, get_or, refl, sym, ap, subst, ◌∙◌, arith, append_assoc}
use Rattle.std.specs.List.{AllByRecursion}
use Rattle.std.proofs.lemmas.Bool.{eq-eqb}
use Rattle.std.proofs.lemmas.List.{length-map}
use Rattle.cover_model.specs.Rules.{Line}
use Rattle.cover_model.specs.Derivation.{Tree, leaf, then, fork, tree_lines}
use Rattle.cert_read.specs.CertLine.{line, parsed, rule_line}
use Rattle.cert_read.proofs.Spelled.{spelled_line}
use Rattle.cert_read.specs.LineText.{IsSpelled}
use Rattle.cert_joined.specs.Joined.{first_line}
use Rattle.cert_joined.specs.Covers.{Arity, ends, goes_on, splits, arity, line_by, numbered, IsShaped}
use Rattle.cert_join.specs.declared.line.Left.{Left}
use Rattle.cert_join.specs.declared.line.Left.TheVariants.{Nothing, One, Two, Open, Stuck, Unknown}
use Rattle.cert_join.specs.Kinds.{rule_text, left_kind, arity_of}
use Rattle.cert_join.specs.Spot.{Spot, line_in}
use Rattle.cert_join.specs.Gathered.{spot_at, is_in, AreDistinct, AreThere, ArePassed, Meeting, parts_of, IsNextOf, numbers_at, text_at, AreAlike}
use Rattle.cert_join.specs.Due.{AreSpelled, lines_at, lines_due, IsMeeting, Yields, Course, IsWhole, IsDue, IsHere, AllGo, AllLeave, AreTaken, with_behind}
use Rattle.cert_join.proofs.Below.{arity_left}
use Rattle.cert_join.proofs.Meetings.{AheadIf, stand_passed, ahead_before, below, second, all_below, all_second, behind_first, AllOf, AllShaped, AllSpelled, all_ends, ahead_behind, first_spelled}
use Rattle.cert_join.proofs.Passing.{there_moved}
use Rattle.cert_join.proofs.Yielding.{ShareLine, yields_behind, yields_leave, arity_by}

-- ---- the places behind a line

parts-below : (place : Meeting) → parts_of (all_below place) ≡ parts_of place
parts-below [] = refl
parts-below (x ∷ place) = ap (λ z. x.0 ∷ z) (parts-below place)

parts-second : (place : Meeting) → parts_of (all_second place) ≡ parts_of place
parts-second [] = refl
parts-second (x ∷ place) = ap (λ z. x.0 ∷ z) (parts-second place)

pub shaped_below : (t : Tree) → IsShaped t → IsShaped (below t) × IsShaped (second t)
shaped_below (leaf l) s = (s, s)
shaped_below (then l t) s = (s.1, s.1)
shaped_below (fork l t u) s = (s.1, s.2)

all-split : (P : Line → Type 0) (xs ys : List Line) → AllByRecursion P (xs ++ ys) → AllByRecursion P xs × AllByRecursion P ys
all-split P [] ys h = (tt, h)
all-split P (x ∷ xs) ys h = let r = all-split P xs ys h.1 in ((h.0, r.0), r.1)

pub spelled_below : (t : Tree) → AreSpelled (tree_lines t) → AreSpelled (tree_lines (below t)) × AreSpelled (tree_lines (second t))
spelled_below (leaf l) s = (s, s)
spelled_below (then l t) s = (s.1, s.1)
spelled_below (fork l t u) s = all-split (λ (l : Line). IsSpelled (rule_line l)) (tree_lines t) (tree_lines u) s.1

shaped-all : (place : Meeting) → AllShaped place → AllShaped (all_below place) × AllShaped (all_second place)
shaped-all [] s = (tt, tt)
shaped-all (x ∷ place) s = let r = shaped-all place s.1 in let q = shaped_below x.1 s.0 in ((q.0, r.0), (q.1, r.1))

spelled-all : (place : Meeting) → AllSpelled place → AllSpelled (all_below place) × AllSpelled (all_second place)
spelled-all [] s = (tt, tt)
spelled-all (x ∷ place) s = let r = spelled-all place s.1 in let q = spelled_below x.1 s.0 in ((q.0, r.0), (q.1, r.1))

good-below : (place : Meeting) → IsMeeting place → IsMeeting (all_below place) × IsMeeting (all_second place)
good-below place g =
    let P : List ℕ → Type 0 = λ z. AreDistinct z in (
      record {
        some = omega (arith, g.some, length-map {A = ℕ × Tree} {B = ℕ × Tree} place (λ (x : ℕ × Tree). (x.0, below x.1)));
        distinct = subst P (sym (parts-below place)) g.distinct;
        shaped = (shaped-all place g.shaped).0;
        spelled = (spelled-all place g.spelled).0;
      },
      record {
        some = omega (arith, g.some, length-map {A = ℕ × Tree} {B = ℕ × Tree} place (λ (x : ℕ × Tree). (x.0, second x.1)));
        distinct = subst P (sym (parts-second place)) g.distinct;
        shaped = (shaped-all place g.shaped).1;
        spelled = (spelled-all place g.spelled).1;
      },
    )

good-behind : (a : Arity) (place : Meeting) (due : List Meeting) → IsMeeting place → AllByRecursion IsMeeting due → AllByRecursion IsMeeting (behind_first a place ++ due)
good-behind ends place due g h = h
good-behind goes_on place due g h = ((good-below place g).0, h)
good-behind splits place due g h = ((good-below place g).0, ((good-below place g).1, h))

lines-append : (i : ℕ) (xs ys : List Meeting) → lines_due i (xs ++ ys) ≡ lines_due i xs ++ lines_due i ys
lines-append i [] ys = refl
lines-append i (x ∷ xs) ys = ap (λ z. lines_at i x ++ z) (lines-append i xs ys) ∙ sym (append_assoc (lines_at i x) (lines_due i xs) (lines_due i ys))

-- a line was taken, and the certificates passed theirs
taken : (k : Course) (now : List ℕ) (parts parts' : List (List ℕ)) (text text' own : List ℕ) (s t : List Spot) (a : Arity) → (h : IsHere k now parts text s) → AllOf a (h.first ∷ h.others) →
    ((out : List ℕ) → Yields k.numbers (behind_first a (h.first ∷ h.others) ++ h.due) out → Yields k.numbers ((h.first ∷ h.others) ∷ h.due) (own ++ (10 ∷ out))) →
    ArePassed now s t → text' ≡ text ++ (own ++ (10 ∷ [])) → map parts_of (behind_first a (h.first ∷ h.others) ++ h.due) ≡ parts' → AreThere parts' s → IsDue k parts' text' t
taken k now parts parts' text text' own s t a h all yields passed e places there =
    let place : Meeting = h.first ∷ h.others in
    record {
      due = behind_first a place ++ h.due;
      places = places;
      there = there_moved parts' s t passed.count there;
      good = good-behind a place h.due h.met h.good;
      stand = stand_passed k.cert (λ i. lines_due i (place ∷ h.due) ++ k.rest i) (λ i. lines_due i (behind_first a place ++ h.due) ++ k.rest i) now s t
          (λ i. let P : List (List ℕ) → Type 0 = λ z. AheadIf (is_in i now) ((lines_at i place ++ lines_due i h.due) ++ k.rest i) (z ++ k.rest i) in
          let Q : List ℕ → Type 0 = λ z. AheadIf (is_in i z) ((lines_at i place ++ lines_due i h.due) ++ k.rest i) ((lines_due i (behind_first a place) ++ lines_due i h.due) ++ k.rest i) in
          subst P (sym (lines-append i (behind_first a place) h.due)) (subst Q h.here (ahead_before (is_in i (parts_of place)) (lines_at i place) (lines_due i (behind_first a place)) (lines_due i h.due) (k.rest i) (ahead_behind a i place all h.met.shaped h.met.spelled))))
          h.stand h.ready passed;
      whole = λ out y.
          let P : List ℕ → Type 0 = λ z. IsWhole k z in
          let q : text ++ (own ++ (10 ∷ out)) ≡ text' ++ out = sym (ap (λ z. z ++ out) e ∙ append_assoc text (own ++ (10 ∷ [])) out ∙ ap (λ z. text ++ z) (append_assoc own (10 ∷ []) out)) in
          subst P q (h.whole _ (yields out y));
    }

distinct-here : (k : Course) (now : List ℕ) (parts : List (List ℕ)) (text : List ℕ) (s : List Spot) → IsHere k now parts text s → AreDistinct now
distinct-here k now parts text s h = let P : List ℕ → Type 0 = λ z. AreDistinct z in subst P h.here h.met.distinct

first-there : (k : Course) (now : List ℕ) (parts : List (List ℕ)) (text : List ℕ) (s : List Spot) (h : IsHere k now parts text s) → h.first.0 < length s
first-there k now parts text s h =
    h.there.0 h.first.0 (ap (is_in h.first.0) (sym h.here) ∙ ap (λ (b : Bool). b || is_in h.first.0 (parts_of h.others)) (eq-eqb h.first.0 h.first.0 refl))

there-behind : (left : Left) (now : List ℕ) (parts : List (List ℕ)) (s : List Spot) → AreThere (now ∷ parts) s → AreThere (with_behind left now parts) s
there-behind Nothing now parts s h = h.1
there-behind One now parts s h = h
there-behind Two now parts s h = (h.0, h)
there-behind Open now parts s h = h.1
there-behind Stuck now parts s h = h.1
there-behind Unknown now parts s h = h.1

-- what was taken is the line of the first certificate
taken-text : (numbers : List (List ℕ)) (part : ℕ) (now : List ℕ) (text more : List ℕ) (s t : List Spot) (x : ℕ × Tree) → part ≡ x.0 → IsNextOf s x → x.0 < length s → AreTaken numbers part now text s more t →
    more ≡ text ++ (text_at numbers x.0 (first_line x.1) ++ (10 ∷ []))
taken-text numbers part now text more s t x e next there a =
    let P : ℕ → Type 0 = λ j. j < length s in
    a.line (subst P (sym e) there) (first_line x.1) (ap (λ j. line_in (spot_at s j)) e ∙ next.0 there) next.1 ∙ ap (λ j. text ++ (text_at numbers j (first_line x.1) ++ (10 ∷ []))) e

-- all left their states
pub left_state : (k : Course) (numbers : List (List ℕ)) (part : ℕ) (now : List ℕ) (parts : List (List ℕ)) (text more : List ℕ) (s t : List Spot) → k.numbers ≡ numbers → (h : IsHere k now parts text s) →
    part ≡ h.first.0 → AllLeave (h.first ∷ h.others) → AreTaken numbers part now text s more t → IsDue k parts more t
left_state k numbers part now parts text more s t same h e leave a =
    let P : List (List ℕ) → Type 0 = λ z. AreTaken z part now text s more t in
    let a' : AreTaken k.numbers part now text s more t = subst P (sym same) a in
    let o : AllOf ends (h.first ∷ h.others) = all_ends (h.first ∷ h.others) leave in
    taken k now parts parts text more (text_at k.numbers h.first.0 (first_line h.first.1)) s t ends h o
    (λ out y. yields_leave k.numbers h.first h.others h.due out leave o h.met.shaped y)
    (a'.passed (distinct-here k now parts text s h)) (taken-text k.numbers part now text more s t h.first e h.next.0 (first-there k now parts text s h) a') h.places h.there.1

-- ---- a line that all share

-- a spelled line is told by its text
pub text_tells : (l m : Line) → IsSpelled (rule_line l) → IsSpelled (rule_line m) → rule_text l ≡ rule_text m → l ≡ m
text_tells l m h h' e = let q : line (rule_line l) ≡ line (rule_line m) = sym (spelled_line (rule_line l) h) ∙ ap parsed e ∙ spelled_line (rule_line m) h' in cc

share-line : (k : Course) (x : ℕ × Tree) (place : Meeting) → AreSpelled (tree_lines x.1) → AllSpelled place → AreAlike k.numbers x place →
    ShareLine k.numbers (line_by (numbered (numbers_at k.numbers x.0)) (first_line x.1)) place
share-line k x [] s s' alike = tt
share-line k x (y ∷ place) s s' alike =
    (text_tells _ _ (k.spelled y.0 (first_line y.1) (first_spelled y.1 s'.0)) (k.spelled x.0 (first_line x.1) (first_spelled x.1 s)) alike.0, share-line k x place s s'.1 alike.1)

all-of : (numbers : List (List ℕ)) (m : Line) (a : Arity) (place : Meeting) → arity m ≡ a → ShareLine numbers m place → AllOf a place
all-of numbers m a [] e q = tt
all-of numbers m a (x ∷ place) e q = (sym (arity_by (numbered (numbers_at numbers x.0)) (first_line x.1)) ∙ ap arity q.0 ∙ e, all-of numbers m a place e q.1)

parts-behind : (left : Left) (now : List ℕ) (parts : List (List ℕ)) (place : Meeting) (due : List Meeting) → parts_of place ≡ now → map parts_of due ≡ parts →
    map parts_of (behind_first (arity_of left) place ++ due) ≡ with_behind left now parts
parts-behind Nothing now parts place due e e' = e'
parts-behind One now parts place due e e' = ap (λ z. z ∷ map parts_of due) (parts-below place ∙ e) ∙ ap (λ z. now ∷ z) e'
parts-behind Two now parts place due e e' =
    ap (λ z. z ∷ parts_of (all_second place) ∷ map parts_of due) (parts-below place ∙ e) ∙ ap (λ z. now ∷ z ∷ map parts_of due) (parts-second place ∙ e) ∙ ap (λ z. now ∷ now ∷ z) e'
parts-behind Open now parts place due e e' = e'
parts-behind Stuck now parts place due e e' = e'
parts-behind Unknown now parts place due e e' = e'

pub shared_state : (k : Course) (numbers : List (List ℕ)) (part : ℕ) (now : List ℕ) (parts parts' : List (List ℕ)) (text more : List ℕ) (s t : List Spot) (left : Left) → k.numbers ≡ numbers →
    (h : IsHere k now parts text s) → part ≡ h.first.0 → AllGo (h.first ∷ h.others) → AreAlike k.numbers h.first h.others →
    (part < length s → (r : Line) → line_in (spot_at s part) ≡ Some (rule_text r) → left ≡ left_kind r) → AreTaken numbers part now text s more t → parts' ≡ with_behind left now parts → IsDue k parts' more t
shared_state k numbers part now parts parts' text more s t left same h e go alike tells a places =
    let x : ℕ × Tree = h.first in
    let m : Line = line_by (numbered (numbers_at k.numbers x.0)) (first_line x.1) in
    let P : List (List ℕ) → Type 0 = λ z. AreTaken z part now text s more t in
    let a' : AreTaken k.numbers part now text s more t = subst P (sym same) a in
    let Q : ℕ → Type 0 = λ j. j < length s in
    let T : List (List ℕ) → Type 0 = λ z. AreThere z s in
    let there = first-there k now parts text s h in
    let kind : left ≡ left_kind (first_line x.1) = tells (subst Q (sym e) there) (first_line x.1) (ap (λ j. line_in (spot_at s j)) e ∙ h.next.0.0 there) in
    let ar : arity m ≡ arity_of left = arity_by (numbered (numbers_at k.numbers x.0)) (first_line x.1) ∙ arity_left (first_line x.1) ∙ ap arity_of (sym kind) in
    let q : ShareLine k.numbers m (x ∷ h.others) = (refl, share-line k x h.others h.met.spelled.0 h.met.spelled.1 alike) in
    let o : AllOf (arity_of left) (x ∷ h.others) = all-of k.numbers m (arity_of left) (x ∷ h.others) ar q in
    taken k now parts parts' text more (rule_text m) s t (arity_of left) h o
    (λ out y. yields_behind k.numbers m (arity_of left) x h.others h.due out o h.met.shaped go q y)
    (a'.passed (distinct-here k now parts text s h)) (taken-text k.numbers part now text more s t x e h.next.0 (first-there k now parts text s h) a') (parts-behind left now parts (x ∷ h.others) h.due h.here h.places ∙ sym places)
    (subst T (sym places) (there-behind left now parts s h.there))

-- ---- which certificate is the first

pub first_part : (k : Course) (now : List ℕ) (parts : List (List ℕ)) (text : List ℕ) (s : List Spot) (h : IsHere k now parts text s) → get_or now 0 0 ≡ h.first.0
first_part k now parts text s h = ap (λ z. get_or z 0 0) (sym h.here)

pub some_part : {A : Type 0} (k : Course) (now : List ℕ) (parts : List (List ℕ)) (text : List ℕ) (s : List Spot) → IsHere k now parts text s → length now ≡ 0 → A
some_part k now parts text s h e = let q : suc (length (parts_of h.others)) ≡ length now = ap length h.here in absurd (omega arith)
