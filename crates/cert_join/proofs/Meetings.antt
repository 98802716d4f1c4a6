-- Trees at one place, and what is behind their first lines.
use Rattle.std.proofs.Common.{◌≡◌, ◌<◌, ◌≤◌, ℕ, List, [], ◌∷◌, ◌++◌, length, map, Bool, true, false, cond, ◌||◌, Option, Some, None, nat_eq, refl, sym, ap, subst, ◌∙◌, arith}
use Rattle.std.specs.List.{AllByRecursion}
use Rattle.std.proofs.lemmas.Bool.{eqb-true}
use Rattle.std.proofs.lemmas.List.{append-nil}
use Rattle.cover_model.specs.Rules.{Line, narrow_by, end_by, mark_by, branch_by, stay_by}
use Rattle.cover_model.specs.Derivation.{Tree, leaf, then, fork, tree_lines}
use Rattle.cert_read.specs.CertLine.{rule_line}
use Rattle.cert_read.specs.LineText.{IsSpelled}
use Rattle.cert_read.specs.Lines.{longest_line}
use Rattle.cert_joined.specs.Joined.{first_line}
use Rattle.cert_joined.specs.Covers.{Arity, ends, goes_on, splits, arity, IsShaped}
use Rattle.cert_join.specs.Kinds.{rule_text}
use Rattle.cert_join.specs.Spot.{Spot, IsBefore, IsFirst, IsReady, line_in}
use Rattle.cert_join.specs.Gathered.{leaves, spot_at, is_in, AreDistinct, Stand, AllReady, PassedIf, ArePassed, Meeting, parts_of, does_leave, going, leaving}
use Rattle.cert_join.specs.Due.{rule_texts, AreSpelled, lines_at, lines_due}

-- ---- passing lines

-- where a certificate's line was passed, these lines are one less
abbrev pub AheadIf : Bool → List (List ℕ) → List (List ℕ) → Type 0
AheadIf true old new = (l : List ℕ) × (old ≡ l ∷ new) × (length l ≤ longest_line)
AheadIf false old new = old ≡ new

known-line : (l : List ℕ) (ls : List (List ℕ)) (o : Option (List ℕ)) → length l ≤ longest_line → IsFirst (l ∷ ls) o → o ≡ Some l
known-line l ls None few h = absurd (omega arith)
known-line l ls (Some m) few h = let e : l ∷ ls ≡ m ∷ h.0 = h.1 in cc

-- a line that is ready is known
pub next_known : (cert l : List ℕ) (ls : List (List ℕ)) (s : Spot) → length l ≤ longest_line → IsBefore cert (l ∷ ls) s → IsReady s → line_in s ≡ Some l
next_known cert l ls s few b ready = known-line l ls (line_in s) few (ready _ _ b)

passes-on : (cert : List ℕ) (b : Bool) (old new : List (List ℕ)) (s t : Spot) → AheadIf b old new → IsBefore cert old s → (b ≡ true → IsReady s) → PassedIf b s t → IsBefore cert new t
passes-on cert true old new s t h before ready passed =
    let P : List (List ℕ) → Type 0 = λ x. IsBefore cert x s in
    let before' : IsBefore cert (h.0 ∷ new) s = subst P h.1 before in
    passed cert h.0 new before' (next_known cert h.0 new s h.2 before' (ready refl))
passes-on cert false old new s t h before ready same =
    let P : Spot → Type 0 = λ x. IsBefore cert new x in
    let Q : List (List ℕ) → Type 0 = λ x. IsBefore cert x s in
    subst P (sym same) (subst Q h before)

pub stand_passed : (cert : ℕ → List ℕ) (old new : ℕ → List (List ℕ)) (parts : List ℕ) (s t : List Spot) →
    ((i : ℕ) → AheadIf (is_in i parts) (old i) (new i)) → Stand cert old s → AllReady parts s → ArePassed parts s t → Stand cert new t
stand_passed cert old new parts s t h stand ready passed i n =
    let n' : i < length s = omega (arith, passed.count) in
    passes-on (cert i) (is_in i parts) (old i) (new i) (spot_at s i) (spot_at t i) (h i) (stand i n') (ready i n') (passed.each i n')

ahead-more : (b : Bool) (old new more : List (List ℕ)) → AheadIf b old new → AheadIf b (old ++ more) (new ++ more)
ahead-more true old new more h = (h.0, ap (λ x. x ++ more) h.1, h.2)
ahead-more false old new more h = ap (λ x. x ++ more) h

-- before more lines
pub ahead_before : (b : Bool) (old new more rest : List (List ℕ)) → AheadIf b old new → AheadIf b ((old ++ more) ++ rest) ((new ++ more) ++ rest)
ahead_before b old new more rest h = ahead-more b (old ++ more) (new ++ more) rest (ahead-more b old new more h)

-- ---- the trees below first lines

abbrev pub below : Tree → Tree
below (leaf l) = leaf l
below (then l t) = t
below (fork l t u) = t

abbrev pub second : Tree → Tree
second (leaf l) = leaf l
second (then l t) = t
second (fork l t u) = u

abbrev pub all_below : Meeting → Meeting
all_below place = map (λ (x : ℕ × Tree). (x.0, below x.1)) place

abbrev pub all_second : Meeting → Meeting
all_second place = map (λ (x : ℕ × Tree). (x.0, second x.1)) place

-- the places that a line of this kind leaves
abbrev pub behind_first : Arity → Meeting → List Meeting
behind_first ends place = []
behind_first goes_on place = all_below place ∷ []
behind_first splits place = all_below place ∷ all_second place ∷ []

abbrev pub AllOf : Arity → Meeting → Type 0
AllOf a place = AllByRecursion (λ (x : ℕ × Tree). arity (first_line x.1) ≡ a) place

-- the lines of a tree behind its first one
abbrev pub lines_behind : Arity → Tree → List (List ℕ)
lines_behind ends t = []
lines_behind goes_on t = rule_texts (tree_lines (below t))
lines_behind splits t = rule_texts (tree_lines (below t)) ++ rule_texts (tree_lines (second t))

lines-map : (xs ys : List Line) → rule_texts (xs ++ ys) ≡ rule_texts xs ++ rule_texts ys
lines-map [] ys = refl
lines-map (x ∷ xs) ys = ap (λ z. rule_text x ∷ z) (lines-map xs ys)

pub cut_first : (a : Arity) (t : Tree) → arity (first_line t) ≡ a → IsShaped t → rule_texts (tree_lines t) ≡ rule_text (first_line t) ∷ lines_behind a t
cut_first a (leaf l) e s = ap (λ x. rule_text l ∷ lines_behind x (leaf l)) (sym s ∙ e)
cut_first a (then l t) e s = ap (λ x. rule_text l ∷ lines_behind x (then l t)) (sym s.0 ∙ e)
cut_first a (fork l t u) e s = ap (λ z. rule_text l ∷ z) (lines-map (tree_lines t) (tree_lines u)) ∙ ap (λ x. rule_text l ∷ lines_behind x (fork l t u)) (sym s.0 ∙ e)

lines-of : Arity → ℕ → Meeting → List (List ℕ)
lines-of a i [] = []
lines-of a i (x ∷ place) = cond (nat_eq i x.0) (lines_behind a x.1) (lines-of a i place)

cond-ahead : (b c : Bool) (xs xs' ys ys' : List (List ℕ)) → AheadIf true xs xs' → AheadIf c ys ys' → AheadIf (b || c) (cond b xs ys) (cond b xs' ys')
cond-ahead true c xs xs' ys ys' h h' = h
cond-ahead false c xs xs' ys ys' h h' = h'

abbrev pub AllShaped : Meeting → Type 0
AllShaped place = AllByRecursion (λ (x : ℕ × Tree). IsShaped x.1) place

abbrev pub AllSpelled : Meeting → Type 0
AllSpelled place = AllByRecursion (λ (x : ℕ × Tree). AreSpelled (tree_lines x.1)) place

pub first_spelled : (t : Tree) → AreSpelled (tree_lines t) → IsSpelled (rule_line (first_line t))
first_spelled (leaf l) h = h.0
first_spelled (then l t) h = h.0
first_spelled (fork l t u) h = h.0

ahead-of : (a : Arity) (i : ℕ) (place : Meeting) → AllOf a place → AllShaped place → AllSpelled place → AheadIf (is_in i (parts_of place)) (lines_at i place) (lines-of a i place)
unfolding lines-of
ahead-of a i [] all shaped spelled = refl
ahead-of a i (x ∷ place) all shaped spelled =
    cond-ahead (nat_eq i x.0) (is_in i (parts_of place)) _ _ _ _ (rule_text (first_line x.1), cut_first a x.1 all.0 shaped.0, (first_spelled x.1 spelled.0).1) (ahead-of a i place all.1 shaped.1 spelled.1)

cond-same : (b : Bool) (xs : List (List ℕ)) → cond b xs xs ≡ xs
cond-same true xs = refl
cond-same false xs = refl

cond-both : (b : Bool) (ps qs rs ss : List (List ℕ)) → cond b (ps ++ qs) (rs ++ ss) ≡ cond b ps rs ++ cond b qs ss
cond-both true ps qs rs ss = refl
cond-both false ps qs rs ss = refl

lines-one : (i : ℕ) (place : Meeting) → lines-of goes_on i place ≡ lines_at i (all_below place)
unfolding lines-of
lines-one i [] = refl
lines-one i (x ∷ place) = ap (λ z. cond (nat_eq i x.0) (rule_texts (tree_lines (below x.1))) z) (lines-one i place)

lines-two : (i : ℕ) (place : Meeting) → lines-of splits i place ≡ lines_at i (all_below place) ++ lines_at i (all_second place)
unfolding lines-of
lines-two i [] = refl
lines-two i (x ∷ place) =
    ap (λ z. cond (nat_eq i x.0) (rule_texts (tree_lines (below x.1)) ++ rule_texts (tree_lines (second x.1))) z) (lines-two i place)
    ∙ cond-both (nat_eq i x.0) (rule_texts (tree_lines (below x.1))) _ _ _

lines-behind-all : (a : Arity) (i : ℕ) (place : Meeting) → lines-of a i place ≡ lines_due i (behind_first a place)
unfolding lines-of
lines-behind-all ends i [] = refl
lines-behind-all ends i (x ∷ place) = ap (λ z. cond (nat_eq i x.0) [] z) (lines-behind-all ends i place) ∙ cond-same (nat_eq i x.0) []
lines-behind-all goes_on i place = lines-one i place ∙ sym (append-nil (lines_at i (all_below place)))
lines-behind-all splits i place = lines-two i place ∙ ap (λ z. lines_at i (all_below place) ++ z) (sym (append-nil (lines_at i (all_second place))))

-- their first lines are passed
pub ahead_behind : (a : Arity) (i : ℕ) (place : Meeting) → AllOf a place → AllShaped place → AllSpelled place →
    AheadIf (is_in i (parts_of place)) (lines_at i place) (lines_due i (behind_first a place))
ahead_behind a i place all shaped spelled =
    let P : List (List ℕ) → Type 0 = λ x. AheadIf (is_in i (parts_of place)) (lines_at i place) x in
    subst P (lines-behind-all a i place) (ahead-of a i place all shaped spelled)

-- ---- those that leave their states

pub leaving_ends : (l : Line) → leaves l ≡ true → arity l ≡ ends
leaving_ends (narrow_by n) e = cc
leaving_ends (end_by k) e = refl
leaving_ends (mark_by m) e = cc
leaving_ends (branch_by b) e = cc
leaving_ends (stay_by t) e = refl

pub all_ends : (place : Meeting) → AllByRecursion (λ (x : ℕ × Tree). does_leave x ≡ true) place → AllOf ends place
all_ends [] h = tt
all_ends (x ∷ place) h = (leaving_ends (first_line x.1) h.0, all_ends place h.1)

pub or_parts : (b c : Bool) → (b || c) ≡ false → (b ≡ false) × (c ≡ false)
or_parts true c e = cc
or_parts false c e = (refl, e)

pub going_cases : (b : Bool) (i : ℕ) (x : ℕ × Tree) (rest : Meeting) → nat_eq i x.0 ≡ false → lines_at i rest ≡ [] → lines_at i (cond b rest (x ∷ rest)) ≡ []
going_cases true i x rest n e = e
going_cases false i x rest n e = ap (λ z. cond z (rule_texts (tree_lines x.1)) (lines_at i rest)) n ∙ e

leaving-cases : (b : Bool) (i : ℕ) (x : ℕ × Tree) (rest : Meeting) → nat_eq i x.0 ≡ false → is_in i (parts_of rest) ≡ false → is_in i (parts_of (cond b (x ∷ rest) rest)) ≡ false
leaving-cases true i x rest n e = ap (λ z. z || is_in i (parts_of rest)) n ∙ e
leaving-cases false i x rest n e = e

none-going : (i : ℕ) (place : Meeting) → is_in i (parts_of place) ≡ false → lines_at i (going place) ≡ []
none-going i [] e = refl
none-going i (x ∷ place) e = going_cases (does_leave x) i x (going place) (or_parts _ _ e).0 (none-going i place (or_parts _ _ e).1)

pub none_leaving : (i : ℕ) (place : Meeting) → is_in i (parts_of place) ≡ false → is_in i (parts_of (leaving place)) ≡ false
none_leaving i [] e = refl
none_leaving i (x ∷ place) e = leaving-cases (does_leave x) i x (leaving place) (or_parts _ _ e).0 (none_leaving i place (or_parts _ _ e).1)

pub not_there : (i : ℕ) (x : ℕ × Tree) (place : Meeting) → nat_eq i x.0 ≡ true → is_in x.0 (parts_of place) ≡ false → is_in i (parts_of place) ≡ false
not_there i x place n d = ap (λ j. is_in j (parts_of place)) (eqb-true i x.0 n) ∙ d

going-step : (b n : Bool) (i : ℕ) (x : ℕ × Tree) (place : Meeting) → does_leave x ≡ b → nat_eq i x.0 ≡ n → is_in x.0 (parts_of place) ≡ false → IsShaped x.1 → AreSpelled (tree_lines x.1) →
    AheadIf (is_in i (parts_of (leaving place))) (lines_at i place) (lines_at i (going place)) →
    AheadIf (is_in i (parts_of (cond b (x ∷ leaving place) (leaving place)))) (cond n (rule_texts (tree_lines x.1)) (lines_at i place)) (lines_at i (cond b (going place) (x ∷ going place)))
going-step true true i x place e f d shaped spelled h =
    let q : lines_at i (going place) ≡ [] = none-going i place (not_there i x place f d) in
    let P : Bool → Type 0 = λ c. AheadIf (c || is_in i (parts_of (leaving place))) (rule_texts (tree_lines x.1)) (lines_at i (going place)) in
    subst P (sym f) (rule_text (first_line x.1), cut_first ends x.1 (leaving_ends (first_line x.1) e) shaped ∙ ap (λ z. rule_text (first_line x.1) ∷ z) (sym q), (first_spelled x.1 spelled).1)
going-step true false i x place e f d shaped spelled h =
    let P : Bool → Type 0 = λ c. AheadIf (c || is_in i (parts_of (leaving place))) (lines_at i place) (lines_at i (going place)) in subst P (sym f) h
going-step false true i x place e f d shaped spelled h =
    let P : Bool → Type 0 = λ c. AheadIf c (rule_texts (tree_lines x.1)) (cond (nat_eq i x.0) (rule_texts (tree_lines x.1)) (lines_at i (going place))) in
    subst P (sym (none_leaving i place (not_there i x place f d))) (sym (ap (λ z. cond z (rule_texts (tree_lines x.1)) (lines_at i (going place))) f))
going-step false false i x place e f d shaped spelled h =
    let P : Bool → Type 0 = λ c. AheadIf (is_in i (parts_of (leaving place))) (lines_at i place) (cond c (rule_texts (tree_lines x.1)) (lines_at i (going place))) in subst P (sym f) h

-- those that leave their states are passed
pub ahead_going : (i : ℕ) (place : Meeting) → AreDistinct (parts_of place) → AllShaped place → AllSpelled place → AheadIf (is_in i (parts_of (leaving place))) (lines_at i place) (lines_at i (going place))
ahead_going i [] distinct shaped spelled = refl
ahead_going i (x ∷ place) distinct shaped spelled =
    going-step (does_leave x) (nat_eq i x.0) i x place refl refl distinct.0 shaped.0 spelled.0 (ahead_going i place distinct.1 shaped.1 spelled.1)
