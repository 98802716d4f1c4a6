-- Trees at one place with different first lines, of which one is chosen.
use Rattle.std.proofs.Common.{◌≡◌, ◌≢◌, ◌<◌, ◌≤◌, ℕ, suc, zero, List, [], ◌∷◌, ◌++◌, length, map, get_or, set, Bool, true, false, cond, not, ◌&&◌, ◌||◌, Some, nat_eq, inl, inr, refl, sym, ap, subst, ◌∙◌, arith, append_assoc, length-set}
use Rattle.std.specs.Prelude.{slice_get}
use Rattle.std.specs.List.{AllByRecursion}
use Rattle.std.proofs.lemmas.Bool.{both_ways, ne_eqb, eq-eqb, eqb-true, cases_eq, cases_Bool}
use Rattle.cover_model.specs.Rules.{Line}
use Rattle.cover_model.specs.Derivation.{Tree, leaf, then, fork, tree_lines}
use Rattle.cert_read.specs.LineText.{IsSpelled}
use Rattle.cert_model.specs.Written.{rule_lines}
use Rattle.cert_joined.specs.Joined.{differ, first_line, first_closed, closes, going_on}
use Rattle.cert_joined.specs.Covers.{line_by, tree_by, numbered, IsShaped}
use Rattle.cert_join.specs.declared.weighing.Weighing.{Weighing}
use Rattle.cert_join.specs.declared.cursor.Mark.{Mark}
use Rattle.cert_join.specs.Kinds.{rule_text}
use Rattle.cert_join.specs.Ahead.{AreBefore}
use Rattle.cert_join.specs.Spot.{Spot, IsBefore, rewound}
use Rattle.cert_join.specs.Written.{texts_of}
use Rattle.cert_join.specs.Weighed.{Branch, ahead_of, AreAhead, AreApart, passed, first_closing, IsWeighing, IsWeighed, IsMarked}
use Rattle.cert_join.specs.Gathered.{spot_at, is_in, AreDistinct, AreThere, Stand, Meeting, parts_of, numbers_at, AreAlike}
use Rattle.cert_join.specs.Due.{rule_texts, AreSpelled, text_by, tree_text, lines_at, lines_due, trees_at, Yields, Course, IsWhole, IsDueBehind, IsDueWeighed, IsHere, AllGo}
use Rattle.cert_join.proofs.Choices.{holds_of_taken, passed_at, passed_other}
use Rattle.cert_join.proofs.Meetings.{AllShaped, AllSpelled, or_parts}
use Rattle.cert_join.proofs.Yielding.{leaves_by, trees_going, going_same, tree_text_by}
use Rattle.cert_join.proofs.Passing.{one_below, one_there, spot_same, spot_other, there_moved}
use Rattle.cert_join.proofs.Comparing.{one_tree}

-- ---- lines by the two ways to write them

pub texts_same : (ls : List Line) → texts_of (rule_lines ls) ≡ rule_texts ls
texts_same [] = refl
texts_same (l ∷ ls) = ap (λ z. rule_text l ∷ z) (texts_same ls)

spelled-same : (ls : List Line) → AreSpelled ls → AllByRecursion IsSpelled (rule_lines ls)
spelled-same [] h = tt
spelled-same (l ∷ ls) h = (h.0, spelled-same ls h.1)

-- ---- places as functions and as lists

before-at : (certs : List (List ℕ)) (lss : List (List (List ℕ))) (s : List Spot) (i : ℕ) → i < length s → AreBefore certs lss s → IsBefore (get_or certs i []) (get_or lss i []) (spot_at s i)
before-at [] [] [] i n b = absurd (omega arith)
before-at (c ∷ certs) (ls ∷ lss) (x ∷ s) zero n b = b.0
before-at (c ∷ certs) (ls ∷ lss) (x ∷ s) (suc i) n b = before-at certs lss s i (omega arith) b.1
before-at [] [] (x ∷ s) i n b = absurd b
before-at [] (ls ∷ lss) s i n b = absurd b
before-at (c ∷ certs) [] s i n b = absurd b
before-at (c ∷ certs) (ls ∷ lss) [] i n b = absurd b

tabulate : {X : Type 0} → (ℕ → X) → ℕ → List X
tabulate f zero = []
tabulate f (suc n) = f 0 ∷ tabulate (λ i. f (suc i)) n

tabulate-get : {X : Type 0} (f : ℕ → X) (n i : ℕ) → i < n → slice_get (tabulate f n) i ≡ Some (f i)
unfolding tabulate
tabulate-get f zero i h = absurd (omega arith)
tabulate-get f (suc n) zero h = refl
tabulate-get f (suc n) (suc i) h = tabulate-get (λ j. f (suc j)) n i (omega arith)

get-of : {X : Type 0} (xs : List X) (i : ℕ) (x d : X) → slice_get xs i ≡ Some x → get_or xs i d ≡ x
get-of [] i x d e = cc
get-of (y ∷ xs) zero x d e = cc
get-of (y ∷ xs) (suc i) x d e = get-of xs i x d e

stand-before : (cert : ℕ → List ℕ) (ahead : ℕ → List (List ℕ)) (s : List Spot) → Stand cert ahead s → AreBefore (tabulate cert (length s)) (tabulate ahead (length s)) s
unfolding tabulate
stand-before cert ahead [] stand = tt
stand-before cert ahead (x ∷ s) stand = (stand 0 (omega arith), stand-before (λ i. cert (suc i)) (λ i. ahead (suc i)) s (λ i n. stand (suc i) (omega arith)))

-- ---- the trees as branches

branch : (ℕ → List (List ℕ)) → (ℕ × Tree) → Branch
branch behind x = record { part = x.0; tree = x.1; behind = behind x.0 }

branches : (ℕ → List (List ℕ)) → Meeting → List Branch
branches behind place = map (branch behind) place

branch-parts : (behind : ℕ → List (List ℕ)) (place : Meeting) → parts_of place ≡ map (λ (b : Branch). b.part) (branches behind place)
unfolding branch branches
branch-parts behind [] = refl
branch-parts behind (x ∷ place) = ap (λ z. x.0 ∷ z) (branch-parts behind place)

apart-all : (behind : ℕ → List (List ℕ)) (p : ℕ) (place : Meeting) → is_in p (parts_of place) ≡ false → AllByRecursion (λ (c : Branch). c.part ≢ p) (branches behind place)
unfolding branch branches
apart-all behind p [] e = tt
apart-all behind p (x ∷ place) e =
    let r = or_parts (nat_eq p x.0) (is_in p (parts_of place)) e in
    ((λ q. both_ways _ r.0 (eq-eqb p x.0 (sym q))), apart-all behind p place r.1)

other-all : (behind : ℕ → List (List ℕ)) (p : ℕ) (place : Meeting) → is_in p (parts_of place) ≡ false → AllByRecursion (λ (c : Branch). p ≢ c.part) (branches behind place)
unfolding branch branches
other-all behind p [] e = tt
other-all behind p (x ∷ place) e =
    let r = or_parts (nat_eq p x.0) (is_in p (parts_of place)) e in
    ((λ q. both_ways _ r.0 (eq-eqb p x.0 q)), other-all behind p place r.1)

are-apart : (behind : ℕ → List (List ℕ)) (place : Meeting) → AreDistinct (parts_of place) → AreApart (branches behind place)
unfolding branches branch
are-apart behind [] d = tt
are-apart behind (x ∷ place) d = (apart-all behind x.0 place d.0, are-apart behind place d.1)

are-ahead : (behind : ℕ → List (List ℕ)) (lines : List (List (List ℕ))) (place : Meeting) → AreDistinct (parts_of place) → AllShaped place → AllSpelled place →
    ((i : ℕ) → is_in i (parts_of place) ≡ true → slice_get lines i ≡ Some (lines_at i place ++ behind i)) → AreAhead lines (branches behind place)
unfolding branches branch
are-ahead behind lines [] d shaped spelled h = tt
are-ahead behind lines (x ∷ place) d shaped spelled h = (
  (
    h x.0 (ap (λ b. b || is_in x.0 (parts_of place)) (eq-eqb x.0 x.0 refl)) ∙ ap (λ b. Some (cond b (rule_texts (tree_lines x.1)) (lines_at x.0 place) ++ behind x.0)) (eq-eqb x.0 x.0 refl)
        ∙ ap (λ z. Some (z ++ behind x.0)) (sym (texts_same (tree_lines x.1))),
    (shaped.0, spelled-same (tree_lines x.1) spelled.0),
  ),
  are-ahead behind lines place d.1 shaped.1 spelled.1
      (λ i q.
      let ne : nat_eq i x.0 ≡ false = ne_eqb i x.0 (λ e. both_ways _ d.0 (ap (λ j. is_in j (parts_of place)) (sym e) ∙ q)) in
      h i (ap (λ b. b || is_in i (parts_of place)) ne ∙ q) ∙ ap (λ b. Some (cond b (rule_texts (tree_lines x.1)) (lines_at i place) ++ behind i)) ne),
)

-- ---- the one that is taken

closes-by : (f : ℕ → ℕ) (t : Tree) → closes (tree_by f t) ≡ closes t
closes-by f (leaf l) = ap not (leaves_by f l)
closes-by f (then l t) = closes-by f t
closes-by f (fork l t u) = ap (λ b. b && closes (tree_by f u)) (closes-by f t) ∙ ap (λ b. closes t && b) (closes-by f u)

tree-at : List (List ℕ) → Branch → Tree
tree-at numbers b = tree_by (numbered (numbers_at numbers b.part)) b.tree

cond-tree : (numbers : List (List ℕ)) (t : Bool) (c d : Branch) → cond t (tree-at numbers c) (tree-at numbers d) ≡ tree-at numbers (cond t c d)
cond-tree numbers true c d = refl
cond-tree numbers false c d = refl

closed-at : (numbers : List (List ℕ)) (b : Branch) (bs : List Branch) → first_closed (tree-at numbers b) (map (tree-at numbers) bs) ≡ tree-at numbers (first_closing b bs)
unfolding tree-at
closed-at numbers b [] = refl
closed-at numbers b (c ∷ bs) =
    let f : ℕ → ℕ = numbered (numbers_at numbers c.part) in
    ap (λ t. cond t (tree_by f c.tree) (first_closed (tree_by (numbered (numbers_at numbers b.part)) b.tree) (map (tree-at numbers) bs))) (closes-by f c.tree)
    ∙ ap (λ z. cond (closes c.tree) (tree_by f c.tree) z) (closed-at numbers b bs) ∙ cond-tree numbers (closes c.tree) c (first_closing b bs)

trees-branches : (numbers : List (List ℕ)) (behind : ℕ → List (List ℕ)) (place : Meeting) → trees_at numbers place ≡ map (tree-at numbers) (branches behind place)
unfolding tree-at branches branch
trees-branches numbers behind [] = refl
trees-branches numbers behind (x ∷ place) = ap (λ z. tree_by (numbered (numbers_at numbers x.0)) x.1 ∷ z) (trees-branches numbers behind place)

first-by : (f : ℕ → ℕ) (t : Tree) → first_line (tree_by f t) ≡ line_by f (first_line t)
first-by f (leaf l) = refl
first-by f (then l t) = refl
first-by f (fork l t u) = refl

-- trees whose first lines are the same have first lines of the same text
alike-trees : (numbers : List (List ℕ)) (x : ℕ × Tree) (place : Meeting) → AllByRecursion (λ (u : Tree). first_line u ≡ first_line (tree_by (numbered (numbers_at numbers x.0)) x.1)) (trees_at numbers place) → AreAlike numbers x place
alike-trees numbers x [] h = tt
alike-trees numbers x (y ∷ place) h =
    (ap rule_text (sym (first-by (numbered (numbers_at numbers y.0)) y.1) ∙ h.0 ∙ first-by (numbered (numbers_at numbers x.0)) x.1), alike-trees numbers x place h.1)

all-of-branches : (P : Branch → Type 0) (behind : ℕ → List (List ℕ)) (place : Meeting) → AllByRecursion (λ (x : ℕ × Tree). P (branch behind x)) place → AllByRecursion P (branches behind place)
unfolding branches
all-of-branches P behind [] h = tt
all-of-branches P behind (x ∷ place) h = (h.0, all-of-branches P behind place h.1)

at-branch : (behind : ℕ → List (List ℕ)) (ends : List (List (List ℕ))) (i : ℕ) (place : Meeting) → AllByRecursion (λ (b : Branch). slice_get ends b.part ≡ Some b.behind) (branches behind place) → is_in i (parts_of place) ≡ true → slice_get ends i ≡ Some (behind i)
unfolding branches branch
at-branch behind ends i [] h q = absurd (both_ways false refl q)
at-branch behind ends i (x ∷ place) h q = elim (cases_Bool (nat_eq i x.0)) [
  | inl e ↦ let P : ℕ → Type 0 = λ j. slice_get ends j ≡ Some (behind j) in subst P (sym (eqb-true i x.0 e)) h.0
  | inr e ↦ at-branch behind ends i place h.1 (sym (ap (λ b. b || is_in i (parts_of place)) e) ∙ q)
]

none-at : (i : ℕ) (place : Meeting) → is_in i (parts_of place) ≡ false → lines_at i place ≡ []
none-at i [] e = refl
none-at i (x ∷ place) e = let r = or_parts (nat_eq i x.0) (is_in i (parts_of place)) e in ap (λ b. cond b (rule_texts (tree_lines x.1)) (lines_at i place)) r.0 ∙ none-at i place r.1

all-there : (behind : ℕ → List (List ℕ)) (n : ℕ) (place : Meeting) → ((i : ℕ) → is_in i (parts_of place) ≡ true → i < n) → AllByRecursion (λ (x : ℕ × Tree). x.0 < n) place
all-there behind n [] h = tt
all-there behind n (x ∷ place) h = (
  h x.0 (ap (λ b. b || is_in x.0 (parts_of place)) (eq-eqb x.0 x.0 refl)),
  all-there behind n place (λ i q. h i (elim (cases_Bool (nat_eq i x.0)) [ inl e ↦ ap (λ b. b || is_in i (parts_of place)) e | inr e ↦ ap (λ b. b || is_in i (parts_of place)) e ∙ q ])),
)

all-refl : (behind : ℕ → List (List ℕ)) (place : Meeting) → AllByRecursion (λ (x : ℕ × Tree). (branch behind x).behind ≡ behind (branch behind x).part) place
unfolding branch
all-refl behind [] = tt
all-refl behind (x ∷ place) = (refl, all-refl behind place)

shaped-of : (behind : ℕ → List (List ℕ)) (place : Meeting) → AllShaped place → AllByRecursion (λ (x : ℕ × Tree). IsShaped (branch behind x).tree) place
unfolding branch
shaped-of behind place h = h

spelled-of : (behind : ℕ → List (List ℕ)) (place : Meeting) → AllSpelled place → AllByRecursion (λ (x : ℕ × Tree). AreSpelled (tree_lines (branch behind x).tree)) place
unfolding branch
spelled-of behind place h = h

there-of : (behind : ℕ → List (List ℕ)) (n : ℕ) (place : Meeting) → AllByRecursion (λ (x : ℕ × Tree). x.0 < n) place → AllByRecursion (λ (x : ℕ × Tree). (branch behind x).part < n) place
unfolding branch
there-of behind n place h = h

-- ---- a tree is chosen among those of one place

module _ (k : Course) (now : List ℕ) (parts : List (List ℕ)) (text : List ℕ) (s : List Spot) (w : Weighing) (h : IsHere k now parts text s) (go : AllGo (h.first ∷ h.others)) (unlike : AreAlike k.numbers h.first h.others → ⊥)
    (new : (certs : List (List ℕ)) (lines : List (List (List ℕ))) (spots : List Spot) (b : Branch) (more : List Branch) → now ≡ map (λ (c : Branch). c.part) (b ∷ more) → AreBefore certs lines spots → AreAhead lines (b ∷ more) → AreApart (b ∷ more) →
    IsWeighing certs (first_closing b (b ∷ more)) (passed (b ∷ more) lines) w spots) where
  behind : ℕ → List (List ℕ)
  behind i = lines_due i h.due ++ k.rest i

  ahead : ℕ → List (List ℕ)
  ahead i = lines_due i ((h.first ∷ h.others) ∷ h.due) ++ k.rest i

  lines-now : List (List (List ℕ))
  lines-now = tabulate ahead (length s)

  there-now : (i : ℕ) → is_in i (parts_of (h.first ∷ h.others)) ≡ true → i < length s
  there-now i q = h.there.0 i (ap (is_in i) (sym h.here) ∙ q)

  line-at : (i : ℕ) → i < length s → slice_get lines-now i ≡ Some (lines_at i (h.first ∷ h.others) ++ behind i)
  unfolding lines-now ahead behind
  line-at i n = tabulate-get ahead (length s) i n ∙ ap (λ z. Some z) (append_assoc (lines_at i (h.first ∷ h.others)) (lines_due i h.due) (k.rest i))

  ahead-now : AreAhead lines-now (branches behind (h.first ∷ h.others))
  ahead-now = are-ahead behind lines-now (h.first ∷ h.others) h.met.distinct h.met.shaped h.met.spelled (λ i q. line-at i (there-now i q))

  apart-now : AreApart (branches behind (h.first ∷ h.others))
  apart-now = are-apart behind (h.first ∷ h.others) h.met.distinct

  one-taken : Branch
  one-taken = first_closing (branch behind h.first) (branches behind (h.first ∷ h.others))

  of-taken : (P : Branch → Type 0) → AllByRecursion (λ (x : ℕ × Tree). P (branch behind x)) (h.first ∷ h.others) → P one-taken
  unfolding one-taken
  of-taken P q = holds_of_taken P (branch behind h.first) (branches behind (h.first ∷ h.others)) q.0 (all-of-branches P behind (h.first ∷ h.others) q)

  ends-at : (i : ℕ) → i < length s → get_or (passed (branches behind (h.first ∷ h.others)) lines-now) i [] ≡ behind i
  ends-at i n = get-of (passed (branches behind (h.first ∷ h.others)) lines-now) i (behind i) [] (elim (cases_Bool (is_in i (parts_of (h.first ∷ h.others)))) [
    | inl e ↦ at-branch behind _ i (h.first ∷ h.others) (passed_at (branches behind (h.first ∷ h.others)) lines-now ahead-now apart-now) e
    | inr e ↦ passed_other (branches behind (h.first ∷ h.others)) lines-now i (other-all behind i (h.first ∷ h.others) e) ∙ line-at i n ∙ ap (λ z. Some (z ++ behind i)) (none-at i (h.first ∷ h.others) e)
  ])

  taken-tree : first_closed (tree_by (numbered (numbers_at k.numbers h.first.0)) h.first.1) (trees_at k.numbers (h.first ∷ h.others)) ≡ tree-at k.numbers one-taken
  unfolding one-taken tree-at branch
  taken-tree = ap (λ z. first_closed (tree_by (numbered (numbers_at k.numbers h.first.0)) h.first.1) z) (trees-branches k.numbers behind (h.first ∷ h.others)) ∙ closed-at k.numbers (branch behind h.first) (branches behind (h.first ∷ h.others))

  whole-now : (out : List ℕ) → Yields k.numbers h.due out → IsWhole k (text ++ (text_by (numbers_at k.numbers one-taken.part) (tree_lines one-taken.tree) ++ out))
  unfolding tree-at
  whole-now out y =
      let t : Tree = tree_by (numbered (numbers_at k.numbers h.first.0)) h.first.1 in
      let ts : List Tree = trees_at k.numbers h.others in
      let e : going_on (trees_at k.numbers (h.first ∷ h.others)) ≡ t ∷ ts = trees_going k.numbers (h.first ∷ h.others) h.met.shaped ∙ ap (trees_at k.numbers) (going_same (h.first ∷ h.others) go) in
      let P : List ℕ → Type 0 = λ z. IsWhole k (text ++ (z ++ out)) in
      let q : tree_text (first_closed t (t ∷ ts)) ≡ text_by (numbers_at k.numbers one-taken.part) (tree_lines one-taken.tree) =
      ap tree_text taken-tree ∙ tree_text_by (numbers_at k.numbers one-taken.part) one-taken.tree in
      subst P q (h.whole _ (first_closed t (t ∷ ts), out, differ t ts (trees_at k.numbers (h.first ∷ h.others)) e (λ same. unlike (alike-trees k.numbers h.first h.others same)), y, refl))

  weighing-now : IsWeighing (tabulate k.cert (length s)) one-taken (passed (branches behind (h.first ∷ h.others)) lines-now) w s
  unfolding one-taken branches lines-now ahead
  weighing-now = new (tabulate k.cert (length s)) lines-now s (branch behind h.first) (branches behind h.others) (sym h.here ∙ branch-parts behind (h.first ∷ h.others))
      (stand-before k.cert ahead s h.stand) ahead-now apart-now

  pub weighed_state : IsDueWeighed k w parts text s
  unfolding behind
  weighed_state = record {
    certs = tabulate k.cert (length s);
    ends = passed (branches behind (h.first ∷ h.others)) lines-now;
    taken = one-taken;
    due = h.due;
    weighing = weighing-now;
    certs_are = λ i n. get-of _ i (k.cert i) [] (tabulate-get k.cert (length s) i n);
    ends_are = λ i n. ends-at i n;
    behind = of-taken (λ (b : Branch). b.behind ≡ behind b.part) (all-refl behind (h.first ∷ h.others));
    shaped = of-taken (λ (b : Branch). IsShaped b.tree) (shaped-of behind (h.first ∷ h.others) h.met.shaped);
    spelled = of-taken (λ (b : Branch). AreSpelled (tree_lines b.tree)) (spelled-of behind (h.first ∷ h.others) h.met.spelled);
    places = h.places;
    there = (one_there one-taken.part s (of-taken (λ (b : Branch). b.part < length s) (there-of behind (length s) (h.first ∷ h.others) (all-there behind (length s) (h.first ∷ h.others) there-now))), h.there.1);
    good = h.good;
    whole = whole-now;
  }

-- ---- what follows

-- one more line was gone through
pub weighed_on : (k : Course) (w w' : Weighing) (parts : List (List ℕ)) (text : List ℕ) (s t : List Spot) → (d : IsDueWeighed k w parts text s) → length t ≡ length s → IsWeighing d.certs d.taken d.ends w' t → IsDueWeighed k w' parts text t
weighed_on k w w' parts text s t d e weighing = record {
  certs = d.certs;
  ends = d.ends;
  taken = d.taken;
  due = d.due;
  weighing = weighing;
  certs_are = λ i n. d.certs_are i (omega arith);
  ends_are = λ i n. d.ends_are i (omega arith);
  behind = d.behind;
  shaped = d.shaped;
  spelled = d.spelled;
  places = d.places;
  there = there_moved ((d.taken.part ∷ []) ∷ parts) s t e d.there;
  good = d.good;
  whole = d.whole;
}

-- the certificate of the one that is taken is there
pub weighed_there : (k : Course) (w : Weighing) (parts : List (List ℕ)) (text : List ℕ) (s t : List Spot) (part : ℕ) (m : Mark) → (d : IsDueWeighed k w parts text s) → length t ≡ length s → IsMarked d.certs d.taken (part, m) → length t ≤ part → ⊥
weighed_there k w parts text s t part m d e marked past = let q : d.taken.part < length s = one_below d.taken.part s d.there.0 in absurd (omega (arith, q, marked.0, past))

-- all were, and the certificate of the one that is taken stands before it again
pub weighed_over : (k : Course) (w w' : Weighing) (parts : List (List ℕ)) (text : List ℕ) (s t : List Spot) (part : ℕ) (m : Mark) → (d : IsDueWeighed k w parts text s) → length t ≡ length s → IsWeighed d.certs d.taken d.ends w' t → IsMarked d.certs d.taken (part, m) →
    IsDueBehind k part 1 parts text (set t part (rewound m))
weighed_over k w w' parts text s t part m d e all marked =
    let p : ℕ = d.taken.part in
    let ls : List Line = tree_lines d.taken.tree in
    let B : Bool → ℕ → Spot → Type 0 = λ b i x. IsBefore (k.cert i) (cond b (rule_texts ls) [] ++ (lines_due i d.due ++ k.rest i)) x in
    let q : p < length s = one_below p s d.there.0 in
    let n : p < length t = omega arith in
    let C : List ℕ → Type 0 = λ z. IsBefore z (ahead_of d.taken) (rewound m) in
    let D : List (List ℕ) → Type 0 = λ z. IsBefore (k.cert p) z (rewound m) in
    let here : B true p (rewound m) = subst D (ap (λ z. z ++ d.taken.behind) (texts_same ls) ∙ ap (λ z. rule_texts ls ++ z) d.behind) (subst C (d.certs_are p q) marked.1) in
    let stand : Stand k.cert (λ i. cond (nat_eq i p) (rule_texts ls) [] ++ (lines_due i d.due ++ k.rest i)) (set t p (rewound m)) = λ i l. elim (cases_eq i p) [
      | inl q ↦ let R : ℕ → Type 0 = λ j. B (nat_eq j p) j (spot_at (set t p (rewound m)) j) in
          let Q : Bool → Type 0 = λ b. B b p (spot_at (set t p (rewound m)) p) in
          let S : Spot → Type 0 = λ x. B true p x in
          subst R (sym q) (subst Q (sym (eq-eqb p p refl)) (subst S (sym (spot_same t p (rewound m) n)) here))
      | inr ne ↦
          let l' : i < length t = omega (arith, length-set t p (rewound m)) in
          let l'' : i < length s = omega arith in
          let Q : Bool → Type 0 = λ b. B b i (spot_at (set t p (rewound m)) i) in
          let S : Spot → Type 0 = λ x. B false i x in
          let E : List ℕ → Type 0 = λ z. IsBefore z (lines_due i d.due ++ k.rest i) (spot_at t i) in
          let F : List (List ℕ) → Type 0 = λ z. IsBefore (get_or d.certs i []) z (spot_at t i) in
          subst Q (sym (ne_eqb i p ne)) (subst S (sym (spot_other t p i (rewound m) ne)) (subst E (d.certs_are i l'') (subst F (d.ends_are i l'') (before-at d.certs d.ends t i l' all.before))))
    ] in
    let there-now : AreThere ((p ∷ []) ∷ parts) (set t p (rewound m)) = there_moved ((p ∷ []) ∷ parts) s (set t p (rewound m)) (length-set t p (rewound m) ∙ e) d.there in
    let P : ℕ → Type 0 = λ j. IsDueBehind k j 1 parts text (set t j (rewound m)) in
    subst P (sym marked.0) (record { lines = ls; trees = one_tree d.taken.tree d.shaped; spelled = d.spelled; due = d.due; places = d.places; there = there-now; good = d.good; stand = stand; whole = d.whole })
