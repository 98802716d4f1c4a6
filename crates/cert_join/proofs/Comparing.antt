-- Trees at one place are sorted by what their first lines leave.
use Rattle.std.proofs.Common.{◌≡◌, ◌<◌, ℕ, suc, List, [], ◌∷◌, ◌++◌, length, map, Bool, true, false, cond, ◌||◌, nat_eq, inl, inr, refl, sym, ap, subst, ◌∙◌, arith, append_assoc}
use Rattle.std.specs.List.{AllByRecursion}
use Rattle.std.proofs.lemmas.Bool.{ne_eqb, both_ways, eq-eqb, cases_Bool}
use Rattle.std.proofs.lemmas.List.{append-nil, length-map}
use Rattle.cover_model.specs.Rules.{Line}
use Rattle.cover_model.specs.Derivation.{Tree, leaf, then, fork, tree_lines}
use Rattle.cert_joined.specs.Joined.{first_line}
use Rattle.cert_joined.specs.Covers.{arity, IsShaped}
use Rattle.cert_join.specs.Kinds.{rule_text}
use Rattle.cert_join.specs.Spot.{Spot, IsBefore, IsReady}
use Rattle.cert_join.specs.Gathered.{spot_at, is_in, AreDistinct, Stand, AllReady, AreThere, PassedIf, ArePassed, Meeting, parts_of, does_leave, going, leaving, AreNext}
use Rattle.cert_join.specs.Due.{rule_texts, AreTreesOf, due_behind, lines_at, lines_due, IsMeeting, Yields, Course, IsWhole, IsDue, IsDueBehind, IsHere, AllGo, AllLeave}
use Rattle.cert_join.proofs.Passing.{there_moved}
use Rattle.cert_join.proofs.Meetings.{stand_passed, ahead_before, next_known, AllShaped, AllSpelled, ahead_going, cut_first, first_spelled, lines_behind, none_leaving, not_there, or_parts}
use Rattle.cert_join.proofs.Yielding.{yields_going, yields_one, all_go, all_leave}

-- ---- the next lines

skip-at : (i : ℕ) (x : ℕ × Tree) (place : Meeting) → is_in x.0 (parts_of place) ≡ false → is_in i (parts_of place) ≡ true → nat_eq i x.0 ≡ false
skip-at i x place d h = ne_eqb i x.0 (λ e. both_ways _ d (ap (λ j. is_in j (parts_of place)) (sym e) ∙ h))

in-later : (i : ℕ) (x : ℕ × Tree) (place : Meeting) → is_in i (parts_of place) ≡ true → is_in i (parts_of (x ∷ place)) ≡ true
in-later i x place h = elim (cases_Bool (nat_eq i x.0)) [ inl e ↦ ap (λ b. b || is_in i (parts_of place)) e | inr e ↦ ap (λ b. b || is_in i (parts_of place)) e ∙ h ]

in-first : (x : ℕ × Tree) (place : Meeting) → is_in x.0 (parts_of (x ∷ place)) ≡ true
in-first x place = ap (λ b. b || is_in x.0 (parts_of place)) (eq-eqb x.0 x.0 refl)

module _ (cert : ℕ → List ℕ) (ahead : ℕ → List (List ℕ)) (s : List Spot) (stand : Stand cert ahead s) where
  all-next : (place : Meeting) → AreDistinct (parts_of place) → AllShaped place → AllSpelled place →
      ((i : ℕ) → is_in i (parts_of place) ≡ true → (more : List (List ℕ)) × (ahead i ≡ lines_at i place ++ more)) → AllReady (parts_of place) s → AreNext s place
  all-next [] d shaped spelled h ready = tt
  all-next (x ∷ place) d shaped spelled h ready = (
    (
      (λ n.
          let m = h x.0 (in-first x place) in
          let tail : List (List ℕ) = lines_behind (arity (first_line x.1)) x.1 in
          let e : ahead x.0 ≡ rule_text (first_line x.1) ∷ (tail ++ m.0) =
          m.1 ∙ ap (λ b. cond b (rule_texts (tree_lines x.1)) (lines_at x.0 place) ++ m.0) (eq-eqb x.0 x.0 refl) ∙ ap (λ z. z ++ m.0) (cut_first (arity (first_line x.1)) x.1 refl shaped.0) in
          let P : List (List ℕ) → Type 0 = λ z. IsBefore (cert x.0) z (spot_at s x.0) in
          next_known (cert x.0) (rule_text (first_line x.1)) (tail ++ m.0) (spot_at s x.0) (first_spelled x.1 spelled.0).1 (subst P e (stand x.0 n)) (ready x.0 n (in-first x place))),
      first_spelled x.1 spelled.0,
    ),
    all-next place d.1 shaped.1 spelled.1
        (λ i q. let m = h i (in-later i x place q) in (m.0, m.1 ∙ ap (λ b. cond b (rule_texts (tree_lines x.1)) (lines_at i place) ++ m.0) (skip-at i x place d.0 q)))
        (λ i n q. ready i n (in-later i x place q)),
  )

-- the trees that are due at the first place, whose lines are ready
make-here : (k : Course) (now : List ℕ) (parts : List (List ℕ)) (text : List ℕ) (s : List Spot) (first : ℕ × Tree) (others : Meeting) (due : List Meeting) → parts_of (first ∷ others) ≡ now → map parts_of due ≡ parts → AreThere (now ∷ parts) s →
    IsMeeting (first ∷ others) → AllByRecursion IsMeeting due → AllReady now s → Stand k.cert (λ i. lines_due i ((first ∷ others) ∷ due) ++ k.rest i) s →
    ((out : List ℕ) → Yields k.numbers ((first ∷ others) ∷ due) out → IsWhole k (text ++ out)) → IsHere k now parts text s
make-here k now parts text s first others due here places there met good ready stand whole =
    let P : List ℕ → Type 0 = λ z. AllReady z s in
    record {
      first = first;
      others = others;
      due = due;
      here = here;
      places = places;
      there = there;
      met = met;
      good = good;
      ready = ready;
      stand = stand;
      whole = whole;
      next = all-next k.cert (λ i. lines_due i ((first ∷ others) ∷ due) ++ k.rest i) s stand (first ∷ others) met.distinct met.shaped met.spelled
          (λ i q. (lines_due i due ++ k.rest i, append_assoc (lines_at i (first ∷ others)) (lines_due i due) (k.rest i))) (subst P (sym here) ready);
    }

open-due : (k : Course) (now : List ℕ) (parts : List (List ℕ)) (text : List ℕ) (s : List Spot) (due : List Meeting) → map parts_of due ≡ now ∷ parts → AreThere (now ∷ parts) s → AllByRecursion IsMeeting due → AllReady now s →
    Stand k.cert (λ i. lines_due i due ++ k.rest i) s → ((out : List ℕ) → Yields k.numbers due out → IsWhole k (text ++ out)) → IsHere k now parts text s
open-due k now parts text s [] places there good ready stand whole = cc
open-due k now parts text s ([] ∷ due) places there good ready stand whole = absurd (omega (arith, good.0.some))
open-due k now parts text s ((x ∷ place) ∷ due) places there good ready stand whole =
    let e : parts_of (x ∷ place) ≡ now = cc in
    let f : map parts_of due ≡ parts = cc in
    make-here k now parts text s x place due e f there good.0 good.1 ready stand whole

pub here_due : (k : Course) (now : List ℕ) (parts : List (List ℕ)) (text : List ℕ) (s : List Spot) → IsDue k (now ∷ parts) text s → AllReady now s → IsHere k now parts text s
here_due k now parts text s d ready = open-due k now parts text s d.due d.places d.there d.good ready d.stand d.whole

-- ---- those that go on

gone-cases : (b : Bool) (i : ℕ) (x : ℕ × Tree) (rest : Meeting) → nat_eq i x.0 ≡ false → is_in i (parts_of rest) ≡ false → is_in i (parts_of (cond b rest (x ∷ rest))) ≡ false
gone-cases true i x rest n e = e
gone-cases false i x rest n e = ap (λ z. z || is_in i (parts_of rest)) n ∙ e

none-gone : (i : ℕ) (place : Meeting) → is_in i (parts_of place) ≡ false → is_in i (parts_of (going place)) ≡ false
none-gone i [] e = refl
none-gone i (x ∷ place) e = gone-cases (does_leave x) i x (going place) (or_parts _ _ e).0 (none-gone i place (or_parts _ _ e).1)

apart-step : (b n : Bool) (i : ℕ) (x : ℕ × Tree) (place : Meeting) → nat_eq i x.0 ≡ n → is_in x.0 (parts_of place) ≡ false → (is_in i (parts_of (going place)) ≡ true → is_in i (parts_of (leaving place)) ≡ false) →
    is_in i (parts_of (cond b (going place) (x ∷ going place))) ≡ true → is_in i (parts_of (cond b (x ∷ leaving place) (leaving place))) ≡ false
apart-step true true i x place e d h q = absurd (both_ways _ (none-gone i place (not_there i x place e d)) q)
apart-step true false i x place e d h q = ap (λ z. z || is_in i (parts_of (leaving place))) e ∙ h q
apart-step false true i x place e d h q = none_leaving i place (not_there i x place e d)
apart-step false false i x place e d h q = h (sym (ap (λ z. z || is_in i (parts_of (going place))) e) ∙ q)

apart : (i : ℕ) (place : Meeting) → AreDistinct (parts_of place) → is_in i (parts_of (going place)) ≡ true → is_in i (parts_of (leaving place)) ≡ false
apart i [] d q = refl
apart i (x ∷ place) d q = apart-step (does_leave x) (nat_eq i x.0) i x place refl d.0 (apart i place d.1) q

gone-in : (i : ℕ) (place : Meeting) → is_in i (parts_of (going place)) ≡ true → is_in i (parts_of place) ≡ true
gone-in i place q = elim (cases_Bool (is_in i (parts_of place))) [ inl e ↦ e | inr e ↦ absurd (both_ways _ (none-gone i place e) q) ]

distinct-cond : (b : Bool) (x : ℕ × Tree) (rest : Meeting) → is_in x.0 (parts_of rest) ≡ false → AreDistinct (parts_of rest) → AreDistinct (parts_of (cond b rest (x ∷ rest)))
distinct-cond true x rest e d = d
distinct-cond false x rest e d = (e, d)

distinct-going : (place : Meeting) → AreDistinct (parts_of place) → AreDistinct (parts_of (going place))
distinct-going [] d = tt
distinct-going (x ∷ place) d = distinct-cond (does_leave x) x (going place) (none-gone x.0 place d.0) (distinct-going place d.1)

all-cond : (P : (ℕ × Tree) → Type 0) (b : Bool) (x : ℕ × Tree) (rest : Meeting) → P x → AllByRecursion P rest → AllByRecursion P (cond b rest (x ∷ rest))
all-cond P true x rest h hs = hs
all-cond P false x rest h hs = (h, hs)

all-going : (P : (ℕ × Tree) → Type 0) (place : Meeting) → AllByRecursion P place → AllByRecursion P (going place)
all-going P [] hs = tt
all-going P (x ∷ place) hs = all-cond P (does_leave x) x (going place) hs.0 (all-going P place hs.1)

distinct-leaving-cond : (b : Bool) (x : ℕ × Tree) (rest : Meeting) → is_in x.0 (parts_of rest) ≡ false → AreDistinct (parts_of rest) → AreDistinct (parts_of (cond b (x ∷ rest) rest))
distinct-leaving-cond true x rest e d = (e, d)
distinct-leaving-cond false x rest e d = d

distinct-leaving : (place : Meeting) → AreDistinct (parts_of place) → AreDistinct (parts_of (leaving place))
distinct-leaving [] d = tt
distinct-leaving (x ∷ place) d = distinct-leaving-cond (does_leave x) x (leaving place) (none_leaving x.0 place d.0) (distinct-leaving place d.1)

same-spot : (b : Bool) (s t : Spot) → b ≡ false → PassedIf b s t → t ≡ s
same-spot b s t e h = let P : Bool → Type 0 = λ c. PassedIf c s t in subst P e h

no-parts : (place : Meeting) → length (parts_of place) ≡ 0 → place ≡ []
no-parts [] e = refl
no-parts (x ∷ place) e = absurd (omega arith)

module _ (k : Course) (now : List ℕ) (parts : List (List ℕ)) (text : List ℕ) (s t : List Spot) (h : IsHere k now parts text s) where
  still-ready : ArePassed (parts_of (leaving (h.first ∷ h.others))) s t → AllReady (parts_of (going (h.first ∷ h.others))) t
  still-ready passed i n q =
      let n' : i < length s = omega (arith, passed.count) in
      let P : Spot → Type 0 = λ x. IsReady x in
      let e : spot_at t i ≡ spot_at s i = same-spot _ _ _ (apart i (h.first ∷ h.others) h.met.distinct q) (passed.each i n') in
      subst P (sym e) (h.ready i n' (ap (is_in i) (sym h.here) ∙ gone-in i (h.first ∷ h.others) q))

  -- those that left were passed, and some go on
  here-going : (gone : Meeting) → going (h.first ∷ h.others) ≡ gone → 0 < length gone → ArePassed (parts_of (leaving (h.first ∷ h.others))) s t →
      (n : IsHere k (parts_of gone) parts text t) × AllGo (n.first ∷ n.others)
  unfolding make-here
  here-going [] e some passed = absurd (omega arith)
  here-going (y ∷ more) e some passed =
      let whole : Meeting = h.first ∷ h.others in
      let M : Meeting → Type 0 = λ z. IsMeeting z in
      let R : Meeting → Type 0 = λ z. AllReady (parts_of z) t in
      let S : Meeting → Type 0 = λ z. Stand k.cert (λ i. lines_due i (z ∷ h.due) ++ k.rest i) t in
      let G : Meeting → Type 0 = λ z. AllGo z in
      let T : Meeting → Type 0 = λ z. AreThere (parts_of z ∷ parts) t in
      let Y : Meeting → Type 0 = λ z. (out : List ℕ) → Yields k.numbers (z ∷ h.due) out → IsWhole k (text ++ out) in
      let some' : 0 < length (going whole) = omega (arith, ap length e) in
      let there : AreThere (parts_of (going whole) ∷ parts) t =
      there_moved (parts_of (going whole) ∷ parts) s t passed.count ((λ i q. h.there.0 i (ap (is_in i) (sym h.here) ∙ gone-in i whole q)), h.there.1) in
      let met : IsMeeting (going whole) = record {
        some = some';
        distinct = distinct-going whole h.met.distinct;
        shaped = all-going _ whole h.met.shaped;
        spelled = all-going _ whole h.met.spelled;
      } in
      let stand : Stand k.cert (λ i. lines_due i (going whole ∷ h.due) ++ k.rest i) t =
      stand_passed k.cert (λ i. lines_due i (whole ∷ h.due) ++ k.rest i) (λ i. lines_due i (going whole ∷ h.due) ++ k.rest i) (parts_of (leaving whole)) s t
      (λ i. ahead_before _ _ _ _ _ (ahead_going i whole h.met.distinct h.met.shaped h.met.spelled)) h.stand
      (λ i n q. elim (cases_Bool (is_in i (parts_of whole))) [ inl f ↦ h.ready i n (ap (is_in i) (sym h.here) ∙ f) | inr f ↦ absurd (both_ways _ (none_leaving i whole f) q) ]) passed in (
        make-here k (parts_of (y ∷ more)) parts text t y more h.due refl h.places (subst T e there) (subst M e met) h.good (subst R e (still-ready passed)) (subst S e stand)
            (subst Y e (λ out z. h.whole out (yields_going k.numbers whole h.due out h.met.shaped (all-going _ whole h.met.shaped) z))),
        subst G e (all_go whole),
      )

  pub going_here : (grown left : List ℕ) → grown ≡ parts_of (going (h.first ∷ h.others)) → left ≡ parts_of (leaving (h.first ∷ h.others)) → 0 < length grown → (AreDistinct left → ArePassed left s t) →
      (n : IsHere k grown parts text t) × AllGo (n.first ∷ n.others)
  going_here grown left e f some passed =
      let whole : Meeting = h.first ∷ h.others in
      let P : List ℕ → Type 0 = λ z. AreDistinct z → ArePassed z s t in
      let Q : List ℕ → Type 0 = λ z. (n : IsHere k z parts text t) × AllGo (n.first ∷ n.others) in
      let some' : 0 < length (going whole) = omega (arith, ap length e, length-map {A = ℕ × Tree} {B = ℕ} (going whole) (λ (x : ℕ × Tree). x.0)) in
      subst Q (sym e) (here-going (going whole) refl some' (subst P f passed (distinct-leaving whole h.met.distinct)))

  -- none goes on
  pub leaving_here : (grown : List ℕ) → grown ≡ parts_of (going (h.first ∷ h.others)) → length grown ≡ 0 → AllLeave (h.first ∷ h.others)
  leaving_here grown e none = all_leave (h.first ∷ h.others) (no-parts (going (h.first ∷ h.others)) (sym (ap length e) ∙ none))

-- ---- one goes on

trees-more : (t : Tree) (ls : List Line) (n : ℕ) → IsShaped t → AreTreesOf ls n → AreTreesOf (tree_lines t ++ ls) (suc n)
trees-more (leaf l) ls n s h =
    let P : ℕ → Type 0 = λ m. AreTreesOf ls m in
    let e : n ≡ due_behind (arity l) (suc n) = sym (ap (λ a. due_behind a (suc n)) s ∙ omega arith) in
    (omega arith, subst P e h)
trees-more (then l t) ls n s h =
    let P : ℕ → Type 0 = λ m. AreTreesOf (tree_lines t ++ ls) m in
    (omega arith, subst P (sym (ap (λ a. due_behind a (suc n)) s.0)) (trees-more t ls n s.1 h))
trees-more (fork l t u) ls n s h =
    let P : ℕ → Type 0 = λ m. AreTreesOf ((tree_lines t ++ tree_lines u) ++ ls) m in
    let Q : List Line → Type 0 = λ z. AreTreesOf z (suc (suc n)) in
    let e : suc (suc n) ≡ due_behind (arity l) (suc n) = sym (ap (λ a. due_behind a (suc n)) s.0 ∙ omega arith) in
    (omega arith, subst P e (subst Q (sym (append_assoc (tree_lines t) (tree_lines u) ls)) (trees-more t (tree_lines u ++ ls) (suc n) s.1 (trees-more u ls n s.2 h))))

-- the lines of a tree are those of one
pub one_tree : (t : Tree) → IsShaped t → AreTreesOf (tree_lines t) 1
one_tree t s = let Q : List Line → Type 0 = λ z. AreTreesOf z 1 in subst Q (append-nil (tree_lines t)) (trees-more t [] 0 s refl)

one-state : (k : Course) (parts : List (List ℕ)) (text : List ℕ) (s : List Spot) (x : ℕ × Tree) (others : Meeting) (due : List Meeting) → length (parts_of (x ∷ others)) ≡ 1 → map parts_of due ≡ parts → AreThere (parts_of (x ∷ others) ∷ parts) s →
    IsMeeting (x ∷ others) → AllByRecursion IsMeeting due → AllGo (x ∷ others) → Stand k.cert (λ i. lines_due i ((x ∷ others) ∷ due) ++ k.rest i) s →
    ((out : List ℕ) → Yields k.numbers ((x ∷ others) ∷ due) out → IsWhole k (text ++ out)) → IsDueBehind k x.0 1 parts text s
one-state k parts text s x (y ∷ others) due one places there met good go stand whole = absurd (omega arith)
one-state k parts text s x [] due one places there met good go stand whole = record {
  lines = tree_lines x.1;
  trees = one_tree x.1 met.shaped.0;
  spelled = met.spelled.0;
  due = due;
  places = places;
  there = there;
  good = good;
  stand = λ i n. let P : List (List ℕ) → Type 0 = λ z. IsBefore (k.cert i) z (spot_at s i) in
      subst P (append_assoc (lines_at i (x ∷ [])) (lines_due i due) (k.rest i)) (stand i n);
  whole = λ out y. whole _ (yields_one k.numbers x due out go met.shaped.0 y);
}

pub one_here : (k : Course) (now : List ℕ) (parts : List (List ℕ)) (text : List ℕ) (s : List Spot) (part : ℕ) → (h : IsHere k now parts text s) → part ≡ h.first.0 → AllGo (h.first ∷ h.others) → length now ≡ 1 →
    IsDueBehind k part 1 parts text s
one_here k now parts text s part h e go one =
    let P : ℕ → Type 0 = λ j. IsDueBehind k j 1 parts text s in
    let T : List ℕ → Type 0 = λ z. AreThere (z ∷ parts) s in
    subst P (sym e) (one-state k parts text s h.first h.others h.due (ap length h.here ∙ one) h.places (subst T (sym h.here) h.there) h.met h.good go h.stand h.whole)
