-- Steps from place to place, and within the tree of one certificate.
use Rattle.std.proofs.Common.{◌≡◌, ◌<◌, ◌≤◌, ℕ, suc, zero, List, [], ◌∷◌, ◌++◌, length, map, get_or, set, reverse, Bool, true, false, cond, Vec, nat_eq, inl, inr, refl, sym, ap, subst, ◌∙◌, arith, append_assoc, length-set}
use Rattle.std.proofs.lemmas.Bool.{ne_eqb, eq-eqb, cases_eq}
use Rattle.std.proofs.lemmas.List.{append-nil, map-append, reverse-append}
use Rattle.cover_model.specs.Rules.{Line}
use Rattle.cert_join.specs.Spot.{Spot, IsBefore}
use Rattle.cert_join.specs.Gathered.{spot_at, Stand, AreResized, Meeting, parts_of, numbers_at, lists_of}
use Rattle.cert_join.specs.Due.{rule_texts, text_by, lines_due, AreTreesOf, IsCopying, Yields, Course, IsWhole, IsDue, IsDueBehind, stacked}
use Rattle.cert_join.proofs.Copying.{resized}
use Rattle.cert_join.proofs.Passing.{one_below, read_spot, spot_same, spot_other, there_moved}

-- ---- the stack

pub stacked_push : {Z : Type 0} (vs : List (Vec ℕ Z)) (v : Vec ℕ Z) → stacked (vs ++ (v ∷ [])) ≡ v.items ∷ stacked vs
stacked_push {Z} vs v = ap reverse (map-append (λ (x : Vec ℕ Z). x.items) vs (v ∷ [])) ∙ reverse-append (map (λ (x : Vec ℕ Z). x.items) vs) (v.items ∷ [])

pub stacked_none : {Z : Type 0} (vs : List (Vec ℕ Z)) → length vs ≡ 0 → stacked vs ≡ []
stacked_none [] e = refl
stacked_none (v ∷ vs) e = absurd (omega arith)

-- ---- more is known of next lines

stand-resized : (cert : ℕ → List ℕ) (ahead : ℕ → List (List ℕ)) (s t : List Spot) → AreResized s t → Stand cert ahead s → Stand cert ahead t
stand-resized cert ahead s t r stand i n = resized (cert i) (ahead i) (spot_at s i) (spot_at t i) (r.each i) (stand i (omega (arith, r.count)))

pub due_resized : (k : Course) (parts : List (List ℕ)) (text : List ℕ) (s t : List Spot) → AreResized s t → IsDue k parts text s → IsDue k parts text t
due_resized k parts text s t r d = record { due = d.due; places = d.places; there = there_moved parts s t r.count d.there; good = d.good; stand = stand-resized k.cert _ s t r d.stand; whole = d.whole }

-- ---- all is over

over-none : (k : Course) (due : List Meeting) (text : List ℕ) (s : List Spot) → map parts_of due ≡ [] → Stand k.cert (λ i. lines_due i due ++ k.rest i) s → ((out : List ℕ) → Yields k.numbers due out → IsWhole k (text ++ out)) →
    IsWhole k text × Stand k.cert k.rest s
over-none k [] text s e stand whole = let P : List ℕ → Type 0 = λ z. IsWhole k z in (subst P (append-nil text) (whole [] refl), stand)
over-none k (place ∷ due) text s e stand whole = cc

pub due_over : (k : Course) (parts : List (List ℕ)) (text : List ℕ) (s : List Spot) → parts ≡ [] → IsDue k parts text s → IsWhole k text × Stand k.cert k.rest s
due_over k parts text s e d = over-none k d.due text s (d.places ∙ e) d.stand d.whole

-- ---- within a tree

module _ (k : Course) (part w w' : ℕ) (parts : List (List ℕ)) (text text' : List ℕ) (s : List Spot) (t : Spot) where
  -- lines were copied
  pub copied_state : (numbers : List ℕ) → numbers ≡ numbers_at k.numbers part → part < length s → IsDueBehind k part w parts text s →
      ((cert : List ℕ) (rest : List (List ℕ)) (whole : List ℕ) → IsCopying cert numbers rest whole w text (spot_at s part) → IsCopying cert numbers rest whole w' text' t) →
      IsDueBehind k part w' parts text' (set s part t)
  copied_state numbers same n d copies =
      let own : List ℕ = numbers_at k.numbers part in
      let more : List (List ℕ) = lines_due part d.due ++ k.rest part in
      let P : List ℕ → Type 0 = λ z. (cert : List ℕ) (rest : List (List ℕ)) (whole : List ℕ) → IsCopying cert z rest whole w text (spot_at s part) → IsCopying cert z rest whole w' text' t in
      let B : Bool → List Line → ℕ → Spot → Type 0 = λ b ls i x. IsBefore (k.cert i) (cond b (rule_texts ls) [] ++ (lines_due i d.due ++ k.rest i)) x in
      let here : B true d.lines part (spot_at s part) = let Q : Bool → Type 0 = λ b. B b d.lines part (spot_at s part) in subst Q (eq-eqb part part refl) (d.stand part n) in
      let c : IsCopying (k.cert part) own more (text ++ text_by own d.lines) w' text' t =
      subst P same copies (k.cert part) more (text ++ text_by own d.lines) (record { lines = d.lines; trees = d.trees; spelled = d.spelled; before = here; adds_up = refl }) in
      record {
        lines = c.lines;
        trees = c.trees;
        spelled = c.spelled;
        due = d.due;
        places = d.places;
        there = there_moved ((part ∷ []) ∷ parts) s (set s part t) (length-set s part t) d.there;
        good = d.good;
        stand = λ i m. elim (cases_eq i part) [
          | inl e ↦ let R : ℕ → Type 0 = λ j. B (nat_eq j part) c.lines j (spot_at (set s part t) j) in
              let Q : Bool → Type 0 = λ b. B b c.lines part (spot_at (set s part t) part) in
              let S : Spot → Type 0 = λ x. B true c.lines part x in
              subst R (sym e) (subst Q (sym (eq-eqb part part refl)) (subst S (sym (spot_same s part t n)) c.before))
          | inr ne ↦
              let Q : Bool → Type 0 = λ b. B b c.lines i (spot_at (set s part t) i) in
              let S : Spot → Type 0 = λ x. B false c.lines i x in
              let Q' : Bool → Type 0 = λ b. B b d.lines i (spot_at s i) in
              subst Q (sym (ne_eqb i part ne)) (subst S (sym (spot_other s part i t ne)) (subst Q' (ne_eqb i part ne) (d.stand i (omega (arith, length-set s part t)))))
        ];
        whole = λ out y. let W : List ℕ → Type 0 = λ z. IsWhole k z in
            subst W (sym (append_assoc text (text_by own d.lines) out) ∙ ap (λ z. z ++ out) c.adds_up ∙ append_assoc text' (text_by own c.lines) out) (d.whole out y);
      }

no-lines-left : (ls : List Line) → AreTreesOf ls 0 → ls ≡ []
no-lines-left [] h = refl
no-lines-left (l ∷ ls) h = absurd (omega (arith, h.0))

cond-none : (b : Bool) → cond b (rule_texts []) [] ≡ []
cond-none true = refl
cond-none false = refl

-- none waits any more
pub copied_all : (k : Course) (part w : ℕ) (parts : List (List ℕ)) (text : List ℕ) (s : List Spot) → w ≡ 0 → IsDueBehind k part w parts text s → IsDue k parts text s
copied_all k part w parts text s e d =
    let T : ℕ → Type 0 = λ z. AreTreesOf d.lines z in
    let none : d.lines ≡ [] = no-lines-left d.lines (subst T e d.trees) in
    record {
      due = d.due;
      places = d.places;
      there = d.there.1;
      good = d.good;
      stand = λ i n. let P : List (List ℕ) → Type 0 = λ z. IsBefore (k.cert i) (z ++ (lines_due i d.due ++ k.rest i)) (spot_at s i) in
          subst P (ap (λ z. cond (nat_eq i part) (rule_texts z) []) none ∙ cond-none (nat_eq i part)) (d.stand i n);
      whole = λ out y. let P : List Line → Type 0 = λ z. IsWhole k (text ++ (text_by (numbers_at k.numbers part) z ++ out)) in subst P none (d.whole out y);
    }

-- ---- the numbers of one certificate

pub numbers_read : {Z : Type 0} (vs : List (Vec ℕ Z)) (p : ℕ) (d : Vec ℕ Z) → p < length vs → (get_or vs p d).items ≡ numbers_at (lists_of vs) p
numbers_read [] p d h = absurd (omega arith)
numbers_read (v ∷ vs) zero d h = refl
numbers_read (v ∷ vs) (suc p) d h = numbers_read vs p d (omega arith)

pub numbers_none : {Z : Type 0} (vs : List (Vec ℕ Z)) (p : ℕ) → length vs ≤ p → [] ≡ numbers_at (lists_of vs) p
numbers_none [] zero h = refl
numbers_none [] (suc p) h = refl
numbers_none (v ∷ vs) zero h = absurd (omega (arith, h))
numbers_none (v ∷ vs) (suc p) h = numbers_none vs p (omega (arith, h))

pub copied_read : {Z : Type 0} (k : Course) (part w w' : ℕ) (parts : List (List ℕ)) (text text' : List ℕ) (s : List Spot) (r t : Spot) (vs : List (Vec ℕ Z)) (numbers : List ℕ) → k.numbers ≡ lists_of vs → part < length s →
    numbers ≡ numbers_at (lists_of vs) part → IsDueBehind k part w parts text s →
    ((cert : List ℕ) (rest : List (List ℕ)) (whole : List ℕ) → IsCopying cert numbers rest whole w text (get_or s part r) → IsCopying cert numbers rest whole w' text' t) →
    IsDueBehind k part w' parts text' (set s part t)
copied_read k part w w' parts text text' s r t vs numbers same n e d copies =
    let P : Spot → Type 0 = λ x. (cert : List ℕ) (rest : List (List ℕ)) (whole : List ℕ) → IsCopying cert numbers rest whole w text x → IsCopying cert numbers rest whole w' text' t in
    copied_state k part w w' parts text text' s t numbers (e ∙ ap (λ z. numbers_at z part) (sym same)) n d (subst P (read_spot s part r n) copies)

-- the certificate is there
pub copied_there : (k : Course) (part w : ℕ) (parts : List (List ℕ)) (text : List ℕ) (s : List Spot) → IsDueBehind k part w parts text s → length s ≤ part → ⊥
copied_there k part w parts text s d past = let h : part < length s = one_below part s d.there.0 in absurd (omega (arith, h, past))
