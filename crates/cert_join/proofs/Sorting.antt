-- Trees at one place, by what their first lines leave.
use Rattle.std.proofs.Common.{◌≡◌, ◌<◌, ◌≤◌, ℕ, suc, zero, ◌+◌, List, [], ◌∷◌, ◌++◌, length, take, get_or, Bool, true, false, cond, Some, Ok, Vec, refl, sym, ap, subst, ◌∙◌, arith}
use Rattle.std.specs.Prelude.{Err, OnOk, Result}
use Rattle.std.specs.List.{AllByRecursion}
use Rattle.std.specs.declared.alloc.AllocError.{AllocError}
use Rattle.std.proofs.lemmas.List.{get_or_read, append-nil, take_more, take_all, map-append, length-map}
use Rattle.cover_model.specs.Rules.{Line, open_line}
use Rattle.cover_model.specs.Derivation.{Tree, leaf}
use Rattle.cert_read.specs.CertLine.{CertLine, rule_line}
use Rattle.cert_read.specs.LineText.{IsSpelled, line_text}
use Rattle.cert_joined.specs.Joined.{first_line}
use Rattle.cert_joined.specs.Covers.{line_by, numbered}
use Rattle.cert_join.specs.declared.line.Left.{Left}
use Rattle.cert_join.specs.Kinds.{IsRenumbered, rule_text, left_kind, does_stay}
use Rattle.cert_join.specs.Spot.{Spot, line_in, or_none, text_in}
use Rattle.cert_join.specs.Gathered.{spot_at, nowhere, lists_of, numbers_at, Meeting, parts_of, does_leave, going, leaving, AllThere, IsNextOf, AreNext, text_at, AreAlike}
use Rattle.cert_join.proofs.Below.{leaving_left}
use Rattle.cert_join.proofs.Passing.{there_at}

some-tree : ℕ × Tree
some-tree = (0, leaf open_line)

all-at : {X : Type 0} (P : X → Type 0) (xs : List X) (k : ℕ) (d : X) → k < length xs → AllByRecursion P xs → P (get_or xs k d)
all-at P [] k d h hs = absurd (omega arith)
all-at P (x ∷ xs) zero d h hs = hs.0
all-at P (x ∷ xs) (suc k) d h hs = all-at P xs k d (omega arith) hs.1

all-append : {X : Type 0} (P : X → Type 0) (xs ys : List X) → AllByRecursion P xs → AllByRecursion P ys → AllByRecursion P (xs ++ ys)
all-append P [] ys hs hs' = hs'
all-append P (x ∷ xs) ys hs hs' = (hs.0, all-append P xs ys hs.1 hs')

part-at : (place : Meeting) (k : ℕ) → get_or (parts_of place) k 0 ≡ (get_or place k some-tree).0
unfolding some-tree
part-at [] k = refl
part-at (x ∷ place) zero = refl
part-at (x ∷ place) (suc k) = part-at place k

cond-append : (b : Bool) (x : ℕ × Tree) (xs zs : Meeting) → cond b (xs ++ zs) (x ∷ (xs ++ zs)) ≡ cond b xs (x ∷ xs) ++ zs
cond-append true x xs zs = refl
cond-append false x xs zs = refl

going-append : (xs ys : Meeting) → going (xs ++ ys) ≡ going xs ++ going ys
going-append [] ys = refl
going-append (x ∷ xs) ys = ap (λ z. cond (does_leave x) z (x ∷ z)) (going-append xs ys) ∙ cond-append (does_leave x) x (going xs) (going ys)

cond-append' : (b : Bool) (x : ℕ × Tree) (xs zs : Meeting) → cond b (x ∷ (xs ++ zs)) (xs ++ zs) ≡ cond b (x ∷ xs) xs ++ zs
cond-append' true x xs zs = refl
cond-append' false x xs zs = refl

leaving-append : (xs ys : Meeting) → leaving (xs ++ ys) ≡ leaving xs ++ leaving ys
leaving-append [] ys = refl
leaving-append (x ∷ xs) ys = ap (λ z. cond (does_leave x) (x ∷ z) z) (leaving-append xs ys) ∙ cond-append' (does_leave x) x (leaving xs) (leaving ys)

-- the next of these certificates, by what its line leaves
module _ (place : Meeting) (parts : List ℕ) (k : ℕ) (spots : List Spot) (kind : Left) (h : k < length parts) (e : parts_of place ≡ parts) (next : AreNext spots place)
    (there : get_or parts k 0 < length spots)
    (tells : (r : Line) → line_in (spot_at spots (get_or parts k 0)) ≡ Some (rule_text r) → kind ≡ left_kind r) where
  within : k < length place
  within = let m : length (parts_of place) ≡ length parts = ap length e in omega (arith, length-map {A = ℕ × Tree} {B = ℕ} place (λ x. x.0))

  part-is : get_or parts k 0 ≡ (get_or place k some-tree).0
  part-is = sym (ap (λ x. get_or x k 0) e) ∙ part-at place k

  stays-so : does_stay kind ≡ does_leave (get_or place k some-tree)
  unfolding part-is within
  stays-so =
      let n : IsNextOf spots (get_or place k some-tree) = all-at (IsNextOf spots) place k some-tree within next in
      let P : ℕ → Type 0 = λ j. j < length spots in
      let q : line_in (spot_at spots (get_or parts k 0)) ≡ Some (rule_text (first_line (get_or place k some-tree).1)) = ap (λ j. line_in (spot_at spots j)) part-is ∙ n.0 (subst P part-is there) in
      ap does_stay (tells _ q) ∙ sym (leaving_left (first_line (get_or place k some-tree).1))

  more : take (k + 1) place ≡ take k place ++ (get_or place k some-tree ∷ [])
  more = take_more place k some-tree within

  going-more : parts_of (going (take (k + 1) place)) ≡ parts_of (going (take k place)) ++ parts_of (going (get_or place k some-tree ∷ []))
  going-more = ap (λ z. parts_of (going z)) more ∙ ap parts_of (going-append (take k place) (get_or place k some-tree ∷ [])) ∙ map-append (λ (x : ℕ × Tree). x.0) (going (take k place)) _

  leaving-more : parts_of (leaving (take (k + 1) place)) ≡ parts_of (leaving (take k place)) ++ parts_of (leaving (get_or place k some-tree ∷ []))
  leaving-more = ap (λ z. parts_of (leaving z)) more ∙ ap parts_of (leaving-append (take k place) (get_or place k some-tree ∷ [])) ∙ map-append (λ (x : ℕ × Tree). x.0) (leaving (take k place)) _

  cond-parts : (b : Bool) (x : ℕ × Tree) (p : ℕ) → p ≡ x.0 → (parts_of (cond b [] (x ∷ [])) ≡ cond b [] (p ∷ [])) × (parts_of (cond b (x ∷ []) []) ≡ cond b (p ∷ []) [])
  cond-parts true x p q = (refl, ap (λ z. z ∷ []) (sym q))
  cond-parts false x p q = (ap (λ z. z ∷ []) (sym q), refl)

  pub sorted_more : (grown left : List ℕ) → (grown ≡ parts_of (going (take k place))) × (left ≡ parts_of (leaving (take k place))) →
      (grown ++ cond (does_stay kind) [] (get_or parts k 0 ∷ []) ≡ parts_of (going (take (k + 1) place))) ×
      (left ++ cond (does_stay kind) (get_or parts k 0 ∷ []) [] ≡ parts_of (leaving (take (k + 1) place)))
  sorted_more grown left was =
      let x : ℕ × Tree = get_or place k some-tree in
      let c = cond-parts (does_leave x) x (get_or parts k 0) part-is in
      let b : does_stay kind ≡ does_leave x = stays-so in (
        ap (λ z. z ++ cond (does_stay kind) [] (get_or parts k 0 ∷ [])) was.0 ∙ ap (λ z. parts_of (going (take k place)) ++ cond z [] (get_or parts k 0 ∷ [])) b
            ∙ ap (λ z. parts_of (going (take k place)) ++ z) (sym c.0) ∙ sym going-more,
        ap (λ z. z ++ cond (does_stay kind) (get_or parts k 0 ∷ []) []) was.1 ∙ ap (λ z. parts_of (leaving (take k place)) ++ cond z (get_or parts k 0 ∷ []) []) b
            ∙ ap (λ z. parts_of (leaving (take k place)) ++ z) (sym c.1) ∙ sym leaving-more,
      )

  Sorted-so : Bool → List ℕ → List ℕ → Type 0
  Sorted-so b grown left =
      (grown ++ cond b [] (get_or parts k 0 ∷ []) ≡ parts_of (going (take (k + 1) place))) ×
      (left ++ cond b (get_or parts k 0 ∷ []) [] ≡ parts_of (leaving (take (k + 1) place)))

  -- its line leaves its state
  pub sorted_left : (grown left : List ℕ) → (grown ≡ parts_of (going (take k place))) × (left ≡ parts_of (leaving (take k place))) → does_stay kind ≡ true →
      (grown ≡ parts_of (going (take (k + 1) place))) × (left ++ (get_or parts k 0 ∷ []) ≡ parts_of (leaving (take (k + 1) place)))
  unfolding Sorted-so
  sorted_left grown left was b =
      let m : Sorted-so true grown left = subst (λ (x : Bool). Sorted-so x grown left) b (sorted_more grown left was) in
      (sym (append-nil grown) ∙ m.0, m.1)

  -- it does not
  pub sorted_grown : (grown left : List ℕ) → (grown ≡ parts_of (going (take k place))) × (left ≡ parts_of (leaving (take k place))) → does_stay kind ≡ false →
      (grown ++ (get_or parts k 0 ∷ []) ≡ parts_of (going (take (k + 1) place))) × (left ≡ parts_of (leaving (take (k + 1) place)))
  unfolding Sorted-so
  sorted_grown grown left was b =
      let m : Sorted-so false grown left = subst (λ (x : Bool). Sorted-so x grown left) b (sorted_more grown left was) in
      (m.0, sym (append-nil left) ∙ m.1)

pub sorted_all : (place : Meeting) (parts : List ℕ) (k : ℕ) (grown left : List ℕ) → parts_of place ≡ parts → length parts ≤ k →
    (grown ≡ parts_of (going (take k place))) × (left ≡ parts_of (leaving (take k place))) → (grown ≡ parts_of (going place)) × (left ≡ parts_of (leaving place))
sorted_all place parts k grown left e h was =
    let m : length (parts_of place) ≡ length parts = ap length e in
    let t : take k place ≡ place = take_all k place (omega (arith, length-map {A = ℕ × Tree} {B = ℕ} place (λ x. x.0))) in
    (was.0 ∙ ap (λ z. parts_of (going z)) t, was.1 ∙ ap (λ z. parts_of (leaving z)) t)

-- ---- whether first lines are the same

-- what is appended of one of these certificates
abbrev pub Appends : List (List ℕ) → List Spot → ℕ → List ℕ → List ℕ → Type 0
Appends numbers spots part before after =
    part < length spots → (r : Line) → line_in (spot_at spots part) ≡ Some (rule_text r) → IsSpelled (rule_line r) → after ≡ before ++ text_at numbers part r

-- is its line
pub appended : (numbers : List (List ℕ)) (spots : List Spot) (part : ℕ) (before after : List ℕ) (x : ℕ × Tree) → x.0 ≡ part → IsNextOf spots x → x.0 < length spots →
    Appends numbers spots part before after → after ≡ before ++ text_at numbers x.0 (first_line x.1)
appended numbers spots part before after x e next there app =
    let P : ℕ → Type 0 = λ i. Appends numbers spots i before after in
    let a = subst P (sym e) app in
    a there (first_line x.1) (next.0 there) next.1

pub from_none : (numbers : List (List ℕ)) (spots : List Spot) (part : ℕ) (before after : List ℕ) → before ≡ [] → Appends numbers spots part before after → Appends numbers spots part [] after
from_none numbers spots part before after e app = let P : List ℕ → Type 0 = λ z. Appends numbers spots part z after in subst P e app

module _ (numbers : List (List ℕ)) (spots : List Spot) (x : ℕ × Tree) (place : Meeting) (others : List ℕ) (first : ℕ) (line : List ℕ)
    (first-is : x.0 ≡ first) (e : parts_of place ≡ others) (there : AllThere (parts_of (x ∷ place)) spots) (next : AreNext spots (x ∷ place)) (app : Appends numbers spots first [] line) where
  other-there : (k : ℕ) → k < length place → (get_or place k some-tree).0 < length spots
  unfolding some-tree
  other-there k w =
      let n : suc k < length (parts_of (x ∷ place)) = omega (arith, w, length-map {A = ℕ × Tree} {B = ℕ} place (λ x. x.0)) in
      let P : ℕ → Type 0 = λ j. j < length spots in
      subst P (part-at place k) (there_at (parts_of (x ∷ place)) (suc k) spots n there)

  same-at : (k : ℕ) (other : List ℕ) → k < length others → Appends numbers spots (get_or others k 0) [] other →
      (k < length place) × (line ≡ text_at numbers x.0 (first_line x.1)) × (other ≡ text_at numbers (get_or place k some-tree).0 (first_line (get_or place k some-tree).1))
  same-at k other h app' =
      let m : length (parts_of place) ≡ length others = ap length e in
      let w : k < length place = omega (arith, length-map {A = ℕ × Tree} {B = ℕ} place (λ x. x.0)) in (
        w,
        appended numbers spots first [] line x first-is next.0 (there_at (parts_of (x ∷ place)) 0 spots (omega arith) there) app,
        appended numbers spots (get_or others k 0) [] other (get_or place k some-tree) (sym (part-at place k) ∙ ap (λ z. get_or z k 0) e) (all-at (IsNextOf spots) place k some-tree w next.1) (other-there k w) app',
      )

  -- one more is the same
  pub alike_more : (k : ℕ) (other : List ℕ) → k < length others → Appends numbers spots (get_or others k 0) [] other → line ≡ other →
      AreAlike numbers x (take k place) → AreAlike numbers x (take (k + 1) place)
  alike_more k other h app' same was =
      let s = same-at k other h app' in
      let P : Meeting → Type 0 = λ z. AreAlike numbers x z in
      subst P (sym (take_more place k some-tree s.0)) (all-append _ (take k place) (get_or place k some-tree ∷ []) was (sym s.2 ∙ sym same ∙ s.1, tt))

  -- one is not
  pub alike_not : (k : ℕ) (other : List ℕ) → k < length others → Appends numbers spots (get_or others k 0) [] other → (line ≡ other → ⊥) → AreAlike numbers x place → ⊥
  alike_not k other h app' differ all =
      let s = same-at k other h app' in
      differ (s.1 ∙ sym (all-at _ place k some-tree s.0 all) ∙ sym s.2)

  pub alike_all : (k : ℕ) → length others ≤ k → AreAlike numbers x (take k place) → AreAlike numbers x place
  alike_all k h was =
      let m : length (parts_of place) ≡ length others = ap length e in
      let P : Meeting → Type 0 = λ z. AreAlike numbers x z in
      subst P (take_all k place (omega (arith, length-map {A = ℕ × Tree} {B = ℕ} place (λ x. x.0)))) was

-- ---- the line of one certificate, where it is read

pub line_appended : {Z : Type 0} (vs : List (Vec ℕ Z)) (part : ℕ) (spots : List Spot) (r : Spot) (numbers line text after : List ℕ) (o : Result (Unit {0}) AllocError) → part < length spots → r ≡ get_or spots part r →
    numbers ≡ numbers_at (lists_of vs) part → line ≡ text_in r → ((l : CertLine) → line ≡ line_text l → IsSpelled l → OnOk o (IsRenumbered numbers l text after)) → OnOk o (Appends (lists_of vs) spots part text after)
line_appended vs part spots r numbers line text after (Err x) h e n known taken = tt
line_appended vs part spots r numbers line text after (Ok x) h e n known taken = λ there l same spelled.
    let q : r ≡ spot_at spots part = get_or_read spots part r h e nowhere in
    let s : line ≡ rule_text l = known ∙ ap text_in q ∙ ap or_none same in
    taken (rule_line l) s spelled ∙ ap (λ z. text ++ rule_text (line_by (numbered z) l)) n

-- what the line of a certificate leaves
pub left_there : (spots : List Spot) (part : ℕ) (r : Spot) (line : List ℕ) (k : Left) → part < length spots → r ≡ get_or spots part r → line ≡ text_in r →
    ((l : Line) → line ≡ rule_text l → k ≡ left_kind l) → (l : Line) → line_in (spot_at spots part) ≡ Some (rule_text l) → k ≡ left_kind l
left_there spots part r line k h e known left l same = left l (known ∙ ap text_in (get_or_read spots part r h e nowhere) ∙ ap or_none same)
