-- Lists of bounds that are made of parts, one after another.
use Rattle.std.proofs.Common.{◌≡◌, ℕ, ◌+◌, ◌<◌, List, [], ◌∷◌, ◌++◌, length, refl, ap, ap₂, sym, ◌∙◌, subst, arith, append_assoc, append-nil, length-append}
use Rattle.std.specs.Prelude.{Result, Ok, Err}
use Rattle.std.specs.List.{All}
use Rattle.std.specs.declared.alloc.AllocError.{AllocError}
use Rattle.script_model.specs.Declared.{Bound, Bounding, known, constant_of, other, bounds, at_most_bounds, equal_bounds, concat}
use Rattle.dyadic.specs.Fraction.{Fraction}
use Rattle.script_model.specs.Meaning.{neighbours}
use Rattle.poly_graph.specs.Term.{Term, constant, variable, negate, add, multiply, square, Kind, le, ge, eq}
use Rattle.term_build.proofs.Lists.{index_before, get_end, get_index, all_head, all_tail, all_end, all_more}
use Rattle.declared_box.specs.Same.{SameNumber, SameBounds}
use Rattle.declared_box.specs.Table.{list_at, all_of, IsAdded}
use Rattle.declared_box.proofs.Same.{same_number_sym, same_bounds_append}
use Rattle.value_build.specs.Values.{Weighs}
use Rattle.value_build.specs.Weights.{weight, term_at, weights, WeighsEach}
use Rattle.value_build.specs.Bounds.{Give, AddsBounds, IsListing, bounds_of_kind, first_bounds, chained_bounds}
use Rattle.value_build.proofs.Growth.{lists_self, lists_on}

-- ---- lists of parts

abbrev Below : ℕ → ℕ → Type 0
Below n k = k < n

pub all_of_more : (lists more : List (List Bound)) (parts : List ℕ) → All (λ (k : ℕ). k < length lists) parts → all_of (lists ++ more) parts ≡ all_of lists parts
all_of_more lists more [] h = refl
all_of_more lists more (k ∷ parts) h = ap₂ (λ xs ys. xs ++ ys) (index_before lists more k [] (all_head (λ (k : ℕ). k < length lists) k parts h)) (all_of_more lists more parts (all_tail (λ (k : ℕ). k < length lists) k parts h))

all-of-end : (lists : List (List Bound)) (parts : List ℕ) (k : ℕ) → all_of lists (parts ++ (k ∷ [])) ≡ all_of lists parts ++ list_at lists k
all-of-end lists [] k = append-nil (list_at lists k)
all-of-end lists (j ∷ parts) k = ap (λ xs. list_at lists j ++ xs) (all-of-end lists parts k) ∙ sym (append_assoc (list_at lists j) (all_of lists parts) (list_at lists k))

pub list_at_end : (lists : List (List Bound)) (bs : List Bound) → list_at (lists ++ (bs ∷ [])) (length lists) ≡ bs
list_at_end lists bs = get_index (lists ++ (bs ∷ [])) (length lists) bs [] (get_end lists bs)

longer : (lists : List (List Bound)) (bs : List Bound) → length (lists ++ (bs ∷ [])) ≡ length lists + 1
longer lists bs = length-append lists (bs ∷ [])

give-more : (lists : List (List Bound)) (bs cs : List Bound) (parts : List ℕ) → Give lists parts cs → Give (lists ++ (bs ∷ [])) (parts ++ (length lists ∷ [])) (cs ++ bs)
give-more lists bs cs parts h = (
  all_end (λ (k : ℕ). k < length (lists ++ (bs ∷ []))) parts (length lists)
      (all_more (λ (k : ℕ). k < length lists) (λ (k : ℕ). k < length (lists ++ (bs ∷ []))) parts (λ k l. omega (arith, l, longer lists bs)) h.0) (omega (arith, longer lists bs)),
  all-of-end (lists ++ (bs ∷ [])) parts (length lists) ∙ ap₂ (λ xs ys. xs ++ ys) (all_of_more lists (bs ∷ []) parts h.0 ∙ h.1) (list_at_end lists bs),
)

pub adds_one : {X : Type 0} (lists lists' : List (List Bound)) (parts parts' : List ℕ) (bs : List Bound) (k : ℕ) (x : X) → IsAdded lists lists' bs k → parts' ≡ parts ++ (k ∷ []) → AddsBounds lists lists' parts parts' bs (Ok x)
adds_one lists lists' parts parts' bs k x a e = (
  (bs ∷ [], a.1),
  λ cs g. subst (λ (ls : List (List Bound)). Give ls parts' (cs ++ bs)) (sym a.1)
      (subst (λ (ps : List ℕ). Give (lists ++ (bs ∷ [])) ps (cs ++ bs)) (sym (e ∙ ap (λ j. parts ++ (j ∷ [])) a.0)) (give-more lists bs cs parts g)),
)

pub adds_none : {X : Type 0} (lists : List (List Bound)) (parts : List ℕ) (x : X) → AddsBounds lists lists parts parts [] (Ok x)
adds_none lists parts x = (lists_self lists, λ cs g. subst (λ (xs : List Bound). Give lists parts xs) (sym (append-nil cs)) g)

pub adds_two : {X Y : Type 0} (l l1 l2 : List (List Bound)) (p p1 p2 : List ℕ) (bs bs' : List Bound) (x : X) (r : Result Y AllocError) → AddsBounds l l1 p p1 bs (Ok x) → AddsBounds l1 l2 p1 p2 bs' r → AddsBounds l l2 p p2 (bs ++ bs') r
adds_two l l1 l2 p p1 p2 bs bs' x (Err e) h k = tt
adds_two l l1 l2 p p1 p2 bs bs' x (Ok y) h k = (lists_on l l1 l2 h.0 k.0, λ cs g. subst (λ (xs : List Bound). Give l2 p2 xs) (append_assoc cs bs bs') (k.1 (cs ++ bs) (h.1 cs g)))

-- ---- neighbours

chained-first : (kind : Kind) (ts : List Term) (k : ℕ) (ks : List ℕ) → chained_bounds kind (weights ts (k ∷ ks)) ≡ first_bounds kind ts k ks ++ chained_bounds kind (weights ts ks)
chained-first kind ts k [] = refl
chained-first kind ts k (j ∷ ks) = refl

pub listing_step : {X : Type 0} (kind : Kind) (ts : List Term) (l l1 l2 : List (List Bound)) (all : List Bound) (p p' : List ℕ) (k : ℕ) (ks : List ℕ) (x : X) → IsListing kind ts l l1 all p (chained_bounds kind (weights ts (k ∷ ks))) →
    AddsBounds l1 l2 p p' (first_bounds kind ts k ks) (Ok x) → IsListing kind ts l l2 all p' (chained_bounds kind (weights ts ks))
listing_step kind ts l l1 l2 all p p' k ks x h a = record {
  more = lists_on l l1 l2 h.more a.0;
  so_far = h.so_far ++ first_bounds kind ts k ks;
  given = a.1 h.so_far h.given;
  same = append_assoc h.so_far (first_bounds kind ts k ks) (chained_bounds kind (weights ts ks)) ∙ ap (λ xs. h.so_far ++ xs) (sym (chained-first kind ts k ks)) ∙ h.same;
}

-- ---- the same bounds

-- what a tree says is what its expression is, as far as the number goes
pub data Alike : Bounding → Bounding → Type 0 where
  alike_known : {p q : Fraction} → SameNumber p q → Alike (known p) (known q)
  alike_axis : {axis : ℕ} → Alike (constant_of axis) (constant_of axis)
  alike_other : Alike other other

pub weighs_alike : (t : Term) (b : Bounding) → Weighs t b → Alike (weight t) b
weighs_alike (constant q) b h = subst (λ (x : Bounding). Alike (known q) x) (sym h.1) (alike_known (same_number_sym h.0 q h.2))
weighs_alike (variable axis) b h = subst (λ (x : Bounding). Alike (constant_of axis) x) (sym h) alike_axis
weighs_alike (negate t) b h = subst (λ (x : Bounding). Alike other x) (sym h) alike_other
weighs_alike (add t u) b h = subst (λ (x : Bounding). Alike other x) (sym h) alike_other
weighs_alike (multiply t u) b h = subst (λ (x : Bounding). Alike other x) (sym h) alike_other
weighs_alike (square t) b h = subst (λ (x : Bounding). Alike other x) (sym h) alike_other

at-most-alike : {a b a' b' : Bounding} → Alike a a' → Alike b b' → SameBounds (at_most_bounds a b) (at_most_bounds a' b')
at-most-alike alike_axis (alike_known h) = (record { axis = refl; side = refl; value = h }, tt)
at-most-alike (alike_known h) alike_axis = (record { axis = refl; side = refl; value = h }, tt)
at-most-alike (alike_known h) (alike_known k) = tt
at-most-alike (alike_known h) alike_other = tt
at-most-alike alike_axis alike_axis = tt
at-most-alike alike_axis alike_other = tt
at-most-alike alike_other (alike_known h) = tt
at-most-alike alike_other alike_axis = tt
at-most-alike alike_other alike_other = tt

kind-alike : (kind : Kind) {a b a' b' : Bounding} → Alike a a' → Alike b b' → SameBounds (bounds_of_kind kind a b) (bounds_of_kind kind a' b')
kind-alike le h k = at-most-alike h k
kind-alike ge h k = at-most-alike k h
kind-alike eq h k = same_bounds_append _ _ _ _ (at-most-alike h k) (at-most-alike k h)

pub chained_same : (kind : Kind) (ts : List Term) (ks : List ℕ) (bs : List Bounding) → WeighsEach ts ks bs → SameBounds (chained_bounds kind (weights ts ks)) (chained_bounds kind bs)
chained_same kind ts [] [] h = tt
chained_same kind ts (k ∷ []) (b ∷ []) h = tt
chained_same kind ts (k ∷ j ∷ ks) (b ∷ b' ∷ bs) h = same_bounds_append _ _ _ _ (kind-alike kind (weighs_alike (term_at ts k) b h.0) (weighs_alike (term_at ts j) b' h.1.0)) (chained_same kind ts (j ∷ ks) (b' ∷ bs) h.1)
chained_same kind ts [] (b ∷ bs) h = elim h [ ]
chained_same kind ts (k ∷ ks) [] h = elim h [ ]
chained_same kind ts (k ∷ []) (b ∷ b' ∷ bs) h = elim h.1 [ ]
chained_same kind ts (k ∷ j ∷ ks) (b ∷ []) h = elim h.1 [ ]

-- Bool expressions that are equal give no bounds
abbrev pub AreBools : List Bounding → Type 0
AreBools [] = Unit {0}
AreBools (b ∷ bs) = ((xs : List Bound) × (b ≡ bounds xs)) × AreBools bs

pub bools_chain : (bs : List Bounding) → AreBools bs → concat (neighbours equal_bounds bs) ≡ []
bools_chain [] h = refl
bools_chain (b ∷ []) h = refl
bools_chain (b ∷ b' ∷ bs) h = ap₂ (λ x y. equal_bounds x y ++ concat (neighbours equal_bounds (b' ∷ bs))) h.0.1 h.1.0.1 ∙ bools_chain (b' ∷ bs) h.1
