-- Lemmas in the problem of the next part.
use Rattle.std.proofs.Common.{◌≡◌, ℕ, zero, suc, ◌+◌, ◌-◌, ◌<◌, ◌≤◌, List, [], ◌∷◌, ◌++◌, length, map, take, drop, set, get_or, replicate, max, All, Some, IsTrue, Bool, true, false, true≢false, cond, ◌||◌, nat_lt, nat_eq, refl, ap, ap₂, sym, subst, ◌∙◌, inl, inr, arith, ltb→lt, append-nil, length-append, length-take-le, length-drop}
use Rattle.std.proofs.Math.Nat.{le-max_left, le-max_right, max-eq_left, max-eq_right}
use Rattle.std.proofs.lemmas.List.{length-map, length-replicate, map-append, take_all, drop_all}
use Rattle.std.proofs.lemmas.List.Elements.{All-map}
use Rattle.std.proofs.lemmas.Bool.Decides.{eqb_tells}
use Rattle.std.specs.Bool.{passes}
use Rattle.std.specs.Prelude.{slice_get}
use Rattle.std.proofs.lemmas.Bool.{lt-ltb}
use Rattle.dyadic.proofs.Equal.{both_true, both_pass}
use Rattle.interval_model.specs.Space.{Domain, Space}
use Rattle.poly_graph.specs.Marks.{Mark, marked_yes, marked_no, unmarked, member, mark_in, marks_from, marks_of}
use Rattle.poly_graph.specs.Problem.{Axis}
use Rattle.poly_graph.specs.ProblemViews.{Parts, problem_of}
use Rattle.ival.specs.SpaceViews.{space_of}
use Rattle.cover_model.specs.Root.{root_domain, root_space}
use Rattle.cover_model.specs.State.{State}
use Rattle.cover_model.specs.Carried.{carried}
use Rattle.cert_model.specs.Due.{all_below}
use Rattle.cert_check.specs.declared.standing.Lemma as code
use Rattle.cert_check.specs.States.{Fits, HasMore, IsLike, lemma_of, lengthened, lengthened_lemma}
use Rattle.cert_check.specs.Dues.{AllFit}
use Rattle.cert_check.proofs.Marking.{length_marks}
use Rattle.cert_check.proofs.RuleFits.{state}

-- ---- domains, one after the other over those of another space

-- so many of the first, then those of the second
abbrev pub partly : ℕ → Space → Space → Space
partly n xs ys = take n xs ++ drop n ys

one-more : (k : ℕ) (xs ys : Space) (r : Domain) → k < length xs → length xs ≤ length ys → set (partly k xs ys) k (get_or xs k r) ≡ partly (suc k) xs ys
one-more zero [] ys r h l = absurd (omega (arith, h))
one-more zero (x ∷ xs) [] r h l = absurd (omega (arith, l))
one-more zero (x ∷ xs) (y ∷ ys) r h l = refl
one-more (suc k) [] ys r h l = absurd (omega (arith, h))
one-more (suc k) (x ∷ xs) [] r h l = absurd (omega (arith, l))
one-more (suc k) (x ∷ xs) (y ∷ ys) r h l = ap (λ (zs : Space). x ∷ zs) (one-more k xs ys r (omega (arith, h)) (omega (arith, l)))

pub one_domain : (k : ℕ) (xs ys : Space) (r : Domain) → k < length xs → length xs ≤ length ys → set (partly k xs ys) k (get_or xs k r) ≡ partly (k + 1) xs ys
one_domain k xs ys r h l = let same : suc k ≡ k + 1 = omega arith in one-more k xs ys r h l ∙ ap (λ (n : ℕ). partly n xs ys) same

pub all_domains : (k : ℕ) (xs ys : Space) → length xs ≤ k → k ≤ length xs → partly k xs ys ≡ xs ++ drop (length xs) ys
all_domains k xs ys h l =
    let same : k ≡ length xs = omega (arith, h, l) in
    ap (λ (n : ℕ). partly n xs ys) same ∙ ap (λ (zs : Space). zs ++ drop (length xs) ys) (take_all (length xs) xs (omega arith))

pub length_partly : (k : ℕ) (xs ys : Space) → k ≤ length xs → length xs ≤ length ys → length (partly k xs ys) ≡ length ys
length_partly k xs ys h l = omega (arith, h, l, length-append (take k xs) (drop k ys), length-take-le k xs h, length-drop k ys)

pub none_lacks : (xs ys : Space) → length ys ≤ length xs → xs ≡ lengthened xs ys
none_lacks xs ys h = sym (ap (λ (zs : Space). xs ++ zs) (drop_all (length xs) ys h) ∙ append-nil xs)

reaches : (xs ys : Space) → length ys ≤ length (lengthened xs ys)
reaches xs ys = omega (arith, length-append xs (drop (length xs) ys), length-drop (length xs) ys)

-- what is as long as the longer space has nothing beyond it
pub none_left : (space xs ys : Space) → length space ≡ length (lengthened xs ys) → length space ≡ length xs → xs ≡ lengthened xs ys
none_left space xs ys e f = none_lacks xs ys (omega (arith, e, f, reaches xs ys))

-- the domains beyond a longer space, lengthened in turn
pub lengthened_twice : (xs ys zs : Space) → lengthened xs (lengthened ys zs) ≡ lengthened (lengthened xs ys) zs
lengthened_twice [] ys zs = refl
lengthened_twice (x ∷ xs) [] zs = ap (λ (rest : Space). x ∷ (rest ++ drop (suc (length rest)) zs)) (sym (append-nil xs))
lengthened_twice (x ∷ xs) (y ∷ ys) [] = ap (λ (rest : Space). x ∷ (xs ++ drop (length xs) rest)) (append-nil ys) ∙ ap (λ (rest : Space). x ∷ rest) (sym (append-nil (lengthened xs ys)))
lengthened_twice (x ∷ xs) (y ∷ ys) (z ∷ zs) = ap (λ (rest : Space). x ∷ rest) (lengthened_twice xs ys zs)

-- ---- lists of atoms

pub below_more : (m n : ℕ) (js : List ℕ) → m ≤ n → IsTrue (all_below m js) → IsTrue (all_below n js)
below_more m n [] h e = refl
below_more m n (j ∷ js) h e =
    let l = ltb→lt j m (passes _ (both_true (nat_lt j m) (all_below m js) e).0) in
    both_pass (nat_lt j n) (all_below n js) (lt-ltb j n (omega (arith, l, h))) (below_more m n js h (both_true (nat_lt j m) (all_below m js) e).1)

-- ---- marks

other : (i j : ℕ) → i < j → nat_eq i j ≡ false
other i j h = elim (eqb_tells i j) [ inl e ↦ absurd (omega (arith, h, e.1)) | inr e ↦ e.0 ]

none-past : (j : ℕ) (js : List ℕ) → IsTrue (all_below j js) → member j js ≡ false
none-past j [] e = refl
none-past j (i ∷ js) e =
    let l = ltb→lt i j (passes _ (both_true (nat_lt i j) (all_below j js) e).0) in
    ap (λ (t : Bool). t || member j js) (other i j l) ∙ none-past j js (both_true (nat_lt i j) (all_below j js) e).1

mark-past : (j : ℕ) (ys ns : List ℕ) → IsTrue (all_below j ys) → IsTrue (all_below j ns) → mark_in ys ns j ≡ unmarked
mark-past j ys ns h k = ap (λ (t : Bool). cond t marked_yes (cond (member j ns) marked_no unmarked)) (none-past j ys h) ∙ ap (λ (t : Bool). cond t marked_no unmarked) (none-past j ns k)

marks-past : (j b : ℕ) (ys ns : List ℕ) → IsTrue (all_below j ys) → IsTrue (all_below j ns) → replicate b unmarked ≡ marks_from j b ys ns
marks-past j zero ys ns h k = refl
marks-past j (suc b) ys ns h k = ap₂ (λ (m : Mark) (ms : List Mark). m ∷ ms) (sym (mark-past j ys ns h k))
    (marks-past (suc j) b ys ns (below_more j (suc j) ys (omega arith) h) (below_more j (suc j) ns (omega arith) k))

marks-more : (j a n m : ℕ) (ys ns : List ℕ) → a ≤ n → m ≤ j + a → IsTrue (all_below m ys) → IsTrue (all_below m ns) → marks_from j a ys ns ++ replicate (n - a) unmarked ≡ marks_from j n ys ns
marks-more j zero n m ys ns l b h k = ap (λ (i : ℕ). replicate i unmarked) (n-less n) ∙ marks-past j n ys ns (below_more m j ys (omega (arith, b)) h) (below_more m j ns (omega (arith, b)) k) where
  n-less : (n : ℕ) → n - 0 ≡ n
  n-less n = omega arith
marks-more j (suc a) zero m ys ns l b h k = absurd (omega (arith, l))
marks-more j (suc a) (suc n) m ys ns l b h k =
    let less : suc n - suc a ≡ n - a = omega arith in
    ap (λ (ms : List Mark). mark_in ys ns j ∷ ms) (ap (λ (i : ℕ). marks_from (suc j) a ys ns ++ replicate i unmarked) less ∙ marks-more (suc j) a n m ys ns (omega (arith, l)) (omega (arith, b)) h k)

-- ---- a lemma

pub length_lemma : (beyond : Space) (atoms : ℕ) (L : code.Lemma) → length (lengthened_lemma beyond atoms L).marks ≡ max L.atoms atoms
length_lemma beyond atoms L = length_marks (max L.atoms atoms) L.yes.items L.no.items

-- as it was written, where it has all axes and atoms
pub as_written : (beyond : Space) (atoms : ℕ) (L : code.Lemma) → length beyond ≤ length (space_of L.space) → atoms ≤ L.atoms → lengthened_lemma beyond atoms L ≡ lemma_of L
as_written beyond atoms L h k = ap₂ (λ (x : Space) (n : ℕ). state x (marks_of n L.yes.items L.no.items)) (sym (none_lacks (space_of L.space) beyond h)) (max-eq_left k)

module _ (p : Parts) where
  length-root : length (root_space (problem_of p)) ≡ length p.axes
  length-root = length-map p.axes (λ (a : Axis). root_domain a.declared)

  -- in a problem with more axes and atoms
  pub carried_is : (beyond root more : Space) (atoms n : ℕ) (L : code.Lemma) → root ≡ root_space (problem_of p) → n ≡ length p.atoms → more ≡ lengthened beyond root → HasMore p (lengthened_lemma beyond atoms L) →
      lengthened_lemma more n L ≡ carried (problem_of p) (lengthened_lemma beyond atoms L)
  carried_is beyond root more atoms n L e f g h =
      let a = L.atoms in
      let old = max a atoms in
      let ys = L.yes.items in
      let ns = L.no.items in
      let few : old ≤ n = omega (arith, h.atoms, length_lemma beyond atoms L, f) in
      let own : a ≤ n = omega (arith, few, le-max_left a atoms) in
      let marks : marks_of (max a n) ys ns ≡ marks_of old ys ns ++ replicate (length p.atoms - length (marks_of old ys ns)) unmarked =
      ap (λ (k : ℕ). marks_of k ys ns) (max-eq_right own) ∙ sym (marks-more 0 old n a ys ns few (omega (arith, le-max_left a atoms)) L.yes_below L.no_below)
      ∙ ap₂ (λ (k l : ℕ). marks_of old ys ns ++ replicate (k - l) unmarked) f (sym (length_lemma beyond atoms L)) in
      ap₂ (λ (x : Space) (ms : List Mark). state x ms)
      (ap (lengthened (space_of L.space)) g ∙ lengthened_twice (space_of L.space) beyond root ∙ ap (lengthened (lengthened (space_of L.space) beyond)) e) marks

  carried-fits : (S : State) → HasMore p S → Fits p (carried (problem_of p) S)
  carried-fits S h = record {
    axes = omega (arith, length-append S.space (drop (length S.space) (root_space (problem_of p))), length-drop (length S.space) (root_space (problem_of p)), length-root, h.axes);
    atoms = omega (arith, length-append S.marks (replicate (length p.atoms - length S.marks) unmarked), length-replicate (length p.atoms - length S.marks) unmarked, h.atoms);
  }

  pub all_fit : (Ss all : List State) → All (HasMore p) Ss → all ≡ map (carried (problem_of p)) Ss → AllFit p all
  all_fit Ss all h e = subst (AllFit p) (sym e) (All-map (Fits p) (carried (problem_of p)) Ss (λ k d l. carried-fits (get_or Ss k d) (h k d l)))

-- ---- lemmas, one after the other

behind-first : {X : Type 0} (P : X → Type 0) (x : X) (xs : List X) → All P (x ∷ xs) → All P xs
behind-first P x xs h n d l = h (suc n) d (omega (arith, l))

-- each has a domain for each axis and a mark for each atom, as a state of the same problem has
pub all_like : (p : Parts) (S : State) (Ss : List State) → Fits p S → AllFit p Ss → All (IsLike S) Ss
all_like p S Ss f h k d l = let fit = h k d l in record { axes = fit.axes ∙ sym f.axes; atoms = fit.atoms ∙ sym f.atoms }

pub like_at : (S : State) (f : code.Lemma → State) (Ls : List code.Lemma) (i : ℕ) (d : code.Lemma) → i < length Ls → All (IsLike S) (map f Ls) → IsLike S (f (get_or Ls i d))
like_at S f [] i d l h = absurd (omega (arith, l))
like_at S f (L ∷ Ls) zero d l h = h 0 (f L) (omega arith)
like_at S f (L ∷ Ls) (suc i) d l h = like_at S f Ls i d (omega (arith, l)) (behind-first (IsLike S) (f L) (map f Ls) h)

pub state_at : (f : code.Lemma → State) (Ls : List code.Lemma) (i : ℕ) (d : code.Lemma) → i < length Ls → slice_get (map f Ls) i ≡ Some (f (get_or Ls i d))
state_at f [] i d l = absurd (omega (arith, l))
state_at f (L ∷ Ls) zero d l = refl
state_at f (L ∷ Ls) (suc i) d l = state_at f Ls i d (omega (arith, l))

pub carried_all : (p : Parts) (beyond root more : Space) (atoms n : ℕ) (Ls : List code.Lemma) → root ≡ root_space (problem_of p) → n ≡ length p.atoms → more ≡ lengthened beyond root →
    All (HasMore p) (map (lengthened_lemma beyond atoms) Ls) → map (lengthened_lemma more n) Ls ≡ map (carried (problem_of p)) (map (lengthened_lemma beyond atoms) Ls)
carried_all p beyond root more atoms n [] e f g h = refl
carried_all p beyond root more atoms n (L ∷ Ls) e f g h =
    ap₂ (λ (S : State) (Ss : List State). S ∷ Ss) (carried_is p beyond root more atoms n L e f g (h 0 (lengthened_lemma beyond atoms L) (omega arith)))
    (carried_all p beyond root more atoms n Ls e f g (behind-first (HasMore p) (lengthened_lemma beyond atoms L) (map (lengthened_lemma beyond atoms) Ls) h))

with-one : (beyond : Space) (atoms : ℕ) (Ls more : List code.Lemma) (L : code.Lemma) → length beyond ≤ length (space_of L.space) → atoms ≤ L.atoms → more ≡ Ls ++ (L ∷ []) →
    map (lengthened_lemma beyond atoms) more ≡ map (lengthened_lemma beyond atoms) Ls ++ (lemma_of L ∷ [])
with-one beyond atoms Ls more L h k e =
    ap (map (lengthened_lemma beyond atoms)) e ∙ map-append (lengthened_lemma beyond atoms) Ls (L ∷ []) ∙ ap (λ (S : State). map (lengthened_lemma beyond atoms) Ls ++ (S ∷ [])) (as_written beyond atoms L h k)

-- one more lemma has nothing beyond its own axes and atoms, where the others are like it
pub one_lemma_more : (beyond : Space) (atoms : ℕ) (Ls more : List code.Lemma) (L : code.Lemma) → ¬ (Ls ≡ []) → All (IsLike (lemma_of L)) (map (lengthened_lemma beyond atoms) Ls) → more ≡ Ls ++ (L ∷ []) →
    map (lengthened_lemma beyond atoms) more ≡ map (lengthened_lemma beyond atoms) Ls ++ (lemma_of L ∷ [])
one_lemma_more beyond atoms [] more L some h e = absurd (some refl)
one_lemma_more beyond atoms (K ∷ Ls) more L some h e =
    let like = h 0 (lengthened_lemma beyond atoms K) (omega arith) in
    let axes : length beyond ≤ length (space_of L.space) = omega (arith, like.axes, reaches (space_of K.space) beyond) in
    let marks : atoms ≤ L.atoms = omega (arith, like.atoms, length_lemma beyond atoms K, le-max_right K.atoms atoms, length_marks L.atoms L.yes.items L.no.items) in
    with-one beyond atoms (K ∷ Ls) more L axes marks e

-- the first lemma
pub first_lemma : (beyond : Space) (L : code.Lemma) → beyond ≡ [] → lengthened_lemma beyond 0 L ≡ lemma_of L
first_lemma beyond L e = as_written beyond 0 L (omega (arith, ap length e)) (omega arith)

pub alone_pushed : (beyond : Space) (atoms : ℕ) (Ls more : List code.Lemma) (L : code.Lemma) (empty : Space) → empty ≡ [] → map (lengthened_lemma beyond atoms) Ls ≡ [] → more ≡ Ls ++ (L ∷ []) →
    map (lengthened_lemma empty 0) more ≡ lemma_of L ∷ []
alone_pushed beyond atoms [] more L empty e f g = ap (map (lengthened_lemma empty 0)) g ∙ ap (λ (S : State). S ∷ []) (first_lemma empty L e)
alone_pushed beyond atoms (K ∷ Ls) more L empty e f g = cc

-- ---- whether there is a lemma

pub none_there : (Ss : List State) (t : Bool) → t ≡ nat_eq (length Ss) 0 → t ≡ true → Ss ≡ []
none_there [] t e f = refl
none_there (S ∷ Ss) t e f = elim (eqb_tells (length (S ∷ Ss)) 0) [ inl p ↦ absurd (omega (arith, p.1)) | inr p ↦ absurd (true≢false (sym f ∙ e ∙ p.0)) ]

pub some_there : (Ss : List State) (t : Bool) → t ≡ nat_eq (length Ss) 0 → t ≡ false → ¬ (Ss ≡ [])
some_there Ss t e f g = true≢false (sym (e ∙ ap (λ (Us : List State). nat_eq (length Us) 0) g) ∙ f)

-- ---- one more that fits

pub one_fits_more : (p : Parts) (Ss more : List State) (S : State) → AllFit p Ss → Fits p S → more ≡ Ss ++ (S ∷ []) → AllFit p more
one_fits_more p Ss more S h f e = subst (AllFit p) (sym e) (at-end Ss h) where
  first : (T : State) (Ts : List State) → Fits p T → AllFit p Ts → AllFit p (T ∷ Ts)
  first T Ts g k zero d l = g
  first T Ts g k (suc n) d l = k n d (omega (arith, l))

  at-end : (Ts : List State) → AllFit p Ts → AllFit p (Ts ++ (S ∷ []))
  at-end [] k = first S [] f (λ n d l. absurd (omega (arith, l)))
  at-end (T ∷ Ts) k = first T (Ts ++ (S ∷ [])) (k 0 T (omega arith)) (at-end Ts (λ n d l. k (suc n) d (omega (arith, l))))
