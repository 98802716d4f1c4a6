-- What is found under a name, in both meanings.
use Rattle.std.proofs.Common.{◌≡◌, ℕ, zero, suc, List, [], ◌∷◌, ◌++◌, Bool, true, false, cond, Option, Some, None, refl, ap, ◌∙◌, subst}
use Rattle.std.specs.Prelude.{slice_get}
use Rattle.std.specs.Str.{bytes_eq}
use Rattle.dyadic.specs.Point.{Sort}
use Rattle.script_model.specs.Reading.{Meanings, Names, Named, value, found}
use Rattle.script_model.specs.Declared.{Bounding}
use Rattle.script_forms.specs.Work.{Work}
use Rattle.smt_sexp.specs.declared.sexps.Sexps as arena
use Rattle.value_build.specs.Making.{Making}
use Rattle.value_build.specs.Values.{IsValue}
use Rattle.value_build.specs.declared.value.Value.{Value}
use Rattle.problem_build.specs.Locals.{local_value}
use Rattle.problem_build.specs.Names.{if_named, top_known, known_of, entry_of, top_names, AreLocals, KnownFits, TopFits}
use Rattle.problem_build.specs.declared.top.Known.{Known}
use Rattle.problem_build.specs.declared.top.Top.{Top}
use Rattle.problem_build.specs.declared.locals.Local.{Local}

-- ---- the top

module _ {V : Type 0} (M : Meanings V) (constant : ℕ → Sort → V) (s : arena.Sexps) (top : List Top) (x : List ℕ) where
  abbrev names : ℕ → Names V
  names n = top_names M constant s top n

  found-entry : (n : ℕ) (t : Option Top) (before : Option (ℕ × Known)) (i : ℕ) (k : Known) →
      (before ≡ Some (i, k) → found x (names n) ≡ Some (known_of M constant s (names i) k)) →
      if_named x n t before ≡ Some (i, k) → found x (entry_of M constant s (names n) t) ≡ Some (known_of M constant s (names i) k)
  found-entry n None before i k f h = f h
  found-entry n (Some t) before i k f h = go (bytes_eq x t.name.now) h
    where
      go : (b : Bool) → cond b (Some (n, t.known)) before ≡ Some (i, k) → cond b (Some (known_of M constant s (names n) t.known)) (found x (names n)) ≡ Some (known_of M constant s (names i) k)
      go true e = ap (λ (o : Option (ℕ × Known)). known_in o) e
        where
          known_in : Option (ℕ × Known) → Option (Named V)
          known_in None = None
          known_in (Some (j, l)) = Some (known_of M constant s (names j) l)
      go false e = f e

  pub found_top : (n i : ℕ) (k : Known) → top_known x top n ≡ Some (i, k) → found x (names n) ≡ Some (known_of M constant s (names i) k)
  found_top zero i k h = cc
  found_top (suc n) i k h = found-entry n (slice_get top n) (top_known x top n) i k (found_top n i k) h

  none-entry : (n : ℕ) (t : Option Top) (before : Option (ℕ × Known)) → (before ≡ None → found x (names n) ≡ None) → if_named x n t before ≡ None → found x (entry_of M constant s (names n) t) ≡ None
  none-entry n None before f h = f h
  none-entry n (Some t) before f h = go (bytes_eq x t.name.now) h
    where
      go : (b : Bool) → cond b (Some (n, t.known)) before ≡ None → cond b (Some (known_of M constant s (names n) t.known)) (found x (names n)) ≡ None
      go true e = cc
      go false e = f e

  pub none_top : (n : ℕ) → top_known x top n ≡ None → found x (names n) ≡ None
  none_top zero h = refl
  none_top (suc n) h = none-entry n (slice_get top n) (top_known x top n) (none_top n) h

-- a constant of the top has its sort
module _ (sorts : List Sort) (top : List Top) (fits : TopFits sorts top) (x : List ℕ) where
  fits-entry : (n : ℕ) (t : Option Top) (before : Option (ℕ × Known)) (i : ℕ) (k : Known) → slice_get top n ≡ t → (before ≡ Some (i, k) → KnownFits sorts k) → if_named x n t before ≡ Some (i, k) → KnownFits sorts k
  fits-entry n None before i k e f h = f h
  fits-entry n (Some t) before i k e f h = go (bytes_eq x t.name.now) h
    where
      fits-in : Option (ℕ × Known) → Type 0
      fits-in None = Unit {0}
      fits-in (Some (j, l)) = KnownFits sorts l

      go : (b : Bool) → cond b (Some (n, t.known)) before ≡ Some (i, k) → KnownFits sorts k
      go true g = subst fits-in g (fits n t e)
      go false g = f g

  pub fits_top : (n i : ℕ) (k : Known) → top_known x top n ≡ Some (i, k) → KnownFits sorts k
  fits_top zero i k h = cc
  fits_top (suc n) i k h = fits-entry n (slice_get top n) (top_known x top n) i k refl (fits_top n i k) h

-- ---- locals

-- a local is found, with what is made of it
pub record FoundLocal (m : Making) (x : List ℕ) (names : Names Work) (bnames : Names Bounding) (v : Value) : Type 0 where
  pub work : Work
  pub bound : Bounding
  pub works : found x names ≡ Some (value work)
  pub bounds : found x bnames ≡ Some (value bound)
  pub is : IsValue m work.outcome bound v

module _ (m : Making) (x : List ℕ) (ns : Names Work) (bs : Names Bounding) where
  found-first : (c : Bool) (w : Work) (b : Bounding) (v o : Value) (y z l : List ℕ) (near : Names Work) (bounded : Names Bounding) (rest : Option Value) → y ≡ l → z ≡ l → IsValue m w.outcome b o → bytes_eq x l ≡ c →
      (rest ≡ Some v → FoundLocal m x (near ++ ns) (bounded ++ bs) v) → cond c (Some o) rest ≡ Some v → FoundLocal m x ((y, value w) ∷ (near ++ ns)) ((z, value b) ∷ (bounded ++ bs)) v
  found-first true w b v o y z l near bounded rest ye ze h c f g = record {
    work = w;
    bound = b;
    works = ap (λ i. cond i (Some (value w)) (found x (near ++ ns))) (ap (bytes_eq x) ye ∙ c);
    bounds = ap (λ i. cond i (Some (value b)) (found x (bounded ++ bs))) (ap (bytes_eq x) ze ∙ c);
    is = let one : o ≡ v = cc g in subst (λ (k : Value). IsValue m w.outcome b k) one h;
  }
  found-first false w b v o y z l near bounded rest ye ze h c f g = let k = f g in record {
    work = k.work;
    bound = k.bound;
    works = ap (λ i. cond i (Some (value w)) (found x (near ++ ns))) (ap (bytes_eq x) ye ∙ c) ∙ k.works;
    bounds = ap (λ i. cond i (Some (value b)) (found x (bounded ++ bs))) (ap (bytes_eq x) ze ∙ c) ∙ k.bounds;
    is = k.is;
  }

  pub found_local : (locals : List Local) (near : Names Work) (bounded : Names Bounding) (v : Value) → AreLocals m locals near bounded → local_value x locals ≡ Some v → FoundLocal m x (near ++ ns) (bounded ++ bs) v
  found_local [] near bounded v h e = cc
  found_local (l ∷ ls) ((y, value w) ∷ near) ((z, value b) ∷ bounded) v h e =
      found-first (bytes_eq x l.name.now) w b v l.value y z l.name.now near bounded (local_value x ls) h.0 h.1 h.2 refl (λ g. found_local ls near bounded v h.3 g) e
  found_local (l ∷ ls) _ _ v h e = elim h [ ]

  none-first : (c : Bool) (w : Work) (b : Bounding) (o : Value) (y z l : List ℕ) (near : Names Work) (bounded : Names Bounding) (rest : Option Value) → y ≡ l → z ≡ l → bytes_eq x l ≡ c →
      (rest ≡ None → (found x (near ++ ns) ≡ found x ns) × (found x (bounded ++ bs) ≡ found x bs)) → cond c (Some o) rest ≡ None →
      (found x ((y, value w) ∷ (near ++ ns)) ≡ found x ns) × (found x ((z, value b) ∷ (bounded ++ bs)) ≡ found x bs)
  none-first true w b o y z l near bounded rest ye ze c f g = cc
  none-first false w b o y z l near bounded rest ye ze c f g = let k = f g in (
    ap (λ i. cond i (Some (value w)) (found x (near ++ ns))) (ap (bytes_eq x) ye ∙ c) ∙ k.0,
    ap (λ i. cond i (Some (value b)) (found x (bounded ++ bs))) (ap (bytes_eq x) ze ∙ c) ∙ k.1,
  )

  pub none_local : (locals : List Local) (near : Names Work) (bounded : Names Bounding) → AreLocals m locals near bounded → local_value x locals ≡ None →
      (found x (near ++ ns) ≡ found x ns) × (found x (bounded ++ bs) ≡ found x bs)
  none_local [] [] [] h e = (refl, refl)
  none_local [] [] (c ∷ bounded) h e = elim h [ ]
  none_local [] (n ∷ near) bounded h e = elim h [ ]
  none_local (l ∷ ls) ((y, value w) ∷ near) ((z, value b) ∷ bounded) h e =
      none-first (bytes_eq x l.name.now) w b l.value y z l.name.now near bounded (local_value x ls) h.0 h.1 refl (λ g. none_local ls near bounded h.3 g) e
  none_local (l ∷ ls) _ _ h e = elim h [ ]
