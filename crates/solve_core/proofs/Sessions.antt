-- The books of the checks of a script, one after the other.
use Rattle.std.proofs.Common.{◌≡◌, inl, inr, ℕ, zero, suc, ◌+◌, ◌-◌, ◌<◌, ◌≤◌, List, [], ◌∷◌, ◌++◌, map, length, take, drop, Bool, true, false, cond, nat_le, Some, true≢false, Result, Ok, Err, IfOk, All, get_or, refl, ap, sym, ◌∙◌, subst, arith}
use Rattle.std.specs.Prelude.{slice_get, slice_set}
use Rattle.std.proofs.lemmas.Option.{slice_get_within, slice_get_read, get_or_from_slice_get}
use Rattle.std.proofs.lemmas.List.Elements.{All-map, All-push, All-weaker}
use Rattle.std.proofs.lemmas.List.{length-take}
use Rattle.std.proofs.lemmas.Bool.{leb-true}
use Rattle.poly_graph.specs.ProblemViews.{Parts, problem_of}
use Rattle.problem_session.specs.Session.{problems_of}
use Rattle.cover_model.specs.Carried.{GoesOnFrom}
use Rattle.cover_model.specs.State.{State, root_state}
use Rattle.cover_data.specs.declared.margins.Options.{Options}
use Rattle.cert_model.specs.SessionLaws.{GoOn, IsSession}
use Rattle.cover_book.specs.Keeps.{IsBook}
use Rattle.cover_book.specs.Limits.{IsWithinLimits}
use Rattle.cover_book.specs.Model.{BookModel, IsOfRoot, opening_with, kept_from, raised}
use Rattle.cover_book.specs.Session.{next_kept, AreBooksOf}
use Rattle.cover_book.specs.Verdict.{verdict_of}
use Rattle.cover_book.specs.declared.verdict.BookVerdict.TheVariants as verdict
use Rattle.cover_book.specs.Left.{LeavesDue}
use Rattle.solve_core.specs.Reaches.{IsSearched}
use Rattle.solve_core.specs.Solved.{IsInVersionOf, IsSolved, IsCheckWithin, IsProblemAt, IsOpeningAt, AreAppended, AreBooksInOneVersion}
use Rattle.cover_data.specs.declared.margins.Margins.{Margins}
use Rattle.cover_data.specs.Margins.{AreMargins, margins_of, options_in}
use Rattle.cover_book.proofs.Raised.{raised_is_book}
use Rattle.solve_core.proofs.Reached.{own_version, searched_same, searched_raised, limits_in}

abbrev Check : Type 0
Check = Parts × Bool

-- ---- checks by number

-- a check by its problem and by whether it goes on
pub both_at : (ps : List Check) (k : ℕ) (p : Parts) (e : Bool) → slice_get (map (λ (c : Check). c.0) ps) k ≡ Some p → slice_get (map (λ (c : Check). c.1) ps) k ≡ Some e → slice_get ps k ≡ Some (p, e)
both_at [] k p e h g = cc
both_at (c ∷ ps) zero p e h g = let x : c.0 ≡ p = cc in let y : c.1 ≡ e = cc in ap (λ (q : Parts). Some (q, c.1)) x ∙ ap (λ (f : Bool). Some (p, f)) y
both_at (c ∷ ps) (suc k) p e h g = both_at ps k p e h g

pub problem_at : (ps : List Check) (k : ℕ) (p : Parts) → IsProblemAt ps k p → slice_get (map (λ (c : Check). c.0) ps) k ≡ Some p
problem_at [] k p h = let e = h.1 in cc
problem_at (c ∷ ps) zero p h = let e : c ≡ (p, h.0) = let f = h.1 in cc in ap (λ (d : Check). Some d.0) e
problem_at (c ∷ ps) (suc k) p h = problem_at ps k p h

pub first_at : (ps : List Check) (p : Parts) → slice_get (map (λ (c : Check). c.0) ps) zero ≡ Some p → IsProblemAt ps zero p
first_at [] p h = cc
first_at (c ∷ ps) p h = let e : c.0 ≡ p = cc in (c.1, ap (λ (q : Parts). Some (q, c.1)) e)

pub some_check : (ps : List Check) → IsSession (problems_of ps) → 0 < length ps
some_check [] h = elim h [ ]
some_check (c ∷ ps) h = omega arith

go-on : (x : Check) (later : List Check) → GoOn (problem_of x.0) (problems_of later) → (k : ℕ) (y z : Check) → slice_get (x ∷ later) k ≡ Some y → slice_get later k ≡ Some z → z.1 ≡ true → GoesOnFrom (problem_of y.0) (problem_of z.0)
go-on x [] h k y z e f t = cc
go-on x (w ∷ later) h zero y z e f t = let u : x ≡ y = cc in let v : w ≡ z = cc in
    subst (λ (c : Check). GoesOnFrom (problem_of c.0) (problem_of z.0)) u (subst (λ (c : Check). c.1 ≡ true → GoesOnFrom (problem_of x.0) (problem_of c.0)) v h.1 t)
go-on x (w ∷ later) h (suc k) y z e f t = go-on w later h.2 k y z e f t

-- where a check goes on, its problem does so from the one before
pub goes_on_at : (ps : List Check) → IsSession (problems_of ps) → (k : ℕ) (p q : Parts) (e : Bool) → IsProblemAt ps k p → slice_get ps (suc k) ≡ Some (q, e) → e ≡ true → GoesOnFrom (problem_of p) (problem_of q)
goes_on_at [] h k p q e a b t = elim h [ ]
goes_on_at (x ∷ later) h k p q e a b t = go-on x later h k (p, a.0) (q, e) a.1 b t

pub within_at : (o : Options) (ps : List Check) → All (IsCheckWithin o) ps → (k : ℕ) (q : Parts) (e : Bool) → slice_get ps k ≡ Some (q, e) → IsWithinLimits q o
within_at o ps h k q e f = subst (IsCheckWithin o) (get_or_from_slice_get ps k (q, e) (q, e) f) (h k (q, e) (slice_get_within ps k (q, e) f))

-- ---- lists that grow

pub take_next : {X : Type 0} (xs : List X) (i : ℕ) (x : X) → slice_get xs i ≡ Some x → take i xs ++ (x ∷ []) ≡ take (suc i) xs
take_next [] i x e = cc
take_next (y ∷ xs) zero x e = let q : x ≡ y = cc in ap (λ z. z ∷ []) q
take_next (y ∷ xs) (suc i) x e = ap (λ ys. y ∷ ys) (take_next xs i x e)

from-first : {X : Type 0} (xs : List X) (n i : ℕ) (x : X) → slice_get (take n xs) i ≡ Some x → slice_get xs i ≡ Some x
from-first [] zero i x e = cc
from-first [] (suc n) i x e = cc
from-first (y ∷ xs) zero i x e = cc
from-first (y ∷ xs) (suc n) zero x e = e
from-first (y ∷ xs) (suc n) (suc i) x e = from-first xs n i x e

-- ---- books

book-at : (o : Options) (kept : List State) (ps : List Check) (books : List BookModel) → AreBooksOf o kept ps books → (i : ℕ) (b : BookModel) → slice_get books i ≡ Some b → IsProblemAt ps i b.problem × (b.options ≡ o)
book-at o kept [] [] h i b e = cc
book-at o kept [] (c ∷ books) h i b e = elim h [ ]
book-at o kept ((q, f) ∷ ps) [] h i b e = elim h [ ]
book-at o kept ((q, f) ∷ ps) (c ∷ books) h zero b e = let x : c ≡ b = cc in subst (λ (d : BookModel). IsProblemAt ((q, f) ∷ ps) zero d.problem × (d.options ≡ o)) x ((f, ap (λ (r : Parts). Some (r, f)) (sym h.1)), h.2)
book-at o kept ((q, f) ∷ ps) (c ∷ books) h (suc i) b e = book-at o (next_kept c ps) ps books h.5 i b e

-- the book of a check, where these are the books of the first checks
pub book_at : (o : Options) (ps : List Check) (n : ℕ) (books : List BookModel) → AreBooksOf o [] (take n ps) books → (i : ℕ) (b : BookModel) → slice_get books i ≡ Some b → IsProblemAt ps i b.problem × (b.options ≡ o)
book_at o ps n books h i b e = let k = book-at o [] (take n ps) books h i b e in ((k.0.0, from-first ps n i (b.problem, k.0.0) k.0.1), k.1)

pub books_count : (o : Options) (kept : List State) (ps : List Check) (books : List BookModel) → AreBooksOf o kept ps books → length books ≡ length ps
books_count o kept [] [] h = refl
books_count o kept [] (c ∷ books) h = elim h [ ]
books_count o kept ((q, f) ∷ ps) [] h = elim h [ ]
books_count o kept ((q, f) ∷ ps) (c ∷ books) h = ap suc (books_count o (next_kept c ps) ps books h.5)

-- there are as many as checks that they are of
pub first_count : (o : Options) (ps : List Check) (n : ℕ) (books : List BookModel) → AreBooksOf o [] (take n ps) books → n ≤ length ps → length books ≡ n
first_count o ps n books h m = omega (arith, books_count o [] (take n ps) books h, length-take n ps, m)

one-more : (o : Options) (kept : List State) (ps : List Check) (books : List BookModel) (last b : BookModel) (q : Parts) (e : Bool) → AreBooksOf o kept ps books → (i : ℕ) → suc i ≡ length books → slice_get books i ≡ Some last →
    IsBook b → b.problem ≡ q → b.options ≡ o → b.kept ≡ cond e (kept_from last q) [] → IsOfRoot b → AreBooksOf o kept (ps ++ ((q, e) ∷ [])) (books ++ (b ∷ []))
one-more o kept [] [] last b q e h i n at w p r k t = absurd (omega (arith, n))
one-more o kept [] (c ∷ books) last b q e h i n at w p r k t = elim h [ ]
one-more o kept ((q', e') ∷ ps) [] last b q e h i n at w p r k t = elim h [ ]
one-more o kept ((q', e') ∷ []) (c ∷ []) last b q e h zero n at w p r k t = let x : last ≡ c = cc in
    (h.0, h.1, h.2, h.3, h.4, (w, p, r, subst (λ (d : BookModel). b.kept ≡ cond e (kept_from d q) []) x k, t, tt))
one-more o kept ((q', e') ∷ []) (c ∷ []) last b q e h (suc i) n at w p r k t = absurd (omega (arith, n))
one-more o kept ((q', e') ∷ []) (c ∷ d ∷ books) last b q e h i n at w p r k t = elim h.5 [ ]
one-more o kept ((q', e') ∷ (q'', e'') ∷ ps) (c ∷ []) last b q e h i n at w p r k t = elim h.5 [ ]
one-more o kept ((q', e') ∷ (q'', e'') ∷ ps) (c ∷ d ∷ books) last b q e h zero n at w p r k t = absurd (omega (arith, n))
one-more o kept ((q', e') ∷ (q'', e'') ∷ ps) (c ∷ d ∷ books) last b q e h (suc i) n at w p r k t =
    (h.0, h.1, h.2, h.3, h.4, one-more o (cond e'' (kept_from c q'') []) ((q'', e'') ∷ ps) (d ∷ books) last b q e h.5 i (omega (arith, n)) at w p r k t)

-- the book of the next check behind those of the first ones
next-book : (o : Options) (ps : List Check) (i : ℕ) (books : List BookModel) (last b : BookModel) (e : Bool) → AreBooksOf o [] (take (suc i) ps) books → suc i ≤ length ps → slice_get books i ≡ Some last →
    slice_get ps (suc i) ≡ Some (b.problem, e) → IsBook b → b.options ≡ o → b.kept ≡ cond e (kept_from last b.problem) [] → IsOfRoot b →
    AreBooksOf o [] (take (suc (suc i)) ps) (books ++ (b ∷ []))
next-book o ps i books last b e h m at check w same kept root =
    let n : suc i ≡ length books = sym (first_count o ps (suc i) books h m) in
    subst (λ (qs : List Check). AreBooksOf o [] qs (books ++ (b ∷ []))) (take_next ps (suc i) (b.problem, e) check)
    (one-more o [] (take (suc i) ps) books last b b.problem e h i n at w refl same kept root)

next-kept : (b : BookModel) (later : List Check) → next_kept (raised b) later ≡ next_kept b later
next-kept b [] = refl
next-kept b (c ∷ later) = refl

pub raised_books : (o : Options) (kept : List State) (ps : List Check) (books : List BookModel) → AreBooksOf o kept ps books → AreBooksOf (options_in 5 o) kept ps (map raised books)
raised_books o kept [] [] h = tt
raised_books o kept [] (c ∷ books) h = elim h [ ]
raised_books o kept ((q, f) ∷ ps) [] h = elim h [ ]
raised_books o kept ((q, f) ∷ ps) (c ∷ books) h = (
  raised_is_book c h.0,
  h.1,
  ap (options_in 5) h.2,
  h.3,
  h.4,
  subst (λ (xs : List State). AreBooksOf (options_in 5 o) xs ps (map raised books)) (sym (next-kept c ps)) (raised_books o (next_kept c ps) ps books h.5),
)

get-raised : (books : List BookModel) (i : ℕ) (b : BookModel) → slice_get books i ≡ Some b → slice_get (map raised books) i ≡ Some (raised b)
get-raised [] i b e = cc
get-raised (c ∷ books) zero b e = let x : c ≡ b = cc in ap (λ (d : BookModel). Some (raised d)) x
get-raised (c ∷ books) (suc i) b e = get-raised books i b e

version-of : (m : Margins) → AreMargins m → (t : Bool) → nat_le 5 m.version ≡ t → cond t (m.version ≡ 5) (m.version ≡ 2)
version-of m h true e = elim h.version_is [ inl f ↦ let k : 5 ≤ m.version = leb-true 5 m.version e in absurd (omega (arith, f, k)) | inr f ↦ f ]
version-of m h false e = elim h.version_is [ inl f ↦ f | inr f ↦ absurd (true≢false (ap (nat_le 5) (sym f) ∙ e)) ]

-- one more book: where it is of version 5, so are the others now; else all are of version 2
pub next_books : (o : Options) → AreMargins (margins_of o) → (ps : List Check) (i : ℕ) (books new : List BookModel) (last opened b : BookModel) (p : Parts) →
    AreBooksInOneVersion o (take (suc i) ps) books → suc i ≤ length ps → slice_get books i ≡ Some last → IsOpeningAt ps i last p opened → IsSearched opened b →
    IsInVersionOf o opened.options.version b → IsBook b → AreAppended books b new → AreBooksInOneVersion o (take (suc (suc i)) ps) new
next_books o om ps i books new last opened b p h m at x r in-version w appended = by-version (nat_le 5 b.options.version) refl
  where
    v : ℕ
    v = h.0

    problem : b.problem ≡ p
    problem = (searched_same r).0 ∙ ap (λ (d : BookModel). d.problem) x.book

    check : slice_get ps (suc i) ≡ Some (b.problem, x.goes_on)
    check = x.check ∙ ap (λ (q : Parts). Some (q, x.goes_on)) (sym problem)

    kept : b.kept ≡ cond x.goes_on (kept_from last b.problem) []
    kept = (searched_same r).2 ∙ ap (λ (d : BookModel). d.kept) x.book ∙ ap (λ (q : Parts). cond x.goes_on (kept_from last q) []) (sym problem)

    root : IsOfRoot b
    root = (searched_same r).3 ∙ ap (λ (d : BookModel). d.root) x.book ∙ ap (λ (q : Parts). root_state (problem_of q)) (sym problem)

    last-in : last.options ≡ options_in v o
    last-in = (book_at (options_in v o) ps (suc i) books h.2 i last at).1

    opened-in : opened.options.version ≡ v
    opened-in = ap (λ (d : BookModel). d.options.version) x.book ∙ ap (λ (z : Options). z.version) last-in

    by-version : (t : Bool) → nat_le 5 b.options.version ≡ t → AreBooksInOneVersion o (take (suc (suc i)) ps) new
    by-version true e =
        let five : b.options.version ≡ 5 = version-of (margins_of b.options) w.limits.margins true e in
        let own : b.options ≡ options_in 5 o = in-version.options ∙ ap (λ (n : ℕ). options_in n o) five in
        let of-options : 5 ≡ o.version = elim in-version.version [
          | inl k ↦ elim h.1 [ inl f ↦ absurd (omega (arith, f, k, five, opened-in)) | inr f ↦ sym five ∙ k ∙ opened-in ∙ f ]
          | inr k ↦ sym five ∙ k
        ] in (
          5,
          inr of-options,
          subst (AreBooksOf (options_in 5 o) [] (take (suc (suc i)) ps)) (sym (appended ∙ ap (λ (t : Bool). cond t (map raised books) books ++ (b ∷ [])) e))
              (next-book (options_in 5 o) ps i (map raised books) (raised last) b x.goes_on (raised_books (options_in v o) [] (take (suc i) ps) books h.2) m (get-raised books i last at) check w own kept root),
        )
    by-version false e =
        let two : b.options.version ≡ 2 = version-of (margins_of b.options) w.limits.margins false e in
        let same-version : v ≡ 2 = elim in-version.version [
          | inl k ↦ sym opened-in ∙ sym k ∙ two
          | inr k ↦ elim h.1 [ inl f ↦ f | inr f ↦ f ∙ sym k ∙ two ]
        ] in
        let own : b.options ≡ options_in v o = in-version.options ∙ ap (λ (n : ℕ). options_in n o) (two ∙ sym same-version) in (
          v,
          inl same-version,
          subst (AreBooksOf (options_in v o) [] (take (suc (suc i)) ps)) (sym (appended ∙ ap (λ (t : Bool). cond t (map raised books) books ++ (b ∷ [])) e))
              (next-book (options_in v o) ps i books last b x.goes_on h.2 m at check w own kept root),
        )

pub first_book : (o : Options) (ps : List Check) (b : BookModel) → IsProblemAt ps zero b.problem → IsBook b → b.options ≡ o → b.kept ≡ [] → IsOfRoot b → AreBooksOf o [] (take 1 ps) (b ∷ [])
first_book o [] b at w e k t = let f = at.1 in cc
first_book o (c ∷ ps) b at w e k t = let q : (b.problem, at.0) ≡ c = let f = at.1 in cc in (w, ap (λ (d : Check). d.0) q, e, k, t, tt)

-- ---- what a search leaves

-- a book that opened in the root state is one of the whole box
pub of_root : (b : BookModel) → IsSolved b → IsOfRoot b
of_root b s = (searched_same s.searched).3

pub solved_from : (c b : BookModel) (p : Parts) (o : Options) (kept : List State) → c ≡ opening_with p o kept → IsSearched c b → (verdict_of b ≡ verdict.NotYet → ⊥) → LeavesDue b → IsSolved b
solved_from c b p o kept e r v l =
    let from : IsSearched (opening_with p o kept) b = subst (λ (d : BookModel). IsSearched d b) e r in
    let same = searched_same from in
    let options : o ≡ options_in o.version b.options = sym (ap (options_in o.version) same.1) in record {
      first = o.version;
      searched = subst (λ (q : Parts). IsSearched (opening_with q (options_in o.version b.options) b.kept) b) (sym same.0) (subst (λ (x : Options). IsSearched (opening_with p x b.kept) b) options (subst (λ (xs : List State). IsSearched (opening_with p o xs) b) (sym same.2) from));
      verdict = v;
      left = l;
    }

-- ---- books that go over to version 5

-- the first ones have gone over
abbrev pub raised_so_far : List BookModel → ℕ → List BookModel
raised_so_far books i = map raised (take i books) ++ drop i books

pub all_raised : (books : List BookModel) (i : ℕ) → length books ≤ i → raised_so_far books i ≡ map raised books
all_raised [] zero h = refl
all_raised [] (suc i) h = refl
all_raised (b ∷ books) zero h = absurd (omega (arith, h))
all_raised (b ∷ books) (suc i) h = ap (λ (bs : List BookModel). raised b ∷ bs) (all_raised books i (omega (arith, h)))

pub raised_solved : (b : BookModel) → IsSolved b → IsSolved (raised b)
raised_solved b s = record {
  first = s.first;
  searched = searched_raised s.searched;
  verdict = s.verdict;
  left = λ e n S l. let x = s.left e n S l in record { not_shown = x.not_shown; spent = x.spent };
}

raise-next : (books : List BookModel) (i : ℕ) (x : BookModel) → slice_get (raised_so_far books i) i ≡ Some x → slice_set (raised_so_far books i) i (raised x) ≡ raised_so_far books (suc i)
raise-next [] zero x e = cc
raise-next [] (suc i) x e = cc
raise-next (b ∷ books) zero x e = let q : x ≡ b = cc in ap (λ (c : BookModel). raised c ∷ books) q
raise-next (b ∷ books) (suc i) x e = ap (λ (bs : List BookModel). raised b ∷ bs) (raise-next books i x e)

-- the next one goes over
pub raise_next : (books so-far : List BookModel) (i : ℕ) (x y : BookModel) → so-far ≡ raised_so_far books i → i < length so-far → x ≡ get_or so-far i x → y ≡ raised x → slice_set so-far i y ≡ raised_so_far books (i + 1)
raise_next books so-far i x y e l h f =
    let there : slice_get (raised_so_far books i) i ≡ Some x = subst (λ (bs : List BookModel). slice_get bs i ≡ Some x) e (slice_get_read so-far (length so-far) i x refl l h) in
    let next : suc i ≡ i + 1 = omega arith in
    ap (λ (bs : List BookModel). slice_set bs i y) e ∙ ap (slice_set (raised_so_far books i) i) f ∙ raise-next books i x there ∙ ap (raised_so_far books) next

-- all of them, with one more
pub all_solved : (books new : List BookModel) (b : BookModel) → All IsSolved books → IsSolved b → AreAppended books b new → All IsSolved new
all_solved books new b h k e = subst (All IsSolved) (sym e) (All-push IsSolved (cond (nat_le 5 b.options.version) (map raised books) books) b (by-version (nat_le 5 b.options.version)) k)
  where
    by-version : (t : Bool) → All IsSolved (cond t (map raised books) books)
    by-version true = All-map IsSolved raised books (All-weaker IsSolved (λ (c : BookModel). IsSolved (raised c)) raised_solved books h)
    by-version false = h

-- ---- the next check, where these are the books of those before

module _ (o : Options) (ps : List Check) (k : ℕ) (books : List BookModel) (are : AreBooksInOneVersion o (take k ps) books) (some : 1 ≤ k) (in-force : k ≤ length ps) where
  pub so_many : length books ≡ k
  so_many = first_count (options_in are.0 o) ps k books are.2 in-force

  module _ (last : BookModel) (here : last ≡ get_or books (k - 1) last) where
    there : slice_get books (k - 1) ≡ Some last
    there = slice_get_read books k (k - 1) last (sym so_many) (omega (arith, some)) here

    pub last_is : IsProblemAt ps (k - 1) last.problem × (last.options ≡ options_in are.0 o)
    last_is = book_at (options_in are.0 o) ps k books are.2 (k - 1) last there

    pub last_within : All (IsCheckWithin o) ps → All (IsCheckWithin last.options) ps
    last_within h = subst (λ (x : Options). All (IsCheckWithin x) ps) (sym last_is.1)
        (All-weaker (IsCheckWithin o) (IsCheckWithin (options_in are.0 o)) (λ c w. limits_in c.0 o are.0 are.1 w) ps h)

    module _ (p : Parts) (opened : BookModel) (x : IsOpeningAt ps (k - 1) last p opened) where
      pub opened_problem : opened.problem ≡ p
      opened_problem = ap (λ (d : BookModel). d.problem) x.book

      pub opened_options : opened.options ≡ options_in opened.options.version o
      opened_options = own_version opened.options o are.0 (ap (λ (d : BookModel). d.options) x.book ∙ last_is.1)

      pub opened_margins : All (IsCheckWithin o) ps → AreMargins (margins_of o)
      opened_margins h = (within_at o ps h (suc (k - 1)) p x.goes_on x.check).margins

      pub one_book_more : AreMargins (margins_of o) → (b : BookModel) (new : List BookModel) → IsSearched opened b → IsInVersionOf o opened.options.version b → IsBook b → AreAppended books b new → AreBooksInOneVersion o (take (k + 1) ps) new
      one_book_more m b new r v w e =
          let one : k ≡ suc (k - 1) = omega (arith, some) in let two : suc (suc (k - 1)) ≡ k + 1 = omega (arith, some) in
          subst (λ (n : ℕ). AreBooksInOneVersion o (take n ps) new) two
          (next_books o m ps (k - 1) books new last opened b p (subst (λ (n : ℕ). AreBooksInOneVersion o (take n ps) books) one are) (omega (arith, one, in-force)) there x r v w e)

-- what four facts of an answer give
pub ok_by : {X E : Type 0} (A B C D F : X → Type 0) (r : Result X E) → ((x : X) → A x → B x → C x → D x → F x) → IfOk r A → IfOk r B → IfOk r C → IfOk r D → IfOk r F
ok_by A B C D F (Ok x) f a b c d = f x a b c d
ok_by A B C D F (Err e) f a b c d = tt
