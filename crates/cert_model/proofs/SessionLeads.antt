-- Lines of a part lead on in a certificate of several checks as in one of a check of its own.
use Rattle.std.proofs.Common.{◌≡◌, ℕ, suc, List, [], ◌∷◌, ◌++◌, Bool, true, false, cond, Option, refl, ap, sym, ◌∙◌, nat_eq, length, append_assoc}
use Rattle.poly_graph.specs.Problem.{Problem}
use Rattle.cover_model.specs.State.{State, Loosenings}
use Rattle.cert_read.specs.CertLine.{CertLine, line}
use Rattle.cert_model.specs.Due.{Due, next_due, nothing_due, Next, on, faulty}
use Rattle.cert_model.specs.Accepted.{next, Course, reached, course_next, lines_course, course_of_lines}
use Rattle.cert_model.specs.Standing.{Stands, stands_at, standing_next, lines_standing, standing_of_lines}
use Rattle.cert_model.specs.Session.{Part, SessionDue, SessionCourse, SessionNext, inside_due, first_due, inside, in_part, none_complete, session_next, stands_in}

-- what is due where a line is taken is inside a part
inside-on : (p : Problem) (b : Option ℕ) (t : Part) (d : Due) (l : CertLine) (e : Due) → next p b d l ≡ on e → inside t d ≡ inside_due t d
inside-on p b t (nothing_due s lemmas v) l e h = cc
inside-on p b t _ l e h = refl

module _ (p : Problem) (later : List (Problem × Bool)) (b : Option ℕ) (k : ℕ) where
  abbrev course_from : ℕ → SessionDue → List CertLine → SessionCourse
  course_from n d ls = lines_course (session_next p later b) n d ls

  abbrev standing_in : SessionDue → List CertLine → List Stands
  standing_in d ls = lines_standing (session_next p later b) (stands_in k) d ls

  -- The course of some lines leads to that of what is due then, with the rest of the lines; those passed that are lines of the main tree
  -- of part k are these.
  pub record Passes (d : SessionDue) (ls : List CertLine) (xs : List Stands) (d' : SessionDue) (ls' : List CertLine) : Type 0 where
    pub to : (n : ℕ) → (m : ℕ) × (course_from n d ls ≡ course_from m d' ls')
    pub stand : standing_in d ls ≡ xs ++ standing_in d' ls'

  pub and_then : {d d' d'' : SessionDue} {ls ls' ls'' : List CertLine} {xs ys : List Stands} → Passes d ls xs d' ls' → Passes d' ls' ys d'' ls'' → Passes d ls (xs ++ ys) d'' ls''
  and_then {d'' = d''} {ls'' = ls''} {xs = xs} {ys = ys} f g = record {
    to = λ n. let x = f.to n in let y = g.to x.0 in (y.0, x.1 ∙ y.1);
    stand = f.stand ∙ ap (λ (zs : List Stands). xs ++ zs) g.stand ∙ sym (append_assoc xs ys (standing_in d'' ls''));
  }

  -- a line that is none of a main tree
  pub one_line : (d : SessionDue) (l : CertLine) (ls : List CertLine) (d' : SessionDue) → session_next p later b d l ≡ on d' → stands_in k d (line l) ≡ [] → Passes d (l ∷ ls) [] d' ls
  one_line d l ls d' e q = record {
    to = λ n. (suc n, ap (λ (x : SessionNext). course_next x (suc n) (λ y. course_from (suc n) y ls)) e);
    stand = ap (λ (xs : List Stands). xs ++ standing_next (session_next p later b d l) (λ y. standing_in y ls)) q ∙ ap (λ (x : SessionNext). standing_next x (λ y. standing_in y ls)) e;
  }

  pub at_once : (d d' : SessionDue) (ls : List CertLine) → d ≡ d' → Passes d ls [] d' ls
  at_once d d' ls e = record { to = λ n. (n, ap (λ (x : SessionDue). course_from n x ls) e); stand = ap (λ (x : SessionDue). standing_in x ls) e }

  -- ---- lines of a part

  module _ (t : Part) where
    -- lines of this part's main tree, where it is part k
    abbrev pub of_part : List Stands → List Stands
    of_part xs = cond (nat_eq (length t.values) k) xs []

    both-parts : (c : Bool) (xs ys zs : List Stands) → cond c xs [] ++ (cond c ys [] ++ zs) ≡ cond c (xs ++ ys) [] ++ zs
    both-parts true xs ys zs = sym (append_assoc xs ys zs)
    both-parts false xs ys zs = refl

    pub no_part : (c : Bool) → ◌≡◌ {A = List Stands} (cond c [] []) []
    no_part true = refl
    no_part false = refl

    here : (d : Due) (n m : ℕ) (d' : Due) (ls : List CertLine) → ◌≡◌ {A = Course} (reached d n) (reached d' m) → Passes (inside t d) ls (of_part []) (inside t d') ls
    here d n m d' ls e =
        let same : d ≡ d' = cc in
        record {
          to = λ j. (j, ap (λ (x : Due). course_from j (inside t x) ls) same);
          stand = ap (λ (x : Due). standing_in (inside t x) ls) same ∙ ap (λ (xs : List Stands). xs ++ standing_in (inside t d') ls) (sym (no_part (nat_eq (length t.values) k)));
        }

    passes-by : (l : CertLine) (xs : List CertLine) (d : Due) (n m : ℕ) (d' : Due) (ls : List CertLine) →
        ((y : Due) → course_of_lines t.problem b (suc n) y xs ≡ reached d' m → Passes (inside t y) (xs ++ ls) (of_part (standing_of_lines t.problem b y xs)) (inside t d') ls) →
        (x : Next) → next t.problem b d l ≡ x → course_next x (suc n) (λ y. course_of_lines t.problem b (suc n) y xs) ≡ reached d' m →
        Passes (inside t d) (l ∷ (xs ++ ls)) (of_part (stands_at t.problem d (line l) ++ standing_next x (λ y. standing_of_lines t.problem b y xs))) (inside t d') ls
    passes-by l xs d n m d' ls ih (faulty f) h e = cc
    passes-by l xs d n m d' ls ih (on y) h e =
        let more = ih y e in
        let due : inside t d ≡ inside_due t d = inside-on t.problem b t d l y h in
        let taken : session_next p later b (inside_due t d) l ≡ on (inside t y) = ap (in_part t) h in
        let stood : List Stands = stands_at t.problem d (line l) in let rest : List Stands = standing_of_lines t.problem b y xs in
        record {
          to = λ j. let z = more.to (suc j) in
              (z.0, ap (λ (x : SessionDue). course_from j x (l ∷ (xs ++ ls))) due ∙ ap (λ (x : SessionNext). course_next x (suc j) (λ x'. course_from (suc j) x' (xs ++ ls))) taken ∙ z.1);
          stand = ap (λ (x : SessionDue). standing_in x (l ∷ (xs ++ ls))) due
              ∙ ap (λ (x : SessionNext). of_part stood ++ standing_next x (λ x'. standing_in x' (xs ++ ls))) taken
              ∙ ap (λ (zs : List Stands). of_part stood ++ zs) more.stand
              ∙ both-parts (nat_eq (length t.values) k) stood rest (standing_in (inside t d') ls);
        }

    -- where the lines are taken in a certificate of the check alone
    pub part_passes : (xs : List CertLine) (d : Due) (n m : ℕ) (d' : Due) → course_of_lines t.problem b n d xs ≡ reached d' m → (ls : List CertLine) →
        Passes (inside t d) (xs ++ ls) (of_part (standing_of_lines t.problem b d xs)) (inside t d') ls
    part_passes [] d n m d' e ls = here d n m d' ls e
    part_passes (l ∷ xs) d n m d' e ls = passes-by l xs d n m d' ls (λ y f. part_passes xs y (suc n) m d' f ls) (next t.problem b d l) refl e

    -- the first line behind `keep` is taken as any other
    pub first_passes : (s : Loosenings) (i : ℕ) (kept : List State) (x : CertLine) (xs : List CertLine) (n m : ℕ) (d' : Due) →
        course_of_lines t.problem b n (next_due s i kept) (x ∷ xs) ≡ reached d' m → (ls : List CertLine) →
        Passes (first_due s i kept t) (x ∷ (xs ++ ls)) [] (inside_due t (next_due s i kept)) (x ∷ (xs ++ ls))
    first_passes s i kept x xs n m d' e ls = by (next t.problem b (next_due s i kept) x) refl e
      where
        by : (y : Next) → next t.problem b (next_due s i kept) x ≡ y → course_next y (suc n) (λ z. course_of_lines t.problem b (suc n) z xs) ≡ reached d' m →
            Passes (first_due s i kept t) (x ∷ (xs ++ ls)) [] (inside_due t (next_due s i kept)) (x ∷ (xs ++ ls))
        by (faulty f) h g = cc
        by (on z) h g =
            let same : session_next p later b (first_due s i kept t) x ≡ session_next p later b (inside_due t (next_due s i kept)) x =
            ap (λ (y : Next). in_part t (none_complete y)) h ∙ sym (ap (in_part t) h) in
            record {
              to = λ j. (j, ap (λ (y : SessionNext). course_next y (suc j) (λ y'. course_from (suc j) y' (xs ++ ls))) same);
              stand = ap (λ (y : SessionNext). standing_next y (λ y'. standing_in y' (xs ++ ls))) same
                  ∙ ap (λ (zs : List Stands). zs ++ standing_next (session_next p later b (inside_due t (next_due s i kept)) x) (λ y'. standing_in y' (xs ++ ls))) (sym (no_part (nat_eq (length t.values) k)));
            }
