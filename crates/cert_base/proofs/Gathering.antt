-- What is gathered of lines that a checker takes one by one, and where they lead with the states that stay.
use Rattle.std.proofs.Common.{◌≡◌, ◌⊎◌, ◌<◌, ℕ, suc, ◌+◌, List, [], ◌∷◌, ◌++◌, map, length, Option, Some, None, Result, Ok, Err, refl, ap, ap₂, sym, ◌∙◌, subst, inl, inr, arith, length-append, append_assoc, append-nil}
use Rattle.std.proofs.lemmas.List.{map-append}
use Rattle.std.specs.Prelude.{option_map}
use Rattle.poly_graph.specs.Problem.{Problem}
use Rattle.poly_graph.specs.ProblemViews.{Parts, problem_of}
use Rattle.cert_read.specs.CertLine.{CertLine, Parsed, line, parsed}
use Rattle.cert_read.specs.State.{Reading}
use Rattle.cert_read.specs.Reading.{lines_ahead, IsNextLine}
use Rattle.cert_read.specs.Views.{line_of}
use Rattle.cert_read.specs.declared.line.Line.{Line}
use Rattle.cert_model.specs.Due.{CertFault, Due, version_due, root_due, tree_due, NextOf, Next, on, faulty}
use Rattle.cert_model.specs.Accepted.{next, Course, stopped, reached, course_next, course_of_lines}
use Rattle.cert_model.proofs.Invariant.{IfOn}
use Rattle.cert_check.specs.Checked.{Checked, one_check, fresh_checker}
use Rattle.cert_check.specs.Courses.{leads, after, after_all, stand_due, stand_in, IsUnderWay, Takes}
use Rattle.cert_check.specs.Dues.{lean, next_map}
use Rattle.cert_check.specs.Work.{Work, alone, Checks, WorkCourse, lean_work, work_step}
use Rattle.cert_check.proofs.Leans.{step_lean}
use Rattle.cert_check.proofs.Taking.{Taking, taking_none, ends_none, goes_on, line_ahead, none_ahead}
use Rattle.cert_base.specs.Gathered.{Gathered, Gathers, gather, place, nothing_yet}
use Rattle.cert_base.specs.Views.{IsGathered}
use Rattle.cert_base.proofs.Keeps.{gathers_line}

stand-lean : (d : Due) → stand_due (lean d) ≡ stand_due d
stand-lean (root_due s lemmas) = refl
stand-lean (tree_due s lemmas S pending done) = refl
stand-lean _ = refl

-- ---- where one more line leads

module _ (p : Problem) (b : Option ℕ) where
  abbrev one-reached : Next → ℕ → Course
  one-reached x n = course_next x n (λ d. reached d n)

  more-next : (x : Next) (n : ℕ) (xs ys : List CertLine) (e : Due) (m : ℕ) (z : Course) →
      ((d : Due) → course_of_lines p b n d xs ≡ reached e m → course_of_lines p b n d ys ≡ z) →
      course_next x n (λ d. course_of_lines p b n d xs) ≡ reached e m → course_next x n (λ d. course_of_lines p b n d ys) ≡ z
  more-next (on d) n xs ys e m z k h = k d h
  more-next (faulty f) n xs ys e m z k h = cc

  same-due : (d e : Due) (n m : ℕ) → reached d n ≡ reached e m → (d ≡ e) × (n ≡ m)
  same-due d e n m h = (cc, cc)

  course-more : (xs : List CertLine) (l : CertLine) (n : ℕ) (d e : Due) (m : ℕ) → course_of_lines p b n d xs ≡ reached e m →
      course_of_lines p b n d (xs ++ (l ∷ [])) ≡ one-reached (next p b e l) (suc m)
  course-more [] l n d e m h = let k = same-due d e n m h in ap₂ (λ (d' : Due) (n' : ℕ). one-reached (next p b d' l) (suc n')) k.0 k.1
  course-more (x ∷ xs) l n d e m h = more-next (next p b d x) (suc n) xs (xs ++ (l ∷ [])) e m (one-reached (next p b e l) (suc m)) (λ d' h'. course-more xs l (suc n) d' e m h') h

-- ---- one more line

module _ (q : Parts) (b : Option ℕ) where
  abbrev p : Problem
  p = problem_of q

  abbrev lean-leads : ℕ → Next → WorkCourse
  lean-leads n x = leads n (next_map lean_work (next_map (λ (e : Due). alone e) x))

  -- where the checker goes
  goes : (d : Due) (n : ℕ) (x : CertLine) → after (one_check q b) (reached (alone (lean d)) n) (line x) ≡ lean-leads (suc n) (next p b d x)
  goes d n x = ap (λ (y : NextOf Work). leads (suc n) y) (sym (step_lean (one_check q b) (alone d) (line x)))

  course-after : (old new : Checked) (x : CertLine) (d : Due) (n : ℕ) → old.checks ≡ one_check q b → old.course ≡ Some (reached (alone (lean d)) n) →
      new.course ≡ option_map (λ c. after_all old.checks c (line x ∷ [])) old.course → new.course ≡ Some (lean-leads (suc n) (next p b d x))
  course-after old new x d n h e k =
      k ∙ ap₂ (λ (c : Checks) (o : Option WorkCourse). option_map (λ y. after_all c y (line x ∷ [])) o) h e ∙ ap (λ (y : WorkCourse). Some y) (goes d n x)

  not-over : (o : Option WorkCourse) → IsUnderWay o → o ≡ None → ⊥
  not-over None h e = h
  not-over (Some c) h e = cc

  more : (old new : Checked) (x : CertLine) (ls : List Parsed) (g : Gathered) (h : IsGathered p b ls old.course g) → IsUnderWay new.course → (y : Next) → next p b h.due x ≡ y →
      new.course ≡ Some (lean-leads (suc (length h.taken)) y) → IsGathered p b (ls ++ (line x ∷ [])) new.course (gather (place p (stand_in old.course) x) x g)
  more old new x ls g h u (faulty f) e k = absurd (subst IsUnderWay k u)
  more old new x ls g h u (on d) e k =
      let size : suc (length h.taken) ≡ length (h.taken ++ (x ∷ [])) = omega (arith, length-append h.taken (x ∷ [])) in
      let where-it-stands : stand_in old.course ≡ stand_due h.due = ap stand_in h.stands ∙ stand-lean h.due in
      record {
        taken = h.taken ++ (x ∷ []);
        lines = ap (λ (zs : List Parsed). zs ++ (line x ∷ [])) h.lines ∙ sym (map-append line h.taken (x ∷ []));
        due = d;
        led = course-more p b h.taken x 0 version_due h.due (length h.taken) h.led ∙ ap (λ (y : Next). one-reached p b y (suc (length h.taken))) e ∙ ap (λ (n : ℕ). reached d n) size;
        stands = k ∙ ap (λ (n : ℕ). Some (reached (alone (lean d)) n)) size;
        gathers = subst (λ (s : _). Gathers b d (h.taken ++ (x ∷ [])) (gather (place p s x) x g)) (sym where-it-stands)
            (subst (λ (y : Next). IfOn (λ d'. Gathers b d' (h.taken ++ (x ∷ [])) (gather (place p (stand_due h.due) x) x g)) y) e (gathers_line b p h.due x h.taken g h.gathers));
      }

  pub gathered_more : (old new : Checked) (x : CertLine) (ls : List Parsed) (g : Gathered) → IsGathered p b ls old.course g → old.checks ≡ one_check q b → Takes old (line x ∷ []) new (Ok tt) →
      IsGathered p b (ls ++ (line x ∷ [])) new.course (gather (place p (stand_in old.course) x) x g)
  gathered_more old new x ls g h e t = elim t.course [
    | inl k ↦ absurd (not-over new.course t.answers k)
    | inr k ↦ more old new x ls g h t.answers (next p b h.due x) refl (course-after old new x h.due (length h.taken) e h.stands k)
  ]

  pub gathered_none : (c : Checked) (g : Gathered) → c ≡ fresh_checker q b → g ≡ nothing_yet → IsGathered p b [] c.course g
  gathered_none c g e k = record { taken = []; lines = refl; due = version_due; led = refl; stands = ap (λ (x : Checked). x.course) e; gathers = record { taken = refl; nothing = k } }

-- ---- lines that are gathered one after the other from a reader

module _ (q : Parts) (old : Checked) (ahead : Reading) (before : Gathered) where
  -- of the lines that were ahead some are gathered, and the others are ahead
  pub record Gathering (now : Checked) (left : Reading) (g : Gathered) : Type 0 where
    pub taking : Taking old ahead now left
    pub under_way : IsUnderWay now.course
    pub taken : List Parsed
    pub lines : map parsed (lines_ahead ahead) ≡ taken ++ map parsed (lines_ahead left)
    pub gathered : (b : Option ℕ) → old ≡ fresh_checker q b → before ≡ nothing_yet → IsGathered (problem_of q) b taken now.course g

  pub gathering_none : IsUnderWay old.course → Gathering old ahead before
  gathering_none u = record { taking = taking_none old ahead; under_way = u; taken = []; lines = refl; gathered = λ b e k. gathered_none q b old before e k }

  module _ (now : Checked) (left : Reading) (g : Gathered) (h : Gathering now left g) where
    pub all_taken : (new : Reading) → IsNextLine (lines_ahead left) left new (Ok None) → Takes old (map parsed (lines_ahead ahead)) now (Ok tt)
    all_taken new k = ends_none old ahead now left h.taking new (Ok tt) k h.under_way

    pub all_gathered : (new : Reading) → IsNextLine (lines_ahead left) left new (Ok None) → (b : Option ℕ) → old ≡ fresh_checker q b → before ≡ nothing_yet →
        IsGathered (problem_of q) b (map parsed (lines_ahead ahead)) now.course g
    all_gathered new k b e e' =
        let none : lines_ahead left ≡ [] = (none_ahead (lines_ahead left) left new k).0 in
        subst (λ (ls : List Parsed). IsGathered (problem_of q) b ls now.course g) (sym (h.lines ∙ ap (λ (ls : List (List ℕ)). h.taken ++ map parsed ls) none ∙ append-nil h.taken)) (h.gathered b e e')

    -- one more
    pub gathering_more : (new : Reading) (said : Line) (after : Checked) (g' : Gathered) → IsNextLine (lines_ahead left) left new (Ok (Some said)) → Takes now (line (line_of said) ∷ []) after (Ok tt) →
        g' ≡ gather (place (problem_of q) (stand_in now.course) (line_of said)) (line_of said) g → Gathering after new g'
    gathering_more new said after g' k t e =
        let l = line_ahead (lines_ahead left) left new said k in
        record {
          taking = goes_on old ahead now left h.taking new said after k t;
          under_way = t.answers;
          taken = h.taken ++ (line (line_of said) ∷ []);
          lines = h.lines ∙ ap (λ (ls : List (List ℕ)). h.taken ++ map parsed ls) l.here ∙ ap₂ (λ (x : Parsed) (ls : List (List ℕ)). h.taken ++ (x ∷ map parsed ls)) l.says (sym l.rest)
              ∙ sym (append_assoc h.taken (line (line_of said) ∷ []) (map parsed (lines_ahead new)));
          gathered = λ b f f'. subst (λ (x : Gathered). IsGathered (problem_of q) b (h.taken ++ (line (line_of said) ∷ [])) after.course x) (sym e)
              (gathered_more q b now after (line_of said) h.taken g (h.gathered b f f') (h.taking.checks ∙ ap (λ (c : Checked). c.checks) f) t);
        }

pub fewer_ahead : (left new : Reading) (said : Line) → IsNextLine (lines_ahead left) left new (Ok (Some said)) → length (lines_ahead new) < length (lines_ahead left)
fewer_ahead left new said k =
    let l = line_ahead (lines_ahead left) left new said k in
    let m : length (lines_ahead left) ≡ suc (length (lines_ahead new)) = ap length l.here ∙ ap (λ (ls : List (List ℕ)). suc (length ls)) (sym l.rest) in
    omega (arith, m)
