-- From the books that searches left at the checks of a script to the answers.
use Rattle.std.proofs.Common.{◌≡◌, ◌≢◌, ◌⊎◌, ◌+◌, inl, inr, ℕ, zero, suc, List, [], ◌∷◌, ◌++◌, Bool, true, false, true≢false, Option, None, Some, IsTrue, cond, length, map, refl, ap, ap₂, sym, ◌∙◌, subst, arith, append_assoc, append-nil}
use Rattle.std.specs.Prelude.{slice_get, IfOk, Result, Ok, Err}
use Rattle.std.specs.List.{All}
use Rattle.std.proofs.lemmas.Bool.{ne_eqb}
use Rattle.std.proofs.lemmas.List.Elements.{All-nil, All-cons}
use Rattle.std.proofs.lemmas.Option.{none-some}
use Rattle.command_line.specs.declared.request.Options.{Options}
use Rattle.command_line.specs.Words.{AreOptions}
use Rattle.poly_graph.specs.Problem.{Problem}
use Rattle.poly_graph.specs.ProblemViews.{Parts, problem_of}
use Rattle.problem_session.specs.Session.{problems_of}
use Rattle.interval_model.specs.Space.{Space}
use Rattle.cover_model.specs.State.{State}
use Rattle.cover_model.specs.Honest.{is_honest}
use Rattle.cert_model.specs.Due.{Standing, Value, at_point, left_open}
use Rattle.cert_model.specs.AnswerText.{has_open, solve_text}
use Rattle.cert_model.specs.Least.{is_lines_version}
use Rattle.cert_model.specs.Session.{is_session_version, one_verdict, part_branches, session_standing}
use Rattle.cert_model.specs.SessionLaws.{IsSession}
use Rattle.cert_model.specs.Standing.{Stands, branches_of}
use Rattle.cover_data.specs.declared.margins.Options as cover
use Rattle.cover_data.specs.Margins.{options_in}
use Rattle.cover_book.specs.Model.{BookModel, problem_in}
use Rattle.cover_book.specs.Verdict.{has_live, verdict_of}
use Rattle.cover_book.specs.Left.{LeavesDue}
use Rattle.cover_book.specs.declared.verdict.BookVerdict.TheVariants.{NotYet}
use Rattle.cover_book.specs.Keeps.{IsBook}
use Rattle.cover_book.specs.Session.{AreBooksOf, next_kept}
use Rattle.cert_text.specs.Session.{IsSessionText, TellsOf, session_version}
use Rattle.cert_text.proofs.Leftovers.{left_tells_of_nodes}
use Rattle.solve_core.specs.Solved.{IsCheckWithin, IsInVersionOf, IsSolved}
use Rattle.check_run.specs.Answer.{is_answer_version, loosenings_of, solve_texts, AreFoundFrom, IsFound, IsFoundPart}
use Rattle.check_run.specs.Script.{AreWithin, IsWithin}
use Rattle.dpoly.specs.declared.answers.SearchAnswer.{SearchAnswer}
use Rattle.dpoly.specs.Search.{search_options, book_texts, AreLeftBy, AreSearchAnswers, AreTold, IsLeftBy, IsSearchAnswer, SaysLeft, SaysOf, SayOf}
use Rattle.dpoly.proofs.SearchAnswers.{limits, one_is_live}

-- ---- the conditions of the searches, and what they leave

pub session_limits : (o : Options) → AreOptions o → (session : List (Parts × Bool)) → AreWithin session → All (IsCheckWithin (search_options o)) session
session_limits o h [] w = All-nil (IsCheckWithin (search_options o))
session_limits o h (c ∷ session) w = All-cons (IsCheckWithin (search_options o)) c session (limits c.0 o h w.0) (session_limits o h session w.1)

pub left_by : (o : Options) (v : ℕ) → IsTrue (is_lines_version v) → (kept : List State) (session : List (Parts × Bool)) (books : List BookModel) → AreBooksOf (options_in v (search_options o)) kept session books → All IsSolved books → AreLeftBy o books
left_by o v is kept session [] h s = tt
left_by o v is kept ((q, e) ∷ later) (b ∷ books) h s =
    let here : IsSolved b = s 0 b (omega arith) in
    let same : v ≡ b.options.version = sym (ap (λ (x : cover.Options). x.version) h.2) in
    let left : IsLeftBy o b = record {
      version = subst (λ (n : ℕ). IsTrue (is_lines_version n)) same is;
      asked = subst (λ (n : ℕ). b.options ≡ options_in n (search_options o)) same h.2;
      ended = here.verdict;
      due = here.left;
    } in
    (left, left_by o v is (next_kept b later) later books h.5 (λ k d l. s (suc k) d (omega (arith, l))))
left_by o v is kept [] (b ∷ books) h s = absurd h

-- a version of the lines of one check, and that of a certificate of several which has them
pub lines_version : (v : ℕ) → (v ≡ 2) ⊎ (v ≡ 5) → IsTrue (is_lines_version v)
lines_version v (inl e) = ap is_lines_version e
lines_version v (inr e) = ap is_lines_version e

session-version : (v : ℕ) → (v ≡ 2) ⊎ (v ≡ 5) → IsTrue (is_session_version (session_version v))
session-version v (inl e) = ap (λ (n : ℕ). is_session_version (session_version n)) e
session-version v (inr e) = ap (λ (n : ℕ). is_session_version (session_version n)) e

several_version : (n v : ℕ) → (v ≡ 2) ⊎ (v ≡ 5) → IsTrue (is_answer_version (suc (suc n)) (session_version v))
several_version n v h =
    let w : ℕ = session_version v in
    ap (λ (b : Bool). cond b (is_lines_version w) (is_session_version w)) (ne_eqb (suc (suc n)) 1 (λ e. absurd (omega (arith, e)))) ∙ session-version v h

-- what holds of an answer for two reasons
pub both_ok : {X E : Type 0} {P Q R : X → Type 0} (r : Result X E) → IfOk r P → IfOk r Q → ((x : X) → P x → Q x → R x) → IfOk r R
both_ok (Ok x) p q f = f x p q
both_ok (Err e) p q f = tt

pub three_ok : {X E : Type 0} {P Q R S : X → Type 0} (r : Result X E) → IfOk r P → IfOk r Q → IfOk r R → ((x : X) → P x → Q x → R x → S x) → IfOk r S
three_ok (Ok x) p q s f = f x p q s
three_ok (Err e) p q s f = tt

-- ---- one check

pub left_of_search : (o : Options) (b : BookModel) → IsInVersionOf (search_options o) 2 b → verdict_of b ≢ NotYet → LeavesDue b → IsLeftBy o b
left_of_search o b is verdict left = record { version = lines_version b.options.version is.version; asked = is.options; ended = verdict; due = left }

pub record OneOf (session : List (Parts × Bool)) (p : Parts) : Type 0 where
  pub extends : Bool
  pub only : session ≡ (p, extends) ∷ []

pub one_of : (session : List (Parts × Bool)) (p : Parts) → length session ≡ 1 → slice_get (map (λ (q : Parts × Bool). q.0) session) 0 ≡ Some p → OneOf session p
one_of [] p e at = absurd (omega (arith, e))
one_of ((q, x) ∷ []) p e at = let same : q ≡ p = cc in record { extends = x; only = ap (λ (y : Parts). (y, x) ∷ []) same }
one_of (c ∷ d ∷ session) p e at = absurd (omega (arith, e))

pub within_one : (session : List (Parts × Bool)) (p : Parts) → length session ≡ 1 → slice_get (map (λ (q : Parts × Bool). q.0) session) 0 ≡ Some p → AreWithin session → IsWithin p
within_one session p e at w = (subst AreWithin (one_of session p e at).only w).0

found-alone : (p : Problem) (x : Bool) (o : Options) (cert : List ℕ) (v : Value) → IsFound p o cert v → IsFoundPart ((p, x) ∷ []) o cert 0 p v
found-alone p x o cert (at_point space) h = tt
found-alone p x o cert (left_open left) h = record { honest = h.honest; within = h.within; spent = h.spent }

single-answers : (p : Problem) (x : Bool) (o : Options) (told : SearchAnswer) → IsSearchAnswer p o told → AreSearchAnswers ((p, x) ∷ []) o told
single-answers p x o told is = record {
  values = is.value ∷ [];
  answers = record { version = is.answer.version; is_version = is.answer.is_version; accepted = ap one_verdict is.answer.accepted; found = (found-alone p x o told.cert.items is.value is.answer.found, tt) };
  text = is.text ∙ sym (append-nil (solve_text p o.budget (loosenings_of o) is.value));
}

pub one_answers : (session : List (Parts × Bool)) (p : Parts) (o : Options) (told : SearchAnswer) → length session ≡ 1 → slice_get (map (λ (q : Parts × Bool). q.0) session) 0 ≡ Some p → IsSearchAnswer (problem_of p) o told →
    AreSearchAnswers (problems_of session) o told
one_answers session p o told e at is =
    let one = one_of session p e at in
    subst (λ (ys : List (Parts × Bool)). AreSearchAnswers (problems_of ys) o told) (sym one.only) (single-answers (problem_of p) one.extends o told is)

-- ---- several checks

pub record Several (session : List (Parts × Bool)) : Type 0 where
  pub first : Parts × Bool
  pub second : Parts × Bool
  pub later : List (Parts × Bool)
  pub all : session ≡ first ∷ second ∷ later

pub several : (session : List (Parts × Bool)) → IsSession (problems_of session) → (length session ≡ 1 → ⊥) → Several session
several [] h n = absurd h
several (c ∷ []) h n = absurd (n refl)
several (c ∷ d ∷ later) h n = record { first = c; second = d; later = later; all = refl }

-- ---- the text of a book

point-not-none : (o : Option Space) (x : Space) → o ≡ Some x → o ≡ None → ⊥
point-not-none o x e f = none-some x (sym f ∙ e)

pub says_kept : (b : BookModel) (o : Options) (x : Space) → b.point ≡ Some x → (text : List ℕ) → text ≡ solve_text (problem_in b) o.budget (loosenings_of o) (at_point x) → SaysOf o b text
says_kept b o x kept text e v lines (inl c) =
    let both : ◌≡◌ {A = Option Space} (Some x) (Some c.space) = sym kept ∙ c.point in
    let same : x ≡ c.space = cc in
    e ∙ ap (λ (y : Space). solve_text (problem_in b) o.budget (loosenings_of o) (at_point y)) same ∙ ap (solve_text (problem_in b) o.budget (loosenings_of o)) (sym c.value)
says_kept b o x kept text e v lines (inr (inl c)) = absurd (point-not-none b.point x kept c.no_point)
says_kept b o x kept text e v lines (inr (inr c)) = absurd (point-not-none b.point x kept c.no_point)

crossed-not : (n : Option ℕ) (i : ℕ) → n ≡ Some i → n ≡ None → ⊥
crossed-not n i e f = none-some i (sym f ∙ e)

pub says_left : (b : BookModel) (w : IsBook b) (o : Options) → b.point ≡ None → (text : List ℕ) → SaysLeft o b text → SaysOf o b text
says_left b w o n text says v lines (inl c) = absurd (point-not-none b.point c.space c.point n)
says_left b w o n text says v lines (inr (inl c)) =
    elim w.nodes [
      | inl h ↦ says.crossed h ∙ ap (solve_text (problem_in b) o.budget (loosenings_of o)) (sym c.value)
      | inr h ↦ absurd (crossed-not _ c.axis c.first h.not_crossed)
    ]
says_left b w o n text says v lines (inr (inr c)) = says.tree c.tree c.left c.is_tree ∙ ap (solve_text (problem_in b) o.budget (loosenings_of o)) (sym c.value)

-- ---- the texts of books, one after the other

-- of these books those are left, and the texts of the others stand
pub record TextsSoFar (o : Options) (books left : List BookModel) (text : List ℕ) : Type 0 where
  pub told : (values : List Value) → AreTold books values → (later : List Value) × AreTold left later × (book_texts o books values ≡ text ++ book_texts o left later)

pub no_texts : (o : Options) (books : List BookModel) (text : List ℕ) → text ≡ [] → TextsSoFar o books books text
no_texts o books text e = record { told = λ values h. (values, h, ap (λ (t : List ℕ). t ++ book_texts o books values) (sym e)) }

first-told : (o : Options) (b : BookModel) (left : List BookModel) (values : List Value) → AreTold (b ∷ left) values → (one : List ℕ) → SaysOf o b one → (later : List Value) × AreTold left later × (book_texts o (b ∷ left) values ≡ one ++ book_texts o left later)
first-told o b left [] h one says = absurd h
first-told o b left (v ∷ values) h one says = (values, h.1, ap (λ (t : List ℕ). t ++ book_texts o left values) (sym (says v h.0.0 h.0.1)))

pub one_text : (o : Options) (books : List BookModel) (b : BookModel) (left : List BookModel) (text one all : List ℕ) → TextsSoFar o books (b ∷ left) text → SaysOf o b one → all ≡ text ++ one → TextsSoFar o books left all
one_text o books b left text one all so_far says e = record {
  told = λ values h.
      let x = so_far.told values h in
      let y = first-told o b left x.0 x.1 one says in
      (y.0, y.1, x.2 ∙ ap (λ (t : List ℕ). text ++ t) y.2 ∙ sym (append_assoc text one (book_texts o left y.0)) ∙ ap (λ (t : List ℕ). t ++ book_texts o left y.0) (sym e));
}

no-books : (o : Options) (values : List Value) → book_texts o [] values ≡ []
no-books o [] = refl
no-books o (v ∷ values) = refl

pub all_texts : (o : Options) (books : List BookModel) (text : List ℕ) → TextsSoFar o books [] text → SayOf o books text
all_texts o books text so_far values h =
    let x = so_far.told values h in
    sym (x.2 ∙ ap (λ (t : List ℕ). text ++ t) (no-books o x.0) ∙ append-nil text)

pub left_here : (o : Options) (books : List BookModel) (k : ℕ) (b : BookModel) → AreLeftBy o books → slice_get books k ≡ Some b → IsLeftBy o b
left_here o [] k b h e = cc
left_here o (c ∷ books) zero b h e = let same : c ≡ b = cc in subst (IsLeftBy o) same h.0
left_here o (c ∷ books) (suc k) b h e = left_here o books k b h.1 e

-- ---- the certificate of books

all-of-none : (p : Problem) (width : ℕ) (xs : List Stands) → xs ≡ [] → All (λ (x : Stands). IsTrue (is_honest p width x.loosenings x.line.state x.line.does)) xs
all-of-none p width [] e = All-nil (λ (x : Stands). IsTrue (is_honest p width x.loosenings x.line.state x.line.does))
all-of-none p width (x ∷ xs) e = cc

module _ (b : BookModel) (w : IsBook b) (o : Options) (by : IsLeftBy o b) (ps : List (Problem × Bool)) (cert : List ℕ) (k : ℕ) where
  budget : b.options.budget ≡ o.budget
  budget = ap (λ (x : cover.Options). x.budget) by.asked

  found-part : (v : Value) → TellsOf b v (session_standing ps o.bound cert k) → IsFoundPart ps o cert k (problem_in b) v
  found-part (at_point space) tells = tt
  found-part (left_open left) (inl c) = let same : ◌≡◌ {A = Value} (left_open left) (at_point c.space) = c.value in absurd (cc)
  found-part (left_open left) (inr (inl c)) =
      let same : ◌≡◌ {A = Value} (left_open left) (left_open []) = c.value in
      let nothing : left ≡ [] = cc in
      let none : part_branches ps o.bound cert k ≡ 0 = ap branches_of c.standing in
      record {
        honest = all-of-none (problem_in b) o.least_bits (session_standing ps o.bound cert k) c.standing;
        within = omega (arith, none);
        spent = λ e. absurd (true≢false (sym (ap has_open (sym nothing) ∙ e)));
      }
  found-part (left_open left) (inr (inr c)) =
      let same : ◌≡◌ {A = Value} (left_open left) (left_open c.left) = c.value in
      let left-is : left ≡ c.left = cc in
      let many : part_branches ps o.bound cert k ≡ b.branches = c.standing.branches in
      record {
        honest = subst (λ (x : cover.Options). All (λ (y : Stands). IsTrue (is_honest (problem_in b) x.least_bits y.loosenings y.line.state y.line.does)) (session_standing ps o.bound cert k)) by.asked
            (c.standing.all (λ n S e. (by.due c.no_point n S e).not_shown));
        within = omega (arith, many, w.budget, budget);
        spent = λ e. spent-by c.left many (left_tells_of_nodes b w c.tree c.left c.is_tree).live c.no_point (has_live b) refl (ap has_open (sym left-is) ∙ e);
      }
    where
      spent-by : (xs : List Standing) → part_branches ps o.bound cert k ≡ b.branches → has_open xs ≡ has_live b → b.point ≡ None → (l : Bool) → has_live b ≡ l → IsTrue (has_open xs) → part_branches ps o.bound cert k ≡ o.budget
      spent-by xs many same n true e f = let x = one_is_live b e in let spent = (by.due n x.0 x.1 x.2).spent in omega (arith, many, budget, w.budget, spent)
      spent-by xs many same n false e f = absurd (true≢false (sym f ∙ same ∙ e))

-- what each index tells, as a list
told-all : (books : List BookModel) (values : List Value) (ps : List (Problem × Bool)) (bound : Option ℕ) (cert : List ℕ) (k : ℕ) → length values ≡ length books →
    ((j : ℕ) (b : BookModel) (v : Value) → slice_get books j ≡ Some b → slice_get values j ≡ Some v → TellsOf b v (session_standing ps bound cert (k + j))) → AreTold books values
told-all [] [] ps bound cert k e f = tt
told-all [] (v ∷ values) ps bound cert k e f = absurd (omega (arith, e))
told-all (b ∷ books) [] ps bound cert k e f = absurd (omega (arith, e))
told-all (b ∷ books) (v ∷ values) ps bound cert k e f = (
  (session_standing ps bound cert (k + 0), f 0 b v refl refl),
  told-all books values ps bound cert (suc k) (omega (arith, e))
      (λ j c x at is. let next : k + suc j ≡ suc k + j = omega arith in subst (λ (i : ℕ). TellsOf c x (session_standing ps bound cert i)) next (f (suc j) c x at is)),
)

module _ (o : Options) (u : cover.Options) (ps : List (Problem × Bool)) (cert : List ℕ) where
  found-all : (k : ℕ) (kept : List State) (session : List (Parts × Bool)) (books : List BookModel) (values : List Value) → AreBooksOf u kept session books → AreLeftBy o books → length values ≡ length books →
      ((j : ℕ) (b : BookModel) (v : Value) → slice_get books j ≡ Some b → slice_get values j ≡ Some v → TellsOf b v (session_standing ps o.bound cert (k + j))) → AreFoundFrom ps o cert k (problems_of session) values
  found-all k kept [] [] [] h left e f = tt
  found-all k kept [] [] (v ∷ values) h left e f = absurd (omega (arith, e))
  found-all k kept ((q, x) ∷ later) (b ∷ books) [] h left e f = absurd (omega (arith, e))
  found-all k kept ((q, x) ∷ later) (b ∷ books) (v ∷ values) h left e f =
      let here : k + 0 ≡ k = omega arith in
      let tells = subst (λ (i : ℕ). TellsOf b v (session_standing ps o.bound cert i)) here (f 0 b v refl refl) in (
        subst (λ (r : Parts). IsFoundPart ps o cert k (problem_of r) v) h.1 (found-part b h.0 o left.0 ps cert k v tells),
        found-all (suc k) (next_kept b later) later books values h.5 left.1 (omega (arith, e))
            (λ j c y at is. let next : k + suc j ≡ suc k + j = omega arith in subst (λ (i : ℕ). TellsOf c y (session_standing ps o.bound cert i)) next (f (suc j) c y at is)),
      )
  found-all k kept [] (b ∷ books) values h left e f = absurd h
  found-all k kept (c ∷ later) [] values h left e f = absurd h

-- the texts, by the problems
same-texts : (o : Options) (u : cover.Options) (kept : List State) (session : List (Parts × Bool)) (books : List BookModel) (values : List Value) → AreBooksOf u kept session books →
    book_texts o books values ≡ solve_texts o.budget (loosenings_of o) (problems_of session) values
same-texts o u kept [] [] [] h = refl
same-texts o u kept [] [] (v ∷ values) h = refl
same-texts o u kept ((q, x) ∷ later) (b ∷ books) [] h = refl
same-texts o u kept ((q, x) ∷ later) (b ∷ books) (v ∷ values) h =
    ap₂ (λ (s t : List ℕ). s ++ t) (ap (λ (r : Parts). solve_text (problem_of r) o.budget (loosenings_of o) v) h.1) (same-texts o u (next_kept b later) later books values h.5)
same-texts o u kept [] (b ∷ books) values h = absurd h
same-texts o u kept (c ∷ later) [] values h = absurd h

pub session_answers : (o : Options) (v : ℕ) → (v ≡ 2) ⊎ (v ≡ 5) → (c d : Parts × Bool) (later : List (Parts × Bool)) (books : List BookModel) (told : SearchAnswer) → AreBooksOf (options_in v (search_options o)) [] (c ∷ d ∷ later) books → AreLeftBy o books →
    IsSessionText (options_in v (search_options o)) (c ∷ d ∷ later) books told.cert.items → SayOf o books told.text.items → AreSearchAnswers (problems_of (c ∷ d ∷ later)) o told
session_answers o v lines c d later books told are left is say =
    let u : cover.Options = options_in v (search_options o) in
    let session : List (Parts × Bool) = c ∷ d ∷ later in
    let ps : List (Problem × Bool) = problems_of session in
    let cert : List ℕ = told.cert.items in
    let tells : (j : ℕ) (b : BookModel) (x : Value) → slice_get books j ≡ Some b → slice_get is.values j ≡ Some x → TellsOf b x (session_standing ps o.bound cert (0 + j)) =
    λ j b x at value. let same : j ≡ 0 + j = omega arith in subst (λ (i : ℕ). TellsOf b x (session_standing ps o.bound cert i)) same (is.each j b x at value) in
    record {
      values = is.values;
      answers = record {
        version = session_version v;
        is_version = several_version (length (problems_of later)) v lines;
        accepted = is.accepted;
        found = found-all o u ps cert 0 [] session books is.values are left is.count tells;
      };
      text = say is.values (told-all books is.values ps o.bound cert 0 is.count tells) ∙ same-texts o u [] session books is.values are;
    }
