-- What comes of a line of a certificate of several checks, in the code's part.
use Rattle.std.proofs.Common.{◌≡◌, ℕ, suc, ◌≤◌, List, [], ◌∷◌, map, take, drop, length, Bool, true, ◌&&◌, nat_le, Option, Some, None, Vec, refl, ap, ap₂, sym, ◌∙◌, subst, arith}
use Rattle.std.specs.declared.alloc.Global.{Global}
use Rattle.std.specs.Borrow.{Bor}
use Rattle.cover_line.specs.Views.{rule_word}
use Rattle.cover_model.specs.State.{State}
use Rattle.poly_graph.specs.Problem.{Problem}
use Rattle.poly_graph.specs.ProblemViews.{Parts, problem_of}
use Rattle.problem_session.specs.Session.{problems_of}
use Rattle.std.specs.Prelude.{slice_index_or}
use Rattle.std.proofs.lemmas.Bool.{le-leb, eq-eqb}
use Rattle.std.proofs.lemmas.List.Elements.{All-take}
use Rattle.cert_read.specs.CertLine.{CertLine, checks, cover, keep}
use Rattle.cert_model.specs.Due as due
use Rattle.cert_model.specs.Due.{Value, Due, kind_due, axis_next, coordinate_next, Next, NextOf, on, faulty}
use Rattle.cert_model.specs.Accepted.{most_lemmas, next}
use Rattle.cert_model.specs.Session as model
use Rattle.cert_model.specs.Session.{SessionDue, SessionNext, header_due, checks_due, inside, in_header, in_part, none_complete}
use Rattle.cert_check.specs.declared.part.Part.{Part}
use Rattle.cert_check.specs.declared.part.Outcome.{Outcome}
use Rattle.cert_check.specs.declared.due.Due as held
use Rattle.cert_check.specs.declared.due.Due.TheVariants as code
use Rattle.cert_check.specs.declared.work.Work as held-work
use Rattle.cert_check.specs.declared.work.Work.TheVariants as work
use Rattle.cert_check.specs.declared.refusal.Refusal.{Refusal}
use Rattle.cert_check.specs.declared.refusal.Refusal.TheVariants.{BadHeader, BadNumber, RuleFails, KeepFails, OverFails, Missing, Extra, WrongBound, NotShown, BadLine, LineTooLong, Memory}
use Rattle.ival.specs.SpaceViews.{space_of}
use Rattle.interval_model.specs.Space.{Space}
use Rattle.poly_graph.specs.Problem.{Axis}
use Rattle.cover_model.specs.State as states
use Rattle.cert_check.specs.States.{Fits, loosenings_of}
use Rattle.cert_check.specs.Faults.{IsRefused}
use Rattle.cert_check.specs.Dues.{AllFit, due_of, lean_next, next_map}
use Rattle.cert_check.specs.Work.{Work, alone, together, spent, lean_session, lean_work}
use Rattle.cert_check.specs.Works.{values_of, part_of, spent_part_of, work_of, checks_from, first_of, IsFirst, IsInside, IsNoVersion, IsPart, IsPlace, IsTooled, IsSpent, AreSameChecks}
use Rattle.cert_check.proofs.Leans.{in_part_lean, in_header_lean, together_next}
use Rattle.cert_check.proofs.Sessions.{some_same, problem_at}
use Rattle.cert_check.proofs.PartEnds.{held_lean, values_brief}

-- ---- refusals

-- what keeps a fault keeps the refusal
pub refused_by : {D E : Type 0} (f : NextOf D → NextOf E) → ((g : due.CertFault) → f (faulty g) ≡ faulty g) → (r : Refusal) (x : NextOf D) → IsRefused r x → IsRefused r (f x)
refused_by f k BadHeader x e = ap f e ∙ k due.BadHeader
refused_by f k BadNumber x e = ap f e ∙ k due.BadNumber
refused_by f k (RuleFails w) x e = ap f e ∙ k (due.RuleFails (rule_word w))
refused_by f k KeepFails x e = ap f e ∙ k due.KeepFails
refused_by f k OverFails x e = ap f e ∙ k due.OverFails
refused_by f k Missing x e = ap f e ∙ k due.Missing
refused_by f k Extra x e = ap f e ∙ k due.Extra
refused_by f k WrongBound x e = ap f e ∙ k due.WrongBound
refused_by f k NotShown x e = ap f e ∙ k due.NotShown
refused_by f k BadLine x e = ap f e ∙ k due.BadLine
refused_by f k LineTooLong x e = ap f e ∙ k due.LineTooLong
refused_by f k Memory x e = tt

abbrev pub as_part : model.Part → Next → NextOf Work
as_part t x = next_map (λ (d : SessionDue). together d) (in_part t x)

abbrev pub as_header : Next → NextOf Work
as_header x = next_map (λ (d : SessionDue). together d) (in_header x)

pub part_refused : (t : model.Part) (r : Refusal) (x : Next) → IsRefused r x → IsRefused r (as_part t x)
part_refused t r x e = refused_by (as_part t) (λ g. refl) r x e

pub header_refused : (r : Refusal) (x : Next) → IsRefused r x → IsRefused r (as_header x)
header_refused r x e = refused_by as_header (λ g. refl) r x e

pub alone_refused : (r : Refusal) (x : Next) → IsRefused r x → IsRefused r (next_map (λ (d : Due). alone d) x)
alone_refused r x e = refused_by (next_map (λ (d : Due). alone d)) (λ g. refl) r x e

-- ---- parts

pub spent_part : (t : Part) → spent (part_of t) ≡ spent_part_of t
spent_part t = ap (λ (vs : List Value). record (part_of t) { may_keep = []; values = vs }) (values_brief t.values.items)

pub spent_again : (t : Part) → spent (spent_part_of t) ≡ spent_part_of t
spent_again t = ap (λ (vs : List Value). record (spent_part_of t) { values = vs }) (values_brief t.values.items)

-- what is due inside the part, or behind it
pub part_goes : (t : model.Part) (mid new : Part) (x : Next) (d : held.Due) (w : held-work.Work) → spent t ≡ spent_part_of mid → lean_next x ≡ on (due_of mid.problem d) → IsInside mid d new w →
    next_map lean_work (as_part t x) ≡ on (work_of new w)
part_goes t mid new x d w e f h =
    together_next (in_part t x) ∙ ap (next_map (λ (d : SessionDue). together d)) (in_part_lean t x)
    ∙ ap₂ (λ (u : model.Part) (z : Next). next_map (λ (d : SessionDue). together d) (next_map lean_session (in_part u z))) e f ∙ ap (λ (y : Work). on y) h

-- ---- changes of a part

pub tooled_checks : (old new : Part) → IsTooled old new → AreSameChecks old new
tooled_checks old new t b =
    ap₂ (λ (s : Option (Bor (List (Parts × Bool)))) (p : Parts). record { problem = first_of s p; later = checks_from s 1; bound = b }) t.session t.problem

pub spent_checks : (old new : Part) → IsSpent old new → AreSameChecks old new
spent_checks old new t b =
    ap₂ (λ (s : Option (Bor (List (Parts × Bool)))) (p : Parts). record { problem = first_of s p; later = checks_from s 1; bound = b }) t.session t.problem

abbrev made : Option (Bor (List (Parts × Bool))) → ℕ → Parts → List Outcome → model.Part
made s n p os = record { problem = problem_of p; may_keep = []; later = problems_of (checks_from s (suc n)); values = values_of os }

pub tooled_spent : (old new : Part) → IsTooled old new → spent_part_of new ≡ spent_part_of old
tooled_spent old new t =
    ap₂ (λ (s : Option (Bor (List (Parts × Bool)))) (n : ℕ). made s n new.problem new.values.items) t.session t.number
    ∙ ap₂ (λ (p : Parts) (os : List Outcome). made old.session old.number p os) t.problem (ap (λ (v : Vec Outcome Global). v.items) t.values)

pub spent_spent : (old new : Part) → IsSpent old new → spent_part_of new ≡ spent_part_of old
spent_spent old new t =
    ap₂ (λ (s : Option (Bor (List (Parts × Bool)))) (n : ℕ). made s n new.problem new.values.items) t.session t.number
    ∙ ap₂ (λ (p : Parts) (os : List Outcome). made old.session old.number p os) t.problem (ap (λ (v : Vec Outcome Global). v.items) t.values)

pub same_checks : (old mid new : Part) → AreSameChecks old mid → AreSameChecks mid new → AreSameChecks old new
same_checks old mid new h k b = k b ∙ h b

-- ---- one line

-- `checks`
first-is : (s : Option (Bor (List (Parts × Bool)))) (p : Parts) → IsPlace s 0 p → first_of s p ≡ p
first-is None p h = refl
first-is (Some b) p h = at-first b.now h.0 where
  at-first : (cs : List (Parts × Bool)) → problem_at cs 0 ≡ Some p → slice_index_or (map (λ (q : Parts × Bool). q.0) cs) 0 p ≡ p
  at-first [] e = cc
  at-first ((q, t) ∷ cs) e = some_same e

pub first_is : (t : Part) → IsPart t → t.number ≡ 0 → first_of t.session t.problem ≡ t.problem
first_is t h e = first-is t.session t.problem (subst (λ (n : ℕ). IsPlace t.session n t.problem) e h.place)

length-problems : (cs : List (Parts × Bool)) → length (problems_of cs) ≡ length cs
length-problems [] = refl
length-problems (c ∷ cs) = let e = length-problems cs in omega (arith, e)

pub checks_goes : (t : Part) (s : states.Loosenings) (n : ℕ) (b : Option ℕ) → IsPart t → IsFirst t → n ≡ suc (length (checks_from t.session 1)) →
    next_map lean_work (next_map (λ (d : SessionDue). together d) (model.session_next (problem_of (first_of t.session t.problem)) (problems_of (checks_from t.session 1)) b (checks_due s) (checks n))) ≡ on (together (model.part_due s (part_of t)))
checks_goes t s n b h f e =
    let later = problems_of (checks_from t.session 1) in
    ap (λ (x : Bool). next_map lean_work (next_map (λ (d : SessionDue). together d) (due.given x (model.part_due s (model.first_part (problem_of (first_of t.session t.problem)) later)) due.BadHeader)))
    (eq-eqb n (suc (length later)) (e ∙ ap suc (sym (length-problems (checks_from t.session 1)))))
    ∙ ap₂ (λ (p : Parts) (k : ℕ). on (together (model.part_due s (record { problem = problem_of p; may_keep = []; later = problems_of (checks_from t.session (suc k)); values = [] })))) (first_is t h f.number) (sym f.number)
    ∙ ap₂ (λ (Ls : List State) (os : List Outcome). on (together (model.part_due s (record { problem = problem_of t.problem; may_keep = Ls; later = problems_of (checks_from t.session (suc t.number)); values = values_of os })))) (sym f.may_keep) (sym f.values)

-- `keep`
pub keep_goes : (t new : Part) (s : states.Loosenings) (k q : ℕ) (b : Option ℕ) (kept : List State) → q ≤ k → q ≤ length t.may_keep → IsSpent t new → kept ≡ take q t.may_keep →
    next_map lean_work (next_map (λ (d : SessionDue). together d) (model.session_next (problem_of (first_of t.session t.problem)) (problems_of (checks_from t.session 1)) b (model.keep_due s k (part_of t)) (keep q)))
    ≡ on (together (model.first_due s k kept (spent_part_of new)))
keep_goes t new s k q b kept l m h e =
    let test : (nat_le q k && nat_le q (length t.may_keep)) ≡ true = ap₂ (λ (x y : Bool). x && y) (le-leb q k l) (le-leb q (length t.may_keep) m) in
    ap (λ (x : Bool). next_map lean_work (next_map (λ (d : SessionDue). together d) (due.given x (model.first_due s k (take q t.may_keep) (part_of t)) due.KeepFails))) test
    ∙ ap₂ (λ (xs : List State) (u : model.Part). on (together (model.first_due s k xs u))) (sym e) (spent_part t ∙ sym (spent_spent t new h))

-- the first of them fit the problem, as all do
pub kept_fit : (p q : Parts) (n : ℕ) (all cut : List State) → cut ≡ take n all → p ≡ q → AllFit q all → AllFit p cut
kept_fit p q n all cut e f h = subst (λ (r : Parts). AllFit r cut) (sym f) (subst (AllFit q) (sym e) (All-take (Fits q) n all h))

-- a line that follows `keep`
pub none_goes : (x : Next) (d : Due) → lean_next x ≡ on d → lean_next (none_complete x) ≡ on d
none_goes (on e) d h = h
none_goes (faulty f) d h = cc

-- in a certificate of one check
pub alone_goes : (x : Next) (d : Due) → lean_next x ≡ on d → next_map lean_work (next_map (λ (e : Due). alone e) x) ≡ on (alone d)
alone_goes (on e) d h = ap (next_map (λ (e : Due). alone e)) h
alone_goes (faulty f) d h = cc

-- in a header
pub header_goes : (x : Next) (p : Parts) (d : held.Due) (y : Work) → lean_next x ≡ on (due_of p d) → as_header (on (due_of p d)) ≡ on y → lean_work y ≡ y → next_map lean_work (as_header x) ≡ on y
header_goes x p d y h e f =
    together_next (in_header x) ∙ ap (next_map (λ (e : SessionDue). together e)) (in_header_lean x) ∙ ap (λ (z : Next). next_map (λ (e : SessionDue). together e) (next_map lean_session (in_header z))) h
    ∙ sym (together_next (in_header (on (due_of p d)))) ∙ ap (next_map lean_work) e ∙ ap (λ (z : Work). on z) f

-- what the code holds is all that it keeps
pub held_work_lean : (t : Part) (w : held-work.Work) → lean_work (work_of t w) ≡ work_of t w
held_work_lean t (work.Alone d) = ap (λ (e : Due). alone e) (held_lean t.problem d)
held_work_lean t (work.Header d) = ap (λ (e : Due). together (header_due e)) (held_lean t.problem d)
held_work_lean t (work.Checks s) = refl
held_work_lean t (work.Part s) = ap (λ (vs : List Value). together (model.part_due (loosenings_of s) (record (part_of t) { values = vs }))) (values_brief t.values.items)
held_work_lean t (work.Keep s k) = ap (λ (vs : List Value). together (model.keep_due (loosenings_of s) k (record (part_of t) { values = vs }))) (values_brief t.values.items)
held_work_lean t (work.First c) = ap (λ (u : model.Part). together (model.first_due (loosenings_of c.loosenings) c.count c.lemmas u)) (spent_again t)
held_work_lean t (work.Inside d) = ap₂ (λ (u : model.Part) (e : Due). together (model.inside_due u e)) (spent_again t) (held_lean t.problem d)
held_work_lean t (work.Done s) = ap (λ (vs : List Value). together (model.all_done (loosenings_of s) vs)) (values_brief t.values.items)

module _ (P : Problem) (later : List (Problem × Bool)) (b : Option ℕ) (l : CertLine) where
  axis-step : (s : states.Loosenings) (k : ℕ) (lemmas : List State) (axes : List Axis) (space : Space) →
      model.session_next P later b (header_due (axis_next s k lemmas axes space)) l ≡ in_header (next P b (axis_next s k lemmas axes space) l)
  axis-step s k lemmas [] space = refl
  axis-step s k lemmas (a ∷ axes) space = refl

  coordinate-step : (s : states.Loosenings) (axes : List Axis) (space : Space) → model.session_next P later b (header_due (coordinate_next s axes space)) l ≡ in_header (next P b (coordinate_next s axes space) l)
  coordinate-step s [] space = refl
  coordinate-step s (a ∷ axes) space = refl

  header-step : (p : Parts) (d : held.Due) → IsNoVersion d → model.session_next P later b (header_due (due_of p d)) l ≡ in_header (next P b (due_of p d) l)
  header-step p code.Version h = absurd h
  header-step p (code.Axis c space) h = axis-step (loosenings_of c.loosenings) c.count c.lemmas (drop (length (space_of space)) p.axes) (space_of space)
  header-step p (code.Coordinate s space) h = coordinate-step (loosenings_of s) (drop (length (space_of space)) p.axes) (space_of space)
  header-step p _ h = refl

pub is_no_version : (d : held.Due) → (d ≡ code.Version → ⊥) → IsNoVersion d
is_no_version code.Version h = h refl
is_no_version _ h = tt

-- a line of the first check's problem
module _ (t : Part) (is : IsPart t) (number : t.number ≡ 0) (b : Option ℕ) (l : CertLine) (d : held.Due) where
  abbrev pub here : Next
  here = next (problem_of t.problem) b (due_of t.problem d) l

  pub header_here : IsNoVersion d → next_map (λ (e : SessionDue). together e) (model.session_next (problem_of (first_of t.session t.problem)) (problems_of (checks_from t.session 1)) b (header_due (due_of t.problem d)) l) ≡ as_header here
  header_here h =
      ap (λ (p : Parts). next_map (λ (e : SessionDue). together e) (model.session_next (problem_of p) (problems_of (checks_from t.session 1)) b (header_due (due_of t.problem d)) l)) (first_is t is number)
      ∙ ap (next_map (λ (e : SessionDue). together e)) (header-step (problem_of t.problem) (problems_of (checks_from t.session 1)) b l t.problem d h)

  pub alone_here : next_map (λ (e : Due). alone e) (next (problem_of (first_of t.session t.problem)) b (due_of t.problem d) l) ≡ next_map (λ (e : Due). alone e) here
  alone_here = ap (λ (p : Parts). next_map (λ (e : Due). alone e) (next (problem_of p) b (due_of t.problem d) l)) (first_is t is number)

pub tooled_first : (old new : Part) → IsTooled old new → IsFirst old → IsFirst new
tooled_first old new t f = record {
  number = t.number ∙ f.number;
  may_keep = t.may_keep ∙ f.may_keep;
  values = ap (λ (v : Vec Outcome Global). v.items) t.values ∙ f.values;
}

-- `cover`
pub cover_goes : (t : Part) (s : states.Loosenings) (k : ℕ) (b : Option ℕ) (l : CertLine) → l ≡ cover k → k ≤ most_lemmas →
    next_map lean_work (next_map (λ (d : SessionDue). together d) (model.session_next (problem_of (first_of t.session t.problem)) (problems_of (checks_from t.session 1)) b (model.part_due s (part_of t)) l)) ≡ on (together (model.keep_due s k (part_of t)))
cover_goes t s k b l e h =
    ap (λ (x : CertLine). next_map lean_work (next_map (λ (d : SessionDue). together d) (model.session_next (problem_of (first_of t.session t.problem)) (problems_of (checks_from t.session 1)) b (model.part_due s (part_of t)) x))) e
    ∙ ap (λ (x : Bool). next_map lean_work (next_map (λ (d : SessionDue). together d) (due.given x (model.keep_due s k (part_of t)) due.BadHeader))) (le-leb k most_lemmas h)
    ∙ ap (λ (vs : List Value). on (together (model.keep_due s k (record (part_of t) { values = vs })))) (values_brief t.values.items)
