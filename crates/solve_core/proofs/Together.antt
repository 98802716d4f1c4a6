-- Workers on a shared book.
use Rattle.std.proofs.Common.{◌≡◌, inl, ℕ, suc, ◌+◌, ◌-◌, Bool, true, false, ◌&&◌, true≢false, All, List, [], ◌∷◌, ◌++◌, drop, Option, Some, None, Result, Ok, Err, IfOk, IfSome, IsTrue, refl, ap, sym, ◌∙◌, subst, arith}
use Rattle.std.specs.List.{Contains}
use Rattle.std.proofs.lemmas.List.Elements.{All-append, All-contains, All-contains_itself, All-drop, All-nil, All-push, All-weaker, Contains-append_left, Contains-push}
use Rattle.poly_graph.specs.ProblemViews.{Parts, problem_of}
use Rattle.interval_model.specs.Space.{space_within}
use Rattle.cover_model.specs.Fits.{FitsProblem, IsShownAt}
use Rattle.cover_model.specs.Root.{root_space}
use Rattle.cover_model.specs.Rules.{Line}
use Rattle.cover_model.specs.State.{State, IsLemma, covers}
use Rattle.cover_model.proofs.Within.{space_through}
use Rattle.poly_graph.specs.Marks.{marks_within}
use Rattle.cover_data.specs.declared.margins.Margins.{Margins}
use Rattle.cover_data.specs.declared.margins.Options.{Options}
use Rattle.cover_data.specs.Margins.{loosenings_of}
use Rattle.cover_data.specs.Models.{LemmaModel, KeptModel}
use Rattle.cover_data.specs.declared.kept.KeptPatch.{KeptPatch}
use Rattle.cover_data.specs.Runs.{IsRun, children, kids_by, kids_of}
use Rattle.cover_data.specs.Views.{kept_of}
use Rattle.cover_data.proofs.Proved.{closed_is_lemma, children_within}
use Rattle.cover_book.specs.declared.calls.Call.{Call}
use Rattle.cover_book.specs.declared.calls.Call.TheVariants.{Commit, Learn, StateOf}
use Rattle.cover_book.specs.declared.calls.Reply.{Reply}
use Rattle.cover_book.specs.declared.calls.Reply.TheVariants.{LiveState, Refused}
use Rattle.cover_book.specs.declared.refusal.BookRefusal.{BookRefusal}
use Rattle.cover_book.specs.Keeps.{IsBook}
use Rattle.cover_book.specs.Model.{BookModel, problem_in, margins_of, loosenings_in}
use Rattle.cover_book.specs.Steps.{MayBeCalled}
use Rattle.cover_book.proofs.Meaning.{nodes_lie_within}
use Rattle.box_worker.specs.declared.worked.Worked.{Worked}
use Rattle.box_worker.specs.declared.worked.Worked.TheVariants.{Patch, Closed, Point}
use Rattle.box_worker.specs.Worked.{AreLemmasFor, AreLemmasAt, IsWorkFor}
use Rattle.book_lock.specs.declared.shared.SharedBook.{SharedBook}
use Rattle.book_lock.specs.declared.views.Entry.{Entry}
use Rattle.book_lock.specs.Laws.{IsBookHistory}
use Rattle.book_lock.specs.Shared.{BookSeat, view, first_of, IsSeatOf, IsOnePartSeatOf, IsReply, ResultReply, IsSplit, IsJoined}
use Rattle.book_lock.proofs.Histories.{reply_is_of_book}
use Rattle.lemma_shelf.specs.Lemmas.{IsLemmaOf, Appends}
use Rattle.solve_core.specs.Reaches.{Reaches}
use Rattle.steal_pool.specs.Account.{has_left}
use Rattle.solve_core.specs.declared.worker.Worker.{Worker}
use Rattle.solve_core.specs.declared.member.Member.{Member}
use Rattle.solve_core.specs.Workers.{IsWorkerOf, LiesInBook, IsOpenBoxOf, MayBeKept}
use Rattle.solve_core.specs.Members.{IsMemberOf, HasSeatsOf}
use Rattle.solve_core.proofs.Reached.{one_call, reaches_through, same_reaches}
use Rattle.solve_core.proofs.Works.{left_some, closed_some}

-- ---- seats

abbrev Holds : BookModel → LemmaModel → Type 0
Holds b L = FitsProblem (problem_in b) L.state × IsLemma (problem_in b) (loosenings_in b) L.state

-- a call leaves a seat its part
pub part_stays : (s : SharedBook) (seat seat' : BookSeat) (c : Call) (r : Reply) → IsOnePartSeatOf s seat → IsSeatOf s seat' → IsReply seat c r seat' → IsOnePartSeatOf s seat'
part_stays s seat seat' c r h o x = (o, ap (λ v. v.parts) x.rest ∙ h.1)

pub part_stays_by : {X : Type 0} (reply : X → Reply) (s : SharedBook) (seat seat' : BookSeat) (c : Call) (answer : Result X BookRefusal) →
    IsOnePartSeatOf s seat → IsSeatOf s seat' → ResultReply reply seat c answer seat' → IsOnePartSeatOf s seat'
part_stays_by reply s seat seat' c (Ok x) h o k = part_stays s seat seat' c (reply x) h o k
part_stays_by reply s seat seat' c (Err e) h o k = part_stays s seat seat' c (Refused e) h o k

-- a seat that took another in has its part too
pub one_more_part : (s : SharedBook) (seat other seat' : BookSeat) → IsJoined seat other seat' → IsOnePartSeatOf s other → (view seat').parts ≡ suc (view seat).parts
one_more_part s seat other seat' j h =
    let e : (view seat').parts ≡ (view seat).parts + (view other).parts = ap (λ v. v.parts) j.view_is in
    let f : (view other).parts ≡ 1 = h.1 in omega (arith, e, f)

-- a new seat has one part
pub new_seat : (s : SharedBook) (seat seat' new other : BookSeat) → IsSeatOf s new → IsSplit seat seat' new → other ≡ new → IsOnePartSeatOf s other
new_seat s seat seat' new other own split e = subst (IsOnePartSeatOf s) (sym e) (own, ap (λ v. v.parts) split.new_view)

-- a worker that may ask has its seats
pub has_seats : (s : SharedBook) (m : Member) → IsMemberOf s m → HasSeatsOf s m
has_seats s m h = record { worker = h.worker.seat; asker = h.asker.seat }

-- a new seat makes a worker that has no boxes and no lemmas yet
pub new_worker : (s : SharedBook) (seat seat' new : BookSeat) (w : Worker) → IsBook (first_of s) → IsSeatOf s new → IsSplit seat seat' new → w.seat ≡ new → has_left w.hand ≡ false → w.waiting.items ≡ [] → w.lemmas.items ≡ [] → IsWorkerOf s w
new_worker s seat seat' new w b own split e stays idle none = record {
  book = b;
  seat = new_seat s seat seat' new w.seat own split e;
  stays = stays;
  waiting = subst (All (IsOpenBoxOf (first_of s))) (sym idle) (All-nil (IsOpenBoxOf (first_of s)));
  lemmas = subst (AreLemmasFor (problem_in (first_of s)) (loosenings_in (first_of s))) (sym none) (All-nil (Holds (first_of s)));
}

-- one part fewer
pub one_part_fewer : (seat seat' new : BookSeat) → IsSplit seat seat' new → (view seat').parts ≡ (view seat).parts - 1
one_part_fewer seat seat' new split = ap (λ v. v.parts) split.left

-- what holds of all, and of the last
pub all_but_last : {X : Type 0} (F : X → Type 0) (old new : List X) (x : X) → old ≡ new ++ (x ∷ []) → All F old → All F new × F x
all_but_last F old new x e h =
    let k : All F (new ++ (x ∷ [])) = subst (All F) e h in
    (All-weaker (Contains new) F (λ y c. All-contains F (new ++ (x ∷ [])) y k (Contains-append_left new (x ∷ []) y c)) new (All-contains_itself new), All-contains F (new ++ (x ∷ [])) x k (Contains-push new x))

pub all_and_one : {X : Type 0} (F : X → Type 0) (old new : List X) (x : X) → new ≡ old ++ (x ∷ []) → All F old → F x → All F new
all_and_one F old new x e h k = subst (All F) (sym e) (All-push F old x h k)

-- ---- states that lie in a book

-- the state of a live node
pub live_lies : (s : SharedBook) (seat seat' : BookSeat) (n : ℕ) (S : State) → IsBook (first_of s) → IsSeatOf s seat → IsReply seat (StateOf n) (LiveState S) seat' → LiesInBook (first_of s) S
live_lies s seat seat' n S w own r =
    let b = first_of s in
    let t = reply_is_of_book b seat seat' (StateOf n) (LiveState S) w own.1 r in
    subst (λ (p : Parts). FitsProblem (problem_of p) S × IsTrue (space_within S.space (root_space (problem_of p)))) t.2.problem (nodes_lie_within t.0 t.2.book n S (inl t.3.0))

pub reply_lies : (s : SharedBook) (seat seat' : BookSeat) (n : ℕ) → IsBook (first_of s) → IsSeatOf s seat → (r : Result State BookRefusal) → ResultReply LiveState seat (StateOf n) r seat' → IfOk r (LiesInBook (first_of s))
reply_lies s seat seat' n w own (Ok S) h = live_lies s seat seat' n S w own h
reply_lies s seat seat' n w own (Err e) h = tt

first-true : (a b : Bool) → IsTrue (a && b) → IsTrue a
first-true true b h = refl
first-true false b h = absurd (true≢false (sym h))

covers-space : (A B : State) → IsTrue (covers A B) → IsTrue (space_within B.space A.space)
covers-space A B h = first-true (space_within B.space A.space) (marks_within A.marks B.marks) h

end-of : (o : Option Line) (S : State) (pair : State × State) → kids_by o S ≡ Some pair → (l : Line) × (o ≡ Some l) × (children l S ≡ Some pair)
end-of None S pair e = cc
end-of (Some l) S pair e = (l, refl, e)

-- the two that a patch leaves of such a state
kids_lie : (b : BookModel) (n : ℕ) (P : KeptPatch) → IsBook b → MayBeCalled b (Commit n P) → LiesInBook b P.first → (x y : State) → kids_of (kept_of P) ≡ Some (x, y) → LiesInBook b x × LiesInBook b y
kids_lie b n P w may lies x y e =
    let k = kept_of P in
    let t = end-of k.end k.reached (x, y) e in
    let d = children_within (problem_in b) w.whole.problem (margins_of b.options) k may.0 t.0 t.1 x y t.2 in
    let root = root_space (problem_in b) in (
      (d.0.1, space_through x.space P.first.space root (covers-space P.first x d.0.0) lies.1),
      (d.1.1, space_through y.space P.first.space root (covers-space P.first y d.1.0) lies.1),
    )

pub parts_lie : (b : BookModel) (n : ℕ) (P : KeptPatch) → IsBook b → MayBeCalled b (Commit n P) → LiesInBook b P.first → (o : Option (State × State)) → IfSome o (λ q. kids_of (kept_of P) ≡ Some (q.0, q.1)) → IfSome o (λ q. LiesInBook b q.0 × LiesInBook b q.1)
parts_lie b n P w may lies None h = tt
parts_lie b n P w may lies (Some q) h = kids_lie b n P w may lies q.0 q.1 h

-- what came of the work on a state, where it is a patch
pub patch_kept : (b : BookModel) (n : ℕ) (w : Worked) (P : KeptPatch) → w ≡ Patch P → MayBeKept b n w → MayBeCalled b (Commit n P) × LiesInBook b P.first
patch_kept b n w P e h = subst (MayBeKept b n) e h

-- ---- a book of these parts and options

module _ (b : BookModel) (p : Parts) (o : Options) (e : b.problem ≡ p) (f : b.options ≡ o) where
  of-book : (F : Parts → Options → Type 0) → F p o → F b.problem b.options
  of-book F h = subst (λ (q : Parts). F q b.options) (sym e) (subst (λ (r : Options). F p r) (sym f) h)

  to-parts : (F : Parts → Options → Type 0) → F b.problem b.options → F p o
  to-parts F h = subst (λ (q : Parts). F q o) e (subst (λ (r : Options). F b.problem r) f h)

  -- a state that lies in the book is one to work on
  pub state_fits : (S : State) → LiesInBook b S → FitsProblem (problem_of p) S × IsTrue (space_within S.space (root_space (problem_of p)))
  state_fits S h = subst (λ (x : Parts). FitsProblem (problem_of x) S × IsTrue (space_within S.space (root_space (problem_of x)))) e h

  -- what came of the work may be handed to the book
  pub may_be_kept : (lemmas : List LemmaModel) (S : State) (n : ℕ) (w : Worked) → LiesInBook b S → IsWorkFor p o lemmas S w → MayBeKept b n w
  may_be_kept lemmas S n (Patch P) lies h = ((of-book (λ q r. IsRun (problem_of q) (margins_of r) (kept_of P)) h.0.run, left_some P.end h.1), subst (LiesInBook b) (sym h.0.first) lies)
  may_be_kept lemmas S n (Closed P None) lies h = (of-book (λ q r. IsRun (problem_of q) (margins_of r) (kept_of P)) h.0.run, closed_some P.end h.1)
  may_be_kept lemmas S n (Closed P (Some k)) lies h = (
    (of-book (λ q r. IsRun (problem_of q) (margins_of r) (kept_of P)) h.0.run, closed_some P.end h.1),
    (of-book (λ q r. IsRun (problem_of q) (margins_of r) k) h.2.1.run, h.2.1.closed),
  )
  may_be_kept lemmas S n (Point x) lies h = of-book (λ q r. IsShownAt (problem_of q) (loosenings_of (margins_of r)) x) h.shown

  -- its lemmas are lemmas at these
  pub lemmas_at : (lemmas : List LemmaModel) → AreLemmasFor (problem_in b) (loosenings_in b) lemmas → AreLemmasAt p o lemmas
  lemmas_at lemmas h = to-parts (λ q r. AreLemmasFor (problem_of q) (loosenings_of (margins_of r)) lemmas) h

-- ---- lemmas

-- what holds of the problem and the margins of a book holds of their names
pub named : (b : BookModel) (p : Parts) (m : Margins) → p ≡ b.problem → m ≡ margins_of b.options → (F : Parts → Margins → Type 0) → F b.problem (margins_of b.options) → F p m
named b p m e f F h = subst (λ (q : Parts). F q m) (sym e) (subst (λ (n : Margins). F b.problem n) (sym f) h)

of-named : (b : BookModel) (p : Parts) (m : Margins) → p ≡ b.problem → m ≡ margins_of b.options → (F : Parts → Margins → Type 0) → F p m → F b.problem (margins_of b.options)
of-named b p m e f F h = subst (λ (q : Parts). F q (margins_of b.options)) e (subst (λ (n : Margins). F p n) f h)

-- what a closed run begins with is a lemma
pub lemma_holds : (b : BookModel) (p : Parts) (m : Margins) (k : KeptModel) → p ≡ b.problem → m ≡ margins_of b.options → MayBeCalled b (Learn k) → (i : ℕ) (S : State) → S ≡ k.first → IsLemmaOf p m (record { id = i; state = S })
lemma_holds b p m k e f h i S q =
    let at : FitsProblem (problem_in b) k.first × IsLemma (problem_in b) (loosenings_in b) k.first = (h.0.sound.first, closed_is_lemma (problem_in b) (margins_of b.options) k h.0 h.1) in
    named b p m e f (λ x y. IsLemmaOf x y (record { id = i; state = S })) (subst (λ (T : State). FitsProblem (problem_in b) T × IsLemma (problem_in b) (loosenings_in b) T) (sym q) at)

-- lemmas that a source has given, of which the latest stay
pub read_lemmas : (b : BookModel) (p : Parts) (m : Margins) (old given new : List LemmaModel) (k : ℕ) → p ≡ b.problem → m ≡ margins_of b.options → Appends p m old given → new ≡ drop k given →
    AreLemmasFor (problem_in b) (loosenings_in b) old → AreLemmasFor (problem_in b) (loosenings_in b) new
read_lemmas b p m old given new k e f a q h =
    let more : All (Holds b) a.more = of-named b p m e f (λ x y. All (IsLemmaOf x y) a.more) a.lemmas in
    let all : All (Holds b) given = subst (All (Holds b)) (sym a.items) (All-append (Holds b) old a.more h more) in
    subst (All (Holds b)) (sym q) (All-drop (Holds b) k given all)

-- ---- histories

pub history_reaches : (b b' : BookModel) (log : List (Entry Call Reply)) → IsBookHistory b log b' → Reaches b b'
history_reaches b b' [] h = same_reaches h
history_reaches b b' (e ∷ es) h = reaches_through (one_call b h.0 e.call e.reply h.1 h.2) (history_reaches h.0 b' es h.3)

-- what follows of each value
pub each_ok : {X E : Type 0} (P Q : X → Type 0) (r : Result X E) → ((x : X) → P x → Q x) → IfOk r P → IfOk r Q
each_ok P Q (Ok x) f h = f x h
each_ok P Q (Err e) f h = tt
