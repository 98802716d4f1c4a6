-- Runs that take one more step, or end.
use Rattle.std.proofs.Common.{◌≡◌, ℕ, zero, suc, List, [], ◌∷◌, ◌++◌, set, replicate, All, IsTrue, Option, Some, None, refl, sym, ap, ◌∙◌, subst, true≢false}
use Rattle.std.specs.Prelude.{IfSome, slice_get}
use Rattle.std.proofs.lemmas.List.Elements.{All-nil, All-cons, All-head, All-tail, All-append}
use Rattle.poly_graph.specs.Problem.{Problem, IsProblem}
use Rattle.poly_graph.specs.Marks.{Mark, marked_yes, marked_no, unmarked, undecided_in}
use Rattle.cover_model.specs.State.{State, Loosenings, IsLemma}
use Rattle.cover_model.specs.Rules.{Line, Left, one, closed, rule}
use Rattle.cover_model.specs.Derivation.{AreLemmas, KeepsIf, LiesWithinIf}
use Rattle.cover_model.specs.Honest.{is_honest}
use Rattle.cover_model.specs.Fits.{FitsProblem}
use Rattle.cover_model.proofs.Proved.{rules_keep, rules_lie_within}
use Rattle.cover_data.specs.declared.margins.Margins.{Margins}
use Rattle.cover_data.specs.Margins.{loosenings_of}
use Rattle.cover_data.specs.Models.{LemmaModel, KeptModel}
use Rattle.cover_data.specs.Runs.{AreKept, is_closing, closes, CanBranch, IsEnding, IsRun}
use Rattle.cover_rule.specs.Patch.{run_at, stepped, ended_by}
use Rattle.cover_data.proofs.Runs.{leads_on, covers_itself, covers_through}

-- ---- all of two lists

split-all : (P : LemmaModel → Type 0) (xs ys : List LemmaModel) → All P (xs ++ ys) → All P xs × All P ys
split-all P [] ys h = (All-nil P, h)
split-all P (x ∷ xs) ys h = let r = split-all P xs ys (All-tail P x (xs ++ ys) h) in (All-cons P x xs (All-head P x (xs ++ ys) h) r.0, r.1)

pub kept_before : (lemmas : List State) (quoted : List LemmaModel) (L : LemmaModel) → AreKept lemmas (quoted ++ (L ∷ [])) → AreKept lemmas quoted × (slice_get lemmas L.id ≡ Some L.state)
kept_before lemmas quoted L h = let P = (λ (l : LemmaModel). slice_get lemmas l.id ≡ Some l.state) in let r = split-all P quoted (L ∷ []) h in (r.0, All-head P L [] r.1)

pub lemmas_and : (p : Problem) (s : Loosenings) (quoted : List LemmaModel) (L : LemmaModel) → All (λ (l : LemmaModel). IsLemma p s l.state) quoted → IsLemma p s L.state → All (λ (l : LemmaModel). IsLemma p s l.state) (quoted ++ (L ∷ []))
lemmas_and p s quoted L h k = let P = (λ (l : LemmaModel). IsLemma p s l.state) in All-append P quoted (L ∷ []) h (All-cons P L [] k (All-nil P))

-- a list in which a lemma stands alone under its number, and wherever else
abbrev pub alone : LemmaModel → List State
alone L = replicate (suc L.id) L.state

got-alone : (n i : ℕ) (S : State) → slice_get (replicate (suc (n)) S) n ≡ Some S
got-alone zero i S = refl
got-alone (suc n) i S = got-alone n i S

pub kept_alone : (L : LemmaModel) → slice_get (alone L) L.id ≡ Some L.state
kept_alone L = got-alone L.id 0 L.state

each-alone : (n i : ℕ) (S T : State) → slice_get (replicate n S) i ≡ Some T → S ≡ T
each-alone zero i S T e = cc
each-alone (suc n) zero S T e = cc
each-alone (suc n) (suc i) S T e = each-alone n i S T e

pub sound_alone : (p : Problem) (s : Loosenings) (L : LemmaModel) → IsLemma p s L.state → AreLemmas p s (alone L)
sound_alone p s L h i T e = subst (IsLemma p s) (each-alone (suc L.id) i L.state T e) h

nothing-there : (n : ℕ) (L : State) → slice_get [] n ≡ Some L → ⊥
nothing-there n L e = cc

pub no_lemmas : (p : Problem) (s : Loosenings) → AreLemmas p s []
no_lemmas p s n L e = absurd (nothing-there n L e)

-- ---- runs

none-is : {X : Type 0} (P : X → Type 0) (o : Option X) → o ≡ None → IfSome o P
none-is {X} P o e = subst (λ (x : Option X). IfSome x P) (sym e) tt

not-closing : (o : Option Line) → o ≡ None → IsTrue (closes o) → ⊥
not-closing o e h = true≢false (sym h ∙ ap closes e)

pub run_begins : (p : Problem) (m : Margins) (S : State) → FitsProblem p S → IsRun p m (run_at S)
run_begins p m S f = record {
  lawful = record { steps = λ lemmas h. refl; end = λ lemmas h. tt; honest = tt };
  sound = record {
    quoted = All-nil (λ (l : LemmaModel). IsLemma p (loosenings_of m) l.state);
    first = f;
    reached = f;
    within = covers_itself S;
    points = λ point i g. i;
    closed = λ h. absurd (true≢false (sym h));
    parts = tt;
  };
}

module _ (p : Problem) (g : IsProblem p) (m : Margins) (k : KeptModel) (r : IsRun p m k) (open_ : k.end ≡ None) where
  -- one more step, under lemmas of which some list holds those that are quoted
  pub run_steps : (l : Line) (quoted : List LemmaModel) (S : State) →
      ((lemmas : List State) → AreKept lemmas quoted → AreKept lemmas k.quoted × (rule p (loosenings_of m) lemmas k.reached l ≡ Some (one S))) →
      All (λ (L : LemmaModel). IsLemma p (loosenings_of m) L.state) quoted → FitsProblem p S →
      (lemmas : List State) → AreLemmas p (loosenings_of m) lemmas → rule p (loosenings_of m) lemmas k.reached l ≡ Some (one S) →
      IsRun p m (stepped k l quoted S)
  run_steps l quoted S f a fits lemmas sound e = record {
    lawful = record {
      steps = λ ls h. let x = f ls h in leads_on p (loosenings_of m) ls k.first k.steps k.reached l S (r.lawful.steps ls x.0) x.1;
      end = λ ls h. none-is (λ (x : Line). IsEnding (rule p (loosenings_of m) ls S x)) k.end open_;
      honest = none-is (λ (x : Line). IsTrue (is_honest p m.least_bits (loosenings_of m) S x)) k.end open_;
    };
    sound = record {
      quoted = a;
      first = r.sound.first;
      reached = fits;
      within = covers_through k.first k.reached S r.sound.within (subst (LiesWithinIf k.reached) e (rules_lie_within p g (loosenings_of m) lemmas k.reached l));
      points = λ point i h. subst (λ (o : Option Left). KeepsIf p (loosenings_of m) o k.reached point) e (rules_keep p g (loosenings_of m) lemmas sound k.reached l point (r.sound.points point i h) h);
      closed = λ h. absurd (not-closing k.end open_ h);
      parts = none-is (λ (x : Line). CanBranch p (loosenings_of m) x S) k.end open_;
    };
  }

  -- the end
  pub run_ends : (l : Line) (quoted : List LemmaModel) →
      ((lemmas : List State) → AreKept lemmas quoted → AreKept lemmas k.quoted × IsEnding (rule p (loosenings_of m) lemmas k.reached l)) →
      IsTrue (is_honest p m.least_bits (loosenings_of m) k.reached l) →
      All (λ (L : LemmaModel). IsLemma p (loosenings_of m) L.state) quoted →
      (IsTrue (is_closing l) → (lemmas : List State) × AreLemmas p (loosenings_of m) lemmas × (rule p (loosenings_of m) lemmas k.reached l ≡ Some closed)) →
      CanBranch p (loosenings_of m) l k.reached →
      IsRun p m (ended_by k l quoted)
  run_ends l quoted f honest a closing can = record {
    lawful = record {
      steps = λ ls h. r.lawful.steps ls (f ls h).0;
      end = λ ls h. (f ls h).1;
      honest = honest;
    };
    sound = record {
      quoted = a;
      first = r.sound.first;
      reached = r.sound.reached;
      within = r.sound.within;
      points = r.sound.points;
      closed = λ h point i q. let c = closing h in subst (λ (o : Option Left). KeepsIf p (loosenings_of m) o k.reached point) c.2 (rules_keep p g (loosenings_of m) c.0 c.1 k.reached l point i q);
      parts = can;
    };
  }

-- ---- marks set and taken back

pub mark_taken_back : (ms : List Mark) (j : ℕ) (m : Mark) → IsTrue (undecided_in ms j) → set (set ms j m) j unmarked ≡ ms
mark_taken_back [] j m h = refl
mark_taken_back (unmarked ∷ ms) zero m h = refl
mark_taken_back (marked_yes ∷ ms) zero m h = absurd (true≢false (sym h))
mark_taken_back (marked_no ∷ ms) zero m h = absurd (true≢false (sym h))
mark_taken_back (n ∷ ms) (suc j) m h = ap (λ (t : List Mark). n ∷ t) (mark_taken_back ms j m h)
