-- Certificates that are read at any place and checked, each by itself.
use Rattle.std.proofs.Common.{◌≡◌, ◌<◌, ◌≤◌, ◌+◌, ◌-◌, inl, inr, ℕ, zero, suc, List, [], ◌∷◌, ◌++◌, Bool, true, Option, Some, None, Result, Ok, Err, IfSome, length, take, drop, refl, ap, sym, ◌∙◌, subst, arith, take-append-drop, length-append, length-take-le, length-drop, take-add, take_all}
use Rattle.std.specs.Prelude.{slice_get}
use Rattle.std.specs.Option.{option_flatten, option_map}
use Rattle.desk.specs.Sight.{Sight, IsFront, PartStep, part_in}
use Rattle.poly_graph.specs.Problem.{Problem}
use Rattle.poly_graph.specs.ProblemViews.{Parts, problem_of}
use Rattle.problem_session.specs.Session.{problems_of}
use Rattle.cert_model.specs.Accepted.{Verdict, accepted, refused, verdict}
use Rattle.cert_model.specs.Session.{one_verdict, session_verdict}
use Rattle.cert_check.specs.declared.checker.Verdict as told
use Rattle.cert_check.specs.declared.fault.CertFault.{CertFault}
use Rattle.cert_check.specs.declared.feed.Feed.{Feed}
use Rattle.cert_check.specs.Feeding.{HasTaken, IsRefusalOrMemory, IsVerdictOfTaken, IsVerdictOrMemory}
use Rattle.cert_check.specs.Sessions.{HasTakenSession}
use Rattle.check_run.specs.Joined.{AreAllAccepted, IsAcceptedAlone}
use Rattle.check_run.specs.declared.check.Unconfirmed.{Unconfirmed}
use Rattle.check_run.specs.declared.check.Unconfirmed.TheVariants.{Fault}
use Rattle.dpoly.specs.Join.{IsFirstFault, IsFirstFaultOn, IsToldAlone}

-- ---- bytes at the front of a certificate

abbrev pub IsFrontOf : List ℕ → List ℕ → Type 0
IsFrontOf bytes held = (length bytes ≤ length held) × (bytes ≡ take (length bytes) held)

pub front_start : (o : Option (List ℕ)) → IfSome o (IsFrontOf [])
front_start None = tt
front_start (Some held) = (omega arith, refl)

module _ (bytes buffer : List ℕ) (n : ℕ) where
  -- what was read behind them
  abbrev pub IsBehind : List ℕ → Type 0
  IsBehind held = IsFront n (length buffer) buffer (drop (length bytes) held)

  pub longer : n ≤ length buffer → length (bytes ++ take n buffer) ≡ length bytes + n
  longer fits = length-append bytes (take n buffer) ∙ ap (λ k. length bytes + k) (length-take-le n buffer fits)

  pub front_step : (o : Option (List ℕ)) → IfSome o (IsFrontOf bytes) → IfSome o IsBehind → n ≤ length buffer → IfSome o (IsFrontOf (bytes ++ take n buffer))
  front_step None f g fits = tt
  front_step (Some held) f g fits =
      let len : length (bytes ++ take n buffer) ≡ length bytes + n = longer fits in
      let within : n ≤ length (drop (length bytes) held) = g.within in
      let left : length (drop (length bytes) held) ≡ length held - length bytes = length-drop (length bytes) held in
      (rw len (omega arith), rw (len, take-add (length bytes) n held, ← f.1, g.bytes_are) refl)

  pub front_end : (o : Option (List ℕ)) → n ≡ 0 → 0 < length buffer → IfSome o (IsFrontOf bytes) → IfSome o IsBehind → IfSome o (λ held. bytes ≡ held)
  front_end None none room f g = tt
  front_end (Some held) none room f g =
      let nothing : drop (length bytes) held ≡ [] = g.end none room in
      let left : length (drop (length bytes) held) ≡ length held - length bytes = length-drop (length bytes) held in
      let short : length held ≤ length bytes = omega (arith, sym left ∙ ap length nothing) in
      f.1 ∙ take_all (length bytes) held short

over-some : {A : Type 0} (o : Option A) (P Q : A → Type 0) → ((x : A) → P x → Q x) → IfSome o P → IfSome o Q
over-some None P Q f h = tt
over-some (Some x) P Q f h = f x h

-- ---- one certificate

-- some of its bytes were read, from its beginning on, and taken
pub record CheckedAt (p : Parts) (b : Option ℕ) (number : ℕ) (f : Feed) (at : ℕ) (old now : Sight) : Type 0 where
  pub bytes : List ℕ
  pub has : HasTaken p b bytes f
  pub place : at ≡ length bytes
  pub front : IfSome (part_in number old) (IsFrontOf bytes)
  pub same : now ≡ old

pub alone_start : (p : Parts) (b : Option ℕ) (number : ℕ) (f : Feed) (d : Sight) → HasTaken p b [] f → CheckedAt p b number f 0 d d
alone_start p b number f d has = record { bytes = []; has = has; place = refl; front = front_start (part_in number d); same = refl }

-- of the only check
one-only : (v : Verdict) (x : CertFault) → IsRefusalOrMemory (one_verdict v) x → IsRefusalOrMemory v x
one-only v x (inl e) = inl e
one-only (accepted s w) x (inr h) = inr h
one-only (refused g n) x (inr h) = inr h

module _ (p : Parts) (b : Option ℕ) (number : ℕ) (f : Feed) (at n : ℕ) (buffer : List ℕ) (old now new : Sight) (so_far : CheckedAt p b number f at old now) (step : PartStep number at n buffer now new) where
  behind-them : IfSome (part_in number old) (IsBehind so_far.bytes buffer n)
  behind-them =
      subst (λ (d : Sight). IfSome (part_in number d) (IsBehind so_far.bytes buffer n)) so_far.same
      (subst (λ (k : ℕ). IfSome (part_in number now) (λ held. IsFront n (length buffer) buffer (drop k held))) so_far.place step.front)

  front-more : IfSome (part_in number old) (IsFrontOf (so_far.bytes ++ take n buffer))
  front-more = front_step so_far.bytes buffer n (part_in number old) so_far.front behind-them step.fits

  pub alone_step : (more : Feed) (later : ℕ) → ((q : List (Parts × Bool)) (c : Option ℕ) (bs : List ℕ) → HasTakenSession q c bs f → HasTakenSession q c (bs ++ take n buffer) more) → later ≡ at + n → CheckedAt p b number more later old new
  alone_step more later goes e = record {
    bytes = so_far.bytes ++ take n buffer;
    has = goes ((p, true) ∷ []) b so_far.bytes so_far.has;
    place = e ∙ ap (λ (k : ℕ). k + n) so_far.place ∙ sym (longer so_far.bytes buffer n step.fits);
    front = front-more;
    same = step.same ∙ so_far.same;
  }

  pub alone_end : (r : Result told.Verdict CertFault) → n ≡ 0 → 0 < length buffer → IsVerdictOfTaken f r → IfSome (part_in number old) (λ cert. IsVerdictOrMemory (verdict (problem_of p) b cert) r)
  alone_end r none room tells =
      over-some (part_in number old) (λ held. so_far.bytes ≡ held) (λ cert. IsVerdictOrMemory (verdict (problem_of p) b cert) r) (λ held e. subst (λ (bs : List ℕ). IsVerdictOrMemory (verdict (problem_of p) b bs) r) e (tells p b so_far.bytes so_far.has))
      (front_end so_far.bytes buffer n (part_in number old) none room so_far.front behind-them)

  pub alone_fault : (x : CertFault) → ((q : List (Parts × Bool)) (c : Option ℕ) (bs : List ℕ) → HasTakenSession q c bs f → (rest : List ℕ) → IsRefusalOrMemory (session_verdict (problems_of q) c ((bs ++ take n buffer) ++ rest)) x) →
      IfSome (part_in number old) (λ cert. IsRefusalOrMemory (verdict (problem_of p) b cert) x)
  alone_fault x tells =
      let bytes : List ℕ = so_far.bytes ++ take n buffer in
      over-some (part_in number old) (IsFrontOf bytes) (λ cert. IsRefusalOrMemory (verdict (problem_of p) b cert) x)
      (λ held e.
      let whole : bytes ++ drop (length bytes) held ≡ held = ap (λ (l : List ℕ). l ++ drop (length bytes) held) e.1 ∙ take-append-drop (length bytes) held in
      subst (λ (bs : List ℕ). IsRefusalOrMemory (verdict (problem_of p) b bs) x) whole
      (one-only (verdict (problem_of p) b (bytes ++ drop (length bytes) held)) x (tells ((p, true) ∷ []) b so_far.bytes so_far.has (drop (length bytes) held)))) front-more

-- a verdict is told without its value
told-by : (v : Verdict) (w : told.Verdict) → IsVerdictOrMemory v (Ok w) → IsToldAlone v (Ok tt)
told-by (accepted s x) w h = (s, x, refl)
told-by (refused g n) w h = absurd h

pub told_ok : (p : Parts) (b : Option ℕ) (o : Option (List ℕ)) (w : told.Verdict) → IfSome o (λ cert. IsVerdictOrMemory (verdict (problem_of p) b cert) (Ok w)) → IfSome o (λ cert. IsToldAlone (verdict (problem_of p) b cert) (Ok tt))
told_ok p b o w h = over-some o (λ cert. IsVerdictOrMemory (verdict (problem_of p) b cert) (Ok w)) (λ cert. IsToldAlone (verdict (problem_of p) b cert) (Ok tt)) (λ cert h. told-by (verdict (problem_of p) b cert) w h) h

pub told_none : (p : Parts) (b : Option ℕ) (o : Option (List ℕ)) (r : Result (Unit {0}) Unconfirmed) → ((v : Verdict) → IsToldAlone v r) → IfSome o (λ cert. IsToldAlone (verdict (problem_of p) b cert) r)
told_none p b None r h = tt
told_none p b (Some cert) r h = h (verdict (problem_of p) b cert)

-- ---- one certificate after the other

-- a part by its number
pub record Split (parts : List (List ℕ)) (k : ℕ) : Type 0 where
  pub cert : List ℕ
  pub behind : List (List ℕ)
  pub is_there : slice_get parts k ≡ Some cert
  pub all : parts ≡ take k parts ++ cert ∷ behind
  pub more : take (suc k) parts ≡ take k parts ++ cert ∷ []
  pub number : length (take k parts) ≡ k

pub split_at : (parts : List (List ℕ)) (k : ℕ) → k < length parts → Split parts k
split_at [] k less = absurd (omega (arith, less))
split_at (x ∷ parts) zero less = record { cert = x; behind = parts; is_there = refl; all = refl; more = refl; number = refl }
split_at (x ∷ parts) (suc k) less =
    let s = split_at parts k (omega (arith, less)) in
    record { cert = s.cert; behind = s.behind; is_there = s.is_there; all = ap (λ (l : List (List ℕ)). x ∷ l) s.all; more = ap (λ (l : List (List ℕ)). x ∷ l) s.more; number = ap suc s.number }

all-behind : (p : Problem) (b : Option ℕ) (xs : List (List ℕ)) (cert : List ℕ) → AreAllAccepted p b xs → IsAcceptedAlone p b cert → AreAllAccepted p b (xs ++ cert ∷ [])
all-behind p b [] cert all h = (h, tt)
all-behind p b (x ∷ xs) cert all h = (all.0, all-behind p b xs cert all.1 h)

-- those before a number are accepted
pub record AcceptedSoFar (p : Problem) (b : Option ℕ) (number count : ℕ) (old now : Sight) : Type 0 where
  pub same : now ≡ old
  pub within : number ≤ count
  pub accepted : (parts : List (List ℕ)) → old.parts ≡ Some parts → length parts ≡ count → AreAllAccepted p b (take number parts)

pub accepted_none : (p : Problem) (b : Option ℕ) (count : ℕ) (d : Sight) → AcceptedSoFar p b 0 count d d
accepted_none p b count d = record { same = refl; within = omega arith; accepted = λ parts e n. tt }

-- a certificate that the desk shows
told-there : (P : List ℕ → Type 0) (number : ℕ) (d : Sight) (parts : List (List ℕ)) (cert : List ℕ) → d.parts ≡ Some parts → slice_get parts number ≡ Some cert → IfSome (part_in number d) P → P cert
told-there P number d parts cert e f h =
    let is : part_in number d ≡ Some cert = ap (λ (o : Option (List (List ℕ))). option_flatten (option_map (λ parts. slice_get parts number) o)) e ∙ f in
    subst (λ (o : Option (List ℕ)). IfSome o P) is h

module _ (p : Problem) (b : Option ℕ) (number count : ℕ) (old now new : Sight) (so_far : AcceptedSoFar p b number count old now) (less : number < count) where
  told-of : (r : Result (Unit {0}) Unconfirmed) → IfSome (part_in number now) (λ cert. IsToldAlone (verdict p b cert) r) → (parts : List (List ℕ)) → old.parts ≡ Some parts → length parts ≡ count → (s : Split parts number) → IsToldAlone (verdict p b s.cert) r
  told-of r tells parts e n s = told-there (λ cert. IsToldAlone (verdict p b cert) r) number now parts s.cert (ap (λ (d : Sight). d.parts) so_far.same ∙ e) s.is_there tells

  pub accepted_one : (x : Unit {0}) (later : ℕ) → later ≡ suc number → new ≡ now → IfSome (part_in number now) (λ cert. IsToldAlone (verdict p b cert) (Ok x)) → AcceptedSoFar p b later count old new
  accepted_one x later e same tells = record {
    same = same ∙ so_far.same;
    within = omega (arith, e, less);
    accepted = λ parts f n.
        let s = split_at parts number (omega (arith, n, less)) in
        subst (λ (k : ℕ). AreAllAccepted p b (take k parts)) (sym e) (subst (λ (l : List (List ℕ)). AreAllAccepted p b l) (sym s.more) (all-behind p b (take number parts) s.cert (so_far.accepted parts f n) (told-of (Ok x) tells parts f n s)));
  }

  pub fault_first : (x : CertFault) (k : ℕ) → k ≡ suc number → IfSome (part_in number now) (λ cert. IsToldAlone (verdict p b cert) (Err (Fault x))) → IsFirstFaultOn p b count old (Some (k, x))
  fault_first x k e tells parts f n =
      let s = split_at parts number (omega (arith, n, less)) in by (verdict p b s.cert) s refl (told-of (Err (Fault x)) tells parts f n s) where
        by : (v : Verdict) → (s : Split parts number) → verdict p b s.cert ≡ v → IsRefusalOrMemory v x → IsFirstFault p b parts (Some (k, x))
        by v s is (inl m) = inl m
        by (accepted l w) s is (inr h) = absurd h
        by (refused g line) s is (inr h) =
            inr (g, line, record { before = take number parts; cert = s.cert; behind = s.behind; all = s.all; number = e ∙ ap suc (sym s.number); accepted = so_far.accepted parts f n; refuses = is }, h)

pub none_refused : (p : Problem) (b : Option ℕ) (number count : ℕ) (old now : Sight) → AcceptedSoFar p b number count old now → count ≤ number → IsFirstFaultOn p b count old None
none_refused p b number count old now so_far over parts e n = subst (λ (l : List (List ℕ)). AreAllAccepted p b l) (take_all number parts (omega (arith, n, over))) (so_far.accepted parts e n)
