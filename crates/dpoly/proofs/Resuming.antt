-- From a certificate that was read to the one that goes on from it.
use Rattle.std.proofs.Common.{◌≡◌, inl, inr, ◌⊎◌, ◌≤◌, ℕ, zero, suc, List, [], ◌∷◌, Bool, true, false, cond, nat_le, Option, IsTrue, length, refl, ap, sym, ◌∙◌, subst}
use Rattle.desk.specs.Sight.{Sight}
use Rattle.command_line.specs.Words.{Resume, IsResume}
use Rattle.poly_graph.specs.Problem.{Problem}
use Rattle.poly_graph.specs.ProblemViews.{Parts, problem_of}
use Rattle.interval_model.specs.Space.{Space}
use Rattle.cover_model.specs.State.{State, Loosenings, in_version}
use Rattle.cover_book.specs.Limits.{IsWithinLimits}
use Rattle.cert_model.specs.Due.{Standing, Value, at_point, left_open}
use Rattle.cert_model.specs.Accepted.{IsAccepted, Verdict, accepted, refused, verdict, most_bytes}
use Rattle.cert_model.specs.AnswerText.{has_open, budget_text, delta_sat_text, unsat_text, width_text}
use Rattle.cert_model.specs.Session.{one_verdict}
use Rattle.cert_model.proofs.Header.{header_fits}
use Rattle.cert_text.specs.Stuck.{stuck_at}
use Rattle.cert_model.proofs.Header.{accepted_fits, version_limits}
use Rattle.cert_upgrade.specs.Upgraded.{upgraded}
use Rattle.cert_upgrade.proofs.Upgrades.{upgraded_is_accepted}
use Rattle.cert_resumed.specs.Resumed.{IsVersionBehind, joined, own_left}
use Rattle.cert_base.specs.declared.base.Base.{Base}
use Rattle.cert_base.specs.Base.{IsBase}
use Rattle.cert_base.specs.Gathered.{standing_states}
use Rattle.cert_check.specs.declared.fault.CertFault.{CertFault}
use Rattle.cert_check.specs.Feeding.{IsRefusalOrMemory}
use Rattle.cert_resume.specs.Answer.{TellsOfOwn, IsResumedCover, IsResumedPoint}
use Rattle.cert_resume.specs.Request.{options_of}
use Rattle.cert_resume.specs.declared.answer.Cover.{Cover}
use Rattle.cert_resume.specs.declared.answer.Own.{Own}
use Rattle.cert_resume.specs.declared.answer.Own.TheVariants as own
use Rattle.check_run.specs.declared.status.Status.{Status}
use Rattle.check_run.specs.Course.{Course, gives, Ends, RunEnds, on_course, in_failed, draft_failed, no_memory_yet}
use Rattle.check_run.specs.Can.{verdict_course}
use Rattle.check_run.specs.Check.{IsRefused, IsRefusalOf}
use Rattle.check_run.specs.Loosened.{AtDelta, AtMargin}
use Rattle.check_run.specs.Resumed.{CanResume, CanResumeBy, GoesOn, IsFoundBehind, IsMore, IsMoreCovered, part_text, share_of, share_text, trees_left}
use Rattle.check_run.specs.Script.{IsWithin}
use Rattle.check_run.proofs.Single.{one_value}
use Rattle.dpoly.specs.declared.answers.SearchAnswer.{SearchAnswer}
use Rattle.dpoly.specs.Resume.{SaysShare, TellsMore, request_of}

-- ---- the text of a share

module _ (p : Problem) (words : Resume) (s : Loosenings) (own : List Standing) (n : ℕ) where
  pub says-nothing : n ≡ 0 → own ≡ [] → unsat_text s ≡ share_text p words.budget (share_of words) s own n
  says-nothing e f = rw (e, f) refl

  pub says-part : (n ≡ 0 → ⊥) → own ≡ [] → part_text (share_of words) n s ≡ share_text p words.budget (share_of words) s own n
  says-part e f = by_count n e where
    by_count : (k : ℕ) → (k ≡ 0 → ⊥) → part_text (share_of words) k s ≡ share_text p words.budget (share_of words) s own k
    by_count zero e = absurd (e refl)
    by_count (suc k) e = rw f refl

  pub says-open : IsTrue (has_open own) → budget_text words.budget ≡ share_text p words.budget (share_of words) s own n
  says-open h = by_own own h where
    by_own : (xs : List Standing) → IsTrue (has_open xs) → budget_text words.budget ≡ share_text p words.budget (share_of words) s xs n
    by_own [] h = cc
    by_own (x ∷ xs) h = sym (by_test (has_open (x ∷ xs)) refl h) where
      by_test : (b : Bool) → has_open (x ∷ xs) ≡ b → IsTrue (has_open (x ∷ xs)) → share_text p words.budget (share_of words) s (x ∷ xs) n ≡ budget_text words.budget
      by_test true e h = rw e refl
      by_test false e h = let z : IsTrue false = subst IsTrue e h in cc

  pub says-stuck : (atom : ℕ) (state : State) (rest : List Standing) → has_open own ≡ false → own ≡ stuck_at atom state ∷ rest → width_text p state atom ≡ share_text p words.budget (share_of words) s own n
  says-stuck atom state rest e f =
      let closed : has_open (stuck_at atom state ∷ rest) ≡ false = ap has_open (sym f) ∙ e in
      sym (ap (λ (xs : List Standing). share_text p words.budget (share_of words) s xs n) f ∙ rw closed refl)

-- ---- what was read

-- the verdict of bytes is one
same-verdict : (p : Problem) (b : Option ℕ) (bytes : List ℕ) (s s' : Loosenings) (v v' : Value) → IsAccepted p b bytes s v → IsAccepted p b bytes s' v' → (s ≡ s') × (v ≡ v')
same-verdict p b bytes s s' v v' h h' = let e : ◌≡◌ {A = Verdict} (accepted s v) (accepted s' v') = sym h ∙ h' in (cc, cc)

not-none : (xs : List Standing) → (standing_states xs ≡ [] → ⊥) → (x : Standing) × (rest : List Standing) × (xs ≡ x ∷ rest)
not-none [] h = absurd (h refl)
not-none (x ∷ rest) h = (x, rest, refl)

module _ (p : Problem) (b : Option ℕ) (words : Resume) (cert_in cert : List ℕ) (s : Loosenings) (v : Value) (text : List ℕ) where
  goes : (xs : List Standing) → (standing_states xs ≡ [] → ⊥) → IsFoundBehind p b words cert_in cert s v text ⊎ IsMoreCovered p b words cert_in cert s v text → GoesOn p b words cert_in cert s (left_open xs) v text
  goes [] h more = absurd (h refl)
  goes (x ∷ xs) h more = more

left-some : (p : Problem) (cert : List ℕ) (base : Base) (h : IsBase p base.bound cert base) → standing_states h.read.left ≡ [] → ⊥
left-some p cert base h e = h.some (h.of.left ∙ e)

-- ---- what goes on from a cover

pub found-more : (p : Problem) (words : Resume) (cert_in : List ℕ) (base : Base) (cert text : List ℕ) (space : Space) (told : SearchAnswer) → told.cert.items ≡ cert → told.text.items ≡ text → IsBase p base.bound cert_in base →
    IsResumedPoint p base cert space → AtDelta base.delta (λ s. text ≡ delta_sat_text p s space) → TellsMore p base.bound words cert_in told
found-more p words cert_in base cert text space told c t h found says =
    let s = h.read.loosenings in
    let same = h.of.loosenings in
    record {
      loosenings = s;
      read = left_open h.read.left;
      accepted = h.is_read.accepted;
      more = record {
        version = found.version;
        behind = subst (λ (l : Loosenings). IsVersionBehind l.version found.version) same found.behind;
        value = at_point space;
        accepted = subst (λ (bs : List ℕ). IsAccepted p base.bound bs (in_version found.version s) (at_point space)) (sym c)
            (subst (λ (l : Loosenings). IsAccepted p base.bound cert (in_version found.version l) (at_point space)) same found.accepted);
        goes_on = goes p base.bound words cert_in told.cert.items s (at_point space) told.text.items h.read.left (left-some p cert_in base h)
            (inl (record { space = space; value = refl; answer = t ∙ says s (sym (ap (λ (l : Loosenings). l.delta_bits) same)) }));
      };
    }

pub covered-more : (p : Problem) (words : Resume) (cert_in : List ℕ) (base : Base) (x : Cover) (text : List ℕ) (told : SearchAnswer) → told.cert.items ≡ x.cert.items → told.text.items ≡ text → IsBase p base.bound cert_in base →
    IsResumedCover p base.bound (request_of words) cert_in x → SaysShare p words base.margin x text → TellsMore p base.bound words cert_in told
covered-more p words cert_in base x text told c t h so says =
    let s = h.read.loosenings in
    let r = so.resumption in
    let same = same-verdict p base.bound cert_in r.read.loosenings s (left_open r.read.left) (left_open h.read.left) r.is_read.accepted h.is_read.accepted in
    let own : List Standing = own_left (share_of words) 0 (trees_left p base.bound words cert_in x.cert.items r) in
    let W : List ℕ → Type 0 = λ bs. IsMore p base.bound words cert_in s (left_open h.read.left) bs told.text.items in
    record {
      loosenings = s;
      read = left_open h.read.left;
      accepted = h.is_read.accepted;
      more = subst W (sym c) (record {
        version = r.version;
        behind = subst (λ (l : Loosenings). IsVersionBehind l.version r.version) same.0 r.behind;
        value = left_open (joined (trees_left p base.bound words cert_in x.cert.items r));
        accepted = subst (λ (l : Loosenings). IsAccepted p base.bound x.cert.items (in_version r.version l) (left_open (joined (trees_left p base.bound words cert_in x.cert.items r)))) same.0 r.accepted;
        goes_on = goes p base.bound words cert_in x.cert.items s (left_open (joined (trees_left p base.bound words cert_in x.cert.items r))) told.text.items h.read.left (left-some p cert_in base h)
            (inr (record {
              resumed = r;
              value = refl;
              answer = t ∙ says s (sym (ap (λ (l : Loosenings). l.margin_bits) h.of.loosenings)) own so.own ∙ ap (λ (n : ℕ). share_text p words.budget (share_of words) s own n) so.others;
            }));
      });
    }

-- ---- what is written again

-- its version is no later one
earlier : (p : Problem) (b : Option ℕ) (bytes : List ℕ) (s : Loosenings) (v : Value) → IsAccepted p b bytes s v → s.version ≤ 5
earlier p b bytes s v h = (version_limits s.version (accepted_fits p b bytes s v h).0).1

-- the certificate in the newest version is accepted with the same value
again-accepted : (p : Problem) (b : Option ℕ) (bytes cert : List ℕ) (s : Loosenings) (v : Value) → IsAccepted p b bytes s v → cert ≡ upgraded bytes → length cert ≤ most_bytes → IsAccepted p b cert (in_version 5 s) v
again-accepted p b bytes cert s v h e fits =
    let anew = upgraded_is_accepted ((p, true) ∷ []) b bytes s (v ∷ []) (ap one_verdict h) (subst (λ (bs : List ℕ). length bs ≤ most_bytes) e fits) in
    let one = one_value p true b (upgraded bytes) (in_version 5 s) (v ∷ []) anew in
    let is : one.value ≡ v = cc_value (sym one.only) in
    subst (λ (bs : List ℕ). IsAccepted p b bs (in_version 5 s) v) (sym e) (subst (λ (w : Value). IsAccepted p b (upgraded bytes) (in_version 5 s) w) is one.accepts) where
      cc_value : {w w' : Value} → w ∷ [] ≡ w' ∷ [] → w ≡ w'
      cc_value e = cc

pub point-again : (p : Problem) (b : Option ℕ) (words : Resume) (cert_in : List ℕ) (space : Space) (d : ℕ) (text : List ℕ) (told : SearchAnswer) → (loosenings : Loosenings) → IsAccepted p b cert_in loosenings (at_point space) → d ≡ loosenings.delta_bits →
    told.cert.items ≡ upgraded cert_in → length told.cert.items ≤ most_bytes → told.text.items ≡ text → AtDelta d (λ s. text ≡ delta_sat_text p s space) → TellsMore p b words cert_in told
point-again p b words cert_in space d text told s h delta c fits t says = record {
  loosenings = s;
  read = at_point space;
  accepted = h;
  more = record {
    version = 5;
    behind = (refl, earlier p b cert_in s (at_point space) h);
    value = at_point space;
    accepted = again-accepted p b cert_in told.cert.items s (at_point space) h c fits;
    goes_on = (c, refl, t ∙ says s (sym delta));
  };
}

pub closed-again : (p : Problem) (b : Option ℕ) (words : Resume) (cert_in : List ℕ) (m : ℕ) (text : List ℕ) (told : SearchAnswer) → (loosenings : Loosenings) → IsAccepted p b cert_in loosenings (left_open []) → m ≡ loosenings.margin_bits →
    told.cert.items ≡ upgraded cert_in → length told.cert.items ≤ most_bytes → told.text.items ≡ text → AtMargin m (λ s. text ≡ unsat_text s) → TellsMore p b words cert_in told
closed-again p b words cert_in m text told s h margin c fits t says = record {
  loosenings = s;
  read = left_open [];
  accepted = h;
  more = record {
    version = 5;
    behind = (refl, earlier p b cert_in s (left_open []) h);
    value = left_open [];
    accepted = again-accepted p b cert_in told.cert.items s (left_open []) h c fits;
    goes_on = (c, refl, t ∙ says s (sym margin));
  };
}

-- ---- the ends of a run

resumes-by : (p : Problem) (b : Option ℕ) (words : Resume) (cert : List ℕ) (told : SearchAnswer) (t : TellsMore p b words cert told) → CanResume p b words cert (gives words.out told.cert.items told.text.items)
resumes-by p b words cert told t =
    subst (λ (v : Verdict). CanResumeBy v p b words cert (gives words.out told.cert.items told.text.items)) (sym t.accepted) (told.cert.items, told.text.items, t.more, refl)

pub told-ends : (p : Problem) (b : Option ℕ) (words : Resume) (cert out c t : List ℕ) (told : SearchAnswer) (old new : Sight) (status : Status) → words.out ≡ out → c ≡ told.cert.items → t ≡ told.text.items → TellsMore p b words cert told →
    Ends (gives out c t) old new status → RunEnds (CanResume p b words cert) [] old new status
told-ends p b words cert out c t told old new status o e f tells ends =
    on_course (gives words.out told.cert.items told.text.items) (resumes-by p b words cert told tells)
    (subst (λ (x : List ℕ). Ends (gives x told.cert.items told.text.items) old new status) (sym o) (subst (λ (y : List ℕ). Ends (gives out told.cert.items y) old new status) f (subst (λ (x : List ℕ). Ends (gives out x t) old new status) e ends)))

memory-one : (v : Verdict) (f : CertFault) → IsRefusalOrMemory v f → IsRefusalOrMemory (one_verdict v) f
memory-one v f (inl e) = inl e
memory-one (accepted s v) f (inr h) = inr h
memory-one (refused g n) f (inr h) = inr h

refuses-by : (p : Problem) (b : Option ℕ) (words : Resume) (cert : List ℕ) (v : Verdict) (tail : Course) → IsRefused (one_verdict v) → tail ≡ verdict_course (one_verdict v) → CanResumeBy v p b words cert tail
refuses-by p b words cert (accepted s v) tail is e = absurd is
refuses-by p b words cert (refused f n) tail is e = e

pub refused-ends : (p : Problem) (b : Option ℕ) (words : Resume) (cert : List ℕ) (fault : CertFault) (old new : Sight) (status : Status) → IsRefusalOrMemory (verdict p b cert) fault → RunEnds (IsRefusalOf fault) [] old new status →
    RunEnds (CanResume p b words cert) [] old new status
refused-ends p b words cert fault old new status h (on_course tail can ends) =
    let is = can (one_verdict (verdict p b cert)) (memory-one (verdict p b cert) fault h) in
    on_course tail (refuses-by p b words cert (verdict p b cert) tail is.0 is.1) ends
refused-ends p b words cert fault old new status h (in_failed is any side quiet) = absurd (any refl)
refused-ends p b words cert fault old new status h (draft_failed is drafts side quiet) = absurd drafts
refused-ends p b words cert fault old new status h (no_memory_yet is quiet) = no_memory_yet is quiet

-- ---- the condition of the search

-- a search begins in version 2 or 5
abbrev IsFirst : ℕ → Type 0
IsFirst v = (v ≡ 2) ⊎ (v ≡ 5)

begins : (is_old : Bool) → IsFirst (cond is_old 2 5)
begins true = inl refl
begins false = inr refl

pub base-limits : (p : Parts) (words : Resume) (base : Base) → IsResume words → IsWithin p → (cert : List ℕ) → IsBase (problem_of p) base.bound cert base → IsWithinLimits p (options_of base (request_of words))
base-limits p words base asked w cert h =
    let fits = header_fits (problem_of p) base.bound cert h.read.loosenings (left_open h.read.left) h.is_read.accepted in
    let same = h.of.loosenings in
    let d : base.delta ≡ h.read.loosenings.delta_bits = ap (λ (s : Loosenings). s.delta_bits) same in
    let m : base.margin ≡ h.read.loosenings.margin_bits = ap (λ (s : Loosenings). s.margin_bits) same in
    record {
      margins = record {
        some_delta = rw d fits.0;
        few_delta = rw d fits.1;
        above_delta = rw (d, m) fits.2;
        few_margin = rw m fits.3;
        few_least = asked.least_most;
        version_is = begins (nat_le base.version 2);
      };
      budget = asked.budget_most;
      axes = w.axes;
      atoms = w.atoms;
    }

-- ---- the text of a cover's answer

says-as : (p : Problem) (words : Resume) (m : ℕ) (x : Cover) (o : Own) (P : List ℕ → Type 0) → x.own ≡ o →
    ((text : List ℕ) → P text → (s : Loosenings) → s.margin_bits ≡ m → (own : List Standing) → TellsOfOwn o own → text ≡ share_text p words.budget (share_of words) s own x.others) →
    (text : List ℕ) → P text → SaysShare p words m x text
says-as p words m x o P e f text t s k own h = f text t s k own (subst (λ (y : Own). TellsOfOwn y own) e h)

pub nothing-said : (p : Problem) (words : Resume) (m : ℕ) (x : Cover) → x.own ≡ own.Nothing → x.others ≡ 0 → (text : List ℕ) → AtMargin m (λ s. text ≡ unsat_text s) → SaysShare p words m x text
nothing-said p words m x e n = says-as p words m x own.Nothing (λ text. AtMargin m (λ s. text ≡ unsat_text s)) e (λ text t s k left h. t s k ∙ says-nothing p words s left x.others n h)

pub part-said : (p : Problem) (words : Resume) (m : ℕ) (x : Cover) → x.own ≡ own.Nothing → (x.others ≡ 0 → ⊥) → (text : List ℕ) → AtMargin m (λ s. text ≡ part_text (share_of words) x.others s) → SaysShare p words m x text
part-said p words m x e n = says-as p words m x own.Nothing (λ text. AtMargin m (λ s. text ≡ part_text (share_of words) x.others s)) e (λ text t s k left h. t s k ∙ says-part p words s left x.others n h)

pub open-said : (p : Problem) (words : Resume) (m : ℕ) (x : Cover) → x.own ≡ own.Open → (text : List ℕ) → text ≡ budget_text words.budget → SaysShare p words m x text
open-said p words m x e = says-as p words m x own.Open (λ text. text ≡ budget_text words.budget) e (λ text t s k left h. t ∙ says-open p words s left x.others h)

pub stuck-said : (p : Problem) (words : Resume) (m : ℕ) (x : Cover) (atom : ℕ) (state : State) → x.own ≡ own.Stuck atom state → (text : List ℕ) → text ≡ width_text p state atom → SaysShare p words m x text
stuck-said p words m x atom state e = says-as p words m x (own.Stuck atom state) (λ text. text ≡ width_text p state atom) e (λ text t s k left h. t ∙ says-stuck p words s left x.others atom state h.1.0 h.0 h.1.1)
