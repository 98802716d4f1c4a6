-- How pieces that are drafted and checked add up.
use Rattle.std.proofs.Common.{◌≡◌, ◌<◌, ℕ, Bool, true, false, List, [], ◌∷◌, ◌++◌, Option, Some, None, Result, Ok, Err, length, take, refl, ap, sym, subst, ◌∙◌, append_assoc, append-nil, length-append, arith}
use Rattle.std.specs.Option.{option_map}
use Rattle.desk.specs.declared.desk.Port.TheVariants.{Part, Draft}
use Rattle.desk.specs.Sight.{Sight, with_bytes, SideFailed, FailsOn}
use Rattle.desk.specs.Texts.{WritesPrefix, WritesThenFails}
use Rattle.poly_graph.specs.ProblemViews.{Parts, problem_of}
use Rattle.cert_model.specs.Accepted.{Verdict, accepted, refused, verdict}
use Rattle.cert_model.specs.Session.{one_verdict}
use Rattle.cert_check.specs.declared.fault.CertFault.{CertFault}
use Rattle.cert_check.specs.Feeding.{IsFedPiece, IsRefusalOrMemory}
use Rattle.cert_check.specs.declared.feed.Feed.{Feed}
use Rattle.desk.specs.Draft.{drafted, IsDrafted}
use Rattle.cert_joined.specs.Covers.{AreTextsOf, Cover}
use Rattle.cert_join.specs.declared.joiner.Joiner.{Joiner}
use Rattle.cert_join.specs.declared.joiner.Step.{Step}
use Rattle.cert_join.specs.declared.joiner.Step.TheVariants.{Read, On, Over}
use Rattle.cert_join.specs.declared.stop.Stop.{Stop}
use Rattle.cert_join.specs.declared.stop.Stop.TheVariants.{Failed, Denied, Memory, Unlike, Crowded, Refused}
use Rattle.cert_join.specs.declared.stop.Unjoined.{Unjoined}
use Rattle.cert_join.specs.declared.stop.Unjoined.TheVariants as unjoined
use Rattle.cert_join.specs.Drafting.{HasDrafted, HasFault, IsReadFailed, IsDraftFailed, IsOn, IsJoinedBehind, IsPut, IsRun, IsStoppedOn, IsSomeDrafted, IsWhole, Keeps, Reads, Runs}
use Rattle.cert_join.specs.Gathered.{lists_of}
use Rattle.cert_join.specs.Joining.{HasStepped, IsJoinText, IsJoining}
use Rattle.cert_join.proofs.Moved.{at_moved}
use Rattle.cert_join.proofs.Totals.{joining_finished}

map_more : (o : Option (List ℕ)) (text more : List ℕ) → option_map (λ before. before ++ more) (option_map (λ x. text) o) ≡ option_map (λ x. text ++ more) o
map_more None text more = refl
map_more (Some xs) text more = refl

-- more was written on the draft
pub drafted_more : (s : Sight) (text more : List ℕ) → with_bytes Draft more (drafted s text) ≡ drafted s (text ++ more)
drafted_more s text more = ap (λ o. record s { draft = o }) (map_more s.cert_out text more)

drafts : (s d new : Sight) (text more : List ℕ) → IsDrafted s text d → new ≡ with_bytes Draft more d → IsDrafted s (text ++ more) new
drafts s d new text more is written = written ∙ ap (λ x. with_bytes Draft more x) is ∙ drafted_more s text more

-- a piece was written, and the checker took it
pub puts_more : (s : Sight) (p : Parts) (b : Option ℕ) (before : List ℕ) (d new : Sight) (f g : Feed) (more : List ℕ) → (x : Unit {0}) →
    HasDrafted s p b before d f → new ≡ with_bytes Draft more d → IsFedPiece f more g (Ok x) → HasDrafted s p b (before ++ more) new g
puts_more s p b before d new f g more x way written fed = record { drafted = drafts s d new before more way.drafted written; taken = fed _ _ _ way.taken }

-- a piece was written, and the checker did not take it
pub stops_there : (s : Sight) (p : Parts) (b : Option ℕ) (before : List ℕ) (d new : Sight) (f : Feed) (more : List ℕ) →
    HasDrafted s p b before d f → new ≡ with_bytes Draft more d → IsSomeDrafted s new
stops_there s p b before d new f more way written = (before ++ more, drafts s d new before more way.drafted written)

-- a fault of one problem's certificate
one-fault : (v : Verdict) (f : CertFault) → IsRefusalOrMemory (one_verdict v) f → IsRefusalOrMemory v f
one-fault (accepted s x) f h = h
one-fault (refused g n) f h = h

-- a piece was written, and the checker refused it
pub refuses_there : (s : Sight) (p : Parts) (b : Option ℕ) (before : List ℕ) (d new : Sight) (f g : Feed) (more : List ℕ) (fault : CertFault) →
    HasDrafted s p b before d f → new ≡ with_bytes Draft more d → IsFedPiece f more g (Err fault) → IsSomeDrafted s new × ((rest : List ℕ) → HasFault p b ((before ++ more) ++ rest) fault)
refuses_there s p b before d new f g more fault way written fed =
    (stops_there s p b before d new f more way written, λ rest. one-fault (verdict (problem_of p) b ((before ++ more) ++ rest)) fault (fed _ _ _ way.taken rest))

-- the first bytes of a piece were written
pub stops_within : (s : Sight) (p : Parts) (b : Option ℕ) (before : List ℕ) (d new : Sight) (f : Feed) (more : List ℕ) →
    HasDrafted s p b before d f → WritesPrefix Draft more d new → IsSomeDrafted s new
stops_within s p b before d new f more way some = (before ++ take some.count more, drafts s d new before (take some.count more) way.drafted some.prefix)

-- nothing changed
pub stops_here : (s : Sight) (p : Parts) (b : Option ℕ) (before : List ℕ) (d new : Sight) (f : Feed) → HasDrafted s p b before d f → new ≡ d → IsSomeDrafted s new
stops_here s p b before d new f way same = (before, same ∙ way.drafted)

pub stays : (s : Sight) (p : Parts) (b : Option ℕ) (before : List ℕ) (d new : Sight) (f : Feed) → HasDrafted s p b before d f → new ≡ d → HasDrafted s p b before new f
stays s p b before d new f way same = record { drafted = same ∙ way.drafted; taken = way.taken }

-- the draft could not be written
pub draft_fails : (s : Sight) (p : Parts) (b : Option ℕ) (before : List ℕ) (d new : Sight) (f : Feed) (more : List ℕ) →
    HasDrafted s p b before d f → WritesThenFails Draft more d new → IsDraftFailed s new
draft_fails s p b before d new f more way fails = record {
  text = before ++ take fails.count more;
  side = let P : ℕ → Type 0 = λ n. SideFailed n new.out_faults in subst P (ap (λ x. x.out_faults) way.drafted) fails.side;
  same = fails.prefix ∙ ap (λ (x : Sight). record x { out_faults = new.out_faults }) (drafts s d _ before (take fails.count more) way.drafted refl);
}

-- a certificate could not be read
pub read_fails : (s : Sight) (p : Parts) (b : Option ℕ) (before : List ℕ) (d new : Sight) (f : Feed) → HasDrafted s p b before d f → FailsOn Part d new → IsReadFailed s new
read_fails s p b before d new f way fails = record {
  text = before;
  side = let P : ℕ → Type 0 = λ n. SideFailed n new.in_faults in subst P (ap (λ x. x.in_faults) way.drafted) fails.side;
  same = fails.same ∙ ap (λ (x : Sight). record x { in_faults = new.in_faults }) way.drafted;
}

-- ---- the joiner beside the draft

-- the parts are those of the sight
pub same_parts : (s d : Sight) (text : List ℕ) → IsDrafted s text d → d.parts ≡ s.parts
same_parts s d text e = ap (λ (x : Sight). x.parts) e

module _ (s : Sight) (p : Parts) (b : Option ℕ) (before done held : List ℕ) (j : Joiner) (d : Sight) (f : Feed) (way : HasDrafted s p b (before ++ done) d f) where
  -- a joiner's step
  abbrev Stepped : Result Step Unjoined → List ℕ → Joiner → Type 0
  Stepped r text j' = (certs : List (List ℕ)) (first : Cover) (others : List Cover) (done : List ℕ) → AreTextsOf (first ∷ others) certs → IsJoining certs first (first ∷ others) done held j →
      HasStepped certs first (first ∷ others) done r text j'

  -- more was read
  pub reads_on : (part : ℕ) (text : List ℕ) (mid new : Joiner) (d' : Sight) (x : Unit {0}) → Stepped (Ok (Read part)) text mid → d' ≡ d → Keeps {A = Unit {0}} d mid (Ok x) new →
      IsOn s p b before done held j false d' f new text
  reads_on part text mid new d' x stepped same keeps = record {
    text = done;
    by_now = stays s p b (before ++ done) d d' f way same;
    joins = λ certs first others shown texts h.
        keeps certs first (first ∷ others) done text (same_parts s d (before ++ done) way.drafted ∙ shown) (stepped certs first others done texts h);
  }

  -- nothing was drafted yet
  pub holds_on : (text : List ℕ) (new : Joiner) → Stepped (Ok On) text new → IsOn s p b before done held j false d f new text
  holds_on text new stepped = record { text = done; by_now = way; joins = λ certs first others shown texts h. stepped certs first others done texts h }

  -- what was held is drafted
  drafts-on : (text : List ℕ) (d' : Sight) (g : Feed) → HasDrafted s p b ((before ++ done) ++ text) d' g → HasDrafted s p b (before ++ (done ++ text)) d' g
  drafts-on text d' g h = subst (λ (t : List ℕ). HasDrafted s p b t d' g) (append_assoc before done text) h

  pub puts_on : (step : Step) (text piece left : List ℕ) (new : Joiner) (d' : Sight) (g : Feed) → step ≡ On → Stepped (Ok step) text new → HasDrafted s p b ((before ++ done) ++ piece) d' g → piece ≡ text → left ≡ [] →
      IsOn s p b before done held j false d' g new left
  puts_on step text piece left new d' g e some-step h is none =
      let stepped : Stepped (Ok On) text new = subst (λ (x : Step). Stepped (Ok x) text new) e some-step in
      let h' : HasDrafted s p b ((before ++ done) ++ text) d' g = subst (λ (l : List ℕ). HasDrafted s p b ((before ++ done) ++ l) d' g) is h in
      let on : IsOn s p b before done held j false d' g new [] = record {
        text = done ++ text;
        by_now = drafts-on text d' g h';
        joins = λ certs first others shown texts k.
            let next = stepped certs first others done texts k in
            record { many = next.many; at = at_moved certs first (first ∷ others) done text (lists_of new.numbers.items) new.stage new.cursors.items next.at };
      } in
      subst (λ (l : List ℕ). IsOn s p b before done held j false d' g new l) (sym none) on

  pub puts_last : (step : Step) (text piece left : List ℕ) (new : Joiner) (d' : Sight) (g : Feed) → step ≡ Over → Stepped (Ok step) text new → HasDrafted s p b ((before ++ done) ++ piece) d' g → piece ≡ text →
      IsOn s p b before done held j true d' g new left
  puts_last step text piece left new d' g e some-step h is = let stepped : Stepped (Ok Over) text new = subst (λ (x : Step). Stepped (Ok x) text new) e some-step in record {
    text = done ++ text;
    by_now = drafts-on text d' g (subst (λ (l : List ℕ). HasDrafted s p b ((before ++ done) ++ l) d' g) is h);
    joins = λ certs first others shown texts k. stepped certs first others done texts k;
  }

  -- ---- it stops

  -- the joiner does
  abbrev stop_of : Unjoined → Stop
  stop_of unjoined.Memory = Memory
  stop_of unjoined.Unlike = Unlike
  stop_of unjoined.Crowded = Crowded

  pub unjoined_on : (e : Unjoined) (text : List ℕ) (new : Joiner) → Stepped (Err e) text new → IsStoppedOn s p b before done held j (stop_of e) d
  unjoined_on unjoined.Memory text new stepped = record { stopped = (before ++ done, way.drafted); reason = λ certs first others shown texts h. tt }
  unjoined_on unjoined.Unlike text new stepped = record { stopped = (before ++ done, way.drafted); reason = λ certs first others shown texts h. stepped certs first others done texts h }
  unjoined_on unjoined.Crowded text new stepped = record { stopped = (before ++ done, way.drafted); reason = λ certs first others shown texts h. stepped certs first others done texts h }

  -- no more is read
  pub unread_on : (stop : Stop) (d' : Sight) → Reads {A = Unit {0}} d (Err stop) d' → IsStoppedOn s p b before done held j stop d'
  unread_on Failed d' h = record { stopped = read_fails s p b (before ++ done) d d' f way h; reason = λ certs first others shown texts x. tt }
  unread_on Memory d' h = record { stopped = stops_here s p b (before ++ done) d d' f way h; reason = λ certs first others shown texts x. tt }
  unread_on Denied d' h = absurd h
  unread_on Unlike d' h = absurd h
  unread_on Crowded d' h = absurd h
  unread_on (Refused fault) d' h = absurd h

  -- what joins covers begins with what is drafted then
  abbrev Begins : List ℕ → Type 0
  Begins text = (certs : List (List ℕ)) (first : Cover) (others : List Cover) → s.parts ≡ Some certs → AreTextsOf (first ∷ others) certs → IsJoining certs first (first ∷ others) done held j →
      (rest : List ℕ) × IsJoinText (first ∷ others) ((done ++ text) ++ rest)

  pub goes_begins : (step : Step) (text : List ℕ) (new : Joiner) → step ≡ On → Stepped (Ok step) text new → 0 < length text → Begins text
  goes_begins step text new e some-step some certs first others shown texts h =
      let stepped : Stepped (Ok On) text new = subst (λ (x : Step). Stepped (Ok x) text new) e some-step in
      joining_finished certs first others done text new texts (stepped certs first others done texts h) (omega (arith, some, length-append done text))

  pub over_begins : (step : Step) (text : List ℕ) (new : Joiner) → step ≡ Over → Stepped (Ok step) text new → Begins text
  over_begins step text new e some-step certs first others shown texts h =
      let stepped : Stepped (Ok Over) text new = subst (λ (x : Step). Stepped (Ok x) text new) e some-step in
      ([], subst (λ (t : List ℕ). IsJoinText (first ∷ others) t) (sym (append-nil (done ++ text))) (stepped certs first others done texts h))

  parted : (text rest : List ℕ) → ((before ++ done) ++ text) ++ rest ≡ before ++ ((done ++ text) ++ rest)
  parted text rest = ap (λ (t : List ℕ). t ++ rest) (append_assoc before done text) ∙ append_assoc before (done ++ text) rest

  -- what is held is not put
  pub unput_on : (stop : Stop) (text piece : List ℕ) (d' : Sight) (g : Feed) → Begins text → IsPut {A = Unit {0}} s p b ((before ++ done) ++ piece) (Err stop) d' g → piece ≡ text → IsStoppedOn s p b before done held j stop d'
  unput_on Failed text piece d' g begins h is = record { stopped = h; reason = λ certs first others shown texts x. tt }
  unput_on Denied text piece d' g begins h is = record { stopped = h; reason = λ certs first others shown texts x. tt }
  unput_on Memory text piece d' g begins h is = record { stopped = h; reason = λ certs first others shown texts x. tt }
  unput_on Unlike text piece d' g begins h is = absurd h
  unput_on Crowded text piece d' g begins h is = absurd h
  unput_on (Refused fault) text piece d' g begins h is = record {
    stopped = h.0;
    reason = λ certs first others shown texts x.
        let k = begins certs first others shown texts x in (
          (done ++ text) ++ k.0,
          k.1,
          subst (λ (t : List ℕ). HasFault p b t fault) (ap (λ (t : List ℕ). ((before ++ done) ++ t) ++ k.0) is ∙ parted text k.0) (h.1 k.0),
        );
  }

-- one step after others
pub on_and_on : (s : Sight) (p : Parts) (b : Option ℕ) (before done held : List ℕ) (j mid : Joiner) (t u : Bool) (d d' : Sight) (f f' : Feed) (new : Joiner) (held' left : List ℕ) →
    (h : IsOn s p b before done held j false d f mid held') → t ≡ u → IsOn s p b before h.text held' mid t d' f' new left → IsOn s p b before done held j u d' f' new left
on_and_on s p b before done held j mid t u d d' f f' new held' left h e on =
    let k : IsOn s p b before h.text held' mid u d' f' new left = subst (λ (x : Bool). IsOn s p b before h.text held' mid x d' f' new left) e on in
    record {
      text = k.text;
      by_now = k.by_now;
      joins = λ certs first others shown texts x. k.joins certs first others shown texts (h.joins certs first others shown texts x);
    }

-- a stop after others
pub on_and_stopped : (s : Sight) (p : Parts) (b : Option ℕ) (before done held : List ℕ) (j mid : Joiner) (e : Stop) (d d' : Sight) (f : Feed) (held' : List ℕ) →
    (h : IsOn s p b before done held j false d f mid held') → IsStoppedOn s p b before h.text held' mid e d' → IsStoppedOn s p b before done held j e d'
on_and_stopped s p b before done held j mid e d d' f held' h k =
    record { stopped = k.stopped; reason = λ certs first others shown texts x. k.reason certs first others shown texts (h.joins certs first others shown texts x) }

-- all is joined
pub whole : (s : Sight) (p : Parts) (b : Option ℕ) (count : ℕ) (before : List ℕ) (j new : Joiner) (d : Sight) (f : Feed) (left : List ℕ) →
    ((certs : List (List ℕ)) (first : Cover) (others : List Cover) → length certs ≡ count → AreTextsOf (first ∷ others) certs → IsJoining certs first (first ∷ others) [] [] j) →
    IsOn s p b before [] [] j true d f new left → IsWhole s p b count before d f
whole s p b count before j new d f left starts h = record {
  text = h.text;
  by_now = h.by_now;
  joins = λ certs shown many first others texts. h.joins certs first others shown texts (starts certs first others many texts);
}

pub joins_all : {A : Type 0} → (s : Sight) (p : Parts) (b : Option ℕ) (count : ℕ) (before held : List ℕ) (j new : Joiner) (old d : Sight) (f g : Feed) (left : List ℕ) (r : Result A Stop) →
    ((certs : List (List ℕ)) (first : Cover) (others : List Cover) → length certs ≡ count → AreTextsOf (first ∷ others) certs → IsJoining certs first (first ∷ others) [] [] j) →
    held ≡ [] → HasDrafted s p b before old f → Runs held j old f r left new d g → IsJoinedBehind s p b count before r d g
joins_all {A = A} s p b count before held j new old d f g left r starts none way runs =
    let here : HasDrafted s p b (before ++ []) old f = subst (λ (t : List ℕ). HasDrafted s p b t old f) (sym (append-nil before)) way in
    by r (subst (λ (t : List ℕ). IsRun s p b before [] t j r d g new left) none (runs s p b before [] here)) where
      by : (x : Result A Stop) → IsRun s p b before [] [] j x d g new left → IsJoinedBehind s p b count before x d g
      by (Ok x) h = whole s p b count before j new d g left starts h
      by (Err e) h = record { stopped = h.stopped; reason = λ certs first others shown many texts. h.reason certs first others shown texts (starts certs first others many texts) }
