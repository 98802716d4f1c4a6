-- A step within a stage: it goes on in it, or the stage is over.
use Rattle.std.proofs.Common.{◌≡◌, ℕ, List, [], ◌++◌, Result, Ok, Err, IfOk, map, refl, ap, sym, ◌∙◌, subst, append_assoc, append-nil}
use Rattle.std.specs.declared.alloc.AllocError.{AllocError}
use Rattle.cover_model.specs.Derivation.{Tree}
use Rattle.cert_joined.specs.Joined.{Joins}
use Rattle.cert_joined.specs.Covers.{Cover}
use Rattle.cert_join.specs.declared.heads.Heads.{Heads as HeadsRead}
use Rattle.cert_join.specs.declared.numbering.Numbering.{Numbering as NumberingRead}
use Rattle.cert_join.specs.declared.joiner.Stage.{Stage}
use Rattle.cert_join.specs.declared.joiner.Stage.TheVariants.{Heads, Numbering, Lemmas, Trees, Ends}
use Rattle.cert_join.specs.declared.joiner.Step.{Step}
use Rattle.cert_join.specs.declared.joiner.Step.TheVariants.{Read, On, Over}
use Rattle.cert_join.specs.declared.stop.Unjoined.{Unjoined}
use Rattle.cert_join.specs.declared.lemmas.Lemmas.{Lemmas as LemmasRead}
use Rattle.cert_join.specs.declared.trees.Trees.{Trees as TreesRead}
use Rattle.cert_join.specs.Ahead.{AreBefore}
use Rattle.cert_join.specs.Due.{Course, IsAfter, IsNextDue, stacked, tree_text}
use Rattle.cert_join.specs.Heads.{ReadsHeads}
use Rattle.cert_join.specs.Joining.{AreAtLemmas, AreAtNumbers, AreAtTrees, IsAfterStep, IsAt, IsInMemory, IsJoinText, Within}
use Rattle.cert_join.specs.LemmasDue.{AreLemmasDue, StepsLemmas, lemmas_due}
use Rattle.cert_join.specs.Numbered.{ReadsLemmas}
use Rattle.cert_join.specs.Spot.{Spot}
use Rattle.cert_join.specs.Written.{behind_lemmas, text_of}
use Rattle.cert_join.proofs.LemmasStart.{lemmas_end}

module _ (certs : List (List ℕ)) (first : Cover) (covers : List Cover) (done : List ℕ) (numbers : List (List ℕ)) where
  pub heads_step : (r : Result Step Unjoined) (text : List ℕ) (h : HeadsRead) (spots : List Spot) → done ++ text ≡ [] → ReadsHeads certs covers r h spots → Within certs first covers done r text numbers (Heads h) spots
  heads_step (Err e) text h spots nothing reads = reads
  heads_step (Ok Over) text h spots nothing reads = (nothing, reads)
  heads_step (Ok On) text h spots nothing reads = (nothing, reads)
  heads_step (Ok (Read part)) text h spots nothing reads = (nothing, reads)

  pub numbering_step : (r : Result Step Unjoined) (text : List ℕ) (h : HeadsRead) (n : NumberingRead) (spots : List Spot) → done ++ text ≡ [] → AreAtNumbers certs first covers h → ReadsLemmas certs covers r n spots →
      Within certs first covers done r text numbers (Numbering h n) spots
  numbering_step (Err e) text h n spots nothing at reads = reads
  numbering_step (Ok Over) text h n spots nothing at reads = (nothing, at, reads)
  numbering_step (Ok On) text h n spots nothing at reads = (nothing, at, reads)
  numbering_step (Ok (Read part)) text h n spots nothing at reads = (nothing, at, reads)

  pub ends_step : (r : Step) (text : List ℕ) (part : ℕ) (is_read : _) (spots : List Spot) → IsJoinText covers (done ++ text) → Within certs first covers done (Ok r) text numbers (Ends part is_read) spots
  ends_step Over text part is_read spots is = is
  ends_step On text part is_read spots is = is
  ends_step (Read p) text part is_read spots is = is

  -- a step that fails for want of memory alone
  pub in_memory : (r : Result Step AllocError) (q : Result Step Unjoined) (text : List ℕ) (stage : Stage) (spots : List Spot) → IsInMemory r q →
      IfOk r (λ step. IsAfterStep certs first covers done step text numbers stage spots) → Within certs first covers done q text numbers stage spots
  in_memory (Ok step) q text stage spots same after = let P : Result Step Unjoined → Type 0 = λ x. Within certs first covers done x text numbers stage spots in subst P (sym same) after
  in_memory (Err e) q text stage spots same after = let P : Result Step Unjoined → Type 0 = λ x. Within certs first covers done x text numbers stage spots in subst P (sym same) tt

  -- ---- lemmas

  more-written : (old new written due later : List ℕ) → new ≡ old ++ written → due ≡ written ++ later → (done ++ old) ++ due ≡ (done ++ new) ++ later
  more-written old new written due later e f =
      ap (λ (x : List ℕ). (done ++ old) ++ x) f ∙ sym (append_assoc (done ++ old) written later) ∙ ap (λ (x : List ℕ). x ++ later) (append_assoc done old written ∙ ap (λ (x : List ℕ). done ++ x) (sym e))

  module _ (old : List ℕ) (s : LemmasRead) (spots : List Spot) (h : AreAtLemmas certs first covers (done ++ old) numbers s spots) where
    stay-lemmas : (new : List ℕ) (s' : LemmasRead) (spots' : List Spot) → AreLemmasDue certs numbers h.left s' spots' → s' ≡ s → new ≡ old → AreAtLemmas certs first covers (done ++ new) numbers s' spots'
    stay-lemmas new s' spots' due same e = record {
      settled = h.settled;
      left = h.left;
      same = h.same;
      due = due;
      whole = h.whole ∙ ap (λ (x : List ℕ). (done ++ x) ++ text_of (lemmas_due numbers s h.left)) (sym e) ∙ ap (λ (x : LemmasRead). (done ++ new) ++ text_of (lemmas_due numbers x h.left)) (sym same);
    }

    pub lemmas_step : (r : Result Step AllocError) (new : List ℕ) (s' : LemmasRead) (spots' : List Spot) → StepsLemmas certs numbers s s' h.left spots' old new r →
        IfOk r (λ step. IsAfterStep certs first covers done step new numbers (Lemmas s') spots')
    unfolding stay-lemmas
    lemmas_step (Err e) new s' spots' steps = tt
    lemmas_step (Ok On) new s' spots' steps = record {
      settled = h.settled;
      left = steps.left;
      same = steps.covers ∙ h.same;
      due = steps.due;
      whole = h.whole ∙ more-written old new steps.written (text_of (lemmas_due numbers s h.left)) (text_of (lemmas_due numbers s' steps.left)) steps.appended steps.writes;
    }
    lemmas_step (Ok (Read part)) new s' spots' steps = stay-lemmas new s' spots' steps.due steps.state steps.same
    lemmas_step (Ok Over) new s' spots' steps =
        let now = stay-lemmas new s' spots' steps.0.due steps.0.state steps.0.same in
        let end = lemmas_end certs numbers h.left s' spots' steps.0.due steps.1 in
        record {
          settled = h.settled;
          before = subst (λ (cs : List Cover). AreBefore certs (map behind_lemmas cs) spots') h.same end.0;
          whole = now.whole ∙ ap (λ (x : List ℕ). (done ++ new) ++ x) end.1 ∙ append-nil (done ++ new);
        }

  -- ---- trees

  trees-after : (old : List ℕ) (t : TreesRead) (spots : List Spot) (h : AreAtTrees certs first covers done old numbers t spots) (step : Step) (new : List ℕ) (t' : TreesRead) (spots' : List Spot) →
      IsAfter h.course step t'.task (stacked t'.places.items) new spots' → IsAfterStep certs first covers done step new numbers (Trees t') spots'
  trees-after old t spots h Over new t' spots' after =
      let w = after.0 in
      let same : done ++ new ≡ h.course.done ++ new = ap (λ (x : List ℕ). x ++ new) (sym h.is.done_is) in
      (h.settled, (w.0, subst (λ (ts : List Tree). Joins ts w.0) h.is.trees_are w.1, same ∙ w.2 ∙ ap (λ (x : List ℕ). x ++ tree_text w.0) h.is.front_is))
  trees-after old t spots h On new t' spots' after = record { settled = h.settled; course = h.course; is = h.is; due = after }
  trees-after old t spots h (Read part) new t' spots' after = record { settled = h.settled; course = h.course; is = h.is; due = after }

  pub trees_step : (old : List ℕ) (t : TreesRead) (spots : List Spot) (h : AreAtTrees certs first covers done old numbers t spots) (r : Result Step AllocError) (new : List ℕ) (t' : TreesRead) (spots' : List Spot) →
      IfOk r (λ step. (k : Course) → k.numbers ≡ numbers → IsNextDue k t.task (stacked t.places.items) old spots → IsAfter k step t'.task (stacked t'.places.items) new spots') →
      IfOk r (λ step. IsAfterStep certs first covers done step new numbers (Trees t') spots')
  trees_step old t spots h (Err e) new t' spots' steps = tt
  trees_step old t spots h (Ok step) new t' spots' steps = trees-after old t spots h step new t' spots' (steps h.course h.is.numbers_are h.due)

-- ---- behind a stage

pub goes_on : (certs : List (List ℕ)) (first : Cover) (covers : List Cover) (done text : List ℕ) (numbers : List (List ℕ)) (stage : Stage) (spots : List Spot) (step : Step) → (step ≡ Over → ⊥) →
    IsAfterStep certs first covers done step text numbers stage spots → IsAt certs first covers done text numbers stage spots
goes_on certs first covers done text numbers stage spots Over other h = absurd (other refl)
goes_on certs first covers done text numbers stage spots On other h = h
goes_on certs first covers done text numbers stage spots (Read part) other h = h
