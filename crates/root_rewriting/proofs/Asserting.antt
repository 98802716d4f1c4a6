-- The commands of a script, one after the other.
use Rattle.std.proofs.Common.{◌≡◌, ℕ, zero, suc, ◌+◌, ◌≤◌, arith, cond, Option, Some, List, [], ◌∷◌, ◌++◌, length, length-append, refl, ap, sym, ◌∙◌, subst, append_assoc}
use Rattle.std.specs.Prelude.{OnOk, IfErr, Result, Ok, Err, slice_get}
use Rattle.std.proofs.lemmas.Bool.{lt-ltb, le-ltb}
use Rattle.script_model.specs.Sexp.{Place}
use Rattle.script_model.specs.Script.{Command}
use Rattle.script_forms.specs.Walk.{most_size}
use Rattle.script_roots.specs.Tree.{Tree, theory_names}
use Rattle.script_roots.specs.Fresh.{Asserted, asserted, asserted_from}
use Rattle.smt_sexp.specs.declared.sexps.Sexps as arena
use Rattle.smt_sexp.specs.Views.{place_of}
use Rattle.root_rewriting.specs.Ahead.{known_body, top_bodies}
use Rattle.root_rewriting.specs.Asserted.{AreAsserted, ClaimCounts, IsAsserted, IsAt, IsAtFirst}
use Rattle.root_rewriting.specs.TreeNames.{entry_by, known_of, names_by, top_names}
use Rattle.root_rewriting.specs.Nodes.{trees_in}
use Rattle.script_roots.specs.Reached.{first_beyond, reached_from, theory_bodies, too_many}
use Rattle.script_fault.specs.declared.place.Place as code
use Rattle.script_fault.specs.declared.fault.ReadError.{ReadError}
use Rattle.script_fault.specs.declared.fault.ReadError.TheVariants.{Fault, Memory}
use Rattle.root_rewriting.specs.Walking.{Grows}
use Rattle.root_rewriting.specs.declared.unfold.assertions.Progress.{Progress}
use Rattle.root_rewriting.specs.declared.unfold.assertions.Assertion.{Assertion}
use Rattle.root_rewriting.specs.declared.unfold.top.Known.{Known}
use Rattle.root_rewriting.specs.declared.unfold.top.Top.{Top}
use Rattle.root_rewriting.proofs.Growth.{get_stays}
use Rattle.root_rewriting.proofs.TreeLists.{get_end, get_longer}

-- ---- names

module _ {V : Type 0} (stands : List (List ℕ × V) → Known → V) (theory : List (List ℕ × V)) where
  names-longer : (top more : List Top) (n : ℕ) → n ≤ length top → names_by stands theory (top ++ more) n ≡ names_by stands theory top n
  names-longer top more zero h = refl
  names-longer top more (suc n) h =
      ap (λ o. entry_by stands (names_by stands theory (top ++ more) n) o) (get_longer top more n (omega (arith, h))) ∙ ap (λ ns. entry_by stands ns (slice_get top n)) (names-longer top more n (omega (arith, h)))

  -- one name more
  pub names_more : (top : List Top) (t : Top) →
      names_by stands theory (top ++ (t ∷ [])) (length (top ++ (t ∷ []))) ≡ (t.name.now, stands (names_by stands theory top (length top)) t.known) ∷ names_by stands theory top (length top)
  names_more top t =
      let count : length (top ++ (t ∷ [])) ≡ suc (length top) = omega (arith, length-append top (t ∷ [])) in
      ap (names_by stands theory (top ++ (t ∷ []))) count ∙
      ap (λ o. entry_by stands (names_by stands theory (top ++ (t ∷ [])) (length top)) o) (get_end top t) ∙
      ap (λ ns. (t.name.now, stands ns t.known) ∷ ns) (names-longer top (t ∷ []) (length top) (omega arith))

-- ---- assertions

pub asserted_more : (ts us : List Tree) → Grows ts us → (c : Assertion) (a : Asserted) → IsAsserted us c a → (cs : List Assertion) (done : List Asserted) → AreAsserted ts cs done → AreAsserted us (cs ++ (c ∷ [])) (done ++ (a ∷ []))
asserted_more ts us g c a h [] [] i = (h, tt)
asserted_more ts us g c a h (d ∷ cs) (b ∷ done) i = (record { at = i.0.at; goal = i.0.goal; tree = get_stays ts us d.tree b.tree g i.0.tree }, asserted_more ts us g c a h cs done i.1)
asserted_more ts us g c a h [] (b ∷ done) i = elim i [ ]
asserted_more ts us g c a h (d ∷ cs) [] i = elim i [ ]

module _ (s : arena.Sexps) (script left : List Command) (top : List Top) (done : List Asserted) where
  pub at_named : (t : Top) → asserted script ≡ done ++ asserted_from ((t.name.now, known_of s (top_names s top (length top)) t.known) ∷ top_names s top (length top)) left →
      asserted script ≡ done ++ asserted_from (top_names s (top ++ (t ∷ [])) (length (top ++ (t ∷ [])))) left
  at_named t h = h ∙ ap (λ ns. done ++ asserted_from ns left) (sym (names_more (known_of s) theory_names top t))

  pub at_claimed : (a : Asserted) → asserted script ≡ done ++ (a ∷ asserted_from (top_names s top (length top)) left) → asserted script ≡ (done ++ (a ∷ [])) ++ asserted_from (top_names s top (length top)) left
  at_claimed a h = h ∙ sym (append_assoc done (a ∷ []) (asserted_from (top_names s top (length top)) left))

-- how many are reached, with a name more
pub counted_named : (s : arena.Sexps) (left : List Command) (top : List Top) (t : Top) (before : ℕ) (o : Option Place) →
    o ≡ first_beyond most_size before (reached_from ((t.name.now, known_body s (top_bodies s top (length top)) t.known) ∷ top_bodies s top (length top)) left) →
    o ≡ first_beyond most_size before (reached_from (top_bodies s (top ++ (t ∷ [])) (length (top ++ (t ∷ [])))) left)
counted_named s left top t before o h = h ∙ ap (λ bs. first_beyond most_size before (reached_from bs left)) (sym (names_more (known_body s) theory_bodies top t))

-- behind an assertion or a goal, with which there are not too many
beyond-goes : (at : Place) (before n after : ℕ) (rest : List (Place × ℕ)) → after ≡ before + n → after ≤ most_size → first_beyond most_size before ((at, n) ∷ rest) ≡ first_beyond most_size after rest
beyond-goes at before n after rest more within =
    ap (λ b. cond b (Some at) (first_beyond most_size (before + n) rest)) (le-ltb most_size (before + n) (omega (arith, more, within))) ∙ ap (λ k. first_beyond most_size k rest) (sym more)

module _ (s : arena.Sexps) (script left : List Command) (old new : Progress) (place : code.Place) (n : ℕ) (r : Result (Unit {0}) ReadError) where
  abbrev rest : List (Place × ℕ)
  rest = reached_from (top_bodies s old.top (length old.top)) left

  -- an assertion more
  pub at_asserted : (done : List Asserted) (a : Asserted) → asserted script ≡ done ++ (a ∷ asserted_from (top_names s old.top (length old.top)) left) → new.top ≡ old.top → old.unfolded.reached ≤ most_size →
      too_many script ≡ first_beyond most_size old.unfolded.reached ((place_of place, n) ∷ rest) → ClaimCounts place old.unfolded.reached new.unfolded.reached n r →
      OnOk r (AreAsserted (trees_in new.unfolded.trees) new.assertions.items (done ++ (a ∷ []))) → OnOk r (IsAt s script left new)
  at_asserted done a split same within counted counts are = go r counts are
    where
      go : (q : Result (Unit {0}) ReadError) → ClaimCounts place old.unfolded.reached new.unfolded.reached n q → OnOk q (AreAsserted (trees_in new.unfolded.trees) new.assertions.items (done ++ (a ∷ []))) →
          OnOk q (IsAt s script left new)
      go (Ok u) c d = record {
        done = done ++ (a ∷ []);
        are = d;
        split = subst (λ (top : List Top). asserted script ≡ (done ++ (a ∷ [])) ++ asserted_from (top_names s top (length top)) left) (sym same) (at_claimed s script left old.top done a split);
        within = c.1 within;
        counted = subst (λ (top : List Top). too_many script ≡ first_beyond most_size new.unfolded.reached (reached_from (top_bodies s top (length top)) left)) (sym same)
            (counted ∙ beyond-goes (place_of place) old.unfolded.reached n new.unfolded.reached rest c.0 (c.1 within));
      }
      go (Err e) c d = tt

  -- or there are too many with it
  pub first_asserted : too_many script ≡ first_beyond most_size old.unfolded.reached ((place_of place, n) ∷ rest) → ClaimCounts place old.unfolded.reached new.unfolded.reached n r → IfErr r (λ e. IsAtFirst (too_many script) e)
  first_asserted counted counts = go r counts
    where
      go : (q : Result (Unit {0}) ReadError) → ClaimCounts place old.unfolded.reached new.unfolded.reached n q → IfErr q (λ e. IsAtFirst (too_many script) e)
      go (Ok u) c = tt
      go (Err (Fault f)) c =
          counted ∙ ap (λ b. cond b (Some (place_of place)) (first_beyond most_size (old.unfolded.reached + n) rest)) (lt-ltb most_size (old.unfolded.reached + n) c.1) ∙ ap (λ (p : code.Place). Some (place_of p)) (sym c.0)
      go (Err Memory) c = tt
