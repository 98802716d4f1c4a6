-- What is built of commands, and what is gone back to.
use Rattle.std.proofs.Common.{◌≡◌, ℕ, ◌≤◌, List, [], ◌∷◌, ◌++◌, take, drop, map, length, refl, ap, sym, ◌∙◌, subst, arith, append_assoc, append-nil, length-append}
use Rattle.std.specs.Prelude.{reverse}
use Rattle.std.proofs.lemmas.List.{length-map, length-reverse, reverse-append, take-append-drop}
use Rattle.std.proofs.Math.Seq.{take-append_seam, drop-append_seam}
use Rattle.dyadic.specs.Point.{Sort}
use Rattle.script_model.specs.Script.{Command}
use Rattle.smt_script.specs.Views.{command_of}
use Rattle.smt_script.specs.declared.command.Command as code
use Rattle.smt_sexp.specs.declared.sexps.Sexps as arena
use Rattle.term_build.specs.Built.{IsMade}
use Rattle.value_build.specs.Making.{Making, beginning}
use Rattle.value_build.specs.Marks.{counts_in, counts_of, taken}
use Rattle.value_build.specs.declared.mark.Mark.{Mark}
use Rattle.value_build.proofs.Marks.{taken_back}
use Rattle.problem_build.specs.Names.{TopFits}
use Rattle.problem_build.specs.Standing.{IsDone, IsNamed, Adds}
use Rattle.problem_build.specs.Progress.{IsState, Went, IsBuiltBy, IsBegun, IsBegunWith, IsRooted}
use Rattle.problem_build.specs.Changes.{Starts, parts_of_made}
use Rattle.problem_build.proofs.Changed.{starts_taken}
use Rattle.problem_build.specs.declared.progress.Before.{Before}
use Rattle.problem_build.specs.declared.progress.Progress.{Progress}
use Rattle.problem_build.specs.declared.top.Top.{Top}

pub state_of : (script : List Command) (before : List Before) (m : Making) (made : List (ℕ × ℕ)) → Went script before m made → IsState script m made
state_of script [] m made h = h.1
state_of script (b ∷ before) m made h = h.0

pub went_length : (script : List Command) (before : List Before) (m : Making) (made : List (ℕ × ℕ)) → Went script before m made → length script ≡ length before
went_length script [] m made h = ap length h.0
went_length script (b ∷ before) m made h =
    let earlier = went_length h.1.0 before (taken (counts_in b.mark) m) (take b.claims made) h.1.3 in
    let split : length script ≡ length (h.1.0 ++ h.1.1 ∷ []) = ap length h.1.2 in
    omega (arith, split, length-append h.1.0 (h.1.1 ∷ []), earlier)

pub built_length : (script : List Command) (p : Progress) → IsBuiltBy script p → length script ≡ length p.before.items
built_length script p h = went_length script (reverse p.before.items) p.maker p.claims.items h ∙ length-reverse p.before.items

pub built_state : (script : List Command) (p : Progress) → IsBuiltBy script p → IsState script p.maker p.claims.items
built_state script p h = state_of script (reverse p.before.items) p.maker p.claims.items h

pub none_went : IsMade (beginning []).made → Went [] [] (beginning []) []
none_went is = (refl, record { done = record { walk = refl; claims = tt; sorts = refl }; is_made = is; drawn = refl })

pub none_built : (p : Progress) → IsMade p.maker.made → p.maker ≡ beginning [] → p.claims.items ≡ [] → p.before.items ≡ [] → IsBuiltBy [] p
none_built p is m made before =
    subst (λ (bs : List Before). Went [] (reverse bs) p.maker p.claims.items) (sym before)
    (subst (λ (cs : List (ℕ × ℕ)). Went [] [] p.maker cs) (sym made)
    (subst (λ (x : Making). IsMade x.made → Went [] [] x []) (sym m) none_went is))

-- ---- one command more

pub one_went : (script : List Command) (c : Command) (before now : List Before) (x : Before) (m m1 : Making) (made made1 : List (ℕ × ℕ)) → Went script (reverse before) m made → now ≡ before ++ x ∷ [] →
    counts_in x.mark ≡ counts_of m → x.claims ≡ length made → IsDone (script ++ c ∷ []) m1 made1 → Adds m m1 made made1 → IsMade m1.made → Went (script ++ c ∷ []) (reverse now) m1 made1
one_went script c before now x m m1 made made1 h now_is mark claims done adds is =
    let old = state_of script (reverse before) m made h in
    let back : taken (counts_in x.mark) m1 ≡ m = ap (λ k. taken k m1) mark ∙ taken_back m m1 old.is_made is adds.stand adds.lists adds.sorts.0 adds.sorts.1 old.drawn in
    let fewer : take x.claims made1 ≡ made = ap (λ n. take n made1) claims ∙ ap (take (length made)) adds.claims.1 ∙ take-append_seam made adds.claims.0 in
    let past : Went script (reverse before) (taken (counts_in x.mark) m1) (take x.claims made1) =
    subst (λ (y : Making). Went script (reverse before) y (take x.claims made1)) (sym back) (subst (λ (cs : List (ℕ × ℕ)). Went script (reverse before) m cs) (sym fewer) h) in
    subst (λ (bs : List Before). Went (script ++ c ∷ []) bs m1 made1) (sym (ap reverse now_is ∙ reverse-append before (x ∷ [])))
    (record { done = done; is_made = is; drawn = adds.drawn old.drawn }, (script, c, refl, past))

pub one_starts : (script : List Command) (before : List Before) (x : Before) (m m1 : Making) (made made1 : List (ℕ × ℕ)) → Went script (reverse before) m made →
    counts_in x.mark ≡ counts_of m → Adds m m1 made made1 → IsMade m1.made → Starts (parts_of_made m1.made) m.made
one_starts script before x m m1 made made1 h mark adds is =
    let old = state_of script (reverse before) m made h in
    starts_taken (counts_in x.mark) m1 m (ap (λ k. taken k m1) mark ∙ taken_back m m1 old.is_made is adds.stand adds.lists adds.sorts.0 adds.sorts.1 old.drawn)

-- ---- back

-- the first of these commands are built
abbrev pub IsBack : List Command → Progress → Type 0
IsBack script p = (first : List Command) × (more : List Command) × (script ≡ first ++ more) × IsBuiltBy first p

pub back_not : (script : List Command) (p : Progress) → IsBuiltBy script p → IsBack script p
back_not script p h = (script, [], sym (append-nil script), h)

module _ (script first more : List Command) (split : script ≡ first ++ more) (before rest : List Before) (b : Before) (is : before ≡ rest ++ b ∷ []) (m : Making) (made : List (ℕ × ℕ)) (h : Went first (reverse before) m made) where
  pub past : Went first (b ∷ reverse rest) m made
  past = subst (λ (bs : List Before). Went first bs m made) (ap reverse is ∙ reverse-append rest (b ∷ [])) h

  pub back_made : IsMade (taken (counts_in b.mark) m).made
  back_made = (state_of past.1.0 (reverse rest) (taken (counts_in b.mark) m) (take b.claims made) past.1.3).is_made

  pub back_split : script ≡ past.1.0 ++ ((past.1.1 ∷ []) ++ more)
  back_split = split ∙ ap (λ xs. xs ++ more) past.1.2 ∙ append_assoc past.1.0 (past.1.1 ∷ []) more

  pub back_one : (now : Progress) → now.maker ≡ taken (counts_in b.mark) m → now.claims.items ≡ take b.claims made → now.before.items ≡ rest → IsBack script now
  back_one now maker claims before_is = (
    past.1.0,
    (past.1.1 ∷ []) ++ more,
    back_split,
    subst (λ (bs : List Before). Went past.1.0 (reverse bs) now.maker now.claims.items) (sym before_is)
        (subst (λ (cs : List (ℕ × ℕ)). Went past.1.0 (reverse rest) now.maker cs) (sym claims)
        (subst (λ (x : Making). Went past.1.0 (reverse rest) x (take b.claims made)) (sym maker) past.1.3)),
  )

pub back_to : (script : List Command) (count : ℕ) (p : Progress) → IsBack script p → length p.before.items ≡ count → IsBuiltBy (take count script) p
back_to script count p h many =
    let long : length h.0 ≡ count = built_length h.0 p h.3 ∙ many in
    subst (λ (cs : List Command). IsBuiltBy cs p) (sym (ap (take count) h.2 ∙ ap (λ n. take n (h.0 ++ h.1)) (sym long) ∙ take-append_seam h.0 h.1)) h.3

-- ---- the form of a whole script is taken back

module _ (script : List Command) (m m1 : Making) (made : List (ℕ × ℕ)) (root : ℕ) (k : Mark) (mark : counts_in k ≡ counts_of m) (h : IsState script m made) (r : IsRooted script m m1 made root) where
  pub root_back : taken (counts_in k) m1 ≡ m
  root_back = ap (λ x. taken x m1) mark ∙
      taken_back m m1 h.is_made r.is_made r.stand ([], r.bounds ∙ sym (append-nil m.bounds)) [] (r.sorts ∙ sym (append-nil m.made.sorts)) h.drawn

  pub root_back_made : IsMade (taken (counts_in k) m1).made
  root_back_made = subst (λ (x : Making). IsMade x.made) (sym root_back) h.is_made

-- ---- a script whose first commands are built

module _ (script : List Command) (p : Progress) (b : IsBegun script p) where
  pub begun_within : (items : List code.Command) (s : arena.Sexps) → map (command_of s) items ≡ script → length p.before.items ≤ length items
  begun_within items s is =
      let many : length items ≡ length script = sym (length-map items (command_of s)) ∙ ap length is in
      omega (arith, many, ap length b.split, length-append b.first b.left, built_length b.first p b.built)

  first-is : take (length p.before.items) script ≡ b.first
  first-is = ap (λ n. take n script) (sym (built_length b.first p b.built)) ∙ ap (take (length b.first)) b.split ∙ take-append_seam b.first b.left

  pub begun_with : (s : arena.Sexps) (top : List Top) (axis : ℕ) → IsNamed s (take (length p.before.items) script) top axis → IsBegunWith script s p top axis
  begun_with s top axis named = record { first = b.first; left = b.left; split = b.split; built = b.built; named = subst (λ (cs : List Command). IsNamed s cs top axis) first-is named }

-- what is left of the script, as the code has it
pub left_of : (script first left : List Command) (p : Progress) → script ≡ first ++ left → IsBuiltBy first p → drop (length p.before.items) script ≡ left
left_of script first left p split built = ap (λ n. drop n script) (sym (built_length first p built)) ∙ ap (drop (length first)) split ∙ drop-append_seam first left

pub fits_built : (s : arena.Sexps) (script : List Command) (p : Progress) (top : List Top) (axis : ℕ) → IsBuiltBy script p → IsNamed s script top axis → TopFits p.maker.made.sorts top
fits_built s script p top axis built named = subst (λ (sorts : List Sort). TopFits sorts top) (sym (built_state script p built).done.sorts) named.names.fits

-- the first commands stay, and what follows them is new
pub kept_begins : (count : ℕ) (commands later : List Command) (p : Progress) → IsBuiltBy (take count commands) p → IsBegun (commands ++ later) p
kept_begins count commands later p h = record {
  first = take count commands;
  left = drop count commands ++ later;
  split = ap (λ xs. xs ++ later) (sym (take-append-drop count commands)) ∙ append_assoc (take count commands) (drop count commands) later;
  built = h;
}
