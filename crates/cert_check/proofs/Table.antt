-- A lemma of a table, and a state that it may cover.
use Rattle.std.proofs.Common.{◌≡◌, ℕ, ◌<◌, ◌≤◌, List, length, map, get_or, All, Bool, true, false, ◌&&◌, max, ap, sym, subst, ◌∙◌, arith}
use Rattle.std.proofs.Math.Nat.{le-max_left}
use Rattle.interval_model.specs.Space.{Space, space_within}
use Rattle.poly_graph.specs.Marks.{marks_of, marks_within}
use Rattle.ival.specs.SpaceViews.{space_of}
use Rattle.cover_model.specs.Rules.{lemma_covers}
use Rattle.cover_model.specs.State.{State, covers}
use Rattle.cert_check.specs.declared.standing.Lemma.{Lemma}
use Rattle.cert_check.specs.States.{IsLike, lengthened, lengthened_lemma}
use Rattle.cert_check.proofs.Carried.{length_lemma, like_at}
use Rattle.cert_check.proofs.Covered.{covers_here}

module _ (beyond : Space) (atoms : ℕ) (Ls : List Lemma) (table : List State) (view : map (lengthened_lemma beyond atoms) Ls ≡ table) (i : ℕ) (L : Lemma) (within : i < length Ls) (is : L ≡ get_or Ls i L) (S : State) (alike : All (IsLike S) table) where
  like : IsLike S (lengthened_lemma beyond atoms L)
  like = subst (λ (M : Lemma). IsLike S (lengthened_lemma beyond atoms M)) (sym is) (like_at S (lengthened_lemma beyond atoms) Ls i L within (subst (All (IsLike S)) (sym view) alike))

  pub same_axes : length S.space ≡ length (lengthened (space_of L.space) beyond)
  same_axes = sym like.axes

  pub few_atoms : L.atoms ≤ length S.marks
  few_atoms = omega (arith, like.atoms, length_lemma beyond atoms L, le-max_left L.atoms atoms)

  both : lemma_covers table i S ≡ (space_within S.space (lengthened (space_of L.space) beyond) && marks_within (marks_of (length S.marks) L.yes.items L.no.items) S.marks)
  both =
      ap (λ (Ss : List State). lemma_covers Ss i S) (sym view) ∙ covers_here (lengthened_lemma beyond atoms) Ls i L S within
      ∙ ap (λ (M : Lemma). covers (lengthened_lemma beyond atoms M) S) (sym is)
      ∙ ap (λ (n : ℕ). space_within S.space (lengthened (space_of L.space) beyond) && marks_within (marks_of n L.yes.items L.no.items) S.marks) (sym (length_lemma beyond atoms L) ∙ like.atoms)

  pub space_outside : (t : Bool) → t ≡ space_within S.space (lengthened (space_of L.space) beyond) → t ≡ false → false ≡ lemma_covers table i S
  space_outside t e f = sym (both ∙ ap (λ (u : Bool). u && marks_within (marks_of (length S.marks) L.yes.items L.no.items) S.marks) (sym e ∙ f))

  pub space_inside : (t u : Bool) → t ≡ space_within S.space (lengthened (space_of L.space) beyond) → t ≡ true → u ≡ marks_within (marks_of (length S.marks) L.yes.items L.no.items) S.marks → u ≡ lemma_covers table i S
  space_inside t u e f g = g ∙ sym (both ∙ ap (λ (v : Bool). v && marks_within (marks_of (length S.marks) L.yes.items L.no.items) S.marks) (sym e ∙ f))
