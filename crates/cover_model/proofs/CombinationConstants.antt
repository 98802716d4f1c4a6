-- No expansion depends on the adjoint of a constant.
use Rattle.std.proofs.Common.{◌≡◌, ℕ, zero, suc, List, Bool, true, false, cond, Option, Some, None, nat_eq, eqb-true, refl, ap, sym, ◌∙◌, true≢false}
use Rattle.std.specs.Prelude.{slice_get}
use Rattle.interval_model.specs.Interval.{Interval, interval_negated, interval_product}
use Rattle.poly_graph.specs.Term.{Node, constant_node, variable_node, negate_node, add_node, multiply_node, square_node}
use Rattle.cover_model.specs.NodeEnclosure.{row}
use Rattle.cover_model.specs.Combination.{Adjoints, joined, handed, handed_down, Expansion, next_adjoints, next_squares, next_expansion, swept}
use Rattle.cover_model.specs.CombinationConstants.{is_constant, is_constant_at, handed_unless, handed_on}

pub handed_alike : (a : ℕ) (i : Interval) (os os' : Adjoints) (k : ℕ) → os k ≡ os' k → handed a i os k ≡ handed a i os' k
handed_alike a i os os' k h = ap (λ (o : Option Interval). cond (nat_eq k a) (Some (joined o i)) o) h

module _ (nodes : List Node) where
  -- the same adjoints, but for constants
  abbrev pub Alike : Adjoints → Adjoints → Type 0
  Alike os os' = (k : ℕ) → is_constant_at nodes k ≡ false → os k ≡ os' k

  both-handed : (a : ℕ) (i : Interval) (os os' : Adjoints) → Alike os os' → Alike (handed a i os) (handed a i os')
  both-handed a i os os' same k h = handed_alike a i os os' k (same k h)

  one-handed : (t : Bool) (a : ℕ) (i : Interval) (os os' : Adjoints) → is_constant_at nodes a ≡ t → Alike os os' → Alike (handed a i os) (handed_unless t a i os')
  one-handed false a i os os' e same k h = handed_alike a i os os' k (same k h)
  one-handed true a i os os' e same k h = go (nat_eq k a) (λ f. eqb-true k a f)
    where
      go : (b : Bool) → (b ≡ true → k ≡ a) → cond b (Some (joined (os k) i)) (os k) ≡ os' k
      go true f = absurd (true≢false (sym e ∙ ap (is_constant_at nodes) (sym (f refl)) ∙ h))
      go false f = same k h

  pub handed_on_alike : (cs : List Interval) (w : Interval) (n : Node) (os : Adjoints) → Alike (handed_down cs w n os) (handed_on nodes cs w n os)
  handed_on_alike cs w (constant_node q) os k h = refl
  handed_on_alike cs w (variable_node a) os k h = refl
  handed_on_alike cs w (negate_node a) os k h = refl
  handed_on_alike cs w (add_node a b) os k h =
      one-handed (is_constant_at nodes b) b w (handed a w os) (handed_unless (is_constant_at nodes a) a w os) refl
      (one-handed (is_constant_at nodes a) a w os os refl (λ j g. refl)) k h
  handed_on_alike cs w (multiply_node a b) os k h =
      let i = interval_product w (row cs b) in let j = interval_product w (row cs a) in
      one-handed (is_constant_at nodes b) b j (handed a i os) (handed_unless (is_constant_at nodes a) a i os) refl
      (one-handed (is_constant_at nodes a) a i os os refl (λ j g. refl)) k h
  handed_on_alike cs w (square_node a) os k h = refl

  module _ (es cs : List Interval) where
    down-alike : (w : Interval) (n : Node) (os os' : Adjoints) → Alike os os' → Alike (handed_down cs w n os) (handed_down cs w n os')
    down-alike w (constant_node q) os os' same = same
    down-alike w (variable_node a) os os' same = same
    down-alike w (negate_node a) os os' same = both-handed a (interval_negated w) os os' same
    down-alike w (add_node a b) os os' same = both-handed b w (handed a w os) (handed a w os') (both-handed a w os os' same)
    down-alike w (multiply_node a b) os os' same =
        let i = interval_product w (row cs b) in both-handed b (interval_product w (row cs a)) (handed a i os) (handed a i os') (both-handed a i os os' same)
    down-alike w (square_node a) os os' same =
        let i = interval_product w (row cs a) in both-handed a i (handed a i os) (handed a i os') (both-handed a i os os' same)

    next-alike : (o : Option Interval) (m : Option Node) (os os' : Adjoints) → Alike os os' → Alike (next_adjoints cs o m os) (next_adjoints cs o m os')
    next-alike None m os os' same = same
    next-alike (Some w) None os os' same = same
    next-alike (Some w) (Some n) os os' same = down-alike w n os os' same

    -- a node, with this adjoint and the others
    abbrev next : ℕ → Adjoints → Expansion → Option Node → Option Interval → Adjoints → Expansion
    next p qs e m o os = swept nodes es cs p (next_adjoints cs o m os) (next_squares o m qs) (next_expansion es cs p o (qs p) m e)

    -- a constant, whose adjoint does nothing
    abbrev passed : ℕ → Adjoints → Expansion → Option Node → Adjoints → Expansion
    passed p qs e m os = swept nodes es cs p os qs (next_expansion es cs p None (qs p) m e)

    constant-passed : (p : ℕ) (os qs : Adjoints) (e : Expansion) (m : Option Node) (o : Option Interval) → is_constant m ≡ true → next p qs e m o os ≡ passed p qs e m os
    constant-passed p os qs e (Some (constant_node q)) None h = refl
    constant-passed p os qs e (Some (constant_node q)) (Some w) h = refl
    constant-passed p os qs e None o h = absurd (true≢false (sym h))
    constant-passed p os qs e (Some (variable_node a)) o h = absurd (true≢false (sym h))
    constant-passed p os qs e (Some (negate_node a)) o h = absurd (true≢false (sym h))
    constant-passed p os qs e (Some (add_node a b)) o h = absurd (true≢false (sym h))
    constant-passed p os qs e (Some (multiply_node a b)) o h = absurd (true≢false (sym h))
    constant-passed p os qs e (Some (square_node a)) o h = absurd (true≢false (sym h))

    -- the nodes below number p give the same by adjoints that are the same but for constants
    abbrev pub IsSweptAlike : ℕ → Type 0
    IsSweptAlike p = (os os' qs : Adjoints) (e : Expansion) → Alike os os' → swept nodes es cs p os qs e ≡ swept nodes es cs p os' qs e

    node-alike : (p : ℕ) (os os' qs : Adjoints) (e : Expansion) (m : Option Node) (o o' : Option Interval) (t : Bool) → IsSweptAlike p → Alike os os' → is_constant m ≡ t → (is_constant m ≡ false → o ≡ o') →
        next p qs e m o os ≡ next p qs e m o' os'
    node-alike p os os' qs e m o o' true below same h f =
        constant-passed p os qs e m o h ∙ below os os' qs (next_expansion es cs p None (qs p) m e) same ∙ sym (constant-passed p os' qs e m o' h)
    node-alike p os os' qs e m o o' false below same h f =
        ap (λ (x : Option Interval). next p qs e m x os) (f h)
        ∙ below (next_adjoints cs o' m os) (next_adjoints cs o' m os') (next_squares o' m qs) (next_expansion es cs p o' (qs p) m e) (next-alike o' m os os' same)

    pub swept_alike : (p : ℕ) → IsSweptAlike p
    swept_alike zero os os' qs e same = refl
    swept_alike (suc p) os os' qs e same = node-alike p os os' qs e (slice_get nodes p) (os p) (os' p) (is_constant_at nodes p) (swept_alike p) same refl (same p)
