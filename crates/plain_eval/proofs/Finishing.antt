-- What is left to the parts is what the combination leaves of the space.
use Rattle.std.proofs.Common.{◌≡◌, ◌≢◌, ℕ, zero, suc, ◌+◌, ◌<◌, List, [], drop, length, get_or, Bool, true, false, cond, Option, Some, None, refl, ap, ap₂, sym, ◌∙◌, arith}
use Rattle.std.specs.Prelude.{slice_get}
use Rattle.dyadic.specs.Rounding.{Dyadic}
use Rattle.interval_model.specs.Interval.{Interval, nothing, between, is_nothing, met, interval_sum}
use Rattle.interval_model.specs.Space.{Space, middle}
use Rattle.poly_graph.specs.Term.{Node, constant_node, variable_node, negate_node, add_node, multiply_node, square_node}
use Rattle.poly_graph.specs.Problem.{Problem}
use Rattle.poly_graph.specs.Marks.{Mark}
use Rattle.cover_model.specs.AxisStep.{axis_step}
use Rattle.cover_model.specs.Narrowed.{enclosures, set_axis, with_axes}
use Rattle.cover_model.specs.Combination.{Multipliers, Adjoints, no_adjoints, Part, Expansion, root_adjoints, central_range, expansion, swept, marked_range, allowed_range, parts_range, tightened, with_axis, with_intervals, left_of_space, combined, combined_about}
use Rattle.cover_model.proofs.Axes.{axes_next}
use Rattle.ival.specs.declared.row_parts.Rows.{Rows}
use Rattle.ival.specs.RowViews.{rows_of}
use Rattle.ival.specs.Options.{options_of}
use Rattle.ival.proofs.Optional.{drop_all, length_options}
use Rattle.plain_eval.specs.Parts.{Setting, part_at, part_in, before_parts, parts_from, parts_on, expansion_on, range_on, behind_sum, range_before, left_to_part, left_at}
use Rattle.plain_eval.specs.Passes.{AreLeft, SomeIsEmpty}
use Rattle.plain_eval.specs.Rest.{expansion_with}
use Rattle.plain_eval.proofs.CombinedSweeps.{parts_next, some_node}

-- ---- the definition, by what the code has

pub expansion_is : (p : Problem) (space centre : Space) (ms : Multipliers) (nodes : List Node) (es cs : List Interval) (os qs : Adjoints) (central : Interval) (e : Expansion) →
    nodes ≡ p.nodes → es ≡ enclosures space p.nodes → cs ≡ enclosures centre p.nodes → os ≡ root_adjoints p ms → qs ≡ no_adjoints → central ≡ central_range p cs ms →
    swept nodes es cs (length nodes) os qs (expansion_with [] central) ≡ e → expansion p space centre ms ≡ e
expansion_is p space centre ms nodes es cs os qs central e n f g a b r h =
    let count = length p.nodes in
    ap₂ (λ (is js : List Interval). swept p.nodes is js count (root_adjoints p ms) no_adjoints (expansion_with [] (central_range p js ms))) (sym f) (sym g)
    ∙ ap₂ (λ (xs ys : Adjoints). swept p.nodes es cs count xs ys (expansion_with [] (central_range p cs ms))) (sym a) (sym b)
    ∙ ap (λ (i : Interval). swept p.nodes es cs count os qs (expansion_with [] i)) (sym r)
    ∙ ap (λ (ns : List Node). swept ns es cs (length ns) os qs (expansion_with [] central)) (sym n) ∙ h

pub combined_is : (p : Problem) (m : Dyadic) (marks : List Mark) (space centre : Space) (ms : Multipliers) (allowed : Interval) (e : Expansion) → centre ≡ middle space →
    expansion p space centre ms ≡ e → allowed ≡ allowed_range (marked_range p m marks) ms → combined p m marks space ms ≡ left_of_space space centre allowed e
combined_is p m marks space centre ms allowed e c x a =
    ap (λ (d : Space). combined_about p (marked_range p m marks) space d ms) (sym c)
    ∙ ap₂ (λ (i : Interval) (y : Expansion). left_of_space space centre i y) (sym a) x

-- ---- one part after the other

-- what is left to a part, put to its axis
abbrev stepped : Option Part → Option Interval → Option Space → Option Space
stepped (Some x) (Some i) o = with_axis x.axis i o
stepped _ _ o = o

full-axis : (axis : ℕ) (i : Interval) (space : Space) → i ≢ nothing → with_axis axis i (Some space) ≡ Some (set_axis axis i space)
full-axis axis nothing space h = absurd (h refl)
full-axis axis (between l u) space h = refl

none-axis : (axis : ℕ) (i : Interval) → with_axis axis i None ≡ None
none-axis axis nothing = refl
none-axis axis (between l u) = refl

stays-none : (o : Option Part) (i : Option Interval) → stepped o i None ≡ None
stays-none None i = refl
stays-none (Some x) None = refl
stays-none (Some x) (Some i) = none-axis x.axis i

module _ (space centre : Space) (allowed : Interval) where
  tight-step : (o : Option Part) (parts : List Part) (before : Interval) → with_intervals (tightened space centre allowed before (before_parts o parts)) space ≡
      stepped o (left_to_part space centre allowed before (parts_range space centre parts) o) (with_intervals (tightened space centre allowed (behind_sum space centre o before) parts) space)
  tight-step None parts before = refl
  tight-step (Some x) parts before = refl

  steps-to-none : (before after : Interval) (o : Option Part) (q : Option Space) → left_to_part space centre allowed before after o ≡ Some nothing → stepped o (left_to_part space centre allowed before after o) q ≡ None
  steps-to-none before after None q h = absurd (let f : ◌≡◌ {A = Option Interval} None (Some nothing) = h in cc)
  steps-to-none before after (Some x) q h = ap (λ (i : Option Interval). stepped (Some x) i q) h

  part-step : (before after : Interval) (axis : ℕ) (x : Part) (s : Space) → x.axis ≡ axis → left_to_part space centre allowed before after (Some x) ≢ Some nothing →
      stepped (Some x) (left_to_part space centre allowed before after (Some x)) (Some s) ≡ Some (axis_step (variable_node axis) (left_to_part space centre allowed before after (Some x)) s)
  part-step before after axis x s e h = full-axis x.axis _ s (λ f. h (ap (λ (i : Interval). Some i) f)) ∙ ap (λ (a : ℕ). Some (axis_step (variable_node a) (left_to_part space centre allowed before after (Some x)) s)) e

  steps-on : (before after : Interval) (n : Node) (o q : Option Interval) (s : Space) → left_to_part space centre allowed before after (part_at n o q) ≢ Some nothing →
      stepped (part_at n o q) (left_to_part space centre allowed before after (part_at n o q)) (Some s) ≡ Some (axis_step n (left_to_part space centre allowed before after (part_at n o q)) s)
  steps-on before after (constant_node c) o q s h = refl
  steps-on before after (negate_node a) o q s h = refl
  steps-on before after (add_node a b) o q s h = refl
  steps-on before after (multiply_node a b) o q s h = refl
  steps-on before after (square_node a) o q s h = refl
  steps-on before after (variable_node axis) None None s h = refl
  steps-on before after (variable_node axis) None (Some q) s h = part-step before after axis (record { axis = axis; linear = None; square = Some q }) s refl h
  steps-on before after (variable_node axis) (Some w) q s h = part-step before after axis (record { axis = axis; linear = Some w; square = q }) s refl h

module _ (s : Setting) (allowed rest : Interval) where
  -- what is left of the space by the nodes from number p on
  abbrev left_from : ℕ → Option Space
  left_from p = with_intervals (tightened s.space s.centre allowed (range_before s rest p) (parts_on s.nodes s.linear s.square p)) s.space

  left-next : (p : ℕ) (n : Node) → slice_get s.nodes p ≡ Some n →
      left_from p ≡ stepped (part_at n (s.linear p) (s.square p)) (left_to_part s.space s.centre allowed (range_before s rest p) (range_on s (suc p)) (part_at n (s.linear p) (s.square p))) (left_from (suc p))
  left-next p n h =
      let x = part_at n (s.linear p) (s.square p) in let parts = parts_on s.nodes s.linear s.square (suc p) in
      ap (λ (xs : List Part). with_intervals (tightened s.space s.centre allowed (range_before s rest p) xs) s.space) (parts_next s.nodes s.linear s.square p n h)
      ∙ tight-step s.space s.centre allowed x parts (range_before s rest p)
      ∙ ap (λ (m : Option Node). stepped x (left_to_part s.space s.centre allowed (range_before s rest p) (range_on s (suc p)) x)
      (with_intervals (tightened s.space s.centre allowed (behind_sum s.space s.centre (part_in m (s.linear p) (s.square p)) (range_before s rest p)) parts) s.space)) (sym h)

  left-is : (p : ℕ) (n : Node) → slice_get s.nodes p ≡ Some n → left_at s allowed rest p ≡ left_to_part s.space s.centre allowed (range_before s rest p) (range_on s (suc p)) (part_at n (s.linear p) (s.square p))
  left-is p n h = ap (λ (m : Option Node). left_to_part s.space s.centre allowed (range_before s rest p) (range_on s (suc p)) (part_in m (s.linear p) (s.square p))) h

  none-from : (d p k : ℕ) → p + d ≡ k → k < length s.nodes → left_at s allowed rest k ≡ Some nothing → left_from p ≡ None
  none-from zero p k e l h =
      let same : k ≡ p = omega (arith, e) in let n = some_node s.nodes p (omega (arith, l, same)) in
      left-next p n.0 n.1
      ∙ steps-to-none s.space s.centre allowed (range_before s rest p) (range_on s (suc p)) (part_at n.0 (s.linear p) (s.square p)) (left_from (suc p)) (sym (left-is p n.0 n.1) ∙ ap (left_at s allowed rest) (sym same) ∙ h)
  none-from (suc d) p k e l h =
      let n = some_node s.nodes p (omega (arith, l, e)) in let x = part_at n.0 (s.linear p) (s.square p) in let i = left_to_part s.space s.centre allowed (range_before s rest p) (range_on s (suc p)) x in
      left-next p n.0 n.1 ∙ ap (stepped x i) (none-from d (suc p) k (omega (arith, e)) l h) ∙ stays-none x i

  all-from : (r : Rows) → length (rows_of r) ≡ length s.nodes → AreLeft s allowed rest r → (d p : ℕ) → p + d ≡ length s.nodes → left_from p ≡ Some (with_axes (drop p s.nodes) (drop p (options_of r)) s.space)
  all-from r c a zero p e =
      ap (λ (ns : List Node). with_intervals (tightened s.space s.centre allowed (range_before s rest p) (parts_from s.linear s.square p ns)) s.space) (drop_all s.nodes p (omega (arith, e)))
      ∙ ap (λ (ns : List Node). Some (with_axes ns (drop p (options_of r)) s.space)) (sym (drop_all s.nodes p (omega (arith, e))))
  all-from r c a (suc d) p e =
      let n = some_node s.nodes p (omega (arith, e)) in let x = part_at n.0 (s.linear p) (s.square p) in let before = range_before s rest p in let after = range_on s (suc p) in
      let i = left_to_part s.space s.centre allowed before after x in let opts = options_of r in let next : suc p ≡ p + 1 = omega arith in
      let here : i ≡ get_or opts p None = sym (left-is p n.0 n.1) ∙ sym (a.each p) in
      left-next p n.0 n.1 ∙ ap (stepped x i) (all-from r c a d (suc p) (omega (arith, e)))
      ∙ steps-on s.space s.centre allowed before after n.0 (s.linear p) (s.square p) (with_axes (drop (suc p) s.nodes) (drop (suc p) opts) s.space) (λ f. a.full p (left-is p n.0 n.1 ∙ f))
      ∙ ap (λ (k : ℕ). Some (axis_step n.0 i (with_axes (drop k s.nodes) (drop k opts) s.space))) next
      ∙ ap (λ (t : Space). Some t) (axes_next s.nodes opts s.space p n.0 i n.1 (omega (arith, e, c, length_options r)) here)

  -- ---- the whole

  abbrev whole : Expansion
  whole = expansion_on s.nodes s.linear s.square 0 rest

  pub nothing_in_range : is_nothing (met (interval_sum rest (range_on s 0)) allowed) ≡ true → left_of_space s.space s.centre allowed whole ≡ None
  nothing_in_range h = ap (λ (t : Bool). cond t None (with_intervals (tightened s.space s.centre allowed rest whole.parts) s.space)) h

  in-range : is_nothing (met (interval_sum rest (range_on s 0)) allowed) ≡ false → left_of_space s.space s.centre allowed whole ≡ left_from 0
  in-range h = ap (λ (t : Bool). cond t None (with_intervals (tightened s.space s.centre allowed rest whole.parts) s.space)) h

  pub nothing_left : is_nothing (met (interval_sum rest (range_on s 0)) allowed) ≡ false → SomeIsEmpty s allowed rest → left_of_space s.space s.centre allowed whole ≡ None
  nothing_left h e = in-range h ∙ none-from e.place 0 e.place (omega arith) e.within e.empty

  pub something_left : is_nothing (met (interval_sum rest (range_on s 0)) allowed) ≡ false → (r : Rows) → length (rows_of r) ≡ length s.nodes → AreLeft s allowed rest r → (new : Space) → new ≡ with_axes s.nodes (options_of r) s.space →
      left_of_space s.space s.centre allowed whole ≡ Some new
  something_left h r c a new e = in-range h ∙ all-from r c a (length s.nodes) 0 (omega arith) ∙ ap (λ (t : Space). Some t) (sym e)
