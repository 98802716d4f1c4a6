-- How many expressions are reached, turn by turn.
use Rattle.std.proofs.Common.{◌≡◌, ℕ, suc, ◌+◌, ◌*◌, ◌-◌, ◌<◌, ◌≤◌, arith, List, [], ◌∷◌, sym, ◌∙◌}
use Rattle.std.specs.Prelude.{Ok}
use Rattle.script_model.specs.Declared.{Bounding}
use Rattle.script_forms.specs.Work.{Event, reached, Work}
use Rattle.script_forms.specs.Walk.{after_event, most_size}
use Rattle.smt_sexp.specs.declared.sexps.Sexps as arena
use Rattle.term_build.specs.Built.{stand_of}
use Rattle.term_build.proofs.Emits.{stands_on}
use Rattle.value_build.proofs.Sizes.{emits_size, reached_size}
use Rattle.value_build.specs.Making.{Grows, Making, Steps}
use Rattle.value_build.specs.declared.value.Value.{Value}
use Rattle.problem_build.specs.Walking.{WorkStep, ReachedWorkStep}
use Rattle.problem_build.specs.declared.top.Top.{Top}
use Rattle.problem_build.specs.declared.frames.Next.{Next}
use Rattle.problem_build.specs.declared.frames.Next.TheVariants as next

-- no step makes them fewer
steps-size : {X : Type 0} (P : X → Type 0) (m m1 : Making) (es : List Event) (x : X) → Steps m m1 es (Ok x) P → m.made.size ≤ m1.made.size
steps-size P m m1 es x h = emits_size (λ y. Grows m m1 × P y) m.made m1.made es x h

-- an expression that is reached is one more
reach-size : (m m1 : Making) (u : Unit {0}) → Steps {X = Unit {0}} m m1 (reached ∷ []) (Ok u) (λ _. Unit {0}) → (m.made.size < most_size) × (m1.made.size ≡ suc m.made.size)
reach-size m m1 u h = reached_size m.made m1.made (λ claim. sym (stands_on (after_event claim (stand_of m.made) reached)) ∙ h.0 claim)

-- ---- what is left of a walk falls

-- a value that goes back, and a frame that is to stand on the stack
abbrev pub weight : Next → ℕ
weight (next.Back v) = 1
weight (next.Enter scope at) = 0
weight (next.Wait f scope at) = 2

weight-most : (n : Next) → weight n ≤ 2
weight-most (next.Back v) = omega arith
weight-most (next.Enter scope at) = omega arith
weight-most (next.Wait f scope at) = omega arith

-- the expressions that may be reached yet, and the frames that stand
abbrev pub left : Making → ℕ → Next → ℕ
left m frames n = 3 * (most_size - m.made.size) + 2 * frames + weight n

numbers-reached : (most a b d x y j k : ℕ) → a < most → b ≡ suc a → b ≤ d → x ≤ 2 → 2 * j ≤ 2 * k + y → 3 * (most - d) + 2 * j + x < 3 * (most - a) + 2 * k + y
numbers-reached most a b d x y j k h e f g i = omega arith

numbers-back : (most a d x j k : ℕ) → a ≤ d → x ≤ 2 → j ≡ k + 1 → 3 * (most - d) + 2 * k + x < 3 * (most - a) + 2 * j + 1
numbers-back most a d x j k h g e = omega arith

module _ (m m1 : Making) (s : arena.Sexps) (top : List Top) (w : Work) (b : Bounding) (n : Next) where
  -- an expression is entered, where the stack got no higher than what was to be done allowed
  pub enter_falls : (old : Next) (j k : ℕ) → 2 * j ≤ 2 * k + weight old → ReachedWorkStep m m1 s top w b n → left m1 j n < left m k old
  enter_falls old j k i h = let one = reach-size m h.middle tt h.reach in
      numbers-reached most_size m.made.size h.middle.made.size m1.made.size (weight n) (weight old) j k one.0 one.1
      (steps-size (λ (x : Unit {0}). Unit {0}) h.middle m1 h.goes.done (tt {0}) h.goes.steps) (weight-most n) i

  -- the last frame goes on with a value
  pub resume_falls : (v : Value) (j k : ℕ) → j ≡ k + 1 → WorkStep m m1 s top w b n → left m1 k n < left m j (next.Back v)
  resume_falls v j k e h = numbers-back most_size m.made.size m1.made.size (weight n) j k (steps-size (λ (x : Unit {0}). Unit {0}) m m1 h.done (tt {0}) h.steps) (weight-most n) e
