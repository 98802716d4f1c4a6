-- How many expressions are reached, turn by turn.
use Rattle.std.proofs.Common.{◌≡◌, ℕ, suc, ◌+◌, ◌*◌, ◌-◌, ◌<◌, ◌≤◌, arith}
use Rattle.script_forms.specs.Walk.{most_size}
use Rattle.root_rewriting.specs.declared.unfold.frames.Next.{Next}
use Rattle.root_rewriting.specs.declared.unfold.frames.Next.TheVariants as next

-- a tree that goes back, and a frame that is to stand on the stack
abbrev pub weight : Next → ℕ
weight (next.Back k) = 1
weight (next.Enter scope at) = 0
weight (next.Wait f scope at) = 2

weight-most : (n : Next) → weight n ≤ 2
weight-most (next.Back k) = omega arith
weight-most (next.Enter scope at) = omega arith
weight-most (next.Wait f scope at) = omega arith

-- the expressions that may be reached yet, and the frames that stand
abbrev pub left : ℕ → ℕ → Next → ℕ
left reached frames n = 3 * (most_size - reached) + 2 * frames + weight n

numbers-reached : (most a b x y j k : ℕ) → a < most → b ≡ suc a → x ≤ 2 → 2 * j ≤ 2 * k + y → 3 * (most - b) + 2 * j + x < 3 * (most - a) + 2 * k + y
numbers-reached most a b x y j k h e g i = omega arith

numbers-back : (r x j k : ℕ) → x ≤ 2 → j ≡ k + 1 → r + 2 * k + x < r + 2 * j + 1
numbers-back r x j k g e = omega arith

-- an expression is entered, where the stack got no higher than what was to be done allowed
pub enter_falls : (a b : ℕ) (n old : Next) (j k : ℕ) → a < most_size → b ≡ suc a → 2 * j ≤ 2 * k + weight old → left b j n < left a k old
enter_falls a b n old j k h e i = numbers-reached most_size a b (weight n) (weight old) j k h e (weight-most n) i

-- the last frame goes on with a tree
pub resume_falls : (a v : ℕ) (n : Next) (j k : ℕ) → j ≡ k + 1 → left a k n < left a j (next.Back v)
resume_falls a v n j k e = numbers-back (3 * (most_size - a)) (weight n) j k (weight-most n) e
