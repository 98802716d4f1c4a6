-- Bytes at the front of a certificate that is read piece by piece.
use Rattle.std.proofs.Common.{◌≡◌, ◌<◌, ◌≤◌, ◌+◌, ◌-◌, ℕ, zero, suc, List, [], ◌∷◌, ◌++◌, Option, Some, None, IfSome, length, take, drop, refl, ap, sym, ◌∙◌, subst, arith, take-append-drop, length-append, length-take-le, length-drop, take-add, take_all}
use Rattle.std.specs.Prelude.{slice_get}
use Rattle.std.specs.Option.{option_flatten, option_map}
use Rattle.desk.specs.Sight.{Sight, IsFront, PartStep, part_in}

abbrev pub IsFrontOf : List ℕ → List ℕ → Type 0
IsFrontOf bytes held = (length bytes ≤ length held) × (bytes ≡ take (length bytes) held)

pub front_start : (o : Option (List ℕ)) → IfSome o (IsFrontOf [])
front_start None = tt
front_start (Some held) = (omega arith, refl)

module _ (bytes buffer : List ℕ) (n : ℕ) where
  -- what was read behind them
  abbrev pub IsBehind : List ℕ → Type 0
  IsBehind held = IsFront n (length buffer) buffer (drop (length bytes) held)

  pub longer : n ≤ length buffer → length (bytes ++ take n buffer) ≡ length bytes + n
  longer fits = length-append bytes (take n buffer) ∙ ap (λ k. length bytes + k) (length-take-le n buffer fits)

  pub front_step : (o : Option (List ℕ)) → IfSome o (IsFrontOf bytes) → IfSome o IsBehind → n ≤ length buffer → IfSome o (IsFrontOf (bytes ++ take n buffer))
  front_step None f g fits = tt
  front_step (Some held) f g fits =
      let len : length (bytes ++ take n buffer) ≡ length bytes + n = longer fits in
      let within : n ≤ length (drop (length bytes) held) = g.within in
      let left : length (drop (length bytes) held) ≡ length held - length bytes = length-drop (length bytes) held in
      (rw len (omega arith), rw (len, take-add (length bytes) n held, ← f.1, g.bytes_are) refl)

  pub front_end : (o : Option (List ℕ)) → n ≡ 0 → 0 < length buffer → IfSome o (IsFrontOf bytes) → IfSome o IsBehind → IfSome o (λ held. bytes ≡ held)
  front_end None none room f g = tt
  front_end (Some held) none room f g =
      let nothing : drop (length bytes) held ≡ [] = g.end none room in
      let left : length (drop (length bytes) held) ≡ length held - length bytes = length-drop (length bytes) held in
      let short : length held ≤ length bytes = omega (arith, sym left ∙ ap length nothing) in
      f.1 ∙ take_all (length bytes) held short

pub over_some : {A : Type 0} (o : Option A) (P Q : A → Type 0) → ((x : A) → P x → Q x) → IfSome o P → IfSome o Q
over_some None P Q f h = tt
over_some (Some x) P Q f h = f x h

-- ---- one among several

-- a part by its number
pub record Split (parts : List (List ℕ)) (k : ℕ) : Type 0 where
  pub cert : List ℕ
  pub behind : List (List ℕ)
  pub is_there : slice_get parts k ≡ Some cert
  pub all : parts ≡ take k parts ++ cert ∷ behind
  pub more : take (suc k) parts ≡ take k parts ++ cert ∷ []
  pub number : length (take k parts) ≡ k

pub split_at : (parts : List (List ℕ)) (k : ℕ) → k < length parts → Split parts k
split_at [] k less = absurd (omega (arith, less))
split_at (x ∷ parts) zero less = record { cert = x; behind = parts; is_there = refl; all = refl; more = refl; number = refl }
split_at (x ∷ parts) (suc k) less =
    let s = split_at parts k (omega (arith, less)) in
    record { cert = s.cert; behind = s.behind; is_there = s.is_there; all = ap (λ (l : List (List ℕ)). x ∷ l) s.all; more = ap (λ (l : List (List ℕ)). x ∷ l) s.more; number = ap suc s.number }

-- a certificate that the desk shows
pub told_there : (P : List ℕ → Type 0) (number : ℕ) (d : Sight) (parts : List (List ℕ)) (cert : List ℕ) → d.parts ≡ Some parts → slice_get parts number ≡ Some cert → IfSome (part_in number d) P → P cert
told_there P number d parts cert e f h =
    let is : part_in number d ≡ Some cert = ap (λ (o : Option (List (List ℕ))). option_flatten (option_map (λ parts. slice_get parts number) o)) e ∙ f in
    subst (λ (o : Option (List ℕ)). IfSome o P) is h
