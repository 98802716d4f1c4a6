-- What is left to be done falls from turn to turn.
use Rattle.std.proofs.Common.{◌≡◌, ℕ, zero, suc, ◌+◌, ◌*◌, ◌-◌, ◌<◌, ◌≤◌, List, [], ◌∷◌, ◌++◌, arith, ap}
use Rattle.std.specs.Prelude.{Result, Ok, Err}
use Rattle.smt_sexp.specs.Arena.{places_of}
use Rattle.smt_sexp.specs.declared.sexps.Sexps as arena
use Rattle.smt_script.specs.declared.command.Sort as code_sort
use Rattle.sort_check.specs.Room.{fourfold, room_from, frame_room, next_room, Falls}
use Rattle.sort_check.specs.Walking.{returned}
use Rattle.sort_check.specs.declared.stop.Stop.{Stop}
use Rattle.sort_check.specs.declared.frames.Frame.{Frame}
use Rattle.sort_check.specs.declared.frames.Next.{Next}

some : (n : ℕ) → 1 ≤ fourfold n
some zero = omega arith
some (suc n) = let h = some n in omega (arith, h)

steps : (a k : ℕ) → 4 * fourfold a ≤ 4 * fourfold (k + a)
steps a zero = omega (arith, ap fourfold (first a))
  where
    first : (n : ℕ) → n ≡ 0 + n
    first n = omega arith
steps a (suc k) = let h = steps a k in omega (arith, h, ap fourfold (next k a))
  where
    next : (k a : ℕ) → suc (k + a) ≡ suc k + a
    next k a = omega arith

apart : (a b : ℕ) → a < b → suc ((b - suc a) + a) ≡ b
apart a b h = omega (arith, h)

fourfold_more : (a b : ℕ) → a < b → 4 * fourfold a ≤ fourfold b
fourfold_more a b h = let g = steps a (b - suc a) in let e = ap fourfold (apart a b h) in omega (arith, g, e)

module _ (s : arena.Sexps) where
  pub room_some : (at : ℕ) → 1 ≤ room_from s at
  room_some at = some (places_of s - at)

  pub room_later : (at after : ℕ) → at < after → at < places_of s → 4 * room_from s after ≤ room_from s at
  room_later at after h g = fourfold_more (places_of s - after) (places_of s - at) (omega (arith, h, g))

  -- a sort or a fault goes back
  pub falls_back : (n : ℕ) (r : Result code_sort.Sort Stop) → 1 ≤ n → Falls s n (returned r)
  falls_back n (Ok sort) h = omega (arith, h)
  falls_back n (Err stop) h = tt

  pub falls_within : (n m : ℕ) (r : Result Next Stop) → n ≤ m → Falls s n r → Falls s m r
  falls_within n m (Ok x) h g = omega (arith, h, g)
  falls_within n m (Err stop) h g = tt

  -- all frames of a stack
  abbrev pub frames_room : List Frame → ℕ
  frames_room [] = 0
  frames_room (f ∷ fs) = frame_room s f + frames_room fs

  pub frames_last : (fs : List Frame) (f : Frame) → frames_room (fs ++ (f ∷ [])) ≡ frames_room fs + frame_room s f
  frames_last [] f = omega arith
  frames_last (g ∷ fs) f = let h = frames_last fs f in omega (arith, h)

  abbrev pub left : List Frame → Next → ℕ
  left fs n = frames_room fs + next_room s n
