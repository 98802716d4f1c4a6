-- How much can be left to be done, which falls from turn to turn.
use Rattle.std.specs.Prelude.{ℕ, zero, suc, ◌+◌, ◌*◌, ◌-◌, ◌<◌, Result, Ok, Err}
use Rattle.smt_sexp.specs.Arena.{places_of}
use Rattle.smt_sexp.specs.declared.sexps.Sexps as arena
use Rattle.sort_check.specs.declared.frames.Call.{Call}
use Rattle.sort_check.specs.declared.frames.Let.{Let}
use Rattle.sort_check.specs.declared.frames.Frame.{Frame}
use Rattle.sort_check.specs.declared.frames.Frame.TheVariants as frame
use Rattle.sort_check.specs.declared.frames.Next.{Next}
use Rattle.sort_check.specs.declared.frames.Next.TheVariants as next
use Rattle.sort_check.specs.declared.stop.Stop.{Stop}

-- four times as much for each place more
abbrev pub fourfold : ℕ → ℕ
fourfold zero = 1
fourfold (suc n) = 4 * fourfold n

-- what one expression and those behind it can take, from a place on
abbrev pub room_from : arena.Sexps → ℕ → ℕ
room_from s at = fourfold (places_of s - at)

abbrev pub call_room : arena.Sexps → Call → ℕ
call_room s c = 2 * room_from s c.next

abbrev pub let_room : arena.Sexps → Let → ℕ
let_room s l = 2 * room_from s l.next + room_from s l.body

abbrev pub frame_room : arena.Sexps → Frame → ℕ
frame_room s (frame.Call c) = call_room s c
frame_room s (frame.Let l at x) = let_room s l

abbrev pub next_room : arena.Sexps → Next → ℕ
next_room s (next.Back sort) = 0
next_room s (next.Enter locals at) = room_from s at
next_room s (next.Wait f locals at) = room_from s at + frame_room s f

-- less than this is left
abbrev pub Falls : arena.Sexps → ℕ → Result Next Stop → Type 0
Falls s n (Ok x) = next_room s x < n
Falls s n (Err e) = Unit {0}
