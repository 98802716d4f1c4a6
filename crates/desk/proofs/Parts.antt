-- Reads of a certificate at a place.
use Rattle.std.proofs.Common.{◌≡◌, ◌<◌, ◌≤◌, ℕ, List, ◌++◌, Some, None, length, take, drop, map, min, get_or, ap, sym, ◌∙◌, arith, IfSome}
use Rattle.std.specs.List.{slice_get}
use Rattle.std.specs.declared.vec.Vec.{Vec}
use Rattle.std.specs.declared.alloc.Global.{Global}
use Rattle.std.proofs.lemmas.Grind.{common_steps}
use Rattle.std.proofs.lemmas.List.{length-map}
use Rattle.std.proofs.lemmas.Option.{slice_get-map, slice_get_past, slice_get-get_or}
use Rattle.desk.specs.Sight.{IsFront}

-- what was copied to the front of a buffer is the front of what it was copied from
pub front_copied : (most n : ℕ) (rest old new : List ℕ) → 0 < most → n ≡ min most (min (length rest) (length old)) → new ≡ take n rest ++ drop n old → IsFront n (length new) new rest
front_copied most n rest old new some count copied = record {
  within = omega arith;
  bytes_are = grind (arith, common_steps);
  end = λ none room. grind (arith, common_steps);
}

-- the certificate with this number is read
pub front_of_part : (parts : List (Vec ℕ Global)) (number at n room : ℕ) (part : Vec ℕ Global) (buffer : List ℕ)
    → number < length parts → part ≡ get_or parts number part
    → IsFront n room buffer (drop at part.items)
    → IfSome (slice_get (map (λ p. p.items) parts) number) (λ bytes. IsFront n room buffer (drop at bytes))
front_of_part parts number at n room part buffer there is front =
    let found : slice_get parts number ≡ Some part = slice_get-get_or parts number part there ∙ ap Some (sym is) in
    rw (slice_get-map (λ (p : Vec ℕ Global). p.items) parts number, found) front

-- there is none with this number
pub no_part : (parts : List (Vec ℕ Global)) (number : ℕ) → length parts ≤ number → slice_get (map (λ p. p.items) parts) number ≡ None
no_part parts number past = slice_get_past (map (λ (p : Vec ℕ Global). p.items) parts) number (rw (length-map parts (λ (p : Vec ℕ Global). p.items)) past)
