-- What is seen at a place among expressions.
use Rattle.std.specs.Prelude.{◌≡◌, ℕ, ◌<◌}
use Rattle.script_model.specs.Sexp.{leaf, group, none, more}
use Rattle.smt_sexp.specs.Views.{place_of, leaf_of}
use Rattle.smt_sexp.specs.Arena.{rest_of, places_of}
use Rattle.smt_sexp.specs.declared.sexps.Sexps as code
use Rattle.smt_sexp.specs.declared.sexps.Seen.{Seen}
use Rattle.smt_sexp.specs.declared.sexps.Seen.TheVariants as seen

-- the end of a group, a leaf with the place behind it, or a group with its first place and the place behind it
abbrev pub Shows : code.Sexps → ℕ → Seen → Type 0
Shows s at seen.End = rest_of s at ≡ none
Shows s at (seen.Leaf place l after) = (rest_of s at ≡ more (leaf (place_of place) (leaf_of l.now)) (rest_of s after)) × (at < after) × (at < places_of s)
Shows s at (seen.Group place inside after) =
    (rest_of s at ≡ more (group (place_of place) (rest_of s inside)) (rest_of s after)) × (at < inside) × (at < after) × (at < places_of s)
