use Rattle.std.proofs.Common.{◌≡◌, take, ℕ, ◌∷◌}
use Rattle.cover_model.specs.Derivation.{Tree}
use Rattle.cert_join.specs.Gathered.{AllThere, AreAlike, AreNext, Meeting, lists_of, parts_of}
use Rattle.cert_join.proofs.trees.are_alike.Given as goal

abbrev pub invariant-loop-part : goal.invariant-loop-part
invariant-loop-part l = (x : ℕ × Tree) (place : Meeting) → x.0 ≡ l.first → parts_of place ≡ l.others → AllThere (parts_of (x ∷ place)) l.cursors → AreNext l.cursors (x ∷ place) →
    AreAlike (lists_of l.numbers) x (take l.part-index place)
