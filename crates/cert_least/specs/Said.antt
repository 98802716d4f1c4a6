-- What lines say where some of them are due.
use Rattle.std.specs.Prelude.{◌≡◌, ℕ, nat_eq, Bool, true, false, Option, Some, None, option_map}
use Rattle.dyadic.specs.declared.dy.Dy.{Dy}
use Rattle.dyadic.specs.Views.{dyadic_of}
use Rattle.cover_model.specs.Rules.{Line, open_line, stuck}
use Rattle.cert_read.specs.CertLine.{CertLine, version, margin, delta, bound, lower, goal, cover, point_word, rule_line, over}
use Rattle.cert_model.specs.Least.{is_least_version, leaves_open}
use Rattle.cert_least.specs.declared.phase.Phase.{Phase}
use Rattle.cert_least.specs.declared.phase.Phase.TheVariants as phase
use Rattle.cert_least.specs.declared.phase.Told.{Told}
use Rattle.cert_least.specs.declared.said.CoverLine.{CoverLine}
use Rattle.cert_least.specs.declared.said.CoverLine.TheVariants as said

-- whether it begins a certificate of least values
abbrev pub IsLeastIn : Bool → CertLine → Type 0
IsLeastIn true l = l ≡ version 4
IsLeastIn false (version v) = is_least_version v ≡ false
IsLeastIn false l = Unit {0}

-- whether it is the first line of version 5, in which a later one tells
abbrev pub IsOpenIn : Bool → CertLine → Type 0
IsOpenIn true l = l ≡ version 5
IsOpenIn false (version v) = nat_eq v 5 ≡ false
IsOpenIn false l = Unit {0}

abbrev pub IsLowerIn : Option (Option Dy) → CertLine → Type 0
IsLowerIn (Some e) l = l ≡ lower (option_map dyadic_of e)
IsLowerIn None (lower e) = ⊥
IsLowerIn None l = Unit {0}

abbrev pub IsCoverIn : Bool → CertLine → Type 0
IsCoverIn true (cover k) = Unit {0}
IsCoverIn true l = ⊥
IsCoverIn false (cover k) = ⊥
IsCoverIn false l = Unit {0}

-- the bits of a limit of the goal, where there is none before
abbrev pub IsLimitIn : Option ℕ → Option ℕ → CertLine → Type 0
IsLimitIn before (Some k) l = (before ≡ None) × (l ≡ goal k)
IsLimitIn None None (goal k) = ⊥
IsLimitIn before None l = Unit {0}

-- the phase behind a line of the header that told so much
abbrev pub header_phase : Told → CertLine → Phase
header_phase t (margin m) = phase.Header (record t { margin = m })
header_phase t (delta d) = phase.Header (record t { delta = d })
header_phase t (bound b) = phase.Lower t
header_phase t l = phase.Header t

-- neither `over` nor `point`, and no rule that leaves its own state
abbrev pub IsOther : CertLine → Type 0
IsOther over = ⊥
IsOther point_word = ⊥
IsOther (rule_line l) = leaves_open l ≡ false
IsOther l = Unit {0}

-- the rule that leaves its own state stuck at this atom, or open
abbrev pub leaf_of : Option ℕ → Line
leaf_of None = open_line
leaf_of (Some j) = stuck j

abbrev pub IsSaid : CoverLine → CertLine → Type 0
IsSaid said.Over l = l ≡ over
IsSaid (said.Leaf j) l = l ≡ rule_line (leaf_of j)
IsSaid said.Point l = l ≡ point_word
IsSaid said.Other l = IsOther l
