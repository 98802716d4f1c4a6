-- The laws of rewritten scripts.
use Rattle.std.proofs.Common.{arith}
use Rattle.dyadic.specs.Fraction.{zero_fraction}
use Rattle.script_roots.specs.Laws.{extended, RewrittenMeansScript, UnsatIsOfScript}
use Rattle.script_roots.specs.Rewritten.{rewritten}
use Rattle.script_roots.proofs.Loosened.{satisfies_more}
use Rattle.script_roots.proofs.Truth.{rewritten_means}
use Rattle.script_roots.proofs.Box.{ends_hold, box_is_extended}

pub means_script : RewrittenMeansScript
means_script bound script w f point inside roots = rewritten_means bound script w f point inside roots (ends_hold bound script w f point inside roots)

pub unsat_of_script : UnsatIsOfScript
unsat_of_script bound script w margin some none f point inside roots holds =
    none (extended f bound script point) (box_is_extended bound script w f point inside roots)
    (satisfies_more zero_fraction margin (omega arith) some (extended f bound script point) (rewritten bound script) ((means_script bound script w f point inside roots).1 holds))
