-- The faults of a walk, as they are answered.
use Rattle.std.proofs.Common.{◌≡◌, Some, ap, refl, ◌∙◌}
use Rattle.script_model.specs.Sexp.{Place}
use Rattle.script_fault.specs.declared.fault.FaultKind.TheVariants.{TooMany}
use Rattle.script_fault.specs.declared.limit.Limit.{Limit}
use Rattle.script_fault.specs.declared.limit.Limit.TheVariants.{Bytes, Depth, Axes, Size, Nodes, Atoms, Forms, Levels, Checks}
use Rattle.smt_sexp.specs.TextAnswers.{fault_at}
use Rattle.script_forms.specs.Walk.{Walked, stops, unfolds_not}
use Rattle.script_reading.specs.Faults.{in_building}
use Rattle.term_build.specs.Does.{IsBeyond, fault_of}
use Rattle.term_build.specs.declared.stop.Fault.{Fault}
use Rattle.term_build.specs.declared.stop.Fault.TheVariants.{NumberTooWide, DivisorNotConstant, ZeroDivisor, IllFormed}
use Rattle.problem_build.specs.BuildAnswers.{builder_kind, found_by}

kind-of : (at : Place) (x : Fault) → in_building (found_by (stops at (unfolds_not (fault_of at x)))) ≡ Some (fault_at at (builder_kind x))
kind-of at NumberTooWide = refl
kind-of at DivisorNotConstant = refl
kind-of at ZeroDivisor = refl
kind-of at IllFormed = refl

pub expression_fault : (w : Walked) (at : Place) (x : Fault) → w ≡ stops at (unfolds_not (fault_of at x)) → in_building (found_by w) ≡ Some (fault_at at (builder_kind x))
expression_fault w at x h = ap (λ v. in_building (found_by v)) h ∙ kind-of at x

pub beyond_fault : (w : Walked) (at : Place) (what : Limit) → IsBeyond at w what → in_building (found_by w) ≡ Some (fault_at at (TooMany what))
unfolding Rattle.term_build.specs.Does.IsBeyond
beyond_fault w at Size h = ap (λ v. in_building (found_by v)) h
beyond_fault w at Nodes h = ap (λ v. in_building (found_by v)) h
beyond_fault w at Atoms h = ap (λ v. in_building (found_by v)) h
beyond_fault w at Forms h = ap (λ v. in_building (found_by v)) h
beyond_fault w at Bytes h = elim h [ ]
beyond_fault w at Depth h = elim h [ ]
beyond_fault w at Axes h = elim h [ ]
beyond_fault w at Levels h = elim h [ ]
beyond_fault w at Checks h = elim h [ ]
