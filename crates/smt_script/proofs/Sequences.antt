-- Arguments and parameters, one after the other.
use Rattle.std.proofs.Common.{◌≡◌, List, [], ◌∷◌, ◌++◌, Bool, true, false, Option, Some, None, refl, ap, sym, append_assoc}
use Rattle.script_model.specs.Sexp.{Sexp, leaf, group, Sexps, none, more}
use Rattle.script_model.specs.Script.{Parameter}
use Rattle.dyadic.specs.Point.{Sort}
use Rattle.smt_sexp.specs.Arena.{first_of}
use Rattle.smt_script.specs.Commands.{other_sort, one_sort, sort_form, Arguments, no_arguments, some_arguments, wrong_arguments, arguments, with_argument, Parameters, known_parameters, other_parameters, wrong_parameters, parameters, with_parameter}
use Rattle.smt_script.specs.Forms.{as_any, as_group}
use Rattle.smt_script.specs.Shapes.{shape_of, shape_group, with_shape}
use Rattle.smt_script.proofs.Shapes.{parameters-more}

-- ---- arguments

abbrev pub arguments_any : Option (Sexp × Sexps) → Arguments
arguments_any None = no_arguments
arguments_any (Some (e, rest)) = with_argument (sort_form e) (arguments rest)

pub arguments_is : (items : Sexps) → arguments items ≡ arguments_any (as_any items)
arguments_is none = refl
arguments_is (more e rest) = refl

-- arguments behind some, or behind none
abbrev pub behind : Bool → Arguments → Arguments
behind false rest = rest
behind true wrong_arguments = wrong_arguments
behind true rest = some_arguments

pub behind_wrong : (b : Bool) → behind b wrong_arguments ≡ wrong_arguments
behind_wrong true = refl
behind_wrong false = refl

pub behind_other : (b : Bool) (rest : Arguments) → behind b (with_argument other_sort rest) ≡ behind true rest
behind_other true no_arguments = refl
behind_other true some_arguments = refl
behind_other true wrong_arguments = refl
behind_other false no_arguments = refl
behind_other false some_arguments = refl
behind_other false wrong_arguments = refl

pub behind_one : (b : Bool) (s : Sort) (rest : Arguments) → behind b (with_argument (one_sort s) rest) ≡ behind true rest
behind_one true s no_arguments = refl
behind_one true s some_arguments = refl
behind_one true s wrong_arguments = refl
behind_one false s no_arguments = refl
behind_one false s some_arguments = refl
behind_one false s wrong_arguments = refl

-- ---- parameters

abbrev pub parameters_any : Option (Sexp × Sexps) → Parameters
parameters_any None = known_parameters []
parameters_any (Some (e, rest)) = with_shape (shape_of e) (parameters rest)

pub parameters_is : (items : Sexps) → parameters items ≡ parameters_any (as_any items)
parameters_is none = refl
parameters_is (more e rest) = parameters-more e rest

pub shape_first : (items : Sexps) → shape_of (first_of items) ≡ shape_group (as_group items)
shape_first none = refl
shape_first (more (leaf p l) rest) = refl
shape_first (more (group p inside) rest) = refl

-- parameters behind these, of which some are of another sort
abbrev pub after_these : List Parameter → Bool → Parameters → Parameters
after_these ps others wrong_parameters = wrong_parameters
after_these ps others other_parameters = other_parameters
after_these ps true (known_parameters qs) = other_parameters
after_these ps false (known_parameters qs) = known_parameters (ps ++ qs)

pub after_none : (rest : Parameters) → after_these [] false rest ≡ rest
after_none wrong_parameters = refl
after_none other_parameters = refl
after_none (known_parameters qs) = refl

pub after_one : (ps : List Parameter) (others : Bool) (p : Parameter) (rest : Parameters) →
    after_these ps others (with_parameter p.at p.name (one_sort p.sort) rest) ≡ after_these (ps ++ p ∷ []) others rest
after_one ps others p wrong_parameters = refl
after_one ps others p other_parameters = refl
after_one ps true p (known_parameters qs) = refl
after_one ps false p (known_parameters qs) = ap known_parameters (sym (append_assoc ps (p ∷ []) qs))
