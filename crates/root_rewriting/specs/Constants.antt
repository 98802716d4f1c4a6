-- Declared constants, as the definitions see them.
use Rattle.script_model.specs.Script as script
use Rattle.smt_script.specs.Views.{sort_of}
use Rattle.smt_sexp.specs.Views.{place_of}
use Rattle.root_rewriting.specs.declared.range.constants.Constant.{Constant}

abbrev pub constant_of : Constant → script.Constant
constant_of c = record { at = place_of c.place; name = c.name.now; sort = sort_of c.sort }
