-- How leaves and places of the code are seen.
use Rattle.script_model.specs.Sexp as sexp
use Rattle.script_fault.specs.declared.place.Place.{Place}
use Rattle.smt_sexp.specs.declared.leaf.Reserved.{Reserved}
use Rattle.smt_sexp.specs.declared.leaf.Reserved.TheVariants.{Bang, Underscore, As, Let, Exists, Forall, Match, Par}
use Rattle.smt_sexp.specs.declared.leaf.Leaf.{Leaf}
use Rattle.smt_sexp.specs.declared.leaf.Leaf.TheVariants as leaves

abbrev pub place_of : Place → sexp.Place
place_of p = record { line = p.line; column = p.column }

abbrev pub reserved_of : Reserved → sexp.Reserved
reserved_of Bang = sexp.bang
reserved_of Underscore = sexp.underscore
reserved_of As = sexp.as_word
reserved_of Let = sexp.let_word
reserved_of Exists = sexp.exists_word
reserved_of Forall = sexp.forall_word
reserved_of Match = sexp.match_word
reserved_of Par = sexp.par_word

abbrev pub leaf_of : Leaf → sexp.Leaf
leaf_of (leaves.Numeral digits) = sexp.numeral digits
leaf_of (leaves.Decimal digits decimals) = sexp.decimal digits decimals
leaf_of (leaves.Symbol name) = sexp.symbol name
leaf_of (leaves.Reserved word) = sexp.reserved (reserved_of word)
leaf_of (leaves.String text) = sexp.string text
leaf_of (leaves.Keyword name) = sexp.keyword name
