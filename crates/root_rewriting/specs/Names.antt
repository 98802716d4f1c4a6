-- The names of the constants that stand for roots and quotients.
use Rattle.std.specs.Prelude.{ℕ, List, codes}
use Rattle.root_rewriting.specs.declared.constants.Kind.{Kind}
use Rattle.root_rewriting.specs.declared.constants.Kind.TheVariants.{Root, Quotient}

abbrev pub word_of : Kind → List ℕ
word_of Root = codes "|sqrt("
word_of Quotient = codes "|quotient("
