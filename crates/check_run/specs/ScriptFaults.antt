-- The text of a script's fault.
use Rattle.std.specs.Prelude.{ℕ, List, ◌∷◌, ◌++◌, codes, decimal}
use Rattle.cert_model.specs.AnswerText.{text_line, name_text}
use Rattle.script_fault.specs.declared.fault.FaultKind.{FaultKind}
use Rattle.script_fault.specs.declared.fault.FaultKind.TheVariants.{BadByte, OpenToken, Unbalanced, NumberTooWide, BadCommand, UnknownSymbol, SortMismatch, Redeclared, DivisorNotConstant, ZeroDivisor, NoBound, BoundTooWide, TooMany, NoCheck, WrongLogic, LeftOut}
use Rattle.script_fault.specs.declared.fault.ScriptFault.{ScriptFault}
use Rattle.script_fault.specs.declared.limit.Limit.{Limit}
use Rattle.script_fault.specs.declared.limit.Limit.TheVariants.{Bytes, Depth, Axes, Size, Nodes, Atoms, Forms, Levels, Checks}
use Rattle.script_fault.specs.declared.place.Place.{Place}

abbrev pub limit_word : Limit → List ℕ
limit_word Bytes = codes "Bytes"
limit_word Depth = codes "Depth"
limit_word Axes = codes "Axes"
limit_word Size = codes "Size"
limit_word Nodes = codes "Nodes"
limit_word Atoms = codes "Atoms"
limit_word Forms = codes "Forms"
limit_word Levels = codes "Levels"
limit_word Checks = codes "Checks"

-- its number, its name, and what it tells of itself behind a space
abbrev pub kind_text : FaultKind → List ℕ
kind_text BadByte = codes "1 BadByte"
kind_text OpenToken = codes "2 OpenToken"
kind_text Unbalanced = codes "3 Unbalanced"
kind_text NumberTooWide = codes "4 NumberTooWide"
kind_text BadCommand = codes "5 BadCommand"
kind_text (UnknownSymbol name) = codes "6 UnknownSymbol " ++ name_text name
kind_text SortMismatch = codes "7 SortMismatch"
kind_text (Redeclared name) = codes "8 Redeclared " ++ name_text name
kind_text DivisorNotConstant = codes "9 DivisorNotConstant"
kind_text ZeroDivisor = codes "10 ZeroDivisor"
kind_text (NoBound name) = codes "11 NoBound " ++ name_text name
kind_text (BoundTooWide name) = codes "12 BoundTooWide " ++ name_text name
kind_text (TooMany what) = codes "13 TooMany " ++ limit_word what
kind_text NoCheck = codes "14 NoCheck"
kind_text WrongLogic = codes "15 WrongLogic"
kind_text LeftOut = codes "16 LeftOut"

-- line and column
abbrev pub place_text : Place → List ℕ
place_text at = decimal at.line ++ (58 ∷ decimal at.column)

-- the line that tells of a fault
abbrev pub fault_text : ScriptFault → List ℕ
fault_text x = text_line (codes "script fault " ++ kind_text x.kind ++ (32 ∷ place_text x.at))
