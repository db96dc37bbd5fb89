-- The kinds of faults of a text: their numbers and names.
use Rattle.std.specs.Prelude.{ℕ, List, codes}
use Rattle.c_lexer.specs.declared.error.LexFaultKind.{LexFaultKind}
use Rattle.c_lexer.specs.declared.error.LexFaultKind.TheVariants.{BadByte, OpenComment, BadNumber, BadChar, TooLong}

abbrev pub fault_number : LexFaultKind → ℕ
fault_number BadByte = 1
fault_number OpenComment = 2
fault_number BadNumber = 3
fault_number BadChar = 4
fault_number TooLong = 5

abbrev pub fault_name : LexFaultKind → List ℕ
fault_name BadByte = codes "BadByte"
fault_name OpenComment = codes "OpenComment"
fault_name BadNumber = codes "BadNumber"
fault_name BadChar = codes "BadChar"
fault_name TooLong = codes "TooLong"
