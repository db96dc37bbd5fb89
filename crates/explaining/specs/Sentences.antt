-- What is said of each kind of fault.
use Rattle.std.specs.Prelude.{ℕ, List, Bool, codes, if◌then◌else◌, nat_eq}
use Rattle.c_lexer.specs.declared.error.LexFaultKind.{LexFaultKind}
use Rattle.c_lexer.specs.declared.error.LexFaultKind.TheVariants.{BadByte, OpenComment, BadNumber, BadChar, TooLong}
use Rattle.front_end.specs.declared.parse_fault.ParseFaultKind.{ParseFaultKind}
use Rattle.front_end.specs.declared.parse_fault.ParseFaultKind.TheVariants.{FaultAt, TooDeep}
use Rattle.check_declarations.specs.declared.fault.FaultKind.{FaultKind}
use Rattle.check_declarations.specs.declared.fault.FaultKind.TheVariants.{UnknownName, Redeclared, NotLvalue, WrongType, ArgCount, ConstWrite, OutOfProfile, NoMain, TooLarge, BadAttribute}
use Rattle.flow_rules.specs.declared.rule.Rule.{Rule}
use Rattle.flow_rules.specs.declared.rule.Rule.TheVariants.{OperationOnPriv, PrivToHost, PrivIntoUnpriv, SharedGlobal, UnmarkedOut, HostInMonitor, PrivToPlainParam, PrivStatus, PrivMain}

-- ---- texts that have no tokens

-- a byte with which nothing begins
abbrev pub byte_sentence : ℕ → List ℕ
byte_sentence b =
    if nat_eq b 35 then codes "this language has no preprocessor: gcc -E -P writes the text without macros, and what headers declare is declared as hosts"
    else if nat_eq b 34 then codes "this language has no strings: write an array of characters, or let a host give the bytes"
    else codes "nothing begins with this byte: outside of comments a text has signs of ASCII alone, and no byte order mark"

-- the fault of this kind at this byte
abbrev pub lex_sentence : LexFaultKind → ℕ → List ℕ
lex_sentence BadByte b = byte_sentence b
lex_sentence OpenComment b = codes "this comment has no end"
lex_sentence BadNumber b = codes "this is no number that a type can hold: there are no fractions, no suffix ll, and no 8 and 9 behind a leading 0"
lex_sentence BadChar b = codes "this is no character constant"
lex_sentence TooLong b = codes "the text has more than 1048576 bytes"

-- ---- tokens that are no program

-- a token, or the text's end, that can't stand there
abbrev pub stop_sentence : Bool → List ℕ
stop_sentence within = if within then codes "this can't stand here: a ; or a bracket is missing before it, or this language lacks it, as typedef, enum, goto, sizeof, inline, double, ** and [][]" else codes "the text ends too early"

abbrev pub parse_sentence : ParseFaultKind → Bool → List ℕ
parse_sentence FaultAt within = stop_sentence within
parse_sentence TooDeep within = codes "this is nested too deep"

-- ---- types

abbrev pub type_sentence : FaultKind → List ℕ
type_sentence UnknownName = codes "nothing of this name is declared above; there is no library, so what lies outside is declared as a host"
type_sentence Redeclared = codes "this was declared before in the same block, struct, switch or file, or otherwise"
type_sentence NotLvalue = codes "this is no object"
type_sentence WrongType = codes "the type of this doesn't fit here: numbers, pointers to one type and structs of one tag are kept apart"
type_sentence ArgCount = codes "this call has too few arguments, or too many: give one for each parameter of its declaration"
type_sentence ConstWrite = codes "this is const, so it can't be changed"
type_sentence OutOfProfile = codes "this part of C isn't in this language: pointers are variables and parameters alone, structs no parameters and results, functions have no static variables, and globals begin with constants"
type_sentence NoMain = codes "there is no int main(void); no words of a command line come to it, so a host gives what it reads"
type_sentence TooLarge = codes "this has too many cells: an object has at most 65536, the variables of a function have 16384 together, all globals 1048576"
type_sentence BadAttribute = codes "this attribute can't stand here: there are priv, unpriv and declassify, and declassify stands beside priv"

-- ---- flows

-- what is said behind a quote of the place
abbrev pub rule_sentence : Rule → List ℕ
rule_sentence OperationOnPriv = codes " is looked at, and it holds a secret"
rule_sentence PrivToHost = codes " goes to an unmarked parameter of a host, and it holds a secret"
rule_sentence PrivIntoUnpriv = codes " is marked unpriv, and a secret comes into it"
rule_sentence SharedGlobal = codes " is a global that functions of both halves name"
rule_sentence UnmarkedOut = codes " gives something back from a privileged function, and is marked neither priv nor declassify"
rule_sentence HostInMonitor = codes " is called by a function that is marked priv, or that such a function calls, and the host has no mark"
rule_sentence PrivToPlainParam = codes " has or points to a secret, and goes to a parameter without priv"
rule_sentence PrivStatus = codes " is returned as the status, and it holds a secret"
rule_sentence PrivMain = codes " is marked priv"

-- how it may be mended
abbrev pub rule_mend : Rule → List ℕ
rule_mend OperationOnPriv = codes "mend: do this in a function marked priv, or let it keep its type if it is only converted; add declassify only where everybody may know the result\n"
rule_mend PrivToHost = codes "mend: give it what was declassified; if the host may have the secret, mark the parameter priv, and the host, too, where it returns nothing\n"
rule_mend PrivIntoUnpriv = codes "mend: take unpriv away, or keep the secret out of it\n"
rule_mend SharedGlobal = codes "mend: let functions of one half alone name it, and hand its value over as an argument\n"
rule_mend UnmarkedOut = codes "mend: mark it priv if what comes back is secret and declassify if it isn't, or let it point to const\n"
rule_mend HostInMonitor = codes "mend: mark the host priv, or call it from a function that is neither marked nor called by one that is\n"
rule_mend PrivToPlainParam = codes "mend: mark the parameter priv, or the field in which the secret lies, or pass what holds no secret\n"
rule_mend PrivStatus = codes "mend: return what holds no secret, since everyone sees the status\n"
rule_mend PrivMain = codes "mend: take priv away from main, and let it call functions marked priv\n"
