-- The words of functions and other items of a program, and its text.
use Rattle.std.specs.Prelude.{ℕ, List, [], ◌∷◌, ◌++◌, Option, Some, None, Bool, true, false}
use Rattle.std.specs.List.{flat_map}
use Rattle.c_lexer.specs.declared.token.TokenKind.TheVariants as k
use Rattle.pt_tree.specs.declared.word.Word.{Word}
use Rattle.pt_tree.specs.StatementTree.{BlockTree, stmt_trees}
use Rattle.pt_tree.specs.ProgramTree.{ParamTree, FunctionTree, ItemTree, declares, function}
use Rattle.c_printer.specs.Pieces.{Gap, tight, spaced, line, apart, Piece, fixed}
use Rattle.c_printer.specs.Specifiers.{specifiers, declarator_words, starred, suffix_words}
use Rattle.c_printer.specs.Statements.{declaration, statements}
use Rattle.c_printer.specs.Sheets.{lay, heading}

-- a parameter's name may be left out
abbrev pub param_name : Bool → Option Word → List Piece
param_name pointer (Some w) = starred pointer w.bytes
param_name true None = fixed spaced k.Star ∷ []
param_name false None = []

abbrev pub param_words : ParamTree → Gap → List Piece
param_words p gap = specifiers p.specs gap ++ (param_name p.pointer p.name ++ suffix_words p.suffix)

abbrev pub more_params : List ParamTree → List Piece
more_params [] = []
more_params (p ∷ ps) = fixed tight k.Comma ∷ (param_words p spaced ++ more_params ps)

abbrev pub params_words : List ParamTree → List Piece
params_words [] = []
params_words (p ∷ ps) = param_words p tight ++ more_params ps

abbrev pub parameters : List ParamTree → List Piece
parameters ps = fixed tight k.OpenParen ∷ (params_words ps ++ (fixed tight k.CloseParen ∷ []))

abbrev pub body_words : Option BlockTree → List Piece
body_words None = fixed tight k.Semicolon ∷ []
body_words (Some b) = fixed spaced k.OpenBrace ∷ (statements (stmt_trees b.items) 1 ++ (fixed (line 0) k.CloseBrace ∷ []))

-- an empty line stands before a function with a body
abbrev pub function_gap : Option BlockTree → Gap
function_gap None = line 0
function_gap (Some b) = apart

abbrev pub function_words : FunctionTree → List Piece
function_words f = specifiers f.specs (function_gap f.body) ++ (declarator_words f.declarator ++ (fixed tight k.OpenParen ∷ (params_words f.params ++ (fixed tight k.CloseParen ∷ body_words f.body))))

abbrev pub item_words : ItemTree → List Piece
item_words (declares d) = declaration d (line 0)
item_words (function f) = function_words f

-- the text: a comment, and the items
abbrev pub text_of : List ℕ → List ItemTree → List ℕ
text_of comment items = (lay (flat_map item_words items) (heading comment)).bytes ++ (10 ∷ [])
