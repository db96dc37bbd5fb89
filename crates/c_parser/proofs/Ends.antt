-- How a function ends by what another one has parsed or made.
use Rattle.std.proofs.Common.{◌≡◌, ℕ, ◌<◌, ◌≤◌, List, [], ◌∷◌, ◌++◌, Result, Ok, Err, sym, subst, arith}
use Rattle.std.specs.Prelude.{IfOk, IfErr}
use Rattle.c_lexer.specs.declared.token.Token.{Token}
use Rattle.c_lexer.specs.declared.token.TokenKind.TheVariants as kinds
use Rattle.pt_tree.specs.declared.statement.Stmt.{Stmt}
use Rattle.pt_tree.specs.StatementTree.{StmtTree, view_stmt}
use Rattle.c_grammar.specs.declared.symbol.Symbol.TheVariants as symbols
use Rattle.c_grammar.specs.Part.{Part, stmt}
use Rattle.c_grammar.specs.Machine.{Entry, Outcome}
use Rattle.c_parser.specs.declared.error.ParseError.{ParseError}
use Rattle.c_parser.specs.declared.error.ParseError.TheVariants.{Memory}
use Rattle.c_parser.specs.declared.parsed.Parsed.{Parsed}
use Rattle.c_parser.specs.Parses.{Comes, Parses, Turns, Fails, Enters, Expects}
use Rattle.c_parser.specs.Parts.{of_stmt}
use Rattle.c_parser.specs.Blocks.{StartsBlock}
use Rattle.c_parser.proofs.Steps.{no_memory}

-- what is left is parsed behind what is parsed already
pub followed : {T : Type 0} (old before : List Part) (new : T → List Part) (tokens : List Token) (es left : List Entry) (at depth next : ℕ) (r : Result (Parsed T) ParseError) → ((rest : List Entry) (parts : List Part) (o : Outcome) → Comes tokens (left ++ rest) next depth (before ++ parts) o → Comes tokens (es ++ rest) at depth (old ++ parts) o) → Parses before new tokens left next depth r → Parses old new tokens es at depth r
followed old before new tokens es left at depth next (Ok p) comes m = record { from = λ rest parts o k. comes rest parts o (m.from rest parts o k) }
followed old before new tokens es left at depth next (Err err) comes f = record { from = λ o e rest parts. comes rest parts o (f.from o e rest parts) }

-- a statement that is made of what is parsed; only memory may be wanting
pub made : (tokens : List Token) (es : List Entry) (at depth next : ℕ) (tree : StmtTree) (r : Result (Parsed Stmt) ParseError) → IfOk r (λ p. (p.next ≡ next) × (view_stmt p.tree ≡ tree)) → IfErr r (λ e. e ≡ Memory) → Turns tokens es at depth [] (stmt tree ∷ []) next → Parses [] of_stmt tokens es at depth r
made tokens es at depth next tree (Ok p) ok err turns = subst (λ n. Turns tokens es at depth [] (of_stmt p.tree) n) (sym ok.0) (subst (λ s. Turns tokens es at depth [] (stmt s ∷ []) next) (sym ok.1) turns)
made tokens es at depth next tree (Err e) ok err turns = subst (λ e. Fails tokens es at depth [] e) (sym err) (no_memory tokens es at depth [])

pub made_further : (at next size : ℕ) (tree : StmtTree) (r : Result (Parsed Stmt) ParseError) → IfOk r (λ p. (p.next ≡ next) × (view_stmt p.tree ≡ tree)) → at < next → next ≤ size → IfOk r (λ p. (at < p.next) × (p.next ≤ size))
made_further at next size tree (Ok p) ok lt le = let e = ok.0 in (omega (arith, e, lt), omega (arith, e, le))
made_further at next size tree (Err e) ok lt le = tt

-- from further on it goes further
pub further : {T : Type 0} (at next size : ℕ) (r : Result (Parsed T) ParseError) → at < next → IfOk r (λ p. (next < p.next) × (p.next ≤ size)) → IfOk r (λ p. (at < p.next) × (p.next ≤ size))
further at next size (Ok p) lt ok = let more = ok.0 in (omega (arith, lt, more), ok.1)
further at next size (Err e) lt ok = tt

-- the rule of a block, and its opening brace
pub block_starts : (tokens : List Token) (at : ℕ) (r : Result ℕ ParseError) → Enters tokens symbols.Block at 60 → Expects tokens kinds.OpenBrace at r → StartsBlock tokens at r
block_starts tokens at (Ok next) e x = record { from = λ depth rest parts o k. e.from depth _ _ _ ((x depth).from _ _ _ k) }
block_starts tokens at (Err err) e f = λ depth. record { from = λ o t rest parts. e.from _ _ _ _ ((f depth).from o t _ _) }
