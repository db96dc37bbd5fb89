-- The outermost block of a function.
use Rattle.std.specs.Prelude.{ℕ, List}
use Rattle.pt_tree.specs.StatementTree.{StmtTree}
use Rattle.type_rules.specs.declared.types.Type.{«Type»}
use Rattle.check_declarations.specs.Structs.{Structs}
use Rattle.check_expressions.specs.Environment.{Env}
use Rattle.check_statements.specs.Statements.{CheckedAll, checked_block}

-- judged in the scope of the parameters; so many outermost expressions stand before it
unfoldable pub block_in : «Type» → Env → Structs → ℕ → List StmtTree → CheckedAll
block_in result env structs before items = checked_block result (record { env = env; structs = structs; next = before }) items
