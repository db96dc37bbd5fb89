-- Owned globals, as code finds them.
use Rattle.std.specs.Prelude.{ℕ, List, Bool, false, length, map, replicate}
use Rattle.std.specs.List.{flat_map}
use Rattle.pt_base.specs.declared.ids.FnId.{FnId}
use Rattle.typed_tree.specs.ExpressionTree.{ExprTree}
use Rattle.typed_tree.specs.TypedTree.{TypedTree}
use Rattle.reach.specs.Contexts.{expr_globals, globals_in}
use Rattle.reach.specs.Tables.{set_all}

abbrev pub global_numbers : TypedTree → FnId → List ℕ
global_numbers t f = map (λ g. g.0) (globals_in t f)

-- the number of the global that an expression names itself
abbrev pub expr_numbers : ExprTree → List ℕ
expr_numbers e = map (λ g. g.0) (expr_globals e)

-- the globals that these functions name
abbrev pub owned_table : TypedTree → List FnId → List Bool
owned_table t fs = set_all (replicate (length t.globals) false) (flat_map (global_numbers t) fs)
