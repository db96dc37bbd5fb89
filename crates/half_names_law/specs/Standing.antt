-- Where the type judgments stand in the C tree of a half: before a function, in its body, and behind the
-- declarations of its variables.
use Rattle.std.specs.Prelude.{ℕ, zero, suc, List, [], ◌∷◌, ◌++◌, Bool, true, false, Some, length, map, take, drop}
use Rattle.std.specs.List.{range_with_len, list_all}
use Rattle.pt_tree.specs.SpecifierTree.{spec_trees}
use Rattle.pt_tree.specs.StatementTree.{stmt_trees}
use Rattle.pt_tree.specs.ProgramTree as parsed
use Rattle.type_rules.specs.declared.types.Type.{«Type»}
use Rattle.typed_tree.specs.declared.types.VarTy.{VarTy}
use Rattle.check_statements.specs.declared.context.Context as k
use Rattle.check_statements.specs.Outermost as o
use Rattle.check_statements.specs.Statements.{CheckedAll, checked_all}
use Rattle.check_programs.specs.Functions.{Checked, Head, head_of, with_head, with_start, declared}
use Rattle.check_programs.specs.Programs.{checked_items}
use Rattle.check_programs.specs.Progress.{Progress, at_start}
use Rattle.check_programs.specs.Unions.{function_marks}
use Rattle.source_meaning.specs.Expressions as m
use Rattle.pt_core.specs.CodeTree.{FunctionTree, ProgramTree}
use Rattle.pt_core.specs.Statements as c
use Rattle.pt_core.specs.WellFormed.{signature_at, called_signature, context_of}
use Rattle.half_trees.specs.Names.{nowhere, function_by}
use Rattle.half_trees.specs.Declarations.{struct_item, global_item, parameters_or_void, function_declarator}
use Rattle.half_trees.specs.Functions.{parameters_from, locals_from, head_specs, body_tree, function_item}
use Rattle.half_trees.specs.Halves.{prototype_of, half_tree}
use Rattle.half_meaning_law.specs.Relations.{Scene}
use Rattle.half_meaning_law.specs.CForms.{are_said}
pub use Rattle.check_programs.specs.MarkTables.{Known as Marks}

-- ---- what the items together say of a function

-- what the items of the half's own tree say
abbrev pub own_marks : Bool → ProgramTree → Marks
own_marks monitor p = function_marks (half_tree monitor p)

-- The same, as if each function had a body: for the judgments a function that is only declared is a host, which
-- takes no pointers, and the privileged functions that the slave's half declares have their bodies in the
-- monitor's.
abbrev pub whole_marks : Bool → ProgramTree → Marks
whole_marks monitor p name = record (own_marks monitor p name) { defined = true }

-- ---- before a function

abbrev pub items_before : Bool → ProgramTree → ℕ → List parsed.ItemTree
items_before monitor p n =
    map (struct_item p.structs) (range_with_len 0 (length p.structs))
    ++ (map (prototype_of monitor p) p.signatures
    ++ (map (global_item p.structs) p.globals
    ++ map (function_item p) (take n p.functions)))

-- function number n of the half, of those with bodies, comes next
abbrev pub before : Marks → Bool → ProgramTree → ℕ → Checked
before marks monitor p n = checked_items marks at_start (items_before monitor p n)

-- ---- in its body

-- the function that `function_item` is the item of
abbrev pub definition : ProgramTree → FunctionTree → parsed.FunctionTree
definition p f = record {
  span = nowhere;
  specs = spec_trees (head_specs (signature_at p f.id));
  declarator = function_declarator (function_by f.id (signature_at p f.id));
  params = parameters_or_void (parameters_from p.structs 0 (take f.params f.vars));
  body = Some (body_tree p f);
}

abbrev pub head_at : Marks → Progress → ProgramTree → FunctionTree → Head
head_at marks st p f = head_of (marks (function_by f.id (signature_at p f.id))) st.env st.structs (definition p f)

-- The head is known, and the scope of its parameters is open: this is how `completed` judges the body.
abbrev pub behind_head : Marks → Progress → ProgramTree → FunctionTree → Progress
behind_head marks st p f =
    let h = head_at marks st p f in
    declared (marks (function_by f.id (signature_at p f.id))) (with_start (with_head st h) h.callable true) h.callable nowhere

abbrev pub body_state : Progress → o.State
body_state st = record { env = st.env; structs = st.structs; next = length st.exprs }

abbrev pub body_context : «Type» → k.Context
body_context result = record { result = result; in_loop = false; in_switch = false }

-- the declarations of the variables behind the parameters
abbrev pub locals_at : Marks → Progress → ProgramTree → FunctionTree → CheckedAll
locals_at marks st p f =
    checked_all (body_context (head_at marks st p f).callable.result) (body_state (behind_head marks st p f))
    (stmt_trees (locals_from p.structs f.params (drop f.params f.vars)))

-- where the statements of function number n stand
abbrev pub statements_at : Marks → Bool → ProgramTree → ℕ → FunctionTree → o.State
statements_at marks monitor p n f = (locals_at marks (before marks monitor p n).progress p f).state

-- ---- the scene of a function

-- the number at this place, of numbers that rise from the first on; behind the list all further numbers follow
abbrev pub number_in : ℕ → List ℕ → ℕ → ℕ
number_in first [] zero = first
number_in first [] (suc k) = suc (number_in first [] k)
number_in first (n ∷ ns) zero = n
number_in first (n ∷ ns) (suc k) = number_in (suc n) ns k

abbrev pub scene_of : ProgramTree → FunctionTree → (ℕ → List VarTy) → m.Frame → m.Calls → c.Calls → Scene
scene_of p f frames frame calls core_calls = record {
  context = context_of p f.vars;
  globals = map (λ g. g.var.ty) p.globals;
  global_number = number_in 0 (map (λ g. g.id) p.globals);
  function_number = number_in 0 (map (λ s. s.0) p.signatures);
  frames = frames;
  frame = frame;
  calls = calls;
  core_calls = core_calls;
}

-- the code of each function can be said in C
abbrev pub all_said : Bool → ProgramTree → Bool
all_said monitor p = list_all (λ f. are_said (context_of p f.vars) (called_signature monitor p) f.body) p.functions
