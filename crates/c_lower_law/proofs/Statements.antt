-- What the lowering keeps of statements and calls.
use Rattle.std.specs.Prelude.{◌≡◌, ◌≤◌, ◌<◌, ◌^◌, ℕ, pos, Bool, true, false, List, [], ◌∷◌, Option, Some, None, IsTrue, map, length, nat_eq}
use Rattle.pt_base.specs.declared.int_type.IntType.{IntType}
use Rattle.typed_tree.specs.declared.types.VarTy.{VarTy}
use Rattle.typed_tree.specs.declared.variable.Var.{Var}
use Rattle.typed_tree.specs.declared.statement.TypedDeclarator.{TypedDeclarator}
use Rattle.typed_tree.specs.ExpressionTree.{ExprTree}
use Rattle.typed_tree.specs.StatementTree.{BodyTree}
use Rattle.typed_tree.specs.TypedTree.{TypedTree, signatures_of}
use Rattle.typed_tree.specs.Nodes.{body_nodes}
use Rattle.typed_tree.specs.WellFormed.{is_well_formed}
use Rattle.typed_tree.specs.WellFormedStatement as w
use Rattle.typed_tree.specs.WellFormedStatement.{is_sound, declaration_fits}
use Rattle.block_memory.specs.declared.cell.Cell.TheVariants.{Int}
use Rattle.block_memory.specs.declared.cell.BlockName.TheVariants.{Local}
use Rattle.block_memory.specs.Blocks.{Blocks}
use Rattle.source_meaning.specs.State.{State}
use Rattle.source_meaning.specs.Expressions.{Frame}
use Rattle.source_meaning.specs.Statements as m
use Rattle.source_meaning.specs.Statements.{statement}
use Rattle.source_meaning.specs.Functions as f
use Rattle.pt_core.specs.Statements as c
use Rattle.pt_core.specs.Calls as calls
use Rattle.lowering.specs.Statements as l
use Rattle.lowering.specs.Statements.{Onward, nowhere, to_head, past_flag, statement_in}
use Rattle.lowering.specs.Functions.{core_program}
use Rattle.c_lower_law.proofs.Relations.{Scene, context_of, scope_of, HasTemps, Alike, Same, After, below}
use Rattle.c_lower_law.proofs.Expressions.{ValuesAgree, EffectsAgree, ObjectsAgree, SceneFits, CallsAlike, SameResult, run_all}

-- ---- code

-- the code of the scene's function, whose statements name these outermost expressions
abbrev pub code_of : Scene → List ExprTree → m.Code
code_of s exprs = record { context = context_of s; exprs = exprs }

-- what its statements are tested by, where it has this result
abbrev pub tests_of : Scene → List ExprTree → Option IntType → w.Scope
tests_of s exprs result = record { names = s.names; exprs = exprs; result = result }

-- what it is lowered with
abbrev pub lowered_with : Scene → List ExprTree → l.Code
lowered_with s exprs = record { scope = scope_of s; exprs = exprs }

-- ---- `continue` in a switch

-- the flag of the switch in which code stands
abbrev pub is_flag : Onward → ℕ → Bool
is_flag nowhere k = false
is_flag to_head k = false
is_flag (past_flag j) k = nat_eq j k

-- a statement with temporaries from n on keeps those before, but for that flag
abbrev pub but_flag : Onward → ℕ → ℕ → Type 0
but_flag mode n k = (k < n) × (is_flag mode k ≡ false)

-- the flag is a temporary before n, and has this value
abbrev pub FlagIs : Scene → Onward → ℕ → ℕ → Blocks → Type 0
FlagIs s nowhere n v blocks = Unit {0}
FlagIs s to_head n v blocks = Unit {0}
FlagIs s (past_flag k) n v blocks = (length s.names.vars ≤ k) × (k < n) × ((blocks (Local s.frame.depth k)).cells ≡ Int (pos v) ∷ [])

-- where `continue` may stand the code stands in a loop
abbrev pub LeadsOn : Onward → Bool → Type 0
LeadsOn mode false = Unit {0}
LeadsOn nowhere true = ⊥
LeadsOn to_head true = Unit {0}
LeadsOn (past_flag k) true = Unit {0}

-- ---- how control goes on

-- at `continue` the normal form goes back to the head, or in a switch it has set the flag and breaks
abbrev pub Continues : Scene → Onward → ℕ → Blocks → c.Flow → Type 0
Continues s nowhere n blocks flow = ⊥
Continues s to_head n blocks flow = flow ≡ c.continues
Continues s (past_flag k) n blocks flow = (flow ≡ c.broke) × FlagIs s (past_flag k) n 1 blocks

-- both go on in the same way
abbrev pub SameFlow : m.Flow → c.Flow → Scene → Option IntType → Onward → ℕ → Blocks → Type 0
SameFlow m.goes_on c.goes_on s result mode n blocks = FlagIs s mode n 0 blocks
SameFlow m.goes_on c.broke s result mode n blocks = ⊥
SameFlow m.goes_on c.continues s result mode n blocks = ⊥
SameFlow m.goes_on (c.returned x) s result mode n blocks = ⊥
SameFlow m.broke c.goes_on s result mode n blocks = ⊥
SameFlow m.broke c.broke s result mode n blocks = FlagIs s mode n 0 blocks
SameFlow m.broke c.continues s result mode n blocks = ⊥
SameFlow m.broke (c.returned x) s result mode n blocks = ⊥
SameFlow m.continues flow s result mode n blocks = Continues s mode n blocks flow
SameFlow (m.returned v) c.goes_on s result mode n blocks = ⊥
SameFlow (m.returned v) c.broke s result mode n blocks = ⊥
SameFlow (m.returned v) c.continues s result mode n blocks = ⊥
SameFlow (m.returned v) (c.returned x) s result mode n blocks = SameResult result v x

pub record GivesFlow (s : Scene) (result : Option IntType) (mode : Onward) (n : ℕ) (before : Blocks) (flow : m.Flow) (st : State) (flow' : c.Flow) (st' : c.State) : Type 0 where
  pub after : After s (but_flag mode n) before st st'
  pub same : SameFlow flow flow' s result mode n st'.memory

-- ---- statements

abbrev pub StatementsAgree : Type 0
StatementsAgree = (s : Scene) (exprs : List ExprTree) (result : Option IntType) (body : BodyTree) (out again : Bool) (mode : Onward) (n : ℕ) (st : State) (st' : c.State) → SceneFits s →
    IsTrue (is_sound (tests_of s exprs result) out again body) → body_nodes body ≤ 2 ^ 28 → LeadsOn mode again → length s.names.vars ≤ n →
    HasTemps s.core_variables n (statement_in (lowered_with s exprs) body mode n).temps → FlagIs s mode n 0 st'.memory → Alike s st st' →
    Same (GivesFlow s result mode n st'.memory) (statement body (code_of s exprs) st) (run_all s (statement_in (lowered_with s exprs) body mode n).stmts st')

-- declarations go on
pub record GoesOn (s : Scene) (n : ℕ) (before : Blocks) (flow : m.Flow) (st : State) (flow' : c.Flow) (st' : c.State) : Type 0 where
  pub after : After s (below n) before st st'
  pub same : (flow ≡ m.goes_on) × (flow' ≡ c.goes_on)

abbrev pub DeclarationsAgree : Type 0
DeclarationsAgree = (s : Scene) (exprs : List ExprTree) (result : Option IntType) (ds : List TypedDeclarator) (n : ℕ) (st : State) (st' : c.State) → SceneFits s →
    IsTrue (declaration_fits (tests_of s exprs result) ds) → length s.names.vars ≤ n →
    HasTemps s.core_variables n (l.declared (lowered_with s exprs) ds n).temps → Alike s st st' →
    Same (GoesOn s n st'.memory) (m.declared ds (code_of s exprs) st) (run_all s (l.declared (lowered_with s exprs) ds n).stmts st')

-- ---- calls

-- a function of the program, with these variables and temporaries, whose calls may go this much deeper
abbrev pub scene_in : TypedTree → List Var → (ℕ → List VarTy) → Frame → List VarTy → ℕ → Scene
scene_in program vars frames frame core_variables deep = record {
  names = record { structs = program.structs; globals = program.globals; signatures = signatures_of program; vars = vars };
  frames = frames;
  frame = frame;
  calls = f.calls_within program deep;
  core_globals = map (λ g. (g.id, g.var.ty)) (core_program program).globals;
  core_variables = core_variables;
  core_calls = calls.calls_within (core_program program) deep;
}

-- calls come to the same, however deep they may go
abbrev pub CallsAgree : Type 0
CallsAgree = (program : TypedTree) (vars : List Var) (frames : ℕ → List VarTy) (frame : Frame) (core_variables : List VarTy) (deep : ℕ) → IsTrue (is_well_formed program) →
    frames frame.depth ≡ map (λ x. x.ty) vars → CallsAlike (scene_in program vars frames frame core_variables deep)
