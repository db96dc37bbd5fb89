-- What a well formed program computes is of the kinds that its types say.
use Rattle.std.specs.Prelude.{◌≡◌, ◌≤◌, ℕ, false, List, [], ◌∷◌, Bool, Option, Some, IsTrue, map, option_map, slice_get, if◌then◌else◌, nat_eq}
use Rattle.pt_base.specs.declared.ids.FnId.{FnId}
use Rattle.pt_base.specs.declared.int_type.IntType.{IntType}
use Rattle.pt_base.specs.declared.span.Span.{Span}
use Rattle.pt_tree.specs.declared.signature.Param.{Param}
use Rattle.typed_tree.specs.declared.types.VarTy.{VarTy}
use Rattle.typed_tree.specs.declared.types.VarTy.TheVariants.{Int, Struct}
use Rattle.typed_tree.specs.declared.types.StructInfo.{StructInfo}
use Rattle.typed_tree.specs.ExpressionTree.{ExprTree, PlaceTree}
use Rattle.typed_tree.specs.WellFormedExpression.{Names, is_typed, ty_of, field_type, place_type, place_fits, param_type}
use Rattle.typed_tree.specs.StatementTree.{BodyTree}
use Rattle.typed_tree.specs.TypedTree.{TypedTree, FunctionTree, signatures_of}
use Rattle.typed_tree.specs.Lookup.{function_at}
use Rattle.typed_tree.specs.WellFormed.{is_well_formed}
use Rattle.typed_tree.specs.WellFormedStatement.{Scope, is_sound}
use Rattle.runs.specs.State.{Hosts, gives, trapped, spent}
use Rattle.source_meaning.specs.State.{State, Outcome}
use Rattle.source_meaning.specs.Values.{Value}
use Rattle.source_meaning.specs.Expressions.{Frame, Calls, Context, value_of, location_of}
use Rattle.source_meaning.specs.Statements.{Code, Flow, goes_on, broke, continues, returned, statement}
use Rattle.source_meaning.specs.Functions.{calls_within, opened}
use Rattle.source_meaning.specs.WholeRun.{main_code, begun}
use Rattle.source_soundness.specs.Worlds.{World, Fits, ValueFits, LocationFits, is_pointer}

-- where a part of a run gives something, that is so, and the memory still fits
abbrev pub Keeps : {A : Type 0} → World → (A → Type 0) → Outcome A → Type 0
Keeps w Q (gives a st) = Q a × Fits w st.memory
Keeps w Q (trapped trap s st) = Unit {0}
Keeps w Q (spent st) = Unit {0}

-- one value for each parameter, of its type
abbrev pub ArgumentsFit : World → List Param → List Value → Type 0
ArgumentsFit w [] [] = Unit {0}
ArgumentsFit w [] (v ∷ vs) = ⊥
ArgumentsFit w (p ∷ ps) [] = ⊥
ArgumentsFit w (p ∷ ps) (v ∷ vs) = ValueFits w (Some (param_type p.kind)) v × ArgumentsFit w ps vs

-- calls from this frame give results of the callee's type, and leave what is live fitting
abbrev pub CallsFit : World → Names → Frame → Calls → Type 0
CallsFit w n frame calls = (s : Span) (f : ℕ) (vs : List Value) (st : State) (signature : _) →
    slice_get n.signatures f ≡ Some signature → ArgumentsFit w signature.params vs → Fits w st.memory →
    Keeps w (ValueFits w (option_map Int signature.result)) (calls frame s f vs st)

-- no field is a pointer
abbrev pub FieldsArePlain : List StructInfo → Type 0
FieldsArePlain structs = (k j : ℕ) (ty : VarTy) → field_type structs (Some (Struct k)) j ≡ Some ty → is_pointer ty ≡ false

-- the context names what the function's code names, and runs at the world's depth
pub record ContextFits (w : World) (n : Names) (c : Context) : Type 0 where
  pub structs : c.structs ≡ n.structs
  pub plain : FieldsArePlain n.structs
  pub plain_globals : (g : ℕ) (ty : VarTy) → slice_get c.globals g ≡ Some ty → is_pointer ty ≡ false
  pub globals : c.globals ≡ map (λ g. g.var.ty) n.globals
  pub variables : c.variables ≡ map (λ x. x.ty) n.vars
  pub known : w.globals ≡ c.globals
  pub own : w.frames w.depth ≡ c.variables
  pub at_depth : c.frame.depth ≡ w.depth
  pub active : 1 ≤ w.depth
  pub calls : CallsFit w n c.frame c.calls

-- an expression gives a value of its type, and a place lies in a live object
abbrev pub ValuesHaveTheirTypes : Type 0
ValuesHaveTheirTypes = (w : World) (n : Names) (c : Context) (e : ExprTree) (st : State) → ContextFits w n c →
    IsTrue (is_typed n e) → Fits w st.memory → Keeps w (ValueFits w (ty_of e)) (value_of e c st)

abbrev pub PlacesAreLive : Type 0
PlacesAreLive = (w : World) (n : Names) (c : Context) (p : PlaceTree) (st : State) (ty : VarTy) → ContextFits w n c →
    IsTrue (place_fits n p) → place_type n p ≡ Some ty → Fits w st.memory → Keeps w (LocationFits w (Some ty)) (location_of p c st)

-- ---- statements

-- how control goes on: what is returned is of the function's result
abbrev pub FlowFits : World → Option IntType → Flow → Type 0
FlowFits w result goes_on = Unit {0}
FlowFits w result broke = Unit {0}
FlowFits w result continues = Unit {0}
FlowFits w result (returned v) = ValueFits w (option_map Int result) v

-- the code is that of the scope's function, whose variables have the types of its entries
pub record CodeFits (w : World) (scope : Scope) (code : Code) : Type 0 where
  pub context : ContextFits w scope.names code.context
  pub exprs : code.exprs ≡ scope.exprs

abbrev pub StatementsKeepTypes : Type 0
StatementsKeepTypes = (w : World) (scope : Scope) (code : Code) (out again : Bool) (body : BodyTree) (st : State) → CodeFits w scope code →
    IsTrue (is_sound scope out again body) → Fits w st.memory → Keeps w (FlowFits w scope.result) (statement body code st)

-- ---- calls and whole programs

-- main's world
abbrev pub main_world : TypedTree → FunctionTree → World
main_world program g = record { globals = map (λ x. x.var.ty) program.globals; frames = λ d. if nat_eq d 1 then map (λ x. x.ty) g.vars else []; depth = 1 }

-- the world of a program: its globals have their types
abbrev pub IsWorldOf : TypedTree → World → Type 0
IsWorldOf program w = w.globals ≡ map (λ g. g.var.ty) program.globals

-- Calls from a frame of this depth give results of the callee's type, however deep they may go, and leave
-- what is live fitting.
abbrev pub CallsKeepTypes : Type 0
CallsKeepTypes = (program : TypedTree) (n : Names) (w : World) (frame : Frame) (deep : ℕ) → IsTrue (is_well_formed program) → IsWorldOf program w →
    frame.depth ≡ w.depth → n.signatures ≡ signatures_of program → CallsFit w n frame (calls_within program deep)

-- where main begins, the globals and main's variables fit their types
abbrev pub ProgramsBeginFitting : Type 0
ProgramsBeginFitting = (program : TypedTree) (f : FnId) (hosts : Hosts) (input : List ℕ) (turns : ℕ) (g : FunctionTree) → IsTrue (is_well_formed program) →
    function_at program f ≡ Some g → g.signature.params ≡ [] → Fits (main_world program g) (opened (main_code program f) [] (begun program hosts input turns)).memory
