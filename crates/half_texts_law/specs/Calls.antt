-- What calls do where only some functions have a body: what the others do is given.
use Rattle.std.specs.Prelude.{◌≡◌, ◌<◌, ℕ, zero, suc, Bool, ◌||◌, List, [], Option, Some, None, map, if◌then◌else◌, is_some, slice_get}
use Rattle.std.specs.List.{list_all}
use Rattle.pt_base.specs.declared.trap.Trap.TheVariants.{Depth}
use Rattle.pt_tree.specs.declared.signature.Signature.{Signature}
use Rattle.runs.specs.State.{trapped}
use Rattle.typed_tree.specs.declared.types.VarTy.{VarTy}
use Rattle.typed_tree.specs.TypedTree.{TypedTree}
use Rattle.source_meaning.specs.Expressions as m
use Rattle.source_meaning.specs.Functions.{function_or_none, function_call}
use Rattle.pt_core.specs.CodeTree.{FunctionTree, ProgramTree}
use Rattle.pt_core.specs.Statements as c
use Rattle.pt_core.specs.Calls.{function_call as core_call}
use Rattle.pt_core.specs.WellFormed.{function_at, called_signature}
use Rattle.half_meaning_law.specs.Relations.{Scene}
use Rattle.half_meaning_law.specs.Statements.{CallsAlike}
use Rattle.half_names_law.specs.Standing.{Marks, scene_of}
use Rattle.half_names_law.specs.Laws.{judged_tree}

-- ---- calls, where functions may be entered this much deeper

-- in a typed program: a function with a body is entered, any other does what is given
abbrev pub text_calls : TypedTree → m.Calls → ℕ → m.Calls
text_calls t outside zero frame s f values st =
    if is_some (function_or_none t f).body then trapped Depth s st else outside frame s f values st
text_calls t outside (suc deeper) frame s f values st =
    if is_some (function_or_none t f).body then function_call t (text_calls t outside deeper) frame f values st else outside frame s f values st

-- in the normal form
abbrev pub half_calls : ProgramTree → c.Calls → ℕ → c.Calls
half_calls p outside zero frame s f args st =
    if is_some (function_at p f) then trapped Depth s st else outside frame s f args st
half_calls p outside (suc deeper) frame s f args st =
    if is_some (function_at p f) then core_call p (half_calls p outside deeper) frame f args st else outside frame s f args st

-- ---- where they are made

-- nothing is live that is deeper than this
abbrev pub FramesEnd : (ℕ → List VarTy) → ℕ → Type 0
FramesEnd frames depth = (d : ℕ) → depth < d → frames d ≡ []

-- Function number n is active in this frame, its variables are the innermost, and nothing deeper is live.
pub record IsActive (p : ProgramTree) (n : ℕ) (f : FunctionTree) (frames : ℕ → List VarTy) (depth : ℕ) : Type 0 where
  pub there : slice_get p.functions n ≡ Some f
  pub own : frames depth ≡ map (λ x. x.ty) f.vars
  pub ends : FramesEnd frames depth

-- the scene of a function with calls of both
abbrev pub scene_within : Marks → Bool → ProgramTree → FunctionTree → (ℕ → List VarTy) → m.Frame → m.Calls → c.Calls → ℕ → Scene
scene_within marks monitor p f frames frame outside outside' depth =
    scene_of p f frames frame (text_calls (judged_tree marks monitor p) outside depth) (half_calls p outside' depth)

-- ---- functions without a body

-- with which parameters functions without a body are called
abbrev pub outside_signature : Bool → ProgramTree → ℕ → Option Signature
outside_signature monitor p f = if is_some (function_at p f) then None else called_signature monitor p f

-- calls of functions without a body come to the same, whichever function makes them
abbrev pub OutsideAlike : Bool → ProgramTree → m.Calls → c.Calls → Type 0
OutsideAlike monitor p outside outside' = (n : ℕ) (f : FunctionTree) (frames : ℕ → List VarTy) (frame : m.Frame) → IsActive p n f frames frame.depth → CallsAlike (scene_of p f frames frame outside outside') (outside_signature monitor p)

-- each function without a body is a host
abbrev pub prototypes_are_hosts : ProgramTree → Bool
prototypes_are_hosts p = list_all (λ s. is_some (function_at p s.0) || s.1.host) p.signatures
