-- What is proved of the names in a half's text, and with it of the half's statements.
use Rattle.std.specs.Prelude.{◌≡◌, ◌++◌, ℕ, List, [], Bool, false, Some, IsTrue, length, map, slice_get, take}
use Rattle.std.specs.List.{list_all}
use Rattle.pt_tree.specs.declared.signature.Signature.{Signature}
use Rattle.pt_tree.specs.StatementTree.{stmt_trees}
use Rattle.typed_tree.specs.declared.types.VarTy.{VarTy}
use Rattle.typed_tree.specs.declared.types.StructInfo.{StructInfo}
use Rattle.typed_tree.specs.StatementTree.{block, body_trees}
use Rattle.typed_tree.specs.TypedTree as t
use Rattle.typed_tree.specs.TypedTree.{TypedTree}
use Rattle.check_statements.specs.Outermost as o
use Rattle.check_statements.specs.Statements.{CheckedAll, checked_all}
use Rattle.check_programs.specs.Blocks.{block_in}
use Rattle.check_programs.specs.Programs.{checked_items, tree_of, with_main, type_faults}
use Rattle.check_programs.specs.Progress.{at_start}
use Rattle.source_meaning.specs.Expressions as m
use Rattle.pt_core.specs.CodeTree.{FunctionTree, ProgramTree, SlaveTree}
use Rattle.pt_core.specs.Statements as c
use Rattle.pt_core.specs.Statements.{do_all}
use Rattle.pt_core.specs.WellFormed.{is_sound, signature_at, called_signature, context_of, with_own, is_well_formed_slave, slave_program}
use Rattle.half_trees.specs.Names.{nowhere}
use Rattle.half_trees.specs.Functions.{body_tree}
use Rattle.half_trees.specs.Statements.{statements_trees}
use Rattle.half_trees.specs.Halves.{half_tree, slave_tree}
use Rattle.half_meaning_law.specs.Relations.{Scene, frame_of}
use Rattle.half_meaning_law.specs.Known.{Known, FunctionsKnown, result_as}
use Rattle.half_meaning_law.specs.Expressions.{SceneFits}
use Rattle.half_meaning_law.specs.Statements.{ListedFrom, CallsAlike, StatementsMean}
use Rattle.half_names_law.specs.Declarable.{Declarable, has_small_frame, prototypes_take_no_pointers}
use Rattle.half_names_law.specs.Standing.{Marks, own_marks, whole_marks, before, head_at, behind_head, body_context, locals_at, statements_at, number_in, scene_of, all_said}

-- ---- what is known at a body

-- the statements of a function of the half, as the judgments meet them
abbrev pub statements_checked : ProgramTree → FunctionTree → Signature → o.State → CheckedAll
statements_checked p f s st = checked_all (body_context (result_as s.result)) st (stmt_trees (statements_trees p.signatures (context_of p f.vars) f.body))

-- first these, then those that are judged where the first have led
abbrev pub one_behind : CheckedAll → CheckedAll → CheckedAll
one_behind a b = record { state = b.state; bodies = a.bodies ++ b.bodies; trees = a.trees ++ b.trees; faults = a.faults ++ b.faults }

-- in this scene all names mean what the half's numbers name
pub record KnownIn (monitor : Bool) (p : ProgramTree) (s : Scene) (st : o.State) : Type 0 where
  pub fits : SceneFits s
  pub known : Known s st.env st.structs
  pub functions : FunctionsKnown s p.signatures (called_signature monitor p) st.env

-- Where the judgments stand at function number n of the half, when they have gone over all before it: the only
-- fault there may be that the variables of a function are too large together.
pub record NamesKnown (marks : Marks) (monitor : Bool) (p : ProgramTree) (n : ℕ) (f : FunctionTree) (s : Signature) : Type 0 where
  pub before_fine : IsTrue (list_all (has_small_frame p) (take n p.functions)) → (before marks monitor p n).faults ≡ []
  pub head_fine : (head_at marks (before marks monitor p n).progress p f).faults ≡ []
  pub result : (head_at marks (before marks monitor p n).progress p f).callable.result ≡ result_as s.result
  pub locals_fine : (locals_at marks (before marks monitor p n).progress p f).faults ≡ []
  -- the body is judged as its variables' declarations, and behind them its statements
  pub body : (let st = behind_head marks (before marks monitor p n).progress p f in block_in (result_as s.result) st.env st.structs (length st.exprs) (body_tree p f).items)
      ≡ one_behind (locals_at marks (before marks monitor p n).progress p f) (statements_checked p f s (statements_at marks monitor p n f))
  pub known : (frames : ℕ → List VarTy) (frame : m.Frame) (calls : m.Calls) (core_calls : c.Calls) → frames frame.depth ≡ map (λ x. x.ty) f.vars → KnownIn monitor p (scene_of p f frames frame calls core_calls) (statements_at marks monitor p n f)

-- ---- the typed tree of a half

abbrev pub judged_tree : Marks → Bool → ProgramTree → TypedTree
judged_tree marks monitor p = tree_of (checked_items marks at_start (half_tree monitor p)).progress

-- the types of all fields
abbrev pub field_types : List StructInfo → List (List VarTy)
field_types structs = map (λ s. map (λ f. f.ty) s.fields) structs

-- The typed tree has the half's fields and globals, and these start with the half's numbers. Function number n
-- stands in it at its place, with its result, its parameters and its variables, and its body is what was judged of
-- it, whose outermost expressions the tree lists.
pub record BodyStands (marks : Marks) (monitor : Bool) (p : ProgramTree) (n : ℕ) (f : FunctionTree) (s : Signature) : Type 0 where
  pub structs : field_types (judged_tree marks monitor p).structs ≡ field_types p.structs
  pub globals : map (λ g. g.var.ty) (judged_tree marks monitor p).globals ≡ map (λ g. g.var.ty) p.globals
  pub cells : map (λ g. g.cells) (judged_tree marks monitor p).globals ≡ map (λ g. g.cells) p.globals
  pub place : ℕ
  pub number : number_in 0 (map (λ x. x.0) p.signatures) place ≡ f.id
  pub entry : t.FunctionTree
  pub there : slice_get (judged_tree marks monitor p).functions place ≡ Some entry
  pub result : entry.signature.result ≡ s.result
  pub params : map (λ x. x.kind) entry.signature.params ≡ map (λ x. x.kind) (with_own monitor (Some f) s).params
  pub vars : map (λ x. x.ty) entry.vars ≡ map (λ x. x.ty) f.vars
  pub body : entry.body ≡ Some (block nowhere (body_trees ((locals_at marks (before marks monitor p n).progress p f).bodies ++ (statements_checked p f s (statements_at marks monitor p n f)).bodies)))
  pub exprs : ListedFrom (judged_tree marks monitor p).exprs (statements_at marks monitor p n f).next (statements_checked p f s (statements_at marks monitor p n f)).trees

-- ---- laws

-- with each function counted as one that has a body
abbrev pub HalfNamesAreKnown : Type 0
HalfNamesAreKnown = (monitor : Bool) (p : ProgramTree) (n : ℕ) (f : FunctionTree) (s : Signature) → IsTrue (is_sound monitor p) → Declarable p → IsTrue (all_said monitor p) →
    slice_get p.functions n ≡ Some f → signature_at p f.id ≡ Some s → NamesKnown (whole_marks monitor p) monitor p n f s

-- as the half's own items say
abbrev pub OwnNamesAreKnown : Type 0
OwnNamesAreKnown = (monitor : Bool) (p : ProgramTree) (n : ℕ) (f : FunctionTree) (s : Signature) → IsTrue (is_sound monitor p) → Declarable p → IsTrue (all_said monitor p) → IsTrue (prototypes_take_no_pointers p) →
    slice_get p.functions n ≡ Some f → signature_at p f.id ≡ Some s → NamesKnown (own_marks monitor p) monitor p n f s

-- no item of a half has a fault
abbrev pub HalvesHaveNoFault : Type 0
HalvesHaveNoFault = (monitor : Bool) (p : ProgramTree) → IsTrue (is_sound monitor p) → Declarable p → IsTrue (all_said monitor p) → IsTrue (list_all (has_small_frame p) p.functions) →
    ((checked_items (whole_marks monitor p) at_start (half_tree monitor p)).faults ≡ []) ×
    (IsTrue (prototypes_take_no_pointers p) → (checked_items (own_marks monitor p) at_start (half_tree monitor p)).faults ≡ [])

-- The tree of a slave's half has no type fault: there is a main that it begins with.
abbrev pub SlavesHaveNoTypeFault : Type 0
SlavesHaveNoTypeFault = (s : SlaveTree) → IsTrue (is_well_formed_slave s) → Declarable (slave_program s) → IsTrue (all_said false (slave_program s)) → IsTrue (list_all (has_small_frame (slave_program s)) s.functions) →
    ((with_main (checked_items (whole_marks false (slave_program s)) at_start (slave_tree s))).faults ≡ []) ×
    (IsTrue (prototypes_take_no_pointers (slave_program s)) → type_faults (slave_tree s) ≡ [])

-- The statements of each function, judged where they stand in the half's own tree, have no fault and mean what
-- the half's do, whatever frames there are, if calls do.
abbrev pub MeaningKept : Marks → Bool → ProgramTree → ℕ → FunctionTree → Signature → Type 0
MeaningKept marks monitor p n f s = (frames : ℕ → List VarTy) (frame : m.Frame) (calls : m.Calls) (core_calls : c.Calls) → (let scene = scene_of p f frames frame calls core_calls in
    frames frame.depth ≡ map (λ x. x.ty) f.vars → CallsAlike scene (called_signature monitor p) →
    StatementsMean scene (statements_at marks monitor p n f) (statements_checked p f s (statements_at marks monitor p n f)) (do_all f.body (frame_of scene) core_calls))

abbrev pub HalvesKeepTheirMeaning : Type 0
HalvesKeepTheirMeaning = (monitor : Bool) (p : ProgramTree) (n : ℕ) (f : FunctionTree) (s : Signature) → IsTrue (is_sound monitor p) → Declarable p → IsTrue (all_said monitor p) → slice_get p.functions n ≡ Some f → signature_at p f.id ≡ Some s →
    MeaningKept (whole_marks monitor p) monitor p n f s × (IsTrue (prototypes_take_no_pointers p) → MeaningKept (own_marks monitor p) monitor p n f s)

-- the typed tree that the judgments make of a half has all this
abbrev pub HalfBodiesStand : Type 0
HalfBodiesStand = (monitor : Bool) (p : ProgramTree) (n : ℕ) (f : FunctionTree) (s : Signature) → IsTrue (is_sound monitor p) → Declarable p → IsTrue (all_said monitor p) → slice_get p.functions n ≡ Some f → signature_at p f.id ≡ Some s →
    BodyStands (whole_marks monitor p) monitor p n f s × (IsTrue (prototypes_take_no_pointers p) → BodyStands (own_marks monitor p) monitor p n f s)
