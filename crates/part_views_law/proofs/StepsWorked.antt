-- The laws tried on a small machine: a function with two variables, of which the second holds a handle. What the laws ask for is
-- needed.
use Rattle.std.proofs.Common.{◌≡◌, ℕ, zero, suc, pos, negsuc, map, nat_eq, refl, subst, arith, Bool, true, false, Option, Some, None, List, [], ◌∷◌, if◌then◌else◌}
use Rattle.std.specs.Prelude.{IsTrue, get_or, slice_get}
use Rattle.pt_base.specs.declared.int_type.IntType.{IntType}
use Rattle.pt_base.specs.declared.int_type.IntType.TheVariants as i
use Rattle.pt_base.specs.declared.span.Span.{Span}
use Rattle.pt_base.specs.declared.trap.Trap.TheVariants.{Depth}
use Rattle.pt_int.specs.Conversion.{conv}
use Rattle.pt_int.specs.Operator.{unary_of}
use Rattle.pt_int.specs.declared.operator.BinOp.TheVariants.{Eq}
use Rattle.pt_int.specs.declared.operator.UnOp.TheVariants.{Minus}
use Rattle.pt_tree.specs.declared.host_model.HostModel.{HostModel}
use Rattle.pt_tree.specs.declared.host_model.HostModel.TheVariants.{Table}
use Rattle.pt_tree.specs.HostStep.{host_step}
use Rattle.pt_tree.specs.declared.signature.Elem.TheVariants as e
use Rattle.pt_tree.specs.declared.signature.Signature.{Signature}
use Rattle.typed_tree.specs.declared.types.VarTy.{VarTy}
use Rattle.typed_tree.specs.declared.types.VarTy.TheVariants.{Int, Pointer}
use Rattle.typed_tree.specs.declared.variable.Var.{Var}
use Rattle.typed_tree.specs.Cells.{leaves_of}
use Rattle.runs.specs.Run.{deepest}
use Rattle.handle_store.specs.Stored.{AreInRange}
use Rattle.block_memory.specs.declared.cell.Cell.{Cell}
use Rattle.block_memory.specs.declared.cell.Cell.TheVariants as cell
use Rattle.block_memory.specs.declared.cell.Pointer.TheVariants.{At}
use Rattle.block_memory.specs.declared.cell.BlockName.{BlockName}
use Rattle.block_memory.specs.declared.cell.BlockName.TheVariants.{Local, Global, Received}
use Rattle.block_memory.specs.Block.{Block, no_block}
use Rattle.block_memory.specs.Blocks.{Blocks}
use Rattle.pt_core.specs.CodeTree.{PlaceTree, ProgramTree, StmtTree, assign, call, compare, constant, convert, global, local, no_exprs, no_stmts, place, read, repeat, stmt_and, unary}
use Rattle.pt_core.specs.Steps.{Gate, Machine, Way, away, enters, here, moved, run, spent, step, trapped}
use Rattle.pt_core.specs.WellFormed.{is_sound}
use Rattle.core_steps_law.specs.WholeRun.{Outside, whole_gate}
use Rattle.core_soundness_law.specs.Fits.{Fits, IntegersFit, LocalFits}
use Rattle.core_soundness_law.specs.Kept.{by_store}
use Rattle.core_soundness_law.specs.StepLaws.{GateFits, NumberFits}
use Rattle.handle_classes.specs.Computes.{computes_next}
use Rattle.marshalling.specs.Handles.{Entries}
use Rattle.part_views_law.specs.Machines.{nobody, seen_machine}
use Rattle.part_views_law.specs.Views.{View, seen, slave_view}
use Rattle.part_views_law.specs.StepsLaws.{StepSeen}
use Rattle.part_views_law.specs.StepsParts.{CallsFit, GatesAgree, IsPart, IsViewed, ShowAlike, Stands}
use Rattle.part_views_law.proofs.StepsInstances.{slaves_stand}
use Rattle.part_views_law.proofs.StepsRuns.{parts_step}

abbrev anywhere : Span
anywhere = record { from = 0; to = 0 }

abbrev of_type : VarTy → Var
of_type ty = record { name = []; span = anywhere; ty = ty; marked = false; unpriv = false; holds = None }

abbrev signature : Bool → Signature
signature privileged = record { name = []; result = None; params = []; host = false; privileged = privileged; declassify = false }

-- void f(void) with these variables and this one statement; it may call the privileged g
abbrev program : List VarTy → StmtTree → ProgramTree
program tys t = record {
  structs = [];
  signatures = (0, signature false) ∷ (1, signature true) ∷ [];
  functions = record { id = 0; params = 0; vars = map of_type tys; body = stmt_and t no_stmts; end = anywhere } ∷ [];
  globals = record { id = 0; var = of_type (Int i.Int); cells = pos 0 ∷ [] } ∷ [];
}

abbrev one : IntType → Cell → Block
one t c = record { types = t ∷ []; cells = c ∷ [] }

abbrev held : Cell → Block
held c = record { types = []; cells = c ∷ [] }

-- its variables at depth 1, and what else there is
abbrev memory : List Block → Block → List Block → Blocks
memory own zeroth received (Local depth v) = if nat_eq depth 1 then get_or own v no_block else no_block
memory own zeroth received (Global g) = if nat_eq g 0 then zeroth else no_block
memory own zeroth received (Received n) = get_or received n no_block

abbrev machine : ℕ → ℕ → StmtTree → Blocks → Machine
machine depth budget t blocks = record {
  active = record { function = 0; depth = depth; privileged = false; result = None; work = run (stmt_and t no_stmts) ∷ [] } ∷ [];
  blocks = blocks;
  turns = 0;
  budget = budget;
  awaits = None;
}

abbrev goes : Way → Gate ℕ
goes way = record { way = λ g f args. way; noted = λ privileged f args g. g; answer = λ f numbers g. (None, g) }

abbrev variable : ℕ → PlaceTree
variable k = place (local k) []

abbrev number : Block
number = one i.Int (cell.Int (pos 0))

abbrev handle : Block
handle = one i.Int (cell.Sealed 0)

-- ---- a handle is copied, and in the whole its number

abbrev ints : List VarTy
ints = Int i.Int ∷ Int i.Int ∷ []

abbrev copies : StmtTree
copies = assign (variable 0) (read (variable 1))

abbrev part : ProgramTree
part = program ints copies

abbrev store : Entries
store = (i.Int, pos 42) ∷ []

abbrev x : Machine
x = machine 1 5 copies (memory (number ∷ handle ∷ []) number [])

abbrev v : View
v = slave_view part store (memory [] number [])

in_range : AreInRange store
in_range zero d lt = (omega arith, omega arith)
in_range (suc k) d lt = absurd (omega (arith, lt))

sound : IsTrue (is_sound false part)
unfolding leaves_of
sound = refl

whole_is_part : IsPart part part
whole_is_part = record { structs = refl; functions = λ f known. refl; signatures = λ f known. record { result = refl; privileged = refl; host = refl }; globals = λ g has. refl }

fits : Fits (by_store store) false part x
unfolding leaves_of
fits = record {
  memory = record {
    locals = λ depth k. at depth k (nat_eq depth 1);
    globals = λ g ty is. typed g ty (nat_eq g 0) is;
    global_cells = λ g. cells (nat_eq g 0);
    received_cells = λ n. tt {0};
    beyond = λ g none. gone (nat_eq g 0) none;
  };
  active = (record { known = refl; deep = omega arith; shallow = omega arith; work = refl }, tt {0}, tt {0});
  awaited = tt {0};
}
  where
    at : (depth k : ℕ) (t : Bool) → LocalFits (by_store store) [] x.blocks depth (slice_get (if t then ints else []) k) (if t then get_or (number ∷ handle ∷ []) k no_block else no_block)
    at depth zero true = record { types_are = refl; cells = (refl, tt {0}) }
    at depth (suc zero) true = record { types_are = refl; cells = (refl, tt {0}) }
    at depth (suc (suc k)) true = refl
    at depth k false = refl

    typed : (g : ℕ) (ty : VarTy) (t : Bool) → (if t then Some (Int i.Int) else None) ≡ Some ty → (if t then number else no_block).types ≡ leaves_of [] ty
    typed g ty true e = subst (λ u. i.Int ∷ [] ≡ leaves_of [] u) (same e) refl
      where
        same : Some (Int i.Int) ≡ Some ty → Int i.Int ≡ ty
        same e = cc
    typed g ty false e = cc

    cells : (t : Bool) → IntegersFit (by_store store) (if t then number else no_block).types (if t then number else no_block).cells
    cells true = (refl, tt {0})
    cells false = tt {0}

    gone : (t : Bool) → (if t then Some (Int i.Int) else None) ≡ None → (if t then number else no_block) ≡ no_block
    gone true e = cc
    gone false e = refl

shown : IsViewed v 0 false part part × Stands v 0 false 0 5 part x
shown = slaves_stand part part store (memory [] number []) 0 5 x whole_is_part sound in_range fits (omega arith, refl, tt {0}) (omega arith)

agree : GatesAgree v part false (goes away) (goes enters) (ShowAlike (λ (h : ℕ). h) (λ (g : ℕ). g))
agree = record { entered = λ h g f args same signed e. cc; made = λ h g f args same signed e plain. cc; gone = λ h g f args same signed e host. refl }

calls_fit : CallsFit part (goes away) 7
calls_fit = record { entered = λ f args signed e. cc; made = λ f args signed e. cc; answered = λ privileged f args signed e. cc }

steps_alike : StepSeen (ShowAlike (λ (h : ℕ). h) (λ (g : ℕ). g)) v nobody 0 5 7 (step part (goes enters) (seen_machine v nobody 0 5 x) 7) (step part (goes away) x 7)
steps_alike = parts_step (λ h. h) (λ g. g) (λ f k. false) part part (goes enters) (goes away) v 0 false nobody 0 5 x 7 7 shown.0 agree calls_fit shown.1 refl refl

part_has_a_handle : (step part (goes away) x 7).machine.blocks (Local 1 0) ≡ handle
part_has_a_handle = refl

whole_has_its_number : (step part (goes enters) (seen_machine v nobody 0 5 x) 7).machine.blocks (Local 1 0) ≡ one i.Int (cell.Int (pos 42))
whole_has_its_number = refl

-- ---- without a premise

-- what a step leaves in the first variable: the whole's, and what is seen of the part's
abbrev whole_leaves : View → Machine → ProgramTree → Block
whole_leaves w y p = (step p (goes enters) (seen_machine w nobody 0 5 y) 7).machine.blocks (Local 1 0)

abbrev part_leaves : View → Machine → ProgramTree → Block
part_leaves w y p = seen w (step p (goes away) y 7).machine.blocks (Local 1 0)

-- without "computes with no handle": a handle counts as 0
abbrev negates : StmtTree
negates = assign (variable 0) (unary Minus i.Int (read (variable 1)) anywhere)

abbrev negating : Machine
negating = machine 1 5 negates (memory (number ∷ handle ∷ []) number [])

computed : computes_next (λ f k. false) (program ints negates) (goes away) negating 7 ≡ true
computed = refl

whole_negates : whole_leaves v negating (program ints negates) ≡ one i.Int (cell.Int (negsuc 41))
unfolding unary_of conv
whole_negates = refl

part_negates_nothing : part_leaves v negating (program ints negates) ≡ number
unfolding unary_of conv
part_negates_nothing = refl

-- without ranges: a handle passes a conversion to its own type, and a number that isn't of that type doesn't
abbrev chars : List VarTy
chars = Int i.UChar ∷ Int i.UChar ∷ []

abbrev converts : StmtTree
converts = assign (variable 0) (convert i.UChar (read (variable 1)))

abbrev converting : Machine
converting = machine 1 5 converts (memory (one i.UChar (cell.Int (pos 0)) ∷ one i.UChar (cell.Sealed 0) ∷ []) number [])

abbrev too_large : View
too_large = slave_view (program chars converts) ((i.UChar, pos 300) ∷ []) (memory [] number [])

whole_converts : whole_leaves too_large converting (program chars converts) ≡ one i.UChar (cell.Int (pos 44))
unfolding conv
whole_converts = refl

part_converts_nothing : part_leaves too_large converting (program chars converts) ≡ one i.UChar (cell.Int (pos 300))
part_converts_nothing = refl

-- without its place under one name: two blocks that lie in one are told apart here, and not there
abbrev compares : StmtTree
compares = assign (variable 0) (compare Eq (read (variable 1)) (read (variable 2)) anywhere)

abbrev pointers : List VarTy
pointers = Int i.Int ∷ Pointer (e.Int i.Int) false ∷ Pointer (e.Int i.Int) false ∷ []

abbrev to : ℕ → Block
to k = held (cell.Ptr (At (Received k) 0 1 0))

abbrev comparing : Machine
comparing = machine 1 5 compares (memory (number ∷ to 0 ∷ to 1 ∷ []) number (number ∷ number ∷ []))

abbrev in_one : BlockName → BlockName
in_one (Local depth k) = Local depth k
in_one (Global g) = Global g
in_one (Received n) = Received 0

abbrev one_place : View
one_place = record { at = in_one; of = λ name. Some name; store = []; beside = memory [] number [] }

whole_finds_equal : whole_leaves one_place comparing (program pointers compares) ≡ one i.Int (cell.Int (pos 1))
whole_finds_equal = refl

part_finds_other : part_leaves one_place comparing (program pointers compares) ≡ number
part_finds_other = refl

-- without the way back: two names of the whole are one block's, and the whole writes to one of them
abbrev writes : StmtTree
writes = assign (place (global 0) []) (constant i.Int (pos 5))

abbrev writing : Machine
writing = machine 1 5 writes (memory [] number [])

abbrev of_both : BlockName → Option BlockName
of_both (Local depth k) = Some (Local depth k)
of_both (Global g) = Some (Global 0)
of_both (Received n) = Some (Received n)

abbrev two_names : View
two_names = record { at = λ name. name; of = of_both; store = []; beside = memory [] number [] }

whole_writes_one : (step (program [] writes) (goes enters) (seen_machine two_names nobody 0 5 writing) 7).machine.blocks (Global 1) ≡ number
whole_writes_one = refl

part_writes_both : seen two_names (step (program [] writes) (goes away) writing 7).machine.blocks (Global 1) ≡ one i.Int (cell.Int (pos 5))
part_writes_both = refl

-- without its budget: the part is spent, and the whole goes on
abbrev loops : StmtTree
loops = repeat no_stmts anywhere

abbrev looping : Machine
looping = machine 1 0 loops (memory [] number [])

whole_goes_on : (step (program [] loops) (goes enters) (seen_machine two_names nobody 0 1 looping) 7).answer ≡ moved
whole_goes_on = refl

part_is_spent : (step (program [] loops) (goes away) looping 7).answer ≡ spent
part_is_spent = refl

-- without what is said of calls that go away: the part's is too deep, and the whole's is made as a host's
abbrev asks : StmtTree
asks = call 1 no_exprs None anywhere

abbrev asking : Machine
asking = machine deepest 5 asks (memory [] number [])

whole_makes_it : (step (program [] asks) (goes here) (seen_machine two_names nobody 0 5 asking) 7).answer ≡ moved
whole_makes_it = refl

part_is_too_deep : (step (program [] asks) (goes away) asking 7).answer ≡ trapped Depth anywhere
part_is_too_deep = refl

-- ---- calls without a signature

-- The gate of a whole run answers 0 also for numbers that no host has, so it fits where only what has a signature is asked for.
gates_fit_no_more : (g : Outside) → g.hosts 9 ≡ Table [] (pos 0) → GateFits part (whole_gate part) g → ⊥
gates_fit_no_more g is fit = lost (g.hosts 9) is (fit.answered false 9 [] refl)
  where
    lost : (model : HostModel) → model ≡ Table [] (pos 0) → NumberFits None (host_step g.input model []).result → ⊥
    lost model e f = subst (λ (m : HostModel). NumberFits None (host_step g.input m []).result) e f
