-- A step keeps the invariant.
use Rattle.std.proofs.Common.{◌≡◌, ◌∙◌, ◌+◌, ◌<◌, ℕ, ℤ, pos, refl, sym, subst, arith, Bool, true, false, List, [], ◌∷◌, Option, Some, None, Result, Ok, Err, map, if◌then◌else◌, nat_lt, nat_le, ◌||◌}
use Rattle.pt_base.specs.declared.int_type.IntType.{IntType}
use Rattle.pt_base.specs.declared.span.Span.{Span}
use Rattle.pt_base.specs.declared.trap.Trap.TheVariants.{Depth}
use Rattle.runs.specs.Run.{deepest}
use Rattle.block_memory.specs.declared.cell.Cell.{Cell}
use Rattle.block_memory.specs.declared.cell.Cell.TheVariants as cell
use Rattle.block_memory.specs.declared.cell.Pointer.TheVariants.{Null, At}
use Rattle.block_memory.specs.declared.cell.BlockName.TheVariants.{Local}
use Rattle.block_memory.specs.Block.{fresh}
use Rattle.block_memory.specs.Blocks.{Blocks, without_frames}
use Rattle.pt_core.specs.CodeTree.{ExprTree, StmtTree, clear, check, assign, copy, call, choose, repeat, break_out, continue_on, give_back, StmtTrees, no_stmts, stmt_and, ProgramTree}
use Rattle.pt_core.specs.Types.{type_at, shape_of}
use Rattle.pt_core.specs.Values.{Stop, ◌>>?◌, holds_in, number_in, value_of, values_of, location_of}
use Rattle.pt_core.specs.Statements.{cleared, kept, assigned, copied, returned_value}
use Rattle.pt_core.specs.Calls.{signature_in, function_in, context_in, entered, number_cell}
use Rattle.pt_core.specs.Steps.{Work, run, head, Active, Awaited, Machine, Gate, Way, enters, here, away, moved, asked, trapped, spent, Step, answers, settled, past_loop, at_head, working, with_blocks, with_turn, turned, on_value, returned, at_end, just_entered, begins, enters_at, made, made_here, awaiting, goes_away, by_way, act, works, stepped}
use Rattle.handle_classes.specs.Classes.{Class, World, scope_in, integer_class, class_of}
use Rattle.handle_classes.specs.Judgment.{Flows, TakesResult, IsFineResult, IsFineStatement, AreFineStatements, IsFineProgram}
use Rattle.handle_classes.specs.Invariant.{Fits, AllFit, MemoryFits, IsFineWork, ResultFits, AreBelow, ActiveFit, AwaitedFits, Fine}
use Rattle.handle_classes.specs.Computes.{is_sealed}
use Rattle.handle_classes.specs.Laws.{FitsIf, ValueFits, EntersFit, MayGive, IsNoHandle, StaysFine, StepsKeepFine}
use Rattle.handle_classes.proofs.Values.{Here, values}
use Rattle.handle_classes.proofs.Memory.{all_flow, all_among, working_class, working_fits, local_written, fresh_put, fresh_block, AreDescending, entered_fits, left_fits}
use Rattle.handle_classes.proofs.Arguments.{AllFitIf, ArgumentsFit, arguments}
use Rattle.handle_classes.proofs.NextStep.{sealed_flows, not_sealed, settled_fine}
use Rattle.handle_classes.proofs.Stores.{MemoryFitsIf, assigned_fits, copied_fits}

-- ---- what is active

pub descends : (program : ProgramTree) (w : World) (active : List Active) → ActiveFit program w active → AreDescending active
descends program w [] fit = tt {0}
descends program w (a ∷ rest) fit = (fit.2, descends program w rest fit.3)

pub none_awaited : (program : ProgramTree) (w : World) (active : List Active) (awaits : Option Awaited) → awaits ≡ None →
    AwaitedFits program w active awaits
none_awaited program w active awaits none = subst (AwaitedFits program w active) (sym none) (no_call active)
  where
    no_call : (active : List Active) → AwaitedFits program w active None
    no_call [] = tt {0}
    no_call (a ∷ rest) = tt {0}

working_result : (program : ProgramTree) (w : World) (a : Active) (rest : List Active) (work : List Work) → ResultFits program w a rest →
    ResultFits program w (record a { work = work }) rest
working_result program w a [] work fit = fit
working_result program w a (caller ∷ rest) work fit = fit

working_active : (program : ProgramTree) (w : World) (a : Active) (rest : List Active) (work : List Work) → IsFineWork program w a.function work →
    ActiveFit program w (a ∷ rest) → ActiveFit program w (record a { work = work } ∷ rest)
working_active program w a rest work fine fit = (fine, working_result program w a rest work fit.1, fit.2, fit.3)

past_loop_fine : (program : ProgramTree) (w : World) (f : ℕ) (work : List Work) → IsFineWork program w f work →
    IsFineWork program w f (past_loop work)
past_loop_fine program w f [] fine = fine
past_loop_fine program w f (run stmts ∷ work) fine = past_loop_fine program w f work fine.1
past_loop_fine program w f (head body ∷ work) fine = fine.1

at_head_fine : (program : ProgramTree) (w : World) (f : ℕ) (work : List Work) → IsFineWork program w f work → IsFineWork program w f (at_head work)
at_head_fine program w f [] fine = fine
at_head_fine program w f (run stmts ∷ work) fine = at_head_fine program w f work fine.1
at_head_fine program w f (head body ∷ work) fine = fine

chosen_fine : (program : ProgramTree) (w : World) (f : ℕ) (b : Bool) (first second : StmtTrees) → AreFineStatements w (scope_in program w f) f first →
    AreFineStatements w (scope_in program w f) f second →
    AreFineStatements w (scope_in program w f) f (if b then first else second)
chosen_fine program w f true first second left right = left
chosen_fine program w f false first second left right = right

-- ---- results

taken : (w : World) (active : List Active) (sealed : Bool) (k : Class) (v : Cell) → Flows (integer_class sealed) k →
    (is_sealed v ≡ true → sealed ≡ true) → Fits w active k v
taken w active sealed k (cell.Int n) flows may = tt {0}
taken w active sealed k (cell.Ptr Null) flows may = tt {0}
taken w active sealed k (cell.Ptr (At block base count index)) flows may = λ p. let no : false ≡ true = flows.kind ∙ p in cc
taken w active sealed k (cell.Sealed h) flows may = (sym flows.kind, flows.first (sym flows.kind) (may refl))

-- what a call gave is kept
pub kept_fits : (program : ProgramTree) (w : World) (a : Active) (rest : List Active) (blocks : Blocks) (f : ℕ) (result : Option ℕ) (v : Option Cell)
    → AreBelow a.depth rest → TakesResult w (scope_in program w a.function) f result → MayGive w f v →
    MemoryFits w (a ∷ rest) blocks → MemoryFits w (a ∷ rest) (kept a.depth result v blocks)
kept_fits program w a rest blocks f None v below takes may mem = mem
kept_fits program w a rest blocks f (Some x) None below takes may mem = local_written w a rest blocks x (cell.Int (pos 0)) below (tt {0}) mem
kept_fits program w a rest blocks f (Some x) (Some v) below takes may mem = local_written w a rest blocks x v below
    (taken w (a ∷ rest) (w.result f) (w.variable a.function x) v takes may) mem

number_given : (w : World) (f : ℕ) (result : Option ℤ) → MayGive w f (number_cell result)
number_given w f None = tt {0}
number_given w f (Some n) = λ h. cc

no_handle_given : (w : World) (f : ℕ) (v : Option Cell) → w.result f ≡ false → MayGive w f v → IsNoHandle v
no_handle_given w f None plain may = tt {0}
no_handle_given w f (Some v) plain may = not_sealed (is_sealed v) (w.result f) plain may

-- ---- steps

-- what is known before a step of the innermost function
record Before (program : ProgramTree) (w : World) (m : Machine) (a : Active) (rest : List Active) : Type 0 where
  whole : Fine program w m
  code : IsFineProgram program w
  memory : MemoryFits w (a ∷ rest) m.blocks
  active : ActiveFit program w (a ∷ rest)
  none : m.awaits ≡ None

-- with other work, and other blocks that fit
goes_on : {G : Type 0} (program : ProgramTree) (w : World) (m : Machine) (g : G) (a : Active) (rest : List Active) (work : List Work)
    (blocks : Blocks) → ActiveFit program w (a ∷ rest) → m.awaits ≡ None → IsFineWork program w a.function work → MemoryFits w (a ∷ rest) blocks →
    StaysFine program w (answers moved (with_blocks blocks (working m a rest work)) g)
goes_on program w m g a rest work blocks active none fine mem = record {
  fine = record {
    memory = working_fits w a rest work blocks mem;
    active = working_active program w a rest work fine active;
    awaited = none_awaited program w (record a { work = work } ∷ rest) m.awaits none;
  };
  answer = none;
}

turn_keeps : {G : Type 0} (program : ProgramTree) (w : World) (m : Machine) (g : G) (next : Machine → Step G) → Fine program w m → m.awaits ≡ None →
    StaysFine program w (next (with_turn m)) → StaysFine program w (turned m g next)
turn_keeps {G} program w m g next fine none k = go (nat_lt m.turns m.budget)
  where
    go : (b : Bool) → StaysFine program w (if b then next (with_turn m) else answers spent m g)
    go true = k
    go false = record { fine = fine; answer = none }

value_keeps : {G A : Type 0} (program : ProgramTree) (w : World) (m : Machine) (g : G) (r : Result A Stop) (next : A → Step G) → Fine program w m →
    m.awaits ≡ None → ((x : A) → r ≡ Ok x → StaysFine program w (next x)) → StaysFine program w (on_value r m g next)
value_keeps program w m g (Ok x) next fine none k = k x refl
value_keeps program w m g (Err stop) next fine none k = record { fine = fine; answer = none }

return_keeps : {G : Type 0} (program : ProgramTree) (w : World) (m : Machine) (g : G) (a : Active) (rest : List Active) (v : Option Cell) →
    Before program w m a rest → MayGive w a.function v → StaysFine program w (returned m g a rest v)
return_keeps program w m g a [] v b may = record {
  fine = record { memory = left_fits w a [] m.blocks b.active.2 b.memory; active = tt {0}; awaited = none_awaited program w [] m.awaits b.none };
  answer = (no_handle_given w a.function v b.active.1 may, b.none);
}
return_keeps program w m g a (caller ∷ rest) v b may = record {
  fine = record {
    memory = kept_fits program w caller rest (without_frames m.blocks a.depth) a.function a.result v b.active.3.2 b.active.1 may
        (left_fits w a (caller ∷ rest) m.blocks b.active.2 b.memory);
    active = b.active.3;
    awaited = none_awaited program w (caller ∷ rest) m.awaits b.none;
  };
  answer = b.none;
}

end_keeps : {G : Type 0} (program : ProgramTree) (w : World) (m : Machine) (g : G) (a : Active) (rest : List Active) (result : Option IntType)
    (s : Span) → Before program w m a rest → StaysFine program w (at_end result s m g a rest)
end_keeps program w m g a rest None s b = return_keeps program w m g a rest None b (tt {0})
end_keeps program w m g a rest (Some t) s b = record { fine = b.whole; answer = b.none }

round_keeps : {G : Type 0} (program : ProgramTree) (w : World) (m : Machine) (g : G) (a : Active) (rest : List Active) (body : StmtTrees)
    (work : List Work) → Before program w m a rest → AreFineStatements w (scope_in program w a.function) a.function body →
    IsFineWork program w a.function work →
    StaysFine program w (begins m g a rest body work)
round_keeps program w m g a rest body work b fine more =
    turn_keeps program w m g (λ m1. answers moved (working m1 a rest (run body ∷ head body ∷ work)) g) b.whole b.none
    (goes_on program w (with_turn m) g a rest (run body ∷ head body ∷ work) m.blocks b.active b.none (fine, (fine, more)) b.memory)

-- ---- calls

-- a call of the innermost function, behind which this work is left
record Calling (program : ProgramTree) (w : World) (m : Machine) (a : Active) (rest : List Active) (f : ℕ) (vs : List Cell) (result : Option ℕ)
    (work : List Work) : Type 0 where
  before : Before program w m a rest
  more : IsFineWork program w a.function work
  fit : AllFit w (a ∷ rest) (w.param f) vs
  takes : TakesResult w (scope_in program w a.function) f result

calling_fine : (program : ProgramTree) (w : World) (m : Machine) (a : Active) (rest : List Active) (f : ℕ) (vs : List Cell) (result : Option ℕ)
    (work : List Work) → Calling program w m a rest f vs result work → Fine program w (working m a rest work)
calling_fine program w m a rest f vs result work c =
    (goes_on program w m (tt {0}) a rest work m.blocks c.before.active c.before.none c.more c.before.memory).fine

calling_fit : (program : ProgramTree) (w : World) (m : Machine) (a : Active) (rest : List Active) (f : ℕ) (vs : List Cell) (result : Option ℕ)
    (work : List Work) → Calling program w m a rest f vs result work → AllFit w (record a { work = work } ∷ rest) (w.param f) vs
calling_fit program w m a rest f vs result work c = all_among w (a ∷ rest) (record a { work = work } ∷ rest) (w.param f) vs
    (λ block h. working_class w a rest work block) c.fit

below_next : (depth : ℕ) (active : List Active) → AreBelow depth active → AreBelow (depth + 1) active
below_next depth [] below = tt {0}
below_next depth (a ∷ rest) below = (later a.depth depth below.0, below_next depth rest below.1)
  where
    later : (x depth : ℕ) → x < depth → x < depth + 1
    later x depth less = omega arith

-- what is active after an entry, and what its blocks are
abbrev entry : ProgramTree → Bool → ℕ → List Cell → Option ℕ → ℕ → Machine → Machine
entry program privileged f vs result depth m = record m {
  active = just_entered program privileged f depth result ∷ m.active;
  blocks = entered program f depth vs m.blocks;
}

entry_keeps : {G : Type 0} (program : ProgramTree) (w : World) (m : Machine) (g : G) (a : Active) (rest : List Active) (f : ℕ) (vs : List Cell)
    (result : Option ℕ) (work : List Work) (privileged : Bool) → Calling program w m a rest f vs result work →
    ((n : ℕ) → Flows (w.param f n) (w.variable f n)) →
    StaysFine program w (answers moved (entry program privileged f vs result (a.depth + 1) (with_turn (working m a rest work))) g)
entry_keeps program w m g a rest f vs result work privileged c params =
    let inner : Active = just_entered program privileged f (a.depth + 1) result in
    let outer : List Active = record a { work = work } ∷ rest in
    let below : AreBelow (a.depth + 1) outer = (next a.depth, below_next a.depth rest c.before.active.2) in
    record {
      fine = record {
        memory = entered_fits program w inner outer m.blocks vs below (all_flow w outer (w.param f) (w.variable f) vs params
            (calling_fit program w m a rest f vs result work c)) (working_fits w a rest work m.blocks c.before.memory);
        active = ((c.before.code.code f, tt {0}), c.takes, below, working_active program w a rest work c.more c.before.active);
        awaited = none_awaited program w (inner ∷ outer) m.awaits c.before.none;
      };
      answer = c.before.none;
    }
  where
    next : (n : ℕ) → n < n + 1
    next n = omega arith

enters_keeps : {G : Type 0} (program : ProgramTree) (w : World) (gate : Gate G) (m : Machine) (g : G) (a : Active) (rest : List Active) (s : Span)
    (f : ℕ) (vs : List Cell) (result : Option ℕ) (work : List Work) → Calling program w m a rest f vs result work →
    ((n : ℕ) → Flows (w.param f n) (w.variable f n)) → StaysFine program w
    (enters_at program gate (working m a rest work) g s f vs result (a.depth + 1))
enters_keeps {G} program w gate m g a rest s f vs result work c params = go (nat_le (a.depth + 1) deepest)
  where
    go : (b : Bool) → StaysFine program w (if b then
        turned (working m a rest work) g (λ m1. answers moved (entry program (a.privileged || (signature_in program f).privileged) f vs result
        (a.depth + 1) m1) (gate.noted a.privileged f vs g))
        else answers (trapped Depth s) (working m a rest work) g)
    go true = turn_keeps program w (working m a rest work) g (λ m1. answers moved
        (entry program (a.privileged || (signature_in program f).privileged) f vs result (a.depth + 1) m1) (gate.noted a.privileged f vs g))
        (calling_fine program w m a rest f vs result work c) c.before.none
        (entry_keeps program w m (gate.noted a.privileged f vs g) a rest f vs result work (a.privileged || (signature_in program f).privileged)
        c params)
    go false = record { fine = calling_fine program w m a rest f vs result work c; answer = c.before.none }

made_keeps : {G : Type 0} (program : ProgramTree) (w : World) (m : Machine) (a : Active) (rest : List Active) (f : ℕ) (vs : List Cell)
    (result : Option ℕ) (work : List Work) (reply : Option ℤ × G) → Calling program w m a rest f vs result work →
    StaysFine program w (made (with_turn (working m a rest work)) a.depth result reply)
made_keeps program w m a rest f vs result work reply c =
    goes_on program w (with_turn m) reply.1 a rest work (kept a.depth result (number_cell reply.0) m.blocks) c.before.active c.before.none c.more
    (kept_fits program w a rest m.blocks f result (number_cell reply.0) c.before.active.2 c.takes (number_given w f reply.0) c.before.memory)

here_keeps : {G : Type 0} (program : ProgramTree) (w : World) (gate : Gate G) (m : Machine) (g : G) (a : Active) (rest : List Active) (f : ℕ)
    (vs : List Cell) (result : Option ℕ) (work : List Work) → Calling program w m a rest f vs result work →
    StaysFine program w (made_here program gate (working m a rest work) g f vs result a.depth)
here_keeps program w gate m g a rest f vs result work c =
    turn_keeps program w (working m a rest work) g (λ m1. made m1 a.depth result (gate.answer f (map number_in vs) (gate.noted a.privileged f vs g)))
    (calling_fine program w m a rest f vs result work c) c.before.none
    (made_keeps program w m a rest f vs result work (gate.answer f (map number_in vs) (gate.noted a.privileged f vs g)) c)

asked_keeps : {G : Type 0} (program : ProgramTree) (w : World) (m : Machine) (g : G) (a : Active) (rest : List Active) (f depth : ℕ) (vs : List Cell)
    (result : Option ℕ) (work : List Work) → Calling program w m a rest f vs result work →
    StaysFine program w (answers (asked f vs depth) (awaiting f result (working m a rest work)) g)
asked_keeps program w m g a rest f depth vs result work c = record {
  fine = record {
    memory = working_fits w a rest work m.blocks c.before.memory;
    active = working_active program w a rest work c.more c.before.active;
    awaited = c.takes;
  };
  answer = (calling_fit program w m a rest f vs result work c, (result, refl));
}

away_keeps : {G : Type 0} (program : ProgramTree) (w : World) (m : Machine) (g : G) (a : Active) (rest : List Active) (s : Span) (f : ℕ)
    (vs : List Cell) (result : Option ℕ) (work : List Work) → Calling program w m a rest f vs result work →
    StaysFine program w (goes_away program (working m a rest work) g s f vs result (a.depth + 1))
away_keeps program w m g a rest s f vs result work c = go (signature_in program f).host (nat_le (a.depth + 1) deepest)
  where
    go : (host fits : Bool) → StaysFine program w (if host then answers (asked f vs 0) (awaiting f result (working m a rest work)) g
        else (if fits then answers (asked f vs (a.depth + 1)) (awaiting f result (working m a rest work)) g
        else answers (trapped Depth s) (working m a rest work) g))
    go true fits = asked_keeps program w m g a rest f 0 vs result work c
    go false true = asked_keeps program w m g a rest f (a.depth + 1) vs result work c
    go false false = record { fine = calling_fine program w m a rest f vs result work c; answer = c.before.none }

way_keeps : {G : Type 0} (program : ProgramTree) (w : World) (gate : Gate G) (m : Machine) (g : G) (a : Active) (rest : List Active) (s : Span)
    (f : ℕ) (vs : List Cell) (result : Option ℕ) (work : List Work) → EntersFit w gate → Calling program w m a rest f vs result work →
    (way : Way) → gate.way g f vs ≡ way → StaysFine program w (by_way program gate (working m a rest work) g s f vs result a.depth way)
way_keeps program w gate m g a rest s f vs result work ok c enters same = enters_keeps program w gate m g a rest s f vs result work c (ok g f vs same)
way_keeps program w gate m g a rest s f vs result work ok c here same = here_keeps program w gate m g a rest f vs result work c
way_keeps program w gate m g a rest s f vs result work ok c away same = away_keeps program w m g a rest s f vs result work c

-- ---- statements

abbrev MayGiveIf : World → ℕ → Result (Option Cell) Stop → Type 0
MayGiveIf w f (Ok v) = MayGive w f v
MayGiveIf w f (Err stop) = Unit {0}

value_returned : (w : World) (active : List Active) (c : Class) (f : ℕ) (r : Result Cell Stop) → Flows c (integer_class (w.result f)) →
    FitsIf w active c r → MayGiveIf w f (r >>? λ v. Ok (Some v))
value_returned w active c f (Ok v) flows fit = sealed_flows w active c (integer_class (w.result f)) v flows fit
value_returned w active c f (Err stop) flows fit = tt {0}

result_returned : (program : ProgramTree) (w : World) (a : Active) (rest : List Active) (blocks : Blocks) → Here program w a rest blocks →
    (e : Option ExprTree) → IsFineResult w (scope_in program w a.function) a.function e →
    MayGiveIf w a.function (returned_value (context_in program a.function) a.depth e blocks)
result_returned program w a rest blocks at None fine = tt {0}
result_returned program w a rest blocks at (Some e) fine =
    let of : ValueFits program w a rest blocks e = values program w a rest blocks at e fine.0 in
    value_returned w (a ∷ rest) (class_of (scope_in program w a.function) e) a.function (value_of (context_in program a.function) a.depth e blocks)
    fine.1 of.fits

act_keeps : {G : Type 0} (program : ProgramTree) (w : World) (gate : Gate G) (m : Machine) (g : G) (a : Active) (rest : List Active)
    (work : List Work) → EntersFit w gate → Before program w m a rest → IsFineWork program w a.function work →
    (s : StmtTree) → IsFineStatement w (scope_in program w a.function) a.function s → StaysFine program w (act program gate m g a rest work s)
act_keeps program w gate m g a rest work ok b more (clear v) fine =
    goes_on program w m g a rest work (cleared (context_in program a.function) a.depth v m.blocks) b.active b.none more
    (fresh_put w (a ∷ rest) m.blocks (Local a.depth v) (fresh (shape_of program.structs (type_at (context_in program a.function).variables v)))
    (fresh_block (shape_of program.structs (type_at (context_in program a.function).variables v))) b.memory)
act_keeps program w gate m g a rest work ok b more (check p) fine =
    value_keeps program w m g (location_of (context_in program a.function) a.depth p m.blocks) (λ at. answers moved (working m a rest work) g)
    b.whole b.none (λ at e. goes_on program w m g a rest work m.blocks b.active b.none more b.memory)
act_keeps program w gate m g a rest work ok b more (assign p e) fine =
    value_keeps program w m g (assigned (context_in program a.function) a.depth p e m.blocks)
    (λ blocks. answers moved (with_blocks blocks (working m a rest work)) g) b.whole b.none
    (λ blocks same. goes_on program w m g a rest work blocks b.active b.none more
    (subst (MemoryFitsIf w (a ∷ rest)) same (assigned_fits program w a rest m.blocks (b.code, b.memory) (descends program w (a ∷ rest) b.active)
    p e fine.0 fine.1 fine.2)))
act_keeps program w gate m g a rest work ok b more (copy to from) fine =
    value_keeps program w m g (copied (context_in program a.function) a.depth to from m.blocks)
    (λ blocks. answers moved (with_blocks blocks (working m a rest work)) g) b.whole b.none
    (λ blocks same. goes_on program w m g a rest work blocks b.active b.none more
    (subst (MemoryFitsIf w (a ∷ rest)) same (copied_fits program w a rest m.blocks (b.code, b.memory) (descends program w (a ∷ rest) b.active)
    to from fine.0 fine.1 fine.2)))
act_keeps program w gate m g a rest work ok b more (call f args result s) fine =
    let known : ArgumentsFit program w a rest m.blocks (w.param f) args = arguments program w a rest m.blocks (b.code, b.memory) args (w.param f)
    fine.0 in
    value_keeps program w m g (values_of (context_in program a.function) a.depth args m.blocks)
    (λ vs. by_way program gate (working m a rest work) g s f vs result a.depth (gate.way g f vs)) b.whole b.none
    (λ vs same. way_keeps program w gate m g a rest s f vs result work ok
    (record { before = b; more = more; fit = subst (AllFitIf w (a ∷ rest) (w.param f)) same known.fit; takes = fine.1 }) (gate.way g f vs) refl)
act_keeps program w gate m g a rest work ok b more (choose e first second) fine =
    value_keeps program w m g (value_of (context_in program a.function) a.depth e m.blocks)
    (λ v. answers moved (working m a rest (run (if holds_in v then first else second) ∷ work)) g) b.whole b.none
    (λ v same. goes_on program w m g a rest (run (if holds_in v then first else second) ∷ work) m.blocks b.active b.none
    (chosen_fine program w a.function (holds_in v) first second fine.2 fine.3, more) b.memory)
act_keeps program w gate m g a rest work ok b more (repeat body s) fine = round_keeps program w m g a rest body work b fine more
act_keeps program w gate m g a rest work ok b more break_out fine = goes_on program w m g a rest (past_loop work) m.blocks b.active b.none
    (past_loop_fine program w a.function work more) b.memory
act_keeps program w gate m g a rest work ok b more continue_on fine = goes_on program w m g a rest (at_head work) m.blocks b.active b.none
    (at_head_fine program w a.function work more) b.memory
act_keeps program w gate m g a rest work ok b more (give_back e) fine =
    value_keeps program w m g (returned_value (context_in program a.function) a.depth e m.blocks) (λ v. returned m g a rest v) b.whole b.none
    (λ v same. return_keeps program w m g a rest v b (subst (MayGiveIf w a.function) same
    (result_returned program w a rest m.blocks (b.code, b.memory) e fine)))

work_keeps : {G : Type 0} (program : ProgramTree) (w : World) (gate : Gate G) (m : Machine) (g : G) (a : Active) (rest : List Active) →
    EntersFit w gate → Before program w m a rest → (work : List Work) → IsFineWork program w a.function work →
    StaysFine program w (works program gate m g a rest work)
work_keeps program w gate m g a rest ok b [] fine = end_keeps program w m g a rest (signature_in program a.function).result
    (function_in program a.function).end b
work_keeps program w gate m g a rest ok b (run no_stmts ∷ work) fine = goes_on program w m g a rest work m.blocks b.active b.none fine.1 b.memory
work_keeps program w gate m g a rest ok b (run (stmt_and s more) ∷ work) fine = act_keeps program w gate m g a rest (run more ∷ work) ok b
    (fine.0.1, fine.1) s fine.0.0
work_keeps program w gate m g a rest ok b (head body ∷ work) fine = round_keeps program w m g a rest body work b fine.0 fine.1

active_keeps : {G : Type 0} (program : ProgramTree) (w : World) (gate : Gate G) (m : Machine) (g : G) → IsFineProgram program w → EntersFit w gate →
    Fine program w m → m.awaits ≡ None → (active : List Active) → MemoryFits w active m.blocks → ActiveFit program w active →
    StaysFine program w (stepped program gate m g active)
active_keeps program w gate m g code ok whole none [] mem fit = record { fine = whole; answer = none }
active_keeps program w gate m g code ok whole none (a ∷ rest) mem fit =
    work_keeps program w gate m g a rest ok (record { whole = whole; code = code; memory = mem; active = fit; none = none }) (settled a.work)
    (settled_fine program w a.function a.work fit.0)

pub steps_keep_fine : {G : Type 0} → StepsKeepFine G
steps_keep_fine program w gate m g code ok whole none = active_keeps program w gate m g code ok whole none m.active whole.memory whole.active
