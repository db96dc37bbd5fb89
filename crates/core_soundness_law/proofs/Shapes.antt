-- A step keeps the shapes of received blocks.
use Rattle.std.proofs.Common.{◌≡◌, ◌∙◌, ℕ, ◌+◌, ℤ, refl, ap, subst, Bool, true, false, Option, Some, None, Result, Ok, Err, IfOk, List, [], ◌∷◌, length, map, if◌then◌else◌}
use Rattle.std.specs.Prelude.{◌||◌, nat_lt, nat_le}
use Rattle.std.proofs.lemmas.List.{length-set}
use Rattle.pt_base.specs.declared.int_type.IntType.{IntType}
use Rattle.pt_base.specs.declared.span.Span.{Span}
use Rattle.pt_base.specs.declared.trap.Trap.TheVariants.{Depth}
use Rattle.typed_tree.specs.Sizes.{sizes_of, cells_by}
use Rattle.runs.specs.Run.{deepest}
use Rattle.block_memory.specs.declared.cell.Cell.{Cell}
use Rattle.block_memory.specs.declared.cell.BlockName.{BlockName}
use Rattle.block_memory.specs.declared.cell.BlockName.TheVariants.{Local, Received}
use Rattle.block_memory.specs.Block.{Block, with_cell}
use Rattle.block_memory.specs.Blocks.{Blocks, is_same_name, put, with_frame, without_frames}
use Rattle.block_memory.proofs.BlocksLemmas.{same_name}
use Rattle.pt_core.specs.CodeTree.{ExprTree, PlaceTree, StmtTree, clear, check, assign, copy, call, choose, repeat, break_out, continue_on, give_back, StmtTrees, no_stmts, stmt_and, ProgramTree}
use Rattle.pt_core.specs.Types.{Context, shape_of}
use Rattle.pt_core.specs.Values.{Stop, ◌>>?◌, Location, holds_in, number_in, value_of, values_of, location_of, cells_at, written, all_written}
use Rattle.pt_core.specs.Statements.{assigned, copied, kept, returned_value}
use Rattle.pt_core.specs.Calls.{signature_in, function_in, context_in, entered, number_cell, with_arguments}
use Rattle.pt_core.specs.Steps.{Work, run, head, Active, Machine, Gate, Way, enters, here, away, Step, moved, asked, trapped, spent, answers, settled, working, with_blocks, with_turn, turned, on_value, returned, at_end, is_active, just_entered, begins, enters_at, made, made_here, awaiting, goes_away, by_way, act, works, stepped}
use Rattle.core_soundness_law.specs.StepLaws.{IsSameShape, ReceivedStay}

-- ---- shapes

same_itself : (a : Block) → IsSameShape a a
same_itself a = record { types = refl; count = refl }

pub same_further : (a b c : Block) → IsSameShape a b → IsSameShape b c → IsSameShape a c
same_further a b c h k = record { types = h.types ∙ k.types; count = h.count ∙ k.count }

written_shape : (blocks : Blocks) (name : BlockName) (i : ℕ) (c : Cell) (other : BlockName) → IsSameShape (written blocks name i c other) (blocks other)
written_shape blocks name i c other = go (is_same_name name other) refl
  where
    go : (t : Bool) → is_same_name name other ≡ t → IsSameShape (if t then with_cell (blocks name) i c else blocks other) (blocks other)
    go false e = same_itself (blocks other)
    go true e = subst (λ n. IsSameShape (with_cell (blocks name) i c) (blocks n)) (same_name name other e) (record { types = refl; count = length-set (blocks name).cells i c })

all_written_shape : (blocks : Blocks) (name : BlockName) (i : ℕ) (cs : List Cell) (other : BlockName) → IsSameShape (all_written blocks name i cs other) (blocks other)
all_written_shape blocks name i [] other = same_itself (blocks other)
all_written_shape blocks name i (c ∷ cs) other =
    same_further (all_written (written blocks name i c) name (i + 1) cs other) (written blocks name i c other) (blocks other) (all_written_shape (written blocks name i c) name (i + 1) cs other) (written_shape blocks name i c other)

-- ---- what doesn't touch received blocks at all

pub arguments_beside : (blocks : Blocks) (depth v : ℕ) (args : List Cell) (n : ℕ) → with_arguments blocks depth v args (Received n) ≡ blocks (Received n)
arguments_beside blocks depth v [] n = refl
arguments_beside blocks depth v (a ∷ args) n = arguments_beside (put blocks (Local depth v) (with_cell (blocks (Local depth v)) 0 a)) depth (v + 1) args n

-- a function that is entered finds the received blocks as they are
pub entered_beside : (program : ProgramTree) (f depth : ℕ) (args : List Cell) (blocks : Blocks) (n : ℕ) → entered program f depth args blocks (Received n) ≡ blocks (Received n)
entered_beside program f depth args blocks n = arguments_beside (with_frame blocks depth (map (λ x. shape_of program.structs x.ty) (function_in program f).vars)) depth 0 args n

-- so does one that gets a result
pub result_beside : (depth : ℕ) (to : Option ℕ) (v : Option Cell) (blocks : Blocks) (n : ℕ) → kept depth to v blocks (Received n) ≡ blocks (Received n)
result_beside depth None v blocks n = refl
result_beside depth (Some x) None blocks n = refl
result_beside depth (Some x) (Some v) blocks n = refl

unchanged : (a b : Block) → a ≡ b → IsSameShape a b
unchanged a b e = record { types = ap (λ (x : Block). x.types) e; count = ap (λ (x : Block). length x.cells) e }

-- ---- statements

-- the received block has this shape
abbrev Keeps : ℕ → Blocks → Blocks → Type 0
Keeps n before after = IsSameShape (after (Received n)) (before (Received n))

abbrev StepKeepsShape : {G : Type 0} → ℕ → Blocks → Step G → Type 0
StepKeepsShape n before s = Keeps n before s.machine.blocks

any_then : {A B : Type 0} (Q : B → Type 0) (r : Result A Stop) (next : A → Result B Stop) → ((x : A) → IfOk (next x) Q) → IfOk (r >>? next) Q
any_then Q (Ok x) next k = k x
any_then Q (Err stop) next k = tt {0}

assigned_keeps : (n : ℕ) (c : Context) (depth : ℕ) (p : PlaceTree) (e : ExprTree) (blocks : Blocks) → IfOk (assigned c depth p e blocks) (Keeps n blocks)
assigned_keeps n c depth p e blocks = any_then (Keeps n blocks) (location_of c depth p blocks) _ (λ (at : Location). any_then (Keeps n blocks) (value_of c depth e blocks) _ (λ v. written_shape blocks at.block at.cell v (Received n)))

copied_keeps : (n : ℕ) (c : Context) (depth : ℕ) (p q : PlaceTree) (blocks : Blocks) → IfOk (copied c depth p q blocks) (Keeps n blocks)
copied_keeps n c depth p q blocks = any_then (Keeps n blocks) (location_of c depth p blocks) _ (λ (at : Location). any_then (Keeps n blocks) (location_of c depth q blocks) _
    (λ (from : Location). all_written_shape blocks at.block at.cell (cells_at blocks from (cells_by (sizes_of c.structs) at.ty)) (Received n)))

-- ---- steps

on_blocks : {G : Type 0} (n : ℕ) (m : Machine) (g : G) (r : Result Blocks Stop) (next : Blocks → Step G) → IfOk r (Keeps n m.blocks) → ((blocks : Blocks) → Keeps n m.blocks blocks → StepKeepsShape n m.blocks (next blocks)) →
    StepKeepsShape n m.blocks (on_value r m g next)
on_blocks {G} n m g (Ok blocks) next h k = k blocks h
on_blocks {G} n m g (Err stop) next h k = same_itself (m.blocks (Received n))

on_any : {A G : Type 0} (n : ℕ) (m : Machine) (g : G) (r : Result A Stop) (next : A → Step G) → ((x : A) → StepKeepsShape n m.blocks (next x)) → StepKeepsShape n m.blocks (on_value r m g next)
on_any {A} {G} n m g (Ok x) next k = k x
on_any {A} {G} n m g (Err stop) next k = same_itself (m.blocks (Received n))

turn_keeps : {G : Type 0} (n : ℕ) (m : Machine) (g : G) (next : Machine → Step G) → StepKeepsShape n m.blocks (next (with_turn m)) → StepKeepsShape n m.blocks (turned m g next)
turn_keeps {G} n m g next k = go (nat_lt m.turns m.budget)
  where
    go : (b : Bool) → StepKeepsShape n m.blocks (if b then next (with_turn m) else answers spent m g)
    go true = k
    go false = same_itself (m.blocks (Received n))

returned_keeps : {G : Type 0} (n : ℕ) (m : Machine) (g : G) (a : Active) (rest : List Active) (v : Option Cell) → StepKeepsShape n m.blocks (returned m g a rest v)
returned_keeps {G} n m g a [] v = same_itself (m.blocks (Received n))
returned_keeps {G} n m g a (caller ∷ rest) v = unchanged (kept caller.depth a.result v (without_frames m.blocks a.depth) (Received n)) (m.blocks (Received n)) (result_beside caller.depth a.result v (without_frames m.blocks a.depth) n)

at_end_keeps : {G : Type 0} (n : ℕ) (r : Option IntType) (s : Span) (m : Machine) (g : G) (a : Active) (rest : List Active) → StepKeepsShape n m.blocks (at_end r s m g a rest)
at_end_keeps {G} n None s m g a rest = returned_keeps n m g a rest None
at_end_keeps {G} n (Some t) s m g a rest = same_itself (m.blocks (Received n))

begins_keeps : {G : Type 0} (n : ℕ) (m : Machine) (g : G) (a : Active) (rest : List Active) (body : StmtTrees) (work : List Work) → StepKeepsShape n m.blocks (begins m g a rest body work)
begins_keeps {G} n m g a rest body work = turn_keeps n m g (λ m1. answers moved (working m1 a rest (run body ∷ head body ∷ work)) g) (same_itself (m.blocks (Received n)))

enters_keeps : {G : Type 0} (n : ℕ) (program : ProgramTree) (gate : Gate G) (m : Machine) (g : G) (s : Span) (f : ℕ) (args : List Cell) (result : Option ℕ) (depth : ℕ) → StepKeepsShape n m.blocks (enters_at program gate m g s f args result depth)
enters_keeps {G} n program gate m g s f args result depth = go (nat_le depth deepest)
  where
    entry : Machine → Step G
    entry m1 = answers moved (record m1 {
      active = just_entered program (is_active m.active || (signature_in program f).privileged) f depth result ∷ m1.active;
      blocks = entered program f depth args m1.blocks;
    }) (gate.noted (is_active m.active) f args g)

    go : (b : Bool) → StepKeepsShape n m.blocks (if b then turned m g entry else answers (trapped Depth s) m g)
    go true = turn_keeps n m g entry (unchanged (entered program f depth args m.blocks (Received n)) (m.blocks (Received n)) (entered_beside program f depth args m.blocks n))
    go false = same_itself (m.blocks (Received n))

made_keeps : {G : Type 0} (n : ℕ) (program : ProgramTree) (gate : Gate G) (m : Machine) (g : G) (f : ℕ) (args : List Cell) (result : Option ℕ) (depth : ℕ) → StepKeepsShape n m.blocks (made_here program gate m g f args result depth)
made_keeps {G} n program gate m g f args result depth =
    let reply : Option ℤ × G = gate.answer f (map number_in args) (gate.noted (is_active m.active) f args g) in
    turn_keeps n m g (λ m1. made m1 depth result (gate.answer f (map number_in args) (gate.noted (is_active m.active) f args g)))
    (unchanged (kept depth result (number_cell reply.0) m.blocks (Received n)) (m.blocks (Received n)) (result_beside depth result (number_cell reply.0) m.blocks n))

away_keeps : {G : Type 0} (n : ℕ) (program : ProgramTree) (m : Machine) (g : G) (s : Span) (f : ℕ) (args : List Cell) (result : Option ℕ) (depth : ℕ) → StepKeepsShape n m.blocks (goes_away program m g s f args result depth)
away_keeps {G} n program m g s f args result depth = go (signature_in program f).host (nat_le depth deepest)
  where
    go : (host low : Bool) → StepKeepsShape n m.blocks (if host then answers (asked f args 0) (awaiting f result m) g
        else (if low then answers (asked f args depth) (awaiting f result m) g else answers (trapped Depth s) m g))
    go true low = same_itself (m.blocks (Received n))
    go false true = same_itself (m.blocks (Received n))
    go false false = same_itself (m.blocks (Received n))

way_keeps : {G : Type 0} (n : ℕ) (program : ProgramTree) (gate : Gate G) (m : Machine) (g : G) (s : Span) (f : ℕ) (args : List Cell) (result : Option ℕ) (depth : ℕ) (way : Way) → StepKeepsShape n m.blocks (by_way program gate m g s f args result depth way)
way_keeps {G} n program gate m g s f args result depth enters = enters_keeps n program gate m g s f args result (depth + 1)
way_keeps {G} n program gate m g s f args result depth here = made_keeps n program gate m g f args result depth
way_keeps {G} n program gate m g s f args result depth away = away_keeps n program m g s f args result (depth + 1)

act_keeps : {G : Type 0} (n : ℕ) (program : ProgramTree) (gate : Gate G) (m : Machine) (g : G) (a : Active) (rest : List Active) (work : List Work) (t : StmtTree) → StepKeepsShape n m.blocks (act program gate m g a rest work t)
act_keeps {G} n program gate m g a rest work (clear v) = same_itself (m.blocks (Received n))
act_keeps {G} n program gate m g a rest work (check p) =
    on_any n m g (location_of (context_in program a.function) a.depth p m.blocks) (λ at. answers moved (working m a rest work) g) (λ at. same_itself (m.blocks (Received n)))
act_keeps {G} n program gate m g a rest work (assign p e) =
    on_blocks n m g (assigned (context_in program a.function) a.depth p e m.blocks) (λ blocks. answers moved (with_blocks blocks (working m a rest work)) g) (assigned_keeps n (context_in program a.function) a.depth p e m.blocks) (λ blocks h. h)
act_keeps {G} n program gate m g a rest work (copy p q) =
    on_blocks n m g (copied (context_in program a.function) a.depth p q m.blocks) (λ blocks. answers moved (with_blocks blocks (working m a rest work)) g) (copied_keeps n (context_in program a.function) a.depth p q m.blocks) (λ blocks h. h)
act_keeps {G} n program gate m g a rest work (call f args result s) =
    on_any n m g (values_of (context_in program a.function) a.depth args m.blocks) (λ vs. by_way program gate (working m a rest work) g s f vs result a.depth (gate.way g f vs))
    (λ vs. way_keeps n program gate (working m a rest work) g s f vs result a.depth (gate.way g f vs))
act_keeps {G} n program gate m g a rest work (choose e xs ys) =
    on_any n m g (value_of (context_in program a.function) a.depth e m.blocks) (λ v. answers moved (working m a rest (run (if holds_in v then xs else ys) ∷ work)) g) (λ v. same_itself (m.blocks (Received n)))
act_keeps {G} n program gate m g a rest work (repeat body s) = begins_keeps n m g a rest body work
act_keeps {G} n program gate m g a rest work break_out = same_itself (m.blocks (Received n))
act_keeps {G} n program gate m g a rest work continue_on = same_itself (m.blocks (Received n))
act_keeps {G} n program gate m g a rest work (give_back e) =
    on_any n m g (returned_value (context_in program a.function) a.depth e m.blocks) (λ v. returned m g a rest v) (λ v. returned_keeps n m g a rest v)

works_keeps : {G : Type 0} (n : ℕ) (program : ProgramTree) (gate : Gate G) (m : Machine) (g : G) (a : Active) (rest : List Active) (work : List Work) → StepKeepsShape n m.blocks (works program gate m g a rest work)
works_keeps {G} n program gate m g a rest [] = at_end_keeps n (signature_in program a.function).result (function_in program a.function).end m g a rest
works_keeps {G} n program gate m g a rest (run no_stmts ∷ work) = same_itself (m.blocks (Received n))
works_keeps {G} n program gate m g a rest (run (stmt_and s more) ∷ work) = act_keeps n program gate m g a rest (run more ∷ work) s
works_keeps {G} n program gate m g a rest (head body ∷ work) = begins_keeps n m g a rest body work

pub received_stay : {G : Type 0} → ReceivedStay G
received_stay {G} program gate m g n = go m.active
  where
    go : (active : List Active) → StepKeepsShape n m.blocks (stepped program gate m g active)
    go [] = same_itself (m.blocks (Received n))
    go (a ∷ rest) = works_keeps n program gate m g a rest (settled a.work)
