-- A function is entered where none is active.
use Rattle.std.proofs.Common.{◌≡◌, ◌≤◌, ◌<◌, ℕ, ◌+◌, refl, ap, sym, subst, arith, Bool, true, false, Option, None, List, [], ◌∷◌, map}
use Rattle.std.specs.Prelude.{IsTrue, slice_get, slice_index_or, take, is_some}
use Rattle.pt_base.proofs.Booleans.{both_hold}
use Rattle.pt_tree.specs.declared.signature.Signature.{Signature}
use Rattle.typed_tree.specs.WellFormed.{params_lead}
use Rattle.typed_tree.specs.declared.variable.Var.{Var}
use Rattle.runs.specs.Run.{deepest}
use Rattle.block_memory.specs.declared.shape.BlockShape.{BlockShape}
use Rattle.block_memory.specs.declared.cell.Cell.{Cell}
use Rattle.block_memory.specs.declared.cell.BlockName.TheVariants.{Local, Global, Received}
use Rattle.block_memory.specs.Block.{Block, fresh, no_block}
use Rattle.block_memory.specs.Blocks.{Blocks, with_frame}
use Rattle.pt_core.specs.CodeTree.{FunctionTree, ProgramTree}
use Rattle.pt_core.specs.Types.{shape_of}
use Rattle.pt_core.specs.Calls.{signature_in, function_in, context_in, entered}
use Rattle.pt_core.specs.Steps.{Active, just_entered}
use Rattle.pt_core.specs.WellFormed.{function_at, scope_of}
use Rattle.pt_core.specs.WellFormedStatement.{stmts_fit}
use Rattle.core_soundness_law.specs.Kept.{Kept}
use Rattle.core_soundness_law.specs.Fits.{MemoryFits, ActiveFits, AwaitedFits, scope_in}
use Rattle.core_soundness_law.specs.Outside.{ArgumentsFit, own_params, StartedFits}
use Rattle.core_soundness_law.proofs.Memory.{SameTypes}
use Rattle.core_soundness_law.proofs.Frames.{other_depth, AreBelow, frame_entered}
use Rattle.core_soundness_law.proofs.Entering.{arguments_stay, arguments_deeper, Lead, leads, arguments_entered}
use Rattle.core_soundness_law.proofs.Programs.{facts_of, FunctionFacts, function_facts}

pub frame_same : (blocks : Blocks) (depth d : ℕ) (shapes : List BlockShape) → d < depth → SameTypes blocks (with_frame blocks depth shapes) d
frame_same blocks depth d shapes h (Local e w) near = ap (λ (b : Block). b.types) (sym (other_depth e depth (slice_index_or (map fresh shapes) w no_block) (blocks (Local e w)) (before e d depth near h)))
  where
    before : (e d depth : ℕ) → e ≤ d → d < depth → e < depth
    before e d depth h k = omega (arith, h, k)
frame_same blocks depth d shapes h (Global g) near = refl
frame_same blocks depth d shapes h (Received n) near = refl

pub own_lead : (monitor : Bool) (program : ProgramTree) (f : ℕ) → FunctionFacts monitor program f → Lead (context_in program f).variables 0 (own_params program f)
own_lead monitor program f facts = leads (own_params program f) (function_in program f).vars (context_in program f).variables 0 (λ k. ap (λ j. slice_get (context_in program f).variables j) (from_zero k))
    (subst (λ (g : FunctionTree). IsTrue (params_lead (take g.params (signature_in program f).params) g.vars)) (sym facts.tree_is)
    (subst (λ (s : Signature). IsTrue (params_lead (take facts.tree.params s.params) facts.tree.vars)) (sym facts.signature_is) facts.leads))
  where
    from_zero : (k : ℕ) → k ≡ 0 + k
    from_zero k = omega arith

own_body : (monitor : Bool) (program : ProgramTree) (f : ℕ) → FunctionFacts monitor program f → IsTrue (stmts_fit (scope_in monitor program f) false (function_in program f).body)
own_body monitor program f facts =
    subst (λ (g : FunctionTree). IsTrue (stmts_fit (scope_of monitor program g (signature_in program f)) false g.body)) (sym facts.tree_is)
    (subst (λ (s : Signature). IsTrue (stmts_fit (scope_of monitor program facts.tree s) false facts.tree.body)) (sym facts.signature_is) facts.body)

-- the memory behind the entry of a function above those that are active
pub entered_memory : (kept : Kept) (monitor : Bool) (program : ProgramTree) (a : Active) (active : List Active) (blocks : Blocks) (shallower : ℕ) (args : List Cell) → FunctionFacts monitor program a.function → AreBelow a.depth active → MemoryFits kept program active blocks →
    shallower < a.depth → ArgumentsFit kept program.structs blocks shallower (own_params program a.function) args → MemoryFits kept program (a ∷ active) (entered program a.function a.depth args blocks)
entered_memory kept monitor program a active blocks shallower args facts below mem less f =
    let framed : Blocks = with_frame blocks a.depth (map (λ (x : Var). shape_of program.structs x.ty) (function_in program a.function).vars) in
    arguments_entered kept program a active framed 0 (own_params program a.function) args (frame_entered kept program a active blocks below mem) (own_lead monitor program a.function facts)
    (arguments_deeper kept program.structs framed shallower a.depth (own_params program a.function) args (at_most shallower a.depth less)
    (arguments_stay kept program.structs blocks framed shallower (own_params program a.function) args
    (frame_same blocks a.depth shallower (map (λ (x : Var). shape_of program.structs x.ty) (function_in program a.function).vars) less) f))
  where
    at_most : (d e : ℕ) → d < e → d ≤ e
    at_most d e h = omega (arith, h)

pub entered_active : (monitor : Bool) (program : ProgramTree) (privileged : Bool) (f depth : ℕ) (result : Option ℕ) → FunctionFacts monitor program f → IsTrue (is_some (function_at program f)) → 1 ≤ depth → depth ≤ deepest →
    ActiveFits monitor program (just_entered program privileged f depth result)
entered_active monitor program privileged f depth result facts known deep shallow = record {
  known = known;
  deep = deep;
  shallow = shallow;
  work = both_hold (stmts_fit (scope_in monitor program f) false (function_in program f).body) true (own_body monitor program f facts) refl;
}

pub started_fits : StartedFits
started_fits kept monitor program m privileged f depth args sound fits idle free known deep shallow given =
    let facts : FunctionFacts monitor program f = function_facts monitor program (facts_of monitor program sound) f known in
    let a : Active = just_entered program privileged f depth None in
    record {
      memory = entered_memory kept monitor program a [] m.blocks 0 args facts (tt {0}) (subst (λ active. MemoryFits kept program active m.blocks) idle fits.memory) (above depth deep) given;
      active = (entered_active monitor program privileged f depth None facts known deep shallow, tt {0}, tt {0});
      awaited = subst (λ o. AwaitedFits program (a ∷ []) o) (sym free) (tt {0});
    }
  where
    above : (d : ℕ) → 1 ≤ d → 0 < d
    above d h = omega (arith, h)
