-- What comes from outside leaves the machine fitting.
use Rattle.std.proofs.Common.{◌≡◌, ◌∙◌, ℕ, nat_eq, refl, ap, sym, subst, arith, Bool, true, false, Option, Some, None, List, [], ◌∷◌, length, if◌then◌else◌}
use Rattle.std.specs.Prelude.{slice_get}
use Rattle.pt_base.specs.declared.int_type.IntType.{IntType}
use Rattle.typed_tree.specs.declared.types.VarTy.{VarTy}
use Rattle.typed_tree.specs.declared.types.VarTy.TheVariants.{Int, Struct, Array, Pointer}
use Rattle.typed_tree.specs.declared.types.StructInfo.{StructInfo}
use Rattle.block_memory.specs.declared.cell.Cell.{Cell}
use Rattle.block_memory.specs.declared.cell.BlockName.{BlockName}
use Rattle.block_memory.specs.declared.cell.BlockName.TheVariants.{Local, Global, Received}
use Rattle.block_memory.specs.Block.{Block}
use Rattle.block_memory.specs.Blocks.{Blocks, put}
use Rattle.pt_core.specs.CodeTree.{ProgramTree}
use Rattle.pt_core.specs.Calls.{signature_in}
use Rattle.pt_core.specs.Steps.{Active, Awaited, resumed_in}
use Rattle.core_soundness_law.specs.Kept.{Kept}
use Rattle.core_soundness_law.specs.Fits.{IntegersFit, LocalFits, variables_at, MemoryFits, AllFit, AwaitedFits}
use Rattle.core_soundness_law.specs.Outside.{GivenFits, ResumedFits, BudgetedFits, ReceivedFits, WrittenFits, FilledFits}
use Rattle.core_soundness_law.proofs.Memory.{Suits, emptied, integer_written, replaced}
use Rattle.core_soundness_law.proofs.Programs.{ProgramFacts, facts_of, function_facts}
use Rattle.core_soundness_law.proofs.Settings.{setting}
use Rattle.core_soundness_law.proofs.Stores.{kept_fits}

resumed_memory : (kept : Kept) (monitor : Bool) (program : ProgramTree) (awaited : Awaited) (v : Option Cell) (active : List Active) (blocks : Blocks) → ProgramFacts monitor program → MemoryFits kept program active blocks → AllFit monitor program active →
    AwaitedFits program active (Some awaited) → GivenFits kept (signature_in program awaited.callee).result v → MemoryFits kept program active (resumed_in v (Some awaited) active blocks)
resumed_memory kept monitor program awaited v [] blocks facts mem all takes given = elim takes [ ]
resumed_memory kept monitor program awaited v (a ∷ rest) blocks facts mem all takes given =
    kept_fits kept program a rest blocks (setting kept monitor program a rest blocks facts (function_facts monitor program facts a.function all.0.known) mem) mem (signature_in program awaited.callee).result awaited.result v takes given

pub resumed_fits : ResumedFits
resumed_fits kept monitor program m awaited v sound fits is given = record {
  memory = subst (λ o. MemoryFits kept program m.active (resumed_in v o m.active m.blocks)) (sym is)
      (resumed_memory kept monitor program awaited v m.active m.blocks (facts_of monitor program sound) fits.memory fits.active (subst (λ o. AwaitedFits program m.active o) is fits.awaited) given);
  active = fits.active;
  awaited = tt {0};
}

pub budgeted_fits : BudgetedFits
budgeted_fits kept monitor program m budget fits = record { memory = fits.memory; active = fits.active; awaited = fits.awaited }

-- ---- blocks put and cells written

received_memory : (kept : Kept) (program : ProgramTree) (blocks : Blocks) (n : ℕ) (block : Block) → MemoryFits kept program [] blocks → IntegersFit kept block.types block.cells → MemoryFits kept program [] (put blocks (Received n) block)
received_memory kept program blocks n block mem cells = record {
  locals = λ depth v. mem.locals depth v;
  globals = mem.globals;
  global_cells = λ g. mem.global_cells g;
  received_cells = λ k. at k (nat_eq n k);
  beyond = mem.beyond;
}
  where
    at : (k : ℕ) (t : Bool) → IntegersFit kept (if t then block else blocks (Received k)).types (if t then block else blocks (Received k)).cells
    at k true = cells
    at k false = mem.received_cells k

pub received_fits : ReceivedFits
received_fits kept monitor program m n block fits free cells = record {
  memory = subst (λ active. MemoryFits kept program active (put m.blocks (Received n) block)) (sym free) (received_memory kept program m.blocks n block (subst (λ active. MemoryFits kept program active m.blocks) free fits.memory) cells);
  active = fits.active;
  awaited = fits.awaited;
}

pub written_fits : WrittenFits
written_fits kept monitor program m name n t c fits lies f = record { memory = integer_written kept program m.active m.blocks name n t c fits.memory lies f; active = fits.active; awaited = fits.awaited }

abbrev types_in : Block → List IntType
types_in block = block.types

-- so many cells of no types are none, where one is wanted
no_room : (kept : Kept) (cells : List Cell) (held : Cell) (X : Type 0) → IntegersFit kept [] cells → length cells ≡ length (held ∷ []) → X
no_room kept [] held X fit long = absurd (omega (arith, long))
no_room kept (c ∷ cells) held X fit long = elim fit [ ]

local_filled : (kept : Kept) (structs : List StructInfo) (blocks : Blocks) (depth : ℕ) (o : Option VarTy) (b : Block) (cells : List Cell) → LocalFits kept structs blocks depth o b → length cells ≡ length b.cells → IntegersFit kept b.types cells →
    LocalFits kept structs blocks depth o (record { types = b.types; cells = cells })
local_filled kept structs blocks depth None b cells f long fit = emptied kept (record { types = b.types; cells = cells }) (ap types_in f) fit
local_filled kept structs blocks depth (Some (Int t)) b cells f long fit = record { types_are = f.types_are; cells = fit }
local_filled kept structs blocks depth (Some (Struct n)) b cells f long fit = record { types_are = f.types_are; cells = fit }
local_filled kept structs blocks depth (Some (Array elem count)) b cells f long fit = record { types_are = f.types_are; cells = fit }
local_filled kept structs blocks depth (Some (Pointer elem fixed)) b cells f long fit =
    no_room kept cells f.held _ (subst (λ ts. IntegersFit kept ts cells) f.none fit) (long ∙ ap (λ (cs : List Cell). length cs) f.cells)

filled_suits : (kept : Kept) (program : ProgramTree) (active : List Active) (blocks : Blocks) (name : BlockName) (cells : List Cell) → MemoryFits kept program active blocks → length cells ≡ length (blocks name).cells → IntegersFit kept (blocks name).types cells →
    Suits kept program active blocks name (record { types = (blocks name).types; cells = cells })
filled_suits kept program active blocks (Local depth v) cells mem long fit =
    local_filled kept program.structs blocks depth (slice_get (variables_at program active depth) v) (blocks (Local depth v)) cells (mem.locals depth v) long fit
filled_suits kept program active blocks (Global g) cells mem long fit = fit
filled_suits kept program active blocks (Received n) cells mem long fit = fit

pub filled_fits : FilledFits
filled_fits kept monitor program m name cells fits long fit = record {
  memory = replaced kept program m.active m.blocks name (record { types = (m.blocks name).types; cells = cells }) fits.memory refl (filled_suits kept program m.active m.blocks name cells fits.memory long fit);
  active = fits.active;
  awaited = fits.awaited;
}
