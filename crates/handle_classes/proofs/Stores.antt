-- What an assignment and a copy store keeps the memory fitting.
use Rattle.std.proofs.Common.{◌≡◌, ◌∙◌, ◌+◌, ◌<◌, ℕ, zero, suc, pos, refl, sym, subst, arith, Bool, true, false, List, [], ◌∷◌, Result, Ok, Err, take, drop, get_or, add-zero}
use Rattle.std.proofs.lemmas.List.{get_or-drop}
use Rattle.pt_base.proofs.Numbers.{suc_below}
use Rattle.typed_tree.specs.declared.types.VarTy.{VarTy}
use Rattle.typed_tree.specs.Sizes.{sizes_of, cells_by}
use Rattle.block_memory.specs.declared.cell.Cell.{Cell}
use Rattle.block_memory.specs.declared.cell.Cell.TheVariants.{Int, Ptr, Sealed}
use Rattle.block_memory.specs.declared.cell.BlockName.TheVariants.{Local}
use Rattle.block_memory.specs.Blocks.{Blocks}
use Rattle.pt_core.specs.CodeTree.{local, global, deref, PlaceTree, place, ExprTree, ProgramTree}
use Rattle.pt_core.specs.Types.{Context, place_type}
use Rattle.pt_core.specs.Values.{Stop, ◌>>?◌, Location, value_of, location_of, written, all_written, cells_at}
use Rattle.pt_core.specs.Statements.{assigned, copied}
use Rattle.pt_core.specs.Calls.{context_in}
use Rattle.pt_core.specs.Steps.{Active}
use Rattle.handle_classes.specs.Classes.{Class, World, scope_in, class_of, place_class}
use Rattle.handle_classes.specs.Judgment.{Flows, Goes, Copies, IsFine, IsFinePlace, IsFineProgram}
use Rattle.handle_classes.specs.Invariant.{block_class, Fits, MayLie, MemoryFits}
use Rattle.handle_classes.specs.Laws.{FitsIf, ValueFits}
use Rattle.handle_classes.proofs.Places.{IsPart, less_trans}
use Rattle.handle_classes.proofs.Values.{LiesIf, Here, values, places}
use Rattle.handle_classes.proofs.Memory.{count_on, flows_fit, AreDescending, takes_object, memory_written, local_written, AllLie, object_written}

abbrev pub MemoryFitsIf : World → List Active → Result Blocks Stop → Type 0
MemoryFitsIf w active (Ok blocks) = MemoryFits w active blocks
MemoryFitsIf w active (Err stop) = Unit {0}

-- ---- assignments

-- a place that is a pointer is a local variable
pointer_place : (program : ProgramTree) (w : World) (f : ℕ) (p : PlaceTree) → IsFineProgram program w →
    (place_class (scope_in program w f) p).pointer ≡ true → (x : ℕ) × (p ≡ place (local x) [])
pointer_place program w f (place (local x) []) fine h = (x, refl)
pointer_place program w f (place (global g) []) fine h = let no : true ≡ false = sym h ∙ fine.objects g in cc
pointer_place program w f (place (deref q span) []) fine h = cc
pointer_place program w f (place root (k ∷ ks)) fine h = cc

pointer_assigned : (w : World) (a : Active) (rest : List Active) (blocks : Blocks) (c : Class) (x : ℕ) (r : Result Cell Stop) →
    AreDescending (a ∷ rest) → MemoryFits w (a ∷ rest) blocks → Flows c (w.variable a.function x) → FitsIf w (a ∷ rest) c r →
    MemoryFitsIf w (a ∷ rest) (r >>? λ v. Ok (written blocks (Local a.depth x) 0 v))
pointer_assigned w a rest blocks c x (Ok v) down mem flows f = local_written w a rest blocks x v down.0
    (flows_fit w (a ∷ rest) c (w.variable a.function x) v flows f) mem
pointer_assigned w a rest blocks c x (Err stop) down mem flows f = tt {0}

-- a handle is written where the place's class says that one must be able to lie
written_lies : (w : World) (active : List Active) (c k of : Class) (n : ℕ) (v : Cell) → Goes c k → k.pointer ≡ false → IsPart k of n →
    Fits w active c v → MayLie of n v
written_lies w active c k of n (Int z) goes h in_it f = tt {0}
written_lies w active c k of n (Ptr p) goes h in_it f = tt {0}
written_lies w active c k of n (Sealed s) goes h in_it f = (
  in_it.object,
  subst (λ m. of.may m ≡ true) (add-zero n) (in_it.must 0 (goes.room h) (goes.sealed h f.1)),
)

object_assigned : (w : World) (active : List Active) (blocks : Blocks) (c k : Class) (ty : VarTy) (r : Result Location Stop) (s : Result Cell Stop) →
    AreDescending active → MemoryFits w active blocks → Goes c k → k.pointer ≡ false → LiesIf w active blocks k ty r → FitsIf w active c s →
    MemoryFitsIf w active (r >>? λ at. s >>? λ v. Ok (written blocks at.block at.cell v))
object_assigned w active blocks c k ty (Ok at) (Ok v) down mem goes h lies f =
    let in_it : IsPart k (block_class w active at.block) at.cell = lies.object h in
    memory_written w active blocks at.block at.cell v (written_lies w active c k (block_class w active at.block) at.cell v goes h in_it f)
    (takes_object w active at.block v down in_it.object) mem
object_assigned w active blocks c k ty (Ok at) (Err stop) down mem goes h lies f = tt {0}
object_assigned w active blocks c k ty (Err stop) s down mem goes h lies f = tt {0}

pub assigned_fits : (program : ProgramTree) (w : World) (a : Active) (rest : List Active) (blocks : Blocks) → Here program w a rest blocks →
    AreDescending (a ∷ rest) → (p : PlaceTree) (e : ExprTree) →
    IsFinePlace (scope_in program w a.function) p → IsFine (scope_in program w a.function) e → Goes (class_of (scope_in program w a.function) e)
    (place_class (scope_in program w a.function) p) →
    MemoryFitsIf w (a ∷ rest) (assigned (context_in program a.function) a.depth p e blocks)
assigned_fits program w a rest blocks at down p e fine judged goes = go (place_class (scope_in program w a.function) p).pointer refl
  where
    known : ValueFits program w a rest blocks e
    known = values program w a rest blocks at e judged

    to_local : (x : ℕ) → p ≡ place (local x) [] → Flows (class_of (scope_in program w a.function) e) (place_class (scope_in program w a.function) p) →
        MemoryFitsIf w (a ∷ rest) (assigned (context_in program a.function) a.depth p e blocks)
    to_local x same flows = subst (λ q. MemoryFitsIf w (a ∷ rest) (assigned (context_in program a.function) a.depth q e blocks)) (sym same)
        (pointer_assigned w a rest blocks (class_of (scope_in program w a.function) e) x (value_of (context_in program a.function) a.depth e blocks)
        down at.1 (subst (λ q. Flows (class_of (scope_in program w a.function) e) (place_class (scope_in program w a.function) q)) same flows)
        known.fits)

    go : (b : Bool) → (place_class (scope_in program w a.function) p).pointer ≡ b →
        MemoryFitsIf w (a ∷ rest) (assigned (context_in program a.function) a.depth p e blocks)
    go true h = let found : (x : ℕ) × (p ≡ place (local x) []) = pointer_place program w a.function p at.0 h in to_local found.0 found.1
        (goes.flows h)
    go false h = object_assigned w (a ∷ rest) blocks (class_of (scope_in program w a.function) e) (place_class (scope_in program w a.function) p)
        (place_type (context_in program a.function) p) (location_of (context_in program a.function) a.depth p blocks)
        (value_of (context_in program a.function) a.depth e blocks) down at.1 goes h (places program w a rest blocks at p fine).lies known.fits

-- ---- copies

moved_lies : (to from of in_it : Class) (at cell n size : ℕ) (v : Cell) → Copies to from size → n < size → IsPart to of at → IsPart from in_it cell →
    MayLie in_it (cell + n) v → MayLie of (at + n) v
moved_lies to from of in_it at cell n size (Int z) copies less in_to in_from m = tt {0}
moved_lies to from of in_it at cell n size (Ptr p) copies less in_to in_from m = tt {0}
moved_lies to from of in_it at cell n size (Sealed h) copies less in_to in_from m = (
  in_to.object,
  in_to.must n (less_trans n size to.size less copies.to_room)
      (copies.sealed n less (in_from.may n (less_trans n size from.size less copies.from_room) m.1)),
)

some_left : (count : ℕ) → 0 < suc count
some_left count = omega arith

taken_lie : (of : Class) (vs : List Cell) (count at : ℕ) → ((n : ℕ) → n < count → MayLie of (at + n) (get_or vs n (Int (pos 0)))) →
    AllLie of at (take count vs)
taken_lie of vs zero at lie = tt {0}
taken_lie of [] (suc count) at lie = tt {0}
taken_lie of (v ∷ vs) (suc count) at lie = (
  subst (λ m. MayLie of m v) (add-zero at) (lie 0 (some_left count)),
  taken_lie of vs count (at + 1) (λ n less. subst (λ m. MayLie of m (get_or vs n (Int (pos 0)))) (count_on at n) (lie (suc n) (suc_below n count less))),
)

cells_lie : (w : World) (active : List Active) (blocks : Blocks) (to from : Class) (at source : Location) (size : ℕ) → MemoryFits w active blocks →
    Copies to from size → IsPart to (block_class w active at.block) at.cell → IsPart from (block_class w active source.block) source.cell →
    AllLie (block_class w active at.block) at.cell (cells_at blocks source size)
cells_lie w active blocks to from at source size mem copies in_to in_from =
    taken_lie (block_class w active at.block) (drop source.cell (blocks source.block).cells) size at.cell
    (λ n less. moved_lies to from (block_class w active at.block) (block_class w active source.block) at.cell source.cell n size
    (get_or (drop source.cell (blocks source.block).cells) n (Int (pos 0))) copies less in_to in_from
    (subst (λ v. MayLie (block_class w active source.block) (source.cell + n) v)
    (sym (get_or-drop source.cell (blocks source.block).cells n (Int (pos 0)))) (mem.handles source.block (source.cell + n))))

places_copied : (w : World) (active : List Active) (blocks : Blocks) (context : Context) (to from : Class) (ty ty' : VarTy)
    (r s : Result Location Stop) → AreDescending active → MemoryFits w active blocks → Copies to from (cells_by (sizes_of context.structs) ty) →
    LiesIf w active blocks to ty r → LiesIf w active blocks from ty' s →
    MemoryFitsIf w active (r >>? λ at. s >>? λ source. Ok (all_written blocks at.block at.cell
    (cells_at blocks source (cells_by (sizes_of context.structs) at.ty))))
places_copied w active blocks context to from ty ty' (Ok at) (Ok source) down mem copies lies lies' =
    let in_to : IsPart to (block_class w active at.block) at.cell = lies.object copies.to_object in
    let in_from : IsPart from (block_class w active source.block) source.cell = lies'.object copies.from_object in
    subst (λ t. MemoryFits w active (all_written blocks at.block at.cell (cells_at blocks source (cells_by (sizes_of context.structs) t))))
    (sym lies.typed)
    (object_written w active blocks at.block at.cell (cells_at blocks source (cells_by (sizes_of context.structs) ty)) down in_to.object
    (cells_lie w active blocks to from at source (cells_by (sizes_of context.structs) ty) mem copies in_to in_from) mem)
places_copied w active blocks context to from ty ty' (Ok at) (Err stop) down mem copies lies lies' = tt {0}
places_copied w active blocks context to from ty ty' (Err stop) s down mem copies lies lies' = tt {0}

pub copied_fits : (program : ProgramTree) (w : World) (a : Active) (rest : List Active) (blocks : Blocks) → Here program w a rest blocks →
    AreDescending (a ∷ rest) → (to from : PlaceTree) →
    IsFinePlace (scope_in program w a.function) to → IsFinePlace (scope_in program w a.function) from →
    Copies (place_class (scope_in program w a.function) to) (place_class (scope_in program w a.function) from)
    (cells_by (sizes_of program.structs) (place_type (context_in program a.function) to)) →
    MemoryFitsIf w (a ∷ rest) (copied (context_in program a.function) a.depth to from blocks)
copied_fits program w a rest blocks at down to from fine fine' copies =
    places_copied w (a ∷ rest) blocks (context_in program a.function) (place_class (scope_in program w a.function) to)
    (place_class (scope_in program w a.function) from) (place_type (context_in program a.function) to)
    (place_type (context_in program a.function) from)
    (location_of (context_in program a.function) a.depth to blocks) (location_of (context_in program a.function) a.depth from blocks) down at.1 copies
    (places program w a rest blocks at to fine).lies (places program w a rest blocks at from fine').lies
