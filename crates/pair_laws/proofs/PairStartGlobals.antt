-- The globals of both halves, seen together, are the whole's.
use Rattle.std.proofs.Common.{◌≡◌, ◌∙◌, ℕ, ℤ, refl, ap, sym, Bool, true, false, cond, not, Option, Some, None, List, [], ◌∷◌, map, if◌then◌else◌}
use Rattle.std.specs.Prelude.{IsTrue, is_some, nat_eq}
use Rattle.std.specs.List.{filter}
use Rattle.std.specs.Map.{lookup}
use Rattle.pt_base.proofs.Booleans.{false_not_true}
use Rattle.pt_base.proofs.Numbers.{nat_eq_same}
use Rattle.typed_tree.specs.declared.types.VarTy.{VarTy}
use Rattle.typed_tree.specs.declared.types.StructInfo.{StructInfo}
use Rattle.typed_tree.specs.Cells.{leaves_of}
use Rattle.block_memory.specs.declared.cell.Cell.{Cell}
use Rattle.block_memory.specs.declared.cell.Cell.TheVariants as cell
use Rattle.block_memory.specs.declared.cell.BlockName.{BlockName}
use Rattle.block_memory.specs.declared.cell.BlockName.TheVariants.{Local, Global, Received}
use Rattle.block_memory.specs.Block.{Block, no_block}
use Rattle.block_memory.specs.Blocks.{Blocks, is_same_name, no_blocks, put}
use Rattle.pt_core.specs.CodeTree.{GlobalTree, ProgramTree}
use Rattle.pt_core.specs.Calls.{context_in}
use Rattle.pt_core.specs.CoreRun.{with_globals}
use Rattle.pt_core.specs.WellFormed.{is_sound}
use Rattle.core_soundness_law.specs.Kept.{none}
use Rattle.core_soundness_law.proofs.Resting.{rest_fits, locals_stay, received_stay}
use Rattle.split_law.proofs.Parts.{part}
use Rattle.marshalling.specs.Handles.{Entries}
use Rattle.part_views_law.specs.Views.{View, has_global, lying, seen, seen_block, seen_cell, slave_of, slave_view}
use Rattle.pair_invariant_law.proofs.AcceptedParted.{has_owned}

abbrev block_of : List StructInfo → GlobalTree → Block
block_of structs g = record { types = leaves_of structs g.var.ty; cells = map cell.Int g.cells }

-- ---- chosen globals

-- a global that is chosen is what it is among all
chosen_global : (structs : List StructInfo) (owned : ℕ → Bool) (g : ℕ) (gs : List GlobalTree) (b c : Blocks) → owned g ≡ true → b (Global g) ≡ c (Global g) →
    with_globals structs b (filter (λ (x : GlobalTree). owned x.id) gs) (Global g) ≡ with_globals structs c gs (Global g)
chosen_global structs owned g [] b c own same = same
chosen_global structs owned g (x ∷ xs) b c own same = go (λ b' c' same'. chosen_global structs owned g xs b' c' own same') (owned x.id) refl
  where
    other : owned x.id ≡ false → (t : Bool) → nat_eq x.id g ≡ t → (if t then block_of structs x else c (Global g)) ≡ c (Global g)
    other e false h = refl
    other e true h = false_not_true (sym e ∙ ap owned (nat_eq_same x.id g h) ∙ own)

    go : ((b' c' : Blocks) → b' (Global g) ≡ c' (Global g) → with_globals structs b' (filter (λ (y : GlobalTree). owned y.id) xs) (Global g) ≡ with_globals structs c' xs (Global g)) → (kept : Bool) → owned x.id ≡ kept →
        with_globals structs b (cond kept (x ∷ filter (λ (y : GlobalTree). owned y.id) xs) (filter (λ (y : GlobalTree). owned y.id) xs)) (Global g) ≡ with_globals structs (put c (Global x.id) (block_of structs x)) xs (Global g)
    go rest true e = rest (put b (Global x.id) (block_of structs x)) (put c (Global x.id) (block_of structs x)) (ap (λ (z : Block). if nat_eq x.id g then block_of structs x else z) same)
    go rest false e = rest b (put c (Global x.id) (block_of structs x)) (same ∙ sym (other e (nat_eq x.id g) refl))

-- ---- numbers are seen as they are

abbrev HasNumbers : Block → Type 0
HasNumbers b = (ns : List ℤ) × (b.cells ≡ map cell.Int ns)

globals_hold_numbers : (structs : List StructInfo) (gs : List GlobalTree) (blocks : Blocks) (name : BlockName) → HasNumbers (blocks name) → HasNumbers (with_globals structs blocks gs name)
globals_hold_numbers structs [] blocks name h = h
globals_hold_numbers structs (x ∷ xs) blocks name h = globals_hold_numbers structs xs (put blocks (Global x.id) (block_of structs x)) name (go (is_same_name (Global x.id) name))
  where
    go : (t : Bool) → HasNumbers (if t then block_of structs x else blocks name)
    go true = (x.cells, refl)
    go false = h

numbers_seen : (v : View) (ns : List ℤ) → map (seen_cell v) (map cell.Int ns) ≡ map cell.Int ns
numbers_seen v [] = refl
numbers_seen v (n ∷ ns) = ap (λ (cs : List Cell). cell.Int n ∷ cs) (numbers_seen v ns)

block_seen : (v : View) (b : Block) → HasNumbers b → seen_block v b ≡ b
block_seen v b h = ap (λ (cs : List Cell). record { types = b.types; cells = cs }) (ap (map (seen_cell v)) h.1 ∙ numbers_seen v h.0 ∙ sym h.1)

-- ---- together

-- a sound program has no block of a global that isn't its own
unknown : (monitor : Bool) (q : ProgramTree) (g : ℕ) → IsTrue (is_sound monitor q) → has_global q g ≡ false → with_globals q.structs no_blocks q.globals (Global g) ≡ no_block
unknown monitor q g sound outside = (rest_fits none monitor q 0 sound).memory.beyond g (go (lookup (nat_eq g) (context_in q 0).globals) outside)
  where
    go : (o : Option VarTy) → is_some o ≡ false → o ≡ None
    go None h = refl
    go (Some ty) h = false_not_true (sym h)

-- What the slave's view shows of its globals, beside those of the monitor, which owns all others.
pub globals_seen : (p : ProgramTree) (signed kept signed' kept' owned : ℕ → Bool) (store : Entries) → IsTrue (is_sound false (part signed kept owned p)) → IsTrue (is_sound true (part signed' kept' (λ n. not (owned n)) p)) →
    with_globals p.structs no_blocks p.globals
    ≡ seen (slave_view (part signed kept owned p) store (with_globals p.structs no_blocks (part signed' kept' (λ n. not (owned n)) p).globals)) (with_globals p.structs no_blocks (part signed kept owned p).globals)
globals_seen p signed kept signed' kept' owned store slave_sound monitor_sound = λ i name. at name i
  where
    slave : ProgramTree
    slave = part signed kept owned p

    monitor : ProgramTree
    monitor = part signed' kept' (λ n. not (owned n)) p

    whole : Blocks
    whole = with_globals p.structs no_blocks p.globals

    own : Blocks
    own = with_globals p.structs no_blocks slave.globals

    beside : Blocks
    beside = with_globals p.structs no_blocks monitor.globals

    v : View
    v = slave_view slave store beside

    none_beside : (g : ℕ) → owned g ≡ true → (b : Bool) → has_global monitor g ≡ b → beside (Global g) ≡ no_block
    none_beside g here false e = unknown true monitor g monitor_sound e
    none_beside g here true e = false_not_true (ap not (sym here) ∙ has_owned p signed' kept' (λ n. not (owned n)) g e)

    -- a global that the slave doesn't have is the monitor's, or there is none
    others : (g : ℕ) → has_global slave g ≡ false → (b : Bool) → owned g ≡ b → whole (Global g) ≡ beside (Global g)
    others g outside false e = sym (chosen_global p.structs (λ n. not (owned n)) g p.globals no_blocks no_blocks (ap not e) refl)
    others g outside true e = sym (chosen_global p.structs owned g p.globals no_blocks no_blocks e refl) ∙ unknown false slave g slave_sound outside ∙ sym (none_beside g e (has_global monitor g) refl)

    by_half : (g : ℕ) (b : Bool) → has_global slave g ≡ b → whole (Global g) ≡ lying v own (Global g) (if b then Some (Global g) else None)
    by_half g true e =
        sym (chosen_global p.structs owned g p.globals no_blocks no_blocks (has_owned p signed kept owned g e) refl) ∙ sym (block_seen v (own (Global g)) (globals_hold_numbers p.structs slave.globals no_blocks (Global g) ([], refl)))
    by_half g false e = others g e (owned g) refl

    at : (name : BlockName) → whole name ≡ lying v own name (slave_of slave name)
    at (Local depth k) = locals_stay p.structs p.globals no_blocks depth k ∙ sym (ap (seen_block v) (locals_stay p.structs slave.globals no_blocks depth k))
    at (Global g) = by_half g (has_global slave g) refl
    at (Received n) = received_stay p.structs p.globals no_blocks n ∙ sym (ap (seen_block v) (received_stay p.structs slave.globals no_blocks n))
