-- The blocks that a call brings come and go.
use Rattle.std.proofs.Common.{◌≡◌, ◌∙◌, ◌+◌, ◌<◌, ◌≤◌, ◌⊎◌, inl, inr, ℕ, zero, suc, nat_eq, refl, ap, sym, arith, Bool, true, false, List, [], ◌∷◌, length, if◌then◌else◌, None}
use Rattle.std.specs.Prelude.{slice_index_or}
use Rattle.std.proofs.lemmas.Bool.{cases_lt}
use Rattle.std.proofs.lemmas.Bool.Decides.{nat_tests}
use Rattle.pt_base.specs.declared.int_type.IntType.{IntType}
use Rattle.pt_base.proofs.Numbers.{nat_eq_above, nat_eq_below, nat_eq_true, plus_suc_moved, plus_zero, zero_plus}
use Rattle.block_memory.specs.declared.cell.Cell.{Cell}
use Rattle.block_memory.specs.declared.cell.BlockName.{BlockName}
use Rattle.block_memory.specs.declared.cell.BlockName.TheVariants.{Local, Global, Received}
use Rattle.block_memory.specs.Block.{Block, no_block}
use Rattle.block_memory.specs.Blocks.{Blocks, no_blocks, put}
use Rattle.typed_tree.specs.declared.types.StructInfo.{StructInfo}
use Rattle.pt_core.specs.CodeTree.{GlobalTree, ProgramTree}
use Rattle.pt_core.specs.CoreRun.{with_globals}
use Rattle.core_soundness_law.specs.Kept.{none}
use Rattle.core_soundness_law.specs.Fits.{IntegersFit, MemoryFits}
use Rattle.core_soundness_law.specs.StepLaws.{IsSameShape}
use Rattle.core_soundness_law.proofs.Outside.{received_fits}
use Rattle.marshalling_law.specs.CallsServed.{AllHold}
use Rattle.pair_meaning.specs.Serving.{brought, global_part, with_brought}
use Rattle.monitor_soundness_law.specs.ServingLaws.{emptied}

-- ---- numbers

less : (m n : ℕ) → n < suc m → nat_eq m n ≡ false → n < m
less m n lt e = grind (arith, nat_tests)

-- ---- one block

put_here : (x : Blocks) (k j : ℕ) (b : Block) → k ≡ j → put x (Received k) b (Received j) ≡ b
put_here x k j b e = ap (λ t. if t then b else x (Received j)) (nat_eq_true k j e)

put_beside : (x : Blocks) (k j : ℕ) (b : Block) → nat_eq k j ≡ false → put x (Received k) b (Received j) ≡ x (Received j)
put_beside x k j b e = ap (λ t. if t then b else x (Received j)) e

-- a received block from the number k on is none
abbrev pub NoneFrom : ℕ → Blocks → Type 0
NoneFrom k x = (j : ℕ) → k ≤ j → x (Received j) ≡ no_block

none_behind : (k : ℕ) (x : Blocks) (b : Block) → NoneFrom k x → NoneFrom (suc k) (put x (Received k) b)
none_behind k x b none_at j le = put_beside x k j b (nat_eq_below k j (omega (arith, le))) ∙ none_at j (omega (arith, le))

-- ---- the blocks of a call

brought_below : (k : ℕ) (tss : List (List IntType)) (css : List (List Cell)) (x : Blocks) (j : ℕ) → j < k → with_brought k tss css x (Received j) ≡ x (Received j)
brought_below k [] css x j lt = refl
brought_below k (ts ∷ tss) [] x j lt = refl
brought_below k (ts ∷ tss) (cs ∷ css) x j lt =
    brought_below (suc k) tss css (put x (Received k) (record { types = ts; cells = cs })) j (omega (arith, lt)) ∙ put_beside x k j (record { types = ts; cells = cs }) (nat_eq_above k j lt)

types_from : (k : ℕ) (tss : List (List IntType)) (css : List (List Cell)) (x : Blocks) (i : ℕ) → AllHold tss css → NoneFrom k x → (with_brought k tss css x (Received (k + i))).types ≡ slice_index_or tss i []
types_from k [] css x i holds none_at = ap (λ (b : Block). b.types) (none_at (k + i) (omega arith))
types_from k (ts ∷ tss) [] x i holds none_at = elim holds [ ]
types_from k (ts ∷ tss) (cs ∷ css) x zero holds none_at =
    ap (λ (n : ℕ). (with_brought (suc k) tss css (put x (Received k) (record { types = ts; cells = cs })) (Received n)).types) (plus_zero k)
    ∙ ap (λ (b : Block). b.types) (brought_below (suc k) tss css (put x (Received k) (record { types = ts; cells = cs })) k (omega arith) ∙ put_here x k k (record { types = ts; cells = cs }) refl)
types_from k (ts ∷ tss) (cs ∷ css) x (suc i) holds none_at =
    ap (λ (n : ℕ). (with_brought (suc k) tss css (put x (Received k) (record { types = ts; cells = cs })) (Received n)).types) (plus_suc_moved k i)
    ∙ types_from (suc k) tss css (put x (Received k) (record { types = ts; cells = cs })) i holds.1 (none_behind k x (record { types = ts; cells = cs }) none_at)

-- each has its types
pub brought_types : (tss : List (List IntType)) (css : List (List Cell)) (x : Blocks) → AllHold tss css → NoneFrom 0 x → (k : ℕ) → (with_brought 0 tss css x (Received k)).types ≡ slice_index_or tss k []
brought_types tss css x holds none_at k = ap (λ (n : ℕ). (with_brought 0 tss css x (Received n)).types) (sym (zero_plus k)) ∙ types_from 0 tss css x k holds none_at

-- there are no more
none_from : (k : ℕ) (tss : List (List IntType)) (css : List (List Cell)) (x : Blocks) (j : ℕ) → k + length tss ≤ j → NoneFrom k x → with_brought k tss css x (Received j) ≡ no_block
none_from k [] css x j le none_at = none_at j (omega (arith, le))
none_from k (ts ∷ tss) [] x j le none_at = none_at j (omega (arith, le))
none_from k (ts ∷ tss) (cs ∷ css) x j le none_at =
    none_from (suc k) tss css (put x (Received k) (record { types = ts; cells = cs })) j (omega (arith, le)) (none_behind k x (record { types = ts; cells = cs }) none_at)

pub brought_none : (tss : List (List IntType)) (css : List (List Cell)) (x : Blocks) → NoneFrom 0 x → NoneFrom (length tss) (with_brought 0 tss css x)
brought_none tss css x none_at j le = none_from 0 tss css x j (omega (arith, le)) none_at

one_fits : (program : ProgramTree) (x : Blocks) (k : ℕ) (b : Block) → MemoryFits none program [] x → IntegersFit none b.types b.cells → MemoryFits none program [] (put x (Received k) b)
one_fits program x k b mem fit =
    (received_fits none true program (record { active = []; blocks = x; turns = 0; budget = 0; awaits = None }) k b (record { memory = mem; active = tt {0}; awaited = tt {0} }) refl fit).memory

fits_from : (program : ProgramTree) (k : ℕ) (tss : List (List IntType)) (css : List (List Cell)) (x : Blocks) → MemoryFits none program [] x → AllHold tss css → MemoryFits none program [] (with_brought k tss css x)
fits_from program k [] css x mem holds = mem
fits_from program k (ts ∷ tss) [] x mem holds = elim holds [ ]
fits_from program k (ts ∷ tss) (cs ∷ css) x mem holds =
    fits_from program (suc k) tss css (put x (Received k) (record { types = ts; cells = cs })) (one_fits program x k (record { types = ts; cells = cs }) mem holds.0) holds.1

-- with them the memory fits
pub brought_fits : (program : ProgramTree) (tss : List (List IntType)) (css : List (List Cell)) (x : Blocks) → MemoryFits none program [] x → AllHold tss css → MemoryFits none program [] (with_brought 0 tss css x)
brought_fits program tss css x mem holds = fits_from program 0 tss css x mem holds

-- each block is there under its number
pub brought_is : (x : Blocks) → brought x ≡ x
brought_is x = λ i name. at name i
  where
    at : (name : BlockName) → brought x name ≡ x name
    at (Local d v) = refl
    at (Global g) = refl
    at (Received k) = refl

-- ---- where they are taken away

empty_cells : (cs : List Cell) → length cs ≡ 0 → cs ≡ []
empty_cells [] e = refl
empty_cells (c ∷ cs) e = absurd (omega (arith, e))

pub shape_of_none : (a : Block) → IsSameShape a no_block → a ≡ no_block
shape_of_none a h = ap (λ ts. record { types = ts; cells = a.cells }) h.types ∙ ap (λ cs. record { types = []; cells = cs }) (empty_cells a.cells h.count)

emptied_none : (k n : ℕ) (x : Blocks) (j : ℕ) → (j < k → x (Received j) ≡ no_block) → (k + n ≤ j → x (Received j) ≡ no_block) → emptied k n x (Received j) ≡ no_block
emptied_none k zero x j before behind = go (cases_lt j k)
  where
    go : (j < k) ⊎ (k ≤ j) → x (Received j) ≡ no_block
    go (inl lt) = before lt
    go (inr le) = behind (omega (arith, le))
emptied_none k (suc n) x j before behind =
    emptied_none (suc k) n (put x (Received k) no_block) j (λ lt. gone lt (nat_eq k j) refl) (λ le. put_beside x k j no_block (nat_eq_below k j (omega (arith, le))) ∙ behind (omega (arith, le)))
  where
    gone : j < suc k → (t : Bool) → nat_eq k j ≡ t → (if t then no_block else x (Received j)) ≡ no_block
    gone lt true e = refl
    gone lt false e = before (less k j lt e)

emptied_local : (k n : ℕ) (x : Blocks) (d v : ℕ) → emptied k n x (Local d v) ≡ x (Local d v)
emptied_local k zero x d v = refl
emptied_local k (suc n) x d v = emptied_local (suc k) n (put x (Received k) no_block) d v

emptied_global : (k n : ℕ) (x : Blocks) (g : ℕ) → emptied k n x (Global g) ≡ x (Global g)
emptied_global k zero x g = refl
emptied_global k (suc n) x g = emptied_global (suc k) n (put x (Received k) no_block) g

abbrev pub NoLocals : Blocks → Type 0
NoLocals x = (d v : ℕ) → x (Local d v) ≡ no_block

-- without them the globals are left
pub emptied_is : (n : ℕ) (x : Blocks) → NoLocals x → NoneFrom n x → emptied 0 n x ≡ global_part x
emptied_is n x locals received = λ i name. at name i
  where
    at : (name : BlockName) → emptied 0 n x name ≡ global_part x name
    at (Local d v) = emptied_local 0 n x d v ∙ locals d v
    at (Global g) = emptied_global 0 n x g
    at (Received j) = emptied_none 0 n x j (λ lt. absurd (omega (arith, lt))) (λ le. received j (omega (arith, le)))

-- ---- the globals alone

pub no_locals : (program : ProgramTree) (x : Blocks) → MemoryFits none program [] x → NoLocals x
no_locals program x mem d v = mem.locals d v

pub alone_none : (x : Blocks) → global_part x ≡ x → NoneFrom 0 x
alone_none x alone j le = ap (λ (y : Blocks). y (Received j)) (sym alone)

pub twice_alone : (x : Blocks) → global_part (global_part x) ≡ global_part x
twice_alone x = λ i name. at name i
  where
    at : (name : BlockName) → global_part (global_part x) name ≡ global_part x name
    at (Local d v) = refl
    at (Global g) = refl
    at (Received k) = refl

pub globals_fit : (program : ProgramTree) (x : Blocks) → MemoryFits none program [] x → MemoryFits none program [] (global_part x)
globals_fit program x mem = record {
  locals = λ d v. refl;
  globals = mem.globals;
  global_cells = λ g. mem.global_cells g;
  received_cells = λ n. tt {0};
  beyond = mem.beyond;
}

received_of_globals : (structs : List StructInfo) (x : Blocks) (gs : List GlobalTree) (n : ℕ) → with_globals structs x gs (Received n) ≡ x (Received n)
received_of_globals structs x [] n = refl
received_of_globals structs x (g ∷ gs) n = received_of_globals structs (put x (Global g.id) _) gs n

-- so it is at the start
pub begun_alone : (program : ProgramTree) (gs : List GlobalTree) → MemoryFits none program [] (with_globals program.structs no_blocks gs) → global_part (with_globals program.structs no_blocks gs) ≡ with_globals program.structs no_blocks gs
begun_alone program gs mem = λ i name. at name i
  where
    at : (name : BlockName) → global_part (with_globals program.structs no_blocks gs) name ≡ with_globals program.structs no_blocks gs name
    at (Local d v) = sym (no_locals program (with_globals program.structs no_blocks gs) mem d v)
    at (Global g) = refl
    at (Received n) = sym (received_of_globals program.structs no_blocks gs n)
