-- What changes of the blocks keep: that pointers lead as they should, and that memories are alike.
use Rattle.std.proofs.Common.{◌≡◌, ◌∙◌, ◌≤◌, ◌<◌, ℕ, zero, suc, ◌+◌, pos, refl, ap, ap₂, sym, subst, arith, Bool, true, false, not, if◌then◌else◌, List, [], ◌∷◌, length, map}
use Rattle.std.specs.Prelude.{◌&&◌, nat_eq, nat_lt, slice_get, slice_index_or}
use Rattle.std.proofs.lemmas.Bool.Decides.{nat_tests}
use Rattle.pt_base.proofs.Booleans.{true_and_false}
use Rattle.pt_base.proofs.Numbers.{at_most_self, nat_eq_below, nat_lt_true, plus_zero, zero_at_most}
use Rattle.pt_tree.specs.declared.signature.Elem.{Elem}
use Rattle.typed_tree.specs.TypeTests.{pointee_of}
use Rattle.block_memory.specs.declared.cell.Cell.{Cell}
use Rattle.block_memory.specs.declared.cell.Cell.TheVariants as cell
use Rattle.block_memory.specs.declared.cell.Pointer.TheVariants as pointer
use Rattle.block_memory.specs.declared.cell.BlockName.{BlockName}
use Rattle.block_memory.specs.declared.cell.BlockName.TheVariants.{Local, Global, Received}
use Rattle.block_memory.specs.declared.shape.BlockShape.{BlockShape}
use Rattle.block_memory.specs.declared.shape.BlockShape.TheVariants.{OnePointer, Ints}
use Rattle.block_memory.specs.Block.{Block, fresh, no_block, with_cell}
use Rattle.block_memory.specs.Blocks.{Blocks, is_same_name, put, with_frame, without_frames}
use Rattle.block_memory.proofs.BlocksLemmas.{same_name}
use Rattle.pt_core.specs.CodeTree.{ProgramTree}
use Rattle.pt_core.specs.Calls.{context_in, with_arguments}
use Rattle.pt_core.specs.Values.{written, all_written}
use Rattle.core_soundness_law.specs.Fits.{depth_of}
use Rattle.lent_blocks_law.specs.Lent.{AreWritable}
use Rattle.monitor_labels.specs.Nodes.{of_variable}
use Rattle.independence_law.specs.Bodies.{cell_at}
use Rattle.independence_law.proofs.Slices.{AllHold, first_holds, replicate_keeps, rest_hold, set_alike, set_keeps}
use Rattle.independence_law.proofs.Worlds.{World, AreAlike, CellLeads, Leads, PointersLead, alike_both, alike_on, hides, inside, is_open, open_by, open_shows, reached_in, type_in}

-- ---- a block in the place of another

abbrev nothing : Cell
nothing = cell.Int (pos 0)

pub put_leads : (p : ProgramTree) (w : World) (depth : ℕ) (blocks : Blocks) (name : BlockName) (block : Block) → PointersLead p w depth blocks → ((i : ℕ) → CellLeads p w name (slice_index_or block.cells i nothing)) → PointersLead p w depth (put blocks name block)
put_leads p w depth blocks name block all new other i near = go (is_same_name name other) refl
  where
    go : (t : Bool) → is_same_name name other ≡ t → CellLeads p w other (slice_index_or (if t then block else blocks other).cells i nothing)
    go true e = subst (λ n. CellLeads p w n (slice_index_or block.cells i nothing)) (same_name name other e) (new i)
    go false e = all other i near

-- what is secret is changed
pub put_hidden : (w : World) (depth : ℕ) (blocks : Blocks) (name : BlockName) (block : Block) → hides w name ≡ true → AreAlike w depth blocks (put blocks name block)
put_hidden w depth blocks name block hidden other i near open_ = go (is_same_name name other) refl
  where
    go : (t : Bool) → is_same_name name other ≡ t → slice_get (blocks other).cells i ≡ slice_get (if t then block else blocks other).cells i
    go true e = true_and_false (hides w other) (ap (hides w) (sym (same_name name other e)) ∙ hidden) (open_shows w other i open_)
    go false e = refl

-- the same block is put in both
pub put_alike : (w : World) (depth : ℕ) (a b : Blocks) (name : BlockName) (block : Block) → AreAlike w depth a b → AreAlike w depth (put a name block) (put b name block)
put_alike w depth a b name block same other i near open_ = go (is_same_name name other)
  where
    go : (t : Bool) → slice_get (if t then block else a other).cells i ≡ slice_get (if t then block else b other).cells i
    go true = refl
    go false = same other i near open_

-- ---- one cell is written

pub written_leads : (p : ProgramTree) (w : World) (depth : ℕ) (blocks : Blocks) (name : BlockName) (i : ℕ) (v : Cell) → depth_of name ≤ depth → PointersLead p w depth blocks → CellLeads p w name v → PointersLead p w depth (written blocks name i v)
written_leads p w depth blocks name i v near all new =
    put_leads p w depth blocks name (with_cell (blocks name) i v) all (λ j. set_keeps (CellLeads p w name) (blocks name).cells i v j nothing new (all name j near))

pub written_hidden : (w : World) (depth : ℕ) (blocks : Blocks) (name : BlockName) (i : ℕ) (v : Cell) → hides w name ≡ true → AreAlike w depth blocks (written blocks name i v)
written_hidden w depth blocks name i v hidden = put_hidden w depth blocks name (with_cell (blocks name) i v) hidden

pub written_alike : (w : World) (depth : ℕ) (a b : Blocks) (name : BlockName) (i : ℕ) (v : Cell) → depth_of name ≤ depth → is_open w name i ≡ true → AreAlike w depth a b → AreAlike w depth (written a name i v) (written b name i v)
written_alike w depth a b name i v near open_ same other j far shown = go (is_same_name name other) refl
  where
    go : (t : Bool) → is_same_name name other ≡ t → slice_get (if t then with_cell (a name) i v else a other).cells j ≡ slice_get (if t then with_cell (b name) i v else b other).cells j
    go true e =
        let one : name ≡ other = same_name name other e in
        set_alike (a name).cells (b name).cells i v j (same name i near open_) (same name j near (subst (λ n. is_open w n j ≡ true) (sym one) shown))
    go false e = same other j far shown

-- ---- several cells are written

pub all_written_leads : (p : ProgramTree) (w : World) (depth : ℕ) (blocks : Blocks) (name : BlockName) (at : ℕ) (cs : List Cell) → depth_of name ≤ depth → PointersLead p w depth blocks → AllHold (CellLeads p w name) cs → PointersLead p w depth (all_written blocks name at cs)
all_written_leads p w depth blocks name at [] near all new = all
all_written_leads p w depth blocks name at (c ∷ cs) near all new =
    all_written_leads p w depth (written blocks name at c) name (at + 1) cs near (written_leads p w depth blocks name at c near all (first_holds (CellLeads p w name) c cs new)) (rest_hold (CellLeads p w name) c cs new)

pub all_written_hidden : (w : World) (depth : ℕ) (blocks : Blocks) (name : BlockName) (at : ℕ) (cs : List Cell) → hides w name ≡ true → AreAlike w depth blocks (all_written blocks name at cs)
all_written_hidden w depth blocks name at [] hidden = λ other i near open_. refl
all_written_hidden w depth blocks name at (c ∷ cs) hidden =
    alike_on w depth blocks (written blocks name at c) (all_written (written blocks name at c) name (at + 1) cs) (written_hidden w depth blocks name at c hidden) (all_written_hidden w depth (written blocks name at c) name (at + 1) cs hidden)

pub all_written_alike : (w : World) (depth : ℕ) (a b : Blocks) (name : BlockName) (at : ℕ) (cs : List Cell) → depth_of name ≤ depth → hides w name ≡ false → AreWritable (reached_in w) name at (length cs) → AreAlike w depth a b → AreAlike w depth (all_written a name at cs) (all_written b name at cs)
all_written_alike w depth a b name at [] near shown reached same = same
all_written_alike w depth a b name at (c ∷ cs) near shown reached same =
    all_written_alike w depth (written a name at c) (written b name at c) name (at + 1) cs near shown
    (λ i less. subst (λ n. reached_in w name n ≡ true) (next at i) (reached (suc i) (more i (length cs) less)))
    (written_alike w depth a b name at c near (open_by w name at shown (subst (λ n. reached_in w name n ≡ true) (plus_zero at) (reached 0 (some (length cs))))) same)
  where
    next : (at i : ℕ) → at + suc i ≡ at + 1 + i
    next at i = omega arith

    more : (i n : ℕ) → i < n → suc i < suc n
    more i n h = omega (arith, h)

    some : (n : ℕ) → 0 < suc n
    some n = omega arith

-- ---- as it is declared

nothing_leads : (p : ProgramTree) (w : World) (name : BlockName) (i : ℕ) → CellLeads p w name (slice_index_or [] i nothing)
nothing_leads p w name zero = tt {0}
nothing_leads p w name (suc i) = tt {0}

pub fresh_leads : (p : ProgramTree) (w : World) (name : BlockName) (shape : BlockShape) (i : ℕ) → CellLeads p w name (slice_index_or (fresh shape).cells i nothing)
fresh_leads p w name OnePointer zero = tt {0}
fresh_leads p w name OnePointer (suc i) = nothing_leads p w name i
fresh_leads p w name (Ints types) i = replicate_keeps (CellLeads p w name) (length types) i nothing nothing (tt {0}) (tt {0})

-- ---- a function is entered one deeper

near_apart : (near depth : ℕ) → near ≤ depth → nat_eq near (depth + 1) ≡ false
near_apart near depth le = nat_eq_below near (depth + 1) (let lt : near < depth + 1 = omega (arith, le) in lt)

who_near : (w : World) (depth g near : ℕ) → near ≤ depth → (inside w (depth + 1) g).who near ≡ w.who near
who_near w depth g near le = ap (λ b. if b then g else w.who near) (near_apart near depth le)

pub hides_near : (w : World) (depth g : ℕ) (name : BlockName) → depth_of name ≤ depth → hides (inside w (depth + 1) g) name ≡ hides w name
hides_near w depth g (Local d v) le = ap (λ f. w.secret (of_variable f v)) (who_near w depth g d le)
hides_near w depth g (Global n) le = refl
hides_near w depth g (Received k) le = refl

reached_near : (w : World) (depth g : ℕ) (name : BlockName) (i : ℕ) → reached_in (inside w (depth + 1) g) name i ≡ reached_in w name i
reached_near w depth g (Local d v) i = refl
reached_near w depth g (Global n) i = refl
reached_near w depth g (Received k) i = refl

type_near : (p : ProgramTree) (w : World) (depth g : ℕ) (name : BlockName) → depth_of name ≤ depth → type_in p (inside w (depth + 1) g) name ≡ type_in p w name
type_near p w depth g (Local d v) le = ap (λ f. slice_get (context_in p f).variables v) (who_near w depth g d le)
type_near p w depth g (Global n) le = refl
type_near p w depth g (Received k) le = refl

open_near : (w : World) (depth g : ℕ) (name : BlockName) (i : ℕ) → depth_of name ≤ depth → is_open (inside w (depth + 1) g) name i ≡ is_open w name i
open_near w depth g name i le = ap₂ (λ a b. not a && b) (hides_near w depth g name le) (reached_near w depth g name i)

-- a pointer that is held this far up leads as it did
pub leads_inside : (p : ProgramTree) (w : World) (near depth g : ℕ) (s t : Bool) (elem : Elem) (block : BlockName) (base count : ℕ) → near ≤ depth → s ≡ t → Leads p w near s elem block base count → Leads p (inside w (depth + 1) g) near t elem block base count
leads_inside p w near depth g s t elem block base count le same leads =
    let first : depth_of block ≤ near = leads.near in
    let far : depth_of block ≤ depth = omega (arith, first, le) in
    record {
      object = ap pointee_of (type_near p w depth g block far) ∙ leads.object;
      near = first;
      reached = λ i less. reached_near w depth g block (base + i) ∙ leads.reached i less;
      alike = hides_near w depth g block far ∙ leads.alike ∙ same;
    }

leads_outside : (p : ProgramTree) (w : World) (near depth g : ℕ) (s t : Bool) (elem : Elem) (block : BlockName) (base count : ℕ) → near ≤ depth → s ≡ t → Leads p (inside w (depth + 1) g) near s elem block base count → Leads p w near t elem block base count
leads_outside p w near depth g s t elem block base count le same leads =
    let first : depth_of block ≤ near = leads.near in
    let far : depth_of block ≤ depth = omega (arith, first, le) in
    record {
      object = ap pointee_of (sym (type_near p w depth g block far)) ∙ leads.object;
      near = first;
      reached = λ i less. sym (reached_near w depth g block (base + i)) ∙ leads.reached i less;
      alike = sym (hides_near w depth g block far) ∙ leads.alike ∙ same;
    }

cell_inside : (p : ProgramTree) (w : World) (depth g : ℕ) (name : BlockName) (c : Cell) → depth_of name ≤ depth → CellLeads p w name c → CellLeads p (inside w (depth + 1) g) name c
cell_inside p w depth g name (cell.Int v) le held = tt {0}
cell_inside p w depth g name (cell.Ptr pointer.Null) le held = tt {0}
cell_inside p w depth g name (cell.Sealed h) le held = tt {0}
cell_inside p w depth g name (cell.Ptr (pointer.At block base count index)) le held = record {
  elem = held.elem;
  typed = ap pointee_of (type_near p w depth g name le) ∙ held.typed;
  leads = leads_inside p w (depth_of name) depth g (hides w name) (hides (inside w (depth + 1) g) name) held.elem block base count le (sym (hides_near w depth g name le)) held.leads;
}

cell_outside : (p : ProgramTree) (w : World) (depth g : ℕ) (name : BlockName) (c : Cell) → depth_of name ≤ depth → CellLeads p (inside w (depth + 1) g) name c → CellLeads p w name c
cell_outside p w depth g name (cell.Int v) le held = tt {0}
cell_outside p w depth g name (cell.Ptr pointer.Null) le held = tt {0}
cell_outside p w depth g name (cell.Sealed h) le held = tt {0}
cell_outside p w depth g name (cell.Ptr (pointer.At block base count index)) le held = record {
  elem = held.elem;
  typed = ap pointee_of (sym (type_near p w depth g name le)) ∙ held.typed;
  leads = leads_outside p w (depth_of name) depth g (hides (inside w (depth + 1) g) name) (hides w name) held.elem block base count le (hides_near w depth g name le) held.leads;
}

below : (d depth : ℕ) → d ≤ depth → nat_lt d (depth + 1) ≡ true
below d depth le = nat_lt_true d (depth + 1) (let lt : d < depth + 1 = omega (arith, le) in lt)

-- ---- its variables

shapes_lead : (p : ProgramTree) (w : World) (name : BlockName) (shapes : List BlockShape) (v i : ℕ) → CellLeads p w name (slice_index_or (slice_index_or (map fresh shapes) v no_block).cells i nothing)
shapes_lead p w name [] zero i = nothing_leads p w name i
shapes_lead p w name [] (suc v) i = nothing_leads p w name i
shapes_lead p w name (s ∷ shapes) zero i = fresh_leads p w name s i
shapes_lead p w name (s ∷ shapes) (suc v) i = shapes_lead p w name shapes v i

near_of : (d depth : ℕ) → d ≤ depth + 1 → nat_eq d (depth + 1) ≡ false → d ≤ depth
near_of d depth le apart = grind (arith, nat_tests)

pub frame_leads : (p : ProgramTree) (w : World) (depth g : ℕ) (blocks : Blocks) (shapes : List BlockShape) → PointersLead p w depth blocks → PointersLead p (inside w (depth + 1) g) (depth + 1) (with_frame blocks (depth + 1) shapes)
frame_leads p w depth g blocks shapes all (Global n) i near = cell_inside p w depth g (Global n) (cell_at blocks (Global n) i) (zero_at_most depth) (all (Global n) i (zero_at_most depth))
frame_leads p w depth g blocks shapes all (Received k) i near = cell_inside p w depth g (Received k) (cell_at blocks (Received k) i) (zero_at_most depth) (all (Received k) i (zero_at_most depth))
frame_leads p w depth g blocks shapes all (Local d v) i near = go (nat_eq d (depth + 1)) refl
  where
    go : (t : Bool) → nat_eq d (depth + 1) ≡ t → CellLeads p (inside w (depth + 1) g) (Local d v) (slice_index_or (if t then slice_index_or (map fresh shapes) v no_block else blocks (Local d v)).cells i nothing)
    go true e = shapes_lead p (inside w (depth + 1) g) (Local d v) shapes v i
    go false e = cell_inside p w depth g (Local d v) (cell_at blocks (Local d v) i) (near_of d depth near e) (all (Local d v) i (near_of d depth near e))

pub frame_alike : (w : World) (depth g : ℕ) (a b : Blocks) (shapes : List BlockShape) → AreAlike w depth a b → AreAlike (inside w (depth + 1) g) (depth + 1) (with_frame a (depth + 1) shapes) (with_frame b (depth + 1) shapes)
frame_alike w depth g a b shapes same (Global n) i near open_ = same (Global n) i (zero_at_most depth) (sym (open_near w depth g (Global n) i (zero_at_most depth)) ∙ open_)
frame_alike w depth g a b shapes same (Received k) i near open_ = same (Received k) i (zero_at_most depth) (sym (open_near w depth g (Received k) i (zero_at_most depth)) ∙ open_)
frame_alike w depth g a b shapes same (Local d v) i near open_ = go (nat_eq d (depth + 1)) refl
  where
    go : (t : Bool) → nat_eq d (depth + 1) ≡ t → slice_get (if t then slice_index_or (map fresh shapes) v no_block else a (Local d v)).cells i ≡ slice_get (if t then slice_index_or (map fresh shapes) v no_block else b (Local d v)).cells i
    go true e = refl
    go false e = same (Local d v) i (near_of d depth near e) (sym (open_near w depth g (Local d v) i (near_of d depth near e)) ∙ open_)

pub frame_kept : (w : World) (depth : ℕ) (blocks : Blocks) (shapes : List BlockShape) → AreAlike w depth blocks (with_frame blocks (depth + 1) shapes)
frame_kept w depth blocks shapes (Global n) i near open_ = refl
frame_kept w depth blocks shapes (Received k) i near open_ = refl
frame_kept w depth blocks shapes (Local d v) i near open_ = ap (λ t. slice_get (if t then slice_index_or (map fresh shapes) v no_block else blocks (Local d v)).cells i) (sym (near_apart d depth near))

-- ---- its arguments

abbrev pub ArgumentsLead : ProgramTree → World → ℕ → ℕ → List Cell → Type 0
ArgumentsLead p w depth v [] = Unit {0}
ArgumentsLead p w depth v (a ∷ args) = CellLeads p w (Local depth v) a × ArgumentsLead p w depth (v + 1) args

pub arguments_lead : (p : ProgramTree) (w : World) (depth v : ℕ) (blocks : Blocks) (args : List Cell) → PointersLead p w depth blocks → ArgumentsLead p w depth v args → PointersLead p w depth (with_arguments blocks depth v args)
arguments_lead p w depth v blocks [] all new = all
arguments_lead p w depth v blocks (a ∷ args) all new =
    arguments_lead p w depth (v + 1) (written blocks (Local depth v) 0 a) args (written_leads p w depth blocks (Local depth v) 0 a (at_most_self depth) all new.0) new.1

-- the same, where the variable isn't secret
abbrev pub ArgumentsAlike : World → ℕ → ℕ → List Cell → List Cell → Type 0
ArgumentsAlike w depth v [] [] = Unit {0}
ArgumentsAlike w depth v [] (b ∷ args) = ⊥
ArgumentsAlike w depth v (a ∷ args) [] = ⊥
ArgumentsAlike w depth v (a ∷ args) (b ∷ args') = (hides w (Local depth v) ≡ false → a ≡ b) × ArgumentsAlike w depth (v + 1) args args'

pub arguments_alike : (w : World) (depth v : ℕ) (a b : Blocks) (args args' : List Cell) → AreAlike w depth a b → ArgumentsAlike w depth v args args' → AreAlike w depth (with_arguments a depth v args) (with_arguments b depth v args')
arguments_alike w depth v a b [] [] same new = same
arguments_alike w depth v a b [] (y ∷ args') same new = elim new [ ]
arguments_alike w depth v a b (x ∷ args) [] same new = elim new [ ]
arguments_alike w depth v a b (x ∷ args) (y ∷ args') same new =
    arguments_alike w depth (v + 1) (written a (Local depth v) 0 x) (written b (Local depth v) 0 y) args args' (go (hides w (Local depth v)) refl) new.1
  where
    go : (t : Bool) → hides w (Local depth v) ≡ t → AreAlike w depth (written a (Local depth v) 0 x) (written b (Local depth v) 0 y)
    go true e = alike_both w depth a (written a (Local depth v) 0 x) b (written b (Local depth v) 0 y) same (written_hidden w depth a (Local depth v) 0 x e) (written_hidden w depth b (Local depth v) 0 y e)
    go false e = subst (λ z. AreAlike w depth (written a (Local depth v) 0 x) (written b (Local depth v) 0 z)) (new.0 e)
        (written_alike w depth a b (Local depth v) 0 x (at_most_self depth) (open_by w (Local depth v) 0 e refl) same)

-- what lies deeper is changed
pub written_deeper : (w : World) (depth : ℕ) (blocks : Blocks) (name : BlockName) (i : ℕ) (v : Cell) → depth < depth_of name → AreAlike w depth blocks (written blocks name i v)
written_deeper w depth blocks name i v deep other j near open_ = go (is_same_name name other) refl
  where
    go : (t : Bool) → is_same_name name other ≡ t → slice_get (blocks other).cells j ≡ slice_get (if t then with_cell (blocks name) i v else blocks other).cells j
    go true e =
        let same : depth_of name ≡ depth_of other = ap depth_of (same_name name other e) in
        absurd (omega (arith, same, deep, near))
    go false e = refl

pub arguments_kept : (w : World) (depth v : ℕ) (blocks : Blocks) (args : List Cell) → AreAlike w depth blocks (with_arguments blocks (depth + 1) v args)
arguments_kept w depth v blocks [] = λ name i near open_. refl
arguments_kept w depth v blocks (a ∷ args) =
    alike_on w depth blocks (written blocks (Local (depth + 1) v) 0 a) (with_arguments (written blocks (Local (depth + 1) v) 0 a) (depth + 1) (v + 1) args)
    (written_deeper w depth blocks (Local (depth + 1) v) 0 a (let lt : depth < depth + 1 = omega arith in lt)) (arguments_kept w depth (v + 1) (written blocks (Local (depth + 1) v) 0 a) args)

-- ---- it returns

pub left_leads : (p : ProgramTree) (w : World) (depth g : ℕ) (blocks : Blocks) → PointersLead p (inside w (depth + 1) g) (depth + 1) blocks → PointersLead p w depth (without_frames blocks (depth + 1))
left_leads p w depth g blocks all (Global n) i near = cell_outside p w depth g (Global n) (cell_at blocks (Global n) i) (zero_at_most depth) (all (Global n) i (zero_at_most (depth + 1)))
left_leads p w depth g blocks all (Received k) i near = cell_outside p w depth g (Received k) (cell_at blocks (Received k) i) (zero_at_most depth) (all (Received k) i (zero_at_most (depth + 1)))
left_leads p w depth g blocks all (Local d v) i near =
    subst (λ t. CellLeads p w (Local d v) (slice_index_or (if t then blocks (Local d v) else no_block).cells i nothing)) (sym (below d depth near))
    (cell_outside p w depth g (Local d v) (cell_at blocks (Local d v) i) near (all (Local d v) i (let le : d ≤ depth + 1 = omega (arith, near) in le)))

pub left_alike : (w : World) (depth g : ℕ) (a b : Blocks) → AreAlike (inside w (depth + 1) g) (depth + 1) a b → AreAlike w depth (without_frames a (depth + 1)) (without_frames b (depth + 1))
left_alike w depth g a b same (Global n) i near open_ = same (Global n) i (zero_at_most (depth + 1)) (open_near w depth g (Global n) i near ∙ open_)
left_alike w depth g a b same (Received k) i near open_ = same (Received k) i (zero_at_most (depth + 1)) (open_near w depth g (Received k) i near ∙ open_)
left_alike w depth g a b same (Local d v) i near open_ =
    subst (λ t. slice_get (if t then a (Local d v) else no_block).cells i ≡ slice_get (if t then b (Local d v) else no_block).cells i) (sym (below d depth near))
    (same (Local d v) i (let le : d ≤ depth + 1 = omega (arith, near) in le) (open_near w depth g (Local d v) i near ∙ open_))

pub left_kept : (w : World) (depth : ℕ) (blocks : Blocks) → AreAlike w depth blocks (without_frames blocks (depth + 1))
left_kept w depth blocks (Global n) i near open_ = refl
left_kept w depth blocks (Received k) i near open_ = refl
left_kept w depth blocks (Local d v) i near open_ = ap (λ t. slice_get (if t then blocks (Local d v) else no_block).cells i) (sym (below d depth near))

-- what holds one deeper holds here
pub alike_outside : (w : World) (depth g : ℕ) (a b : Blocks) → AreAlike (inside w (depth + 1) g) (depth + 1) a b → AreAlike w depth a b
alike_outside w depth g a b same name i near open_ = same name i (let le : depth_of name ≤ depth + 1 = omega (arith, near) in le) (open_near w depth g name i near ∙ open_)
