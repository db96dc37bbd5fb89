-- What is secret in a run, and when two memories are alike as far as it isn't.
use Rattle.std.proofs.Common.{◌≡◌, ◌∙◌, ◌≤◌, ℕ, ◌*◌, Bool, true, false, Option, Some, None, refl, sym, ap}
use Rattle.std.specs.Prelude.{◌&&◌, if◌then◌else◌, nat_eq, not, slice_get}
use Rattle.pt_base.proofs.Numbers.{nat_eq_self}
use Rattle.pt_tree.specs.declared.signature.Elem.{Elem}
use Rattle.typed_tree.specs.declared.types.VarTy.{VarTy}
use Rattle.typed_tree.specs.Cells.{cells_of}
use Rattle.typed_tree.specs.TypeTests.{pointee_of, type_of_elem}
use Rattle.block_memory.specs.declared.cell.Cell.{Cell}
use Rattle.block_memory.specs.declared.cell.Cell.TheVariants as cell
use Rattle.block_memory.specs.declared.cell.Pointer.TheVariants as pointer
use Rattle.block_memory.specs.declared.cell.BlockName.{BlockName}
use Rattle.block_memory.specs.declared.cell.BlockName.TheVariants.{Local, Global, Received}
use Rattle.block_memory.specs.Blocks.{Blocks}
use Rattle.pt_core.specs.CodeTree.{ProgramTree}
use Rattle.pt_core.specs.Calls.{context_in}
use Rattle.core_soundness_law.specs.Fits.{depth_of}
use Rattle.lent_blocks_law.specs.Lent.{Writable, AreWritable}
use Rattle.monitor_labels.specs.Nodes.{Node, of_variable, of_global}
use Rattle.independence_law.specs.Bodies.{Reached, cell_at}

-- The nodes that are secret; whether received blocks are; which of their cells are reached; and which function is active at each depth.
pub record World : Type 0 where
  pub secret : Node → Bool
  pub received : Bool
  pub reached : Reached
  pub who : ℕ → ℕ

-- a block of which each cell is secret
abbrev pub hides : World → BlockName → Bool
hides w (Local depth v) = w.secret (of_variable (w.who depth) v)
hides w (Global g) = w.secret (of_global g)
hides w (Received k) = w.received

-- what may be reached: all but some cells of received blocks
abbrev pub reached_in : World → Writable
reached_in w (Local depth v) i = true
reached_in w (Global g) i = true
reached_in w (Received k) i = w.reached k i

abbrev pub is_open : World → BlockName → ℕ → Bool
is_open w name i = not (hides w name) && reached_in w name i

-- Two memories are the same in what is open, of no deeper function than this.
abbrev pub AreAlike : World → ℕ → Blocks → Blocks → Type 0
AreAlike w depth a b = (name : BlockName) (i : ℕ) → depth_of name ≤ depth → is_open w name i ≡ true → slice_get (a name).cells i ≡ slice_get (b name).cells i

-- ---- pointers

-- the type of the variable that has this block
abbrev pub type_in : ProgramTree → World → BlockName → Option VarTy
type_in p w (Local depth v) = slice_get (context_in p (w.who depth)).variables v
type_in p w (Global g) = None
type_in p w (Received k) = None

-- A pointer to so many elements of this kind, held at this depth in a node that is secret or not: it points into an object that is no
-- pointer's variable, of no deeper function; all its elements are reached; and it is as secret as what it points to.
pub record Leads (p : ProgramTree) (w : World) (depth : ℕ) (secret : Bool) (elem : Elem) (block : BlockName) (base count : ℕ) : Type 0 where
  pub object : pointee_of (type_in p w block) ≡ None
  pub near : depth_of block ≤ depth
  pub reached : AreWritable (reached_in w) block base (count * cells_of p.structs (type_of_elem elem))
  pub alike : hides w block ≡ secret

-- a pointer that is the value of an expression: what it starts from is as secret
pub record ValuePoints (p : ProgramTree) (w : World) (depth : ℕ) (kind : Option Elem) (start : Option Node) (block : BlockName) (base count : ℕ) : Type 0 where
  pub elem : Elem
  pub node : Node
  pub typed : kind ≡ Some elem
  pub starts : start ≡ Some node
  pub leads : Leads p w depth (w.secret node) elem block base count

abbrev pub ValueLeads : ProgramTree → World → ℕ → Option Elem → Option Node → Cell → Type 0
ValueLeads p w depth kind start (cell.Int v) = Unit {0}
ValueLeads p w depth kind start (cell.Ptr pointer.Null) = Unit {0}
ValueLeads p w depth kind start (cell.Ptr (pointer.At block base count index)) = ValuePoints p w depth kind start block base count
ValueLeads p w depth kind start (cell.Sealed h) = Unit {0}

-- a pointer that lies in a variable, of a pointer's type
pub record HeldPoints (p : ProgramTree) (w : World) (depth : ℕ) (kind : Option Elem) (secret : Bool) (block : BlockName) (base count : ℕ) : Type 0 where
  pub elem : Elem
  pub typed : kind ≡ Some elem
  pub leads : Leads p w depth secret elem block base count

abbrev pub HeldLeads : ProgramTree → World → ℕ → Option Elem → Bool → Cell → Type 0
HeldLeads p w depth kind secret (cell.Int v) = Unit {0}
HeldLeads p w depth kind secret (cell.Ptr pointer.Null) = Unit {0}
HeldLeads p w depth kind secret (cell.Ptr (pointer.At block base count index)) = HeldPoints p w depth kind secret block base count
HeldLeads p w depth kind secret (cell.Sealed h) = Unit {0}

abbrev pub CellLeads : ProgramTree → World → BlockName → Cell → Type 0
CellLeads p w name c = HeldLeads p w (depth_of name) (pointee_of (type_in p w name)) (hides w name) c

-- each pointer that is held at this depth or above
abbrev pub PointersLead : ProgramTree → World → ℕ → Blocks → Type 0
PointersLead p w depth blocks = (name : BlockName) (i : ℕ) → depth_of name ≤ depth → CellLeads p w name (cell_at blocks name i)

-- ---- alike

pub alike_self : (w : World) (depth : ℕ) (a : Blocks) → AreAlike w depth a a
alike_self w depth a name i near open_ = refl

pub alike_turned : (w : World) (depth : ℕ) (a b : Blocks) → AreAlike w depth a b → AreAlike w depth b a
alike_turned w depth a b same name i near open_ = sym (same name i near open_)

pub alike_on : (w : World) (depth : ℕ) (a b c : Blocks) → AreAlike w depth a b → AreAlike w depth b c → AreAlike w depth a c
alike_on w depth a b c first second name i near open_ = first name i near open_ ∙ second name i near open_

-- where each of two memories keeps what is open, they stay alike
pub alike_both : (w : World) (depth : ℕ) (a a' b b' : Blocks) → AreAlike w depth a b → AreAlike w depth a a' → AreAlike w depth b b' → AreAlike w depth a' b'
alike_both w depth a a' b b' same left right = alike_on w depth a' a b' (alike_turned w depth a a' left) (alike_on w depth a b b' same right)

pub open_by : (w : World) (name : BlockName) (i : ℕ) → hides w name ≡ false → reached_in w name i ≡ true → is_open w name i ≡ true
open_by w name i shown reached = ap (λ b. not b && reached_in w name i) shown ∙ reached

pub open_shows : (w : World) (name : BlockName) (i : ℕ) → is_open w name i ≡ true → hides w name ≡ false
open_shows w name i h = go (hides w name) h
  where
    go : (b : Bool) → (not b && reached_in w name i) ≡ true → b ≡ false
    go true e = cc
    go false e = refl

-- ---- a function is entered one deeper

-- this function is active at this depth
abbrev pub inside : World → ℕ → ℕ → World
inside w depth g = record { secret = w.secret; received = w.received; reached = w.reached; who = λ n. if nat_eq n depth then g else w.who n }

pub who_inside : (w : World) (depth g : ℕ) → (inside w depth g).who depth ≡ g
who_inside w depth g = ap (λ b. if b then g else w.who depth) (nat_eq_self depth)
