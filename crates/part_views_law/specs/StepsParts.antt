-- A part of a program beside the whole, and a machine of the part that is seen in the whole's.
use Rattle.std.specs.Prelude.{◌≡◌, ◌≤◌, ◌<◌, ◌+◌, ℕ, Bool, true, false, ◌||◌, List, [], ◌∷◌, map, IsTrue, is_some, length}
use Rattle.pt_tree.specs.declared.signature.Signature.{Signature}
use Rattle.handle_store.specs.Stored.{AreInRange}
use Rattle.block_memory.specs.declared.cell.Cell.{Cell}
use Rattle.block_memory.specs.declared.cell.BlockName.TheVariants.{Received}
use Rattle.pt_core.specs.CodeTree.{ProgramTree}
use Rattle.pt_core.specs.Types.{global_type}
use Rattle.pt_core.specs.Values.{number_in}
use Rattle.pt_core.specs.Calls.{context_in, function_in, signature_in}
use Rattle.pt_core.specs.Steps.{Active, Gate, Machine, away, enters, here}
use Rattle.pt_core.specs.WellFormed.{function_at, is_sound, signature_at}
use Rattle.core_soundness_law.specs.Fits.{Fits}
use Rattle.core_soundness_law.specs.Kept.{by_store}
use Rattle.core_soundness_law.specs.StepLaws.{NumberFits}
use Rattle.handle_classes.specs.Computes.{has_handle}
use Rattle.part_views_law.specs.Views.{IsView, Lies, View, has_global, seen_cell}

-- ---- programs

-- Calls of both come to a value of one type or to none, and run in one half, inside the program or outside. Their parameters may
-- differ.
pub record SameCalls (s s' : Signature) : Type 0 where
  pub result : s.result ≡ s'.result
  pub privileged : s.privileged ≡ s'.privileged
  pub host : s.host ≡ s'.host

-- What the part's code names is the whole's: the structs, the part's functions, to which calls are the same, and its globals' types.
pub record IsPart (part whole : ProgramTree) : Type 0 where
  pub structs : whole.structs ≡ part.structs
  pub functions : (f : ℕ) → IsTrue (is_some (function_at part f)) → function_in whole f ≡ function_in part f
  pub signatures : (f : ℕ) → IsTrue (is_some (function_at part f)) → SameCalls (signature_in whole f) (signature_in part f)
  pub globals : (g : ℕ) → has_global part g ≡ true → global_type (context_in whole 0) g ≡ global_type (context_in part 0) g

-- A part that is sound, and a view of it by which each handle stands for a number of its type; its functions are deeper than
-- `base`.
pub record IsViewed (v : View) (base : ℕ) (monitor : Bool) (part whole : ProgramTree) : Type 0 where
  pub sound : IsTrue (is_sound monitor part)
  pub parts : IsPart part whole
  pub view : IsView v base part
  pub ranged : AreInRange v.store

-- ---- machines

-- functions that are deeper than `base`; in the monitor a privileged one is always active, and in the slave never
abbrev pub AllAbove : ℕ → Bool → List Active → Type 0
AllAbove base monitor [] = Unit {0}
AllAbove base monitor (a ∷ rest) = (base < a.depth) × (a.privileged ≡ monitor) × AllAbove base monitor rest

-- A machine of the part that the view shows, where others took so many turns and n are the whole budget. It fits, where handles
-- stand for what is stored; each received block with integers lies somewhere; and its own budget is no less than what the others
-- leave.
pub record Stands (v : View) (base : ℕ) (monitor : Bool) (turns n : ℕ) (part : ProgramTree) (x : Machine) : Type 0 where
  pub fits : Fits (by_store v.store) monitor part x
  pub received : (k : ℕ) → 1 ≤ length (x.blocks (Received k)).types → Lies v (Received k)
  pub above : AllAbove base monitor x.active
  pub left : n ≤ x.budget + turns

-- ---- gates

abbrev pub HasSignature : ProgramTree → ℕ → Type 0
HasSignature part f = IsTrue (is_some (signature_at part f))

-- Of what the part has signatures for, and so of all that its code calls, a gate in this state lets calls enter functions of the
-- part alone, and makes calls of hosts alone here, which answer what is of their results.
pub record CallsFit (part : ProgramTree) {G : Type 0} (gate : Gate G) (g : G) : Type 0 where
  pub entered : (f : ℕ) (args : List Cell) → HasSignature part f → gate.way g f args ≡ enters → IsTrue (is_some (function_at part f))
  pub made : (f : ℕ) (args : List Cell) → HasSignature part f → gate.way g f args ≡ here → IsTrue (signature_in part f).host
  pub answered : (privileged : Bool) (f : ℕ) (args : List Cell) → HasSignature part f → gate.way g f args ≡ here →
      NumberFits (signature_in part f).result (gate.answer f (map number_in args) (gate.noted privileged f args g)).0

-- Of these, what the part enters, or makes here with no handle, the whole does too, and what goes away is entered there, but for
-- hosts. The states of the gates stay alike, hosts answer alike, and what is entered changes not whether a privileged function
-- is active.
pub record GatesAgree {H G : Type 0} (v : View) (part : ProgramTree) (monitor : Bool) (inner : Gate G) (outer : Gate H) (Alike : H → G → Type 0) : Type 0 where
  pub entered : (h : H) (g : G) (f : ℕ) (args : List Cell) → Alike h g → HasSignature part f → inner.way g f args ≡ enters →
      (outer.way h f (map (seen_cell v) args) ≡ enters) × ((monitor || (signature_in part f).privileged) ≡ monitor)
      × Alike (outer.noted monitor f (map (seen_cell v) args) h) (inner.noted monitor f args g)
  pub made : (h : H) (g : G) (f : ℕ) (args : List Cell) → Alike h g → HasSignature part f → inner.way g f args ≡ here → has_handle args ≡ false →
      (outer.way h f (map (seen_cell v) args) ≡ here)
      × ((outer.answer f (map number_in args) (outer.noted monitor f (map (seen_cell v) args) h)).0 ≡ (inner.answer f (map number_in args) (inner.noted monitor f args g)).0)
      × Alike (outer.answer f (map number_in args) (outer.noted monitor f (map (seen_cell v) args) h)).1 (inner.answer f (map number_in args) (inner.noted monitor f args g)).1
  pub gone : (h : H) (g : G) (f : ℕ) (args : List Cell) → Alike h g → HasSignature part f → inner.way g f args ≡ away → (signature_in part f).host ≡ false → outer.way h f (map (seen_cell v) args) ≡ enters

-- what both gates show of their states is the same
abbrev pub ShowAlike : {H G K : Type 0} → (H → K) → (G → K) → H → G → Type 0
ShowAlike told heard h g = told h ≡ heard g
