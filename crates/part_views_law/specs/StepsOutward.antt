-- The steps of a part that aren't its own: it asks for a call, or its outermost function returns.
use Rattle.std.specs.Prelude.{◌≡◌, ℕ, Bool, false, List, [], ◌∷◌, map, Option, Some}
use Rattle.std.specs.Option.{option_map}
use Rattle.pt_base.specs.declared.span.Span.{Span}
use Rattle.block_memory.specs.declared.cell.Cell.{Cell}
use Rattle.block_memory.specs.Blocks.{without_frames}
use Rattle.pt_core.specs.CodeTree.{ProgramTree}
use Rattle.pt_core.specs.Steps.{Active, Answer, Gate, Machine, Step, asked, by_way, ended, idle, moved, returned, spent, step, trapped}
use Rattle.handle_classes.specs.Computes.{computes_next}
use Rattle.part_views_law.specs.Machines.{Below, seated, seen_machine}
use Rattle.part_views_law.specs.Views.{View, seen_cell}
use Rattle.part_views_law.specs.StepsParts.{IsViewed, Stands}

-- The part's machine y awaits a call of this function, and the whole makes the call from what is seen of y, with what is seen of
-- the arguments: it enters the function, or makes the call of a host, as its own gate says.
pub record AskSeen {H : Type 0} (whole : ProgramTree) (outer : Gate H) (v : View) (below : Below) (turns n : ℕ) (h : H) (big : Step H) (y : Machine) (f : ℕ) (args : List Cell) : Type 0 where
  pub caller : Active
  pub rest : List Active
  pub result : Option ℕ
  pub span : Span
  pub active : y.active ≡ caller ∷ rest
  pub awaits : y.awaits ≡ Some (record { callee = f; result = result })
  pub makes : big ≡ by_way whole outer (seen_machine v below turns n y) h span f (map (seen_cell v) args) result caller.depth (outer.way h f (map (seen_cell v) args))

-- The one function that was active in x has returned, and in the whole it returns to those on which the part's stand, with what is
-- seen of its result.
pub record EndSeen {H : Type 0} (v : View) (below : Below) (turns n : ℕ) (h : H) (big : Step H) (x y : Machine) (o : Option Cell) : Type 0 where
  pub last : Active
  pub active : x.active ≡ last ∷ []
  pub left : y ≡ record x { active = []; blocks = without_frames x.blocks last.depth }
  pub returns : big ≡ returned (seen_machine v below turns n x) h (seated below [] last) below.frames (option_map (seen_cell v) o)

abbrev pub Outward : {H : Type 0} → ProgramTree → Gate H → View → Below → ℕ → ℕ → H → Step H → Machine → Machine → Answer → Type 0
Outward whole outer v below turns n h big x y moved = Unit {0}
Outward whole outer v below turns n h big x y (asked f args depth) = AskSeen whole outer v below turns n h big y f args
Outward whole outer v below turns n h big x y (ended o) = EndSeen v below turns n h big x y o
Outward whole outer v below turns n h big x y (trapped trap span) = Unit {0}
Outward whole outer v below turns n h big x y spent = Unit {0}
Outward whole outer v below turns n h big x y idle = Unit {0}

-- Where a machine x of a part is shown in the whole's and its next step computes with no handle: where the step asks for a call, the
-- whole makes it, and where the part's outermost function returns, it returns in the whole.
abbrev pub PartsLead : Type 0 → Type 0 → Type 0
PartsLead H G = (marked : ℕ → ℕ → Bool) (whole part : ProgramTree) (outer : Gate H) (inner : Gate G)
    (v : View) (base : ℕ) (monitor : Bool) (below : Below) (turns n : ℕ) (x : Machine) (h : H) (g : G) →
    IsViewed v base monitor part whole → Stands v base monitor turns n part x → computes_next marked part inner x g ≡ false →
    Outward whole outer v below turns n h (step whole outer (seen_machine v below turns n x) h) x (step part inner x g).machine (step part inner x g).answer
