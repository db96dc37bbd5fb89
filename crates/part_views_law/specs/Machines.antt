-- How the machine of a part is seen in the whole's.
use Rattle.std.specs.Prelude.{◌+◌, ℕ, List, [], ◌∷◌, Option, None}
use Rattle.pt_core.specs.Steps.{Active, Machine}
use Rattle.part_views_law.specs.Views.{View, seen}

-- The functions of others on which a part's stand, and the caller's variable for the result of the part's outermost function,
-- which was started without one.
pub record Below : Type 0 where
  pub result : Option ℕ
  pub frames : List Active

abbrev pub nobody : Below
nobody = record { result = None; frames = [] }

abbrev pub result_over : Below → List Active → Option ℕ → Option ℕ
result_over below [] r = below.result
result_over below (caller ∷ rest) r = r

-- an active function over these of the part
abbrev pub seated : Below → List Active → Active → Active
seated below rest a = record a { result = result_over below rest a.result }

abbrev pub joined : Below → List Active → List Active
joined below [] = below.frames
joined below (a ∷ rest) = seated below rest a ∷ joined below rest

-- `turns` are what others took, n the whole budget
abbrev pub seen_machine : View → Below → ℕ → ℕ → Machine → Machine
seen_machine v below turns n x =
    record { active = joined below x.active; blocks = seen v x.blocks; turns = x.turns + turns; budget = n; awaits = None }
