-- Where numbers stand in a list.
use Rattle.std.specs.Prelude.{◌≡◌, ℕ, List, nat_eq}
use Rattle.std.specs.BTreeMap.{get}
use Rattle.std.specs.List.{position_from}
use Rattle.std.specs.Ordering.{nat_cmp}
use Rattle.std.specs.declared.alloc.Global.{Global}
use Rattle.std.specs.declared.collections.BTreeMap.{BTreeMap}

-- the map has the first place of each number of the list
abbrev pub ArePlaces : BTreeMap ℕ ℕ Global → List ℕ → Type 0
ArePlaces places numbers = (n : ℕ) → get nat_cmp places n ≡ position_from (nat_eq n) 0 numbers
