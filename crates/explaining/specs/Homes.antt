-- The functions in whose texts places stand.
use Rattle.std.specs.Prelude.{◌↔◌, ℕ, zero, suc, List, [], ◌∷◌, ◌++◌, Option, None, Some, Bool, true, false, if◌then◌else◌, is_some, leb, slice_get}
use Rattle.std.specs.List.{Contains}
use Rattle.std.specs.List.Sorted.{IsStrictlySortedBy}
use Rattle.std.specs.Option.{option_map_or}
use Rattle.std.specs.Ordering.{nat_cmp, ordering_then}
use Rattle.std.specs.declared.cmp.Ordering.{Ordering}
use Rattle.reach.specs.Tables.{function_id}
use Rattle.typed_tree.specs.TypedTree.{FunctionTree, TypedTree}
use Rattle.explaining.specs.declared.homes.Home.{Home}
use Rattle.explaining.specs.Holdings.{function_text}

-- a function with a body, by where its name stands
abbrev pub home_if : Bool → ℕ → ℕ → List Home
home_if true at k = record { at = at; number = k } ∷ []
home_if false at k = []

-- those of functions of which the first has the number k
abbrev pub homes_from : ℕ → List FunctionTree → List Home
homes_from k [] = []
homes_from k (f ∷ fs) = home_if (is_some f.body) f.name.from k ++ homes_from (suc k) fs

abbrev pub home_cmp : Home → Home → Ordering
home_cmp a b = ordering_then (nat_cmp a.at b.at) (nat_cmp a.number b.number)

-- these are the functions that have bodies, each once, by where their names stand
pub record AreHomes (t : TypedTree) (homes : List Home) : Type 0 where
  pub sorted : IsStrictlySortedBy home_cmp homes
  pub same : (x : Home) → Contains homes x ↔ Contains (homes_from 0 t.functions) x

-- the last one whose name stands at the place or before it; this one, if none does
abbrev pub last_begun : List Home → ℕ → Option Home → Option Home
last_begun [] at best = best
last_begun (h ∷ homes) at best = if leb h.at at then last_begun homes at (Some h) else best

-- `in FUNCTION: ` of the function in whose text a place stands
abbrev pub place_home : TypedTree → List Home → ℕ → List ℕ
place_home t homes at = option_map_or (λ h. function_text t (function_id h.number)) (last_begun homes at None) []

-- the last one of the first so many, as code finds it; no public clause speaks of it
abbrev pub item_before : List Home → ℕ → Option Home
item_before homes zero = None
item_before homes (suc k) = slice_get homes k
