-- Slots so far behind others.
use Rattle.std.specs.Prelude.{ℕ, ◌+◌, List, map}
use Rattle.typed_tree.specs.ExpressionTree.{LinkTree, LinkTrees, link, no_links, link_and}
use Rattle.sides.specs.Carried.{Scope, carried, linked_slots}

abbrev pub moved : ℕ → List ℕ → List ℕ
moved by slots = map (λ s. s + by) slots

-- a link from a value that carries these, where what its operand carries is so far behind
abbrev pub link_moved : Scope → ℕ → List ℕ → LinkTree → List ℕ
link_moved c by left (link s ty op a) = linked_slots left op (moved by (carried c a))

-- the links from a value that carries these, where what their operands carry is so far behind
abbrev pub links_moved : Scope → ℕ → List ℕ → LinkTrees → List ℕ
links_moved c by left no_links = left
links_moved c by left (link_and (link s ty op a) rest) = links_moved c by (linked_slots left op (moved by (carried c a))) rest
