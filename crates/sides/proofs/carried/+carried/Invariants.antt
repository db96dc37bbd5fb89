use Rattle.std.proofs.Common.{◌≡◌, ◌≤◌, drop, length, map, take}
use Rattle.typed_tree.specs.ExpressionTree.{view_link, link_trees}
use Rattle.sides.specs.Moved.{links_moved}
use Rattle.sides.specs.ScopeView.{view_scope}
use Rattle.sides.proofs.carried.+carried.Given as goal

abbrev pub invariant-add_links-loop-link : goal.invariant-add_links-loop-link
invariant-add_links-loop-link l = record {
  long : l.before ≤ length l.slots.items;
  kept : take l.before l.slots.items ≡ take l.fn.before l.fn.slots.items;
  rest : links_moved (view_scope l.scope) l.behind (drop l.before l.slots.items) (link_trees (map view_link (drop l.link-index l.links)))
      ≡ links_moved (view_scope l.fn.scope) l.fn.behind (drop l.fn.before l.fn.slots.items) (link_trees (map view_link l.fn.links));
}
