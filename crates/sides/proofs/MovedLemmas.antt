-- Slots so far behind others.
use Rattle.std.proofs.Common.{◌≡◌, ◌∙◌, ℕ, ◌+◌, refl, ap, arith, List, [], ◌∷◌}
use Rattle.typed_tree.specs.declared.link.LinkStep.{LinkStep}
use Rattle.typed_tree.specs.declared.link.LinkStep.TheVariants.{Arithmetic, Shift, Move, MoveBy, Difference, Compare}
use Rattle.typed_tree.specs.ExpressionTree.{LinkTrees, link, no_links, link_and}
use Rattle.sides.specs.Carried.{Scope, carried, linked_slots, links_slots}
use Rattle.sides.specs.Moved.{moved, links_moved}

pub moved_twice : (by more : ℕ) (xs : List ℕ) → moved more (moved by xs) ≡ moved (by + more) xs
moved_twice by more [] = refl
moved_twice by more (x ∷ xs) =
    let e : (x + by) + more ≡ x + (by + more) = omega arith in
    ap (λ y. y ∷ moved more (moved by xs)) e ∙ ap (λ ys. (x + (by + more)) ∷ ys) (moved_twice by more xs)

linked_moved : (by : ℕ) (left : List ℕ) (op : LinkStep) (right : List ℕ) → moved by (linked_slots left op right) ≡ linked_slots (moved by left) op (moved by right)
linked_moved by left (Arithmetic op t) right = refl
linked_moved by left (Shift dir) right = refl
linked_moved by left (Move back) right = refl
linked_moved by left MoveBy right = refl
linked_moved by left Difference right = refl
linked_moved by left (Compare op) right = refl

pub links_are : (c : Scope) (by : ℕ) (left : List ℕ) (ls : LinkTrees) → moved by (links_slots c left ls) ≡ links_moved c by (moved by left) ls
links_are c by left no_links = refl
links_are c by left (link_and (link s ty op a) rest) =
    links_are c by (linked_slots left op (carried c a)) rest
    ∙ ap (λ xs. links_moved c by xs rest) (linked_moved by left op (carried c a))
