-- Values that move, one more and all together.
use Rattle.std.proofs.Common.{◌≡◌, ◌∙◌, ℕ, ◌+◌, ap, arith, List, [], ◌∷◌, ◌++◌, length, length-append, map, append-nil}
use Rattle.std.specs.List.{flat_map}
use Rattle.std.proofs.lemmas.List.{map-append}
use Rattle.std.proofs.lemmas.List.Concat.{flat_map-append}
use Rattle.flow_edges.specs.declared.moves.Move.{Move}
use Rattle.flow_edges.specs.Moves as is
use Rattle.flow_edges.specs.MoveView.{moved_edges, view_move}

pub moved_append : (xs ys : List Move) → moved_edges (xs ++ ys) ≡ moved_edges xs ++ moved_edges ys
moved_append xs ys = ap (flat_map is.move_edges) (map-append view_move xs ys) ∙ flat_map-append is.move_edges (map view_move xs) (map view_move ys)

pub moved_push : (xs xs' : List Move) (m : Move) → xs' ≡ xs ++ m ∷ [] → moved_edges xs' ≡ moved_edges xs ++ is.move_edges (view_move m)
moved_push xs xs' m added = ap moved_edges added ∙ moved_append xs (m ∷ []) ∙ ap (λ es. moved_edges xs ++ es) (append-nil (is.move_edges (view_move m)))

-- one more, counted
pub moved_count : (ms rest : List Move) (m : Move) (n n' more total : ℕ) → ms ≡ m ∷ rest → more ≡ length (is.move_edges (view_move m)) → n' ≡ n + more → n + length (moved_edges ms) ≡ total → n' + length (moved_edges rest) ≡ total
moved_count ms rest m n n' more total split count added e =
    let here : length (moved_edges ms) ≡ length (is.move_edges (view_move m) ++ moved_edges rest) = ap (λ xs. length (moved_edges xs)) split in
    let both = length-append (is.move_edges (view_move m)) (moved_edges rest) in
    omega (arith, here, both, count, added, e)
