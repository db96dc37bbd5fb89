-- Which functions are in each half, as a truth for each: calls are followed from where the half begins.
use Rattle.std.proofs.Common.{List, Bool, codes, length, map, refl}
use Rattle.std.specs.Prelude.{IsTrue, is_some}
use Rattle.typed_tree.specs.TypedTree.{TypedTree}
use Rattle.typed_tree.specs.WellFormed.{is_well_formed}
use Rattle.typed_tree.proofs.NameLemmas.{named_is}
use Rattle.reach.specs.CallGraph.{call_edges, half_starts}
use Rattle.reach.specs.Reached.{IsReached}
use Rattle.reach.specs.declared.calls.Half.{Half}
use Rattle.reach.proofs.CallLemmas.{NamesMain}
use Rattle.reach.proofs.ReachLemmas.{reached_in}
use Rattle.flow_law.proofs.MarkLemmas.{marks_exist}

names_main : (t : TypedTree) → IsTrue (is_well_formed t) → NamesMain t
names_main t h = λ f. named_is t (codes "main") f h

pub reached : (t : TypedTree) → IsTrue (is_well_formed t) → (half : Half) → (table : List Bool) × IsReached t half table
reached t h half =
    let marks = marks_exist (half_starts t half) (call_edges t half) (length t.functions) in
    (map is_some marks.0, reached_in t half (length t.functions) refl (names_main t h) (half_starts t half) (call_edges t half) marks.0 (map is_some marks.0) refl refl marks.1 refl)
