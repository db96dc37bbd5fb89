use Rattle.std.proofs.Common.{arith, refl, ◌≡◌, ◌<◌, ◌+◌, ◌-◌, ◌∙◌, length, get_or, subst}
use Rattle.std.proofs.lemmas.List.{get_or_default}
use Rattle.propagation.specs.Adjacent.{ahead}
use Rattle.propagation.specs.Paths.{from_of, no_edge}
use Rattle.propagation.proofs.AheadLemmas.{place_of_edge, place_within}
use Rattle.std.proofs.lemmas.Grind.{common_steps}
use Rattle.propagation.proofs.PlaceLemmas.{start_is, start_step, placed_step, all_placed}
use Rattle.propagation.proofs.adjacent.adjacent_of.Goals as goal

pub overflow_sub-at : goal.overflow_sub-at
overflow_sub-at c =
    let n = start_is c.args.edges.now _ c.args.slots _ _ c.loop-k.invariant.size c.loop-k-test.true (c.requires.froms c.loop-k.k no_edge c.loop-k-test.true) c.index.ensures c.loop-k.invariant.starts in
    grind (arith, n)

pub index_mut-requires : goal.index_mut-requires
index_mut-requires c =
    let n = start_is c.args.edges.now _ c.args.slots _ _ c.loop-k.invariant.size c.loop-k-test.true (c.requires.froms c.loop-k.k no_edge c.loop-k-test.true) c.index.ensures c.loop-k.invariant.starts in
    let w = place_within c.args.edges.now c.loop-k.k c.loop-k-test.true in
    let count = c.loop-k.invariant.count in
    grind (arith, n, w, count)

pub loop-k-preserved : goal.loop-k-preserved
loop-k-preserved c =
    let within : (from_of c.args.edges.now c.loop-k.k).0 < c.args.slots = c.requires.froms c.loop-k.k no_edge c.loop-k-test.true in
    let size = c.loop-k.invariant.size in
    let n : c.index.result.now ≡ place_of_edge c.args.edges.now c.loop-k.k + 1 = start_is c.args.edges.now _ c.args.slots _ _ size c.loop-k-test.true within c.index.ensures c.loop-k.invariant.starts in
    let read : c.index.result.now ≡ get_or c.loop-k.starts.items (from_of c.args.edges.now c.loop-k.k).0 0 = c.index.ensures ∙ get_or_default c.loop-k.starts.items _ _ 0 (omega (arith, size)) in
    record {
      size = grind (arith, common_steps);
      count = grind (arith, common_steps);
      starts = start_step c.args.edges.now _ c.args.slots _ _ size c.loop-k-test.true within (let e : c.index.result.now - 1 + 1 ≡ c.index.result.now = omega (arith, n) in e ∙ read) c.loop-k.invariant.starts;
      placed = placed_step c.args.edges.now _ c.loop-k.k _ _ c.loop-k.invariant.count c.loop-k-test.true (omega (arith, n)) refl c.loop-k.invariant.placed;
    }

pub returns : goal.returns
returns c =
    let e : c.loop-k.k ≡ length c.args.edges.now = grind arith in
    all_placed c.args.edges.now c.args.slots (record { starts = c.loop-k.starts; links = c.loop-k.links }) c.loop-k.invariant.size c.loop-k.invariant.count
    (λ s lt. subst (λ k. get_or c.loop-k.starts.items s 0 ≡ ahead c.args.edges.now s k) e (c.loop-k.invariant.starts s lt))
    (λ j lt. c.loop-k.invariant.placed j (omega (arith, e)))
    c.requires.froms c.requires.tos
