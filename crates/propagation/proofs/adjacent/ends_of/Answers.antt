use Rattle.std.proofs.Common.{arith, sym, ◌∙◌, ◌+◌, ◌≡◌, get_or, length, ◌<◌, ap, subst}
use Rattle.std.proofs.lemmas.Grind.{common_steps}
use Rattle.std.proofs.lemmas.List.{get_or_default}
use Rattle.propagation.specs.Adjacent.{ahead}
use Rattle.propagation.specs.Paths.{from_of, no_edge}
use Rattle.propagation.proofs.AheadLemmas.{ahead_most, ahead_next, ahead_none}
use Rattle.propagation.proofs.PlaceLemmas.{count_step, count_few, sum_step, sum_later, sum_here}
use Rattle.propagation.proofs.adjacent.ends_of.Goals as goal

pub overflow_add-index_mut : goal.overflow_add-index_mut
overflow_add-index_mut c =
    let n = count_few c.args.edges.now _ c.args.slots _ _ c.loop-e.invariant.size c.loop-e-test.true (c.requires.froms c.loop-e.e-index no_edge c.loop-e-test.true) c.index_mut.ensures.value c.loop-e.invariant.counts in
    let few = c.requires.few in
    grind (arith, n, few)

pub loop-e-preserved : goal.loop-e-preserved
loop-e-preserved c = record {
  size = grind (arith, common_steps);
  counts =
      let within : (from_of c.args.edges.now c.loop-e.e-index).0 < c.args.slots = c.requires.froms c.loop-e.e-index no_edge c.loop-e-test.true in
      let size = c.loop-e.invariant.size in
      let read : c.index_mut.result.now ≡ get_or c.loop-e.ends.items (from_of c.args.edges.now c.loop-e.e-index).0 0 = c.index_mut.ensures.value ∙ get_or_default c.loop-e.ends.items _ _ 0 (omega (arith, size)) in
      count_step c.args.edges.now _ c.args.slots _ _ size c.loop-e-test.true within (ap (λ n. n + 1) read) c.loop-e.invariant.counts;
}

pub loop-s-init : goal.loop-s-init
loop-s-init c = record {
  size = c.loop-e.invariant.size;
  total = sym (ahead_none c.args.edges.now);
  sums = λ t lt. absurd (omega arith);
  counts = let e : c.loop-e.e-index ≡ length c.args.edges.now = grind arith in
      λ t low below. subst (λ k. ahead c.args.edges.now t k + get_or c.loop-e.ends.items t 0 ≡ ahead c.args.edges.now t 0) e (c.loop-e.invariant.counts t below);
}

pub overflow_add-total : goal.overflow_add-total
overflow_add-total c =
    let e = sum_here c.args.edges.now _ c.args.slots c.loop-s.s _ _ c.loop-s-test.true c.loop-s.invariant.size c.loop-s.invariant.total c.index.ensures c.loop-s.invariant.counts in
    let few = c.requires.few in
    grind (arith, e, ahead_most c.args.edges.now c.loop-s.s 0, few)

pub loop-s-preserved : goal.loop-s-preserved
loop-s-preserved c =
    let e : c.loop-s.total + c.index.result.now ≡ ahead c.args.edges.now c.loop-s.s 0 = sum_here c.args.edges.now _ c.args.slots c.loop-s.s _ _ c.loop-s-test.true c.loop-s.invariant.size c.loop-s.invariant.total c.index.ensures c.loop-s.invariant.counts in
    record {
      size = grind (arith, common_steps);
      total = e ∙ sym (ahead_next c.args.edges.now c.loop-s.s);
      sums = sum_step c.args.edges.now _ c.args.slots c.loop-s.s _ c.loop-s.invariant.size c.loop-s-test.true e c.loop-s.invariant.sums;
      counts = sum_later c.args.edges.now _ c.args.slots c.loop-s.s _ c.loop-s.invariant.counts;
    }
