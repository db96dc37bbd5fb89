-- The path that the marks show, where it begins, and its spans.
use Rattle.std.proofs.Common.{◌≡◌, ◌≤◌, ◌∙◌, ℕ, List, [], ◌∷◌, Some, refl, sym, ap, arith, length, subst}
use Rattle.std.specs.Prelude.{MatchOption, slice_index_or}
use Rattle.std.proofs.lemmas.List.{length-map}
use Rattle.pt_base.specs.declared.slot.Edge.{Edge}
use Rattle.pt_base.specs.declared.slot.Slot.{Slot}
use Rattle.propagation.specs.Paths.{IsPriv, IsShortestPath, Leads, no_edge}
use Rattle.reach.specs.Tables.{slot_number}
use Rattle.flow_rules.specs.Faults.{spans_of}
use Rattle.flow_rules.specs.Told.{begins_at}
use Rattle.flow_rules.proofs.PrivLemmas.{priv_below}
use Rattle.flow_rules.proofs.paths.way_to.Goals as goal

-- a path leads from where it begins
begins_there : (edges : List Edge) (path : List ℕ) (a s : Slot) → Leads edges path a s → begins_at edges path s ≡ a
begins_there edges [] a s leads = sym leads
begins_there edges (k ∷ path) a s leads = leads.1

pub path_to-requires : goal.path_to-requires
path_to-requires c = priv_below c.args.flows.now.marks.now c.args.slot c.requires.secret

pub returns-clause-way : goal.returns-clause-way
returns-clause-way c =
    let seeds = c.args.flows.now.sides.now.seeds in
    let edges = c.args.edges.now in
    let told = c.in_ok-shown.ensures.exact seeds edges _ c.requires.marks in
    let shortest : IsShortestPath seeds edges c.in-Some.path.items (slot_number c.args.slot) =
    subst (λ o. MatchOption o (¬ IsPriv seeds edges (slot_number c.args.slot)) (λ path. IsShortestPath seeds edges path.items (slot_number c.args.slot))) c.in-Some.is told in
    let numbers = c.as_slice-numbers.ensures.value in (
      shortest.0,
      c.in-Some.path.items,
      c.in_ok-way.ensures.origin ∙ ap (λ xs. Some (begins_at edges xs (slot_number c.args.slot))) numbers ∙ ap Some (begins_there edges c.in-Some.path.items shortest.0 (slot_number c.args.slot) shortest.2),
      (shortest.1, shortest.2, shortest.3),
      c.in_ok-way.ensures.spans ∙ ap (spans_of edges) numbers,
    )

pub returns-clause-few : goal.returns-clause-few
returns-clause-few c =
    let long = ap length c.in_ok-way.ensures.spans ∙ length-map c.as_slice-numbers.result.now (λ k. (slice_index_or c.args.edges.now k no_edge).span) ∙ ap length c.as_slice-numbers.ensures.value in
    let room : length c.in-Some.path.items ≤ c.args.room = grind arith in
    omega (arith, long, room)
