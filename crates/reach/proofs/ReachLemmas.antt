-- From marks to the functions of a half.
use Rattle.std.proofs.Common.{◌≡◌, ◌∙◌, ◌<◌, ◌↔◌, ℕ, ap, sym, subst, Bool, true, false, List, length, map, get_or}
use Rattle.std.specs.Prelude.{is_some}
use Rattle.std.specs.List.{All}
use Rattle.std.proofs.lemmas.List.{length-map}
use Rattle.pt_base.specs.declared.slot.Slot.{Slot}
use Rattle.pt_base.specs.declared.slot.Edge.{Edge}
use Rattle.typed_tree.specs.TypedTree.{TypedTree}
use Rattle.propagation.specs.Marks.{AreMarks, Shown}
use Rattle.propagation.specs.Paths.{IsPriv}
use Rattle.reach.specs.CallGraph.{call_edges, half_starts}
use Rattle.reach.specs.Reached.{IsReached}
use Rattle.reach.specs.declared.calls.Half.{Half}
use Rattle.reach.proofs.CallLemmas.{NamesMain, starts_within, froms_within, tos_within, reached_is}
use Rattle.reach.proofs.WalkLemmas.{told}

module _ (t : TypedTree) (half : Half) (slots : ℕ) (size : slots ≡ length t.functions) where
  pub starts_in : NamesMain t → (xs : List Slot) → xs ≡ half_starts t half → All (λ s. s.0 < slots) xs
  starts_in names xs e = subst (λ (ys : List Slot). All (λ s. s.0 < slots) ys) (sym e) (subst (λ n. All (λ s. s.0 < n) (half_starts t half)) (sym size) (starts_within t half names))

  pub froms_in : (xs : List Edge) → xs ≡ call_edges t half → All (λ e. e.from.0 < slots) xs
  froms_in xs e = subst (λ (ys : List Edge). All (λ x. x.from.0 < slots) ys) (sym e) (subst (λ n. All (λ x. x.from.0 < n) (call_edges t half)) (sym size) (froms_within t half))

  pub tos_in : (xs : List Edge) → xs ≡ call_edges t half → All (λ e. e.to.0 < slots) xs
  tos_in xs e = subst (λ (ys : List Edge). All (λ x. x.to.0 < slots) ys) (sym e) (subst (λ n. All (λ x. x.to.0 < n) (call_edges t half)) (sym size) (tos_within t half))

  pub reached_in : NamesMain t → (seeds : List Slot) (edges : List Edge) (marks : Shown) (table : List Bool) → seeds ≡ half_starts t half → edges ≡ call_edges t half →
      AreMarks seeds edges slots marks → table ≡ map is_some marks → IsReached t half table
  reached_in names seeds edges marks table es ee are et =
      reached_is t half names table (ap length et ∙ length-map marks is_some ∙ are.size ∙ size) (λ k lt.
      let h : (get_or table k false ≡ true) ↔ IsPriv seeds edges (record { 0 = k }) = told seeds edges slots marks table et are k (subst (λ n. k < n) (sym size) lt) in
      subst (λ (xs : List Slot). (get_or table k false ≡ true) ↔ IsPriv xs (call_edges t half) (record { 0 = k })) es
      (subst (λ (xs : List Edge). (get_or table k false ≡ true) ↔ IsPriv seeds xs (record { 0 = k })) ee h))
