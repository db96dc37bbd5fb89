-- What is written of a program's halves is its outline.
use Rattle.std.proofs.Common.{◌≡◌, ◌∙◌, ℕ, List, [], ◌++◌, ap, subst}
use Rattle.typed_tree.specs.TypedTree.{TypedTree}
use Rattle.flow_rules.specs.declared.accepted.Accepted.{Accepted}
use Rattle.pt_core.specs.declared.monitor.Entry.{Entry}
use Rattle.pt_core.specs.CodeTree.{MonitorTree, SlaveTree}
use Rattle.program_halves.specs.ProgramHalves.{AreHalves, monitor_half, slave_half}
use Rattle.starting_texts.specs.Policies.{IsStartingPolicy}
use Rattle.outlining.specs.Added.{AddsPolicy, AddsTable}
use Rattle.outlining.specs.OutlineTexts.{guarded_in, halves_part, policy_part, table_part}
use Rattle.outlining.specs.Outlines.{IsOutlineOf}

-- behind an empty text
pub is_outline_of : (t : TypedTree) (slave : SlaveTree) (monitor : MonitorTree) (entries : List Entry) (start halves hosts out : List ℕ) → start ≡ [] → halves ≡ start ++ halves_part t slave monitor →
    AddsTable t halves hosts → AddsPolicy t (guarded_in t entries) hosts out → entries ≡ monitor.entries → IsOutlineOf t slave monitor out
is_outline_of t slave monitor entries start halves hosts out empty first table policy same = record {
  table = table.table;
  table_is = table.is;
  policy = policy.policy;
  policy_is = subst (λ (es : List Entry). IsStartingPolicy t (guarded_in t es) policy.policy) same policy.is;
  out_is = policy.added
      ∙ ap (λ xs. xs ++ policy_part policy.policy) (table.added ∙ ap (λ xs. xs ++ table_part t table.table) (first ∙ ap (λ xs. xs ++ halves_part t slave monitor) empty));
}

-- of the halves that a program has
pub of_halves : (t : TypedTree) (a : Accepted) (slave : SlaveTree) (monitor : MonitorTree) (out : List ℕ) → AreHalves t a slave monitor → IsOutlineOf t slave monitor out →
    IsOutlineOf t (slave_half t a) (monitor_half t a) out
of_halves t a slave monitor out are of =
    subst (λ (m : MonitorTree). IsOutlineOf t (slave_half t a) m out) are.1 (subst (λ (s : SlaveTree). IsOutlineOf t s monitor out) are.0 of)
