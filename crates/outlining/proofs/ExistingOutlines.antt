-- The halves of each program have an outline, since there are texts to start from.
use Rattle.std.proofs.Common.{ℕ, List, refl}
use Rattle.typed_tree.specs.TypedTree.{TypedTree}
use Rattle.pt_core.specs.CodeTree.{MonitorTree, SlaveTree}
use Rattle.program_halves.specs.ProgramHalves.{monitor_half, slave_half}
use Rattle.starting_texts.proofs.ExistingTexts.{policies_exist, tables_exist}
use Rattle.outlining.specs.Laws.{AcceptedTextsHaveOutlines}
use Rattle.outlining.specs.OutlineTexts.{guarded_in, outline_text}
use Rattle.outlining.specs.Outlines.{IsOutlineOf}

halves_outlined : (t : TypedTree) (slave : SlaveTree) (monitor : MonitorTree) → (out : List ℕ) × IsOutlineOf t slave monitor out
halves_outlined t slave monitor =
    let table = tables_exist t in
    let policy = policies_exist t (guarded_in t monitor.entries) in
    (outline_text t slave monitor table.0 policy.0, record { table = table.0; table_is = table.1; policy = policy.0; policy_is = policy.1; out_is = refl })

pub accepted_outlined : AcceptedTextsHaveOutlines
accepted_outlined t tree passed =
    let a = passed.1.0 in
    let out = halves_outlined tree (slave_half tree a.0) (monitor_half tree a.0) in
    (out.0, record { tree = tree; typed = passed.0; accepted = a.0; is = a.1; outlined = out.1 })
