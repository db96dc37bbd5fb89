use Rattle.std.proofs.Common.{◌≡◌, [], ◌∷◌, Err, ap, rules}
use Rattle.typed_tree.specs.declared.typed.Typed.{Typed}
use Rattle.typed_tree.specs.TypedView.{view_typed}
use Rattle.host_table.specs.Hosts.{hosts_of}
use Rattle.stages.specs.Climb.{inputs}
use Rattle.original.specs.MachineRunHostGates.{AreOf}
use Rattle.original.proofs.Parts.{behind_table, nothing_past}
use Rattle.original.proofs.running.with_table.Goals as goal

pub returns-in_err-program : goal.returns-in_err-program
returns-in_err-program g c = λ t has host input.
    let is : c.from_residual.result ≡ Err c.in_err-program.field-0.0 = search rules in
    rw is (c.in_err-program.ensures.stop (inputs ∷ []) t host)

pub with_input-requires : goal.with_input-requires
with_input-requires g c =
    let found = c.in_ok-program.field-0 in
    let past : AreOf (view_typed found.program) (hosts_of found.hosts) = nothing_past c.args.host.now (view_typed found.program) (hosts_of found.hosts) c.in_ok-program.ensures.given in
    search rules

pub returns : goal.returns
returns g c = λ t has host input.
    let found = c.in_ok-program.field-0 in
    behind_table c.args.turns t (view_typed c.args.program) (view_typed found.program) c.args.host.now (hosts_of found.hosts) c.with_input.result (ap (λ (p : Typed). view_typed p) c.in_ok-program.ensures.program) host has c.in_ok-program.ensures.given
    (λ has' gives. c.with_input.ensures t has' gives input)
