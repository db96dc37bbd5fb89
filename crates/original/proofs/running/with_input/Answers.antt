use Rattle.std.proofs.Common.{◌≡◌, [], ◌∷◌, Err, rules}
use Rattle.typed_tree.specs.TypedView.{view_typed}
use Rattle.host_table.specs.Hosts.{hosts_of}
use Rattle.stages.specs.declared.refusal.Stop.TheVariants.{Memory}
use Rattle.original.specs.Seen.{view_ran}
use Rattle.stages.specs.Climb.{hosts, inputs}
use Rattle.stages.proofs.RungLemmas.{halted_behind}
use Rattle.original.proofs.Parts.{is_original}
use Rattle.original.proofs.running.with_input.Goals as goal

pub returns-in_err-fits : goal.returns-in_err-fits
returns-in_err-fits g c = λ t has gives input.
    let is : c.from_residual.result ≡ Err c.in_err-fits.field-0.0 = search rules in
    rw is (halted_behind hosts (inputs ∷ []) t (view_typed c.args.program.now) c.in_err-fits.field-0.0 (hosts_of c.args.hosts, gives) (c.in_err-fits.ensures.stop [] t (view_typed c.args.program.now) input))

pub returns-in_err-ran : goal.returns-in_err-ran
returns-in_err-ran g c = λ t has gives input.
    let is : c.from_residual-in_err-ran.result ≡ Err Memory = search rules in
    rw is (tt {0})

pub returns : goal.returns
returns g c = λ t has gives input.
    is_original c.args.turns t (view_typed c.args.program.now) (hosts_of c.args.hosts) c.args.input.now (view_ran c.in_ok-ran.ran) has gives input c.in_ok-fits.ensures.short c.in_ok-ran.ensures.0 c.in_ok-ran.ensures.1
