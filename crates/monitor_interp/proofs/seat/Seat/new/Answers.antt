use Rattle.std.proofs.Common.{◌≡◌, ◌∙◌, ap, arith, List, [], map, refl, subst, sym, true}
use Rattle.std.specs.Prelude.{IsTrue}
use Rattle.pt_base.specs.declared.ids.FnId.{FnId}
use Rattle.pt_tree.specs.declared.signature.Signature.{Signature}
use Rattle.typed_tree.specs.WellFormed.{are_rising}
use Rattle.host_table.specs.Hosts.{hosts_of}
use Rattle.host_table.specs.RunHosts.{models_of}
use Rattle.pt_core.specs.CodeTree.{ProgramTree, numbered, view_monitor}
use Rattle.pt_core.specs.Steps.{at_rest}
use Rattle.pt_core.specs.WellFormed.{is_sound, monitor_program}
use Rattle.core_machine.specs.Machines.{Shown}
use Rattle.monitor_soundness_law.proofs.ServingEntries.{sound_of}
use Rattle.monitor_soundness_law.proofs.ServingLemmas.{monitors_begin_sound}
use Rattle.monitor_interp.specs.Gates.{heard_of, hosts_for, is_host_in, told_of}
use Rattle.monitor_interp.specs.Marks.{mark_of}
use Rattle.monitor_interp.specs.Monitors.{IsSeat}
use Rattle.monitor_interp.proofs.CallLemmas.{signatures_rise}
use Rattle.monitor_interp.proofs.GateLemmas.{knows_first, told_first}
use Rattle.monitor_interp.proofs.MessageLemmas.{serve_for}
use Rattle.monitor_interp.proofs.seat.Seat.new.Goals as goal

pub new-requires : goal.new-requires
new-requires c = (true, subst (λ (p : ProgramTree). IsTrue (is_sound true p)) (sym c.in_ok-code.ensures) (sound_of (view_monitor c.args.program.now) c.requires.well_formed))

pub new-requires-2 : goal.new-requires-2
new-requires-2 c =
    subst (λ (xs : List (FnId × Signature)). IsTrue (are_rising 0 (map (λ s. s.0) (numbered xs)))) (sym c.as_slice.ensures) (signatures_rise c.args.program.now (view_monitor c.args.program.now) refl c.requires.well_formed)

pub returns : goal.returns
unfolding IsSeat
returns c =
    let half = view_monitor c.args.program.now in
    let gate : c.in_ok-gate.gate ≡ heard_of (hosts_of c.args.host) [] (map mark_of half.signatures) =
    c.in_ok-gate.ensures ∙ ap (λ (xs : List (FnId × Signature)). heard_of (hosts_of c.args.host) [] (map mark_of (numbered xs))) c.as_slice.ensures in
    record {
      named = refl;
      at = record {
        taken = 0;
        limit = 0;
        shown = subst (λ (p : ProgramTree). Shown p c.in_ok-machine.machine (at_rest p 0)) c.in_ok-code.ensures c.in_ok-machine.ensures.shown;
        few = omega arith;
        knows = ap is_host_in gate ∙ knows_first (monitor_program half) (hosts_of c.args.host) [];
        heard = ap told_of gate ∙ told_first half (hosts_of c.args.host);
      };
      store = c.new-3.ensures;
      policy = refl;
      calls = refl;
      turns = refl;
      last = refl;
      budget = c.from.ensures;
      sound = monitors_begin_sound half (hosts_for half (models_of (hosts_of c.args.host).models)) (hosts_of c.args.host).input c.args.policy c.args.budget c.requires.well_formed
          (serve_for half (models_of (hosts_of c.args.host).models) c.requires.well_formed c.requires.hosts) c.requires.bytes c.ranges.budget.fits;
    }
