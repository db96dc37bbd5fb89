use Rattle.std.proofs.Common.{◌≡◌, ◌∙◌, ◌+◌, ◌++◌, FitsSigned, None, ap, of_z, refl, rules, subst, sym, to_z}
use Rattle.std.specs.Int.{w32}
use Rattle.std.proofs.lemmas.Int.{to_z-of_z}
use Rattle.pt_base.specs.declared.end.End.TheVariants as end
use Rattle.pair_meaning.specs.Monitors.{low}
use Rattle.pair_meaning.specs.Rules as R
use Rattle.wire.specs.declared.message.Message.{Message}
use Rattle.wire.specs.declared.message.Message.TheVariants as said
use Rattle.serving_rules.specs.declared.peer_rule.PeerRule.TheVariants.{BadFrame, EarlyPark}
use Rattle.monitor_interp.specs.declared.handled.Handled.TheVariants.{Bad, Ended, GoesOn}
use Rattle.monitor_interp.specs.Handling.{Acts}
use Rattle.monitor_interp.specs.Standing.{Stands}
use Rattle.monitor_interp.proofs.MessageLemmas.{room_for, stands_later, with_last}
use Rattle.monitor_interp.proofs.serving.act.Goals as goal

pub returns-in-Boot : goal.returns-in-Boot
returns-in-Boot c m stands is =
    subst (λ (x : Message). Acts (Stands c.args.program.now c.args.state.now) m x c.args.left (R.rules (low m) x) (Bad BadFrame) c.args.out.now.items c.args.out.now.items) (sym c.in-Boot.is) (refl, stands, refl)

pub serve_call-requires-clause-stands : goal.serve_call-requires-clause-stands
serve_call-requires-clause-stands c =
    let m = c.requires.stands.0 in
    (m, c.requires.stands.1, room_for c.args.left c.in-Call.turns m.turns m.budget (subst (λ (x : Message). c.args.left + (R.needs x + m.turns) ≡ m.budget) c.in-Call.is c.requires.stands.2))

pub returns-in_ok-handled-in-Call : goal.returns-in_ok-handled-in-Call
returns-in_ok-handled-in-Call c m stands is =
    subst (λ (x : Message). Acts (Stands c.args.program.now c.serve_call.new.state) m x c.args.left (R.rules (low m) x) c.in_ok-handled-in-Call.handled c.args.out.now.items c.serve_call.new.out.items) (sym c.in-Call.is)
    (c.in_ok-handled-in-Call.ensures m (said.Call c.in-Call.turns c.in-Call.function c.in-Call.depth c.in-Call.wants c.in-Call.body) stands
    (room_for c.args.left c.in-Call.turns m.turns m.budget (subst (λ (x : Message). c.args.left + (R.needs x + m.turns) ≡ m.budget) c.in-Call.is is)) refl)

pub returns-in_ok-extend_from_slice-in-Emit : goal.returns-in_ok-extend_from_slice-in-Emit
returns-in_ok-extend_from_slice-in-Emit c m stands is =
    subst (λ (x : Message). Acts (Stands c.args.program.now (with_last c.args.state.now c.in-Emit.turns)) m x c.args.left (R.rules (low m) x) (GoesOn None) c.args.out.now.items c.extend_from_slice.new.self.items) (sym c.in-Emit.is)
    (refl, stands_later c.args.program.now c.args.state.now m c.in-Emit.turns stands, c.in_ok-extend_from_slice-in-Emit.ensures.items ∙ ap (λ bs. c.args.out.now.items ++ bs) c.as_slice.ensures)

pub returns-in-Exit : goal.returns-in-Exit
returns-in-Exit c m stands is =
    let fits : FitsSigned w32 c.in-Exit.status = search rules in
    subst (λ (x : Message). Acts (Stands c.args.program.now c.args.state.now) m x c.args.left (R.rules (low m) x) (Ended (end.Exit (to_z w32 (of_z w32 c.in-Exit.status)))) c.args.out.now.items c.args.out.now.items) (sym c.in-Exit.is)
    (ap (λ v. end.Exit v) (to_z-of_z w32 c.in-Exit.status fits), stands, refl)

pub returns-in-Trap : goal.returns-in-Trap
returns-in-Trap c m stands is =
    subst (λ (x : Message). Acts (Stands c.args.program.now c.args.state.now) m x c.args.left (R.rules (low m) x) (Ended (end.Trapped c.in-Trap.kind c.in-Trap.span)) c.args.out.now.items c.args.out.now.items) (sym c.in-Trap.is) (refl, stands, refl)

pub returns-in-Park : goal.returns-in-Park
returns-in-Park c m stands is =
    subst (λ (x : Message). Acts (Stands c.args.program.now c.args.state.now) m x c.args.left (R.rules (low m) x) (Bad EarlyPark) c.args.out.now.items c.args.out.now.items) (sym c.in-Park.is) (refl, stands, refl)

pub returns-in-Reply : goal.returns-in-Reply
returns-in-Reply c m stands is =
    subst (λ (x : Message). Acts (Stands c.args.program.now c.args.state.now) m x c.args.left (R.rules (low m) x) (Bad BadFrame) c.args.out.now.items c.args.out.now.items) (sym c.in-Reply.is) (refl, stands, refl)
