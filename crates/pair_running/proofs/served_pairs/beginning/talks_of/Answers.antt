use Rattle.std.proofs.Common.{◌≡◌, ◌∙◌, ◌<◌, ◌+◌, List, ℕ, ap, length, subst, sym, arith}
use Rattle.pt_core.specs.CodeTree.{BootTree, view_boot}
use Rattle.pair_meaning.specs.SlaveRun.{slave_of}
use Rattle.slave_interp.specs.declared.slave.Slave.{Slave}
use Rattle.slave_interp.specs.Slaves.{IsSlave}
use Rattle.pair_running.specs.declared.served_pairs.turning.Talk.{Talk}
use Rattle.pair_running.specs.ServedPairsBeginning.{boot_in}
use Rattle.pair_running.proofs.ServedPairsBeginning.{MadeSoFar, boot_fits, made_all, made_on, short_at}
use Rattle.pair_running.proofs.ServedPairsPlaces.{item_at}
use Rattle.pair_running.proofs.served_pairs.beginning.talks_of.Goals as goal

pub new-requires : goal.new-requires
new-requires c =
    let within : c.loop-input.input-index < length c.args.all.now = grind arith in
    let at = item_at c.args.all.now c.loop-input.input-index c.input-item.result within c.input-item.is in
    let boot : view_boot c.in_ok-boot.boot ≡ boot_in c.args.shared.now c.args.turns c.input-item.result = c.in_ok-boot.ensures ∙ ap (λ (bytes : List ℕ). boot_in c.args.shared.now c.args.turns bytes) c.as_slice.ensures in
    let may = c.requires.texts.1 in
    boot_fits c.begun_boots_are_well_formed.ensures c.requires.texts.0 c.args.shared.now c.args.turns c.input-item.result (view_boot c.in_ok-boot.boot) may.shared (short_at c.args.all.now c.loop-input.input-index c.input-item.result may.short at) boot

pub overflow_add-number : goal.overflow_add-number
overflow_add-number c =
    let number = c.loop-input.invariant.number in
    let few = c.requires.few in
    let within : c.loop-input.input-index < length c.args.all.now = grind arith in
    omega (arith, number, few, within)

pub loop-input-preserved : goal.loop-input-preserved
loop-input-preserved c =
    let within : c.loop-input.input-index < length c.args.all.now = grind arith in
    let at = item_at c.args.all.now c.loop-input.input-index c.input-item.result within c.input-item.is in
    let boot : view_boot c.in_ok-boot.boot ≡ boot_in c.args.shared.now c.args.turns c.input-item.result = c.in_ok-boot.ensures ∙ ap (λ (bytes : List ℕ). boot_in c.args.shared.now c.args.turns bytes) c.as_slice.ensures in
    let slave : IsSlave c.in_ok-slave.slave (slave_of (boot_in c.args.shared.now c.args.turns c.input-item.result)) = subst (λ (b : BootTree). IsSlave c.in_ok-slave.slave (slave_of b)) boot c.in_ok-slave.ensures in
    let begins : IsSlave c.new-talk.result.slave (slave_of (boot_in c.args.shared.now c.args.turns c.input-item.result)) = subst (λ (s : Slave). IsSlave s (slave_of (boot_in c.args.shared.now c.args.turns c.input-item.result))) (sym c.new-talk.ensures.slave) slave in
    record {
      made = subst (λ (talks : List Talk). MadeSoFar c.args.shared.now c.args.turns (c.loop-input.input-index + 1) c.args.all.now talks) (sym c.in_ok-push.ensures.items)
          (made_on c.args.shared.now c.args.turns c.loop-input.input-index c.args.all.now c.input-item.result c.loop-input.talks.items c.new-talk.result at
          (c.new-talk.ensures.session ∙ c.loop-input.invariant.number, begins, c.new-talk.ensures.written, c.new-talk.ensures.runs) c.loop-input.invariant.made);
      number = ap (λ n. n + 1) c.loop-input.invariant.number;
    }

pub returns : goal.returns
returns c = made_all c.args.shared.now c.args.turns c.loop-input.input-index c.args.all.now c.loop-input.talks.items (grind arith) c.loop-input.invariant.made
