-- The slaves that the slave of an accepted program comes to are kept.
use Rattle.std.specs.Prelude.{◌≡◌, ◌<◌, ◌^◌, ℕ, List, [], IsTrue, All}
use Rattle.pt_tree.specs.declared.host_model.HostModel.{HostModel}
use Rattle.typed_tree.specs.TypedTree.{TypedTree}
use Rattle.typed_tree.specs.WellFormed.{is_well_formed}
use Rattle.flow_rules.specs.declared.accepted.Accepted.{Accepted}
use Rattle.flow_rules.specs.Faults.{IsAccepted}
use Rattle.host_models.specs.Fitting.{fits}
use Rattle.wire.specs.declared.message.Message.{Message}
use Rattle.wire.specs.declared.message.ReplyBody.{ReplyBody}
use Rattle.pt_core.specs.CodeTree.{BootTree}
use Rattle.pt_core.specs.WellFormed.{is_well_formed_boot}
use Rattle.pair_protocol.specs.SlaveRun.{came}
use Rattle.pair_meaning.specs.SlaveRun.{Slave, slave_of}
use Rattle.pair_meaning.specs.Pair.{slave_at}
use Rattle.handle_flow_law.specs.KeptLaws.{boot_of}
use Rattle.pair_invariant_law.specs.Slaves.{AreKept, Stays}

-- the slave of this boot comes to this one in so many steps, having taken all of these replies
abbrev pub Reached : BootTree → Slave → Type 0
Reached b x = (replies : List ReplyBody) × (k : ℕ) × (said : List Message) × (slave_at b replies k ≡ came x said [] k)

-- Of a boot that is well formed, of bytes and a budget of 32 bits. What it begins with is one of them.
abbrev pub ReachedSlavesAreKept : Type 0
ReachedSlavesAreKept = (t : TypedTree) (a : Accepted) (hosts : List (ℕ × HostModel)) (input : List ℕ) (turns : ℕ) → IsTrue (is_well_formed t) → IsAccepted t a →
    IsTrue (is_well_formed_boot fits (boot_of t a hosts input turns)) → All (λ x. x < 256) input → turns < 2 ^ 32 →
    AreKept (Reached (boot_of t a hosts input turns)) × Reached (boot_of t a hosts input turns) (slave_of (boot_of t a hosts input turns))

-- So it is sound, computes with no handle and asks with handles under marks alone, and so does whatever it comes to.
abbrev pub AcceptedSlavesStay : Type 0
AcceptedSlavesStay = (t : TypedTree) (a : Accepted) (hosts : List (ℕ × HostModel)) (input : List ℕ) (turns : ℕ) → IsTrue (is_well_formed t) → IsAccepted t a →
    IsTrue (is_well_formed_boot fits (boot_of t a hosts input turns)) → All (λ x. x < 256) input → turns < 2 ^ 32 → Stays (slave_of (boot_of t a hosts input turns))
