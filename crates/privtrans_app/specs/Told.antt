-- What holds of all commands: words ask for one, of its texts one thing is seen, and that is told.
use Rattle.std.specs.Prelude.{◌≡◌, ◌≢◌, ◌⊎◌, ℕ, Bool, true, false, List, map}
use Rattle.front_end.specs.FaultLinesSeen.{Seen, faulty}
use Rattle.pair_running.specs.GeneratedPairGenerated.{texts_of}
use Rattle.stages.specs.FlowFaults.{without_way}
use Rattle.refusal_lines.specs.FlowLines.{flow_lines}
use Rattle.flow_rules.specs.declared.fault.FlowFault.{FlowFault}
use Rattle.texts_have_outcomes_law.specs.Laws.{HasTooManySlots}
use Rattle.privtrans_app.specs.Call.{IsWhole}
use Rattle.privtrans_app.specs.Gives.{Gives, text_at}
use Rattle.privtrans_app.specs.Held.{AreKnown}
use Rattle.privtrans_app.specs.Outside.{Outside, AreSeen, GoesWell}
use Rattle.privtrans_app.specs.SplitRun.{Leaves}
use Rattle.privtrans_app.specs.Words.{Command, help, version, check, explain, outline, picture, explain_pair, orig, local, run, split, slave, gen, serve, audit, Says, files_of, uses_of}

-- words ask for one command at most
abbrev pub SaysOne : Type 0
SaysOne = (words : List (List ℕ)) (c d : Command) → Says words c → Says words d → c ≡ d

-- of a command's texts one status is seen
abbrev pub StatusIsOne : Type 0
StatusIsOne = (c : Command) (texts : List (List ℕ)) (a b : Seen) → Gives c texts a → Gives c texts b → a.status ≡ b.status

-- and it isn't that of want of memory
abbrev pub SeenIsNoWant : Type 0
SeenIsNoWant = (c : Command) (texts : List (List ℕ)) (s : Seen) → Gives c texts s → s.status ≢ 12

-- the commands that tell by lines, of which one thing alone is seen
abbrev pub tells_by_lines : Command → Bool
tells_by_lines help = true
tells_by_lines version = true
tells_by_lines (check program) = true
tells_by_lines (explain program) = false
tells_by_lines (outline program) = false
tells_by_lines (picture program) = false
tells_by_lines (explain_pair program host policy) = false
tells_by_lines (orig program host input turns) = true
tells_by_lines (local program host policy input turns window) = true
tells_by_lines (run program host policy input turns) = true
tells_by_lines (split program to_slave to_monitor) = true
tells_by_lines slave = true
tells_by_lines (gen seed count) = true
tells_by_lines (serve program host policy turns inputs) = true
tells_by_lines (audit program) = true

-- faults of flows that differ in the ways that they show, and in nothing else
abbrev pub DifferInWays : Seen → Seen → Type 0
DifferInWays a b = (fs : List FlowFault) × (gs : List FlowFault) × (map without_way fs ≡ map without_way gs) × (a ≡ faulty (flow_lines fs)) × (b ≡ faulty (flow_lines gs))

-- of its texts one thing is seen, but for the ways that faults of flows show
abbrev pub SeenIsOne : Type 0
SeenIsOne = (c : Command) (texts : List (List ℕ)) (a b : Seen) → tells_by_lines c ≡ true → Gives c texts a → Gives c texts b → (a ≡ b) ⊎ DifferInWays a b

-- the program of this command has more than 2^25 slots, and the command has to lay them out
abbrev pub HasTooMany : Command → List (List ℕ) → Type 0
HasTooMany help texts = ⊥
HasTooMany version texts = ⊥
HasTooMany (check program) texts = HasTooManySlots (text_at texts 0)
HasTooMany (explain program) texts = HasTooManySlots (text_at texts 0)
HasTooMany (outline program) texts = HasTooManySlots (text_at texts 0)
HasTooMany (picture program) texts = HasTooManySlots (text_at texts 0)
HasTooMany (explain_pair program host policy) texts = HasTooManySlots (text_at texts 0)
HasTooMany (orig program host input turns) texts = ⊥
HasTooMany (local program host policy input turns window) texts = HasTooManySlots (text_at texts 0)
HasTooMany (run program host policy input turns) texts = HasTooManySlots (text_at texts 0)
HasTooMany (split program to_slave to_monitor) texts = HasTooManySlots (text_at texts 0)
HasTooMany slave texts = ⊥
HasTooMany (gen seed count) texts = HasTooManySlots (texts_of seed count).program
HasTooMany (serve program host policy turns inputs) texts = HasTooManySlots (text_at texts 0)
HasTooMany (audit program) texts = HasTooManySlots (text_at texts 0)

-- of a command that talks with no other process something is seen, but where there are too many
abbrev pub CommandsAreSeen : Type 0
CommandsAreSeen = (c : Command) (texts : List (List ℕ)) → (uses_of c).link ≡ false → ((s : Seen) × Gives c texts s) ⊎ HasTooMany c texts

-- the commands that lay slots out before all else that may have faults, behind the types
abbrev pub lays_out_first : Command → Bool
lays_out_first help = false
lays_out_first version = false
lays_out_first (check program) = true
lays_out_first (explain program) = true
lays_out_first (outline program) = true
lays_out_first (picture program) = true
lays_out_first (explain_pair program host policy) = false
lays_out_first (orig program host input turns) = false
lays_out_first (local program host policy input turns window) = false
lays_out_first (run program host policy input turns) = false
lays_out_first (split program to_slave to_monitor) = true
lays_out_first slave = false
lays_out_first (gen seed count) = false
lays_out_first (serve program host policy turns inputs) = false
lays_out_first (audit program) = true

-- then nothing is seen of them
abbrev pub TooManySlotsAreUnseen : Type 0
TooManySlotsAreUnseen = (c : Command) (texts : List (List ℕ)) (s : Seen) → lays_out_first c ≡ true → HasTooMany c texts → Gives c texts s → ⊥

-- Where nothing failed, what is seen of a command's told texts is told, and its files are left so, or memory was wanting; or nothing can
-- be seen of them, and memory was wanting.
abbrev pub CommandsAreTold : Type 0
CommandsAreTold = (words : List (List ℕ)) (b a : Outside) (status : ℕ) → IsWhole words b a status
    → (c : Command) (texts : List (List ℕ)) → Says words c → GoesWell c b a → AreKnown b.folder.files (files_of c) texts → (uses_of c).link ≡ false
    → ((s : Seen) × Gives c texts s × ((AreSeen s b a status × Leaves c texts b.folder.files a.folder.files s) ⊎ (status ≡ 12)))
    ⊎ (HasTooMany c texts × (status ≡ 12))
