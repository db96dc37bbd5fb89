-- The slave of a well-formed boot that has a spelling begins with numbers of the fields.
use Rattle.std.proofs.Common.{ℕ, nat_eq, List, [], ◌∷◌, Some, None, Bool, true, false, ◌⊎◌, inl, inr, if◌then◌else◌}
use Rattle.std.specs.List.{AllByRecursion}
use Rattle.std.specs.Map.{lookup}
use Rattle.pt_tree.specs.declared.host_model.HostModel.{HostModel}
use Rattle.pt_tree.specs.declared.host_model.HostModel.TheVariants as model
use Rattle.host_table.specs.RunHosts.{model_or_none}
use Rattle.boot_fields.specs.Limits.{FitsModel, FitsNumbered, FitsTypes, Spells}
use Rattle.pt_core.specs.CodeTree.{ProgramTree, BootTree}
use Rattle.pt_core.specs.CoreRun.{main_in}
use Rattle.pt_core.specs.Steps.{at_rest, just_entered}
use Rattle.pt_core.specs.WellFormed.{boot_program}
use Rattle.core_soundness_law.specs.Fits.{MemoryFits}
use Rattle.core_soundness_law.proofs.Frames.{frame_entered}
use Rattle.core_soundness_law.proofs.Resting.{rest_fits}
use Rattle.marshalling_law.specs.CallsSpelled.{HasBytes}
use Rattle.pair_meaning.specs.SlaveRun.{goes, slave_of}
use Rattle.slave_soundness_law.specs.Sound.{IsBare, IsFree, IsSound}
use Rattle.slave_soundness_law.proofs.Beginning.{slaves_begin_sound}
use Rattle.slave_soundness_law.specs.MessagesFormat.{HandlesFit, numbered}
use Rattle.slave_soundness_law.specs.MessagesLaws.{SlavesBeginInFormat}
use Rattle.slave_soundness_law.proofs.MessagesSteps.{body_fits}

types_in : (b : BootTree) (bytes : List ℕ) → Spells b bytes → FitsTypes b
unfolding Spells
types_in b bytes h = h.0

-- ---- hosts

named : (host : HostModel) → FitsModel host → HasBytes host
named (model.Table rows other) h = tt {0}
named (model.Feed values other next) h = tt {0}
named (model.Input next) h = tt {0}
named model.Bytes h = tt {0}
named (model.Line name) h = h.1

host_bytes : (hosts : List (ℕ × HostModel)) (f : ℕ) → AllByRecursion (FitsNumbered FitsModel) hosts → HasBytes (model_or_none (lookup (nat_eq f) hosts))
host_bytes [] f h = tt {0}
host_bytes (x ∷ hosts) f h = go (host_bytes hosts f h.1) (nat_eq f x.0)
  where
    go : HasBytes (model_or_none (lookup (nat_eq f) hosts)) → (b : Bool) → HasBytes (model_or_none (if b then Some x.1 else lookup (nat_eq f) hosts))
    go more true = named x.1 h.0.1
    go more false = more

-- ---- its machine

pub slaves_begin_in_format : SlavesBeginInFormat
slaves_begin_in_format b bytes spells well = record {
  sound = sound;
  code = record { signatures = types.signatures.1; functions = types.functions.1 };
  left = (((body_fits p (main_in p) types.functions.1).body, tt {0}), tt {0});
  hosts = λ f. host_bytes b.hosts f types.hosts.1;
  handles = go sound.doing;
}
  where
    p : ProgramTree
    p = boot_program b

    types : FitsTypes b
    types = types_in b bytes spells

    sound : IsSound (slave_of b)
    sound = slaves_begin_sound b well types.input.1 types.turns

    -- main has no arguments, so there is no handle
    memory : MemoryFits numbered p (slave_of b).machine.active (slave_of b).machine.blocks
    memory = frame_entered numbered p (just_entered p false (main_in p) 1 None) [] (at_rest p b.turns).blocks (tt {0}) (rest_fits numbered false p b.turns sound.program).memory

    go : IsFree (slave_of b) ⊎ IsBare (slave_of b).machine → HandlesFit p (slave_of b).machine goes
    go (inl free) = inl (record { memory = memory; active = free.running.machine.active; awaited = free.running.machine.awaited })
    go (inr bare) = inr bare
