-- What is sent, read frame by frame.
use Rattle.std.specs.Prelude.{◌≡◌, ℕ, List, Option, Some, None}
use Rattle.wire.specs.declared.fault.FrameFault.{FrameFault}
use Rattle.wire.specs.declared.fault.FrameFault.TheVariants as fault
use Rattle.wire.specs.declared.message.Message.{Message}
use Rattle.wire.specs.Frames.{BeginsBad, BeginsTooLong}
use Rattle.wire.specs.Limits.{IsBytes}
use Rattle.wire.specs.View.{ReaderView}
use Rattle.pair_meaning.specs.Peer.{cut, frame_at}
use Rattle.pair_protocol.specs.Links.{Half}
use Rattle.pair_meaning.specs.SlaveRun.{Slave}
use Rattle.pair_meaning.specs.LinkTalks.{all_heard}
use Rattle.memory_link.specs.declared.slave_half.SlaveHalf.{SlaveHalf}
use Rattle.memory_link.specs.Halves.{IsHalf}

-- a fault that is kept stands at the front
abbrev pub Stands : Option FrameFault → List ℕ → Type 0
Stands None bytes = Unit {0}
Stands (Some fault.BadFrame) bytes = BeginsBad bytes
Stands (Some fault.TooLong) bytes = BeginsTooLong bytes

pub record IsReading (r : ReaderView) : Type 0 where
  pub stands : Stands r.fault r.unread
  pub bytes : IsBytes r.unread

-- the message at the front is read, or none is there
abbrev pub ReadsFront : ReaderView → Option Message → ReaderView → Type 0
ReadsFront before None after = (frame_at before.unread ≡ None) × (after.unread ≡ before.unread)
ReadsFront before (Some m) after = frame_at before.unread ≡ Some (m, after.unread)

pub record Reads (before : ReaderView) (found : Option Message) (after : ReaderView) : Type 0 where
  pub reading : IsReading after
  pub front : ReadsFront before found after

-- whole frames are heard in turn, and the beginning of one stays unread
pub record HearsAll (x : SlaveHalf) (before : ReaderView) (end : SlaveHalf) (after : ReaderView) : Type 0 where
  pub reading : IsReading after
  pub unread : after.unread ≡ (cut before.unread).rest
  pub half : (h : Half Slave Message) → IsHalf x h → IsHalf end (all_heard (cut before.unread).messages h)
