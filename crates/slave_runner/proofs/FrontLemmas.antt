-- What stands at the front of a reader.
use Rattle.std.proofs.Common.{◌≡◌, ◌⊎◌, ℕ, Option, Some, None, Ok, inl, inr, sym, ◌∙◌}
use Rattle.pt_base.proofs.Options.{none_not_some}
use Rattle.wire.specs.declared.fault.FrameFault.{FrameFault}
use Rattle.wire.specs.declared.fault.FrameFault.TheVariants as fault
use Rattle.wire.specs.Frames.{BeginsBad}
use Rattle.wire.specs.Steps.{Refuses}
use Rattle.wire.specs.View.{ReaderView}
use Rattle.slave_runner.specs.declared.hearing.Front.TheVariants.{Bad}
use Rattle.slave_runner.specs.Fronts.{IsFront}

-- it stands at the front, where none was kept
stood : (kind : FrameFault) (kept : Option FrameFault) (So : Type 0) → (kept ≡ Some kind) ⊎ ((kept ≡ None) × So) → kept ≡ None → So
stood kind kept So (inl some) sound = none_not_some kind (sym sound ∙ some)
stood kind kept So (inr found) sound = found.1

pub bad_is : (v v' : ReaderView) (place : ℕ) → v.fault ≡ None → Refuses BeginsBad fault.BadFrame v place v' → IsFront v (Ok (Bad place)) v'
bad_is v v' place sound r = (stood fault.BadFrame v.fault (BeginsBad v.unread) r.why sound, r.place)
