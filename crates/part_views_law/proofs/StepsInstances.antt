-- A slave's machine and a served body's are shown in the whole's.
use Rattle.std.proofs.Common.{refl, true, [], arith}
use Rattle.pt_base.proofs.Booleans.{false_not_true}
use Rattle.core_soundness_law.specs.Kept.{by_store, none}
use Rattle.core_soundness_law.proofs.More.{more_is_kept}
use Rattle.part_views_law.proofs.Instances.{received_lie, served_are_viewed, slaves_are_viewed}
use Rattle.part_views_law.specs.StepsInstances.{BodiesStand, SlavesStand}

pub slaves_stand : SlavesStand
slaves_stand whole slave store beside turns n x parts sound ranged fits above left = (
  record { sound = sound; parts = parts; view = slaves_are_viewed slave 0 store beside; ranged = ranged },
  record { fits = fits; received = λ k some. refl; above = above; left = left },
)

pub bodies_stand : BodiesStand
bodies_stand whole monitor base names beside turns n x parts sound fits distinct received outside above left = (
  record { sound = sound; parts = parts; view = served_are_viewed monitor base names beside; ranged = λ k d lt. absurd (omega (arith, lt)) },
  record {
    fits = more_is_kept none (by_store []) true monitor x (λ t handle h. false_not_true h) fits;
    received = λ k some. received_lie monitor base names beside k distinct (received k some) (outside k some);
    above = above;
    left = left;
  },
)
