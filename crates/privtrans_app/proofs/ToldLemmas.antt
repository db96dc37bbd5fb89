-- What is seen of a command's texts is told.
use Rattle.std.proofs.Common.{◌≡◌, ◌⊎◌, ℕ, List, sym, ◌∙◌, inl, inr}
use Rattle.pt_base.proofs.Booleans.{false_true_absurd}
use Rattle.front_end.specs.FaultLinesSeen.{Seen}
use Rattle.privtrans_app.specs.Gives.{Gives}
use Rattle.privtrans_app.specs.Outside.{AreSeen, Outside}
use Rattle.privtrans_app.specs.SplitRun.{Leaves}
use Rattle.privtrans_app.specs.Told.{CommandsAreTold, HasTooMany}
use Rattle.privtrans_app.specs.Words.{Command}
use Rattle.privtrans_app.proofs.ExistingLemmas.{commands_seen}

module _ (c : Command) (texts : List (List ℕ)) (b a : Outside) (status : ℕ) where
  abbrev IsTold : Type 0
  IsTold =
      ((s : Seen) × Gives c texts s × ((AreSeen s b a status × Leaves c texts b.folder.files a.folder.files s) ⊎ (status ≡ 12)))
      ⊎ (HasTooMany c texts × (status ≡ 12))

  wanting : status ≡ 12 → ((s : Seen) × Gives c texts s) ⊎ HasTooMany c texts → IsTold
  wanting want (inl x) = inl (x.0, x.1, inr want)
  wanting want (inr many) = inr (many, want)

  told_by : (status ≡ 12) ⊎ ((s : Seen) × Gives c texts s × AreSeen s b a status × Leaves c texts b.folder.files a.folder.files s)
      → ((s : Seen) × Gives c texts s) ⊎ HasTooMany c texts → IsTold
  told_by (inl want) seen = wanting want seen
  told_by (inr (s, gives, is, leaves)) seen = inl (s, gives, inl (is, leaves))

pub commands_told : CommandsAreTold
commands_told words b a status whole c texts says well known alone =
    told_by c texts b a status (whole c texts says well known (λ linked. absurd (false_true_absurd (sym alone ∙ linked)))) (commands_seen c texts alone)
