-- What supervising comes to over a link that was started.
use Rattle.std.proofs.Common.{◌≡◌, ◌∙◌, ℕ, Bool, List, ◌++◌, take, Option, Some, None, Result, Err, ap}
use Rattle.std.specs.Io.KnownBytes.{Appends, Keeps}
use Rattle.pt_base.specs.declared.end.End.{End}
use Rattle.pt_base.specs.declared.link.LinkFault.{LinkFault}
use Rattle.pt_base.specs.Talk.{Event}
use Rattle.pt_base.specs.Told.{AppendsPart}
use Rattle.honest_link.specs.Came.{Came, Started}
use Rattle.pair_meaning.specs.Monitors.{Monitor}
use Rattle.pair_meaning.specs.Peer.{boot_frames}
use Rattle.pair_runner.specs.declared.fault.RunFault.{RunFault}
use Rattle.pair_runner.specs.Faults.{of_link}
use Rattle.pair_runner.specs.Outcomes.{IsOutcome, behind_boot, broken_behind_boot}
use Rattle.pair_runner.specs.Sending.{Breaks, Moves, boot_talk}
use Rattle.pair_runner.proofs.Finishing.{boot_unsent, outcome_mapped}
use Rattle.pair_runner.proofs.Moving.{parts_none}

-- so supervising behind the boot came to this
abbrev pub Behind : {L K : Type 0} → (L → List Event → L → Type 0) → (L → Option (List ℕ)) → (L → Option (List ℕ)) → (K → Option (List ℕ)) → L → L → K → K → List ℕ → Monitor → Result End RunFault → Type 0
Behind came sent given taken a b k n boot m result = IsOutcome (behind_boot (Moves came sent given taken a b k n) boot) (broken_behind_boot (Breaks sent given taken a b k n) boot) m result

pub appends_kept : (a b c : Option (List ℕ)) (xs : List ℕ) → Keeps a b → Appends b c xs → Appends a c xs
appends_kept None b c xs p q = tt {0}
appends_kept (Some x) None c xs p q = absurd p
appends_kept (Some x) (Some y) None xs p q = absurd q
appends_kept (Some x) (Some y) (Some z) xs p q = q ∙ ap (λ l. l ++ xs) p

pub part_kept : (a b c : Option (List ℕ)) (xs : List ℕ) → Keeps a b → AppendsPart b c xs → AppendsPart a c xs
part_kept None b c xs p q = tt {0}
part_kept (Some x) None c xs p q = absurd p
part_kept (Some x) (Some y) None xs p q = absurd q
part_kept (Some x) (Some y) (Some z) xs p (n, q) = (n, q ∙ ap (λ l. l ++ take n xs) p)

told : (x y : Option (List ℕ)) (s : List ℕ) → x ≡ Some s → Keeps x y → y ≡ Some s
told None y s is keeps = cc
told (Some x) None s is keeps = absurd keeps
told (Some x) (Some y) s is keeps = ap (λ l. Some l) keeps ∙ is

-- it started its peer, it is honest still, and nothing was sent or given
pub record IsStarted {S : Type 0} (starts : S → S → Type 0) (honest : S → (List ℕ → List ℕ) → (List ℕ → Bool) → Type 0) (sent given : S → Option (List ℕ)) (a b : S) : Type 0 where
  pub became : starts a b
  pub honest_still : (says : List ℕ → List ℕ) (form : List ℕ → Bool) → honest a says form → honest b says form
  pub none_sent : Keeps (sent a) (sent b)
  pub none_given : Keeps (given a) (given b)

came_since : {S : Type 0} (starts : S → S → Type 0) (honest : S → (List ℕ → List ℕ) → (List ℕ → Bool) → Type 0) (sent given : S → Option (List ℕ)) (a b c : S) (talk : List Event) → IsStarted starts honest sent given a b → Came honest sent given b talk c → Came honest sent given a talk c
came_since starts honest sent given a b c talk at came = λ says form s g h. came says form s g (record {
  is = at.honest_still says form h.is;
  sent_so = told (sent a) (sent b) s h.sent_so at.none_sent;
  given_so = told (given a) (given b) g h.given_so at.none_given;
  in_form = h.in_form;
})

pub since_start : {S K : Type 0} (starts : S → S → Type 0) (came : S → List Event → S → Type 0) (honest : S → (List ℕ → List ℕ) → (List ℕ → Bool) → Type 0) (sent given : S → Option (List ℕ)) (taken : K → Option (List ℕ)) (a b c : S) (k n : K) (boot : List ℕ) (m : Monitor) (result : Result End RunFault) →
    ((a b : S) (talk : List Event) → came a talk b → Came honest sent given a talk b) → IsStarted starts honest sent given a b → Behind came sent given taken b c k n boot m result → Behind (Started starts came honest sent given) sent given taken a c k n boot m result
since_start starts came honest sent given taken a b c k n boot m result along at h =
    outcome_mapped (behind_boot (Moves came sent given taken b c k n) boot) (behind_boot (Moves (Started starts came honest sent given) sent given taken a c k n) boot)
    (broken_behind_boot (Breaks sent given taken b c k n) boot) (broken_behind_boot (Breaks sent given taken a c k n) boot) m
    (λ talk bytes moved. record {
      talks = record {
        came_by = record {
          link = b;
          became = at.became;
          came_by = moved.talks.came_by;
          along = came_since starts honest sent given a b c (boot_talk boot ++ talk) at (along b c (boot_talk boot ++ talk) moved.talks.came_by);
        };
        sent_so = appends_kept (sent a) (sent b) (sent c) _ at.none_sent moved.talks.sent_so;
        given_so = appends_kept (given a) (given b) (given c) _ at.none_given moved.talks.given_so;
      };
      writes = moved.writes;
    })
    (λ g s bytes broke. record {
      parts = record {
        given_so = appends_kept (given a) (given b) (given c) _ at.none_given broke.parts.given_so;
        sent_so = part_kept (sent a) (sent b) (sent c) _ at.none_sent broke.parts.sent_so;
      };
      writes = broke.writes;
    }) result h

-- it wasn't started
pub not_started : {S K : Type 0} (came : S → List Event → S → Type 0) (sent given : S → Option (List ℕ)) (taken : K → Option (List ℕ)) (a b : S) (k : K) (boot : List ℕ) (m : Monitor) (fault : LinkFault) →
    Keeps (sent a) (sent b) → Keeps (given a) (given b) → Behind came sent given taken a b k k boot m (Err (of_link fault))
not_started came sent given taken a b k boot m fault none_sent none_given = boot_unsent came sent given taken a b k boot m fault (parts_none sent given a b (boot_frames boot) none_sent none_given)
