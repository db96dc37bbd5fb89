-- What is said, gathered and sent.
use Rattle.std.proofs.Common.{◌≡◌, ◌≤◌, ◌==◌, ℕ, zero, suc, List, [], ◌∷◌, ◌++◌, Bool, true, false, Option, Some, None, length, sym, ap, subst, inl, inr, ◌∙◌, append-nil, arith}
use Rattle.std.specs.Prelude.{◌<◌, ◌⊎◌}
use Rattle.pt_base.specs.Talk.{Event, took}
use Rattle.pt_base.specs.declared.link.LinkFault.{LinkFault}
use Rattle.pt_base.specs.declared.link.LinkFault.TheVariants as link
use Rattle.wire.specs.declared.message.Message.{Message}
use Rattle.wire.specs.declared.message.ReplyBody.{ReplyBody}
use Rattle.wire.specs.Spelling.{spelling}
use Rattle.pair_protocol.specs.Sides.{going}
use Rattle.pair_protocol.specs.SlaveRun.{At, listed}
use Rattle.pair_meaning.specs.SlaveRun as s
use Rattle.slave_interp.specs.declared.slave.Slave.{Slave}
use Rattle.slave_interp.specs.Slaves.{HasRun, IsSlave}
use Rattle.slave_interp.proofs.SlaveLemmas.{none_listed}
use Rattle.slave_runner.specs.declared.fault.WorkFault.{WorkFault}
use Rattle.slave_runner.specs.declared.fault.WorkFault.TheVariants.{LinkFailed, BadPeer, PeerEnded, Memory}
use Rattle.slave_runner.specs.Comes.{spellings}
use Rattle.slave_runner.specs.Faults.{Stuck, of_link}
use Rattle.slave_runner.specs.Saying.{BrokeOff, Gathered, WentOn, sending}
use Rattle.slave_runner.proofs.BootLemmas.{empty_so}
use Rattle.slave_runner.proofs.WorkLemmas.{none_made}

pub stuck_link : (f : LinkFault) (P : Type 0) → P → Stuck (of_link f) P
stuck_link link.Failed P h = h
stuck_link link.Memory P h = h

-- ---- what waits

pub none_waits : (talks : List Event → Type 0) (b : Bool) (xs : List ℕ) → b ≡ (length xs == 0) → b ≡ true → talks [] → talks (sending xs)
none_waits talks b xs e t h = subst (λ l. talks (sending l)) (sym (empty_so b xs e t)) h

pub some_wait : (talks : List Event → Type 0) (b : Bool) (xs : List ℕ) → b ≡ (length xs == 0) → b ≡ false → talks (took xs ∷ []) → talks (sending xs)
some_wait talks b [] e f h = absurd (true_false (sym e ∙ f))
  where
    true_false : true ≡ false → ⊥
    true_false z = cc
some_wait talks b (x ∷ xs) e f h = h

pub gathered_all : (talks : List Event → Type 0) (all after : List ℕ) → talks [] → after ≡ all → Gathered talks all after
gathered_all talks all after none is = record { bytes = []; talked = none; waits = is }

pub gathered_sent : (talks : List Event → Type 0) (all waiting after : List ℕ) → talks (sending waiting) → waiting ≡ all → after ≡ [] → Gathered talks all after
gathered_sent talks all waiting after moved is none = record { bytes = waiting; talked = moved; waits = ap (λ l. waiting ++ l) none ∙ append-nil waiting ∙ is }

-- ---- the slave goes on

spell_one : (m : Message) → spellings (listed (Some m)) ≡ spelling m
spell_one m = append-nil (spelling m)

same_mode : (x y : s.Slave) → x ≡ y → (s.mode_of y ≡ going → ⊥) → s.mode_of x ≡ going → ⊥
same_mode x y e stopped m = stopped (ap s.mode_of (sym e) ∙ m)

-- where it may make steps it makes one
some_made : (slave : Slave) (made most : ℕ) (x : s.Slave) (o : Option Message) → HasRun made most x o slave → 0 < most → s.mode_of x ≡ going → 1 ≤ made
some_made slave zero most x o r more m = absurd (none (r.stops more))
  where
    none : (o ≡ None → ⊥) ⊎ (s.mode_of r.to ≡ going → ⊥) → ⊥
    none (inl said) = said (none_listed o (ap (λ (a : At s.Slave Message ReplyBody). a.said) (sym (none_made x) ∙ r.came_to)))
    none (inr stopped) = same_mode x r.to (ap (λ (a : At s.Slave Message ReplyBody). a.slave) (sym (none_made x) ∙ r.came_to)) stopped m
some_made slave (suc made) most x o r more m = omega arith

pub went_on : (talks : List Event → Type 0) (slave : Slave) (made most : ℕ) (x : s.Slave) (m : Message) (before after : List ℕ) → HasRun made most x (Some m) slave → 0 < most → Gathered talks (before ++ spelling m) after →
    WentOn talks (IsSlave slave) x before after
went_on talks slave made most x m before after r more g = record {
  made = made;
  said = Some m;
  to = r.to;
  there = r.there;
  came_to = r.came_to;
  some = some_made slave made most x (Some m) r more;
  gathered = subst (λ l. Gathered talks (before ++ l) after) (sym (spell_one m)) g;
}

pub went_silently : (talks : List Event → Type 0) (slave : Slave) (made most : ℕ) (x : s.Slave) (before : List ℕ) → HasRun made most x None slave → 0 < most → talks [] → WentOn talks (IsSlave slave) x before before
went_silently talks slave made most x before r more none = record {
  made = made;
  said = None;
  to = r.to;
  there = r.there;
  came_to = r.came_to;
  some = some_made slave made most x None r more;
  gathered = record { bytes = []; talked = none; waits = sym (append-nil before) };
}

broke_said : (part : List ℕ → Type 0) (slave : Slave) (made most : ℕ) (x : s.Slave) (m : Message) (before : List ℕ) → HasRun made most x (Some m) slave → part (before ++ spelling m) → BrokeOff part x before
broke_said part slave made most x m before r h = record {
  made = made;
  said = Some m;
  to = r.to;
  came_to = r.came_to;
  sent = subst (λ l. part (before ++ l)) (sym (spell_one m)) h;
}

pub broke_on : (part : List ℕ → Type 0) (slave : Slave) (made most : ℕ) (x : s.Slave) (m : Message) (before : List ℕ) (e : WorkFault) → HasRun made most x (Some m) slave → Stuck e (part (before ++ spelling m)) → Stuck e (BrokeOff part x before)
broke_on part slave made most x m before LinkFailed r h = broke_said part slave made most x m before r h
broke_on part slave made most x m before (BadPeer number place) r h = h
broke_on part slave made most x m before PeerEnded r h = h
broke_on part slave made most x m before Memory r h = broke_said part slave made most x m before r h

-- before it made a step
pub broke_first : (part : List ℕ → Type 0) (x : s.Slave) (before : List ℕ) → ((bytes : List ℕ) → part bytes) → BrokeOff part x before
broke_first part x before h = record { made = 0; said = None; to = x; came_to = none_made x; sent = h (before ++ []) }
