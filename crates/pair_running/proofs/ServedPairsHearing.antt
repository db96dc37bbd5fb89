-- What a message of a session comes to, and what it leaves of the session.
use Rattle.std.proofs.Common.{◌≡◌, ◌∙◌, ◌++◌, ℕ, List, Bool, true, false, if◌then◌else◌, Option, Some, None, refl, sym, ap, subst}
use Rattle.pt_base.proofs.Numbers.{zero_not_suc}
use Rattle.pt_base.specs.declared.end.End.{End}
use Rattle.wire.specs.declared.message.Message.{Message}
use Rattle.wire.specs.declared.message.ReplyBody.{ReplyBody}
use Rattle.pair_protocol.specs.Sides.{AreFair, HasReply, IsReply, goes_on, ends, bad, of_bool, waiting}
use Rattle.pair_protocol.specs.Pair.{run, answered, delivered}
use Rattle.pair_meaning.specs.Monitors.{Monitor}
use Rattle.pair_meaning.specs.Pair.{the_sides, wants_reply}
use Rattle.pair_meaning.specs.Serving.{serve}
use Rattle.pair_meaning.specs.SlaveRun.{Doing, Slave, goes, is_over, is_reply_to, may_take, mode_by, mode_of, taken_by, waits_for, with_reply}
use Rattle.serving_rules.specs.declared.peer_rule.PeerRule.{PeerRule as Broken}
use Rattle.monitor_interp.specs.declared.handled.Handled.{Handled}
use Rattle.monitor_interp.specs.declared.handled.Handled.TheVariants.{GoesOn, Ended, Bad}
use Rattle.session_turns.specs.Turns.{GoesOn as IsOnward}
use Rattle.sessions.specs.declared.hub.Hub.{Hub as code_hub}
use Rattle.sessions.specs.Hubs.{Hub, monitor_at}
use Rattle.sessions.specs.Alone.{after_call, handles, left_behind, told_by, told_to}
use Rattle.sessions.specs.IsHub.{IsHub, Tells}
use Rattle.sessions.proofs.HubCalls.{handled_same, left_others}
use Rattle.slave_interp.specs.declared.slave.Slave.{Slave as code_slave}
use Rattle.slave_interp.specs.Slaves.{IsSlave}
use Rattle.pair_running.specs.declared.served_pairs.turning.Talk.{Talk}
use Rattle.pair_running.specs.ServedPairsTurns.{ComesToEnd, HasHeard, HasSaid, HasTaken, IsRunning, IsServedSo, MayHear, ServedOne}
use Rattle.pair_running.proofs.ServedPairsTurning.{onward_ends, over_never_ends, wrong_never_ends}

-- ---- a reply is one that the slave waits for, since the pair comes to an end

may_by_test : (x y : Slave) (m : Monitor) (written : List ℕ) (is : Bool) → ComesToEnd (run (if is then y else record x { doing = is_over }) m written) → is ≡ true
may_by_test x y m written true comes = refl
may_by_test x y m written false comes = absurd (over_never_ends (record x { doing = is_over }) m written refl comes)

may_by : (x : Slave) (r : ReplyBody) (m : Monitor) (written : List ℕ) (d : Doing) → waiting (mode_by d) ≡ 1 → ComesToEnd (run (taken_by x d r) m written) → may_take x d r ≡ true
may_by x r m written goes waits comes = zero_not_suc 0 waits
may_by x r m written (waits_for f args) waits comes = may_by_test x (with_reply x f args r) m written (is_reply_to x f args r) comes
may_by x r m written is_over waits comes = zero_not_suc 0 waits

may_hear : (x : Slave) (m : Monitor) (wants : Bool) (reply : Option ReplyBody) (written : List ℕ) → IsReply wants reply → waiting (mode_of x) ≡ of_bool wants → ComesToEnd (run (delivered the_sides x reply) m written) → MayHear x reply
may_hear x m wants None written is waits comes = tt
may_hear x m false (Some r) written is waits comes = absurd is
may_hear x m true (Some r) written is waits comes = may_by x r m written x.doing waits comes

hears_by : (to : Slave) (written now : List ℕ) (wants : Bool) (reply : Option ReplyBody) → waiting (mode_of to) ≡ of_bool wants → (v : ServedOne) → Tells (told_by v) (GoesOn reply) written now → ComesToEnd (answered the_sides to written v) → HasReply wants v → MayHear to reply
hears_by to written now wants reply waits (goes_on m r bytes) tells comes replies = subst (λ (o : Option ReplyBody). MayHear to o) (sym tells.0) (may_hear to m wants r (written ++ bytes) replies waits comes)
hears_by to written now wants reply waits (ends bytes end) tells comes replies = absurd tells.0
hears_by to written now wants reply waits (bad q) tells comes replies = absurd tells.0

-- what it was told, where that is known
tells_now : (x : Talk) (to : Slave) (written : List ℕ) (v : ServedOne) (told r : Handled) → told ≡ r → IsServedSo x to written v told → Tells (told_by v) r written x.written.items
tells_now x to written v told r is so = subst (λ (h : Handled). Tells (told_by v) h written x.written.items) is so.tells

pub may_hear_reply : (x : Talk) (to : Slave) (written : List ℕ) (v : ServedOne) (told : Handled) (reply : Option ReplyBody) → told ≡ GoesOn reply → IsServedSo x to written v told → MayHear to reply
may_hear_reply x to written v told reply is so = hears_by to written x.written.items so.wants reply so.waits v (tells_now x to written v told (GoesOn reply) is so) so.ends so.replies

-- ---- no rule is broken, since the pair comes to an end

never_by : (to : Slave) (written now : List ℕ) (rule : Broken) (v : ServedOne) → Tells (told_by v) (Bad rule) written now → ComesToEnd (answered the_sides to written v) → ⊥
never_by to written now rule (goes_on m reply bytes) tells comes = tells.0
never_by to written now rule (ends bytes end) tells comes = tells.0
never_by to written now rule (bad q) tells comes = wrong_never_ends written q comes

pub never_bad : (x : Talk) (to : Slave) (written : List ℕ) (v : ServedOne) (told : Handled) (rule : Broken) → told ≡ Bad rule → IsServedSo x to written v told → ⊥
never_bad x to written v told rule is so = never_by to written x.written.items rule v (tells_now x to written v told (Bad rule) is so) so.ends

-- ---- what it leaves

heard_by : (x x' : Talk) (to : Slave) (written : List ℕ) (reply : Option ReplyBody) → x'.session ≡ x.session → x'.end ≡ None → x'.written.items ≡ x.written.items → IsSlave x'.slave (delivered the_sides to reply)
    → (v : ServedOne) → Tells (told_by v) (GoesOn reply) written x.written.items → HasHeard x x' to written v false
heard_by x x' to written reply same runs wrote slave (goes_on m r bytes) tells = record {
  same = same;
  talks = λ h at. (runs, wrote ∙ tells.1, subst (λ (o : Option ReplyBody). IsSlave x'.slave (delivered the_sides to o)) tells.0 slave, ap (monitor_at h) same ∙ at);
  over_is = refl;
}
heard_by x x' to written reply same runs wrote slave (ends bytes end) tells = absurd tells.0
heard_by x x' to written reply same runs wrote slave (bad q) tells = absurd tells.0

pub heard_reply : (x x' : Talk) (to : Slave) (written : List ℕ) (v : ServedOne) (told : Handled) (reply : Option ReplyBody) → told ≡ GoesOn reply → IsServedSo x to written v told
    → x'.session ≡ x.session → x'.end ≡ x.end → x'.written.items ≡ x.written.items → IsSlave x'.slave (delivered the_sides to reply) → HasHeard x x' to written v false
heard_reply x x' to written v told reply is so same runs wrote slave = heard_by x x' to written reply same (runs ∙ so.runs) wrote slave v (tells_now x to written v told (GoesOn reply) is so)

ended_by : (x x' : Talk) (to : Slave) (written : List ℕ) (at : End) → x'.session ≡ x.session → x'.end ≡ Some at → x'.written.items ≡ x.written.items → (v : ServedOne) → Tells (told_by v) (Ended at) written x.written.items → HasHeard x x' to written v true
ended_by x x' to written at same over wrote (goes_on m r bytes) tells = absurd tells.0
ended_by x x' to written at same over wrote (ends bytes end) tells = record { same = same; talks = λ h none. (over ∙ ap Some tells.0, wrote ∙ tells.1); over_is = refl }
ended_by x x' to written at same over wrote (bad q) tells = absurd tells.0

pub heard_end : (x x' : Talk) (to : Slave) (written : List ℕ) (v : ServedOne) (told : Handled) (at : End) → told ≡ Ended at → IsServedSo x to written v told
    → x'.session ≡ x.session → x'.end ≡ Some at → x'.written.items ≡ x.written.items → HasHeard x x' to written v true
heard_end x x' to written v told at is so same over wrote = ended_by x x' to written at same over wrote v (tells_now x to written v told (Ended at) is so)

-- ---- one turn

onward_by : (x : Slave) (m : Monitor) (written : List ℕ) (message : Message) (e : code_slave) (said : HasSaid x message e) → IsOnward the_sides x m written (answered the_sides said.to written (serve m message))
onward_by x m written message e said = record { steps = said.steps; to = said.to; word = message; came_to = said.came_to; quiet = said.quiet; next_is = refl }

pub served_so : AreFair the_sides → (hub : code_hub) (h : Hub) (t t' : Talk) (x : Slave) (m : Monitor) (message : Message) (told : Handled) → IsRunning hub h t x m → (said : HasSaid x message t'.slave) → t'.end ≡ t.end
    → Tells (told_to (monitor_at h t.session) message) told t.written.items t'.written.items → IsServedSo t' said.to t.written.items (serve m message) told
served_so fair hub h t t' x m message told runs said same tells = record {
  slave = said.there;
  runs = same ∙ runs.talks.0;
  tells = subst (λ (o : Option Monitor). Tells (told_to o message) told t.written.items t'.written.items) runs.talks.3 tells;
  ends = onward_ends x m t.written.items (answered the_sides said.to t.written.items (serve m message)) (onward_by x m t.written.items message t'.slave said) runs.ends;
  wants = wants_reply message;
  replies = fair.serves m message;
  waits = said.waits;
}

pub has_taken : (hub hub' : code_hub) (h : Hub) (t t1 t2 : Talk) (x : Slave) (m : Monitor) (message : Message) (over : Bool) → IsRunning hub h t x m → (said : HasSaid x message t1.slave) → t1.session ≡ t.session
    → IsHub hub' (after_call (handles t.session message) h) → HasHeard t1 t2 said.to t.written.items (serve m message) over → HasTaken hub' h t t2 x m over
has_taken hub hub' h t t1 t2 x m message over runs said same is heard =
    let next : Hub = after_call (handles t.session message) h in
    record {
      next_hub = next;
      hub_is = is;
      others = left_others h t.session (left_behind (monitor_at h t.session) message);
      same = heard.same ∙ same;
      next = answered the_sides said.to t.written.items (serve m message);
      onward = onward_by x m t.written.items message t1.slave said;
      talks = heard.talks next (ap (monitor_at next) same ∙ handled_same h t.session message runs.hub_is.kept ∙ ap (λ (o : Option Monitor). left_behind o message) runs.talks.3);
      over_is = heard.over_is;
    }

-- its session is open
pub session_open : (hub : code_hub) (h : Hub) (t : Talk) (x : Slave) (m : Monitor) → IsRunning hub h t x m → monitor_at h t.session ≡ None → ⊥
session_open hub h t x m runs none = none_is m (sym none ∙ runs.talks.3)
  where
    none_is : (m : Monitor) → None ≡ Some m → ⊥
    none_is m e = cc
