-- Where a slave has ended, the last that it says is its end.
use Rattle.std.proofs.Common.{◌≡◌, ◌≤◌, ℕ, ◌+◌, zero, suc, List, [], ◌∷◌, ◌++◌, Bool, true, false, Option, Some, None, refl, sym, ap, subst, ◌∙◌, arith, inl, inr}
use Rattle.std.specs.Prelude.{◌⊎◌, if◌then◌else◌}
use Rattle.wire.specs.declared.message.Message.{Message}
use Rattle.wire.specs.declared.message.ReplyBody.{ReplyBody}
use Rattle.wire.specs.Frames.{Ending, open_end, bad_frame_at, too_long_at}
use Rattle.pt_core.specs.CodeTree.{BootTree}
use Rattle.pair_protocol.specs.Sides.{Mode, going, waits, over}
use Rattle.pair_protocol.specs.SlaveRun as run
use Rattle.pair_protocol.specs.SlaveRun.{At, Ready, came, having, listed, moved_on, with_said}
use Rattle.pair_protocol.proofs.OrderSlaveFacts.{one_reply, one_step, ready_none}
use Rattle.pair_protocol.proofs.OrderFacts.{over_waits, waits_going}
use Rattle.pair_meaning.specs.Pair.{said, slave_at, the_sides}
use Rattle.pair_meaning.specs.Peer.{is_awaited}
use Rattle.pair_meaning.specs.SlaveRun.{Slave, Doing, goes, waits_for, is_over, longest, mode_by, mode_of, slave_of, slave_step, take}
use Rattle.pair_meaning.proofs.Fair.{the_sides_are_fair}
use Rattle.pair_meaning.proofs.Stops.{slaves_stop}
use Rattle.slave_runner.specs.Laws.{HasEnd, LastMessagesEnd}
use Rattle.slave_runner.specs.Replies.{Heard, behind_boot, hear_replies, hear_reply, heard, is_wait, is_waiting, reply_of, slave_with}
use Rattle.slave_runner.specs.Rules.{ParentRule, has_ended, at_rule, bad_reply}
use Rattle.slave_runner.proofs.RunLemmas.{Makes, few_made, more_steps, rests_at}
use Rattle.slave_runner.proofs.StepLemmas.{IsLive, HasSaidEnd, LivesOrEnds, steps_live, takes_live}

-- ---- lists

end_behind : (x : Message) (xs : List Message) → HasEnd xs → HasEnd (x ∷ xs)
end_behind x [] h = absurd h
end_behind x (y ∷ xs) h = h

end_after : (xs ys : List Message) → HasEnd ys → HasEnd (xs ++ ys)
end_after [] ys h = h
end_after (x ∷ xs) ys h = end_behind x (xs ++ ys) (end_after xs ys h)

end_with : (o : Option Message) (xs : List Message) → HasEnd xs → HasEnd (with_said o xs)
end_with None xs h = h
end_with (Some x) xs h = end_behind x xs h

-- ---- a run without replies

-- where it comes to rest: it has made so many steps, and so many suffice; it lives, or has said its end
pub record Rests (n : ℕ) (x : Slave) : Type 0 where
  pub steps : ℕ
  pub to : Slave
  pub messages : List Message
  pub few : steps ≤ n
  pub by_these : run.slave_at the_sides steps x [] ≡ came to messages [] steps
  pub used : mode_of to ≡ going → steps ≡ n
  pub lives : IsLive to ⊎ ((mode_of to ≡ over) × HasEnd messages)

none_run : (n : ℕ) (x : Slave) → run.slave_at the_sides (suc n) x [] ≡ moved_on the_sides (mode_of x) (having x []) (run.slave_at the_sides n (slave_step x).slave [])
none_run n x = ap (λ (c : Ready Slave ReplyBody). moved_on the_sides (mode_of c.slave) c (run.slave_at the_sides n (slave_step c.slave).slave c.left)) (ready_none the_sides x)

none_there : (x : Slave) → run.slave_at the_sides 0 x [] ≡ came x [] [] 0
none_there x = ap (λ (c : Ready Slave ReplyBody). came c.slave [] c.left 0) (ready_none the_sides x)

stays : (n : ℕ) (x : Slave) → IsLive x → (mode_of x ≡ going → 0 ≡ n) → Rests n x
stays n x live used = record { steps = 0; to = x; messages = []; few = omega arith; by_these = none_there x; used = used; lives = inl live }

ends_there : (n : ℕ) (x : Slave) → mode_of x ≡ going → HasSaidEnd (slave_step x) → Rests (suc n) x
ends_there n x e h = record {
  steps = 1;
  to = (slave_step x).slave;
  messages = h.said ∷ [];
  few = omega arith;
  by_these = none_run 0 x ∙ ap (λ (m : Mode). moved_on the_sides m (having x []) (run.slave_at the_sides 0 (slave_step x).slave [])) e
      ∙ ap (λ (a : At Slave Message ReplyBody). came a.slave (with_said (slave_step x).said a.said) a.left (suc a.made)) (none_there (slave_step x).slave)
      ∙ ap (λ (o : Option Message). came (slave_step x).slave (with_said o []) [] 1) h.is_said;
  used = λ g. over_going (sym (ap mode_by h.over_now) ∙ g);
  lives = inr (ap mode_by h.over_now, h.is_end);
}
  where
    over_going : {A : Type 0} → over ≡ going → A
    over_going z = cc

one_further : (n : ℕ) (x : Slave) → mode_of x ≡ going → Rests n (slave_step x).slave → Rests (suc n) x
one_further n x e r = record {
  steps = suc r.steps;
  to = r.to;
  messages = with_said (slave_step x).said r.messages;
  few = let f : r.steps ≤ n = r.few in omega (arith, f);
  by_these = none_run r.steps x ∙ ap (λ (m : Mode). moved_on the_sides m (having x []) (run.slave_at the_sides r.steps (slave_step x).slave [])) e
      ∙ ap (λ (a : At Slave Message ReplyBody). came a.slave (with_said (slave_step x).said a.said) a.left (suc a.made)) r.by_these;
  used = λ g. ap suc (r.used g);
  lives = on r.lives;
}
  where
    on : IsLive r.to ⊎ ((mode_of r.to ≡ over) × HasEnd r.messages) → IsLive r.to ⊎ ((mode_of r.to ≡ over) × HasEnd (with_said (slave_step x).said r.messages))
    on (inl live) = inl live
    on (inr (o, h)) = inr (o, end_with (slave_step x).said r.messages h)

one_step_more : (n : ℕ) (x : Slave) → mode_of x ≡ going → ((y : Slave) → IsLive y → Rests n y) → LivesOrEnds (slave_step x) → Rests (suc n) x
one_step_more n x e more (inl on) = one_further n x e (more (slave_step x).slave on)
one_step_more n x e more (inr ended) = ends_there n x e ended

settles_by : (n : ℕ) (x : Slave) → IsLive x → ((y : Slave) → IsLive y → Rests n y) → (d : Doing) → x.doing ≡ d → Rests (suc n) x
settles_by n x live more goes e = one_step_more n x (ap mode_by e) more (steps_live x live e)
settles_by n x live more (waits_for f args) e = stays (suc n) x live (λ g. waits_going (sym (ap mode_by e) ∙ g))
settles_by n x live more is_over e = absurd (live.open_still e)

pub settles : (n : ℕ) (x : Slave) → IsLive x → Rests n x
settles zero x live = stays 0 x live (λ g. refl)
settles (suc n) x live = settles_by n x live (settles n) x.doing refl

-- ---- the slave of a boot with replies

-- it is at rest, and lives or has said its end
record Settled (b : BootTree) (replies : List ReplyBody) : Type 0 where
  pub steps : ℕ
  pub at : Slave
  pub messages : List Message
  pub came_to : slave_at b replies steps ≡ came at messages [] steps
  pub rested : mode_of at ≡ going → ⊥
  pub lives : IsLive at ⊎ ((mode_of at ≡ over) × HasEnd messages)

few : (b : BootTree) (replies : List ReplyBody) (steps : ℕ) (x : Slave) (messages : List Message) → slave_at b replies steps ≡ came x messages [] steps → steps ≤ longest b
few b replies steps x messages e = few_made the_sides (longest b) steps (slave_of b) replies x messages (slaves_stop b).bound e

still_lives : (to : Slave) (xs ys : List Message) → IsLive to ⊎ ((mode_of to ≡ over) × HasEnd ys) → IsLive to ⊎ ((mode_of to ≡ over) × HasEnd (xs ++ ys))
still_lives to xs ys (inl live) = inl live
still_lives to xs ys (inr (o, h)) = inr (o, end_after xs ys h)

settled_from : (b : BootTree) (replies : List ReplyBody) (k : ℕ) (x : Slave) (messages : List Message) → slave_at b replies k ≡ came x messages [] k → IsLive x → Settled b replies
settled_from b replies k x messages e live =
    let r = settles (longest b) x live in
    let made : Makes r.steps r.to r.messages (run.slave_at the_sides r.steps x []) = record { slave_is = ap (λ (a : At Slave Message ReplyBody). a.slave) r.by_these; said_is = ap (λ (a : At Slave Message ReplyBody). a.said) r.by_these; made_is = ap (λ (a : At Slave Message ReplyBody). a.made) r.by_these } in
    let far = more_steps the_sides r.steps k (slave_of b) replies x r.to messages r.messages e made in
    record {
      steps = k + r.steps;
      at = r.to;
      messages = messages ++ r.messages;
      came_to = far;
      rested = λ g. too_far g (r.used g) far;
      lives = still_lives r.to messages r.messages r.lives;
    }
  where
    too_far : {to : Slave} {all : List Message} {n : ℕ} → mode_of to ≡ going → n ≡ longest b → slave_at b replies (k + n) ≡ came to all [] (k + n) → ⊥
    too_far {to = to} {all = all} {n = n} g used far =
        let most : suc (k + n) ≤ longest b = few b replies (suc (k + n)) (slave_step to).slave (all ++ listed (slave_step to).said) (one_step the_sides (k + n) (slave_of b) replies to all far g) in
        omega (arith, most, used)

settled_first : (b : BootTree) → Settled b []
settled_first b = settled_from b [] 0 (slave_of b) [] (none_there (slave_of b)) (record { open_still = goes_over; filled = tt {0} })
  where
    goes_over : goes ≡ is_over → ⊥
    goes_over z = cc

-- the slave with these replies is this one, and has said this
with_is : (b : BootTree) (replies : List ReplyBody) (t : Settled b replies) → slave_at b replies (longest b) ≡ came t.at t.messages [] t.steps
with_is b replies t = rests_at the_sides (longest b) t.steps (slave_of b) replies t.at t.messages (few b replies t.steps t.at t.messages t.came_to) t.came_to t.rested

waits_is : (m : Mode) → is_wait m ≡ true → m ≡ waits
waits_is going e = cc
waits_is waits e = refl
waits_is over e = cc

live_now : (x : Slave) (messages : List Message) → mode_of x ≡ waits → IsLive x ⊎ ((mode_of x ≡ over) × HasEnd messages) → IsLive x
live_now x messages w (inl live) = live
live_now x messages w (inr (o, h)) = over_waits (sym o ∙ w)

settled_more : (b : BootTree) (replies : List ReplyBody) (reply : ReplyBody) → Settled b replies → is_waiting (slave_with b replies) ≡ true → is_awaited (slave_with b replies) reply ≡ true → Settled b (replies ++ reply ∷ [])
settled_more b replies reply t w a =
    let is = ap (λ (c : At Slave Message ReplyBody). c.slave) (with_is b replies t) in
    let mode : mode_of t.at ≡ waits = waits_is (mode_of t.at) (ap is_waiting (sym is) ∙ w) in
    settled_from b (replies ++ reply ∷ []) t.steps (take reply t.at) t.messages (one_reply the_sides the_sides_are_fair reply t.steps (slave_of b) replies t.at t.messages t.came_to mode)
    (takes_live t.at reply (live_now t.at t.messages mode t.lives) (ap (λ y. is_awaited y reply) (sym is) ∙ a))

-- where it neither goes on nor waits it has said its end
ended_by : (x : Slave) (messages : List Message) → IsLive x ⊎ ((mode_of x ≡ over) × HasEnd messages) → (d : Doing) → x.doing ≡ d → (mode_of x ≡ going → ⊥) → is_waiting x ≡ false → HasEnd messages
ended_by x messages (inr (o, h)) d e rested w = h
ended_by x messages (inl live) goes e rested w = absurd (rested (ap mode_by e))
ended_by x messages (inl live) (waits_for f args) e rested w = true_false (sym (ap (λ d. is_wait (mode_by d)) e) ∙ w)
  where
    true_false : {A : Type 0} → true ≡ false → A
    true_false z = cc
ended_by x messages (inl live) is_over e rested w = absurd (live.open_still e)

ended : (b : BootTree) (replies : List ReplyBody) → Settled b replies → is_waiting (slave_with b replies) ≡ false → HasEnd (said b replies)
ended b replies t w =
    let is = with_is b replies t in
    subst HasEnd (sym (ap (λ (c : At Slave Message ReplyBody). c.said) is)) (ended_by t.at t.messages t.lives t.at.doing refl t.rested (ap (λ (c : At Slave Message ReplyBody). is_waiting c.slave) (sym is) ∙ w))

-- ---- over frames

abbrev Ends : BootTree → Heard → Type 0
Ends b h = h.stopped ≡ has_ended → HasEnd (said b h.replies)

rule_ends : {A : Type 0} (r : ParentRule) (place : ℕ) → at_rule r place ≡ has_ended → A
rule_ends r place e = cc

open_ends : (ending : Ending) → behind_boot ending ≡ has_ended → ⊥
open_ends open_end e = cc
open_ends (bad_frame_at place) e = cc
open_ends (too_long_at place) e = cc

none_ends : (b : BootTree) (replies : List ReplyBody) (ending : Ending) → Settled b replies → (w : Bool) → is_waiting (slave_with b replies) ≡ w → Ends b (heard replies (if w then behind_boot ending else has_ended))
none_ends b replies ending t true e h = absurd (open_ends ending h)
none_ends b replies ending t false e h = ended b replies t e

awaited_ends : (b : BootTree) (replies : List ReplyBody) (reply : ReplyBody) (place : ℕ) (more : Heard) → (is_awaited (slave_with b replies) reply ≡ true → Ends b more) → (a : Bool) → is_awaited (slave_with b replies) reply ≡ a →
    Ends b (if a then more else heard replies (at_rule bad_reply place))
awaited_ends b replies reply place more others true e h = others e h
awaited_ends b replies reply place more others false e h = rule_ends bad_reply place h

reply_ends : (b : BootTree) (replies : List ReplyBody) (place : ℕ) (o : Option ReplyBody) (more : List ReplyBody → Heard) → Settled b replies → is_waiting (slave_with b replies) ≡ true → ((rs : List ReplyBody) → Settled b rs → Ends b (more rs)) →
    Ends b (hear_reply b replies place o more)
reply_ends b replies place None more t w others h = rule_ends bad_reply place h
reply_ends b replies place (Some reply) more t w others h =
    awaited_ends b replies reply place (more (replies ++ reply ∷ [])) (λ a. others (replies ++ reply ∷ []) (settled_more b replies reply t w a)) (is_awaited (slave_with b replies) reply) refl h

first_ends : (b : BootTree) (replies : List ReplyBody) (place : ℕ) (o : Option ReplyBody) (more : List ReplyBody → Heard) → Settled b replies → ((rs : List ReplyBody) → Settled b rs → Ends b (more rs)) → (w : Bool) → is_waiting (slave_with b replies) ≡ w →
    Ends b (if w then hear_reply b replies place o more else heard replies has_ended)
first_ends b replies place o more t others true e h = reply_ends b replies place o more t e others h
first_ends b replies place o more t others false e h = ended b replies t e

frames_end : (b : BootTree) (replies : List ReplyBody) (frames : List (Message × ℕ)) (ending : Ending) → Settled b replies → Ends b (hear_replies b replies frames ending)
frames_end b replies [] ending t h = none_ends b replies ending t (is_waiting (slave_with b replies)) refl h
frames_end b replies (f ∷ frames) ending t h =
    first_ends b replies f.1 (reply_of f.0) (λ rs. hear_replies b rs frames ending) t (λ rs u. frames_end b rs frames ending u) (is_waiting (slave_with b replies)) refl h

pub last_messages_end : LastMessagesEnd
last_messages_end b frames ending h = frames_end b [] frames ending (settled_first b) h
