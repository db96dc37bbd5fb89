-- A step of a sound slave.
use Rattle.std.proofs.Common.{◌≡◌, ◌∙◌, ◌≤◌, ◌<◌, ◌⊎◌, inl, inr, ℕ, suc, ◌+◌, ◌*◌, ◌^◌, refl, ap, sym, subst, arith, List, [], ◌∷◌, ◌++◌, Option, Some, None, Bool, true, false, length}
use Rattle.std.specs.Prelude.{IsTrue, ◌||◌, nat_le, if◌then◌else◌}
use Rattle.std.proofs.lemmas.Bool.{leb-false}
use Rattle.pt_base.specs.declared.int_type.IntType.{IntType}
use Rattle.pt_base.specs.declared.span.Span.{Span}
use Rattle.pt_base.specs.declared.trap.Trap.{Trap}
use Rattle.pt_base.specs.declared.trap.Trap.TheVariants.{NoReturn}
use Rattle.pt_tree.specs.declared.signature.Param.{Param}
use Rattle.pt_tree.specs.declared.signature.Signature.{Signature}
use Rattle.runs.specs.Run.{deepest}
use Rattle.block_memory.specs.declared.cell.Cell.{Cell}
use Rattle.block_memory.specs.declared.cell.BlockName.TheVariants.{Received}
use Rattle.wire.specs.Limits.{most_in_a_block}
use Rattle.wire.specs.declared.message.Message.{Message}
use Rattle.marshalling.specs.Replies.{has_plain}
use Rattle.marshalling.specs.Taking.{after_posting, known_reply}
use Rattle.marshalling_law.proofs.TakingKnown.{known_replies_are_replies}
use Rattle.pt_core.specs.CodeTree.{ProgramTree, no_stmts}
use Rattle.pt_core.specs.Calls.{signature_in, function_in}
use Rattle.pt_core.specs.Steps.{Active, Work, run, Machine, Answer, moved, asked, ended, trapped, spent, idle, Step, at_end, settled, works, stepped as steps_from}
use Rattle.pt_core.specs.WellFormed.{is_sound}
use Rattle.core_soundness_law.specs.Kept.{any}
use Rattle.core_soundness_law.specs.Fits.{Fits, MemoryFits}
use Rattle.core_soundness_law.specs.Outside.{ArgumentsFit}
use Rattle.core_soundness_law.specs.StepLaws.{AnswerFits, StepFits, called_params}
use Rattle.core_soundness_law.proofs.Shapes.{received_stay}
use Rattle.core_soundness_law.specs.Called.{is_called, CallOwn, AllAreCalled, HasAsked, GoOnWith, GoesBy, KeepsAccount}
use Rattle.core_soundness_law.proofs.CalledAccounts.{steps_keep_account}
use Rattle.core_soundness_law.proofs.CalledKeeping.{steps_keep_called}
use Rattle.core_soundness_law.proofs.CalledSteps.{steps_call_own}
use Rattle.marshalling_law.specs.CallsPackable.{AreSmall, IsPackable}
use Rattle.marshalling_law.proofs.CallsPackable.{calls_are_packable, all_are_given}
use Rattle.pair_protocol.specs.Sides.{Moved}
use Rattle.pair_meaning.specs.SlaveRun.{Slave, Doing, goes, waits_for, is_over, Heard, after_step, awaits_reply, call_of, calls_or_parks, heard_by, is_reply_to, machine_step, moves_with, must_wait, parks, places_of_call, posted, posts, results_of, says_call, slave_gate, slave_step, stepped, types_given}
use Rattle.slave_soundness_law.specs.Laws.{IsReady, CallsAreReady, SlavesStaySound}
use Rattle.slave_soundness_law.specs.Sound.{HasSignature, IsRunning, IsBare, IsFree, IsWaiting, IsDoing, IsSound, most_given}
use Rattle.slave_soundness_law.proofs.Hosts.{called_signed, fits_calls, hosts_stay}
use Rattle.slave_soundness_law.proofs.Taking.{given_few, reply_well, taken_free}

-- ---- a step of its machine

module _ (x : Slave) (sound : IsSound x) where
  abbrev s : Step Heard
  s = machine_step x

  abbrev y : Slave
  y = stepped x s

  account : KeepsAccount x.machine.active x.machine s
  account = steps_keep_account x.program (slave_gate x.program) x.machine (heard_by x)

  same_budget : (a b c : ℕ) → c ≡ b → a ≤ b → a ≤ c
  same_budget a b c e h = omega (arith, e, h)

  below_budget : (b c n : ℕ) → c ≡ b → b < n → c < n
  below_budget b c n e h = omega (arith, e, h)

  stepped_turns : s.machine.turns ≤ s.machine.budget
  stepped_turns = same_budget s.machine.turns x.machine.budget s.machine.budget account.budget (account.turns sound.turns)

  -- what was stepped, whatever it does next
  doing_next : (d : Doing) → IsDoing (record y { doing = d }) d → IsSound (record y { doing = d })
  doing_next d h = record {
    program = sound.program;
    input = sound.input;
    budget = below_budget x.machine.budget s.machine.budget (2 ^ 32) account.budget sound.budget;
    turns = stepped_turns;
    calls = same_budget x.calls x.machine.budget s.machine.budget account.budget sound.calls;
    given = sound.given;
    doing = h;
  }

  over_next : IsSound (record y { doing = is_over })
  over_next = doing_next is_over (tt {0})

  -- ---- a machine that runs

  module _ (free : IsFree x) where
    fits : StepFits any false x.program x.machine.active s
    fits = steps_keep_called any false x.program (slave_gate x.program) x.machine (heard_by x) sound.program (fits_calls x sound.program free.running.hosts sound.input) free.running.own free.running.machine free.free

    calls : AllAreCalled x.program s
    calls = steps_call_own x.program (slave_gate x.program) x.machine (heard_by x) free.running.own

    small : AreSmall s.machine.blocks
    small n = subst (λ ts. length ts ≤ most_in_a_block) (sym (received_stay x.program (slave_gate x.program) x.machine (heard_by x) n).types) (free.running.small n)

    pub running : IsRunning y
    running = record { machine = fits.machine; own = calls.left; small = small; hosts = hosts_stay x free.running.hosts sound.input free.running.own }

    -- what it asks for may be packed
    packable_from : (before active : List Active) (f : ℕ) (args : List Cell) (depth : ℕ) → AnswerFits any false x.program before s.machine.blocks (asked f args depth) → GoOnWith before active → MemoryFits any x.program active s.machine.blocks →
        IsPackable x.program.structs (signature_in x.program f).params s.machine.blocks args
    packable_from [] active f args depth answer on memory = elim on [ ]
    packable_from (a ∷ rest) active f args depth answer on memory =
        subst (λ (ps : List Param). IsPackable x.program.structs ps s.machine.blocks args) (all_are_given x.program f)
        (calls_are_packable any false x.program (record a { work = on.0 }) rest s.machine.blocks f args sound.program (subst (λ active. MemoryFits any x.program active s.machine.blocks) on.1 memory) small answer)

    packable : (f : ℕ) (args : List Cell) (depth : ℕ) → s.answer ≡ asked f args depth → IsPackable x.program.structs (signature_in x.program f).params s.machine.blocks args
    packable f args depth e =
        packable_from x.machine.active s.machine.active f args depth (subst (λ a. AnswerFits any false x.program x.machine.active s.machine.blocks a) e fits.answer)
        (subst (λ a. GoesBy x.machine.active x.machine a s.machine) e account.goes).goes_on fits.machine.memory

    signed : (f : ℕ) (args : List Cell) (depth : ℕ) → s.answer ≡ asked f args depth → HasSignature x.program f
    signed f args depth e = called_signed x.program f sound.program (calls.asks f args depth e).0

    -- ---- what it says of a call

    one_more : (a b : ℕ) → a ≤ b * most_given → a + most_given ≤ (b + 1) * most_given
    one_more a b h = omega (arith, h)

    within : (a b c : ℕ) → a ≤ b → b ≤ c → a ≤ c
    within a b c h k = omega (arith, h, k)

    room_for_call : (b t c : ℕ) → t + c < b → c + 1 ≤ b
    room_for_call b t c h = omega (arith, h)

    waits_sound : (f : ℕ) (args : List Cell) (depth : ℕ) → s.answer ≡ asked f args depth → s.machine.turns + x.calls < s.machine.budget → IsSound (record y { calls = x.calls + 1; doing = waits_for f args })
    waits_sound f args depth e less =
        let has : HasAsked x.machine.active s.machine f = subst (λ a. GoesBy x.machine.active x.machine a s.machine) e account.goes in
        record {
          program = sound.program;
          input = sound.input;
          budget = below_budget x.machine.budget s.machine.budget (2 ^ 32) account.budget sound.budget;
          turns = stepped_turns;
          calls = room_for_call s.machine.budget s.machine.turns x.calls less;
          given = within (length x.given) (length x.given + most_given) ((x.calls + 1) * most_given) (grows (length x.given)) (one_more (length x.given) x.calls sound.given);
          doing = record {
            running = record { machine = running.machine; own = running.own; small = running.small; hosts = running.hosts };
            result = has.result;
            awaits = has.awaits;
            signed = signed f args depth e;
            packable = packable f args depth e;
            room = one_more (length x.given) x.calls sound.given;
          };
        }
      where
        grows : (a : ℕ) → a ≤ a + most_given
        grows a = omega arith

    posts_sound : (f : ℕ) (args : List Cell) (depth : ℕ) → s.answer ≡ asked f args depth → x.doing ≡ goes → s.machine.turns + x.calls < s.machine.budget → must_wait y f args ≡ false → IsSound (record (posted y f args) { calls = x.calls + 1 })
    posts_sound f args depth e going less plain =
        let has : HasAsked x.machine.active s.machine f = subst (λ a. GoesBy x.machine.active x.machine a s.machine) e account.goes in
        let none = neither (has_plain (results_of y f)) (has_plain (places_of_call y f args)) plain in
        let is : is_reply_to y f args (known_reply (length x.given) s.machine.blocks x.program.structs (signature_in x.program f) args) ≡ true =
        known_replies_are_replies (length x.given) s.machine.blocks x.program.structs (signature_in x.program f) args none.0 none.1 in
        let after : IsFree (posted y f args) =
        taken_free y f args has.result (after_posting (length x.given) s.machine.blocks x.program.structs (signature_in x.program f) args) sound.program running has.awaits
        (reply_well y f args (known_reply (length x.given) s.machine.blocks x.program.structs (signature_in x.program f) args) running is) in
        record {
          program = sound.program;
          input = sound.input;
          budget = below_budget x.machine.budget s.machine.budget (2 ^ 32) account.budget sound.budget;
          turns = stepped_turns;
          calls = room_for_call s.machine.budget s.machine.turns x.calls less;
          given = within (length (x.given ++ types_given y f args)) (length x.given + most_given) ((x.calls + 1) * most_given) (given_few y f args _ is (packable f args depth e)) (one_more (length x.given) x.calls sound.given);
          doing = inl (record {
            running = record { machine = after.running.machine; own = after.running.own; small = after.running.small; hosts = after.running.hosts };
            free = after.free;
          });
        }
      where
        neither : (a b : Bool) → (a || b) ≡ false → (a ≡ false) × (b ≡ false)
        neither true b h = cc
        neither false b h = (refl, h)

    call_sound : (f : ℕ) (args : List Cell) (depth : ℕ) → s.answer ≡ asked f args depth → x.doing ≡ goes → IsSound (calls_or_parks y f args depth).slave
    call_sound f args depth e going = by_budget (nat_le s.machine.budget (s.machine.turns + x.calls)) refl
      where
        by_want : s.machine.turns + x.calls < s.machine.budget → (b : Bool) → must_wait y f args ≡ b → IsSound (if b then awaits_reply y f args depth else posts y f args depth).slave
        by_want less true w = waits_sound f args depth e less
        by_want less false w = posts_sound f args depth e going less w

        by_budget : (b : Bool) → nat_le s.machine.budget (s.machine.turns + x.calls) ≡ b → IsSound (if b then parks y else says_call y f args depth).slave
        by_budget true h = over_next
        by_budget false h = by_want (leb-false s.machine.budget (s.machine.turns + x.calls) h) (must_wait y f args) refl

    goes_sound : x.doing ≡ goes → s.answer ≡ moved → IsSound y
    goes_sound going e =
        let h : IsSound (record y { doing = goes }) =
        doing_next goes (inl (record {
          running = record { machine = running.machine; own = running.own; small = running.small; hosts = running.hosts };
          free = (subst (λ a. GoesBy x.machine.active x.machine a s.machine) e account.goes).0 ∙ free.free;
        })) in
        subst (λ d. IsSound (record y { doing = d })) (sym going) h

    after_free : x.doing ≡ goes → (a : Answer) → s.answer ≡ a → IsSound (after_step y a s.gate.wrote).slave
    after_free going moved e = by_wrote s.gate.wrote
      where
        by_wrote : (wrote : Option (List ℕ)) → IsSound (moves_with y wrote).slave
        by_wrote None = goes_sound going e
        by_wrote (Some bytes) = goes_sound going e
    after_free going (asked f args depth) e = call_sound f args depth e going
    after_free going (ended v) e = over_next
    after_free going (trapped trap span) e = over_next
    after_free going spent e = over_next
    after_free going idle e = over_next

  -- ---- a machine with nothing to do

  -- it ends, or its function owes a result
  abbrev HasNoMore : Answer → Type 0
  HasNoMore moved = ⊥
  HasNoMore (asked f args depth) = ⊥
  HasNoMore (ended v) = Unit {0}
  HasNoMore (trapped trap span) = Unit {0}
  HasNoMore spent = Unit {0}
  HasNoMore idle = Unit {0}

  bare_ends : IsBare x.machine → HasNoMore s.answer
  bare_ends bare =
      subst (λ active. HasNoMore (steps_from x.program (slave_gate x.program) x.machine (heard_by x) active).answer) (sym bare.active)
      (subst (λ work. HasNoMore (works x.program (slave_gate x.program) x.machine (heard_by x) bare.started [] (settled work)).answer) (sym bare.work)
      (by_result (signature_in x.program bare.started.function).result))
    where
      by_result : (t : Option IntType) → HasNoMore (at_end t (function_in x.program bare.started.function).end x.machine (heard_by x) bare.started []).answer
      by_result None = tt {0}
      by_result (Some t) = tt {0}

  after_bare : (a : Answer) → HasNoMore a → IsSound (after_step y a s.gate.wrote).slave
  after_bare moved h = elim h [ ]
  after_bare (asked f args depth) h = elim h [ ]
  after_bare (ended v) h = over_next
  after_bare (trapped trap span) h = over_next
  after_bare spent h = over_next
  after_bare idle h = over_next

pub slaves_stay_sound : SlavesStaySound
slaves_stay_sound x sound going = go (subst (λ d. IsDoing x d) going sound.doing)
  where
    go : IsFree x ⊎ IsBare x.machine → IsSound (slave_step x).slave
    go (inl free) = after_free x sound free going (machine_step x).answer refl
    go (inr bare) = after_bare x sound (machine_step x).answer (bare_ends x sound bare)

pub calls_are_ready : CallsAreReady
calls_are_ready x f args depth sound going e = go (subst (λ d. IsDoing x d) going sound.doing)
  where
    few : (g c b : ℕ) → g ≤ c * most_given → c ≤ b → b < 2 ^ 32 → g + most_given ≤ 2 ^ 63
    few g c b h k l = omega (arith, h, k, l)

    go : IsFree x ⊎ IsBare x.machine → IsReady (stepped x (machine_step x)) f args depth
    go (inl free) = record {
      signed = signed x sound free f args depth e;
      packable = packable x sound free f args depth e;
      depth_is = ((calls x sound free).asks f args depth e).1;
      room = few (length x.given) x.calls x.machine.budget sound.given sound.calls sound.budget;
    }
    go (inr bare) = elim (subst (λ a. HasNoMore x sound a) e (bare_ends x sound bare)) [ ]
