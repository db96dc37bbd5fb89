-- What a step says has a spelling.
use Rattle.std.proofs.Common.{◌≡◌, ◌≤◌, ◌<◌, ◌⊎◌, inl, inr, ℕ, nat_eq, ◌+◌, ◌^◌, refl, sym, subst, arith, List, [], ◌∷◌, Option, Some, None, Bool, true, false, length, if◌then◌else◌}
use Rattle.std.specs.Prelude.{IsTrue, ◌||◌, nat_le}
use Rattle.std.specs.List.{AllByRecursion}
use Rattle.std.specs.Map.{lookup}
use Rattle.std.proofs.lemmas.Bool.{ltb-true}
use Rattle.std.proofs.lemmas.Bool.Decides.{nat_tests}
use Rattle.pt_base.specs.declared.int_type.IntType.{IntType}
use Rattle.pt_tree.specs.declared.signature.Param.{Param}
use Rattle.pt_tree.specs.declared.signature.Signature.{Signature}
use Rattle.runs.specs.Run.{deepest}
use Rattle.block_memory.specs.declared.cell.Cell.{Cell}
use Rattle.wire.specs.Limits.{most_in_a_block}
use Rattle.wire.specs.declared.message.Message.{Message}
use Rattle.wire.specs.declared.message.Message.TheVariants as message
use Rattle.wire.specs.declared.message.ReplyBody.{ReplyBody}
use Rattle.marshalling.specs.Packing.{packed}
use Rattle.marshalling.specs.Replies.{has_plain}
use Rattle.marshalling.specs.Taking.{after_posting, known_reply}
use Rattle.marshalling_law.proofs.TakingKnown.{known_replies_are_replies}
use Rattle.boot_fields.specs.Limits.{FitsNumbered, FitsSignature, FitsSpan}
use Rattle.pt_core.specs.Calls.{signature_in, function_in}
use Rattle.pt_core.specs.Steps.{Active, Answer, moved, asked, ended, trapped, spent, idle, Step, at_end, settled, works, stepped as steps_from}
use Rattle.core_soundness_law.specs.Fits.{Fits, MemoryFits}
use Rattle.core_soundness_law.specs.StepLaws.{AnswerFits, StepFits}
use Rattle.core_soundness_law.proofs.Shapes.{received_stay}
use Rattle.core_soundness_law.specs.Called.{GoesBy, GoOnWith, HasAsked, KeepsAccount}
use Rattle.core_soundness_law.proofs.CalledAccounts.{steps_keep_account}
use Rattle.core_soundness_law.proofs.CalledKeeping.{steps_keep_called}
use Rattle.marshalling_law.specs.CallsPackable.{AreSmall}
use Rattle.marshalling_law.specs.CallsSpelled.{HasSpelling}
use Rattle.marshalling_law.proofs.CallsPackable.{all_are_given}
use Rattle.marshalling_law.proofs.CallsSpelled.{calls_are_spelled, exits_are_spelled, parks_are_spelled, traps_are_spelled}
use Rattle.pair_protocol.specs.Sides.{Moved}
use Rattle.pair_meaning.specs.SlaveRun.{Slave, goes, is_over, Heard, after_step, awaits_reply, call_of, calls_or_parks, heard_by, is_reply_to, machine_step, moves_with, must_wait, parks, places_of_call, posted, posts, results_of, says_call, slave_gate, slave_step, stepped}
use Rattle.slave_soundness_law.specs.Laws.{IsReady}
use Rattle.slave_soundness_law.specs.Sound.{IsBare, IsDoing, IsFree, IsSound}
use Rattle.slave_soundness_law.proofs.Hosts.{fits_calls}
use Rattle.slave_soundness_law.proofs.Stepping.{calls_are_ready, slaves_stay_sound}
use Rattle.slave_soundness_law.specs.MessagesFormat.{HandlesFit, IsInFormat, numbered}
use Rattle.slave_soundness_law.specs.MessagesLaws.{SaysSpelled, StepsAreSpelled}
use Rattle.slave_soundness_law.proofs.MessagesSteps.{KeepsCode, TrapFits, steps_keep_code}
use Rattle.slave_soundness_law.proofs.MessagesTaking.{reply_well, taken_numbered}
use Rattle.slave_soundness_law.proofs.MessagesWriting.{HeardFits, WroteFits, heard_fits}

-- ---- numbers

-- what has a signature has a number of 32 bits
number_fits : (f : ℕ) (signatures : List (ℕ × Signature)) (s : Signature) → lookup (nat_eq f) signatures ≡ Some s → AllByRecursion (FitsNumbered FitsSignature) signatures → f < 2 ^ 32
number_fits f [] s e h = cc
number_fits f (x ∷ signatures) s e h = go (λ k. number_fits f signatures s k h.1) (nat_eq f x.0) refl e
  where
    same : (n : ℕ) → nat_eq f n ≡ true → n < 2 ^ 32 → f < 2 ^ 32
    same n t less = grind (arith, nat_tests)

    go : (lookup (nat_eq f) signatures ≡ Some s → f < 2 ^ 32) → (b : Bool) → nat_eq f x.0 ≡ b → (if b then Some x.1 else lookup (nat_eq f) signatures) ≡ Some s → f < 2 ^ 32
    go more true t k = same x.0 t h.0.0
    go more false t k = more k

-- such handles have numbers of 64 bits
are_numbered : (t : IntType) (handle : ℕ) → IsTrue (numbered t handle) → handle < 2 ^ 64
are_numbered t handle h = ltb-true handle (2 ^ 64) h

-- what is said where the slave behind it is sound
abbrev Says : Moved Slave Message → Type 0
Says m = IsSound m.slave → SaysSpelled m

-- it says its last, or nothing
abbrev IsLast : Answer → Type 0
IsLast moved = ⊥
IsLast (asked f args depth) = ⊥
IsLast (ended v) = Unit {0}
IsLast (trapped trap span) = Unit {0}
IsLast spent = Unit {0}
IsLast idle = Unit {0}

-- a step of a machine with nothing to do
record Bare (step : Step Heard) : Type 0 where
  last : IsLast step.answer
  heard : HeardFits step.gate

-- ---- a step of its machine

module _ (x : Slave) (h : IsInFormat x) where
  abbrev s : Step Heard
  s = machine_step x

  abbrev y : Slave
  y = stepped x s

  account : KeepsAccount x.machine.active x.machine s
  account = steps_keep_account x.program (slave_gate x.program) x.machine (heard_by x)

  code : KeepsCode s
  code = steps_keep_code x.program (slave_gate x.program) h.code.functions x.machine (heard_by x) h.left

  turns_fit : s.machine.turns < 2 ^ 64
  turns_fit = go s.machine.turns x.machine.budget (account.turns h.sound.turns) h.sound.budget
    where
      go : (a b : ℕ) → a ≤ b → b < 2 ^ 32 → a < 2 ^ 64
      go a b less most = omega (arith, less, most)

  budget_fits : s.machine.budget + 1 < 2 ^ 64
  budget_fits = go s.machine.budget x.machine.budget account.budget h.sound.budget
    where
      go : (a b : ℕ) → a ≡ b → b < 2 ^ 32 → a + 1 < 2 ^ 64
      go a b e most = omega (arith, e, most)

  -- ---- its last messages

  module _ (heard : HeardFits s.gate) where
    ends_spelled : (m : Message) → HasSpelling m → Says (record { slave = record y { doing = is_over }; said = Some m })
    ends_spelled m spelled sound = record { stays = record { sound = sound; code = h.code; left = code.left; hosts = heard.hosts; handles = tt {0} }; spelled = spelled }

    parks_spelled : Says (parks y)
    parks_spelled = ends_spelled _ (parks_are_spelled (s.machine.budget + 1) budget_fits)

    last_spelled : (a : Answer) → s.answer ≡ a → IsLast a → Says (after_step y a s.gate.wrote)
    last_spelled moved e is = elim is [ ]
    last_spelled (asked f args depth) e is = elim is [ ]
    last_spelled (ended v) e is = ends_spelled _ (exits_are_spelled s.machine.turns v turns_fit)
    last_spelled (trapped trap span) e is = let span_fits : FitsSpan span = subst TrapFits e code.trap in ends_spelled _ (traps_are_spelled s.machine.turns trap span turns_fit span_fits.0 span_fits.1)
    last_spelled spent e is = parks_spelled
    last_spelled idle e is = λ sound. record { stays = record { sound = sound; code = h.code; left = code.left; hosts = heard.hosts; handles = tt {0} }; spelled = tt }

  -- ---- a machine with nothing to do

  bare_step : IsBare x.machine → Bare s
  bare_step bare =
      subst (λ active. Bare (steps_from x.program (slave_gate x.program) x.machine (heard_by x) active)) (sym bare.active)
      (subst (λ work. Bare (works x.program (slave_gate x.program) x.machine (heard_by x) bare.started [] (settled work))) (sym bare.work)
      (by_result (signature_in x.program bare.started.function).result))
    where
      silent_heard : HeardFits (heard_by x)
      silent_heard = record { hosts = h.hosts; wrote = tt {0} }

      by_result : (t : Option IntType) → Bare (at_end t (function_in x.program bare.started.function).end x.machine (heard_by x) bare.started [])
      by_result None = record { last = tt {0}; heard = silent_heard }
      by_result (Some t) = record { last = tt {0}; heard = silent_heard }

  bare_says : IsBare x.machine → Says (slave_step x)
  bare_says bare = let b = bare_step bare in last_spelled b.heard s.answer refl b.last

  -- ---- a machine that runs

  module _ (free : IsFree x) (handles : Fits numbered false x.program x.machine) (going : x.doing ≡ goes) where
    heard : HeardFits s.gate
    heard = heard_fits x h free.running handles

    fits : StepFits numbered false x.program x.machine.active s
    fits =
        steps_keep_called numbered false x.program (slave_gate x.program) x.machine (heard_by x) h.sound.program (fits_calls x h.sound.program free.running.hosts h.sound.input) free.running.own handles free.free

    small : AreSmall s.machine.blocks
    small n = subst (λ ts. length ts ≤ most_in_a_block) (sym (received_stay x.program (slave_gate x.program) x.machine (heard_by x) n).types) (free.running.small n)

    -- ---- a call

    call_from : (before active : List Active) (f : ℕ) (args : List Cell) (depth : ℕ) (wants : Bool) → AnswerFits numbered false x.program before s.machine.blocks (asked f args depth) → GoOnWith before active →
        MemoryFits numbered x.program active s.machine.blocks → f < 2 ^ 32 → depth < 2 ^ 8 → HasSpelling (call_of y f args depth wants)
    call_from [] active f args depth wants answer on memory less low = elim on [ ]
    call_from (a ∷ rest) active f args depth wants answer on memory less low =
        subst (λ (ps : List Param). HasSpelling (message.Call s.machine.turns f depth wants (packed s.machine.blocks ps args))) (all_are_given x.program f)
        (calls_are_spelled numbered false x.program (record a { work = on.0 }) rest s.machine.blocks s.machine.turns f depth wants args h.sound.program
        (subst (λ active. MemoryFits numbered x.program active s.machine.blocks) on.1 memory) small are_numbered answer turns_fit less low)

    asks : (f : ℕ) (args : List Cell) (depth : ℕ) → s.answer ≡ asked f args depth → HasAsked x.machine.active s.machine f
    asks f args depth e = subst (λ a. GoesBy x.machine.active x.machine a s.machine) e account.goes

    ready : (f : ℕ) (args : List Cell) (depth : ℕ) → s.answer ≡ asked f args depth → IsReady y f args depth
    ready f args depth e = calls_are_ready x f args depth h.sound going e

    call_spelled : (f : ℕ) (args : List Cell) (depth : ℕ) (wants : Bool) → s.answer ≡ asked f args depth → HasSpelling (call_of y f args depth wants)
    call_spelled f args depth wants e =
        let has : IsReady y f args depth = ready f args depth e in
        call_from x.machine.active s.machine.active f args depth wants (subst (λ a. AnswerFits numbered false x.program x.machine.active s.machine.blocks a) e fits.answer)
        (asks f args depth e).goes_on fits.machine.memory (number_fits f x.program.signatures has.signed.0 has.signed.1 h.code.signatures) (low depth has.depth_is)
      where
        low : (d : ℕ) → d ≤ deepest → d < 2 ^ 8
        low d less = omega (arith, less)

    posted_fits : (f : ℕ) (args : List Cell) (depth : ℕ) → s.answer ≡ asked f args depth → must_wait y f args ≡ false → Fits numbered false x.program (posted y f args).machine
    posted_fits f args depth e plain =
        let has : IsReady y f args depth = ready f args depth e in
        let none = neither (has_plain (results_of y f)) (has_plain (places_of_call y f args)) plain in
        let reply : ReplyBody = known_reply (length x.given) s.machine.blocks x.program.structs (signature_in x.program f) args in
        let is : is_reply_to y f args reply ≡ true = known_replies_are_replies (length x.given) s.machine.blocks x.program.structs (signature_in x.program f) args none.0 none.1 in
        taken_numbered y f args (asks f args depth e).result (after_posting (length x.given) s.machine.blocks x.program.structs (signature_in x.program f) args) h.sound.program (asks f args depth e).awaits
        (reply_well y f args reply fits.machine is has.packable has.room)
      where
        neither : (a b : Bool) → (a || b) ≡ false → (a ≡ false) × (b ≡ false)
        neither true b h = cc
        neither false b h = (refl, h)

    call_says : (f : ℕ) (args : List Cell) (depth : ℕ) → s.answer ≡ asked f args depth → Says (calls_or_parks y f args depth)
    call_says f args depth e = by_budget (nat_le s.machine.budget (s.machine.turns + x.calls))
      where
        by_want : (b : Bool) → must_wait y f args ≡ b → Says (if b then awaits_reply y f args depth else posts y f args depth)
        by_want true w = λ sound. record { stays = record { sound = sound; code = h.code; left = code.left; hosts = heard.hosts; handles = fits.machine }; spelled = call_spelled f args depth true e }
        by_want false w = λ sound. record { stays = record { sound = sound; code = h.code; left = code.left; hosts = heard.hosts; handles = inl (posted_fits f args depth e w) }; spelled = call_spelled f args depth false e }

        by_budget : (b : Bool) → Says (if b then parks y else says_call y f args depth)
        by_budget true = parks_spelled heard
        by_budget false = by_want (must_wait y f args) refl

    -- ---- what a host wrote

    handles_next : HandlesFit x.program s.machine x.doing
    handles_next = subst (λ d. HandlesFit x.program s.machine d) (sym going) (inl fits.machine)

    moved_says : (wrote : Option (List ℕ)) → WroteFits wrote → Says (moves_with y wrote)
    moved_says None k = λ sound. record { stays = record { sound = sound; code = h.code; left = code.left; hosts = heard.hosts; handles = handles_next }; spelled = tt }
    moved_says (Some bytes) k = λ sound. record { stays = record { sound = sound; code = h.code; left = code.left; hosts = heard.hosts; handles = handles_next }; spelled = k s.machine.turns turns_fit }

    running_says : (a : Answer) → s.answer ≡ a → Says (after_step y a s.gate.wrote)
    running_says moved e = moved_says s.gate.wrote heard.wrote
    running_says (asked f args depth) e = call_says f args depth e
    running_says (ended v) e = last_spelled heard (ended v) e (tt {0})
    running_says (trapped trap span) e = last_spelled heard (trapped trap span) e (tt {0})
    running_says spent e = last_spelled heard spent e (tt {0})
    running_says idle e = last_spelled heard idle e (tt {0})

pub steps_are_spelled : StepsAreSpelled
steps_are_spelled x h going = go (subst (λ d. IsDoing x d) going h.sound.doing) (subst (λ d. HandlesFit x.program x.machine d) going h.handles) (slaves_stay_sound x h.sound going)
  where
    go : IsFree x ⊎ IsBare x.machine → Fits numbered false x.program x.machine ⊎ IsBare x.machine → Says (slave_step x)
    go (inl free) (inl handles) = running_says x h free handles going (machine_step x).answer refl
    go (inl free) (inr bare) = bare_says x h bare
    go (inr bare) handles = bare_says x h bare
