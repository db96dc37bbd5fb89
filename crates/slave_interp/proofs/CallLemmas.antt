-- A call that a slave may pack: what it needs of its parts, and what comes back.
use Rattle.std.proofs.Common.{◌≡◌, ◌∙◌, ◌≤◌, ◌+◌, ◌^◌, ℕ, nat_eq, refl, sym, ap, subst, arith, List, ◌++◌, Bool, true, false, Option, Some, None, Err, length}
use Rattle.std.specs.Prelude.{IsTrue, ◌||◌, unwrap_or}
use Rattle.std.specs.Map.{lookup}
use Rattle.std.proofs.Math.Logic.{∥∥₁_elim, ∥∥₁_prop}
use Rattle.std.proofs.Props.{props}
use Rattle.std.proofs.lemmas.List.{length-append}
use Rattle.pt_base.proofs.Booleans.{truth_is_prop}
use Rattle.pt_tree.specs.declared.signature.Signature.{Signature}
use Rattle.typed_tree.specs.declared.types.StructInfo.{StructInfo}
use Rattle.block_memory.specs.declared.cell.Cell.{Cell}
use Rattle.block_memory.specs.Blocks.{Blocks}
use Rattle.wire.specs.declared.message.CallBody.{CallBody}
use Rattle.wire.specs.declared.message.ReplyBody.{ReplyBody}
use Rattle.marshalling.specs.declared.fault.BadReply.{BadReply}
use Rattle.marshalling.specs.declared.fault.BadReply.TheVariants.{Shape}
use Rattle.marshalling.specs.declared.returned.Returned.{Returned}
use Rattle.marshalling.specs.Leaves.{has_structs}
use Rattle.marshalling.specs.Packing.{names_of, packed}
use Rattle.marshalling.specs.Replies.{has_plain, next_after, reply_has_plain, result_places}
use Rattle.marshalling.specs.Returns.{AreAsLong, Takes, placed, with_cells}
use Rattle.marshalling.specs.Taking.{Taken, after_posting, after_reply, are_whole, call_places, is_reply, known_reply}
use Rattle.marshalling_law.proofs.PostingLemmas.{replies_hold_numbers}
use Rattle.marshalling_law.proofs.TakenReplyLemmas.{replies_are_taken}
use Rattle.marshalling_law.proofs.RepliesFew.{postings_give_few, replies_give_few}
use Rattle.marshalling_law.proofs.TakingKnown.{known_replies_are_replies}
use Rattle.pt_core.specs.CodeTree.{ProgramTree}
use Rattle.pt_core.specs.Calls.{no_signature, signature_in}
use Rattle.pt_core.specs.Steps as steps
use Rattle.core_machine.specs.declared.machine.Machine.{Machine}
use Rattle.core_machine.specs.Machines.{Shown}
use Rattle.pair_meaning.specs.LowView.{types_kept}
use Rattle.pair_meaning.specs.SlaveRun as s
use Rattle.pair_meaning.specs.SlaveRun.{is_reply_to, must_wait, places_of_call, posted, results_of, types_given, with_reply, with_taken}
use Rattle.slave_soundness_law.specs.Sound.{most_given}
use Rattle.slave_soundness_law.proofs.Taking.{next_counts}
use Rattle.slave_interp.specs.declared.calling.Packed.{Packed}
use Rattle.slave_interp.specs.declared.engine.Engine.{Engine}
use Rattle.slave_interp.specs.Engines.{IsPacked, MayCall, Runs}
use Rattle.slave_interp.specs.Returning.{MayReturn}

false_set : (b : Bool) → IsProp (b ≡ false)
false_set b = hlevel props

less_set : (m n : ℕ) → IsProp (m ≤ n)
less_set m n = hlevel props

nothing : IsProp ⊥
nothing x y = absurd x

-- ---- what is called has a signature

pub signature_there : (e : Engine) (f : ℕ) (args : List Cell) → MayCall e f args → None ≡ lookup (nat_eq f) e.gate.signatures → ⊥
signature_there e f args may none = ∥∥₁_elim may nothing (λ c. clash c.signed.0 (none ∙ ap (λ (signatures : List (ℕ × Signature)). lookup (nat_eq f) signatures) c.runs.signatures_are ∙ c.signed.1))
  where
    clash : (s : Signature) → None ≡ Some s → ⊥
    clash s h = cc

pub few_arguments : (e : Engine) (f : ℕ) (args : List Cell) → MayCall e f args → length args ≤ 8
few_arguments e f args may = ∥∥₁_elim may (less_set _ _) (λ c. c.packable.few)

-- ---- a call with the memory, structs and signature that code has of it

pub record Seen (e : Engine) (f : ℕ) (x : Blocks) (structs : List StructInfo) (sig : Signature) : Type 0 where
  pub memory : (program : ProgramTree) (m : steps.Machine) → Shown program e.machine m → x ≡ m.blocks
  pub structs_is : structs ≡ e.structs
  pub signature : Some sig ≡ lookup (nat_eq f) e.gate.signatures

-- they are the slave's
record Same (y : s.Slave) (f : ℕ) (x : Blocks) (structs : List StructInfo) (sig : Signature) : Type 0 where
  blocks : x ≡ y.machine.blocks
  structs_is : structs ≡ y.program.structs
  signature : sig ≡ signature_in y.program f

same_call : (e : Engine) (f : ℕ) (x : Blocks) (structs : List StructInfo) (sig : Signature) → Seen e f x structs sig → (y : s.Slave) → Runs e y → Same y f x structs sig
same_call e f x structs sig seen y runs = record {
  blocks = seen.memory y.program y.machine runs.shown;
  structs_is = seen.structs_is ∙ runs.structs_are;
  signature = ap (λ (o : Option Signature). unwrap_or o no_signature) (seen.signature ∙ ap (λ (signatures : List (ℕ × Signature)). lookup (nat_eq f) signatures) runs.signatures_are);
}

module _ (e : Engine) (f : ℕ) (args : List Cell) (x : Blocks) (structs : List StructInfo) (sig : Signature) (seen : Seen e f x structs sig) (may : MayCall e f args) where
  abbrev same : (y : s.Slave) → Runs e y → Same y f x structs sig
  same y runs = same_call e f x structs sig seen y runs

  pub whole : IsTrue (are_whole x args)
  whole = ∥∥₁_elim may (truth_is_prop _) (λ c. subst (λ (blocks : Blocks). IsTrue (are_whole blocks args)) (sym (same c.slave c.runs).blocks) c.packable.whole)

  pub structs_there : IsTrue (has_structs structs sig.params)
  structs_there = ∥∥₁_elim may (truth_is_prop _) (λ c.
      subst (λ (t : Signature). IsTrue (has_structs structs t.params)) (sym (same c.slave c.runs).signature)
      (subst (λ (ss : List StructInfo). IsTrue (has_structs ss (signature_in c.slave.program f).params)) (sym (same c.slave c.runs).structs_is) c.packable.there))

  few_names : length (names_of args) ≤ 8
  few_names = ∥∥₁_elim may (less_set _ _) (λ c. within (length (names_of args)) (length args) c.packable.named c.packable.few)
    where
      within : (a b : ℕ) → a ≤ b → b ≤ 8 → a ≤ 8
      within a b h k = omega (arith, h, k)

  room : e.names + most_given ≤ 2 ^ 63
  room = ∥∥₁_elim may (less_set _ _) (λ c. subst (λ n. n + most_given ≤ 2 ^ 63) (sym c.runs.given_are) c.room)

  enough : (a b : ℕ) → a ≤ b + most_given → b + most_given ≤ 2 ^ 63 → a ≤ 2 ^ 63
  enough a b h k = omega (arith, h, k)

  pub room_to_take : (reply : ReplyBody) → (after_reply e.names x structs sig args reply).next ≤ 2 ^ 63
  room_to_take reply = enough (after_reply e.names x structs sig args reply).next e.names (replies_give_few e.names x structs sig args reply whole few_names) room

  pub room_to_post : (after_posting e.names x structs sig args).next ≤ 2 ^ 63
  room_to_post = enough (after_posting e.names x structs sig args).next e.names (postings_give_few e.names x structs sig args whole few_names) room

  pub may_return : (r : Returned) → AreAsLong x r.blocks.items → MayReturn e.machine r.blocks.items
  may_return r long = ∥∥₁_elim may ∥∥₁_prop (λ c. ∣ record {
    program = c.slave.program;
    machine = c.slave.machine;
    shown = c.runs.shown;
    long = subst (λ (blocks : Blocks). AreAsLong blocks r.blocks.items) (same c.slave c.runs).blocks long;
  } ∣₁)

  -- ---- what it sends

  plain_is : (y : s.Slave) → Same y f x structs sig → (has_plain (result_places sig sig.result) || has_plain (call_places x structs sig.params args)) ≡ must_wait y f args
  plain_is y is =
      ap (λ (t : Signature). has_plain (result_places t t.result) || has_plain (call_places x structs t.params args)) is.signature
      ∙ ap (λ (ss : List StructInfo). has_plain (results_of y f) || has_plain (call_places x ss (signature_in y.program f).params args)) is.structs_is
      ∙ ap (λ (blocks : Blocks). has_plain (results_of y f) || has_plain (call_places blocks y.program.structs (signature_in y.program f).params args)) is.blocks

  pub packed_is : (p : Packed) → p.body ≡ packed x sig.params args → p.wants ≡ reply_has_plain structs sig p.body → (y : s.Slave) → Runs e y → IsPacked p y f args
  packed_is p body wants y runs = record {
    body_is =
        body ∙ ap (λ (t : Signature). packed x t.params args) (same y runs).signature
        ∙ ap (λ (blocks : Blocks). packed blocks (signature_in y.program f).params args) (same y runs).blocks;
    wants_is =
        wants ∙ ap (λ (b : CallBody). reply_has_plain structs sig b) body
        ∙ replies_hold_numbers structs sig x args whole ∙ plain_is y (same y runs);
  }

  -- ---- without waiting

  neither : (a b : Bool) → (a || b) ≡ false → (a ≡ false) × (b ≡ false)
  neither true b h = cc
  neither false b h = (refl, h)

  module _ (known : (y : s.Slave) → Runs e y → must_wait y f args ≡ false) where
    not_plain : (has_plain (result_places sig sig.result) || has_plain (call_places x structs sig.params args)) ≡ false
    not_plain = ∥∥₁_elim may (false_set _) (λ c. plain_is c.slave (same c.slave c.runs) ∙ known c.slave c.runs)

    pub no_plain_result : has_plain (result_places sig sig.result) ≡ false
    no_plain_result = (neither _ _ not_plain).0

    pub no_plain_cell : has_plain (call_places x structs sig.params args) ≡ false
    no_plain_cell = (neither _ _ not_plain).1

  -- ---- what comes back

  given_more : (y : s.Slave) → Runs e y → (reply : ReplyBody) → is_reply_to y f args reply ≡ true →
      (after_reply (length y.given) y.machine.blocks y.program.structs (signature_in y.program f) args reply).next ≡ length (y.given ++ types_given y f args)
  given_more y runs reply is =
      let there : IsTrue (are_whole y.machine.blocks args) = subst (λ (blocks : Blocks). IsTrue (are_whole blocks args)) (same y runs).blocks whole in
      let next = (replies_are_taken (length y.given) y.program.structs (signature_in y.program f) y.machine.blocks args reply there is).next in
      let first : next_after (length y.given) (results_of y f) ≡ length y.given + length (types_kept (results_of y f)) = next_counts (length y.given) (results_of y f) in
      let second : next_after (next_after (length y.given) (results_of y f)) (places_of_call y f args) ≡ next_after (length y.given) (results_of y f) + length (types_kept (places_of_call y f args)) =
      next_counts (next_after (length y.given) (results_of y f)) (places_of_call y f args) in
      let all : length (y.given ++ types_given y f args) ≡ length y.given + length (types_given y f args) = length-append y.given (types_given y f args) in
      let both : length (types_given y f args) ≡ length (types_kept (results_of y f)) + length (types_kept (places_of_call y f args)) = length-append (types_kept (results_of y f)) (types_kept (places_of_call y f args)) in
      omega (arith, next, first, second, all, both)

  same_after : (y : s.Slave) → Runs e y → (reply : ReplyBody) → after_reply e.names x structs sig args reply ≡ after_reply (length y.given) y.machine.blocks y.program.structs (signature_in y.program f) args reply
  same_after y runs reply =
      let is = same y runs in
      ap (λ n. after_reply n x structs sig args reply) runs.given_are
      ∙ ap (λ (blocks : Blocks). after_reply (length y.given) blocks structs sig args reply) is.blocks
      ∙ ap (λ (ss : List StructInfo). after_reply (length y.given) y.machine.blocks ss sig args reply) is.structs_is
      ∙ ap (λ (t : Signature). after_reply (length y.given) y.machine.blocks y.program.structs t args reply) is.signature

  same_posting : (y : s.Slave) → Runs e y → after_posting e.names x structs sig args ≡ after_posting (length y.given) y.machine.blocks y.program.structs (signature_in y.program f) args
  same_posting y runs =
      let is = same y runs in
      ap (λ n. after_posting n x structs sig args) runs.given_are
      ∙ ap (λ (blocks : Blocks). after_posting (length y.given) blocks structs sig args) is.blocks
      ∙ ap (λ (ss : List StructInfo). after_posting (length y.given) y.machine.blocks ss sig args) is.structs_is
      ∙ ap (λ (t : Signature). after_posting (length y.given) y.machine.blocks y.program.structs t args) is.signature

  same_reply : (y : s.Slave) → Runs e y → (reply : ReplyBody) → is_reply e.names x structs sig args reply ≡ is_reply_to y f args reply
  same_reply y runs reply =
      let is = same y runs in
      ap (λ n. is_reply n x structs sig args reply) runs.given_are
      ∙ ap (λ (blocks : Blocks). is_reply (length y.given) blocks structs sig args reply) is.blocks
      ∙ ap (λ (ss : List StructInfo). is_reply (length y.given) y.machine.blocks ss sig args reply) is.structs_is
      ∙ ap (λ (t : Signature). is_reply (length y.given) y.machine.blocks y.program.structs t args reply) is.signature

  -- the machine with what came back
  abbrev BackIn : Machine → Returned → Type 0
  BackIn machine r = (program : ProgramTree) (m : steps.Machine) → Shown program e.machine m → Shown program machine (steps.resumed r.value (steps.with_blocks (with_cells r.blocks.items m.blocks) m))

  back_runs : (y : s.Slave) → Runs e y → (t : Taken) (r : Returned) (names : ℕ) (machine : Machine) → placed r names x ≡ t → BackIn machine r → t.next ≡ length (y.given ++ types_given y f args) →
      Runs (record e { names = names; machine = machine }) (with_taken y f args t)
  back_runs y runs t r names machine is shows counts =
      let here : placed r names y.machine.blocks ≡ t = ap (λ (blocks : Blocks). placed r names blocks) (sym (same y runs).blocks) ∙ is in
      record {
        shown = subst (λ (u : Taken). Shown y.program machine (steps.resumed u.result (steps.with_blocks u.blocks y.machine))) here (shows y.program y.machine runs.shown);
        structs_are = runs.structs_are;
        signatures_are = runs.signatures_are;
        hosts_are = runs.hosts_are;
        input_is = runs.input_is;
        given_are = ap (λ (u : Taken). u.next) is ∙ counts;
        calls_are = runs.calls_are;
        budget_is = runs.budget_is;
      }

  pub posted_runs : ((y : s.Slave) → Runs e y → must_wait y f args ≡ false) → (r : Returned) (names : ℕ) (machine : Machine) → placed r names x ≡ after_posting e.names x structs sig args → BackIn machine r →
      (y : s.Slave) → Runs e y → Runs (record e { names = names; machine = machine }) (posted y f args)
  posted_runs known r names machine is shows y runs =
      let plain = neither (has_plain (results_of y f)) (has_plain (places_of_call y f args)) (known y runs) in
      let reply : ReplyBody = known_reply (length y.given) y.machine.blocks y.program.structs (signature_in y.program f) args in
      back_runs y runs (after_posting (length y.given) y.machine.blocks y.program.structs (signature_in y.program f) args) r names machine (is ∙ same_posting y runs) shows
      (given_more y runs reply (known_replies_are_replies (length y.given) y.machine.blocks y.program.structs (signature_in y.program f) args plain.0 plain.1))

  pub taken_runs : (reply : ReplyBody) (r : Returned) (names : ℕ) (machine : Machine) →
      (is_reply e.names x structs sig args reply ≡ true) × (placed r names x ≡ after_reply e.names x structs sig args reply) → BackIn machine r →
      (y : s.Slave) → Runs e y → (is_reply_to y f args reply ≡ true) × Runs (record e { names = names; machine = machine }) (with_reply y f args reply)
  taken_runs reply r names machine is shows y runs =
      let good : is_reply_to y f args reply ≡ true = sym (same_reply y runs reply) ∙ is.0 in (
        good,
        back_runs y runs (after_reply (length y.given) y.machine.blocks y.program.structs (signature_in y.program f) args reply) r names machine (is.1 ∙ same_after y runs reply) shows (given_more y runs reply good),
      )

  -- a reply that the call can't have
  pub refused_stays : (reply : ReplyBody) (names : ℕ) (fault : BadReply) → Takes (Err fault) (is_reply e.names x structs sig args reply) (after_reply e.names x structs sig args reply) e.names names x → fault ≡ Shape →
      (y : s.Slave) → Runs e y → (is_reply_to y f args reply ≡ false) × Runs (record e { names = names }) y
  refused_stays reply names fault takes shape y runs =
      let is : (is_reply e.names x structs sig args reply ≡ false) × (names ≡ e.names) =
      subst (λ (b : BadReply). Takes (Err b) (is_reply e.names x structs sig args reply) (after_reply e.names x structs sig args reply) e.names names x) shape takes in (
        sym (same_reply y runs reply) ∙ is.0,
        subst (λ n. Runs (record e { names = n }) y) (sym is.1) (record {
          shown = runs.shown;
          structs_are = runs.structs_are;
          signatures_are = runs.signatures_are;
          hosts_are = runs.hosts_are;
          input_is = runs.input_is;
          given_are = runs.given_are;
          calls_are = runs.calls_are;
          budget_is = runs.budget_is;
        }),
      )
