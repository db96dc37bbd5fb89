-- A call, from its rules to its reply.
use Rattle.std.proofs.Common.{◌≡◌, ◌∙◌, ◌+◌, ◌-◌, ◌<◌, ◌≤◌, ◌^◌, ℕ, suc, nat_eq, refl, ap, sym, subst, arith, Bool, true, false, List, [], ◌++◌, length, map, Option, Some, None, Ok, if◌then◌else◌}
use Rattle.std.specs.Prelude.{ℤ, IsTrue, ◌&&◌, not, option_map, take}
use Rattle.std.specs.Map.{lookup}
use Rattle.std.proofs.lemmas.List.{length-map}
use Rattle.pt_base.specs.declared.end.End.{End}
use Rattle.pt_base.specs.declared.int_type.IntType.{IntType}
use Rattle.pt_base.proofs.Booleans.{both_hold_first, both_hold_second}
use Rattle.pt_tree.specs.declared.signature.Signature.{Signature}
use Rattle.typed_tree.specs.declared.types.StructInfo.{StructInfo}
use Rattle.typed_tree.specs.WellFormed.{are_rising}
use Rattle.runs.specs.Run.{written}
use Rattle.runs.specs.State as r
use Rattle.runs.specs.State.{Hosts, gives}
use Rattle.block_memory.specs.declared.cell.Cell.{Cell}
use Rattle.block_memory.specs.Blocks.{Blocks}
use Rattle.machine_memory.specs.Memory.{blocks_of}
use Rattle.machine_memory.specs.declared.memory.MachineMemory.{MachineMemory}
use Rattle.wire.specs.Limits.{IsCall}
use Rattle.wire.specs.declared.cell.WireCell.{WireCell}
use Rattle.wire.specs.declared.message.CallBody.{CallBody}
use Rattle.wire.specs.declared.message.Message.{Message}
use Rattle.wire.specs.declared.message.Message.TheVariants as said
use Rattle.wire.specs.declared.message.ReplyBody.{ReplyBody}
use Rattle.pt_core.specs.declared.monitor.MonitorProgram.{MonitorProgram}
use Rattle.pt_core.specs.CodeTree.{MonitorTree, ProgramTree, numbered, view_monitor}
use Rattle.pt_core.specs.Calls.{function_in}
use Rattle.pt_core.specs.Statements.{Outcome, State}
use Rattle.pt_core.specs.Steps as s
use Rattle.pt_core.specs.Values.{number_in}
use Rattle.pt_core.specs.WellFormed.{entries_fit, is_sound, is_well_formed_monitor, monitor_program}
use Rattle.core_steps_law.specs.GatesWritten.{Written}
use Rattle.core_soundness_law.proofs.Programs.{facts_of}
use Rattle.core_machine.specs.declared.machine.Machine.{Machine}
use Rattle.core_machine.specs.Machines.{Shown}
use Rattle.marshalling.specs.Handles.{Entries, handle_fault, unpacked, unpacking}
use Rattle.marshalling.specs.Leaves.{has_structs}
use Rattle.marshalling.specs.Replies.{AreServed, IsResult, block_types, kept_results, packed_results, types_in, types_of}
use Rattle.marshalling.specs.Shape.{is_shaped}
use Rattle.marshalling.specs.declared.fault.BadCall.{BadCall}
use Rattle.marshalling.specs.declared.inputs.Inputs.{Inputs}
use Rattle.policy.specs.Answers.{allowed, function_of}
use Rattle.policy.specs.Verdicts.{Standing, verdict_on}
use Rattle.pair_meaning.specs.Monitors.{Monitor, entries_in, low}
use Rattle.pair_meaning.specs.Rules.{Admitted, asked_for, breaks, call_rule, has_depth, makes, permitted, plain_of, tells, turns_of}
use Rattle.pair_meaning.specs.Rules as rule
use Rattle.pair_meaning.specs.Serving.{brought, function_work, host_work, inputs_of, reply_with, served_by, served_with, state_of, with_brought, work_of}
use Rattle.serving_rules.specs.declared.asked.Asked.{Asked}
use Rattle.serving_rules.specs.declared.names.Names.{Names}
use Rattle.serving_rules.specs.declared.opened.Opened.{Opened}
use Rattle.serving_rules.specs.declared.opened.Opened.TheVariants.{Fits, Breaks}
use Rattle.serving_rules.specs.declared.peer_rule.PeerRule as broken
use Rattle.serving_rules.specs.declared.peer_rule.PeerRule.TheVariants.{NoEntry}
use Rattle.serving_rules.specs.declared.permission.Permission.TheVariants.{Granted, Refused}
use Rattle.serving_rules.specs.RuleNames.{rule_of}
use Rattle.serving_rules.specs.Asking.{IsAsked, IsNamedBy}
use Rattle.serving_rules.specs.Opening as opening
use Rattle.serving_rules.specs.Opening.{broken_by}
use Rattle.serving_rules.specs.Permitting.{Permits, Permitted, answered, granted, permission, refused, verdict_by}
use Rattle.serving_rules.proofs.OpenedLemmas.{answer_by, rule_by, rules_see_types}
use Rattle.serving_rules.proofs.PermissionLemmas.{permissions_decide}
use Rattle.monitor_soundness_law.specs.ServingLaws.{IsServed, emptied}
use Rattle.monitor_soundness_law.specs.ServingSound.{IsSound}
use Rattle.monitor_soundness_law.proofs.ServingBlocks.{brought_is}
use Rattle.monitor_soundness_law.proofs.ServingEntries.{entries_are_named, sound_of}
use Rattle.monitor_soundness_law.proofs.ServingLemmas.{before_of, calls_are_served}
use Rattle.monitor_interp.specs.declared.call.Call.{Call}
use Rattle.monitor_interp.specs.declared.handled.Handled.TheVariants.{GoesOn, Ended, Bad}
use Rattle.monitor_interp.specs.declared.state.State as code
use Rattle.monitor_interp.specs.declared.work.Task.{Task}
use Rattle.monitor_interp.specs.declared.worked.Worked.TheVariants.{Gave, Stopped}
use Rattle.monitor_interp.specs.Bringing.{AreAlike}
use Rattle.monitor_interp.specs.Handling.{Acts, Serves}
use Rattle.monitor_interp.specs.Heard.{Heard}
use Rattle.monitor_interp.specs.Standing.{IsCallOf, IsDone, IsGranted, IsReady, Stands}
use Rattle.monitor_interp.specs.Working.{IsAt, IsSomewhere, Works, at_first, body_work, host_gives_at, resting, work_by}
use Rattle.monitor_interp.proofs.BlockLemmas.{opened_alike}

-- ---- names

pub signatures_rise : (program : MonitorProgram) (p : MonitorTree) → view_monitor program ≡ p → IsTrue (is_well_formed_monitor p) → IsTrue (are_rising 0 (map (λ s. s.0) (numbered program.signatures)))
signatures_rise program p named well =
    subst (λ (q : MonitorTree). IsTrue (are_rising 0 (map (λ s. s.0) q.signatures))) (sym named)
    (both_hold_first (are_rising 0 (map (λ s. s.0) p.signatures)) _ (facts_of true (monitor_program p) (sound_of p well)).order)

entries_rise_in : (p : MonitorTree) → IsTrue (is_well_formed_monitor p) → IsTrue (are_rising 0 (map (λ e. e.function.0) p.entries))
unfolding is_well_formed_monitor
entries_rise_in p h = both_hold_first (are_rising 0 (map (λ e. e.function.0) p.entries)) _ (both_hold_second (is_sound true (monitor_program p)) (entries_fit (monitor_program p) p.entries) h)

pub entries_rise : (program : MonitorProgram) (p : MonitorTree) → view_monitor program ≡ p → IsTrue (is_well_formed_monitor p) → IsTrue (are_rising 0 (map (λ e. e.function.0) program.entries))
entries_rise program p named well = subst (λ (q : MonitorTree). IsTrue (are_rising 0 (map (λ e. e.function.0) q.entries))) (sym named) (entries_rise_in p well)

pub named_by : (program : MonitorProgram) (names : Names) (p : MonitorTree) → view_monitor program ≡ p → IsTrue (is_well_formed_monitor p) → names.structs.now ≡ program.structs → names.signatures.now ≡ program.signatures → names.entries.now ≡ program.entries → IsNamedBy p names
named_by program names p named well structs signatures entries = record {
  structs = structs ∙ ap (λ (q : MonitorTree). q.structs) named;
  signatures = ap (λ xs. numbered xs) signatures ∙ ap (λ (q : MonitorTree). q.signatures) named;
  entries = entries ∙ ap (λ (q : MonitorTree). q.entries) named;
  well_formed = well;
}

pub structs_there : (program : MonitorProgram) (x : code.State) (m : Monitor) (f : ℕ) (sig : Signature) → Stands program x m → lookup (nat_eq f) (entries_in m.program) ≡ Some sig → IsTrue (has_structs program.structs sig.params)
structs_there program x m f sig stands is =
    subst (λ (q : MonitorTree). IsTrue (has_structs q.structs sig.params)) (sym stands.named) (entries_are_named m.program f sig stands.sound.program is).structs

-- ---- rules

-- the call as the rules see it
abbrev pub call_for : Monitor → Call → Signature → Admitted
call_for m call sig = record { function = call.function.0; signature = sig; depth = call.depth; wants = call.wants; body = call.body.now; policy = m.policy; calls = m.calls }

abbrev verdict_for : Monitor → Call → rule.Verdict
verdict_for m call = asked_for (low m) call.function.0 call.depth call.wants call.body.now (lookup (nat_eq call.function.0) (entries_in m.program))

pub not_asked : (Is : Monitor → Type 0) (m : Monitor) (x : Message) (left : ℕ) (call : Call) (bytes : List ℕ) → lookup (nat_eq call.function.0) (entries_in m.program) ≡ None → Is m → Acts Is m x left (verdict_for m call) (Bad NoEntry) bytes bytes
not_asked Is m x left call bytes none is =
    subst (λ o. Acts Is m x left (asked_for (low m) call.function.0 call.depth call.wants call.body.now o) (Bad NoEntry) bytes bytes) (sym none) (refl, is, refl)

-- the rule over the store itself
rule_is : (m : Monitor) (sig : Signature) (call : Call) → call_rule (low m) sig call.depth call.wants call.body.now ≡ broken_by m.program.structs m.store sig call.depth call.wants call.body.now
rule_is m sig call = rules_see_types (low m) m.store sig call.depth call.wants call.body.now refl

-- what was opened, of the monitor's own store
opened_of : (program : MonitorProgram) (x : code.State) (m : Monitor) (structs : List StructInfo) (sig : Signature) (call : Call) (o : Opened) → Stands program x m → structs ≡ program.structs →
    opening.IsOpened o (broken_by structs x.store sig call.depth call.wants call.body.now) (unpacking x.store structs sig.params call.body.now) →
    opening.IsOpened o (broken_by m.program.structs m.store sig call.depth call.wants call.body.now) (unpacking m.store m.program.structs sig.params call.body.now)
opened_of program x m structs sig call o stands same is =
    subst (λ (st : Entries). opening.IsOpened o (broken_by m.program.structs st sig call.depth call.wants call.body.now) (unpacking st m.program.structs sig.params call.body.now)) stands.store
    (subst (λ (ss : List StructInfo). opening.IsOpened o (broken_by ss x.store sig call.depth call.wants call.body.now) (unpacking x.store ss sig.params call.body.now)) (same ∙ ap (λ (q : MonitorTree). q.structs) stands.named) is)

-- a rule is broken
pub rule_broken : (program : MonitorProgram) (x : code.State) (m : Monitor) (message : Message) (left : ℕ) (structs : List StructInfo) (call : Call) (sig : Signature) (broke : broken.PeerRule) (bytes : List ℕ) → Stands program x m → structs ≡ program.structs →
    lookup (nat_eq call.function.0) (entries_in m.program) ≡ Some sig →
    opening.IsOpened (Breaks broke) (broken_by structs x.store sig call.depth call.wants call.body.now) (unpacking x.store structs sig.params call.body.now) →
    Acts (Stands program x) m message left (verdict_for m call) (Bad broke) bytes bytes
rule_broken program x m message left structs call sig broke bytes stands same entry is =
    subst (λ v. Acts (Stands program x) m message left v (Bad broke) bytes bytes) (sym verdict) (refl, stands, refl)
  where
    so : call_rule (low m) sig call.depth call.wants call.body.now ≡ Some (rule_of broke)
    so = rule_is m sig call ∙ opened_of program x m structs sig call (Breaks broke) stands same is

    verdict : verdict_for m call ≡ breaks (rule_of broke)
    verdict = ap (λ o. asked_for (low m) call.function.0 call.depth call.wants call.body.now o) entry
        ∙ ap (λ o. rule.unless_broken o (permitted (low m) (call_for m call sig))) so

deep_so : (deep shaped posted : Bool) (bad : Option BadCall) → rule_by deep shaped posted bad ≡ None → deep ≡ true
deep_so true shaped posted bad e = refl
deep_so false shaped posted bad e = cc

own_inputs : (shaped : Bool) (bad : Option BadCall) (all own : Inputs) → answer_by shaped bad all ≡ Ok own → own ≡ all
own_inputs true None all own e = cc
own_inputs true (Some f) all own e = cc
own_inputs false bad all own e = cc

-- none is
pub rules_kept : (program : MonitorProgram) (x : code.State) (m : Monitor) (left : ℕ) (structs : List StructInfo) (call : Call) (asked : Asked) (inputs : Inputs) → Stands program x m → suc (left + m.turns) ≤ m.budget → IsCall call.body.now → structs ≡ program.structs →
    IsAsked m.program call.function.0 asked →
    opening.IsOpened (Fits inputs) (broken_by structs x.store asked.signature.now call.depth call.wants call.body.now) (unpacking x.store structs asked.signature.now.params call.body.now) →
    IsReady program x call asked inputs left m (call_for m call asked.signature.now)
rules_kept program x m left structs call asked inputs stands room counts same entry is = record {
  of = record {
    function = refl;
    depth = refl;
    wants = refl;
    body = refl;
    signature_is = refl;
    opened = record {
      entry = entry.entry;
      depth = deep_so (has_depth asked.signature.now call.depth) (is_shaped m.program.structs asked.signature.now.params call.body.now) (not call.wants && tells m.program.structs asked.signature.now call.body.now)
          (handle_fault m.store asked.signature.now.params call.body.now) both.0;
      opened = both.1 ∙ ap Ok here;
      counts = counts;
    };
  };
  prepared = record { own = entry.own; inputs_are = here; room = room; calls = one_more m.calls };
  stands = stands;
  policy_same = refl;
  calls_same = refl;
}
  where
    both : opening.IsOpened (Fits inputs) (broken_by m.program.structs m.store asked.signature.now call.depth call.wants call.body.now) (unpacking m.store m.program.structs asked.signature.now.params call.body.now)
    both = opened_of program x m structs asked.signature.now call (Fits inputs) stands same is

    here : inputs ≡ unpacked m.store call.body.now
    here = own_inputs (is_shaped m.program.structs asked.signature.now.params call.body.now) (handle_fault m.store asked.signature.now.params call.body.now) (unpacked m.store call.body.now) inputs both.1

    one_more : (n : ℕ) → n ≤ suc n
    one_more n = omega arith

-- then the policy decides
pub verdict_kept : (program : MonitorProgram) (x : code.State) (m : Monitor) (structs : List StructInfo) (call : Call) (asked : Asked) (inputs : Inputs) → Stands program x m → structs ≡ program.structs → IsAsked m.program call.function.0 asked →
    opening.IsOpened (Fits inputs) (broken_by structs x.store asked.signature.now call.depth call.wants call.body.now) (unpacking x.store structs asked.signature.now.params call.body.now) →
    verdict_for m call ≡ permitted (low m) (call_for m call asked.signature.now)
verdict_kept program x m structs call asked inputs stands same entry is =
    ap (λ o. asked_for (low m) call.function.0 call.depth call.wants call.body.now o) entry.entry
    ∙ ap (λ o. rule.unless_broken o (permitted (low m) (call_for m call asked.signature.now)))
    (rule_is m asked.signature.now call ∙ (opened_of program x m structs asked.signature.now call (Fits inputs) stands same is).0)

-- ---- the policy

-- what the policy says, of the call itself
permission_of : (program : MonitorProgram) (x : code.State) (call : Call) (asked : Asked) (inputs : Inputs) (left : ℕ) (m : Monitor) (c : Admitted) → IsReady program x call asked inputs left m c →
    permission x.policy x.calls call.function.0 asked.signature.now call.body.now ≡ permission m.policy m.calls c.function c.signature c.body
permission_of program x call asked inputs left m c ready =
    ap (λ (y : Standing). permission y x.calls call.function.0 asked.signature.now call.body.now) ready.stands.policy
    ∙ ap (λ n. permission m.policy n call.function.0 asked.signature.now call.body.now) ready.stands.calls
    ∙ ap (λ f. permission m.policy m.calls f asked.signature.now call.body.now) (sym ready.of.function)
    ∙ ap (λ (sig : Signature). permission m.policy m.calls c.function sig call.body.now) (sym ready.of.signature_is)
    ∙ ap (λ (body : CallBody). permission m.policy m.calls c.function c.signature body) (sym ready.of.body)

record IsGrant (count : ℕ) (new : Standing) (is : Permitted) : Type 0 where
  next : Standing
  calls : ℕ
  granted_is : is ≡ granted next calls
  count_is : count ≡ calls
  new_is : new ≡ next

grant_by : (count : ℕ) (old new : Standing) (is : Permitted) → Permits (Granted count) old new is → IsGrant count new is
grant_by count old new (granted next calls) h = record { next = next; calls = calls; granted_is = refl; count_is = h.0; new_is = h.1 }
grant_by count old new (refused end) h = elim h [ ]

record IsRefusal (at : End) (old new : Standing) (is : Permitted) : Type 0 where
  end : End
  refused_is : is ≡ refused end
  at_is : at ≡ end
  same : new ≡ old

refusal_by : (at : End) (old new : Standing) (is : Permitted) → Permits (Refused at) old new is → IsRefusal at old new is
refusal_by at old new (granted next calls) h = elim h [ ]
refusal_by at old new (refused end) h = record { end = end; refused_is = refl; at_is = h.0; same = h.1 }

-- at most one call more is counted
few_granted : (policy : Standing) (calls f : ℕ) (sig : Signature) (body : CallBody) (next : Standing) (n : ℕ) → permission policy calls f sig body ≡ granted next n → n ≤ suc calls
few_granted policy calls f sig body next n is = go sig.privileged (allowed policy (verdict_on policy (function_of f) (plain_of sig body))) is
  where
    count_of : (a : Standing) (k : ℕ) → granted a k ≡ granted next n → n ≡ k
    count_of a k e = cc

    one : (k j : ℕ) → k ≡ j + 1 → k ≤ suc j
    one k j e = omega (arith, e)

    same : (k j : ℕ) → k ≡ j → k ≤ suc j
    same k j e = omega (arith, e)

    by : (o : Option Standing) → answered policy calls f o ≡ granted next n → n ≤ suc calls
    by None e = cc
    by (Some a) e = one n calls (count_of a (calls + 1) e)

    go : (b : Bool) (o : Option Standing) → (if b then answered policy calls f o else granted policy calls) ≡ granted next n → n ≤ suc calls
    go true o e = by o e
    go false o e = same n calls (count_of policy calls e)

-- the call behind the policy
abbrev pub made_by : Admitted → Standing → ℕ → Admitted
made_by c policy calls = record c { policy = policy; calls = calls }

-- the state with this policy and this count
abbrev pub with_policy : code.State → Standing → ℕ → code.State
with_policy x policy calls = record { bench = x.bench; store = x.store; policy = policy; calls = calls; turns = x.turns; last = x.last; budget = x.budget }

verdict_of : (program : MonitorProgram) (x : code.State) (call : Call) (asked : Asked) (inputs : Inputs) (left : ℕ) (m : Monitor) (c : Admitted) → IsReady program x call asked inputs left m c → (is : Permitted) →
    permission x.policy x.calls call.function.0 asked.signature.now call.body.now ≡ is → permitted (low m) c ≡ verdict_by c is
verdict_of program x call asked inputs left m c ready is e =
    permissions_decide (low m) c ready.policy_same ready.calls_same ∙ ap (verdict_by c) (sym (permission_of program x call asked inputs left m c ready) ∙ e)

-- it is granted
pub record IsMade (program : MonitorProgram) (x : code.State) (call : Call) (asked : Asked) (inputs : Inputs) (left : ℕ) (m : Monitor) (c : Admitted) (policy : Standing) (count : ℕ) : Type 0 where
  pub made : Admitted
  pub verdict : permitted (low m) c ≡ makes made
  pub ready : IsGranted program (with_policy x policy count) call asked inputs left m made

pub granted_so : (program : MonitorProgram) (x : code.State) (call : Call) (asked : Asked) (inputs : Inputs) (left : ℕ) (m : Monitor) (c : Admitted) (policy : Standing) (count : ℕ) → IsReady program x call asked inputs left m c →
    Permits (Granted count) x.policy policy (permission x.policy x.calls call.function.0 asked.signature.now call.body.now) → IsMade program x call asked inputs left m c policy count
granted_so program x call asked inputs left m c policy count ready says =
    let grant : IsGrant count policy (permission x.policy x.calls call.function.0 asked.signature.now call.body.now) = grant_by count x.policy policy (permission x.policy x.calls call.function.0 asked.signature.now call.body.now) says in
    let few : grant.calls ≤ suc m.calls =
    subst (λ n. grant.calls ≤ suc n) ready.stands.calls (few_granted x.policy x.calls call.function.0 asked.signature.now call.body.now grant.next grant.calls grant.granted_is) in
    record {
      made = made_by c grant.next grant.calls;
      verdict = verdict_of program x call asked inputs left m c ready (granted grant.next grant.calls) grant.granted_is;
      ready = record {
        of = record {
          function = ready.of.function;
          depth = ready.of.depth;
          wants = ready.of.wants;
          body = ready.of.body;
          signature_is = ready.of.signature_is;
          opened = record { entry = ready.of.opened.entry; depth = ready.of.opened.depth; opened = ready.of.opened.opened; counts = ready.of.opened.counts };
        };
        prepared = record { own = ready.prepared.own; inputs_are = ready.prepared.inputs_are; room = ready.prepared.room; calls = few };
        stands = record {
          named = ready.stands.named;
          at = ready.stands.at;
          store = ready.stands.store;
          policy = grant.new_is;
          calls = grant.count_is;
          turns = ready.stands.turns;
          last = ready.stands.last;
          budget = ready.stands.budget;
          sound = ready.stands.sound;
        };
      };
    }

-- it is refused
pub refused_so : (program : MonitorProgram) (x : code.State) (call : Call) (asked : Asked) (inputs : Inputs) (left : ℕ) (m : Monitor) (message : Message) (c : Admitted) (policy : Standing) (at : End) (bytes : List ℕ) → IsReady program x call asked inputs left m c →
    Permits (Refused at) x.policy policy (permission x.policy x.calls call.function.0 asked.signature.now call.body.now) →
    Acts (Stands program (with_policy x policy x.calls)) m message left (permitted (low m) c) (Ended at) bytes bytes
refused_so program x call asked inputs left m message c policy at bytes ready says =
    let refusal : IsRefusal at x.policy policy (permission x.policy x.calls call.function.0 asked.signature.now call.body.now) = refusal_by at x.policy policy (permission x.policy x.calls call.function.0 asked.signature.now call.body.now) says in
    let stands : Stands program (with_policy x policy x.calls) m = record {
      named = ready.stands.named;
      at = ready.stands.at;
      store = ready.stands.store;
      policy = refusal.same ∙ ready.stands.policy;
      calls = ready.stands.calls;
      turns = ready.stands.turns;
      last = ready.stands.last;
      budget = ready.stands.budget;
      sound = ready.stands.sound;
    } in
    subst (λ v. Acts (Stands program (with_policy x policy x.calls)) m message left v (Ended at) bytes bytes) (sym (verdict_of program x call asked inputs left m c ready (refused refusal.end) refusal.refused_is)) (refusal.at_is, stands, refl)

-- a call may be counted
pub few_calls : (program : MonitorProgram) (x : code.State) (m : Monitor) → Stands program x m → x.calls < 2 ^ 63
few_calls program x m stands =
    let a : x.calls ≡ m.calls = stands.calls in
    let b : m.calls ≤ m.turns = stands.sound.calls in
    let d : m.turns ≤ m.budget = stands.sound.turns in
    let e : m.budget < 2 ^ 32 = stands.sound.budget in
    omega (arith, a, b, d, e)

-- ---- its work

pub blocks_alike : (program : MonitorProgram) (x : code.State) (call : Call) (asked : Asked) (inputs : Inputs) (left : ℕ) (m : Monitor) (c : Admitted) (bs : List (List (IntType × WireCell))) (css : List (List Cell)) → IsGranted program x call asked inputs left m c →
    bs ≡ call.body.now.blocks → css ≡ inputs.blocks → AreAlike bs css
blocks_alike program x call asked inputs left m c bs css ready of_body of_inputs =
    subst (λ (cs : List (List Cell)). AreAlike bs cs) (sym (of_inputs ∙ ap (λ (i : Inputs). i.blocks) ready.prepared.inputs_are))
    (subst (λ (b : CallBody). AreAlike bs (unpacked m.store b).blocks) (sym ready.of.body) (subst (λ (b : List (List (IntType × WireCell))). AreAlike b (unpacked m.store call.body.now).blocks) (sym of_body) (opened_alike m.store call.body.now.blocks)))

pub few_blocks : (call : Call) (sig : Signature) (m : Monitor) (c : Admitted) → IsCallOf call sig m c → length call.body.now.blocks ≤ 8
few_blocks call sig m c of = subst (λ (b : CallBody). length b.blocks ≤ 8) of.body of.opened.counts.blocks

-- with the blocks that it brings
pub brought_at : (program : MonitorProgram) (x : code.State) (call : Call) (asked : Asked) (inputs : Inputs) (left : ℕ) (m : Monitor) (c : Admitted) (machine : Machine) (bs : List (List (IntType × WireCell))) (css : List (List Cell)) →
    IsGranted program x call asked inputs left m c → bs ≡ call.body.now.blocks → css ≡ inputs.blocks →
    ((p : ProgramTree) (y : s.Machine) → Shown p x.bench.machine y → Shown p machine (s.with_blocks (with_brought 0 (types_of bs) css y.blocks) y)) →
    IsAt (monitor_program m.program) machine x.bench.gate m.turns (before_of m c) (at_first m.hosts m.input)
brought_at program x call asked inputs left m c machine bs css ready of_body of_inputs puts =
    let at : IsAt (monitor_program m.program) x.bench.machine x.bench.gate m.turns m.globals (at_first m.hosts m.input) = ready.stands.at in
    let same : with_brought 0 (types_of bs) css m.globals ≡ before_of m c =
    ap (λ (cs : List (List Cell)). with_brought 0 (types_of bs) cs m.globals) (of_inputs ∙ ap (λ (i : Inputs). i.blocks) ready.prepared.inputs_are)
    ∙ ap (λ (b : List (List (IntType × WireCell))). with_brought 0 (types_of b) (inputs_of m c).blocks m.globals) (of_body ∙ ap (λ (b : CallBody). b.blocks) (sym ready.of.body)) in
    record {
      taken = at.taken;
      limit = at.limit;
      shown = subst (λ (y : Blocks). Shown (monitor_program m.program) machine (resting y at.taken at.limit)) same (puts (monitor_program m.program) (resting m.globals at.taken at.limit) at.shown);
      few = at.few;
      knows = at.knows;
      heard = at.heard;
    }

small_turns : (m : Monitor) → IsSound m → m.turns ≤ 2 ^ 32
small_turns m sound = let a = sound.turns in let b = sound.budget in omega (arith, a, b)

more_at : (program : ProgramTree) (x : Machine) (g : Heard) (most more : ℕ) (blocks : Blocks) (w : Written) → most ≤ more → IsAt program x g most blocks w → IsAt program x g more blocks w
more_at program x g most more blocks w le at = record { taken = at.taken; limit = at.limit; shown = at.shown; few = longer at.taken most more at.few le; knows = at.knows; heard = at.heard }
  where
    longer : (a b d : ℕ) → a ≤ b → b ≤ d → a ≤ d
    longer a b d h k = omega (arith, h, k)

pub somewhere : (m : Monitor) (c : Admitted) (x : Machine) (g : Heard) → IsSound m → IsAt (monitor_program m.program) x g m.turns (before_of m c) (at_first m.hosts m.input) → IsSomewhere x g
somewhere m c x g sound at = (monitor_program m.program, before_of m c, m.hosts, m.input, more_at (monitor_program m.program) x g m.turns (2 ^ 32) (before_of m c) (at_first m.hosts m.input) (small_turns m sound) at)

pub few_left : (m : Monitor) (left : ℕ) → IsSound m → suc (left + m.turns) ≤ m.budget → left < 2 ^ 32
few_left m left sound room = let b = sound.budget in omega (arith, b, room)

abbrev pub task_for : Call → Asked → ℕ → Task
task_for call asked left = record { function = call.function; host = asked.signature.now.host; own = asked.own; depth = call.depth; left = left }

-- the work that is done is the call's
work_of_task : (m : Monitor) (c : Admitted) (own left : ℕ) (args : List Cell) → (c.signature.host ≡ false → own ≡ (function_in (monitor_program m.program) c.function).params) → args ≡ (inputs_of m c).args →
    work_by (monitor_program m.program) (record { function = record { 0 = c.function }; host = c.signature.host; own = own; depth = c.depth; left = left }) args (before_of m c) m.hosts m.input ≡ work_of m c left
work_of_task m c own left args owns same =
    ap (λ (vs : List Cell). work_by (monitor_program m.program) (record { function = record { 0 = c.function }; host = c.signature.host; own = own; depth = c.depth; left = left }) vs (before_of m c) m.hosts m.input) same ∙ go c.signature.host refl
  where
    go : (b : Bool) → c.signature.host ≡ b →
        (if b then host_gives_at (record { function = record { 0 = c.function }; host = c.signature.host; own = own; depth = c.depth; left = left }) (inputs_of m c).args (before_of m c) m.hosts m.input
        else body_work (monitor_program m.program) (record { function = record { 0 = c.function }; host = c.signature.host; own = own; depth = c.depth; left = left }) (take own (inputs_of m c).args) (before_of m c) m.hosts m.input)
        ≡ (if b then host_work c (inputs_of m c).args (state_of m c left)
        else function_work (monitor_program m.program) c (inputs_of m c).args (state_of m c left))
    go true e = refl
    go false e =
        ap (λ n. body_work (monitor_program m.program) (record { function = record { 0 = c.function }; host = c.signature.host; own = own; depth = c.depth; left = left }) (take n (inputs_of m c).args) (before_of m c) m.hosts m.input)
        (owns e)

pub work_same : (program : MonitorProgram) (x : code.State) (call : Call) (asked : Asked) (inputs : Inputs) (left : ℕ) (m : Monitor) (c : Admitted) (args : List Cell) → IsGranted program x call asked inputs left m c → args ≡ inputs.args →
    work_by (monitor_program m.program) (task_for call asked left) args (before_of m c) m.hosts m.input ≡ work_of m c left
work_same program x call asked inputs left m c args ready of_inputs =
    ap (λ (t : Task). work_by (monitor_program m.program) t args (before_of m c) m.hosts m.input) same
    ∙ work_of_task m c asked.own left args (λ e. ready.prepared.own (ap (λ (z : Signature). z.host) (sym ready.of.signature_is) ∙ e)) (of_inputs ∙ ap (λ (i : Inputs). i.args) ready.prepared.inputs_are)
  where
    same : task_for call asked left ≡ record { function = record { 0 = c.function }; host = c.signature.host; own = asked.own; depth = c.depth; left = left }
    same = ap (λ f. record { function = record { 0 = f }; host = asked.signature.now.host; own = asked.own; depth = call.depth; left = left }) (sym ready.of.function)
        ∙ ap (λ (z : Signature). record { function = record { 0 = c.function }; host = z.host; own = asked.own; depth = call.depth; left = left }) (sym ready.of.signature_is)
        ∙ ap (λ d. record { function = record { 0 = c.function }; host = c.signature.host; own = asked.own; depth = d; left = left }) (sym ready.of.depth)

-- ---- what it gave

-- some message, where none is at hand
abbrev pub any_message : Message
any_message = said.Park 0

-- a state with another bench
abbrev pub with_bench : code.State → Machine → Heard → code.State
with_bench x machine gate = record { bench = record { machine = machine; gate = gate }; store = x.store; policy = x.policy; calls = x.calls; turns = x.turns; last = x.last; budget = x.budget }

abbrev pub handed_out : Heard → Heard
handed_out g = record g { bytes = [] }

pub record IsGiven (program : MonitorProgram) (x : code.State) (call : Call) (sig : Signature) (value : Option ℤ) (turns left : ℕ) (m : Monitor) (c : Admitted) (machine : Machine) (gate : Heard) : Type 0 where
  pub gave : Option Cell
  pub st : State
  pub is : work_of m c left ≡ gives gave st
  pub bytes : gate.bytes ≡ written st.events
  pub done : IsDone program (with_bench x machine (handed_out gate)) call sig value turns left m c gave st

pub given_so : (program : MonitorProgram) (x : code.State) (call : Call) (asked : Asked) (inputs : Inputs) (left : ℕ) (m : Monitor) (c : Admitted) (message : Message) (value : Option ℤ) (turns : ℕ) (machine : Machine) (gate : Heard) → IsGranted program x call asked inputs left m c →
    Works (monitor_program m.program) m.turns left (work_of m c left) (Gave value turns) machine gate → IsGiven program x call asked.signature.now value turns left m c machine gate
given_so program x call asked inputs left m c message value turns machine gate ready works = go (work_of m c left) refl works
  where
    by : (v : Option Cell) (st : State) → work_of m c left ≡ gives v st → value ≡ option_map number_in v → turns ≡ left - st.left →
        IsAt (monitor_program m.program) machine gate (m.turns + turns) st.memory (record { hosts = st.hosts; input = st.input; bytes = written st.events }) → IsGiven program x call asked.signature.now value turns left m c machine gate
    by v st is value_is turns_are at =
        let served : IsServed m message c left v st = calls_are_served m message c left v st ready.stands.sound ready.of.opened ready.prepared.calls ready.prepared.room is in
        record {
          gave = v;
          st = st;
          is = is;
          bytes = ap (λ (w : Written). w.bytes) at.heard;
          done = record {
            of = ready.of;
            room = ready.prepared.room;
            calls = ready.prepared.calls;
            gave = is;
            value_is = value_is;
            turns_are = turns_are;
            stands = record {
              named = ready.stands.named;
              at = record {
                taken = at.taken;
                limit = at.limit;
                shown = at.shown;
                few = at.few;
                knows = at.knows;
                heard = ap (λ (w : Written). record { hosts = w.hosts; input = w.input; bytes = [] }) at.heard ∙ ap (λ (i : List ℕ). record { hosts = st.hosts; input = i; bytes = [] }) served.input;
              };
              store = ready.stands.store;
              policy = ready.stands.policy;
              calls = ready.stands.calls;
              turns = ready.stands.turns;
              last = ready.stands.last;
              budget = ready.stands.budget;
              sound = ready.stands.sound;
            };
          };
        }

    go : (o : Outcome (Option Cell)) → work_of m c left ≡ o → Works (monitor_program m.program) m.turns left o (Gave value turns) machine gate → IsGiven program x call asked.signature.now value turns left m c machine gate
    go (gives v st) is h = by v st is h.0 h.1 h.2
    go (r.trapped trap span st) is h = elim h [ ]
    go (r.spent st) is h = elim h [ ]

-- the message is served so
pub goes_so : (Is : Monitor → Type 0) (program : MonitorProgram) (x : code.State) (call : Call) (sig : Signature) (value : Option ℤ) (turns left : ℕ) (m : Monitor) (message : Message) (c : Admitted) (machine : Machine) (gate : Heard) (reply : Option ReplyBody) (old new : List ℕ) →
    (given : IsGiven program x call sig value turns left m c machine gate) → new ≡ old ++ gate.bytes →
    (reply ≡ (if c.wants then Some (reply_with m c (option_map number_in given.gave) given.st) else None)) × Is (served_with m message c left (option_map number_in given.gave) given.st) →
    Serves Is (served_by m message c left (work_of m c left)) (GoesOn reply) old new
goes_so Is program x call sig value turns left m message c machine gate reply old new given wrote both =
    subst (λ (o : Outcome (Option Cell)). Serves Is (served_by m message c left o) (GoesOn reply) old new) (sym given.is) (both.0, both.1, wrote ∙ ap (λ bs. old ++ bs) given.bytes)

-- it has come to an end
pub stops_so : (Is : Monitor → Type 0) (m : Monitor) (message : Message) (c : Admitted) (left : ℕ) (at : End) (machine : Machine) (gate : Heard) (old new : List ℕ) → Works (monitor_program m.program) m.turns left (work_of m c left) (Stopped at) machine gate → new ≡ old ++ gate.bytes →
    Serves Is (served_by m message c left (work_of m c left)) (Ended at) old new
stops_so Is m message c left at machine gate old new works wrote = go (work_of m c left) works
  where
    go : (o : Outcome (Option Cell)) → Works (monitor_program m.program) m.turns left o (Stopped at) machine gate → Serves Is (served_by m message c left o) (Ended at) old new
    go (gives v st) h = elim h [ ]
    go (r.trapped trap span st) h = (h.0, wrote ∙ ap (λ bs. old ++ bs) h.1)
    go (r.spent st) h = (h.0, wrote ∙ ap (λ bs. old ++ bs) h.1)

-- ---- its reply

served_for : (program : MonitorProgram) (x : code.State) (call : Call) (sig : Signature) (value : Option ℤ) (turns left : ℕ) (m : Monitor) (message : Message) (c : Admitted) (v : Option Cell) (st : State) → IsDone program x call sig value turns left m c v st → IsServed m message c left v st
served_for program x call sig value turns left m message c v st done = calls_are_served m message c left v st done.stands.sound done.of.opened done.calls done.room done.gave

pub structs_done : (program : MonitorProgram) (x : code.State) (call : Call) (sig : Signature) (value : Option ℤ) (turns left : ℕ) (m : Monitor) (c : Admitted) (v : Option Cell) (st : State) → IsDone program x call sig value turns left m c v st → IsTrue (has_structs program.structs sig.params)
structs_done program x call sig value turns left m c v st done =
    subst (λ (z : Signature). IsTrue (has_structs program.structs z.params)) done.of.signature_is
    (subst (λ (q : MonitorTree). IsTrue (has_structs q.structs c.signature.params)) (sym done.stands.named) (entries_are_named m.program c.function c.signature done.stands.sound.program done.of.opened.entry).structs)

pub counts_done : (program : MonitorProgram) (x : code.State) (call : Call) (sig : Signature) (value : Option ℤ) (turns left : ℕ) (m : Monitor) (c : Admitted) (v : Option Cell) (st : State) → IsDone program x call sig value turns left m c v st → IsCall call.body.now
counts_done program x call sig value turns left m c v st done = subst IsCall done.of.body done.of.opened.counts

-- the machine's memory is what the work left
pub memory_done : (program : MonitorProgram) (x : code.State) (call : Call) (sig : Signature) (value : Option ℤ) (turns left : ℕ) (m : Monitor) (c : Admitted) (v : Option Cell) (st : State) (memory : MachineMemory) → IsDone program x call sig value turns left m c v st →
    ((p : ProgramTree) (y : s.Machine) → Shown p x.bench.machine y → blocks_of memory ≡ y.blocks) → blocks_of memory ≡ st.memory
memory_done program x call sig value turns left m c v st memory done lends =
    lends (monitor_program m.program) (resting st.memory done.stands.at.taken done.stands.at.limit) done.stands.at.shown

pub served_done : (program : MonitorProgram) (x : code.State) (call : Call) (sig : Signature) (value : Option ℤ) (turns left : ℕ) (m : Monitor) (message : Message) (c : Admitted) (v : Option Cell) (st : State) (memory : MachineMemory) → IsDone program x call sig value turns left m c v st →
    ((p : ProgramTree) (y : s.Machine) → Shown p x.bench.machine y → blocks_of memory ≡ y.blocks) → AreServed (blocks_of memory) 0 (types_in call.body.now)
served_done program x call sig value turns left m message c v st memory done lends =
    subst (λ (b : CallBody). AreServed (blocks_of memory) 0 (types_in b)) done.of.body
    (subst (λ (z : Blocks). AreServed z 0 (types_in c.body)) (sym (memory_done program x call sig value turns left m c v st memory done lends)) (served_for program x call sig value turns left m message c v st done).served)

pub result_done : (program : MonitorProgram) (x : code.State) (call : Call) (sig : Signature) (value : Option ℤ) (turns left : ℕ) (m : Monitor) (message : Message) (c : Admitted) (v : Option Cell) (st : State) → IsDone program x call sig value turns left m c v st → IsResult sig.result value
result_done program x call sig value turns left m message c v st done =
    subst (λ (z : Signature). IsResult z.result value) done.of.signature_is
    (subst (λ o. IsResult c.signature.result o) (sym done.value_is) (served_for program x call sig value turns left m message c v st done).result)

pub turns_done : (program : MonitorProgram) (x : code.State) (call : Call) (sig : Signature) (value : Option ℤ) (turns left : ℕ) (m : Monitor) (c : Admitted) (v : Option Cell) (st : State) → IsDone program x call sig value turns left m c v st → x.turns + (1 + turns) < 2 ^ 32
turns_done program x call sig value turns left m c v st done =
    let a : x.turns ≡ m.turns = done.stands.turns in
    let b : turns ≡ left - st.left = done.turns_are in
    let d : suc (left + m.turns) ≤ m.budget = done.room in
    let e : m.budget < 2 ^ 32 = done.stands.sound.budget in
    omega (arith, a, b, d, e)

-- the reply is the monitor's
pub reply_done : (program : MonitorProgram) (x : code.State) (call : Call) (sig : Signature) (value : Option ℤ) (turns left : ℕ) (m : Monitor) (c : Admitted) (v : Option Cell) (st : State) (memory : MachineMemory) (reply : ReplyBody) → IsDone program x call sig value turns left m c v st →
    ((p : ProgramTree) (y : s.Machine) → Shown p x.bench.machine y → blocks_of memory ≡ y.blocks) → reply ≡ packed_results (length x.store) program.structs sig call.body.now (blocks_of memory) value →
    (if call.wants then Some reply else None) ≡ (if c.wants then Some (reply_with m c (option_map number_in v) st) else None)
reply_done program x call sig value turns left m c v st memory reply done lends is =
    ap (λ b. if b then Some reply else None) (sym done.of.wants) ∙ ap (λ (y : ReplyBody). if c.wants then Some y else None) same
  where
    same : reply ≡ reply_with m c (option_map number_in v) st
    same = is
        ∙ ap (λ (e : Entries). packed_results (length e) program.structs sig call.body.now (blocks_of memory) value) done.stands.store
        ∙ ap (λ (q : MonitorTree). packed_results (length m.store) q.structs sig call.body.now (blocks_of memory) value) done.stands.named
        ∙ ap (λ (z : Signature). packed_results (length m.store) m.program.structs z call.body.now (blocks_of memory) value) (sym done.of.signature_is)
        ∙ ap (λ (b : CallBody). packed_results (length m.store) m.program.structs c.signature b (blocks_of memory) value) (sym done.of.body)
        ∙ ap (λ (z : Blocks). packed_results (length m.store) m.program.structs c.signature c.body z value) (memory_done program x call sig value turns left m c v st memory done lends ∙ sym (brought_is st.memory))
        ∙ ap (λ o. packed_results (length m.store) m.program.structs c.signature c.body (brought st.memory) o) done.value_is

-- and the state behind it
pub stands_done : (program : MonitorProgram) (x : code.State) (call : Call) (sig : Signature) (value : Option ℤ) (turns left : ℕ) (m : Monitor) (message : Message) (c : Admitted) (v : Option Cell) (st : State) (memory : MachineMemory) (machine : Machine) (store : Entries) (count : ℕ) →
    IsDone program x call sig value turns left m c v st → turns_of message ≡ call.turns → ((p : ProgramTree) (y : s.Machine) → Shown p x.bench.machine y → blocks_of memory ≡ y.blocks) →
    store ≡ x.store ++ kept_results program.structs sig call.body.now (blocks_of memory) value → count ≡ length call.body.now.blocks →
    ((p : ProgramTree) (y : s.Machine) → Shown p x.bench.machine y → Shown p machine (s.with_blocks (emptied 0 count y.blocks) y)) →
    Stands program (record { bench = record { machine = machine; gate = x.bench.gate }; store = store; policy = x.policy; calls = x.calls; turns = x.turns + (1 + turns); last = call.turns; budget = x.budget })
    (served_with m message c left (option_map number_in v) st)
stands_done program x call sig value turns left m message c v st memory machine store count done said_so lends keeps counts empties = record {
  named = done.stands.named;
  at = record {
    taken = at.taken;
    limit = at.limit;
    shown = subst (λ (y : Blocks). Shown (monitor_program m.program) machine (resting y at.taken at.limit)) (ap (λ n. emptied 0 n st.memory) many ∙ served.cleared) (empties (monitor_program m.program) (resting st.memory at.taken at.limit) at.shown);
    few = few_taken at.taken m.turns turns (left - st.left) at.few done.turns_are;
    knows = at.knows;
    heard = at.heard;
  };
  store = keeps
      ∙ ap (λ (e : Entries). e ++ kept_results program.structs sig call.body.now (blocks_of memory) value) done.stands.store
      ∙ ap (λ (q : MonitorTree). m.store ++ kept_results q.structs sig call.body.now (blocks_of memory) value) done.stands.named
      ∙ ap (λ (z : Signature). m.store ++ kept_results m.program.structs z call.body.now (blocks_of memory) value) (sym done.of.signature_is)
      ∙ ap (λ (b : CallBody). m.store ++ kept_results m.program.structs c.signature b (blocks_of memory) value) (sym done.of.body)
      ∙ ap (λ (z : Blocks). m.store ++ kept_results m.program.structs c.signature c.body z value) (memory_done program x call sig value turns left m c v st memory done lends ∙ sym (brought_is st.memory))
      ∙ ap (λ o. m.store ++ kept_results m.program.structs c.signature c.body (brought st.memory) o) done.value_is;
  policy = done.stands.policy;
  calls = done.stands.calls;
  turns = turns_so x.turns m.turns turns (left - st.left) done.stands.turns done.turns_are;
  last = sym said_so;
  budget = done.stands.budget;
  sound = served.next;
}
  where
    served : IsServed m message c left v st
    served = served_for program x call sig value turns left m message c v st done

    at : IsAt (monitor_program m.program) x.bench.machine x.bench.gate (m.turns + turns) st.memory (record { hosts = st.hosts; input = m.input; bytes = [] })
    at = done.stands.at

    many : count ≡ length (types_in c.body)
    many = counts ∙ ap (λ (b : CallBody). length b.blocks) (sym done.of.body) ∙ sym (length-map c.body.blocks block_types)

    few_taken : (a b d e : ℕ) → a ≤ b + d → d ≡ e → a ≤ b + suc e
    few_taken a b d e h k = omega (arith, h, k)

    turns_so : (a b d e : ℕ) → a ≡ b → d ≡ e → a + (1 + d) ≡ b + suc e
    turns_so a b d e h k = omega (arith, h, k)
