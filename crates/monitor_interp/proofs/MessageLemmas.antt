-- A message, from its turns to what it comes to.
use Rattle.std.proofs.Common.{◌≡◌, ◌∙◌, ◌+◌, ◌-◌, ◌≤◌, ℕ, suc, refl, ap, sym, subst, arith, Bool, true, false, List, Option, Some, None, if◌then◌else◌, append-nil}
use Rattle.std.specs.Prelude.{IsTrue, is_some, nat_lt}
use Rattle.std.proofs.lemmas.Bool.Decides.{nat_tests}
use Rattle.pt_base.specs.declared.end.End.{End}
use Rattle.pt_base.specs.declared.end.End.TheVariants.{Spent}
use Rattle.pt_base.proofs.Booleans.{false_not_true}
use Rattle.runs.specs.State as r
use Rattle.host_table.specs.RunHosts.{no_model}
use Rattle.wire.specs.declared.message.Message.{Message}
use Rattle.wire.specs.declared.message.ReplyBody.{ReplyBody}
use Rattle.pt_core.specs.declared.monitor.MonitorProgram.{MonitorProgram}
use Rattle.pt_core.specs.CodeTree.{MonitorTree}
use Rattle.pt_core.specs.Calls.{signature_in}
use Rattle.pt_core.specs.WellFormed.{callee_by, callee_fits, callees, is_well_formed_monitor, monitor_program, signature_at}
use Rattle.pt_tree.specs.declared.signature.Signature.{Signature}
use Rattle.host_models.specs.Fitting.{fits}
use Rattle.core_soundness_law.proofs.Programs.{facts_of}
use Rattle.core_soundness_law.specs.Called.{is_called}
use Rattle.slave_soundness_law.proofs.Hosts.{each_holds}
use Rattle.monitor_soundness_law.proofs.ServingEntries.{facts_of_entry, sound_of}
use Rattle.pair_protocol.specs.Sides.{Served, goes_on, ends, bad}
use Rattle.pair_meaning.specs.Monitors.{Monitor, low}
use Rattle.pair_meaning.specs.Rules.{Verdict, breaks, early_rule, makes, needs, rules, turns_of, unless_broken, writes}
use Rattle.pair_meaning.specs.Rules as rule
use Rattle.pair_meaning.specs.Serving.{acted, is_spent, left_for, served_by, verdict_on, work_of}
use Rattle.serving_rules.specs.declared.peer_rule.PeerRule as peer
use Rattle.serving_rules.specs.RuleNames.{rule_of}
use Rattle.serving_rules.specs.Turns.{left_behind}
use Rattle.monitor_soundness_law.specs.ServingSound.{HostsServe}
use Rattle.monitor_interp.specs.declared.handled.Handled.{Handled}
use Rattle.monitor_interp.specs.declared.handled.Handled.TheVariants.{Ended, Bad}
use Rattle.monitor_interp.specs.declared.state.State as code
use Rattle.monitor_interp.specs.Gates.{hosts_for}
use Rattle.monitor_interp.specs.Handling.{Acts, ChangesNothing, Handles, Serves}
use Rattle.monitor_interp.specs.Standing.{Stands}

-- ---- turns

-- the slave and the monitor have as many turns left as code counts
pub turns_kept : (program : MonitorProgram) (x : code.State) (m : Monitor) → Stands program x m → x.turns ≤ x.budget
turns_kept program x m stands =
    let a : x.turns ≡ m.turns = stands.turns in
    let b : x.budget ≡ m.budget = stands.budget in
    let d : m.turns ≤ m.budget = stands.sound.turns in
    omega (arith, a, b, d)

same_test : (budget turns need : ℕ) → turns ≤ budget → nat_lt (budget - turns) need ≡ nat_lt budget (need + turns)
same_test budget turns need h = grind (arith, nat_tests)

rest_after : (budget turns need left : ℕ) → turns ≤ budget → nat_lt budget (need + turns) ≡ false → left ≡ (budget - turns) - need → left + (need + turns) ≡ budget
rest_after budget turns need left h e k = grind (arith, nat_tests)

none_behind : (b : Bool) (n : ℕ) → None ≡ (if b then None else Some n) → b ≡ true
none_behind true n e = refl
none_behind false n e = cc

some_behind : (b : Bool) (n left : ℕ) → Some left ≡ (if b then None else Some n) → b ≡ false
some_behind true n left e = cc
some_behind false n left e = refl

left_behind_is : (b : Bool) (n left : ℕ) → Some left ≡ (if b then None else Some n) → left ≡ n
left_behind_is true n left e = cc
left_behind_is false n left e = cc

-- what is left by the code's own counts
counted : (program : MonitorProgram) (x : code.State) (m : Monitor) (message : Message) → Stands program x m → (o : Option ℕ) → o ≡ left_behind (x.budget - x.turns) message → o ≡ left_behind (m.budget - m.turns) message
counted program x m message stands o is = is ∙ ap (λ n. left_behind (n - x.turns) message) stands.budget ∙ ap (λ n. left_behind (m.budget - n) message) stands.turns

pub left_is : (program : MonitorProgram) (x : code.State) (m : Monitor) (message : Message) (left : ℕ) → Stands program x m → Some left ≡ left_behind (x.budget - x.turns) message → left + (needs message + m.turns) ≡ m.budget
left_is program x m message left stands is =
    let so : Some left ≡ left_behind (m.budget - m.turns) message = counted program x m message stands (Some left) is in
    rest_after m.budget m.turns (needs message) left stands.sound.turns
    (sym (same_test m.budget m.turns (needs message) stands.sound.turns) ∙ some_behind (nat_lt (m.budget - m.turns) (needs message)) ((m.budget - m.turns) - needs message) left so)
    (left_behind_is (nat_lt (m.budget - m.turns) (needs message)) ((m.budget - m.turns) - needs message) left so)

not_spent : (budget need turns left : ℕ) → left + (need + turns) ≡ budget → nat_lt budget (need + turns) ≡ false
not_spent budget need turns left e = grind (arith, nat_tests)

left_so : (budget need turns left : ℕ) → left + (need + turns) ≡ budget → left ≡ budget - (need + turns)
left_so budget need turns left e = omega (arith, e)

-- ---- verdicts

abbrev verdict_by : Option rule.PeerRule → Bool → Monitor → Message → Verdict
verdict_by early spent m message = unless_broken early (if spent then rule.ends Spent else rules (low m) message)

-- the rule on turns is broken
pub early_acts : (program : MonitorProgram) (x : code.State) (m : Monitor) (message : Message) (broken : peer.PeerRule) (bytes : List ℕ) → Stands program x m → Some (rule_of broken) ≡ early_rule x.last message →
    Acts (Stands program x) m message (left_for m message) (verdict_on m message) (Bad broken) bytes bytes
early_acts program x m message broken bytes stands is =
    subst (λ o. Acts (Stands program x) m message (left_for m message) (verdict_by o (is_spent m message) m message) (Bad broken) bytes bytes) (is ∙ ap (λ n. early_rule n message) stands.last) (refl, stands, refl)

-- no rule on turns is
pub no_early : (program : MonitorProgram) (x : code.State) (m : Monitor) (message : Message) → Stands program x m → None ≡ early_rule x.last message → early_rule m.last message ≡ None
no_early program x m message stands is = sym (is ∙ ap (λ n. early_rule n message) stands.last)

-- the budget is spent
pub spent_acts : (program : MonitorProgram) (x : code.State) (m : Monitor) (message : Message) (bytes : List ℕ) → Stands program x m → early_rule m.last message ≡ None → None ≡ left_behind (x.budget - x.turns) message →
    Acts (Stands program x) m message (left_for m message) (verdict_on m message) (Ended Spent) bytes bytes
spent_acts program x m message bytes stands early none =
    let spent : is_spent m message ≡ true =
    sym (same_test m.budget m.turns (needs message) stands.sound.turns)
    ∙ none_behind (nat_lt (m.budget - m.turns) (needs message)) ((m.budget - m.turns) - needs message) (counted program x m message stands None none) in
    subst (λ v. Acts (Stands program x) m message (left_for m message) v (Ended Spent) bytes bytes)
    (sym (ap (λ o. verdict_by o (is_spent m message) m message) early ∙ ap (λ b. verdict_by None b m message) spent)) (refl, stands, refl)

-- the other rules decide
pub rules_act : (Is : Monitor → Type 0) (m : Monitor) (message : Message) (left : ℕ) (h : Handled) (old new : List ℕ) → early_rule m.last message ≡ None → left + (needs message + m.turns) ≡ m.budget →
    Acts Is m message left (rules (low m) message) h old new → Acts Is m message (left_for m message) (verdict_on m message) h old new
rules_act Is m message left h old new early is acts =
    subst (λ v. Acts Is m message (left_for m message) v h old new)
    (sym (ap (λ o. verdict_by o (is_spent m message) m message) early ∙ ap (λ b. verdict_by None b m message) (not_spent m.budget (needs message) m.turns left is)))
    (subst (λ n. Acts Is m message n (rules (low m) message) h old new) (left_so m.budget (needs message) m.turns left is) acts)

-- ---- what is done

pub room_for : (left turns own budget : ℕ) → left + ((turns + 1) + own) ≡ budget → suc (left + own) ≤ budget
room_for left turns own budget e = omega (arith, e)

-- the state behind a message that writes
abbrev pub with_last : code.State → ℕ → code.State
with_last x last = record { bench = x.bench; store = x.store; policy = x.policy; calls = x.calls; turns = x.turns; last = last; budget = x.budget }

pub stands_later : (program : MonitorProgram) (x : code.State) (m : Monitor) (last : ℕ) → Stands program x m → Stands program (with_last x last) (record m { last = last })
stands_later program x m last stands = record {
  named = stands.named;
  at = record { taken = stands.at.taken; limit = stands.at.limit; shown = stands.at.shown; few = stands.at.few; knows = stands.at.knows; heard = stands.at.heard };
  store = stands.store;
  policy = stands.policy;
  calls = stands.calls;
  turns = stands.turns;
  last = refl;
  budget = stands.budget;
  sound = record {
    program = stands.sound.program;
    rest = stands.sound.rest;
    asked = stands.sound.asked;
    alone = stands.sound.alone;
    store = stands.sound.store;
    calls = stands.sound.calls;
    turns = stands.sound.turns;
    budget = stands.sound.budget;
  };
}

-- ---- the message as a whole

served_handles : (Is : Monitor → Type 0) (m : Monitor) (s : Served Monitor ReplyBody End rule.PeerRule) (h : Handled) (old new : List ℕ) → Serves Is s h old new → Handles Is m s h old new
served_handles Is m (goes_on next reply bytes) h old new is = is
served_handles Is m (ends bytes end) h old new is = is
served_handles Is m (bad broken) h old new is = elim is [ ]

pub acts_handles : (Is : Monitor → Type 0) (m : Monitor) (message : Message) (left : ℕ) (v : Verdict) (h : Handled) (old new : List ℕ) → Acts Is m message left v h old new → Handles Is m (acted m message left v) h old new
acts_handles Is m message left (breaks broken) h old new is = is
acts_handles Is m message left (rule.ends end) h old new is = (is.0, is.2 ∙ sym (append-nil old))
acts_handles Is m message left (writes bytes) h old new is = is
acts_handles Is m message left (makes call) h old new is = served_handles Is m (served_by m message call left (work_of m call left)) h old new is

pub acts_unchanged : (Is : Monitor → Type 0) (m : Monitor) (message : Message) (left : ℕ) (v : Verdict) (h : Handled) (old new : List ℕ) → Acts Is m message left v h old new → ChangesNothing v → Is m
acts_unchanged Is m message left (breaks broken) h old new is none = is.1
acts_unchanged Is m message left (rule.ends end) h old new is none = is.1
acts_unchanged Is m message left (writes bytes) h old new is none = elim none [ ]
acts_unchanged Is m message left (makes call) h old new is none = elim none [ ]

-- ---- where it begins

-- what stands for the program's own hosts serves it as well
pub serve_for : (p : MonitorTree) (models : r.Hosts) → IsTrue (is_well_formed_monitor p) → HostsServe p models → HostsServe p (hosts_for p models)
serve_for p models well serve = record {
  called = λ f own host. subst (λ m. IsTrue (fits m (signature_in (monitor_program p) f))) (sym (there f (signed_by f own))) (serve.called f own host);
  asked = λ f s entry host. subst (λ m. IsTrue (fits m s)) (sym (there f (ap is_some (facts_of_entry p f s well entry).signed))) (serve.asked f s entry host);
}
  where
    there : (f : ℕ) → is_some (signature_at (monitor_program p) f) ≡ true → hosts_for p models f ≡ models f
    there f is = ap (λ b. if b then models f else no_model) is

    by_callee : (f : ℕ) (o : Option Signature) → IsTrue (callee_by true (monitor_program p) f o) → is_some o ≡ true
    by_callee f None h = false_not_true h
    by_callee f (Some s) h = refl

    signed_by : (f : ℕ) → IsTrue (is_called (monitor_program p) f) → is_some (signature_at (monitor_program p) f) ≡ true
    signed_by f own = by_callee f (signature_at (monitor_program p) f) (each_holds (callee_fits true (monitor_program p)) f (callees (monitor_program p)) (facts_of true (monitor_program p) (sound_of p well)).calls own)
