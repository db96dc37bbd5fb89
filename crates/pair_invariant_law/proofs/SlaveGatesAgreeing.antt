-- The slave's gate agrees with the whole's.
use Rattle.std.proofs.Common.{◌≡◌, ◌∙◌, ℕ, ℤ, nat_eq, refl, ap, sym, subst, List, [], ◌∷◌, append_assoc, Option, Some, None, Bool, true, false, map}
use Rattle.std.specs.Prelude.{◌&&◌, not, if◌then◌else◌}
use Rattle.pt_base.proofs.Numbers.{nat_eq_same}
use Rattle.pt_tree.specs.HostStep.{Answer, host_step}
use Rattle.pt_tree.specs.PlainNumbers.{plain_numbers}
use Rattle.pt_tree.specs.declared.host_model.HostModel.{HostModel}
use Rattle.pt_tree.specs.declared.host_model.HostModel.TheVariants.{Table, Feed, Input, Bytes, Line}
use Rattle.pt_tree.specs.declared.signature.Signature.{Signature}
use Rattle.runs.specs.State.{Hosts, guarded, guarded_event, out_event, put_host}
use Rattle.policy.specs.Answers.{answers_of}
use Rattle.policy.specs.Verdicts.{Standing}
use Rattle.block_memory.specs.declared.cell.Cell.{Cell}
use Rattle.block_memory.specs.Blocks.{Blocks}
use Rattle.marshalling.specs.Handles.{Entries}
use Rattle.pt_core.specs.CodeTree.{MonitorTree, ProgramTree}
use Rattle.pt_core.specs.Values.{number_in}
use Rattle.pt_core.specs.Calls.{signature_in}
use Rattle.pt_core.specs.Steps.{Gate, enters, here}
use Rattle.pt_core.specs.WellFormed.{monitor_program}
use Rattle.core_steps_law.specs.MachinesJudged.{Judgement, Judging, judged, judged_answer, judging_gate, with_judged}
use Rattle.part_views_law.specs.Views.{View, seen_cell, slave_view}
use Rattle.part_views_law.specs.StepsParts.{GatesAgree, HasSignature}
use Rattle.pair_meaning.specs.Start.{reads_input}
use Rattle.pair_invariant_law.specs.Halves.{AreHalvesOf, is_own_host}
use Rattle.pair_invariant_law.specs.Hosts.{HostsAgree}
use Rattle.pair_invariant_law.specs.SlaveGatesGathering.{AreAlike, Gathered, Meanwhile, gathering_gate, judgement_at, with_written}
use Rattle.pair_invariant_law.specs.SlaveGatesLaws.{SlaveGatesAgree}
use Rattle.pair_invariant_law.proofs.SlaveGatesFitting.{IsOfWay, enters_by, here_by, own_host}

-- ---- one call of a host

-- only a host that reads the input depends on it
host_same : (model : HostModel) (i j : List ℕ) (numbers : List ℤ) → (reads_input model ≡ true → j ≡ i) → host_step i model numbers ≡ host_step j model numbers
host_same (Table rows other) i j numbers same = refl
host_same (Feed values other next) i j numbers same = refl
host_same (Input next) i j numbers same = ap (λ k. host_step k (Input next) numbers) (sym (same refl))
host_same Bytes i j numbers same = refl
host_same (Line name) i j numbers same = refl

-- what stands for it next reads as before
next_reads : (model : HostModel) (i : List ℕ) (numbers : List ℤ) → reads_input (host_step i model numbers).next ≡ reads_input model
next_reads (Table rows other) i numbers = refl
next_reads (Feed values other next) i numbers = refl
next_reads (Input next) i numbers = refl
next_reads Bytes i numbers = refl
next_reads (Line name) i numbers = refl

-- ---- hosts behind it

module _ (slave monitor : ProgramTree) (hosts : Hosts) (input : List ℕ) (slave_hosts : Hosts) (slave_input : List ℕ) (monitor_hosts : Hosts) (agree : HostsAgree slave monitor hosts input slave_hosts slave_input monitor_hosts)
    (f : ℕ) (signed : HasSignature slave f) (own : is_own_host (signature_in slave f) ≡ true) (numbers : List ℤ) where
  abbrev next : HostModel
  next = (host_step input (hosts f) numbers).next

  -- where the monitor may call it too, it answers alike for ever
  same_next : HasSignature monitor f → next ≡ hosts f
  same_next of_monitor = agree.stays f signed own of_monitor numbers

  monitor_after : (f1 : ℕ) → HasSignature monitor f1 → (signature_in monitor f1).host ≡ true → monitor_hosts f1 ≡ put_host hosts f next f1
  monitor_after f1 of_monitor host = go (nat_eq f1 f) refl
    where
      go : (b : Bool) → nat_eq f1 f ≡ b → monitor_hosts f1 ≡ (if b then next else hosts f1)
      go true e = agree.monitor_has f1 of_monitor host ∙ ap hosts (nat_eq_same f1 f e) ∙ sym (same_next (subst (λ n. HasSignature monitor n) (nat_eq_same f1 f e) of_monitor))
      go false e = agree.monitor_has f1 of_monitor host

  reads_after : (f1 : ℕ) → HasSignature slave f1 → is_own_host (signature_in slave f1) ≡ true → reads_input (put_host hosts f next f1) ≡ true → slave_input ≡ input
  reads_after f1 signed1 own1 reads = go (nat_eq f1 f) reads
    where
      go : (b : Bool) → reads_input (if b then next else hosts f1) ≡ true → slave_input ≡ input
      go true r = agree.reads f signed own (sym (next_reads (hosts f) input numbers) ∙ r)
      go false r = agree.reads f1 signed1 own1 r

  stays_after : (f1 : ℕ) → HasSignature slave f1 → is_own_host (signature_in slave f1) ≡ true → HasSignature monitor f1 → (args : List ℤ) → (host_step input (put_host hosts f next f1) args).next ≡ put_host hosts f next f1
  stays_after f1 signed1 own1 of_monitor args = go (nat_eq f1 f) refl
    where
      go : (b : Bool) → nat_eq f1 f ≡ b → (host_step input (if b then next else hosts f1) args).next ≡ (if b then next else hosts f1)
      go true e =
          let there : HasSignature monitor f = subst (λ n. HasSignature monitor n) (nat_eq_same f1 f e) of_monitor in
          subst (λ model. (host_step input model args).next ≡ model) (sym (same_next there)) (agree.stays f signed own there args)
      go false e = agree.stays f1 signed1 own1 of_monitor args

  agree_after : HostsAgree slave monitor (put_host hosts f next) input (put_host slave_hosts f next) slave_input monitor_hosts
  agree_after = record {
    slave_has = λ f1 signed1 own1. ap (λ (model : HostModel). if nat_eq f1 f then next else model) (agree.slave_has f1 signed1 own1);
    monitor_has = monitor_after;
    reads = reads_after;
    stays = stays_after;
  }

-- ---- the judgement behind it

judged_written : (policy : Standing) (k : Meanwhile) (written : Option (List ℕ)) (j : Judgement Standing) (bytes : List ℕ) → j ≡ judgement_at k bytes →
    judged (answers_of policy) j (out_event written) ≡ judgement_at k (with_written written bytes)
judged_written policy k None j bytes e = e
judged_written policy k (Some more) j bytes e =
    ap (λ i. judged (answers_of policy) i (out_event (Some more))) e
    ∙ ap (λ bs. record { bytes = bs; state = k.state; calls = k.calls; refused = None }) (append_assoc k.written bytes more)

-- what isn't privileged is no guarded call
unguarded : (s : Signature) (f : ℕ) (numbers : List ℤ) → s.privileged ≡ false → guarded_event false s f numbers ≡ []
unguarded s f numbers e = ap (λ b. if b && not false then guarded f (plain_numbers s.params numbers) ∷ [] else []) e

-- ---- the gates

module _ (policy : Standing) (whole slave : ProgramTree) (monitor : MonitorTree) (store : Entries) (beside : Blocks) (k : Meanwhile) (halves : AreHalvesOf whole slave monitor) where
  abbrev v : View
  v = slave_view slave store beside

  abbrev outer : Gate (Judging Standing)
  outer = judging_gate (answers_of policy) whole

  abbrev Alike : Judging Standing → Gathered → Type 0
  Alike = AreAlike slave (monitor_program monitor) k

  whole_is : (f : ℕ) (host privileged : Bool) → HasSignature slave f → IsOfWay (signature_in slave f) host privileged → IsOfWay (signature_in whole f) host privileged
  whole_is f host privileged signed is = subst (λ (s : Signature). IsOfWay s host privileged) (sym (halves.slave_signatures f signed)) is

  same_noted : (h : Judging Standing) (f : ℕ) (args : List Cell) → (signature_in whole f).privileged ≡ false → outer.noted false f args h ≡ h
  same_noted h f args plain = ap (λ events. with_judged (answers_of policy) events h) (unguarded (signature_in whole f) f (map number_in args) plain)

  -- ---- a host's call

  module _ (h : Judging Standing) (g : Gathered) (f : ℕ) (args : List Cell) (alike : AreAlike slave (monitor_program monitor) k h g) (signed : HasSignature slave f) (is : IsOfWay (signature_in slave f) true false) where
    abbrev numbers : List ℤ
    numbers = map number_in args

    abbrev own : is_own_host (signature_in slave f) ≡ true
    own = own_host (signature_in slave f) is

    abbrev answer : Answer
    answer = host_step k.input (h.hosts f) numbers

    outer_is : host_step h.input (h.hosts f) numbers ≡ answer
    outer_is = ap (λ i. host_step i (h.hosts f) numbers) alike.input

    inner_is : host_step g.heard.input (g.heard.hosts f) numbers ≡ answer
    inner_is =
        ap (λ model. host_step g.heard.input model numbers) (alike.hosts.slave_has f signed own)
        ∙ ap (λ i. host_step i (h.hosts f) numbers) alike.slave_input
        ∙ sym (host_same (h.hosts f) k.input k.slave_input numbers (λ reads. alike.hosts.reads f signed own reads))

    abbrev heard_after : Answer → Gathered
    heard_after a = record { heard = record { hosts = put_host g.heard.hosts f a.next; input = g.heard.input; wrote = a.written }; bytes = with_written a.written g.bytes }

    answers_alike : Alike (judged_answer (answers_of policy) f answer h).1 (heard_after answer)
    answers_alike = record {
      judgement = judged_written policy k answer.written h.judgement g.bytes alike.judgement;
      input = alike.input;
      slave_input = alike.slave_input;
      hosts = agree_after slave (monitor_program monitor) h.hosts k.input g.heard.hosts k.slave_input k.monitor_hosts alike.hosts f signed own numbers;
    }

    same_result : (noted : Judging Standing) → noted ≡ h → (outer.answer f numbers noted).0 ≡ (host_step g.heard.input (g.heard.hosts f) numbers).result
    same_result noted e = ap (λ j. (outer.answer f numbers j).0) e ∙ ap (λ (a : Answer). a.result) (outer_is ∙ sym inner_is)

    stays_alike : (noted : Judging Standing) → noted ≡ h → Alike (outer.answer f numbers noted).1 (heard_after (host_step g.heard.input (g.heard.hosts f) numbers))
    stays_alike noted e =
        subst (λ j. Alike (outer.answer f numbers j).1 (heard_after (host_step g.heard.input (g.heard.hosts f) numbers))) (sym e)
        (subst (λ a. Alike (judged_answer (answers_of policy) f a h).1 (heard_after (host_step g.heard.input (g.heard.hosts f) numbers))) (sym outer_is)
        (subst (λ a. Alike (judged_answer (answers_of policy) f answer h).1 (heard_after a)) (sym inner_is) answers_alike))

  gates : GatesAgree (slave_view slave store beside) slave false (gathering_gate slave) (judging_gate (answers_of policy) whole) (AreAlike slave (monitor_program monitor) k)
  gates = record {
    entered = λ h g f args alike signed e. (
        let is = enters_by (signature_in slave f) args e in
        let there = whole_is f false false signed is in (
          ap (λ b. if b then here else enters) there.host_is,
          is.privileged_is,
          subst (λ j. Alike j g) (sym (same_noted h f (map (seen_cell v) args) there.privileged_is)) alike,
        ));
    made = λ h g f args alike signed e plain. (
        let is = here_by (signature_in slave f) args e in
        let there = whole_is f true false signed is in
        let noted = same_noted h f (map (seen_cell v) args) there.privileged_is in (
          ap (λ b. if b then here else enters) there.host_is,
          same_result h g f args alike signed is (outer.noted false f (map (seen_cell v) args) h) noted,
          stays_alike h g f args alike signed is (outer.noted false f (map (seen_cell v) args) h) noted,
        ));
    gone = λ h g f args alike signed e none. ap (λ b. if b then here else enters) (ap (λ (s : Signature). s.host) (halves.slave_signatures f signed) ∙ none);
  }

pub slave_gates_agree : SlaveGatesAgree
slave_gates_agree policy whole slave monitor store beside k halves = gates policy whole slave monitor store beside k halves
