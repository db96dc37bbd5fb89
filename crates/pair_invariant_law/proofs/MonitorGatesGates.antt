-- At each call of a body the judged whole's gate does what the body's does.
use Rattle.std.proofs.Common.{◌≡◌, ◌∙◌, ℕ, ℤ, nat_eq, refl, ap, sym, subst, List, [], ◌∷◌, ◌++◌, append_assoc, append-nil, map, Bool, true, false, Option, Some, None}
use Rattle.std.specs.Prelude.{◌&&◌, not, if◌then◌else◌, is_some}
use Rattle.std.proofs.Math.Path.{fun_ext}
use Rattle.std.proofs.lemmas.Bool.{and_from}
use Rattle.monitor_soundness_law.proofs.Bodies.{way_here}
use Rattle.pt_base.specs.declared.end.End.{End}
use Rattle.pt_base.proofs.Numbers.{nat_eq_same}
use Rattle.pt_tree.specs.HostStep.{Answer, host_step}
use Rattle.pt_tree.specs.declared.host_model.HostModel.{HostModel}
use Rattle.pt_tree.specs.declared.signature.Signature.{Signature}
use Rattle.pt_tree.specs.PlainNumbers.{plain_numbers}
use Rattle.runs.specs.Run.{Answers, written}
use Rattle.runs.specs.State.{Event, Hosts, guarded, guarded_event, out_event, put_host}
use Rattle.pt_core.specs.CodeTree.{ProgramTree}
use Rattle.pt_core.specs.Calls.{signature_in}
use Rattle.pt_core.specs.Values.{number_in}
use Rattle.pt_core.specs.Steps.{enters, here}
use Rattle.pt_core.specs.WellFormed.{signature_at}
use Rattle.core_steps_law.specs.GatesWritten.{Written, bytes_gate, wrote}
use Rattle.core_steps_law.specs.MachinesJudged.{Judgement, Judging, judged, judged_answer, judging_gate, with_judged}
use Rattle.part_views_law.specs.Views.{View, seen_cell}
use Rattle.part_views_law.specs.StepsParts.{GatesAgree, HasSignature, ShowAlike}
use Rattle.pair_invariant_law.specs.MonitorGatesLaws.{AreFixed, BodiesGatesAgree, Told, hosts_by, is_host_of, told_body, told_whole}
use Rattle.pair_invariant_law.proofs.MonitorGatesModels.{way_away}

-- ---- what is noted

-- where a privileged function is active no call is guarded
pub none_guarded : (s : Signature) (f : ℕ) (numbers : List ℤ) → guarded_event true s f numbers ≡ []
none_guarded s f numbers = go s.privileged
  where
    go : (b : Bool) → (if b && not true then guarded f (plain_numbers s.params numbers) ∷ [] else []) ≡ []
    go true = refl
    go false = refl

-- so nothing is noted
pub none_noted : {S : Type 0} (policy : Answers S) (s : Signature) (f : ℕ) (numbers : List ℤ) (h : Judging S) → with_judged policy (guarded_event true s f numbers) h ≡ h
none_noted policy s f numbers h = ap (λ (events : List Event). with_judged policy events h) (none_guarded s f numbers)

-- ---- what hosts write

-- the bytes behind those before
pub bytes_judged : {S : Type 0} (policy : Answers S) (j : Judgement S) (bytes : List ℕ) (o : Option (List ℕ)) → j.refused ≡ None →
    judged policy (record j { bytes = j.bytes ++ bytes }) (out_event o) ≡ record j { bytes = j.bytes ++ (bytes ++ written (out_event o)) }
bytes_judged policy j bytes None open_still = ap (λ xs. record j { bytes = j.bytes ++ xs }) (sym (append-nil bytes))
bytes_judged {S} policy j bytes (Some more) open_still = go j.refused open_still
  where
    go : (o : Option End) → o ≡ None → judged policy (record { bytes = j.bytes ++ bytes; state = j.state; calls = j.calls; refused = o }) (out_event (Some more)) ≡ record { bytes = j.bytes ++ (bytes ++ (more ++ [])); state = j.state; calls = j.calls; refused = o }
    go None e = ap (λ xs. record { bytes = xs; state = j.state; calls = j.calls; refused = None }) (append_assoc j.bytes bytes more ∙ ap (λ xs. j.bytes ++ (bytes ++ xs)) (sym (append-nil more)))
    go (Some refusal) e = cc

-- ---- hosts

put_by : (test : ℕ → Bool) (now before : Hosts) (f : ℕ) (next : HostModel) → test f ≡ true → put_host (hosts_by test now before) f next ≡ hosts_by test (put_host now f next) before
put_by test now before f next of = fun_ext (λ other. go other (nat_eq other f) (test other) (λ e. subst (λ n. test n ≡ true) (sym (nat_eq_same other f e)) of) refl refl)
  where
    go : (other : ℕ) (b c : Bool) → (nat_eq other f ≡ true → test other ≡ true) → nat_eq other f ≡ b → test other ≡ c →
        (if b then next else (if c then now other else before other)) ≡ (if c then (if b then next else now other) else before other)
    go other true true h e1 e2 = refl
    go other true false h e1 e2 = differ (sym (h e1) ∙ e2)
      where
        differ : {A : Type 0} → true ≡ false → A
        differ e = cc
    go other false true h e1 e2 = refl
    go other false false h e1 e2 = refl

-- a host that answers alike for ever is as it was
put_fixed : (test : ℕ → Bool) (now before : Hosts) (f : ℕ) (next : HostModel) → before ≡ hosts_by test now before → (test f ≡ true → next ≡ before f) → before ≡ hosts_by test (put_host now f next) before
put_fixed test now before f next same fixed = fun_ext (λ other. go other (nat_eq other f) (test other) refl refl)
  where
    there : (other : ℕ) → test other ≡ true → before other ≡ now other
    there other e = ap (λ (hosts : Hosts). hosts other) same ∙ ap (λ b. if b then now other else before other) e

    go : (other : ℕ) (b c : Bool) → nat_eq other f ≡ b → test other ≡ c → before other ≡ (if c then (if b then next else now other) else before other)
    go other true true e1 e2 =
        let is : other ≡ f = nat_eq_same other f e1 in
        ap before is ∙ sym (fixed (subst (λ n. test n ≡ true) is e2))
    go other false true e1 e2 = there other e2
    go other true false e1 e2 = refl
    go other false false e1 e2 = refl

-- ---- where a body begins

hosts_same : (test : ℕ → Bool) (now before : Hosts) → ((f : ℕ) → test f ≡ true → now f ≡ before f) → before ≡ hosts_by test now before
hosts_same test now before same = fun_ext (λ f. go f (test f) refl)
  where
    go : (f : ℕ) (b : Bool) → test f ≡ b → before f ≡ (if b then now f else before f)
    go f true e = sym (same f e)
    go f false e = refl

-- the monitor's hosts are the whole's, as is its input, and nothing is written
pub begun_alike : {S : Type 0} (monitor : ProgramTree) (fixed : ℕ → Bool) (start : Judging S) (hosts : Hosts) (input : List ℕ) → ((f : ℕ) → is_host_of monitor f ≡ true → hosts f ≡ start.hosts f) →
    ((f : ℕ) → fixed f ≡ true → is_host_of monitor f ≡ true) → input ≡ start.input → told_whole start start ≡ told_body monitor fixed start (record { hosts = hosts; input = input; bytes = [] })
begun_alike monitor fixed start hosts input same within same_input = λ i. record {
  judging = record {
    hosts = hosts_same (is_host_of monitor) hosts start.hosts same i;
    input = sym same_input i;
    judgement = record { bytes = sym (append-nil start.judgement.bytes) i; state = start.judgement.state; calls = start.judgement.calls; refused = start.judgement.refused };
  };
  hosts = hosts_same fixed hosts start.hosts (λ f e. same f (within f e)) i;
  input = sym same_input i;
}

-- ---- the gates

module _ {S : Type 0} (policy : Answers S) (whole monitor : ProgramTree) (fixed : ℕ → Bool) (start : Judging S)
    (signed : (f : ℕ) → HasSignature monitor f → signature_in whole f ≡ signature_in monitor f) (open_still : start.judgement.refused ≡ None) (lasting : AreFixed monitor fixed start) where
  -- what is behind a host's call, in the whole and in the body
  abbrev pub whole_after : ℕ → List ℤ → Judging S → Judging S
  whole_after f numbers h = (judged_answer policy f (host_step h.input (h.hosts f) numbers) h).1

  abbrev pub body_after : ℕ → List ℤ → Written → Written
  body_after f numbers g = (wrote f (host_step g.input (g.hosts f) numbers) g).1

  abbrev pub Alike : Judging S → Written → Type 0
  Alike h g = told_whole start h ≡ told_body monitor fixed start g

  of_host : (f : ℕ) (h : Judging S) (g : Written) → Alike h g → is_host_of monitor f ≡ true → h.hosts f ≡ g.hosts f
  of_host f h g same is = ap (λ (t : Told S). t.judging.hosts f) same ∙ ap (λ b. if b then g.hosts f else start.hosts f) is

  pub step_same : (f : ℕ) (numbers : List ℤ) (h : Judging S) (g : Written) → Alike h g → is_host_of monitor f ≡ true → host_step h.input (h.hosts f) numbers ≡ host_step g.input (g.hosts f) numbers
  step_same f numbers h g same is = ap (λ (input : List ℕ). host_step input (h.hosts f) numbers) (ap (λ (t : Told S). t.judging.input) same) ∙ ap (λ (model : HostModel). host_step g.input model numbers) (of_host f h g same is)

  -- with one answer of the host
  answer_alike : (f : ℕ) (g : Written) (answer : Answer) → is_host_of monitor f ≡ true → start.hosts ≡ hosts_by fixed g.hosts start.hosts → start.input ≡ g.input → (fixed f ≡ true → answer.next ≡ start.hosts f) →
      Alike (judged_answer policy f answer (told_body monitor fixed start g).judging).1 (wrote f answer g).1
  answer_alike f g answer is hosts input stays = λ i. record {
    judging = record {
      hosts = put_by (is_host_of monitor) g.hosts start.hosts f answer.next is i;
      input = g.input;
      judgement = bytes_judged policy start.judgement g.bytes answer.written open_still i;
    };
    hosts = put_fixed fixed g.hosts start.hosts f answer.next hosts stays i;
    input = input i;
  }

  stays_fixed : (f : ℕ) (numbers : List ℤ) (h : Judging S) (g : Written) → Alike h g → is_host_of monitor f ≡ true → fixed f ≡ true → (host_step g.input (g.hosts f) numbers).next ≡ start.hosts f
  stays_fixed f numbers h g same is of =
      let model : start.hosts f ≡ g.hosts f = ap (λ (t : Told S). t.hosts f) same ∙ ap (λ b. if b then g.hosts f else start.hosts f) of in
      let input : start.input ≡ g.input = ap (λ (t : Told S). t.input) same in
      sym (ap (λ (now : List ℕ). (host_step now (start.hosts f) numbers).next) input ∙ ap (λ (now : HostModel). (host_step g.input now numbers).next) model) ∙ lasting f of is numbers

  pub answers_alike : (f : ℕ) (numbers : List ℤ) (h : Judging S) (g : Written) → Alike h g → is_host_of monitor f ≡ true → Alike (whole_after f numbers h) (body_after f numbers g)
  answers_alike f numbers h g same is =
      subst (λ (answer : Answer). Alike (judged_answer policy f answer h).1 (body_after f numbers g)) (sym (step_same f numbers h g same is))
      (subst (λ (now : Judging S). Alike (judged_answer policy f (host_step g.input (g.hosts f) numbers) now).1 (body_after f numbers g)) (sym (ap (λ (t : Told S). t.judging) same))
      (answer_alike f g (host_step g.input (g.hosts f) numbers) is (ap (λ (t : Told S). t.hosts) same) (ap (λ (t : Told S). t.input) same) (stays_fixed f numbers h g same is)))

  whole_host : (f : ℕ) → HasSignature monitor f → (signature_in whole f).host ≡ (signature_in monitor f).host
  whole_host f known = ap (λ (s : Signature). s.host) (signed f known)

  pub agree : (v : View) → GatesAgree v monitor true (bytes_gate monitor) (judging_gate policy whole) (ShowAlike (told_whole start) (told_body monitor fixed start))
  agree v = record {
    entered = λ h g f args same known e. (
      ap (λ b. if b then here else enters) (whole_host f known) ∙ e,
      refl,
      subst (λ (now : Judging S). Alike now g) (sym (none_noted policy (signature_in whole f) f (map number_in (map (seen_cell v) args)) h)) same,
    );
    made = λ h g f args same known e plain.
        let is : is_host_of monitor f ≡ true = and_from (is_some (signature_at monitor f)) (signature_in monitor f).host known (way_here (signature_in monitor f).host e) in
        let quiet : with_judged policy (guarded_event true (signature_in whole f) f (map number_in (map (seen_cell v) args))) h ≡ h = none_noted policy (signature_in whole f) f (map number_in (map (seen_cell v) args)) h in (
          ap (λ b. if b then here else enters) (whole_host f known) ∙ e,
          ap (λ (answer : Answer). answer.result) (step_same f (map number_in args) h g same is),
          subst (λ (now : Judging S). Alike (whole_after f (map number_in args) now) (body_after f (map number_in args) g)) (sym quiet) (answers_alike f (map number_in args) h g same is),
        );
    gone = λ h g f args same known e host. absurd (way_away (signature_in monitor f).host e);
  }

pub bodies_gates_agree : {S : Type 0} → BodiesGatesAgree S
bodies_gates_agree policy whole monitor v fixed start signed open_still lasting = agree policy whole monitor fixed start signed open_still lasting v
