-- The gate of a monitor's hosts shows as the gate that keeps the bytes.
use Rattle.std.proofs.Common.{◌≡◌, ◌∙◌, ℕ, nat_eq, refl, ap, sym, subst, cond, Bool, true, false, Option, Some, None, List, [], ◌∷◌, ◌++◌, map, if◌then◌else◌, append-nil}
use Rattle.std.specs.Prelude.{ℤ, IsTrue, is_some, option_map, pos, unwrap_or}
use Rattle.std.specs.Map.{lookup}
use Rattle.pt_base.proofs.Lists.{map_map_turned}
use Rattle.pt_base.proofs.Numbers.{nat_eq_same, nat_eq_turned}
use Rattle.pt_tree.specs.declared.host_model.HostModel.{HostModel}
use Rattle.pt_tree.specs.declared.signature.Signature.{Signature}
use Rattle.pt_tree.specs.HostStep.{Answer, host_step}
use Rattle.typed_tree.specs.WellFormed.{are_rising}
use Rattle.runs.specs.Run.{written}
use Rattle.runs.specs.State.{out_event, put_host}
use Rattle.runs.specs.State as r
use Rattle.host_table.specs.Hosts.{Hosts, bytes_of}
use Rattle.host_table.specs.RunHosts.{AreAfter, answer_in, models_of, no_model}
use Rattle.pt_core.specs.CodeTree.{MonitorTree, ProgramTree}
use Rattle.pt_core.specs.Calls.{no_signature}
use Rattle.pt_core.specs.Steps.{enters, here}
use Rattle.core_machine.specs.Gates.{gate_of}
use Rattle.core_steps_law.specs.GatesShown.{Shows}
use Rattle.core_steps_law.specs.GatesWritten.{bytes_gate}
use Rattle.monitor_interp.specs.declared.marks.Mark.{Mark}
use Rattle.monitor_interp.specs.Heard.{Heard, Known}
use Rattle.monitor_interp.specs.Marks.{mark_of}
use Rattle.monitor_interp.specs.Gates.{changed, heard, heard_answer, heard_of, heard_way, hosts_among, hosts_for, hosts_in, is_host_in, known_by, model_in, models_among, told_of}
use Rattle.monitor_interp.specs.Working.{at_first}

-- ---- one host's model changes

-- the model of a number, where it changes for another or for itself
abbrev model_by : ℕ → ℕ → HostModel → HostModel → HostModel
model_by n f next model = if nat_eq n f then next else model

found_changed : (ks : List Known) (f : ℕ) (next : HostModel) (n : ℕ) → lookup (nat_eq n) (models_among (map (changed f next) ks)) ≡ option_map (model_by n f next) (lookup (nat_eq n) (models_among ks))
found_changed [] f next n = refl
found_changed (k ∷ ks) f next n = go (nat_eq n k.number) refl (found_changed ks f next n)
  where
    go : (b : Bool) → nat_eq n k.number ≡ b → lookup (nat_eq n) (models_among (map (changed f next) ks)) ≡ option_map (model_by n f next) (lookup (nat_eq n) (models_among ks)) →
        cond b (Some (model_by k.number f next k.model)) (lookup (nat_eq n) (models_among (map (changed f next) ks))) ≡ option_map (model_by n f next) (cond b (Some k.model) (lookup (nat_eq n) (models_among ks)))
    go true e rest = ap (λ i. Some (model_by i f next k.model)) (sym (nat_eq_same n k.number e))
    go false e rest = rest

-- what answers where nothing is known stays the same
unknown_stays : (input : List ℕ) (numbers : List ℤ) (m : HostModel) → m ≡ no_model → (host_step input m numbers).next ≡ no_model
unknown_stays input numbers m e = ap (λ x. (host_step input x numbers).next) e

model_changed : (h : Heard) (f : ℕ) (next : HostModel) → (lookup (nat_eq f) (models_among h.known) ≡ None → next ≡ no_model) → (n : ℕ) →
    put_host (model_in h) f next n ≡ unwrap_or (lookup (nat_eq n) (models_among (map (changed f next) h.known))) no_model
model_changed h f next stays n = sym (ap (λ o. unwrap_or o no_model) (found_changed h.known f next n) ∙ go (lookup (nat_eq n) (models_among h.known)) refl)
  where
    none_at : (b : Bool) → nat_eq n f ≡ b → lookup (nat_eq n) (models_among h.known) ≡ None → no_model ≡ (if b then next else no_model)
    none_at true e is = sym (stays (ap (λ i. lookup (nat_eq i) (models_among h.known)) (sym (nat_eq_same n f e)) ∙ is))
    none_at false e is = refl

    go : (o : Option HostModel) → lookup (nat_eq n) (models_among h.known) ≡ o → unwrap_or (option_map (model_by n f next) o) no_model ≡ model_by n f next (unwrap_or o no_model)
    go None is = none_at (nat_eq n f) refl is
    go (Some m) is = refl

hosts_same : (ks : List Known) (f : ℕ) (next : HostModel) → hosts_among (map (changed f next) ks) ≡ hosts_among ks
hosts_same ks f next = map_map_turned (changed f next) (λ (k : Known). (k.number, k.host)) ks

-- no number becomes a host by an answer
pub marks_stay : (h : Heard) (f : ℕ) (numbers : List ℤ) → is_host_in (heard_answer f numbers h).1 ≡ is_host_in h
marks_stay h f numbers = ap (λ ks. (λ (n : ℕ). unwrap_or (lookup (nat_eq n) ks) true)) (hosts_same h.known f (host_step h.input (model_in h f) numbers).next)

pub heard_shows : (program : ProgramTree) → Shows told_of is_host_in (hosts_in program) (gate_of heard_way heard_answer) (bytes_gate program)
heard_shows program = record {
  way = λ f args h e. ap (λ (marks : ℕ → Bool). if marks f then here else enters) (sym e);
  noted = λ active f args h e. refl;
  answer = λ f numbers h e.
      let a : Answer = host_step h.input (model_in h f) numbers in
      ap (λ (hosts : r.Hosts). (a.result, record (told_of h) { hosts = hosts; bytes = h.bytes ++ written (out_event a.written) }))
      (λ i n. model_changed h f a.next (λ none. unknown_stays h.input numbers (model_in h f) (ap (λ o. unwrap_or o no_model) none)) n i);
  noted_stays = λ active f args h. refl;
  answer_stays = λ f numbers h. marks_stay h f numbers;
}

-- ---- where it begins

known_models : (models : r.Hosts) (sigs : List (ℕ × Signature)) (n : ℕ) → lookup (nat_eq n) (models_among (map (known_by models) (map mark_of sigs))) ≡ (if is_some (lookup (nat_eq n) sigs) then Some (models n) else None)
known_models models [] n = refl
known_models models (s ∷ sigs) n = go (nat_eq n s.0) refl (known_models models sigs n)
  where
    go : (b : Bool) → nat_eq n s.0 ≡ b → lookup (nat_eq n) (models_among (map (known_by models) (map mark_of sigs))) ≡ (if is_some (lookup (nat_eq n) sigs) then Some (models n) else None) →
        cond b (Some (models s.0)) (lookup (nat_eq n) (models_among (map (known_by models) (map mark_of sigs)))) ≡ (if is_some (cond b (Some s.1) (lookup (nat_eq n) sigs)) then Some (models n) else None)
    go true e rest = ap (λ i. Some (models i)) (sym (nat_eq_same n s.0 e))
    go false e rest = rest

pub told_first : (p : MonitorTree) (hosts : Hosts) → told_of (heard_of hosts [] (map mark_of p.signatures)) ≡ at_first (hosts_for p (models_of hosts.models)) hosts.input
told_first p hosts = ap (λ (h : r.Hosts). at_first h hosts.input) (λ i n. at n i)
  where
    either : (b : Bool) (m : HostModel) → unwrap_or (if b then Some m else None) no_model ≡ (if b then m else no_model)
    either true m = refl
    either false m = refl

    at : (n : ℕ) → model_in (heard_of hosts [] (map mark_of p.signatures)) n ≡ hosts_for p (models_of hosts.models) n
    at n = ap (λ o. unwrap_or o no_model) (known_models (models_of hosts.models) p.signatures n) ∙ either (is_some (lookup (nat_eq n) p.signatures)) (models_of hosts.models n)

known_hosts : (models : r.Hosts) (sigs : List (ℕ × Signature)) (n : ℕ) → unwrap_or (lookup (nat_eq n) (hosts_among (map (known_by models) (map mark_of sigs)))) true ≡ (unwrap_or (lookup (nat_eq n) sigs) no_signature).host
known_hosts models [] n = refl
known_hosts models (s ∷ sigs) n = go (nat_eq n s.0) (known_hosts models sigs n)
  where
    go : (b : Bool) → unwrap_or (lookup (nat_eq n) (hosts_among (map (known_by models) (map mark_of sigs)))) true ≡ (unwrap_or (lookup (nat_eq n) sigs) no_signature).host →
        unwrap_or (cond b (Some s.1.host) (lookup (nat_eq n) (hosts_among (map (known_by models) (map mark_of sigs))))) true ≡ (unwrap_or (cond b (Some s.1) (lookup (nat_eq n) sigs)) no_signature).host
    go true rest = refl
    go false rest = rest

pub knows_first : (program : ProgramTree) (hosts : Hosts) (bytes : List ℕ) → is_host_in (heard_of hosts bytes (map mark_of program.signatures)) ≡ hosts_in program
knows_first program hosts bytes = λ i n. known_hosts (models_of hosts.models) program.signatures n i

-- the marks are in the order of the signatures
pub marks_rise : (sigs : List (ℕ × Signature)) → IsTrue (are_rising 0 (map (λ s. s.0) sigs)) → IsTrue (are_rising 0 (map (λ (m : Mark). m.number) (map mark_of sigs)))
marks_rise sigs h = subst (λ ns. IsTrue (are_rising 0 ns)) (sym (map_map_turned mark_of (λ (m : Mark). m.number) sigs)) h

-- ---- a search among marks

abbrev pub marked : List Mark → List (ℕ × Bool)
marked marks = map (λ m. (m.number, m.host)) marks

pub host_is : (hosts : Hosts) (bytes : List ℕ) (marks : List Mark) (f : ℕ) → unwrap_or (lookup (nat_eq f) (marked marks)) true ≡ is_host_in (heard_of hosts bytes marks) f
host_is hosts bytes marks f = ap (λ ks. unwrap_or (lookup (nat_eq f) ks) true) (sym (map_map_turned (known_by (models_of hosts.models)) (λ (k : Known). (k.number, k.host)) marks))

-- ---- a call

bytes_are : (o : Option (List ℕ)) → bytes_of o ≡ written (out_event o)
bytes_are None = refl
bytes_are (Some bytes) = sym (append-nil bytes)

-- the model of a number that is there, and of one that isn't
there_at : (models : r.Hosts) (marks : List Mark) (f : ℕ) → is_some (lookup (nat_eq f) (marked marks)) ≡ true → lookup (nat_eq f) (models_among (map (known_by models) marks)) ≡ Some (models f)
there_at models [] f is = cc
there_at models (m ∷ marks) f is = go (nat_eq f m.number) refl (there_at models marks f) is
  where
    go : (b : Bool) → nat_eq f m.number ≡ b → (is_some (lookup (nat_eq f) (marked marks)) ≡ true → lookup (nat_eq f) (models_among (map (known_by models) marks)) ≡ Some (models f)) →
        is_some (cond b (Some m.host) (lookup (nat_eq f) (marked marks))) ≡ true → cond b (Some (models m.number)) (lookup (nat_eq f) (models_among (map (known_by models) marks))) ≡ Some (models f)
    go true e rest is = ap (λ i. Some (models i)) (sym (nat_eq_same f m.number e))
    go false e rest is = rest is

absent_at : (models : r.Hosts) (marks : List Mark) (f : ℕ) → is_some (lookup (nat_eq f) (marked marks)) ≡ false → lookup (nat_eq f) (models_among (map (known_by models) marks)) ≡ None
absent_at models [] f is = refl
absent_at models (m ∷ marks) f is = go (nat_eq f m.number) (absent_at models marks f) is
  where
    go : (b : Bool) → (is_some (lookup (nat_eq f) (marked marks)) ≡ false → lookup (nat_eq f) (models_among (map (known_by models) marks)) ≡ None) →
        is_some (cond b (Some m.host) (lookup (nat_eq f) (marked marks))) ≡ false → cond b (Some (models m.number)) (lookup (nat_eq f) (models_among (map (known_by models) marks))) ≡ None
    go true rest is = cc
    go false rest is = rest is

-- nothing changes for a number that isn't there
absent_same : (models : r.Hosts) (marks : List Mark) (f : ℕ) (next : HostModel) → is_some (lookup (nat_eq f) (marked marks)) ≡ false → map (changed f next) (map (known_by models) marks) ≡ map (known_by models) marks
absent_same models [] f next is = refl
absent_same models (m ∷ marks) f next is = go (nat_eq f m.number) refl (absent_same models marks f next) is
  where
    go : (b : Bool) → nat_eq f m.number ≡ b → (is_some (lookup (nat_eq f) (marked marks)) ≡ false → map (changed f next) (map (known_by models) marks) ≡ map (known_by models) marks) →
        is_some (cond b (Some m.host) (lookup (nat_eq f) (marked marks))) ≡ false → changed f next (known_by models m) ∷ map (changed f next) (map (known_by models) marks) ≡ known_by models m ∷ map (known_by models) marks
    go true e rest is = cc
    go false e rest is =
        ap (λ b. record { number = m.number; host = m.host; model = if b then next else models m.number } ∷ map (changed f next) (map (known_by models) marks)) (nat_eq_turned m.number f ∙ e)
        ∙ ap (λ ks. known_by models m ∷ ks) (rest is)

-- the models by number behind a change
known_after : (old new : r.Hosts) (marks : List Mark) (f : ℕ) (next : HostModel) → new ≡ put_host old f next → map (changed f next) (map (known_by old) marks) ≡ map (known_by new) marks
known_after old new marks f next is = map_map_turned (known_by old) (changed f next) marks ∙ ap (λ (h : r.Hosts). map (known_by h) marks) (sym is)

-- a number was called that isn't there
pub called_absent : (hosts : Hosts) (bytes : List ℕ) (marks : List Mark) (f : ℕ) (numbers : List ℤ) → is_some (lookup (nat_eq f) (marked marks)) ≡ false →
    heard_answer f numbers (heard_of hosts bytes marks) ≡ (Some (pos 0), heard_of hosts bytes marks)
called_absent hosts bytes marks f numbers is =
    ap (λ k. heard f (host_step hosts.input k numbers) (heard_of hosts bytes marks)) (ap (λ o. unwrap_or o no_model) (absent_at (models_of hosts.models) marks f is))
    ∙ ap (λ (ks : List Known). (Some (pos 0), record { known = ks; input = hosts.input; bytes = bytes ++ [] })) (absent_same (models_of hosts.models) marks f no_model is)
    ∙ ap (λ (bs : List ℕ). (Some (pos 0), heard_of hosts bs marks)) (append-nil bytes)

-- what a call says of its answer
pub asked_is : (hosts hosts' : Hosts) (bytes bytes' : List ℕ) (marks : List Mark) (f : ℕ) (numbers : List ℤ) (o : Option ℤ) → is_some (lookup (nat_eq f) (marked marks)) ≡ true → o ≡ (answer_in hosts f numbers).result →
    bytes' ≡ bytes ++ bytes_of (answer_in hosts f numbers).written → AreAfter hosts f (answer_in hosts f numbers).next hosts' →
    heard_answer f numbers (heard_of hosts bytes marks) ≡ (o, heard_of hosts' bytes' marks)
asked_is hosts hosts' bytes bytes' marks f numbers o is gave wrote' after =
    let a : Answer = answer_in hosts f numbers in
    ap (λ k. heard f (host_step hosts.input k numbers) (heard_of hosts bytes marks)) (ap (λ o. unwrap_or o no_model) (there_at (models_of hosts.models) marks f is))
    ∙ ap (λ (ks : List Known). (a.result, record { known = ks; input = hosts.input; bytes = bytes ++ written (out_event a.written) })) (known_after (models_of hosts.models) (models_of hosts'.models) marks f a.next after.models)
    ∙ ap (λ (i : List ℕ). (a.result, record { known = map (known_by (models_of hosts'.models)) marks; input = i; bytes = bytes ++ written (out_event a.written) })) (sym after.input)
    ∙ ap (λ (bs : List ℕ). (a.result, heard_of hosts' bs marks)) (ap (λ bs. bytes ++ bs) (sym (bytes_are a.written)) ∙ sym wrote')
    ∙ ap (λ (r' : Option ℤ). (r', heard_of hosts' bytes' marks)) (sym gave)
