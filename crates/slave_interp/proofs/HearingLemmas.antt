-- The gate of a slave's machine shows as the gate of the definitions.
use Rattle.std.proofs.Common.{◌≡◌, ◌∙◌, ℕ, nat_eq, refl, sym, ap, arith, List, [], ◌∷◌, map, Bool, true, false, Option, Some, None}
use Rattle.std.specs.Prelude.{ℤ, pos, if◌then◌else◌, option_map, unwrap_or}
use Rattle.std.specs.Map.{lookup}
use Rattle.std.proofs.lemmas.Bool.Decides.{nat_tests}
use Rattle.pt_base.specs.declared.ids.FnId.{FnId}
use Rattle.pt_base.proofs.Numbers.{nat_eq_same}
use Rattle.pt_tree.specs.HostStep.{Answer, host_step}
use Rattle.pt_tree.specs.declared.host_model.HostModel.{HostModel}
use Rattle.pt_tree.specs.declared.signature.Signature.{Signature}
use Rattle.runs.specs.State as r
use Rattle.runs.specs.State.{put_host}
use Rattle.host_table.specs.Hosts.{Hosts}
use Rattle.host_table.specs.RunHosts.{AreAfter, answer_in, model_or_none, models_of, no_model}
use Rattle.pt_core.specs.CodeTree.{ProgramTree, numbered}
use Rattle.pt_core.specs.Calls.{no_signature}
use Rattle.pt_core.specs.Steps.{Machine, Step}
use Rattle.core_steps_law.specs.WholeRun.{steps_run}
use Rattle.core_steps_law.specs.GatesShown.{Shows}
use Rattle.core_steps_law.proofs.GatesAgreement.{gates_agree}
use Rattle.core_machine.specs.Gates.{gate_of}
use Rattle.pair_meaning.specs.SlaveRun.{Heard, heard_answer, slave_gate, way_by}
use Rattle.slave_interp.specs.Hearing.{Hearing}
use Rattle.slave_interp.specs.Hearings.{hearing_answer, hearing_of, hearing_way, hears, model_in, models_at, told_of, with_model}

-- ---- lists by number

back : (m n : ℕ) → nat_eq m n ≡ false → nat_eq n m ≡ false
back m n e = grind (arith, nat_tests)

-- what is found in a list is changed with it
pub found_by : {A B : Type 0} (F : ℕ → A → B) (g : ℕ) (es : List (ℕ × A)) → lookup (nat_eq g) (map (λ (e : ℕ × A). (e.0, F e.0 e.1)) es) ≡ option_map (F g) (lookup (nat_eq g) es)
found_by F g [] = refl
found_by {A} F g (e ∷ es) = go (nat_eq g e.0) refl (found_by F g es)
  where
    go : (b : Bool) → nat_eq g e.0 ≡ b → lookup (nat_eq g) (map (λ (x : ℕ × A). (x.0, F x.0 x.1)) es) ≡ option_map (F g) (lookup (nat_eq g) es) →
        (if b then Some (F e.0 e.1) else lookup (nat_eq g) (map (λ (x : ℕ × A). (x.0, F x.0 x.1)) es)) ≡ option_map (F g) (if b then Some e.1 else lookup (nat_eq g) es)
    go true t more = ap (λ n. Some (F n e.1)) (sym (nat_eq_same g e.0 t))
    go false t more = more

-- ---- one host's model changes

-- what stands for each number; a number that nothing has answers 0, and stays so
put_is : (models : List (ℕ × HostModel)) (f : ℕ) (next : HostModel) → (lookup (nat_eq f) models ≡ None → next ≡ no_model) → (g : ℕ) →
    model_or_none (lookup (nat_eq g) (with_model f next models)) ≡ put_host (λ k. model_or_none (lookup (nat_eq k) models)) f next g
put_is models f next stays g = ap model_or_none (found_by (λ n model. if nat_eq n f then next else model) g models) ∙ go (nat_eq g f) refl
  where
    kept : (o : Option HostModel) → model_or_none (option_map (λ model. model) o) ≡ model_or_none o
    kept None = refl
    kept (Some model) = refl

    replaced : g ≡ f → (o : Option HostModel) → lookup (nat_eq g) models ≡ o → model_or_none (option_map (λ model. next) o) ≡ next
    replaced same None e = sym (stays (ap (λ n. lookup (nat_eq n) models) (sym same) ∙ e))
    replaced same (Some model) e = refl

    go : (b : Bool) → nat_eq g f ≡ b → model_or_none (option_map (λ model. if b then next else model) (lookup (nat_eq g) models)) ≡ (if b then next else model_or_none (lookup (nat_eq g) models))
    go true t = replaced (nat_eq_same g f t) (lookup (nat_eq g) models) refl
    go false t = kept (lookup (nat_eq g) models)

pub hearing_shows : (program : ProgramTree) → Shows told_of (λ h. h.signatures) program.signatures (gate_of hearing_way hearing_answer) (slave_gate program)
hearing_shows program = record {
  way = λ f args h e. ap (λ (signatures : List (ℕ × Signature)). way_by (unwrap_or (lookup (nat_eq f) signatures) no_signature) args) (sym e);
  noted = λ active f args h e. refl;
  answer = λ f numbers h e.
      let a : Answer = host_step h.input (model_in h f) numbers in
      ap (λ (hosts : r.Hosts). (a.result, record (told_of h) { hosts = hosts; wrote = a.written }))
      (λ i g. sym (put_is h.models f a.next (λ none. ap (λ o. (host_step h.input (model_or_none o) numbers).next) none) g) i);
  noted_stays = λ active f args h. refl;
  answer_stays = λ f numbers h. refl;
}

-- ---- what steps leave of a gate

-- calls change neither the signatures nor the input
abbrev kept_of : Hearing → Hearing → Hearing
kept_of g h = record h { signatures = g.signatures; input = g.input }

abbrev held_of : Hearing → List (ℕ × Signature) × List ℕ
held_of h = (h.signatures, h.input)

keeps_shows : (g : Hearing) → Shows (kept_of g) held_of (held_of g) (gate_of hearing_way hearing_answer) (gate_of hearing_way hearing_answer)
keeps_shows g = record {
  way = λ f args h e. ap (λ (p : List (ℕ × Signature) × List ℕ). way_by (unwrap_or (lookup (nat_eq f) p.0) no_signature) args) (sym e);
  noted = λ active f args h e. refl;
  answer = λ f numbers h e. ap (λ (p : List (ℕ × Signature) × List ℕ). hears f (host_step p.1 (model_in h f) numbers) (kept_of g h)) (sym e);
  noted_stays = λ active f args h. refl;
  answer_stays = λ f numbers h. refl;
}

pub keeps_rest : (program : ProgramTree) (n : ℕ) (m : Machine) (g : Hearing) →
    let after = (steps_run program (gate_of hearing_way hearing_answer) n m g).gate in
    (after.signatures ≡ g.signatures) × (after.input ≡ g.input)
keeps_rest program n m g =
    let same = gates_agree (kept_of g) held_of (held_of g) (gate_of hearing_way hearing_answer) (gate_of hearing_way hearing_answer) (keeps_shows g) program n m g refl in
    (ap (λ (s : Step Hearing). s.gate.signatures) same, ap (λ (s : Step Hearing). s.gate.input) same)

-- nor do they in the definitions
abbrev fed : List ℕ → Heard → Heard
fed input h = record h { input = input }

fed_shows : (program : ProgramTree) (input : List ℕ) → Shows (fed input) (λ h. h.input) input (slave_gate program) (slave_gate program)
fed_shows program input = record {
  way = λ f args h e. refl;
  noted = λ active f args h e. refl;
  answer = λ f numbers h e. ap (λ bytes. heard_answer f (host_step bytes (h.hosts f) numbers) (fed input h)) (sym e);
  noted_stays = λ active f args h. refl;
  answer_stays = λ f numbers h. refl;
}

pub keeps_input : (program : ProgramTree) (n : ℕ) (m : Machine) (h : Heard) → (steps_run program (slave_gate program) n m h).gate.input ≡ h.input
keeps_input program n m h =
    ap (λ (s : Step Heard). s.gate.input) (gates_agree (fed h.input) (λ x. x.input) h.input (slave_gate program) (slave_gate program) (fed_shows program h.input) program n m h refl)

-- ---- a host's call

found_model : (hosts : r.Hosts) (signatures : List (ℕ × Signature)) (f : ℕ) → model_or_none (lookup (nat_eq f) (models_at hosts signatures)) ≡ model_or_none (option_map (λ s. hosts f) (lookup (nat_eq f) signatures))
found_model hosts signatures f = ap model_or_none (found_by (λ n (s : Signature). hosts n) f signatures)

moved : (hosts : r.Hosts) (f : ℕ) (next : HostModel) (signatures : List (ℕ × Signature)) → with_model f next (models_at hosts signatures) ≡ models_at (put_host hosts f next) signatures
moved hosts f next [] = refl
moved hosts f next (s ∷ signatures) = ap (λ (rest : List (ℕ × HostModel)). (s.0, put_host hosts f next s.0) ∷ rest) (moved hosts f next signatures)

unmoved : (hosts : r.Hosts) (f : ℕ) (next : HostModel) (signatures : List (ℕ × Signature)) → lookup (nat_eq f) signatures ≡ None → models_at (put_host hosts f next) signatures ≡ models_at hosts signatures
unmoved hosts f next [] none = refl
unmoved hosts f next (s ∷ signatures) none = go (nat_eq f s.0) refl none (unmoved hosts f next signatures)
  where
    clash : Some s.1 ≡ None → ⊥
    clash e = cc

    other : (b : Bool) → b ≡ false → (if b then next else hosts s.0) ≡ hosts s.0
    other true e = cc
    other false e = refl

    go : (b : Bool) → nat_eq f s.0 ≡ b → (if b then Some s.1 else lookup (nat_eq f) signatures) ≡ None → (lookup (nat_eq f) signatures ≡ None → models_at (put_host hosts f next) signatures ≡ models_at hosts signatures) →
        (s.0, put_host hosts f next s.0) ∷ models_at (put_host hosts f next) signatures ≡ (s.0, hosts s.0) ∷ models_at hosts signatures
    go true t e more = absurd (clash e)
    go false t e more =
        ap (λ (model : HostModel). (s.0, model) ∷ models_at (put_host hosts f next) signatures) (other (nat_eq s.0 f) (back f s.0 t))
        ∙ ap (λ (rest : List (ℕ × HostModel)). (s.0, hosts s.0) ∷ rest) (more e)

pub called_is : (old new : Hosts) (signatures : List (FnId × Signature)) (before wrote : Option (List ℕ)) (f : ℕ) (numbers : List ℤ) (result : Option ℤ) (s : Signature) → Some s ≡ lookup (nat_eq f) (numbered signatures) →
    result ≡ (answer_in old f numbers).result → wrote ≡ (answer_in old f numbers).written → AreAfter old f (answer_in old f numbers).next new →
    hearing_answer f numbers (hearing_of old signatures before) ≡ (result, hearing_of new signatures wrote)
called_is old new signatures before wrote f numbers result s found result_is wrote_is after =
    let a : Answer = answer_in old f numbers in
    let model : model_in (hearing_of old signatures before) f ≡ models_of old.models f =
    found_model (models_of old.models) (numbered signatures) f ∙ ap (λ (o : Option Signature). model_or_none (option_map (λ s. models_of old.models f) o)) (sym found) in
    ap (λ (k : HostModel). hears f (host_step old.input k numbers) (hearing_of old signatures before)) model
    ∙ ap (λ (models : List (ℕ × HostModel)). (a.result, record (hearing_of old signatures before) { models = models; wrote = a.written }))
    (moved (models_of old.models) f a.next (numbered signatures) ∙ ap (λ (hosts : r.Hosts). models_at hosts (numbered signatures)) (sym after.models))
    ∙ ap (λ (input : List ℕ). (a.result, record (hearing_of new signatures a.written) { input = input })) (sym after.input)
    ∙ ap (λ (w : Option (List ℕ)). (a.result, hearing_of new signatures w)) (sym wrote_is)
    ∙ ap (λ (v : Option ℤ). (v, hearing_of new signatures wrote)) (sym result_is)

pub nothing_called : (hosts : Hosts) (signatures : List (FnId × Signature)) (before : Option (List ℕ)) (f : ℕ) (numbers : List ℤ) → None ≡ lookup (nat_eq f) (numbered signatures) →
    hearing_answer f numbers (hearing_of hosts signatures before) ≡ (Some (pos 0), hearing_of hosts signatures None)
nothing_called hosts signatures before f numbers none =
    let model : model_in (hearing_of hosts signatures before) f ≡ no_model =
    found_model (models_of hosts.models) (numbered signatures) f ∙ ap (λ (o : Option Signature). model_or_none (option_map (λ s. models_of hosts.models f) o)) (sym none) in
    ap (λ (k : HostModel). hears f (host_step hosts.input k numbers) (hearing_of hosts signatures before)) model
    ∙ ap (λ (models : List (ℕ × HostModel)). (Some (pos 0), record (hearing_of hosts signatures None) { models = models }))
    (moved (models_of hosts.models) f no_model (numbered signatures) ∙ unmoved (models_of hosts.models) f no_model (numbered signatures) (sym none))

-- ---- where it begins

-- what stands for each number among the signatures; a host without a signature has no model
pub begun_hosts : (models : ℕ → Option HostModel) (signatures : List (ℕ × Signature)) → ((f : ℕ) → lookup (nat_eq f) signatures ≡ None → models f ≡ None) →
    models_of models ≡ (λ f. model_or_none (lookup (nat_eq f) (models_at (models_of models) signatures)))
begun_hosts models signatures none = λ i f. at_number f i
  where
    at_number : (f : ℕ) → models_of models f ≡ model_or_none (lookup (nat_eq f) (models_at (models_of models) signatures))
    at_number f = go (lookup (nat_eq f) signatures) refl ∙ sym (found_model (models_of models) signatures f)
      where
        go : (o : Option Signature) → lookup (nat_eq f) signatures ≡ o → models_of models f ≡ model_or_none (option_map (λ s. models_of models f) o)
        go None e = ap model_or_none (none f e)
        go (Some s) e = refl
