-- The gate of a table's hosts shows as the gate that keeps the bytes.
use Rattle.std.proofs.Common.{◌≡◌, ◌∙◌, ◌≤◌, ◌<◌, ℕ, zero, suc, nat_eq, refl, ap, sym, arith, Bool, true, false, Option, Some, None, List, [], ◌∷◌, ◌++◌, map, get_or, length, set, if◌then◌else◌, append-nil, ◌⊎◌, inl, inr}
use Rattle.std.specs.Prelude.{ℤ, pos}
use Rattle.std.specs.List.{range_with_len}
use Rattle.std.proofs.lemmas.List.{get_or-set_same, get_or-set_other, get_or_past, set_past, ext_get_or}
use Rattle.std.proofs.lemmas.List.FromFn.{length-map-range_with_len, get_or-map-range_with_len}
use Rattle.pt_base.proofs.Numbers.{nat_eq_same, nat_eq_true}
use Rattle.pt_tree.specs.declared.host_model.HostModel.{HostModel}
use Rattle.pt_tree.specs.HostStep.{Answer, host_step}
use Rattle.runs.specs.Run.{written}
use Rattle.runs.specs.State.{out_event, put_host}
use Rattle.runs.specs.State as r
use Rattle.typed_tree.specs.TypedTree.{TypedTree}
use Rattle.host_table.specs.Hosts.{Hosts, bytes_of}
use Rattle.host_table.specs.RunHosts.{answer_in, AreAfter, model_or_none, models_of, no_model}
use Rattle.pt_core.specs.Steps.{enters, here}
use Rattle.core_machine.specs.Gates.{gate_of}
use Rattle.lowering.specs.Functions.{core_program}
use Rattle.core_steps_law.specs.GatesShown.{Shows}
use Rattle.core_steps_law.specs.GatesWritten.{begun_written, bytes_gate}
use Rattle.original.specs.MachineRunHeard.{Heard}
use Rattle.original.specs.MachineRunHostGates.{heard, heard_answer, heard_of, heard_way, marks_of, model_in, told_of}
use Rattle.original.proofs.MachineRunMarkLemmas.{mark_is}

-- ---- one host's model changes

-- a number is another one, or the same
abbrev SameOrOther : ℕ → ℕ → Type 0
SameOrOther a b = ((nat_eq a b ≡ true) × (a ≡ b)) ⊎ ((nat_eq a b ≡ false) × (a ≡ b → ⊥))

same_or_other : (a b : ℕ) → SameOrOther a b
same_or_other a b = go (nat_eq a b) refl
  where
    not_both : nat_eq a b ≡ false → nat_eq a b ≡ true → ⊥
    not_both n y = cc

    go : (t : Bool) → nat_eq a b ≡ t → SameOrOther a b
    go true e = inl (e, nat_eq_same a b e)
    go false e = inr (e, λ same. not_both e (nat_eq_true a b same))

past_or_within : (ms : List HostModel) (f : ℕ) → (f < length ms) ⊎ (length ms ≤ f)
past_or_within [] f = inr (omega arith)
past_or_within (m ∷ ms) zero = inl (omega arith)
past_or_within (m ∷ ms) (suc f) = go (past_or_within ms f)
  where
    go : (f < length ms) ⊎ (length ms ≤ f) → (suc f < suc (length ms)) ⊎ (suc (length ms) ≤ suc f)
    go (inl lt) = inl (omega (arith, lt))
    go (inr le) = inr (omega (arith, le))

-- what stands for each number after a host's answer; past the list nothing changes, since what answers
-- there stays the same
put_is : (ms : List HostModel) (f : ℕ) (next : HostModel) → (length ms ≤ f → next ≡ no_model) → (g : ℕ) → put_host (λ k. get_or ms k no_model) f next g ≡ get_or (set ms f next) g no_model
put_is ms f next stays g = go (same_or_other g f) (past_or_within ms f)
  where
    go : SameOrOther g f → (f < length ms) ⊎ (length ms ≤ f) → put_host (λ k. get_or ms k no_model) f next g ≡ get_or (set ms f next) g no_model
    go (inl (t, e)) (inl lt) = ap (λ b. if b then next else get_or ms g no_model) t ∙ sym (ap (λ k. get_or (set ms f next) k no_model) e ∙ get_or-set_same ms f next no_model lt)
    go (inl (t, e)) (inr le) =
        ap (λ b. if b then next else get_or ms g no_model) t ∙ stays le
        ∙ sym (ap (λ xs. get_or xs g no_model) (set_past ms f next le) ∙ ap (λ k. get_or ms k no_model) e ∙ get_or_past ms f no_model le)
    go (inr (t, ne)) w = ap (λ b. if b then next else get_or ms g no_model) t ∙ sym (get_or-set_other ms f g next no_model ne)

-- what stands past the list answers 0 and stays
past_stays : (h : Heard) (f : ℕ) (numbers : List ℤ) → length h.models ≤ f → (host_step h.input (model_in h f) numbers).next ≡ no_model
past_stays h f numbers le = ap (λ m. (host_step h.input m numbers).next) (get_or_past h.models f no_model le)

put_told : (h : Heard) (f : ℕ) (answer : Answer) → (length h.models ≤ f → answer.next ≡ no_model) → put_host (model_in h) f answer.next ≡ (λ g. get_or (set h.models f answer.next) g no_model)
put_told h f answer stays = λ i g. put_is h.models f answer.next stays g i

pub heard_shows : (t : TypedTree) → Shows told_of (λ h. h.is_host) (marks_of t) (gate_of heard_way heard_answer) (bytes_gate (core_program t))
heard_shows t = record {
  way = λ f args h e. ap (λ b. if b then here else enters) (mark_is t f ∙ ap (λ marks. get_or marks f true) (sym e));
  noted = λ active f args h e. refl;
  answer = λ f numbers h e.
      let a : Answer = host_step h.input (model_in h f) numbers in
      ap (λ (hosts : r.Hosts). (a.result, record (told_of h) { hosts = hosts; bytes = h.bytes ++ written (out_event a.written) })) (put_told h f a (past_stays h f numbers));
  noted_stays = λ active f args h. refl;
  answer_stays = λ f numbers h. refl;
}

-- ---- where it begins

told_at : (hosts : Hosts) (n : ℕ) → ((f : ℕ) → n ≤ f → hosts.models f ≡ None) → (f : ℕ) → (f < length (map (models_of hosts.models) (range_with_len 0 n))) ⊎ (length (map (models_of hosts.models) (range_with_len 0 n)) ≤ f) →
    get_or (map (models_of hosts.models) (range_with_len 0 n)) f no_model ≡ models_of hosts.models f
told_at hosts n none f (inl lt) = get_or-map-range_with_len (models_of hosts.models) 0 n f f no_model (omega (arith, lt, length-map-range_with_len (models_of hosts.models) 0 n)) (omega arith)
told_at hosts n none f (inr le) =
    get_or_past (map (models_of hosts.models) (range_with_len 0 n)) f no_model le
    ∙ sym (ap model_or_none (none f (omega (arith, le, length-map-range_with_len (models_of hosts.models) 0 n))))

pub told_first : (hosts : Hosts) (marks : List Bool) → ((f : ℕ) → length marks ≤ f → hosts.models f ≡ None) → told_of (heard_of hosts [] marks) ≡ begun_written (models_of hosts.models) hosts.input
told_first hosts marks none =
    let all : List HostModel = map (models_of hosts.models) (range_with_len 0 (length marks)) in
    ap (λ (h : r.Hosts). record { hosts = h; input = hosts.input; bytes = [] }) (λ i f. told_at hosts (length marks) none f (past_or_within all f) i)

-- ---- a call

bytes_are : (o : Option (List ℕ)) → bytes_of o ≡ written (out_event o)
bytes_are None = refl
bytes_are (Some bytes) = sym (append-nil bytes)

-- the models by number, after one of them has changed
models_after : (ms ms' : r.Hosts) (n f : ℕ) (next : HostModel) → f < n → ms' ≡ put_host ms f next → map ms' (range_with_len 0 n) ≡ set (map ms (range_with_len 0 n)) f next
models_after ms ms' n f next lt is =
    let old : List HostModel = map ms (range_with_len 0 n) in
    let new : List HostModel = map ms' (range_with_len 0 n) in
    let long : length old ≡ n = length-map-range_with_len ms 0 n in
    let long' : length new ≡ n = length-map-range_with_len ms' 0 n in
    ext_get_or no_model new (set old f next) (long' ∙ sym (set_long old f next ∙ long)) (λ g below. at_each g (omega (arith, below, long')) (same_or_other g f))
  where
    set_long : (xs : List HostModel) (i : ℕ) (x : HostModel) → length (set xs i x) ≡ length xs
    set_long [] i x = refl
    set_long (y ∷ ys) zero x = refl
    set_long (y ∷ ys) (suc i) x = ap suc (set_long ys i x)

    here_again : (g : ℕ) → g < n → get_or (map ms' (range_with_len 0 n)) g no_model ≡ put_host ms f next g
    here_again g below = get_or-map-range_with_len ms' 0 n g g no_model below (omega arith) ∙ ap (λ (h : r.Hosts). h g) is

    at_each : (g : ℕ) → g < n → SameOrOther g f → get_or (map ms' (range_with_len 0 n)) g no_model ≡ get_or (set (map ms (range_with_len 0 n)) f next) g no_model
    at_each g below (inl (t, e)) =
        here_again g below
        ∙ ap (λ b. if b then next else ms g) t
        ∙ sym (ap (λ k. get_or (set (map ms (range_with_len 0 n)) f next) k no_model) e ∙ get_or-set_same (map ms (range_with_len 0 n)) f next no_model (omega (arith, lt, length-map-range_with_len ms 0 n)))
    at_each g below (inr (t, ne)) =
        here_again g below
        ∙ ap (λ b. if b then next else ms g) t
        ∙ sym (get_or-set_other (map ms (range_with_len 0 n)) f g next no_model ne ∙ get_or-map-range_with_len ms 0 n g g no_model below (omega arith))

-- a number past the program's functions was called
pub called_past : (hosts : Hosts) (bytes : List ℕ) (marks : List Bool) (f : ℕ) (numbers : List ℤ) → length marks ≤ f → heard_answer f numbers (heard_of hosts bytes marks) ≡ (Some (pos 0), heard_of hosts bytes marks)
called_past hosts bytes marks f numbers le =
    let old : List HostModel = map (models_of hosts.models) (range_with_len 0 (length marks)) in
    let past : length old ≤ f = omega (arith, le, length-map-range_with_len (models_of hosts.models) 0 (length marks)) in
    ap (λ k. heard f (host_step hosts.input k numbers) (heard_of hosts bytes marks)) (get_or_past old f no_model past)
    ∙ ap (λ (ms : List HostModel). (Some (pos 0), record (heard_of hosts bytes marks) { models = ms; bytes = bytes ++ [] })) (set_past old f no_model past)
    ∙ ap (λ (bs : List ℕ). (Some (pos 0), heard_of hosts bs marks)) (append-nil bytes)

-- what a call says of its answer
pub asked_is : (hosts hosts' : Hosts) (bytes bytes' : List ℕ) (marks : List Bool) (f : ℕ) (numbers : List ℤ) (o : Option ℤ) → f < length marks → o ≡ (answer_in hosts f numbers).result →
    bytes' ≡ bytes ++ bytes_of (answer_in hosts f numbers).written → AreAfter hosts f (answer_in hosts f numbers).next hosts' →
    heard_answer f numbers (heard_of hosts bytes marks) ≡ (o, heard_of hosts' bytes' marks)
asked_is hosts hosts' bytes bytes' marks f numbers o lt gave wrote' after =
    let old : List HostModel = map (models_of hosts.models) (range_with_len 0 (length marks)) in
    let new : List HostModel = map (models_of hosts'.models) (range_with_len 0 (length marks)) in
    let model : get_or old f no_model ≡ models_of hosts.models f = get_or-map-range_with_len (models_of hosts.models) 0 (length marks) f f no_model lt (omega arith) in
    let a : Answer = answer_in hosts f numbers in
    ap (λ k. heard f (host_step hosts.input k numbers) (heard_of hosts bytes marks)) model
    ∙ ap (λ (ms : List HostModel). (a.result, record (heard_of hosts bytes marks) { models = ms; bytes = bytes ++ written (out_event a.written) })) (sym (models_after (models_of hosts.models) (models_of hosts'.models) (length marks) f a.next lt after.models))
    ∙ ap (λ (i : List ℕ). (a.result, record (heard_of hosts bytes marks) { models = new; input = i; bytes = bytes ++ written (out_event a.written) })) (sym after.input)
    ∙ ap (λ (bs : List ℕ). (a.result, heard_of hosts' bs marks)) (ap (λ bs. bytes ++ bs) (sym (bytes_are a.written)) ∙ sym wrote')
    ∙ ap (λ (r' : Option ℤ). (r', heard_of hosts' bytes' marks)) (sym gave)
