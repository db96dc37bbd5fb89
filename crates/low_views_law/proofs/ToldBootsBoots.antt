-- The boots of two programs that are the same for the slave are the same.
use Rattle.std.proofs.Common.{◌≡◌, ◌∙◌, ℕ, refl, ap, sym, arith, Bool, true, false, not, List, [], ◌∷◌, map, if◌then◌else◌}
use Rattle.std.specs.Prelude.{◌+◌, ◌&&◌, ◌||◌, Contains, slice_get}
use Rattle.std.specs.List.{filter, list_any}
use Rattle.std.proofs.lemmas.Option.{slice_get-map}
use Rattle.pt_base.proofs.Booleans.{both_hold_first, both_hold_second, false_not_true}
use Rattle.pt_base.proofs.Members.{contains_first, contains_later}
use Rattle.pt_tree.specs.declared.host_model.HostModel.{HostModel}
use Rattle.pt_tree.specs.declared.signature.Signature.{Signature}
use Rattle.host_table.specs.RunHosts.{model_or_none, models_of}
use Rattle.runs.specs.State.{Hosts}
use Rattle.typed_tree.specs.TypedTree.{FunctionTree, TypedTree, signatures_of}
use Rattle.flow_rules.specs.declared.accepted.Accepted.{Accepted}
use Rattle.flow_rules.specs.Faults.{IsAccepted}
use Rattle.reach.proofs.ListLemmas.{from_filter, from_map}
use Rattle.lowering.specs.Functions.{functions_from, signatures_from}
use Rattle.lowered_code_law.specs.NamesLaws.{LoweredNames}
use Rattle.lowered_code_law.specs.LocalityLaws.{LoweringSeesOneBody}
use Rattle.splitter.specs.Halves.{Halves, asked, halves_of, is_among, is_slave_host, slave_hosts}
use Rattle.split_law.specs.Laws.{AcceptedShareNothing}
use Rattle.pt_core.specs.BootLaw.{boot_with}
use Rattle.pt_core.specs.CodeTree.{SlaveTree}
use Rattle.pair_meaning.specs.Start.{boot_of, input_for, models_for, reads_input}
use Rattle.lowered_code_law.specs.PlacesBareTrees.{bare_program}
use Rattle.lowered_code_law.specs.PlacesLaws.{PlacesAloneFollowPlaces}
use Rattle.low_views_law.specs.ToldBootsLaws.{BootsTellNothingPrivileged, BootsTellOnlyPlaces, BootsTellOwnHostsAlone}
use Rattle.low_views_law.specs.ToldBootsSameForSlave.{IsOwnHost}
use Rattle.low_views_law.proofs.ToldBootsAsked.{HasSlave, called_by_slave, signature_place}
use Rattle.low_views_law.proofs.ToldBootsHalves.{Same, half_same}
use Rattle.low_views_law.proofs.ToldBootsBareHalves.{bare_half, bare_lists, bare_sound, half_bare, half_in}
use Rattle.low_views_law.proofs.ToldBootsReached.{sound_of}

-- ---- the slave's own hosts

host_is_own : LoweredNames → (t : TypedTree) (h : Halves) → HasSlave t h → (n : ℕ) → Contains (slave_hosts (is_among (asked h (functions_from t 0 t.functions))) t) n → IsOwnHost t (record { 0 = n })
host_is_own names t h are n c =
    let called = is_among (asked h (functions_from t 0 t.functions)) in
    let test = λ (s : ℕ × Signature). is_slave_host (called s.0) s.1 in
    let x = from_map (λ (s : ℕ × Signature). s.0) (filter test (signatures_from 0 (signatures_of t))) n c in
    let chosen = from_filter test (signatures_from 0 (signatures_of t)) x.0 x.1 in
    let passes = both_hold_first (x.0.1.host && not x.0.1.privileged) (called x.0.0) chosen.1 in
    let call = called_by_slave names t h are n (ap called (sym x.2) ∙ both_hold_second (x.0.1.host && not x.0.1.privileged) (called x.0.0) chosen.1) in
    let at = signature_place 0 (signatures_of t) x.0 chosen.0 in
    record {
      caller = call.caller;
      signature = x.0.1;
      runs = call.runs;
      calls = call.calls;
      is = sym (slice_get-map (λ (f : FunctionTree). f.signature) t.functions n) ∙ ap (slice_get (signatures_of t)) (plain n x.0.0 at.0 x.2 at.1) ∙ at.2;
      host = both_hold_first x.0.1.host (not x.0.1.privileged) passes;
      plain = no x.0.1.privileged (both_hold_second x.0.1.host (not x.0.1.privileged) passes);
    }
  where
    plain : (n m j : ℕ) → m ≡ n → m ≡ 0 + j → n ≡ j
    plain n m j e f = omega (arith, e, f)

    no : (b : Bool) → not b ≡ true → b ≡ false
    no true h = false_not_true h
    no false h = refl

-- ---- models and input

same_at_each : {A B : Type 0} (f g : A → B) (xs : List A) → ((x : A) → Contains xs x → f x ≡ g x) → map f xs ≡ map g xs
same_at_each f g [] h = refl
same_at_each f g (x ∷ xs) h = λ i. h x (contains_first x xs) i ∷ same_at_each f g xs (λ y c. h y (contains_later x xs y c)) i

models_same : (models others : Hosts) (fns : List ℕ) → ((f : ℕ) → Contains fns f → models f ≡ others f) → models_for models fns ≡ models_for others fns
models_same models others fns h = same_at_each (λ (f : ℕ). (f, models f)) (λ (f : ℕ). (f, others f)) fns (λ f c. ap (λ (m : HostModel). (f, m)) (h f c))

-- a member that passes, where one does
any_of : {A : Type 0} (test : A → Bool) (xs : List A) → list_any test xs ≡ true → (x : A) × Contains xs x × (test x ≡ true)
any_of test [] h = false_not_true h
any_of {A} test (x ∷ xs) h = go (test x) refl (λ i. any_of test xs i) h
  where
    go : (b : Bool) → test x ≡ b → (list_any test xs ≡ true → (y : A) × Contains xs y × (test y ≡ true)) → (b || list_any test xs) ≡ true → (y : A) × Contains (x ∷ xs) y × (test y ≡ true)
    go true e rest i = (x, contains_first x xs, e)
    go false e rest i = let r = rest i in (r.0, contains_later x xs r.0 r.1, r.2)

input_same : (models : Hosts) (fns input other : List ℕ) → ((f : ℕ) → Contains fns f → reads_input (models f) ≡ true → input ≡ other) → input_for (models_for models fns) input ≡ input_for (models_for models fns) other
input_same models fns input other h = go (list_any (λ (x : ℕ × HostModel). reads_input x.1) (models_for models fns)) refl
  where
    go : (b : Bool) → list_any (λ (x : ℕ × HostModel). reads_input x.1) (models_for models fns) ≡ b → (if b then input else []) ≡ (if b then other else [])
    go false e = refl
    go true e =
        let x = any_of (λ (x : ℕ × HostModel). reads_input x.1) (models_for models fns) e in
        let f = from_map (λ (f : ℕ). (f, models f)) fns x.0 x.1 in
        h f.0 f.1 (ap (λ (y : ℕ × HostModel). reads_input y.1) f.2 ∙ x.2)

-- ---- boots

-- halves, models and inputs that are the same give the same boot
boots_joined : (p q : SlaveTree) (models others : Hosts) (input other : List ℕ) (budget : ℕ) → p ≡ q → ((f : ℕ) → Contains p.hosts f → models f ≡ others f) → ((f : ℕ) → Contains p.hosts f → reads_input (models f) ≡ true → input ≡ other) →
    boot_of p models input budget ≡ boot_of q others other budget
boots_joined p q models others input other budget half same reads =
    let stand = models_same models others p.hosts same in
    (λ i. boot_with p (models_for models p.hosts) (input_same models p.hosts input other reads i) budget)
    ∙ (λ i. boot_with p (stand i) (input_for (stand i) other) budget)
    ∙ (λ i. boot_of (half i) others other budget)

-- what the slave has of an accepted program
slave_lists : AcceptedShareNothing → (t : TypedTree) (a : Accepted) → IsAccepted t a → HasSlave t (halves_of a.sides)
slave_lists shares t a accepted = let lists = (shares t a accepted).0 in record { slave = lists.slave; owned = lists.owned }

pub boots_hosted : LoweredNames → AcceptedShareNothing → BootsTellOwnHostsAlone
boots_hosted names shares t a hosts others input other budget accepted outside =
    let h = halves_of a.sides in
    let own = host_is_own names t h (slave_lists shares t a accepted) in
    boots_joined (half_in t h) (half_in t h) (models_of hosts.models) (models_of others.models) input other budget refl
    (λ f c. ap model_or_none (outside.models (record { 0 = f }) (own f c))) (λ f c reads. outside.inputs (record { 0 = f }) (own f c) reads)

pub boots_same : LoweringSeesOneBody → LoweredNames → AcceptedShareNothing → BootsTellNothingPrivileged
boots_same sees names shares t u a b hosts others input other budget well sound accepted too same outside =
    let h = halves_of a.sides in
    let k = halves_of b.sides in
    let s : Same t u h k = record { sound_here = sound_of t well; sound_there = sound_of u sound; halves_here = slave_lists shares t a accepted; halves_there = slave_lists shares u b too; parts = same } in
    let own = host_is_own names t h s.halves_here in
    boots_joined (half_in t h) (half_in u k) (models_of hosts.models) (models_of others.models) input other budget (half_same sees names t u h k s)
    (λ f c. ap model_or_none (outside.models (record { 0 = f }) (own f c))) (λ f c reads. outside.inputs (record { 0 = f }) (own f c) reads)

pub boots_placed : LoweringSeesOneBody → LoweredNames → AcceptedShareNothing → PlacesAloneFollowPlaces → BootsTellOnlyPlaces
boots_placed sees names shares places t u a b hosts others input other budget well sound accepted too same outside =
    let h = halves_of a.sides in
    let k = halves_of b.sides in
    let s : Same (bare_program t) (bare_program u) h k = record {
      sound_here = bare_sound t (sound_of t well);
      sound_there = bare_sound u (sound_of u sound);
      halves_here = bare_lists t h (slave_lists shares t a accepted);
      halves_there = bare_lists u k (slave_lists shares u b too);
      parts = same;
    } in
    let half = half_bare places t h ∙ half_same sees names (bare_program t) (bare_program u) h k s ∙ sym (half_bare places u k) in
    let own = host_is_own names t h (slave_lists shares t a accepted) in
    boots_joined (bare_half (half_in t h)) (bare_half (half_in u k)) (models_of hosts.models) (models_of others.models) input other budget half
    (λ f c. ap model_or_none (outside.models (record { 0 = f }) (own f c))) (λ f c reads. outside.inputs (record { 0 = f }) (own f c) reads)
