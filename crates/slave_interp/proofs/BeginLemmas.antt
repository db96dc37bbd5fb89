-- The slave of a well-formed boot, as code begins it.
use Rattle.std.proofs.Common.{◌≡◌, ◌∙◌, ◌+◌, ◌<◌, ◌≤◌, ◌^◌, ℕ, zero, suc, nat_eq, refl, sym, ap, subst, arith, nat_cmp, List, [], ◌∷◌, drop, get_or, map, length, Bool, true, false, Option, Some, None}
use Rattle.std.specs.Prelude.{IsTrue, All, ◌&&◌, codes, if◌then◌else◌, option_map, unwrap_or}
use Rattle.std.specs.List.{IsDistinct, find, list_all}
use Rattle.std.specs.Str.{bytes_eq}
use Rattle.std.specs.List.Sorted.{IsStrictlySortedBy}
use Rattle.std.specs.Map.{keys_of, lookup}
use Rattle.pt_base.specs.declared.ids.FnId.{FnId}
use Rattle.pt_base.proofs.Booleans.{both_hold_first, both_hold_second, false_not_true}
use Rattle.pt_base.proofs.Numbers.{nat_eq_same}
use Rattle.pt_tree.specs.declared.host_model.HostModel.{HostModel}
use Rattle.pt_tree.specs.declared.signature.Signature.{Signature}
use Rattle.typed_tree.specs.WellFormed.{are_rising}
use Rattle.host_models.specs.Fitting.{fits}
use Rattle.host_table.specs.Hosts.{Hosts, models_by}
use Rattle.host_table.specs.RunHosts.{models_of}
use Rattle.host_table.proofs.ModelLemmas.{distinct_from_sorted}
use Rattle.pt_core.specs.CodeTree.{BootTree, FunctionTree, GlobalTree, ProgramTree, numbered}
use Rattle.pt_core.specs.WellFormed.{boot_program, callees, has_main, host_by, host_fits, hosts_fit, is_answered, is_sound, is_well_formed, is_well_formed_boot, signature_at}
use Rattle.pt_core.proofs.WellFormedLemmas.{facts_of}
use Rattle.core_steps_law.specs.WholeRun.{begun_machine}
use Rattle.core_machine.specs.Machines.{Shown}
use Rattle.core_machine.specs.Sound as machine
use Rattle.core_machine.proofs.RiseLemmas.{sorted_from_rise}
use Rattle.core_machine.proofs.SoundLemmas.{rise_from}
use Rattle.pair_meaning.specs.SlaveRun.{slave_of}
use Rattle.slave_soundness_law.proofs.Beginning.{slaves_begin_sound, boot_parts}
use Rattle.slave_interp.specs.declared.doing.Doing.TheVariants.{Goes}
use Rattle.slave_interp.specs.declared.engine.Engine.{Engine}
use Rattle.slave_interp.specs.Beginning.{main_among}
use Rattle.slave_interp.specs.Engines.{IsAt}
use Rattle.slave_interp.specs.Hearing.{Hearing}
use Rattle.slave_interp.specs.Hearings.{hearing_of, model_in}
use Rattle.slave_interp.proofs.HearingLemmas.{begun_hosts}

-- ---- what a boot's form says

program_parts : (p : ProgramTree) → IsTrue (is_well_formed p) → IsTrue (is_sound false p)
unfolding is_well_formed
program_parts p h = both_hold_first (is_sound false p) (has_main p) h

pub boot_sound : (b : BootTree) → IsTrue (is_well_formed_boot fits b) → IsTrue (is_sound false (boot_program b))
boot_sound b h = program_parts (boot_program b) (boot_parts b h).0

abbrev answered : BootTree → Bool
answered b = list_all (is_answered (boot_program b) (map (λ h. h.0) b.hosts)) (callees (boot_program b))

abbrev modelled : BootTree → Bool
modelled b = list_all (host_fits fits (boot_program b)) b.hosts

abbrev ordered : BootTree → Bool
ordered b = are_rising 0 (map (λ h. h.0) b.hosts)

pub hosts_rise : (b : BootTree) → IsTrue (is_well_formed_boot fits b) → IsTrue (are_rising 0 (map (λ h. h.0) b.hosts))
hosts_rise b h = both_hold_first (ordered b) (modelled b) (both_hold_first (ordered b && modelled b) (answered b) (boot_parts b h).1)

hosts_are_modelled : (b : BootTree) → IsTrue (is_well_formed_boot fits b) → IsTrue (list_all (host_fits fits (boot_program b)) b.hosts)
hosts_are_modelled b h = both_hold_second (ordered b) (modelled b) (both_hold_first (ordered b && modelled b) (answered b) (boot_parts b h).1)

pub signatures_rise : (p : ProgramTree) → IsTrue (is_sound false p) → IsTrue (are_rising 0 (map (λ x. x.0) p.signatures))
signatures_rise p h =
    both_hold_first (are_rising 0 (map (λ (x : ℕ × Signature). x.0) p.signatures)) (are_rising 0 (map (λ (f : FunctionTree). f.id) p.functions) && are_rising 0 (map (λ (g : GlobalTree). g.id) p.globals))
    (facts_of false p h).order

pub machine_sound : (p : ProgramTree) → IsTrue (is_sound false p) → machine.IsSound p
machine_sound p h = (false, h)

-- ---- hosts by number

keys_are : (hosts : List (ℕ × HostModel)) → map (λ (h : ℕ × HostModel). h.0) hosts ≡ keys_of hosts
keys_are [] = refl
keys_are (h ∷ hosts) = ap (λ ks. h.0 ∷ ks) (keys_are hosts)

-- no number stands twice
pub models_differ : (hosts : List (ℕ × HostModel)) → IsTrue (are_rising 0 (map (λ h. h.0) hosts)) → IsDistinct nat_eq (keys_of hosts)
models_differ hosts h = distinct_from_sorted hosts (subst (λ ks. IsStrictlySortedBy nat_cmp ks) (keys_are hosts) (sorted_from_rise 0 (map (λ (x : ℕ × HostModel). x.0) hosts) (rise_from 0 (map (λ (x : ℕ × HostModel). x.0) hosts) h)))

-- what has a model has a signature
no_model_without : (p : ProgramTree) (hosts : List (ℕ × HostModel)) → IsTrue (list_all (host_fits fits p) hosts) → (f : ℕ) → signature_at p f ≡ None → lookup (nat_eq f) hosts ≡ None
no_model_without p [] all f none = refl
no_model_without p (h ∷ hosts) all f none = go (nat_eq f h.0) refl (no_model_without p hosts (both_hold_second (host_fits fits p h) (list_all (host_fits fits p) hosts) all) f none)
  where
    unsigned : (o : Option Signature) → o ≡ None → IsTrue (host_by fits h.1 o) → ⊥
    unsigned None e k = false_not_true k
    unsigned (Some s) e k = clash e
      where
        clash : Some s ≡ None → ⊥
        clash e = cc

    go : (b : Bool) → nat_eq f h.0 ≡ b → lookup (nat_eq f) hosts ≡ None → (if b then Some h.1 else lookup (nat_eq f) hosts) ≡ None
    go true e more = absurd (unsigned (signature_at p h.0) (ap (λ n. signature_at p n) (sym (nat_eq_same f h.0 e)) ∙ none) (both_hold_first (host_fits fits p h) (list_all (host_fits fits p) hosts) all))
    go false e more = more

-- ---- the beginning

hosts_begin : (b : BootTree) → IsTrue (is_well_formed_boot fits b) → (hosts : Hosts) (signatures : List (FnId × Signature)) → hosts.models ≡ models_by b.hosts → numbered signatures ≡ b.signatures →
    models_of (models_by b.hosts) ≡ model_in (hearing_of hosts signatures None)
hosts_begin b h hosts signatures models same =
    ap (λ (k : ℕ → Option HostModel). models_of k) (sym models)
    ∙ begun_hosts hosts.models (numbered signatures) (λ f none.
    ap (λ (k : ℕ → Option HostModel). k f) models ∙ no_model_without (boot_program b) b.hosts (hosts_are_modelled b h) f (ap (lookup (nat_eq f)) (sym same) ∙ none))

pub begun_at : (b : BootTree) (e : Engine) (hosts : Hosts) (signatures : List (FnId × Signature)) → IsTrue (is_well_formed_boot fits b) → All (λ x. x < 256) b.input → b.turns < 2 ^ 32 →
    Shown (boot_program b) e.machine (begun_machine (boot_program b) b.turns) → e.structs ≡ b.structs → numbered signatures ≡ b.signatures → hosts.models ≡ models_by b.hosts → hosts.input ≡ b.input →
    e.gate ≡ hearing_of hosts signatures None → e.names ≡ 0 → e.calls ≡ 0 → e.budget ≡ b.turns → IsAt e Goes (slave_of b)
begun_at b e hosts signatures h bytes turns shown structs same models input gate names calls budget = record {
  runs = record {
    shown = shown;
    structs_are = structs;
    signatures_are = ap (λ (k : Hearing). k.signatures) gate ∙ same;
    hosts_are = hosts_begin b h hosts signatures models same ∙ ap (λ (k : Hearing). model_in k) (sym gate);
    input_is = sym (ap (λ (k : Hearing). k.input) gate ∙ input);
    given_are = names;
    calls_are = calls;
    budget_is = budget;
  };
  doing = refl;
  sound = slaves_begin_sound b h bytes turns;
}

-- ---- its hosts

abbrev table : List (ℕ × HostModel) → List ℕ → Hosts
table models input = record { models = models_by models; input = input }

pub hosts_with : (h next : Hosts) (models all : List (ℕ × HostModel)) (input : List ℕ) → h ≡ record { models = models_by models; input = [] } → models ≡ all → next ≡ record h { input = input } → next ≡ record { models = models_by all; input = input }
hosts_with h next models all input made same given =
    given ∙ ap (λ (k : Hosts). record k { input = input }) made
    ∙ ap (λ (k : List (ℕ × HostModel)). table k input) same

-- ---- main

abbrev Signatures : Type 0
Signatures = List (FnId × Signature)

abbrev is_named : FnId × Signature → Bool
is_named x = bytes_eq x.1.name (codes "main")

named_first : (x : FnId × Signature) (xs : Signatures) → is_named x ≡ true → x.0.0 ≡ main_among (numbered (x ∷ xs))
named_first x xs t = go (is_named x) t
  where
    clash : false ≡ true → ⊥
    clash e = cc

    go : (b : Bool) → b ≡ true → x.0.0 ≡ unwrap_or (option_map (λ (s : ℕ × Signature). s.0) (if b then Some (x.0.0, x.1) else find (λ (s : ℕ × Signature). bytes_eq s.1.name (codes "main")) (numbered xs))) 0
    go true e = refl
    go false e = absurd (clash e)

named_later : (x : FnId × Signature) (xs : Signatures) → is_named x ≡ false → main_among (numbered xs) ≡ main_among (numbered (x ∷ xs))
named_later x xs t = go (is_named x) t
  where
    clash : true ≡ false → ⊥
    clash e = cc

    go : (b : Bool) → b ≡ false → main_among (numbered xs) ≡ unwrap_or (option_map (λ (s : ℕ × Signature). s.0) (if b then Some (x.0.0, x.1) else find (λ (s : ℕ × Signature). bytes_eq s.1.name (codes "main")) (numbered xs))) 0
    go true e = absurd (clash e)
    go false e = refl

pub main_here : (xs : Signatures) (i : ℕ) (x : FnId × Signature) → i < length xs → x ≡ get_or xs i x → is_named x ≡ true → x.0.0 ≡ main_among (numbered (drop i xs))
main_here [] i x within is t = absurd (omega (arith, within))
main_here (y ∷ ys) zero x within is t = subst (λ (z : FnId × Signature). x.0.0 ≡ main_among (numbered (z ∷ ys))) is (named_first x ys t)
main_here (y ∷ ys) (suc i) x within is t = main_here ys i x (omega (arith, within)) is t

main_behind : (xs : Signatures) (i : ℕ) (x : FnId × Signature) → i < length xs → x ≡ get_or xs i x → is_named x ≡ false → main_among (numbered (drop (suc i) xs)) ≡ main_among (numbered (drop i xs))
main_behind [] i x within is t = absurd (omega (arith, within))
main_behind (y ∷ ys) zero x within is t = subst (λ (z : FnId × Signature). main_among (numbered ys) ≡ main_among (numbered (z ∷ ys))) is (named_later x ys t)
main_behind (y ∷ ys) (suc i) x within is t = main_behind ys i x (omega (arith, within)) is t

pub main_next : (xs : Signatures) (i : ℕ) (x : FnId × Signature) → i < length xs → x ≡ get_or xs i x → is_named x ≡ false → main_among (numbered (drop (i + 1) xs)) ≡ main_among (numbered (drop i xs))
main_next xs i x within is t = let one : i + 1 ≡ suc i = omega arith in ap (λ n. main_among (numbered (drop n xs))) one ∙ main_behind xs i x within is t

pub main_past : (xs : Signatures) (i : ℕ) → length xs ≤ i → 0 ≡ main_among (numbered (drop i xs))
main_past [] zero past = refl
main_past [] (suc i) past = refl
main_past (y ∷ ys) zero past = absurd (omega (arith, past))
main_past (y ∷ ys) (suc i) past = main_past ys i (omega (arith, past))
