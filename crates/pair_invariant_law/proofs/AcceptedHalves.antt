-- The halves of an accepted program are halves of it.
use Rattle.std.proofs.Common.{◌≡◌, ◌∙◌, ℕ, refl, ap, sym, subst, ◌⊎◌, inl, inr, Bool, true, false, not, Option, Some, List, ◌++◌, length, take}
use Rattle.std.specs.Prelude.{IsTrue, ◌&&◌, ◌||◌, is_some, slice_get, unwrap_or}
use Rattle.std.specs.List.{Contains}
use Rattle.std.proofs.lemmas.List.Elements.{Contains-append_cases, Contains-append_left, Contains-append_right}
use Rattle.pt_base.proofs.Booleans.{both_hold, both_hold_first, false_not_true, or_without_and}
use Rattle.pt_base.proofs.Options.{some_same}
use Rattle.pt_base.proofs.Places.{take_whole}
use Rattle.pt_tree.specs.declared.signature.Signature.{Signature}
use Rattle.host_models.specs.Mixed.{is_mixed}
use Rattle.typed_tree.specs.StatementTree.{BodyTree}
use Rattle.typed_tree.specs.TypedTree.{TypedTree, FunctionTree}
use Rattle.typed_tree.specs.WellFormed.{is_well_formed}
use Rattle.typed_tree.proofs.WellFormedLemmas.{Facts, facts_of}
use Rattle.reach.specs.Contexts.{Calls}
use Rattle.flow_rules.specs.declared.accepted.Accepted.{Accepted}
use Rattle.flow_rules.specs.Faults.{IsAccepted}
use Rattle.pt_core.specs.declared.monitor.Entry.{Entry}
use Rattle.pt_core.specs.CodeTree as core
use Rattle.pt_core.specs.CodeTree.{ProgramTree}
use Rattle.pt_core.specs.Calls.{no_function, no_signature, signature_in}
use Rattle.pt_core.specs.CoreRun.{main_in}
use Rattle.pt_core.specs.WellFormedStatement.{callees_of}
use Rattle.pt_core.specs.WellFormed as well
use Rattle.pt_core.specs.WellFormed.{entries_fit, function_at, has_main, is_sound, monitor_program, signature_at, slave_program}
use Rattle.lowering.specs.Functions.{core_of, core_program}
use Rattle.lowered_code_law.specs.NamesLaws.{LoweredNames}
use Rattle.splitter.specs.Halves.{Halves, asked, called_by, entry_numbers, halves_of, is_among, monitor_code, monitor_entries}
use Rattle.splitter.proofs.SetLemmas.{among_from, among_has}
use Rattle.split_law.specs.Laws.{AcceptedShareNothing, AreHalves, MonitorsAreWellFormed, SharesNothing, SlavesAreWellFormed}
use Rattle.split_law.proofs.LoweredCode.{body_there, sound_at}
use Rattle.split_law.proofs.Monitors as monitors_of
use Rattle.split_law.proofs.Parts.{part, same_signature}
use Rattle.split_law.proofs.Slaves as slaves_of
use Rattle.core_soundness_law.specs.Outside.{own_params}
use Rattle.part_views_law.specs.StepsParts.{HasSignature}
use Rattle.pair_invariant_law.specs.Halves.{AreHalvesOf, is_asked_for}
use Rattle.pair_invariant_law.specs.AcceptedLaws.{AcceptedHalves, monitor_half, slave_half}
use Rattle.pair_invariant_law.proofs.AcceptedEntries.{called_from, code, entry_from, entry_has, is_asked}
use Rattle.pair_invariant_law.proofs.AcceptedMembers.{each_at, said_of, some_is}
use Rattle.pair_invariant_law.proofs.AcceptedParted.{IsNamed, called_there, function_kept, is_part, is_signed, named_in, share_none, signature_same}
use Rattle.pair_invariant_law.proofs.AcceptedRules.{IsMain, body_no_host, code_calls, main_in_slave, main_number, main_of, monitor_has_body, monitor_hosts, part_main, privileged_monitor, slave_is_plain, start_has_body}

-- ---- what is known

abbrev pub halves : Accepted → Halves
halves a = halves_of a.sides

abbrev pub kept_slave : Accepted → ℕ → Bool
kept_slave a = is_among (halves a).slave

abbrev pub kept_monitor : Accepted → ℕ → Bool
kept_monitor a = is_among (halves a).monitor

abbrev pub signed_slave : TypedTree → Accepted → ℕ → Bool
signed_slave t a = slaves_of.signed t (halves a)

abbrev pub signed_monitor : TypedTree → Accepted → ℕ → Bool
signed_monitor t a = monitors_of.signed t (halves a)

abbrev pub owned : Accepted → ℕ → Bool
owned a = is_among (halves a).owned

abbrev pub the_slave : TypedTree → Accepted → ProgramTree
the_slave t a = part (signed_slave t a) (kept_slave a) (owned a) (core_program t)

abbrev pub the_monitor : TypedTree → Accepted → ProgramTree
the_monitor t a = part (signed_monitor t a) (kept_monitor a) (λ n. not (owned a n)) (core_program t)

pub record IsKnown (t : TypedTree) (a : Accepted) : Type 0 where
  pub given : IsTrue (is_well_formed t)
  pub facts : Facts t
  pub accepted : IsAccepted t a
  pub are : AreHalves t (halves a)
  pub names : LoweredNames
  pub main : IsMain t
  pub slave_sound : IsTrue (is_sound false (the_slave t a))
  pub monitor_sound : IsTrue (is_sound true (the_monitor t a))

slave_is_sound : SlavesAreWellFormed → (t : TypedTree) (a : Accepted) → IsTrue (is_well_formed t) → AreHalves t (halves a) → IsTrue (is_sound false (the_slave t a))
unfolding well.is_well_formed_slave well.is_well_formed
slave_is_sound slaves t a given are = both_hold_first (is_sound false (the_slave t a)) (has_main (the_slave t a)) (slaves t (halves a) given are)

monitor_is_sound : MonitorsAreWellFormed → (t : TypedTree) (a : Accepted) → IsTrue (is_well_formed t) → AreHalves t (halves a) → SharesNothing t → IsTrue (is_sound true (the_monitor t a))
unfolding well.is_well_formed_monitor
monitor_is_sound monitors t a given are apart =
    both_hold_first (is_sound true (the_monitor t a)) (entries_fit (the_monitor t a) (monitor_entries t (halves a) (code t))) (monitors t (halves a) given are apart)

pub known_of : AcceptedShareNothing → SlavesAreWellFormed → MonitorsAreWellFormed → LoweredNames → (t : TypedTree) (a : Accepted) → IsTrue (is_well_formed t) → IsAccepted t a → IsKnown t a
known_of shares slaves monitors names t a given accepted =
    let apart = shares t a accepted in
    record {
      given = given;
      facts = facts_of t given;
      accepted = accepted;
      are = apart.0;
      names = names;
      main = main_of t given;
      slave_sound = slave_is_sound slaves t a given apart.0;
      monitor_sound = monitor_is_sound monitors t a given apart.0 apart.1;
    }

-- ---- where numbers stand

-- what the slave has a signature for its code calls, or it is one of its functions
slave_cases : (t : TypedTree) (a : Accepted) (f : ℕ) → signed_slave t a f ≡ true → Contains (asked (halves a) (code t)) f ⊎ Contains (halves a).slave f
slave_cases t a f has = Contains-append_cases (asked (halves a) (code t)) (halves a).slave f (among_from (asked (halves a) (code t) ++ (halves a).slave) f has)

-- what the monitor has one for its code calls, or it is one of its functions, or an entry
data Where (t : TypedTree) (a : Accepted) (f : ℕ) : Type 0 where
  is_called : Contains (called_by (monitor_code (halves a) (code t))) f → Where t a f
  is_kept : Contains (halves a).monitor f → Where t a f
  is_entered : Contains (entry_numbers (monitor_entries t (halves a) (code t))) f → Where t a f

monitor_cases : (t : TypedTree) (a : Accepted) (f : ℕ) → signed_monitor t a f ≡ true → Where t a f
monitor_cases t a f has = go (Contains-append_cases (called ++ (halves a).monitor) entered f (among_from ((called ++ (halves a).monitor) ++ entered) f has))
  where
    called : List ℕ
    called = called_by (monitor_code (halves a) (code t))

    entered : List ℕ
    entered = entry_numbers (monitor_entries t (halves a) (code t))

    first : Contains called f ⊎ Contains (halves a).monitor f → Where t a f
    first (inl c) = is_called c
    first (inr c) = is_kept c

    go : Contains (called ++ (halves a).monitor) f ⊎ Contains entered f → Where t a f
    go (inl c) = first (Contains-append_cases called (halves a).monitor f c)
    go (inr c) = is_entered c

entry_is_signed : (t : TypedTree) (a : Accepted) (f : ℕ) → Contains (entry_numbers (monitor_entries t (halves a) (code t))) f → signed_monitor t a f ≡ true
entry_is_signed t a f there =
    among_has (monitors_of.needed t (halves a)) f (Contains-append_right (called_by (monitor_code (halves a) (code t)) ++ (halves a).monitor) (entry_numbers (monitor_entries t (halves a) (code t))) f there)

pub slave_keeps_own : (t : TypedTree) (a : Accepted) (f : ℕ) → kept_slave a f ≡ true → signed_slave t a f ≡ true
slave_keeps_own t a f here =
    among_has (asked (halves a) (code t) ++ (halves a).slave) f (Contains-append_right (asked (halves a) (code t)) (halves a).slave f (among_from (halves a).slave f here))

monitor_keeps_own : (t : TypedTree) (a : Accepted) (f : ℕ) → kept_monitor a f ≡ true → signed_monitor t a f ≡ true
monitor_keeps_own t a f here =
    among_has (monitors_of.needed t (halves a)) f
    (Contains-append_left (called_by (monitor_code (halves a) (code t)) ++ (halves a).monitor) (entry_numbers (monitor_entries t (halves a) (code t))) f
    (Contains-append_right (called_by (monitor_code (halves a) (code t))) (halves a).monitor f (among_from (halves a).monitor f here)))

-- ---- the slave

pub slave_named : (t : TypedTree) (a : Accepted) (f : ℕ) → HasSignature (the_slave t a) f → IsNamed t (the_slave t a) f
slave_named t a f has = named_in t (signed_slave t a) (kept_slave a) (owned a) f has

slave_signature : (t : TypedTree) (a : Accepted) (f : ℕ) → HasSignature (the_slave t a) f → signature_in (core_program t) f ≡ signature_in (the_slave t a) f
slave_signature t a f has = signature_same (core_program t) (signed_slave t a) (kept_slave a) (owned a) f (is_signed (core_program t) (signed_slave t a) (kept_slave a) (owned a) f has)

-- a function of either half is among its functions
slave_has : (t : TypedTree) (a : Accepted) (f : ℕ) (x : FunctionTree) (b : BodyTree) → Contains (halves a).slave f → slice_get t.functions f ≡ Some x → x.body ≡ Some b → function_at (the_slave t a) f ≡ Some (core_of t f x b)
slave_has t a f x b here is body = function_kept t (signed_slave t a) (kept_slave a) (owned a) f x b (among_has (halves a).slave f here) is body

monitor_has : (t : TypedTree) (a : Accepted) (f : ℕ) (x : FunctionTree) (b : BodyTree) → Contains (halves a).monitor f → slice_get t.functions f ≡ Some x → x.body ≡ Some b → function_at (the_monitor t a) f ≡ Some (core_of t f x b)
monitor_has t a f x b here is body = function_kept t (signed_monitor t a) (kept_monitor a) (λ n. not (owned a n)) f x b (among_has (halves a).monitor f here) is body

slave_own : (t : TypedTree) (a : Accepted) → IsKnown t a → (f : ℕ) → HasSignature (the_slave t a) f → (signature_in (the_slave t a) f).host ≡ false → (signature_in (the_slave t a) f).privileged ≡ false → IsTrue (is_some (function_at (the_slave t a) f))
slave_own t a known f has host plain = go (slave_cases t a f (is_signed (core_program t) (signed_slave t a) (kept_slave a) (owned a) f has))
  where
    x : IsNamed t (the_slave t a) f
    x = slave_named t a f has

    go : Contains (asked (halves a) (code t)) f ⊎ Contains (halves a).slave f → IsTrue (is_some (function_at (the_slave t a) f))
    go (inl c) = called_there false (the_slave t a) f known.slave_sound c host (ap (λ (b : Bool). b && true) plain)
    go (inr c) =
        let body = body_there t x.function (sound_at t t.functions f x.function known.facts.functions x.is) (ap (λ (s : Signature). s.host) (sym x.same) ∙ host) in
        ap is_some (slave_has t a f x.function body.0 c x.is body.1)

-- What the slave has a signature for and is privileged or a host its code calls: its functions are neither.
pub asked_there : (t : TypedTree) (a : Accepted) → IsKnown t a → (f : ℕ) → HasSignature (the_slave t a) f → ((signature_in (the_slave t a) f).privileged || (signature_in (the_slave t a) f).host) ≡ true → Contains (asked (halves a) (code t)) f
asked_there t a known f has outer = go (slave_cases t a f (is_signed (core_program t) (signed_slave t a) (kept_slave a) (owned a) f has))
  where
    x : IsNamed t (the_slave t a) f
    x = slave_named t a f has

    neither : (priv host : Bool) → priv ≡ false → host ≡ false → (priv || host) ≡ false
    neither false host p h = h
    neither true host p h = false_not_true (sym p)

    go : Contains (asked (halves a) (code t)) f ⊎ Contains (halves a).slave f → Contains (asked (halves a) (code t)) f
    go (inl c) = c
    go (inr c) =
        let y = slave_is_plain t a known.given known.accepted (record { 0 = f }) ((known.are.slave f).0 c) in
        let same : y.0.signature ≡ signature_in (the_slave t a) f = ap (λ (z : FunctionTree). z.signature) (some_same y.0 x.function (sym y.1 ∙ x.is)) ∙ sym x.same in
        false_not_true (sym (neither y.0.signature.privileged y.0.signature.host y.3 (body_no_host t f y.0 known.facts.functions y.1 y.2)) ∙ ap (λ (s : Signature). s.privileged || s.host) same ∙ outer)

-- what may be asked for is such
outer_of : (priv host mixed : Bool) → (priv || (host && mixed)) ≡ true → (priv || host) ≡ true
outer_of true host mixed h = refl
outer_of false true mixed h = refl
outer_of false false mixed h = false_not_true h

-- so it is an entry
entry_there : (t : TypedTree) (a : Accepted) → IsKnown t a → (f : ℕ) → HasSignature (the_slave t a) f → is_asked_for (signature_in (the_slave t a) f) ≡ true → Contains (entry_numbers (monitor_entries t (halves a) (code t))) f
entry_there t a known f has wanted =
    let x = slave_named t a f has in
    entry_has t (halves a) f x.function x.is (both_hold (is_asked_for x.function.signature) (is_asked t (halves a) f) (ap is_asked_for (sym x.same) ∙ wanted) (among_has (asked (halves a) (code t)) f (asked_there t a known f has (outer_of (signature_in (the_slave t a) f).privileged (signature_in (the_slave t a) f).host (is_mixed (signature_in (the_slave t a) f)) wanted))))

-- ---- the monitor

-- both halves have the same signature of what may be asked for
both_signed : (t : TypedTree) (a : Accepted) → IsKnown t a → (f : ℕ) → HasSignature (the_slave t a) f → is_asked_for (signature_in (the_slave t a) f) ≡ true → signature_at (the_monitor t a) f ≡ signature_at (the_slave t a) f
both_signed t a known f has wanted =
    same_signature (core_program t) (signed_monitor t a) (kept_monitor a) (λ n. not (owned a n)) f (entry_is_signed t a f (entry_there t a known f has wanted))
    ∙ sym (same_signature (core_program t) (signed_slave t a) (kept_slave a) (owned a) f (is_signed (core_program t) (signed_slave t a) (kept_slave a) (owned a) f has))

same_in_both : (t : TypedTree) (a : Accepted) → IsKnown t a → (f : ℕ) → HasSignature (the_slave t a) f → is_asked_for (signature_in (the_slave t a) f) ≡ true → signature_in (the_monitor t a) f ≡ signature_in (the_slave t a) f
same_in_both t a known f has wanted = ap (λ (o : Option Signature). unwrap_or o no_signature) (both_signed t a known f has wanted)

-- a privileged function is the monitor's
privileged_here : (t : TypedTree) (a : Accepted) → IsKnown t a → (f : ℕ) (x : FunctionTree) → slice_get t.functions f ≡ Some x → x.signature.host ≡ false → x.signature.privileged ≡ true → (b : BodyTree) × (function_at (the_monitor t a) f ≡ Some (core_of t f x b))
privileged_here t a known f x is host priv =
    let body = body_there t x (sound_at t t.functions f x known.facts.functions is) host in
    (body.0, monitor_has t a f x body.0 ((known.are.monitor f).1 (privileged_monitor t f x is (ap is_some body.1) priv)) is body.1)

monitor_own : (t : TypedTree) (a : Accepted) → IsKnown t a → (f : ℕ) → HasSignature (the_monitor t a) f → (signature_in (the_monitor t a) f).host ≡ false → IsTrue (is_some (function_at (the_monitor t a) f))
monitor_own t a known f has host = go (monitor_cases t a f (is_signed (core_program t) (signed_monitor t a) (kept_monitor a) (λ n. not (owned a n)) f has))
  where
    x : IsNamed t (the_monitor t a) f
    x = named_in t (signed_monitor t a) (kept_monitor a) (λ n. not (owned a n)) f has

    plain : x.function.signature.host ≡ false
    plain = ap (λ (s : Signature). s.host) (sym x.same) ∙ host

    none : (b : Bool) → (b && false) ≡ false
    none true = refl
    none false = refl

    go : Where t a f → IsTrue (is_some (function_at (the_monitor t a) f))
    go (is_called c) = called_there true (the_monitor t a) f known.monitor_sound c host (none (signature_in (the_monitor t a) f).privileged)
    go (is_kept c) =
        let body = body_there t x.function (sound_at t t.functions f x.function known.facts.functions x.is) plain in
        ap is_some (monitor_has t a f x.function body.0 c x.is body.1)
    go (is_entered c) =
        let e = entry_from t (halves a) f c in
        let host' : e.0.signature.host ≡ false = ap (λ (z : FunctionTree). z.signature.host) (some_same e.0 x.function (sym e.1 ∙ x.is)) ∙ plain in
        ap is_some (privileged_here t a known f e.0 e.1 host' (or_without_and e.0.signature.privileged e.0.signature.host (is_mixed e.0.signature) host' (both_hold_first (is_asked_for e.0.signature) (is_asked t (halves a) f) e.2))).1

-- a host of the monitor's may be asked for
hosts_asked : (t : TypedTree) (a : Accepted) → IsKnown t a → (f : ℕ) → HasSignature (the_monitor t a) f → (signature_in (the_monitor t a) f).host ≡ true → is_asked_for (signature_in (the_monitor t a) f) ≡ true
hosts_asked t a known f has host = ap is_asked_for x.same ∙ go (monitor_cases t a f (is_signed (core_program t) (signed_monitor t a) (kept_monitor a) (λ n. not (owned a n)) f has))
  where
    x : IsNamed t (the_monitor t a) f
    x = named_in t (signed_monitor t a) (kept_monitor a) (λ n. not (owned a n)) f has

    is_host : x.function.signature.host ≡ true
    is_host = ap (λ (s : Signature). s.host) (sym x.same) ∙ host

    go : Where t a f → is_asked_for x.function.signature ≡ true
    go (is_called c) =
        let g = called_from (kept_monitor a) (code t) f c in
        monitor_hosts t a known.accepted known.facts.functions (record { 0 = g.0.id }) (record { 0 = f }) x.function ((known.are.monitor g.0.id).0 (among_from (halves a).monitor g.0.id g.2))
        (each_at (λ (z : core.FunctionTree). (n : ℕ) → Contains (callees_of z.body) n → Calls t (record { 0 = z.id }) (record { 0 = n })) (code t) g.0 (code_calls known.names t) g.1 f g.3) x.is is_host
    go (is_kept c) =
        let y = monitor_has_body t (record { 0 = f }) ((known.are.monitor f).0 c) in
        false_not_true (sym (body_no_host t f y.0 known.facts.functions y.1 y.2) ∙ ap (λ (z : FunctionTree). z.signature.host) (some_same y.0 x.function (sym y.1 ∙ x.is)) ∙ is_host)
    go (is_entered c) =
        let e = entry_from t (halves a) f c in
        ap (λ (z : FunctionTree). is_asked_for z.signature) (some_same x.function e.0 (sym x.is ∙ e.1)) ∙ both_hold_first (is_asked_for e.0.signature) (is_asked t (halves a) f) e.2

-- ---- parameters

params_own : (t : TypedTree) (a : Accepted) → IsKnown t a → (f : ℕ) → HasSignature (the_slave t a) f → is_asked_for (signature_in (the_slave t a) f) ≡ true → (signature_in (the_slave t a) f).host ≡ false →
    own_params (the_monitor t a) f ≡ (signature_in (the_slave t a) f).params
params_own t a known f has wanted host =
    ap (λ (o : Option core.FunctionTree). take (unwrap_or o no_function).params (signature_in (the_monitor t a) f).params) here.1
    ∙ ap (λ (s : Signature). take (length x.function.signature.params) s.params) (same_in_both t a known f has wanted ∙ x.same)
    ∙ take_whole x.function.signature.params ∙ ap (λ (s : Signature). s.params) (sym x.same)
  where
    x : IsNamed t (the_slave t a) f
    x = slave_named t a f has

    plain : x.function.signature.host ≡ false
    plain = ap (λ (s : Signature). s.host) (sym x.same) ∙ host

    here : (b : BodyTree) × (function_at (the_monitor t a) f ≡ Some (core_of t f x.function b))
    here = privileged_here t a known f x.function x.is plain
        (or_without_and x.function.signature.privileged x.function.signature.host (is_mixed x.function.signature) plain (ap is_asked_for (sym x.same) ∙ wanted))

-- ---- main

pub main_kept : (t : TypedTree) (a : Accepted) (known : IsKnown t a) → kept_slave a known.main.number ≡ true
main_kept t a known = among_has (halves a).slave known.main.number ((known.are.slave known.main.number).1 (main_in_slave t known.main))

pub slave_main : (t : TypedTree) (a : Accepted) (known : IsKnown t a) → main_in (the_slave t a) ≡ known.main.number
slave_main t a known =
    part_main t known.main (signed_slave t a) (kept_slave a) (owned a) (slave_keeps_own t a known.main.number (main_kept t a known))

main_there : (t : TypedTree) (a : Accepted) → (known : IsKnown t a) → IsTrue (is_some (function_at (the_slave t a) (main_in (the_slave t a))))
main_there t a known =
    let m = known.main in
    let body = some_is m.function.body (start_has_body m.function m.start) in
    subst (λ (n : ℕ). IsTrue (is_some (function_at (the_slave t a) n))) (sym (slave_main t a known)) (ap is_some (slave_has t a m.number m.function body.0 (among_from (halves a).slave m.number (main_kept t a known)) m.is body.1))

-- ---- both halves

pub are_halves : (t : TypedTree) (a : Accepted) → IsKnown t a → AreHalvesOf (core_program t) (slave_program (slave_half t a)) (monitor_half t a)
are_halves t a known = record {
  slave_sound = known.slave_sound;
  monitor_sound = known.monitor_sound;
  slave_part = is_part (core_program t) (signed_slave t a) (kept_slave a) (owned a) (slave_keeps_own t a);
  monitor_part = is_part (core_program t) (signed_monitor t a) (kept_monitor a) (λ n. not (owned a n)) (monitor_keeps_own t a);
  apart = λ g there. share_none (core_program t) (signed_slave t a) (kept_slave a) (signed_monitor t a) (kept_monitor a) (owned a) g there;
  slave_signatures = slave_signature t a;
  monitor_signatures = λ f has. signature_same (core_program t) (signed_monitor t a) (kept_monitor a) (λ n. not (owned a n)) f (is_signed (core_program t) (signed_monitor t a) (kept_monitor a) (λ n. not (owned a n)) f has);
  slave_own = slave_own t a known;
  monitor_own = monitor_own t a known;
  entries = λ f has wanted. said_of (λ (e : Entry). e.function.0) (signature_in (the_monitor t a)) f (monitor_entries t (halves a) (code t)) (entry_there t a known f has wanted) ∙ ap Some (same_in_both t a known f has wanted);
  signed = λ f has wanted. subst (λ (o : Option Signature). IsTrue (is_some o)) (sym (both_signed t a known f has wanted)) has;
  params = params_own t a known;
  hosts = hosts_asked t a known;
  begins = main_number t known.main ∙ sym (slave_main t a known);
  starts = main_there t a known;
}

pub accepted_halves : AcceptedShareNothing → SlavesAreWellFormed → MonitorsAreWellFormed → LoweredNames → AcceptedHalves
accepted_halves shares slaves monitors names t a given accepted = are_halves t a (known_of shares slaves monitors names t a given accepted)
