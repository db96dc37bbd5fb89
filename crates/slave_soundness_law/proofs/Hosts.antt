-- A slave's gate fits what its program's functions call, and its hosts go on fitting.
use Rattle.std.proofs.Common.{◌≡◌, ◌∙◌, ◌<◌, ℕ, ℤ, nat_eq, refl, ap, sym, subst, List, [], ◌∷◌, Option, Some, None, Bool, true, false, map}
use Rattle.std.specs.Prelude.{IsTrue, All, ◌&&◌, ◌||◌, not, is_some, if◌then◌else◌, length, unwrap_or}
use Rattle.std.specs.List.{list_all, list_any}
use Rattle.pt_base.specs.declared.int_type.IntType.{IntType}
use Rattle.pt_base.proofs.Booleans.{both_hold, both_hold_first, both_hold_second, false_not_true}
use Rattle.pt_base.proofs.Numbers.{nat_eq_same}
use Rattle.pt_tree.specs.HostStep.{host_step}
use Rattle.pt_tree.specs.declared.host_model.HostModel.{HostModel}
use Rattle.pt_tree.specs.declared.signature.Signature.{Signature}
use Rattle.runs.specs.State.{Hosts, put_host}
use Rattle.host_models.specs.Answering.{is_result}
use Rattle.host_models.specs.Fitting.{fits}
use Rattle.host_models.proofs.AnswerLemmas.{fits_in_range}
use Rattle.block_memory.specs.declared.cell.Cell.{Cell}
use Rattle.pt_core.specs.CodeTree.{ProgramTree}
use Rattle.pt_core.specs.Values.{number_in}
use Rattle.pt_core.specs.Calls.{signature_in, no_signature}
use Rattle.pt_core.specs.Steps.{Machine, Way, enters, here, away, step}
use Rattle.pt_core.specs.WellFormed.{signature_at, function_at, callees, callee_by, callee_fits, is_sound}
use Rattle.core_soundness_law.specs.StepLaws.{NumberFits}
use Rattle.core_soundness_law.proofs.Programs.{ProgramFacts, facts_of}
use Rattle.core_soundness_law.specs.Called.{is_called, CallOwn}
use Rattle.core_soundness_law.specs.CalledKeeping.{FitsCalls}
use Rattle.core_soundness_law.proofs.CalledGates.{gate_keeps}
use Rattle.pair_meaning.specs.SlaveRun.{Slave, Heard, goes_with_handles, heard_by, machine_step, slave_gate, way_by}
use Rattle.slave_soundness_law.specs.Sound.{HasSignature, HostsFit}

-- ---- lists

-- what holds of all holds of each
pub each_holds : (Q : ℕ → Bool) (f : ℕ) (xs : List ℕ) → IsTrue (list_all Q xs) → IsTrue (list_any (nat_eq f) xs) → IsTrue (Q f)
each_holds Q f [] all among = false_not_true among
each_holds Q f (x ∷ xs) all among = go (each_holds Q f xs (both_hold_second (Q x) (list_all Q xs) all)) (nat_eq f x) refl among
  where
    go : (IsTrue (list_any (nat_eq f) xs) → IsTrue (Q f)) → (b : Bool) → nat_eq f x ≡ b → IsTrue (b || list_any (nat_eq f) xs) → IsTrue (Q f)
    go more true e h = subst (λ n. IsTrue (Q n)) (sym (nat_eq_same f x e)) (both_hold_first (Q x) (list_all Q xs) all)
    go more false e h = more h

-- ---- ways

-- a call that enters is of what is neither privileged nor a host
record EntersWay (s : Signature) : Type 0 where
  plain : s.privileged ≡ false
  no_host : s.host ≡ false

pub enters_way : (p h w : Bool) → (if p then away else (if h then (if w then away else here) else enters)) ≡ enters → (p ≡ false) × (h ≡ false)
enters_way true h w e = cc
enters_way false true true e = cc
enters_way false true false e = cc
enters_way false false w e = (refl, refl)

pub here_way : (p h w : Bool) → (if p then away else (if h then (if w then away else here) else enters)) ≡ here → (h ≡ true) × (p ≡ false)
here_way true h w e = cc
here_way false true true e = cc
here_way false true false e = (refl, refl)
here_way false false w e = cc

enters_by : (s : Signature) (args : List Cell) → way_by s args ≡ enters → EntersWay s
enters_by s args e = let h = enters_way s.privileged s.host (goes_with_handles s args) e in record { plain = h.0; no_host = h.1 }

here_by : (s : Signature) (args : List Cell) → way_by s args ≡ here → IsTrue s.host × IsTrue (s.host && not s.privileged)
here_by s args e = let h = here_way s.privileged s.host (goes_with_handles s args) e in (h.0, both_hold s.host (not s.privileged) h.0 (ap not h.1))

-- ---- what is called

called_enters : (o : Option Signature) (known : Bool) → EntersWay (unwrap_or o no_signature) → (o ≡ None → ⊥) → ((s : Signature) → o ≡ Some s → IsTrue ((s.host || (s.privileged && not false)) || known)) → IsTrue known
called_enters None known h some fits = absurd (some refl)
called_enters (Some s) known h some fits = go s.host s.privileged h.no_host h.plain (fits s refl)
  where
    go : (host privileged : Bool) → host ≡ false → privileged ≡ false → IsTrue ((host || (privileged && not false)) || known) → IsTrue known
    go true privileged e1 e2 k = cc
    go false true e1 e2 k = cc
    go false false e1 e2 k = k

pub number_fits : (t : Option IntType) (v : Option ℤ) → IsTrue (is_result t v) → NumberFits t v
number_fits None None h = tt {0}
number_fits None (Some v) h = false_not_true h
number_fits (Some t) None h = false_not_true h
number_fits (Some t) (Some v) h = h

by_none : (o : Option Signature) (f : ℕ) (p : ProgramTree) → IsTrue (callee_by false p f o) → o ≡ None → ⊥
by_none None f p h e = false_not_true h
by_none (Some s) f p h e = cc

by_some : (o : Option Signature) (f : ℕ) (p : ProgramTree) → IsTrue (callee_by false p f o) → (s : Signature) → o ≡ Some s → IsTrue ((s.host || (s.privileged && not false)) || is_some (function_at p f))
by_some None f p h s e = false_not_true h
by_some (Some t) f p h s e = subst (λ (u : Signature). IsTrue ((u.host || (u.privileged && not false)) || is_some (function_at p f))) (same t s e) h
  where
    same : (t s : Signature) → Some t ≡ Some s → t ≡ s
    same t s e = cc

pub fits_calls : (x : Slave) → IsTrue (is_sound false x.program) → HostsFit x.program x.hosts → All (λ b. b < 256) x.input → FitsCalls x.program (slave_gate x.program) (heard_by x)
fits_calls x sound hosts input = record {
  entered = λ f args own e.
      let fit : IsTrue (callee_fits false x.program f) = each_holds (callee_fits false x.program) f (callees x.program) (facts_of false x.program sound).calls own in
      called_enters (signature_at x.program f) (is_some (function_at x.program f)) (enters_by (signature_in x.program f) args e) (by_none (signature_at x.program f) f x.program fit) (by_some (signature_at x.program f) f x.program fit);
  made = λ f args own e. (here_by (signature_in x.program f) args e).0;
  answered = λ privileged f args own e.
      let s : Signature = signature_in x.program f in
      number_fits s.result (host_step x.input (x.hosts f) (map number_in args)).result (fits_in_range x.input (x.hosts f) (map number_in args) s input (hosts f own (here_by s args e).1)).result;
}

-- what is called has a signature
pub called_signed : (p : ProgramTree) (f : ℕ) → IsTrue (is_sound false p) → IsTrue (is_called p f) → HasSignature p f
called_signed p f sound own = go (signature_at p f) refl (each_holds (callee_fits false p) f (callees p) (facts_of false p sound).calls own)
  where
    go : (o : Option Signature) → signature_at p f ≡ o → IsTrue (callee_by false p f o) → HasSignature p f
    go None e h = false_not_true h
    go (Some s) e h = (s, e)

-- ---- hosts

put_fits : (program : ProgramTree) (hosts : Hosts) (f : ℕ) (next : HostModel) → HostsFit program hosts → IsTrue (fits next (signature_in program f)) → HostsFit program (put_host hosts f next)
put_fits program hosts f next old fit f1 own plain = go (nat_eq f1 f) refl
  where
    go : (b : Bool) → nat_eq f1 f ≡ b → IsTrue (fits (if b then next else hosts f1) (signature_in program f1))
    go true e = subst (λ n. IsTrue (fits next (signature_in program n))) (sym (nat_eq_same f1 f e)) fit
    go false e = old f1 own plain

pub hosts_stay : (x : Slave) → HostsFit x.program x.hosts → All (λ b. b < 256) x.input → CallOwn x.program x.machine.active → HostsFit x.program (machine_step x).gate.hosts
hosts_stay x hosts input own =
    gate_keeps x.program (slave_gate x.program) (heard_by x) (λ (h : Heard). HostsFit x.program h.hosts) hosts (λ active f args. hosts)
    (λ active f args called e.
    let s : Signature = signature_in x.program f in
    put_fits x.program x.hosts f (host_step x.input (x.hosts f) (map number_in args)).next hosts
    (fits_in_range x.input (x.hosts f) (map number_in args) s input (hosts f called (here_by s args e).1)).next)
    x.machine own
