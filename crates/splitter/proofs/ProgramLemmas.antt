-- The programs that code makes are those of the halves.
use Rattle.std.proofs.Common.{◌≡◌, ◌∙◌, ◌≤◌, ◌<◌, ℕ, ◌+◌, refl, ap, sym, subst, arith, Bool, false, not, List, ◌++◌, length, map}
use Rattle.std.specs.Prelude.{replicate}
use Rattle.std.specs.List.{filter}
use Rattle.std.proofs.lemmas.List.{length-map}
use Rattle.pt_tree.specs.declared.signature.Signature.{Signature}
use Rattle.typed_tree.specs.declared.types.StructInfo.{StructInfo}
use Rattle.typed_tree.specs.TypedTree as typed
use Rattle.typed_tree.specs.TypedTree.{TypedTree, signatures_of}
use Rattle.reach.specs.Tables.{set_all}
use Rattle.reach.proofs.WalkLemmas.{long_all}
use Rattle.reach.proofs.TableLemmas.{set_all_append}
use Rattle.pt_core.specs.declared.monitor.Entry.{Entry}
use Rattle.pt_core.specs.CodeTree.{FunctionTree, GlobalTree, SlaveTree, MonitorTree}
use Rattle.lowering.specs.Functions.{signatures_from, globals_from}
use Rattle.splitter.specs.Halves.{Halves, IsWholeCode, asked, called_by, chosen_functions, chosen_globals, chosen_signatures, entries_of, entry_numbers, entry_of, is_among, is_entry, is_slave_host, monitor_code, monitor_entries, monitor_of, slave_code, slave_hosts, slave_of}
use Rattle.splitter.specs.Sets.{is_set, monitor_with, slave_with}
use Rattle.splitter.proofs.SetLemmas.{chosen_below, code_below, globals_below, set_tells, signatures_below}

-- a set of numbers below this bound, made of this list
abbrev pub made : ℕ → List ℕ → List Bool
made bound ns = set_all (replicate bound false) ns

-- a set that was made of this list, below as many numbers as there are
pub set_is : (n n' : ℕ) (ns ns' : List ℕ) (set : List Bool) → set ≡ made n ns → n ≡ n' → ns ≡ ns' → set ≡ made n' ns'
set_is n n' ns ns' set e en es = e ∙ (λ i. made (en i) (es i))

functions_same : (t : TypedTree) (ns : List ℕ) (code : List FunctionTree) → IsWholeCode t code → chosen_functions (is_set (made (length t.functions) ns)) code ≡ chosen_functions (is_among ns) code
functions_same t ns code whole =
    chosen_below (λ (f : FunctionTree). f.id) (length t.functions) (λ (f : FunctionTree). is_set (made (length t.functions) ns) f.id) (λ (f : FunctionTree). is_among ns f.id)
    (λ f lt. set_tells (length t.functions) ns f.id lt) code (code_below t code whole)

numbered_below : (t : TypedTree) → 0 + length (signatures_of t) ≤ length t.functions
numbered_below t = let long = length-map t.functions (λ (f : typed.FunctionTree). f.signature) in omega (arith, long)

-- what is chosen of the signatures by a test of the number
by_number : (t : TypedTree) (ns : List ℕ) (test : Bool → Signature → Bool) →
    filter (λ (s : ℕ × Signature). test (is_set (made (length t.functions) ns) s.0) s.1) (signatures_from 0 (signatures_of t)) ≡ filter (λ (s : ℕ × Signature). test (is_among ns s.0) s.1) (signatures_from 0 (signatures_of t))
by_number t ns test =
    chosen_below (λ (s : ℕ × Signature). s.0) (length t.functions) (λ (s : ℕ × Signature). test (is_set (made (length t.functions) ns) s.0) s.1) (λ (s : ℕ × Signature). test (is_among ns s.0) s.1)
    (λ s lt. ap (λ (b : Bool). test b s.1) (set_tells (length t.functions) ns s.0 lt)) (signatures_from 0 (signatures_of t)) (signatures_below (length t.functions) 0 (signatures_of t) (numbered_below t))

signatures_same : (t : TypedTree) (ns : List ℕ) → chosen_signatures (is_set (made (length t.functions) ns)) t ≡ chosen_signatures (is_among ns) t
signatures_same t ns = by_number t ns (λ b s. b)

hosts_same : (t : TypedTree) (ns : List ℕ) → slave_hosts (is_set (made (length t.functions) ns)) t ≡ slave_hosts (is_among ns) t
hosts_same t ns = ap (λ (ss : List (ℕ × Signature)). map (λ (s : ℕ × Signature). s.0) ss) (by_number t ns is_slave_host)

entries_same : (t : TypedTree) (ns : List ℕ) → entries_of (is_set (made (length t.functions) ns)) t ≡ entries_of (is_among ns) t
entries_same t ns = ap (λ (ss : List (ℕ × Signature)). map (λ (s : ℕ × Signature). entry_of (record { 0 = s.0 })) ss) (by_number t ns is_entry)

globals_same : (t : TypedTree) (ns : List ℕ) (test : Bool → Bool) → chosen_globals (λ n. test (is_set (made (length t.globals) ns) n)) t ≡ chosen_globals (λ n. test (is_among ns n)) t
globals_same t ns test =
    chosen_below (λ (g : GlobalTree). g.id) (length t.globals) (λ (g : GlobalTree). test (is_set (made (length t.globals) ns) g.id)) (λ (g : GlobalTree). test (is_among ns g.id))
    (λ g lt. ap test (set_tells (length t.globals) ns g.id lt)) (globals_from 0 t.globals) (globals_below (length t.globals) 0 t.globals (omega arith))

-- ---- the slave's program

pub slave_is : (t : TypedTree) (h : Halves) (code functions : List FunctionTree) (globals : List GlobalTree) (called : List Bool) → IsWholeCode t code →
    functions ≡ chosen_functions (is_set (made (length t.functions) h.slave)) code → globals ≡ chosen_globals (is_set (made (length t.globals) h.owned)) t → called ≡ made (length t.functions) (called_by functions) →
    slave_with t called h.slave functions globals ≡ slave_of t h code
slave_is t h code functions globals called whole ef eg ec = λ i. record {
  structs = t.structs;
  signatures = signatures i;
  functions = mine i;
  globals = owned i;
  hosts = hosts i;
}
  where
    mine : functions ≡ slave_code h code
    mine = ef ∙ functions_same t h.slave code whole

    owned : globals ≡ chosen_globals (is_among h.owned) t
    owned = eg ∙ globals_same t h.owned (λ b. b)

    calls : called ≡ made (length t.functions) (asked h code)
    calls = ec ∙ ap (λ (fs : List FunctionTree). made (length t.functions) (called_by fs)) mine

    hosts : slave_hosts (is_set called) t ≡ slave_hosts (is_among (asked h code)) t
    hosts = ap (λ (s : List Bool). slave_hosts (is_set s) t) calls ∙ hosts_same t (asked h code)

    signatures : chosen_signatures (is_set (set_all called h.slave)) t ≡ chosen_signatures (is_among (asked h code ++ h.slave)) t
    signatures =
        ap (λ (s : List Bool). chosen_signatures (is_set s) t) (ap (λ (s : List Bool). set_all s h.slave) calls ∙ set_all_append (replicate (length t.functions) false) (asked h code) h.slave)
        ∙ signatures_same t (asked h code ++ h.slave)

-- ---- the monitor's program

pub monitor_is : (t : TypedTree) (h : Halves) (code functions slaves : List FunctionTree) (globals : List GlobalTree) (entries : List Entry) (asks called : List Bool) → IsWholeCode t code →
    slaves ≡ chosen_functions (is_set (made (length t.functions) h.slave)) code → functions ≡ chosen_functions (is_set (made (length t.functions) h.monitor)) code →
    globals ≡ chosen_globals (λ n. not (is_set (made (length t.globals) h.owned) n)) t → asks ≡ made (length t.functions) (called_by slaves) → entries ≡ entries_of (is_set asks) t →
    called ≡ made (length t.functions) (called_by functions) → monitor_with t called h.monitor functions globals entries ≡ monitor_of t h code
monitor_is t h code functions slaves globals entries asks called whole es ef eg ea ee ec = λ i. record {
  structs = t.structs;
  signatures = signatures i;
  functions = mine i;
  globals = others i;
  entries = asked_for i;
}
  where
    theirs : slaves ≡ slave_code h code
    theirs = es ∙ functions_same t h.slave code whole

    mine : functions ≡ monitor_code h code
    mine = ef ∙ functions_same t h.monitor code whole

    others : globals ≡ chosen_globals (λ n. not (is_among h.owned n)) t
    others = eg ∙ globals_same t h.owned not

    asked_for : entries ≡ monitor_entries t h code
    asked_for =
        ee ∙ ap (λ (s : List Bool). entries_of (is_set s) t) (ea ∙ ap (λ (fs : List FunctionTree). made (length t.functions) (called_by fs)) theirs)
        ∙ entries_same t (asked h code)

    signatures : chosen_signatures (is_set (set_all (set_all called h.monitor) (entry_numbers entries))) t ≡ chosen_signatures (is_among (called_by (monitor_code h code) ++ h.monitor ++ entry_numbers (monitor_entries t h code))) t
    signatures =
        ap (λ (s : List Bool). chosen_signatures (is_set s) t)
        (ap (λ (s : List Bool). set_all (set_all s h.monitor) (entry_numbers entries)) (ec ∙ ap (λ (fs : List FunctionTree). made (length t.functions) (called_by fs)) mine)
        ∙ ap (λ (es : List Entry). set_all (set_all (made (length t.functions) (called_by (monitor_code h code))) h.monitor) (entry_numbers es)) asked_for
        ∙ ap (λ (s : List Bool). set_all s (entry_numbers (monitor_entries t h code))) (set_all_append (replicate (length t.functions) false) (called_by (monitor_code h code)) h.monitor)
        ∙ set_all_append (replicate (length t.functions) false) (called_by (monitor_code h code) ++ h.monitor) (entry_numbers (monitor_entries t h code)))
        ∙ signatures_same t (called_by (monitor_code h code) ++ h.monitor ++ entry_numbers (monitor_entries t h code))

-- ---- as code makes them

pub slave_made : (t : TypedTree) (h : Halves) (code functions : List FunctionTree) (globals : List GlobalTree) (called : List Bool) (ns : List ℕ) (s : SlaveTree) → s ≡ slave_with t called ns functions globals → ns ≡ h.slave → IsWholeCode t code →
    functions ≡ chosen_functions (is_set (made (length t.functions) h.slave)) code → globals ≡ chosen_globals (is_set (made (length t.globals) h.owned)) t → called ≡ made (length t.functions) (called_by functions) →
    s ≡ slave_of t h code
slave_made t h code functions globals called ns s es en whole ef eg ec = es ∙ ap (λ (ms : List ℕ). slave_with t called ms functions globals) en ∙ slave_is t h code functions globals called whole ef eg ec

pub monitor_made : (t : TypedTree) (h : Halves) (code functions slaves : List FunctionTree) (globals : List GlobalTree) (entries : List Entry) (asks called : List Bool) (ns : List ℕ) (m : MonitorTree) → m ≡ monitor_with t called ns functions globals entries → ns ≡ h.monitor →
    IsWholeCode t code → slaves ≡ chosen_functions (is_set (made (length t.functions) h.slave)) code → functions ≡ chosen_functions (is_set (made (length t.functions) h.monitor)) code →
    globals ≡ chosen_globals (λ n. not (is_set (made (length t.globals) h.owned) n)) t → asks ≡ made (length t.functions) (called_by slaves) → entries ≡ entries_of (is_set asks) t →
    called ≡ made (length t.functions) (called_by functions) → m ≡ monitor_of t h code
monitor_made t h code functions slaves globals entries asks called ns m em en whole es ef eg ea ee ec =
    em ∙ ap (λ (ms : List ℕ). monitor_with t called ms functions globals entries) en ∙ monitor_is t h code functions slaves globals entries asks called whole es ef eg ea ee ec

-- after the monitor's numbers and those of its entries were added to what its code calls
pub monitor_joined : (t : TypedTree) (called set set' : List Bool) (monitor : List ℕ) (functions : List FunctionTree) (globals : List GlobalTree) (entries lent : List Entry) (structs : List StructInfo) (signatures : List (ℕ × Signature)) →
    structs ≡ t.structs → signatures ≡ chosen_signatures (is_set set') t → set' ≡ set_all set (entry_numbers lent) → lent ≡ entries → set ≡ set_all called monitor →
    ◌≡◌ {A = MonitorTree} (record { structs = structs; signatures = signatures; functions = functions; globals = globals; entries = entries }) (monitor_with t called monitor functions globals entries)
monitor_joined t called set set' monitor functions globals entries lent structs signatures h hs e l k = λ i. record {
  structs = h i;
  signatures = all i;
  functions = functions;
  globals = globals;
  entries = entries;
}
  where
    all : signatures ≡ chosen_signatures (is_set (set_all (set_all called monitor) (entry_numbers entries))) t
    all = hs ∙ ap (λ (s : List Bool). chosen_signatures (is_set s) t) (e ∙ (λ i. set_all (k i) (entry_numbers (l i))))
