-- What the parts of a run come to together.
use Rattle.std.proofs.Common.{◌≡◌, ◌≤◌, ℕ, List, [], ◌∷◌, Option, Some, None, Result, Ok, Err, MatchResult, length, ap, sym, subst}
use Rattle.std.specs.Prelude.{option_and_then, option_map}
use Rattle.std.proofs.lemmas.List.{length-map}
use Rattle.std.proofs.lemmas.Option.{same_Some, slice_get_past}
use Rattle.pt_tree.specs.declared.signature.Signature.{Signature}
use Rattle.typed_tree.specs.TypedTree.{FunctionTree, TypedTree, signatures_of}
use Rattle.front_end.specs.Reading.{HasTypedTree}
use Rattle.host_table.specs.HostFaults.{host_model, reading_of, table_hosts}
use Rattle.host_table.specs.Hosts.{Hosts}
use Rattle.host_table.specs.RunHosts.{models_of}
use Rattle.runs.specs.Run.{written}
use Rattle.source_meaning.specs.WholeRun.{whole_run}
use Rattle.stages.specs.Climb.{Texts, hosts, inputs}
use Rattle.stages.specs.GivenHosts.{GivesHosts, most}
use Rattle.stages.specs.Seen.{IsHalt, IsStop}
use Rattle.stages.specs.declared.refusal.Stop.{Stop}
use Rattle.stages.proofs.RungLemmas.{halted}
use Rattle.original.specs.declared.ran.Ran as code
use Rattle.original.specs.MachineRunHostGates.{AreOf}
use Rattle.original.specs.Original.{IsOriginal, Ran}
use Rattle.original.specs.Seen.{view_ran}

-- ---- hosts

-- what gives no host past the functions, whatever it is of
some_gives : {D : Type 0} (tree : TypedTree) (h : Hosts) (give : D → Hosts) → ((d : D) → AreOf tree (give d)) → (o : Option D) → option_map give o ≡ Some h → AreOf tree h
some_gives tree h give none None e f past = cc
some_gives tree h give none (Some d) e f past = subst (λ (x : Hosts). x.models f ≡ None) (same_Some (give d) h e) (none d f past)

-- a table gives no host past the program's functions
pub nothing_past : (table : List ℕ) (tree : TypedTree) (h : Hosts) → GivesHosts table tree h → AreOf tree h
nothing_past table tree h gives =
    some_gives tree h (λ value. table_hosts value (signatures_of tree))
    (λ value f past.
    let size : length (signatures_of tree) ≡ length tree.functions = length-map tree.functions (λ (x : FunctionTree). x.signature) in
    ap (λ (o : Option Signature). option_and_then (host_model value) o) (slice_get_past (signatures_of tree) f (subst (λ n. n ≤ f) (sym size) past)))
    (reading_of table) gives.given

-- ---- what a run comes to

-- a run of these texts, or why there is none behind their tree
abbrev pub Behind : ℕ → Texts → TypedTree → Result code.Ran Stop → Type 0
Behind turns t tree r = MatchResult r (λ x. IsOriginal turns t (view_ran x)) (IsHalt (hosts ∷ inputs ∷ []) t tree)

pub behind_tree : (turns : ℕ) (t : Texts) (tree : TypedTree) (r : Result code.Ran Stop) → HasTypedTree t.program tree → Behind turns t tree r
    → MatchResult r (λ x. IsOriginal turns t (view_ran x)) (IsStop (hosts ∷ inputs ∷ []) t)
behind_tree turns t tree (Ok x) has is = is
behind_tree turns t tree (Err e) has is = halted (hosts ∷ inputs ∷ []) t tree e has is

-- the same by the tree and the table that the texts have
pub behind_table : (turns : ℕ) (t : Texts) (tree tree' : TypedTree) (table : List ℕ) (h : Hosts) (r : Result code.Ran Stop) → tree' ≡ tree → t.host ≡ table → HasTypedTree t.program tree → GivesHosts table tree' h
    → (HasTypedTree t.program tree' → GivesHosts t.host tree' h → Behind turns t tree' r) → Behind turns t tree r
behind_table turns t tree tree' table h r same is has gives run =
    subst (λ (z : TypedTree). Behind turns t z r) same
    (run (subst (λ (z : TypedTree). HasTypedTree t.program z) (sym same) has) (subst (λ (text : List ℕ). GivesHosts text tree' h) (sym is) gives))

pub is_original : (turns : ℕ) (t : Texts) (tree : TypedTree) (h : Hosts) (input : List ℕ) (r : Ran) → HasTypedTree t.program tree → GivesHosts t.host tree h → t.input ≡ input → length input ≤ most
    → r.bytes ≡ written (whole_run tree (models_of h.models) input turns).events → r.end ≡ (whole_run tree (models_of h.models) input turns).end → IsOriginal turns t r
is_original turns t tree h input r has gives same short bytes end = (
  whole_run tree (models_of h.models) input turns,
  record {
    tree = tree;
    hosts = h;
    read = record { program = has; table = gives };
    short = subst (λ (xs : List ℕ). length xs ≤ most) (sym same) short;
    is = ap (λ (xs : List ℕ). whole_run tree (models_of h.models) xs turns) (sym same);
  },
  bytes,
  end,
)
