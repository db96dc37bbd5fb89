-- What the slave has of a program and of its hosts, and where two programs are the same for it.
use Rattle.std.specs.Prelude.{◌≡◌, ℕ, true, false, List, Some, Contains, slice_get}
use Rattle.pt_base.specs.declared.ids.FnId.{FnId}
use Rattle.pt_base.specs.declared.ids.GlobalId.{GlobalId}
use Rattle.pt_tree.specs.declared.signature.Signature.{Signature}
use Rattle.host_table.specs.Hosts as table
use Rattle.host_table.specs.RunHosts.{models_of}
use Rattle.typed_tree.specs.Lookup.{signature_of}
use Rattle.typed_tree.specs.TypedTree.{TypedTree}
use Rattle.reach.specs.Contexts.{Calls, InSlave, globals_in}
use Rattle.lowered_code_law.specs.LocalitySameFunctions.{IsSameFunction}
use Rattle.pair_meaning.specs.Start.{reads_input}

-- Two programs are the same for the slave: they have the same structs, and each function that the slave runs in the first is the same
-- in the second. What such a function calls is called with the same there, and the globals that it names are the same.
pub record IsSameForSlave (t u : TypedTree) : Type 0 where
  pub structs : t.structs ≡ u.structs
  pub functions : (f : FnId) → InSlave t f → IsSameFunction t u f
  pub signatures : (f g : FnId) → InSlave t f → Calls t f g → signature_of t g ≡ signature_of u g
  pub globals : (f : FnId) (g : GlobalId) → InSlave t f → Contains (globals_in t f) g → slice_get t.globals g.0 ≡ slice_get u.globals g.0

-- A host of the slave's own: one of its functions calls it, and it isn't privileged.
pub record IsOwnHost (t : TypedTree) (h : FnId) : Type 0 where
  pub caller : FnId
  pub signature : Signature
  pub runs : InSlave t caller
  pub calls : Calls t caller h
  pub is : signature_of t h ≡ Some signature
  pub host : signature.host ≡ true
  pub plain : signature.privileged ≡ false

-- The slave's own hosts have the same models in both tables, and both inputs are the same if one of these reads it.
pub record AreSameForSlave (t : TypedTree) (hosts others : table.Hosts) (input other : List ℕ) : Type 0 where
  pub models : (h : FnId) → IsOwnHost t h → hosts.models h.0 ≡ others.models h.0
  pub inputs : (h : FnId) → IsOwnHost t h → reads_input (models_of hosts.models h.0) ≡ true → input ≡ other
