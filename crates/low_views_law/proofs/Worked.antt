-- The definitions tried on a key that the slave may not see:
--     priv int load(int n);
--     priv declassify int per(priv int k, int n) { return n / k; }
-- Of two keys that give the same quotient the replies are the same. With a key of 0 the division traps, which the slave learns.
use Rattle.std.proofs.Common.{◌≡◌, ℕ, ℤ, pos, refl, Bool, true, false, List, [], ◌∷◌, Some, None, codes}
use Rattle.pt_base.specs.declared.span.Span.{Span}
use Rattle.pt_base.specs.declared.int_type.IntType.TheVariants as i
use Rattle.pt_base.specs.declared.trap.Trap.TheVariants.{DivZero}
use Rattle.pt_base.specs.declared.end.End.TheVariants.{Trapped, Refused}
use Rattle.pt_int.specs.Conversion as conversion
use Rattle.pt_int.specs.Operator as operator
use Rattle.pt_int.specs.declared.operator.BinOp.TheVariants.{Div}
use Rattle.pt_tree.specs.declared.host_model.HostModel.TheVariants as h
use Rattle.pt_tree.specs.declared.signature.ParamKind.TheVariants as k
use Rattle.pt_tree.specs.declared.signature.Param.{Param}
use Rattle.pt_tree.specs.declared.signature.Signature.{Signature}
use Rattle.typed_tree.specs.declared.types.VarTy.TheVariants as ty
use Rattle.typed_tree.specs.declared.variable.Var.{Var}
use Rattle.typed_tree.specs.Cells as cells
use Rattle.policy.specs.declared.rule.Rule.{Rule}
use Rattle.policy.specs.Verdicts.{start}
use Rattle.pt_core.specs.CodeTree.{local, place, read, binary, give_back, no_stmts, stmt_and, MonitorTree}
use Rattle.wire.specs.declared.cell.Arg.TheVariants as argument
use Rattle.wire.specs.declared.cell.WireCell.TheVariants as wire
use Rattle.wire.specs.declared.message.ReplyBody.{ReplyBody}
use Rattle.wire.specs.declared.message.Message.{Message}
use Rattle.wire.specs.declared.message.Message.TheVariants as message
use Rattle.wire.specs.Frames.{open_end}
use Rattle.pair_meaning.specs.Monitors.{Monitor, low}
use Rattle.pair_meaning.specs.Rules.{bad_handle}
use Rattle.pair_meaning.specs.Start.{monitor_start}
use Rattle.pair_meaning.specs.Streams.{at_end, at_rule, Talk, serve_frames}
use Rattle.low_views_law.specs.Alike.{TellTheSame}

-- ---- the program

abbrev anywhere : Span
anywhere = record { from = 0; to = 0 }

abbrev takes : Bool → Param
takes marked = record { kind = k.Int i.Int; marked = marked; declassify = false }

abbrev signed : List ℕ → List Param → Bool → Bool → Signature
signed name params host declassify = record { name = name; result = Some i.Int; params = params; host = host; privileged = true; declassify = declassify }

abbrev variable : Bool → Var
variable marked = record { name = []; span = anywhere; ty = ty.Int i.Int; marked = marked; unpriv = false; holds = None }

abbrev program : MonitorTree
program = record {
  structs = [];
  signatures = (0, signed (codes "load") (takes false ∷ []) true false) ∷ (1, signed (codes "per") (takes true ∷ takes false ∷ []) false true) ∷ [];
  functions = record {
    id = 1;
    params = 2;
    vars = variable true ∷ variable false ∷ [];
    body = stmt_and (give_back (Some (binary Div i.Int (read (place (local 1) [])) (read (place (local 0) [])) anywhere))) no_stmts;
    end = anywhere;
  } ∷ [];
  globals = [];
  entries = record { function = record { 0 = 0 }; shared = [] } ∷ record { function = record { 0 = 1 }; shared = [] } ∷ [];
}

abbrev allow : ℕ → Rule
allow f = record { from = codes "a"; function = record { 0 = f }; ranges = []; most = None; to = codes "a" }

-- the host loads this key
abbrev monitor : ℤ → ℕ → Monitor
monitor key budget = monitor_start program (λ f. h.Table (record { args = pos 7 ∷ []; result = key } ∷ []) (pos 0)) [] (start (allow 0 ∷ allow 1 ∷ [])) budget

-- ---- what is asked

abbrev load_call : Message
load_call = message.Call 0 0 0 false (record { args = argument.Number (pos 7) ∷ []; blocks = [] })

abbrev per_call : ℕ → Message
per_call handle = message.Call 0 1 2 true (record { args = argument.Sealed handle ∷ argument.Number (pos 1) ∷ []; blocks = [] })

-- the second one asks for the handle that the first one gives, and the third for one that was never given
abbrev frames : List (Message × ℕ)
frames = (load_call, 0) ∷ (per_call 0, 38) ∷ (per_call 5, 80) ∷ []

abbrev talk : ℤ → ℕ → Talk
talk key budget = serve_frames (monitor key budget) frames open_end

abbrev nothing : ReplyBody
nothing = record { result = Some (wire.Number (pos 0)); cells = [] }

-- ---- what comes of it

-- the same may be known of both, and both tell the same
abbrev IsSame : ℤ → ℤ → Type 0
IsSame key other = (low (monitor key 9) ≡ low (monitor other 9)) × TellTheSame (monitor key 9) (monitor other 9) frames

told : IsSame (pos 3) (pos 4)
unfolding cells.leaves_of conversion.conv operator.binary_of
told = (refl, (refl, (refl, tt {0})))

three : talk (pos 3) 9 ≡ record { bytes = []; replies = nothing ∷ []; stopped = at_rule bad_handle 80 }
unfolding cells.leaves_of conversion.conv operator.binary_of
three = refl

four : talk (pos 4) 9 ≡ record { bytes = []; replies = nothing ∷ []; stopped = at_rule bad_handle 80 }
unfolding cells.leaves_of conversion.conv operator.binary_of
four = refl

-- where it traps nothing more is told, so what is told is the same as far as both go on
told_until : IsSame (pos 3) (pos 0)
unfolding cells.leaves_of conversion.conv operator.binary_of
told_until = (refl, (refl, tt {0}))

traps : talk (pos 0) 9 ≡ record { bytes = []; replies = []; stopped = at_end (Trapped DivZero anywhere) }
unfolding cells.leaves_of conversion.conv operator.binary_of
traps = refl

-- ---- a policy that denies the second call

abbrev denied : ℤ → Talk
denied key = serve_frames (monitor_start program (λ f. h.Table (record { args = pos 7 ∷ []; result = key } ∷ []) (pos 0)) [] (start (allow 0 ∷ [])) 9) frames open_end

-- nothing is written or replied, and what would trap isn't begun
refused : denied (pos 0) ≡ record { bytes = []; replies = []; stopped = at_end (Refused 2 (record { 0 = 1 }) (codes "a")) }
unfolding cells.leaves_of conversion.conv operator.binary_of
refused = refl
