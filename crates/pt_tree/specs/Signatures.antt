-- Signatures and their parameters.
use Rattle.std.specs.Prelude.{List, [], Option, None, Some, Bool, true, false, not}
use Rattle.pt_tree.specs.declared.signature.Signature.{Signature}
use Rattle.pt_tree.specs.declared.signature.Param.{Param}
use Rattle.pt_tree.specs.declared.signature.ParamKind.{ParamKind}
use Rattle.pt_tree.specs.declared.signature.ParamKind.TheVariants as k

-- what stands for the signature of a function that isn't there
abbrev pub no_signature : Signature
no_signature = record { name = []; result = None; params = []; host = true; privileged = false; declassify = false }

abbrev pub params_of : Option Signature → List Param
params_of None = []
params_of (Some s) = s.params

-- a parameter through which a function gives something back: it points to what isn't const
abbrev pub is_out : ParamKind → Bool
is_out (k.Int t) = false
is_out (k.Ptr elem fixed) = not fixed
