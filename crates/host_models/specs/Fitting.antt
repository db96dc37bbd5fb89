-- Which models fit which hosts: what may stand for a host of a signature.
use Rattle.std.specs.Prelude.{ℤ, Bool, true, false, not, ◌&&◌, ◌==◌, List, [], ◌∷◌, length, Option, Some, None, is_some}
use Rattle.std.specs.List.{list_all}
use Rattle.pt_base.specs.Names.{is_short}
use Rattle.pt_base.specs.declared.int_type.IntType.{IntType}
use Rattle.pt_base.specs.declared.int_type.IntType.TheVariants.{Char, SChar, UChar, Short, UShort, Int, UInt, Long, ULong}
use Rattle.pt_int.specs.Conversion.{is_in_range}
use Rattle.pt_tree.specs.declared.host_model.HostModel.{HostModel}
use Rattle.pt_tree.specs.declared.host_model.HostModel.TheVariants.{Table, Feed, Input, Bytes, Line}
use Rattle.pt_tree.specs.declared.row.Row.{Row}
use Rattle.pt_tree.specs.declared.signature.Param.{Param}
use Rattle.pt_tree.specs.declared.signature.ParamKind.{ParamKind}
use Rattle.pt_tree.specs.declared.signature.ParamKind.TheVariants as param
use Rattle.pt_tree.specs.declared.signature.Signature.{Signature}
use Rattle.host_models.specs.Mixed.{is_mixed}

abbrev is_int : IntType → Bool
is_int Char = false
is_int SChar = false
is_int UChar = false
is_int Short = false
is_int UShort = false
is_int Int = true
is_int UInt = false
is_int Long = false
is_int ULong = false

-- the result is of type int
abbrev pub gives_int : Option IntType → Bool
gives_int None = false
gives_int (Some t) = is_int t

-- a host may answer so by its result and its number of parameters, and by its marks
abbrev pub has_right_params : Signature → HostModel → Bool
has_right_params s (Table rows other) = is_some s.result && list_all (λ row. length row.args == length s.params) rows
has_right_params s (Feed values other next) = is_some s.result && not (is_mixed s)
has_right_params s (Input next) = gives_int s.result && (length s.params == 0) && not (is_mixed s)
has_right_params s Bytes = not (is_some s.result) && not (is_mixed s)
has_right_params s (Line name) = not (is_some s.result) && not (is_mixed s)

-- v is a number of the parameter's type; a pointer has none
abbrev pub is_in_param : ParamKind → ℤ → Bool
is_in_param (param.Int t) v = is_in_range t v
is_in_param (param.Ptr elem fixed) v = false

-- v is a number of the result's type; void has none
abbrev pub is_in_result : Option IntType → ℤ → Bool
is_in_result None v = false
is_in_result (Some t) v = is_in_range t v

-- each argument is a number of its parameter's type
abbrev pub are_in_params : List Param → List ℤ → Bool
are_in_params [] args = true
are_in_params (p ∷ ps) [] = true
are_in_params (p ∷ ps) (v ∷ vs) = is_in_param p.kind v && are_in_params ps vs

abbrev pub is_row_in_range : Signature → Row → Bool
is_row_in_range s row = are_in_params s.params row.args && is_in_result s.result row.result

-- each number is one of its parameter's or the result's type
abbrev pub has_numbers_in_range : Signature → HostModel → Bool
has_numbers_in_range s (Table rows other) = list_all (is_row_in_range s) rows && is_in_result s.result other
has_numbers_in_range s (Feed values other next) = list_all (is_in_result s.result) values && is_in_result s.result other
has_numbers_in_range s (Input next) = true
has_numbers_in_range s Bytes = true
has_numbers_in_range s (Line name) = true

-- a line begins with a short name
abbrev pub has_short_name : HostModel → Bool
has_short_name (Table rows other) = true
has_short_name (Feed values other next) = true
has_short_name (Input next) = true
has_short_name Bytes = true
has_short_name (Line name) = is_short name

-- the model may stand for a host of this signature
abbrev pub fits : HostModel → Signature → Bool
fits model s = has_right_params s model && has_numbers_in_range s model && has_short_name model
