-- What stands in a typed program: its functions by number and by name, and their parts.
use Rattle.std.specs.Prelude.{◌≡◌, ℕ, suc, List, [], ◌∷◌, Option, Some, None, if◌then◌else◌, option_map, option_and_then, slice_get}
use Rattle.std.specs.Str.{bytes_eq}
use Rattle.pt_base.specs.declared.ids.FnId.{FnId}
use Rattle.pt_tree.specs.declared.signature.Signature.{Signature}
use Rattle.typed_tree.specs.declared.part.Part.{Part}
use Rattle.typed_tree.specs.StatementTree.{BodyTree}
use Rattle.typed_tree.specs.TypedTree.{FunctionTree, TypedTree}
use Rattle.typed_tree.specs.Parts.{function_parts}

-- the function of this number; None where there is none
abbrev pub function_at : TypedTree → FnId → Option FunctionTree
function_at t f = slice_get t.functions f.0

abbrev pub signature_of : TypedTree → FnId → Option Signature
signature_of t f = option_map (λ g. g.signature) (function_at t f)

-- the body of the function of this number; None of a host, and where there is no such function
abbrev pub body_of : TypedTree → FnId → Option BodyTree
body_of t f = option_and_then (λ g. g.body) (function_at t f)

-- the function with this name among those from this number on; None where no function has it
abbrev pub named_from : ℕ → List FunctionTree → List ℕ → Option FnId
named_from k [] name = None
named_from k (f ∷ fs) name = if bytes_eq f.signature.name name then Some (record { 0 = k }) else named_from (suc k) fs name

-- the function with this name; None where no function has it
abbrev pub function_named : TypedTree → List ℕ → Option FnId
function_named t name = named_from 0 t.functions name

-- the function of this number has this name
abbrev pub HasName : TypedTree → FnId → List ℕ → Type 0
HasName t f name = option_map (λ s. s.name) (signature_of t f) ≡ Some name

-- the parts of the function of this number, none of a host
abbrev pub parts_in : TypedTree → FnId → List Part
parts_in t f = function_parts (body_of t f)
