-- Attributes, where each may stand, and what they mark.
use Rattle.std.specs.Prelude.{ℕ, List, Bool, true, false, not, ◌&&◌, ◌||◌, flat_map, codes, if◌then◌else◌}
use Rattle.std.specs.Str.{bytes_eq}
use Rattle.std.specs.List.{list_any}
use Rattle.pt_tree.specs.declared.word.Word.{Word}
use Rattle.check_declarations.specs.declared.fault.TypeFault.{TypeFault}
use Rattle.check_declarations.specs.declared.fault.FaultKind.TheVariants.{BadAttribute}
use Rattle.check_declarations.specs.declared.marks.Attribute.{Attribute}
use Rattle.check_declarations.specs.declared.marks.Carrier.{Carrier}
use Rattle.check_declarations.specs.declared.marks.Carrier.TheVariants.{Global, Object, Field, Function, Parameter, Nothing}
use Rattle.check_declarations.specs.declared.marks.Mark.{Mark}
use Rattle.check_declarations.specs.declared.marks.Mark.TheVariants.{Priv, Unpriv, Declassify, Other}
use Rattle.check_declarations.specs.declared.marks.Marks.{Marks}
use Rattle.check_declarations.specs.Faults.{fault_if}

abbrev pub mark_of : List ℕ → Mark
mark_of name =
    if bytes_eq name (codes "priv") then Priv
    else if bytes_eq name (codes "unpriv") then Unpriv
    else if bytes_eq name (codes "declassify") then Declassify
    else Other

abbrev pub attribute_of : Word → Attribute
attribute_of word = record { span = word.span; mark = mark_of word.bytes }

abbrev pub is_priv : Mark → Bool
is_priv Priv = true
is_priv m = false

abbrev pub is_unpriv : Mark → Bool
is_unpriv Unpriv = true
is_unpriv m = false

abbrev pub is_declassify : Mark → Bool
is_declassify Declassify = true
is_declassify m = false

abbrev pub marks_of : List Attribute → Marks
marks_of attributes = record {
  marked = list_any (λ a. is_priv a.mark) attributes;
  unpriv = list_any (λ a. is_unpriv a.mark) attributes;
  declassify = list_any (λ a. is_declassify a.mark) attributes;
}

-- the attribute may stand before this; `marked` says that `priv` stands in the same list
abbrev pub may_stand : Carrier → Bool → Mark → Bool
may_stand Global marked Priv = true
may_stand Global marked Unpriv = not marked
may_stand Global marked Declassify = true
may_stand Global marked Other = false
may_stand Object marked Priv = true
may_stand Object marked Unpriv = not marked
may_stand Object marked Declassify = false
may_stand Object marked Other = false
may_stand Field marked Priv = true
may_stand Field marked Unpriv = false
may_stand Field marked Declassify = false
may_stand Field marked Other = false
may_stand (Function privileged) marked Priv = true
may_stand (Function privileged) marked Unpriv = false
may_stand (Function privileged) marked Declassify = privileged
may_stand (Function privileged) marked Other = false
may_stand (Parameter privileged host returns) marked Priv = true
may_stand (Parameter privileged host returns) marked Unpriv = not (marked || (privileged || host))
may_stand (Parameter privileged host returns) marked Declassify = privileged && (not host && returns)
may_stand (Parameter privileged host returns) marked Other = false
may_stand Nothing marked m = false

-- a fault at each attribute that may not stand before this
abbrev pub mark_faults : Carrier → List Attribute → List TypeFault
mark_faults carrier attributes = flat_map (λ a. fault_if (not (may_stand carrier (marks_of attributes).marked a.mark)) BadAttribute a.span) attributes
