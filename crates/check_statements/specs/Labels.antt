-- The labels of a switch (C99 6.8.1, 6.8.4.2).
use Rattle.std.specs.Prelude.{◌+◌, min, ℤ, pos, List, [], ◌∷◌, ◌++◌, Bool, true, false, ◌&&◌, Option, Some, None, if◌then◌else◌}
use Rattle.std.specs.List.{list_any}
use Rattle.std.specs.Ordering.{int_eq}
use Rattle.pt_base.specs.declared.int_type.IntType.TheVariants as int
use Rattle.pt_base.specs.declared.span.Span.{Span}
use Rattle.pt_base.specs.IntTypes.{promoted}
use Rattle.pt_int.specs.Conversion.{conv}
use Rattle.pt_tree.specs.ExpressionTree as e
use Rattle.pt_tree.specs.StatementTree.{LabelTree, case_label, default_label}
use Rattle.type_rules.specs.declared.types.Type.{«Type»}
use Rattle.type_rules.specs.declared.types.Type.TheVariants.{Bad, Void, Int, Struct, Array, Pointer}
use Rattle.typed_tree.specs.declared.statement.TypedLabel.{TypedLabel}
use Rattle.typed_tree.specs.declared.statement.TypedLabel.TheVariants as l
use Rattle.check_declarations.specs.declared.fault.FaultKind.TheVariants.{Redeclared, OutOfProfile}
use Rattle.check_declarations.specs.declared.fault.TypeFault.{TypeFault}
use Rattle.check_declarations.specs.Faults.{fault_at, fault_if}
use Rattle.check_declarations.specs.Structs.{Structs}
use Rattle.check_expressions.specs.Environment.{Env}
use Rattle.check_expressions.specs.Expressions.{judge}
use Rattle.check_expressions.specs.Operands.{span_of}
use Rattle.check_statements.specs.declared.constants.Number.{Number}
use Rattle.check_statements.specs.declared.switches.Kind.{Kind}
use Rattle.check_statements.specs.Constants.{number_of}

-- ---- the controlling expression

-- The type to which case values are converted, and whether they are compared: where the controlling
-- expression is no integer they are not, and any type will do.
abbrev pub kind_of : «Type» → Kind
kind_of Bad = record { ty = int.Int; compared = false }
kind_of Void = record { ty = int.Int; compared = false }
kind_of (Int t) = record { ty = promoted t; compared = true }
kind_of (Struct n) = record { ty = int.Int; compared = false }
kind_of (Array e count) = record { ty = int.Int; compared = false }
kind_of (Pointer e fixed) = record { ty = int.Int; compared = false }

-- it must be an integer
abbrev pub is_no_integer : «Type» → Bool
is_no_integer Bad = false
is_no_integer Void = true
is_no_integer (Int t) = false
is_no_integer (Struct n) = true
is_no_integer (Array e count) = true
is_no_integer (Pointer e fixed) = true

-- ---- the labels

-- the labels of a switch so far: the values of its cases, each once, and whether there is a default
pub record Seen : Type 0 where
  pub cases : List ℤ
  pub has_default : Bool

abbrev pub none_seen : Seen
none_seen = record { cases = []; has_default = false }

abbrev pub is_seen : List ℤ → ℤ → Bool
is_seen cases v = list_any (int_eq v) cases

abbrev pub with_case : List ℤ → ℤ → List ℤ
with_case cases v = if is_seen cases v then cases else cases ++ v ∷ []

-- a label: the structs and labels behind it, the label in the typed tree, and the faults
pub record Labelled : Type 0 where
  pub structs : Structs
  pub seen : Seen
  pub label : TypedLabel
  pub faults : List TypeFault

-- the word `default`, with which a label begins; spans end by 2 to the 32
abbrev pub default_word : Span → Span
default_word s = record { from = s.from; to = min (s.from + 7) 4294967295 }

-- the labels behind a case of this value; cases that aren't compared aren't kept
abbrev pub case_seen : Kind → Seen → ℤ → Seen
case_seen kind seen v = record { cases = if kind.compared then with_case seen.cases v else seen.cases; has_default = seen.has_default }

-- the second case of a value is a fault, where cases are compared
abbrev pub case_faults : Kind → Seen → Span → ℤ → List TypeFault
case_faults kind seen at v = fault_if (kind.compared && is_seen seen.cases v) Redeclared at

-- a case of this value; its expression has the span `at`
abbrev pub case_of : Kind → Structs → Seen → Span → Span → ℤ → Labelled
case_of kind structs seen s at v = record { structs = structs; seen = case_seen kind seen v; label = l.Case s v; faults = case_faults kind seen at v }

abbrev pub case_by : Env → Kind → Structs → Seen → Span → e.ExprTree → Option Number → Labelled
case_by env kind structs seen s a (Some n) = case_of kind structs seen s (span_of a) (conv kind.ty n.value)
case_by env kind structs seen s a None =
    let j = judge env structs a in
    record { structs = j.structs; seen = seen; label = l.Case s (pos 0); faults = j.faults ++ fault_at OutOfProfile (span_of a) ∷ [] }

abbrev pub labelled : Env → Kind → Structs → Seen → LabelTree → Labelled
labelled env kind structs seen (case_label s a) = case_by env kind structs seen s a (number_of a)
labelled env kind structs seen (default_label s) = record {
  structs = structs;
  seen = record { cases = seen.cases; has_default = true };
  label = l.Default s;
  faults = fault_if seen.has_default Redeclared (default_word s);
}
