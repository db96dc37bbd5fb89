-- A small half that meets all that the laws ask for: a struct with an array, a host, a function with a pointer and a
-- local struct, and a global whose number isn't its place.
use Rattle.std.proofs.Common.{◌≡◌, false, refl, true, Some, None, [], ◌∷◌, pos, codes}
use Rattle.std.specs.Fmt.{digits}
use Rattle.pt_base.specs.declared.int_type.IntType.TheVariants as i
use Rattle.pt_tree.specs.declared.signature.Elem.TheVariants as el
use Rattle.pt_tree.specs.declared.signature.ParamKind.TheVariants as k
use Rattle.pt_tree.specs.declared.signature.Signature.{Signature}
use Rattle.typed_tree.specs.declared.types.StructInfo.{StructInfo}
use Rattle.typed_tree.specs.declared.types.VarTy.{VarTy}
use Rattle.typed_tree.specs.declared.types.VarTy.TheVariants as v
use Rattle.typed_tree.specs.declared.variable.Var.{Var}
use Rattle.typed_tree.specs.Cells.{leaves_of}
use Rattle.pt_core.specs.CodeTree.{FunctionTree, ProgramTree, local, deref, place, read, stmt_and, no_stmts, assign, give_back}
use Rattle.check_declarations.specs.declared.fault.FaultKind.TheVariants.{OutOfProfile, TooLarge}
use Rattle.check_declarations.specs.Faults.{fault_at}
use Rattle.check_declarations.specs.Words.{same_words, are_one_of}
use Rattle.check_programs.specs.Blocks.{block_in}
use Rattle.check_programs.specs.Functions.{head_of, completed}
use Rattle.check_programs.specs.Programs.{checked_items}
use Rattle.check_programs.specs.Progress.{at_start}
use Rattle.pt_core.specs.WellFormed.{is_sound}
use Rattle.half_trees.specs.Halves.{half_tree}
use Rattle.half_trees.specs.Names.{nowhere}
use Rattle.half_meaning_law.specs.Statements.{BodiesKeepTheirMeaning}
use Rattle.half_names_law.specs.Declarable.{Declarable}
use Rattle.half_names_law.specs.Standing.{own_marks, whole_marks}
use Rattle.half_names_law.specs.Laws.{NamesKnown}
use Rattle.half_names_law.proofs.Law.{own_names}

abbrev int : VarTy
int = v.Int i.Int

abbrev variable : VarTy → Var
variable ty = record { name = []; span = nowhere; ty = ty; marked = false; unpriv = false; holds = None }

abbrev pair : StructInfo
pair = record { name = codes "pair"; fields = record { name = codes "a"; ty = int; marked = false } ∷ record { name = codes "b"; ty = v.Array (el.Int i.Char) 2; marked = true } ∷ [] }

-- void h(int)
abbrev host : Signature
host = record { name = codes "h"; result = None; params = record { kind = k.Int i.Int; marked = false; declassify = false } ∷ []; host = true; privileged = false; declassify = false }

-- int f(int, int *)
abbrev called : Signature
called = record {
  name = codes "f";
  result = Some i.Int;
  params = record { kind = k.Int i.Int; marked = false; declassify = false } ∷ record { kind = k.Ptr (el.Int i.Int) false; marked = true; declassify = true } ∷ [];
  host = false;
  privileged = true;
  declassify = false;
}

-- { struct pair v_2; v_2.m_a = *v_1; return v_0; }
abbrev function : FunctionTree
function = record {
  id = 7;
  params = 2;
  vars = variable int ∷ record (variable (v.Pointer (el.Int i.Int) false)) { marked = true } ∷ variable (v.Struct 0) ∷ [];
  body = stmt_and (assign (place (local 2) (0 ∷ [])) (read (place (deref (read (place (local 1) [])) nowhere) []))) (stmt_and (give_back (Some (read (place (local 0) [])))) no_stmts);
  end = nowhere;
}

abbrev half : ProgramTree
half = record {
  structs = pair ∷ [];
  signatures = (2, host) ∷ (7, called) ∷ [];
  functions = function ∷ [];
  globals = record { id = 3; var = variable (v.Struct 0); cells = pos 5 ∷ pos 6 ∷ pos 7 ∷ [] } ∷ [];
}

declarable : Declarable half
unfolding digits
declarable = record { structs = refl; fields = refl; functions = refl; globals = refl; variables = refl; signature_marks = refl; global_marks = refl; function_marks = refl }

known : BodiesKeepTheirMeaning → NamesKnown (own_marks true half) true half 0 function called
unfolding leaves_of
known bodies = own_names bodies true half 0 function called refl declarable refl refl refl refl

-- ---- a sound half whose text has a fault: one more cell than a function's variables may have

-- void g(void)
abbrev plain : Signature
plain = record { name = codes "g"; result = None; params = []; host = false; privileged = false; declassify = false }

-- { char v_0[16384]; int v_1; }
abbrev wide : ProgramTree
wide = record {
  structs = [];
  signatures = (0, plain) ∷ [];
  functions = record { id = 0; params = 0; vars = variable (v.Array (el.Int i.Char) 16384) ∷ variable int ∷ []; body = no_stmts; end = nowhere } ∷ [];
  globals = [];
}

wide_sound : is_sound false wide ≡ true
unfolding leaves_of
wide_sound = refl

too_large : (checked_items (own_marks false wide) at_start (half_tree false wide)).faults ≡ fault_at TooLarge nowhere ∷ []
unfolding digits head_of completed block_in same_words are_one_of
too_large = refl

-- ---- what a slave's half declares for its monitor: a pointer is a fault, where only the half itself is asked

-- void h(int *), which is privileged
abbrev asked : ProgramTree
asked = record {
  structs = [];
  signatures = (0, record plain { params = record { kind = k.Ptr (el.Int i.Int) false; marked = false; declassify = false } ∷ []; privileged = true }) ∷ [];
  functions = [];
  globals = [];
}

no_pointer : (checked_items (own_marks false asked) at_start (half_tree false asked)).faults ≡ fault_at OutOfProfile nowhere ∷ []
unfolding digits head_of completed same_words are_one_of
no_pointer = refl

pointer_as_written : (checked_items (whole_marks false asked) at_start (half_tree false asked)).faults ≡ []
unfolding digits head_of completed same_words are_one_of
pointer_as_written = refl
