-- Struct specifiers, with a body and as they stand in a tree.
use Rattle.std.proofs.Common.{◌≡◌, ◌∙◌, refl, ap, sym, List, [], ◌∷◌, ◌++◌, Bool, true, false, length, nat_eq, Vec, Result, Ok, Err, if◌then◌else◌, append_assoc}
use Rattle.std.specs.declared.alloc.AllocError.{AllocError}
use Rattle.std.specs.declared.alloc.Global.{Global}
use Rattle.pt_base.specs.declared.span.Span.{Span}
use Rattle.pt_tree.specs.declared.word.Word.{Word}
use Rattle.pt_tree.specs.declared.specifier.FieldDecl.{FieldDecl}
use Rattle.pt_tree.specs.declared.specifier.Spec.{Spec}
use Rattle.pt_tree.specs.declared.specifier.Spec.TheVariants.{Struct}
use Rattle.pt_tree.specs.SpecifierTree.{view_spec}
use Rattle.pt_tree.proofs.ListsInTrees.{view_structure}
use Rattle.type_rules.specs.declared.types.Type.{«Type»}
use Rattle.check_declarations.specs.declared.fault.TypeFault.{TypeFault}
use Rattle.check_declarations.specs.declared.findings.Findings.{Findings}
use Rattle.check_declarations.specs.Gives.{GivesNamed}
use Rattle.check_declarations.specs.Structs.{Fields, Structs}
use Rattle.check_declarations.specs.Specifiers.{Naming, defined_by, referred, has_fields, body_of, named_by, named_struct, view_body}

-- a struct specifier of a tree, by the list of its fields
pub named_is : (at_file : Bool) (first : Span) (structs : Structs) (spec : Spec) (s : Span) (tag : Word) (body : Vec FieldDecl Global) (fields : List FieldDecl)
    → spec ≡ Struct s tag body → fields ≡ body.items → named_struct at_file first structs tag fields ≡ named_by at_file first structs (view_spec spec)
named_is at_file first structs spec s tag body fields is same =
    ap (λ fs. named_struct at_file first structs tag fs) same
    ∙ ap (named_by at_file first structs) (sym (ap view_spec is ∙ view_structure s tag body))

has_any : (fields : List FieldDecl) → nat_eq (length fields) 0 ≡ false → has_fields (view_body fields) ≡ true
has_any [] h = cc
has_any (f ∷ fs) h = refl

-- a struct specifier with a body names what its fields define
pub named_with_body : (at_file : Bool) (first : Span) (structs after : Structs) (tag : Word) (body : List FieldDecl) (fields : Fields)
    → nat_eq (length body) 0 ≡ false
    → after ≡ (body_of structs [] (view_body body)).structs → fields ≡ (body_of structs [] (view_body body)).fields
    → named_struct at_file first structs tag body
    ≡ defined_by at_file first tag (record { structs = after; fields = fields; faults = (body_of structs [] (view_body body)).faults })
named_with_body at_file first structs after tag body fields some s f =
    let b = body_of structs [] (view_body body) in
    ap (λ x. if x then defined_by at_file first tag b else referred structs tag) (has_any body some)
    ∙ ap (λ x. defined_by at_file first tag (record { structs = x; fields = b.fields; faults = b.faults })) (sym s)
    ∙ ap (λ x. defined_by at_file first tag (record { structs = after; fields = x; faults = b.faults })) (sym f)

-- what follows findings that have added faults already
pub after_faults : (r : Result «Type» AllocError) (before middle after : Findings) (n : Naming) (faults : List TypeFault)
    → middle.faults.items ≡ before.faults.items ++ faults → GivesNamed r middle after n
    → GivesNamed r before after (record { structs = n.structs; types = n.types; faults = faults ++ n.faults })
after_faults (Ok ty) before middle after n faults m h =
    (h.0, record { structs_are = h.1.structs_are; faults_are = h.1.faults_are ∙ ap (λ xs. xs ++ n.faults) m ∙ append_assoc before.faults.items faults n.faults })
after_faults (Err e) before middle after n faults m h = tt {0}
