use Rattle.std.proofs.Common.{◌∙◌, ap, option_map, slice_get, sym}
use Rattle.code_rules.specs.Parts.{field_in}
use Rattle.code_rules.proofs.PathLemmas.{field_found}
use Rattle.code_rules.proofs.fields.field_type.Goals as goal

pub returns-in-Struct : goal.returns-in-Struct
returns-in-Struct c =
    c.type_of_field.ensures ∙ ap (λ xs. option_map (λ f. f.ty) (slice_get xs c.args.field)) c.fields_of.ensures ∙ field_found c.args.structs.now c.in-Struct.structure c.args.field
    ∙ ap (λ t. field_in c.args.structs.now t c.args.field) (sym c.in-Struct.is)
