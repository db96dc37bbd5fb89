use Rattle.std.proofs.Common.{◌∙◌, ap, sym}
use Rattle.typed_tree.specs.Sizes.{fields_of, sizes_of}
use Rattle.pt_core.specs.Values.{offset_in}
use Rattle.core_code.specs.Starts.{start_in}
use Rattle.core_code.proofs.StartLemmas.{offset_found}
use Rattle.core_code.proofs.struct_layout.StructLayout.offset.Goals as goal

pub returns-in-Struct : goal.returns-in-Struct
returns-in-Struct c =
    c.start_at.ensures
    ∙ ap (λ l. start_in l c.args.field) c.starts.ensures
    ∙ offset_found (sizes_of c.args.self.now) (fields_of c.args.self.now c.in-Struct.structure) c.args.field
    ∙ sym (ap (λ ty. offset_in c.args.self.now ty c.args.field) c.in-Struct.is)
