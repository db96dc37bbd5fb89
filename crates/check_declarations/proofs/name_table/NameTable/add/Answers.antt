use Rattle.std.proofs.Common.{◌≡◌, ◌∙◌, ap, arith, refl, true}
use Rattle.check_declarations.specs.NameTables.{is_new, with_name}
use Rattle.check_declarations.proofs.NameTableLemmas.{named-insert}
use Rattle.check_declarations.proofs.name_table.NameTable.add.Goals as goal

pub returns-clause-added : goal.returns-clause-added
returns-clause-added g c =
    let new : is_new c.args.self.now c.args.name.now ≡ true = grind arith in
    named-insert _ (λ a b. refl) _ _ c.in_ok-from_slice.field-0 c.args.name.now c.args.value
    c.in_ok-from_slice.ensures.items (ap (λ t. is_new t c.args.name.now) c.self.view_is ∙ new) c.in_ok-insert.ensures.entries
    ∙ ap (λ t. with_name t c.args.name.now c.args.value) c.self.view_is
