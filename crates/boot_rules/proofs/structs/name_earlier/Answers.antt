use Rattle.std.proofs.Common.{◌≡◌, ◌∙◌, ◌==◌, ℕ, ap, arith, false, length, sym, true}
use Rattle.std.specs.Prelude.{◌&&◌, nat_le}
use Rattle.std.specs.List.{list_all}
use Rattle.std.proofs.lemmas.Bool.Decides.{nat_tests}
use Rattle.typed_tree.specs.declared.types.Field.{Field}
use Rattle.typed_tree.specs.WellFormed.{is_plain_type}
use Rattle.boot_rules.proofs.structs.name_earlier.Goals as goal

some_field : (n : ℕ) → (n == 0) ≡ false → nat_le 1 n ≡ true
some_field n h = grind (arith, nat_tests)

pub returns-then-not-is_empty : goal.returns-then-not-is_empty
returns-then-not-is_empty c =
    c.are_plain.ensures
    ∙ ap (λ b. b && list_all (λ (f : Field). is_plain_type c.args.earlier f.ty) c.args.fields.now) (sym (some_field (length c.args.fields.now) (sym c.is_empty.ensures ∙ c.if-not-is_empty.true)))
