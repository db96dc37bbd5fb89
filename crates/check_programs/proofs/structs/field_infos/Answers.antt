use Rattle.std.proofs.Common.{rules, ◌≡◌, ◌∙◌, sym, ◌<◌, ◌++◌, [], ◌∷◌, Some, length}
use Rattle.std.specs.Prelude.{option_map, slice_get}
use Rattle.check_expressions.specs.StructInfos.{field_info}
use Rattle.check_programs.proofs.StructLemmas.{one_more, is_there}
use Rattle.check_programs.proofs.structs.field_infos.Goals as goal
use Rattle.check_programs.proofs.structs.field_infos.Goals.{in-Some+in_ok-push-in-Some, in-None}

pub loop-number-preserved : goal.loop-number-preserved
loop-number-preserved c =
    elim c.match-branch-2.branch [
      | in-Some+in_ok-push-in-Some w ↦
          let found : Some w.in-Some.info ≡ option_map field_info (slice_get c.args.fields.now c.loop-number.number) = sym w.in-Some.is ∙ c.in_ok-info.ensures in
          let pushed : c.match-branch-2.infos.items ≡ c.loop-number.infos.items ++ w.in-Some.info ∷ [] = search rules in
          one_more field_info c.args.fields.now c.loop-number.number w.in-Some.info c.loop-number.infos.items c.match-branch-2.infos.items _ found pushed c.loop-number.invariant
      | in-None w ↦
          let within : c.loop-number.number < length c.args.fields.now = search rules in
          absurd (is_there field_info c.args.fields.now c.loop-number.number within (sym w.in-None.is ∙ c.in_ok-info.ensures))
    ]
