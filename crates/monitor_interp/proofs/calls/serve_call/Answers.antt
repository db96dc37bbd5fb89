use Rattle.std.proofs.Common.{List, map, subst, sym}
use Rattle.std.specs.Prelude.{IsTrue}
use Rattle.pt_base.specs.declared.ids.FnId.{FnId}
use Rattle.pt_tree.specs.declared.signature.Signature.{Signature}
use Rattle.typed_tree.specs.declared.types.StructInfo.{StructInfo}
use Rattle.typed_tree.specs.WellFormed.{are_rising}
use Rattle.pt_core.specs.CodeTree.{numbered}
use Rattle.pt_core.specs.declared.monitor.Entry.{Entry}
use Rattle.marshalling.specs.Handles.{unpacking}
use Rattle.marshalling.specs.Leaves.{has_structs}
use Rattle.serving_rules.specs.Asking.{Finds, IsAsked, IsNamedBy}
use Rattle.serving_rules.specs.Opening as opening
use Rattle.serving_rules.specs.Opening.{broken_by}
use Rattle.monitor_interp.specs.Handling.{Acts}
use Rattle.monitor_interp.specs.Standing.{Stands}
use Rattle.monitor_interp.proofs.CallLemmas.{call_for, entries_rise, named_by, not_asked, rule_broken, rules_kept, signatures_rise, structs_there, verdict_kept}
use Rattle.monitor_interp.proofs.calls.serve_call.Goals as goal

pub asked_for-requires-clause-signatures : goal.asked_for-requires-clause-signatures
asked_for-requires-clause-signatures c =
    let stands = c.requires.stands.1 in
    subst (λ (xs : List (FnId × Signature)). IsTrue (are_rising 0 (map (λ s. s.0) (numbered xs)))) (sym c.names_of-names.ensures.signatures)
    (signatures_rise c.args.program.now c.requires.stands.0.program stands.named stands.sound.program)

pub asked_for-requires-clause-entries : goal.asked_for-requires-clause-entries
asked_for-requires-clause-entries c =
    let stands = c.requires.stands.1 in
    subst (λ (xs : List Entry). IsTrue (are_rising 0 (map (λ e. e.function.0) xs))) (sym c.names_of-names.ensures.entries)
    (entries_rise c.args.program.now c.requires.stands.0.program stands.named stands.sound.program)

pub returns-in_default : goal.returns-in_default
returns-in_default c m x stands room said =
    let named : IsNamedBy m.program c.names_of-names.result = named_by c.args.program.now c.names_of-names.result m.program stands.named stands.sound.program c.names_of-names.ensures.structs c.names_of-names.ensures.signatures c.names_of-names.ensures.entries in
    not_asked (Stands c.args.program.now c.args.state.now) m x c.args.left c.args.call c.args.out.now.items (subst (λ o. Finds m.program c.args.call.function.0 o) c.in_default.is (c.asked_for.ensures m.program named)) stands

pub opened_call-requires : goal.opened_call-requires
opened_call-requires c =
    let m = c.requires.stands.0 in
    let stands = c.requires.stands.1 in
    let named : IsNamedBy m.program c.names_of-names.result = named_by c.args.program.now c.names_of-names.result m.program stands.named stands.sound.program c.names_of-names.ensures.structs c.names_of-names.ensures.signatures c.names_of-names.ensures.entries in
    let entry : IsAsked m.program c.args.call.function.0 c.in-Some.asked = c.in-Some.ensures m.program named in
    subst (λ (ss : List StructInfo). IsTrue (has_structs ss c.in-Some.asked.signature.now.params)) (sym c.names_of-names.ensures.structs)
    (structs_there c.args.program.now c.args.state.now m c.args.call.function.0 c.in-Some.asked.signature.now stands entry.entry)

pub returns-in-Breaks : goal.returns-in-Breaks
returns-in-Breaks c m x stands room said =
    let named : IsNamedBy m.program c.names_of-names.result = named_by c.args.program.now c.names_of-names.result m.program stands.named stands.sound.program c.names_of-names.ensures.structs c.names_of-names.ensures.signatures c.names_of-names.ensures.entries in
    let entry : IsAsked m.program c.args.call.function.0 c.in-Some.asked = c.in-Some.ensures m.program named in
    rule_broken c.args.program.now c.args.state.now m x c.args.left c.names_of-names.result.structs.now c.args.call c.in-Some.asked.signature.now c.in-Breaks.rule c.args.out.now.items stands c.names_of-names.ensures.structs entry.entry (subst (λ o. opening.IsOpened o (broken_by c.names_of-names.result.structs.now c.args.state.now.store c.in-Some.asked.signature.now c.args.call.depth c.args.call.wants c.args.call.body.now) (unpacking c.args.state.now.store c.names_of-names.result.structs.now c.in-Some.asked.signature.now.params c.args.call.body.now)) c.in-Breaks.is c.in_ok-inputs.ensures)

pub serve_opened-requires : goal.serve_opened-requires
serve_opened-requires c =
    let m = c.requires.stands.0 in
    let stands = c.requires.stands.1 in
    let named : IsNamedBy m.program c.names_of-names.result = named_by c.args.program.now c.names_of-names.result m.program stands.named stands.sound.program c.names_of-names.ensures.structs c.names_of-names.ensures.signatures c.names_of-names.ensures.entries in
    let entry : IsAsked m.program c.args.call.function.0 c.in-Some.asked = c.in-Some.ensures m.program named in (
      m,
      call_for m c.args.call c.in-Some.asked.signature.now,
      rules_kept c.args.program.now c.args.state.now m c.args.left c.names_of-names.result.structs.now c.args.call c.in-Some.asked c.in-Fits.inputs stands c.requires.stands.2 c.requires.counts c.names_of-names.ensures.structs entry (subst (λ o. opening.IsOpened o (broken_by c.names_of-names.result.structs.now c.args.state.now.store c.in-Some.asked.signature.now c.args.call.depth c.args.call.wants c.args.call.body.now) (unpacking c.args.state.now.store c.names_of-names.result.structs.now c.in-Some.asked.signature.now.params c.args.call.body.now)) c.in-Fits.is c.in_ok-inputs.ensures),
    )

pub returns-in_ok-handled-in-Fits : goal.returns-in_ok-handled-in-Fits
returns-in_ok-handled-in-Fits c m x stands room said =
    let named : IsNamedBy m.program c.names_of-names.result = named_by c.args.program.now c.names_of-names.result m.program stands.named stands.sound.program c.names_of-names.ensures.structs c.names_of-names.ensures.signatures c.names_of-names.ensures.entries in
    let entry : IsAsked m.program c.args.call.function.0 c.in-Some.asked = c.in-Some.ensures m.program named in
    subst (λ v. Acts (Stands c.args.program.now c.serve_opened.new.state) m x c.args.left v c.in_ok-handled-in-Fits.handled c.args.out.now.items c.serve_opened.new.out.items)
    (sym (verdict_kept c.args.program.now c.args.state.now m c.names_of-names.result.structs.now c.args.call c.in-Some.asked c.in-Fits.inputs stands c.names_of-names.ensures.structs entry (subst (λ o. opening.IsOpened o (broken_by c.names_of-names.result.structs.now c.args.state.now.store c.in-Some.asked.signature.now c.args.call.depth c.args.call.wants c.args.call.body.now) (unpacking c.args.state.now.store c.names_of-names.result.structs.now c.in-Some.asked.signature.now.params c.args.call.body.now)) c.in-Fits.is c.in_ok-inputs.ensures)))
    (c.in_ok-handled-in-Fits.ensures m x (call_for m c.args.call c.in-Some.asked.signature.now)
    (rules_kept c.args.program.now c.args.state.now m c.args.left c.names_of-names.result.structs.now c.args.call c.in-Some.asked c.in-Fits.inputs stands room c.requires.counts c.names_of-names.ensures.structs entry (subst (λ o. opening.IsOpened o (broken_by c.names_of-names.result.structs.now c.args.state.now.store c.in-Some.asked.signature.now c.args.call.depth c.args.call.wants c.args.call.body.now) (unpacking c.args.state.now.store c.names_of-names.result.structs.now c.in-Some.asked.signature.now.params c.args.call.body.now)) c.in-Fits.is c.in_ok-inputs.ensures)) said)
