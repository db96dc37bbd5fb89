-- A new question has no answer yet, an old one has.
use Rattle.std.proofs.Common.{◌≡◌, ◌∙◌, ℕ, List, None, Option, Some, ap, refl, slice_get, sym}
use Rattle.std.proofs.lemmas.Bool.{ltb-false, ltb-true}
use Rattle.std.proofs.lemmas.Option.{slice_get_past, slice_get_read}
use Rattle.flow_rules.proofs.MemoLemmas.{asked_new, asked_old, never_missing, old_answer, still_known}
use Rattle.flow_rules.proofs.memo.Memo.answer.Goals as goal

pub returns-then-is_new-clause-new : goal.returns-then-is_new-clause-new
returns-then-is_new-clause-new c = λ p knows. (c.args.self.now.asked.keys, asked_new _ _ c.args.asked _ c.in_ok-index.ensures.keys c.in_ok-index.ensures.added c.if-is_new.true, knows)

pub returns-in-Some-clause-known : goal.returns-in-Some-clause-known
returns-in-Some-clause-known c = λ p knows.
    let same = asked_old _ _ c.args.asked _ c.in_ok-index.ensures.keys c.in_ok-index.ensures.added c.if-is_new.false in
    let stored = c.in_ok-index.ensures.stored in
    let found : slice_get c.args.self.now.answers.items c.in_ok-index.index ≡ Some c.in-Some.answer.now =
    ap (λ (ss : List (Option ℕ)). slice_get ss c.in_ok-index.index) (sym c.deref.ensures.value)
    ∙ slice_get_read c.deref.result.now _ c.in_ok-index.index c.in-Some.answer.now refl (ltb-true _ _ (sym c.in-Some.ensures.lookup.0)) c.in-Some.ensures.lookup.1 in
    (old_answer p _ _ c.args.self.now.answers.items c.in_ok-index.index c.args.asked stored.0 _ knows same stored.1 stored.2 found, still_known p _ _ c.args.self.now.answers.items knows same)

pub returns-in-Some-clause-new : goal.returns-in-Some-clause-new
returns-in-Some-clause-new c = λ p knows. tt

pub returns-in-None-clause-new : goal.returns-in-None-clause-new
returns-in-None-clause-new c = λ p knows.
    let same = asked_old _ _ c.args.asked _ c.in_ok-index.ensures.keys c.in_ok-index.ensures.added c.if-is_new.false in
    let stored = c.in_ok-index.ensures.stored in
    let missing : slice_get c.args.self.now.answers.items c.in_ok-index.index ≡ None =
    ap (λ (ss : List (Option ℕ)). slice_get ss c.in_ok-index.index) (sym c.deref.ensures.value) ∙ slice_get_past c.deref.result.now c.in_ok-index.index (ltb-false _ _ (sym c.in-None.ensures.lookup.0)) in
    absurd (never_missing p _ _ c.args.self.now.answers.items c.in_ok-index.index stored.0 knows same stored.1 missing)
