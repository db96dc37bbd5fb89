use Rattle.std.proofs.Common.{◌≡◌, ◌<◌, ◌+◌, ◌^◌, ◌∙◌, Err, ℕ, suc, false, arith, refl, rules, sym}
use Rattle.pt_base.proofs.Booleans.{true_not_false}
use Rattle.sessions.specs.declared.error.HubError.TheVariants.{Memory}
use Rattle.sessions.specs.Hubs as s
use Rattle.sessions.specs.Hubs.{with_opened}
use Rattle.sessions.proofs.HubCalls.{opened_others}
use Rattle.sessions.proofs.HubSeats.{opened_hub, same_hub, same_others}
use Rattle.sessions.proofs.hub.Hub.open.Goals as goal

-- ---- as many are open as may be

pub returns-then-is_full-clause-full : goal.returns-then-is_full-clause-full
returns-then-is_full-clause-full c h is = (λ e. sym (c.is_full.ensures h is) ∙ c.if-is_full.true, λ full. refl)

pub returns-then-is_full-clause-others : goal.returns-then-is_full-clause-others
returns-then-is_full-clause-others c h is = (h, is, same_others h h.opened)

-- ---- memory was wanting

pub seat-requires : goal.seat-requires
seat-requires c = (c.requires.stands.0, c.requires.stands.1)

pub returns-in_err-seat-clause-full : goal.returns-in_err-seat-clause-full
returns-in_err-seat-clause-full c h is =
    let wants : c.from_residual.result ≡ Err Memory = search rules in
    rw wants (λ e. cc, λ full. true_not_false (sym full ∙ sym (c.is_full.ensures h is) ∙ c.if-is_full.false))

pub returns-in_err-seat-clause-others : goal.returns-in_err-seat-clause-others
returns-in_err-seat-clause-others c h is = (h, is, same_others h h.opened)

pub returns-in_err-push-clause-full : goal.returns-in_err-push-clause-full
returns-in_err-push-clause-full c h is =
    let wants : c.from_residual-in_err-push.result ≡ Err Memory = search rules in
    rw wants (λ e. cc, λ full. true_not_false (sym full ∙ sym (c.is_full.ensures h is) ∙ c.if-is_full.false))

pub returns-in_err-push-clause-same : goal.returns-in_err-push-clause-same
returns-in_err-push-clause-same c =
    let wants : c.from_residual-in_err-push.result ≡ Err Memory = search rules in
    rw wants (λ h is. same_hub c.args.self.now c.push.new.self h is c.in_err-push.ensures.items)

pub returns-in_err-push-clause-others : goal.returns-in_err-push-clause-others
returns-in_err-push-clause-others c h is = (h, same_hub c.args.self.now c.push.new.self h is c.in_err-push.ensures.items, same_others h h.opened)

-- ---- it was opened

next_fits : (opened n : ℕ) → opened ≡ n → suc n < 2 ^ 32 → opened + 1 < 2 ^ 32
next_fits opened n same small = omega (arith, same, small)

pub overflow_add-self : goal.overflow_add-self
overflow_add-self c = let small = next_fits c.args.self.now.opened c.requires.stands.0.opened c.requires.stands.1.opened c.requires.stands.2 in grind (arith, small)

pub returns-clause-opened : goal.returns-clause-opened
returns-clause-opened c h is =
    let room : s.is_full h ≡ false = sym (c.is_full.ensures h is) ∙ c.if-is_full.false in (
      is.opened,
      room,
      opened_hub c.args.self.now c.push.new.self (c.args.self.now.opened + 1) h c.args.input.now c.in_ok-seat.seat is room refl c.in_ok-push.ensures.items (c.in_ok-seat.ensures h is),
    )

pub returns-clause-full : goal.returns-clause-full
returns-clause-full c h is = (λ e. cc, λ full. true_not_false (sym full ∙ sym (c.is_full.ensures h is) ∙ c.if-is_full.false))

pub returns-clause-others : goal.returns-clause-others
returns-clause-others c h is =
    let room : s.is_full h ≡ false = sym (c.is_full.ensures h is) ∙ c.if-is_full.false in (
      with_opened c.args.input.now h,
      opened_hub c.args.self.now c.push.new.self (c.args.self.now.opened + 1) h c.args.input.now c.in_ok-seat.seat is room refl c.in_ok-push.ensures.items (c.in_ok-seat.ensures h is),
      opened_others h c.args.input.now,
    )
