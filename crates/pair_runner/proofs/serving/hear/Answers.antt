use Rattle.std.proofs.Common.{◌≡◌, ℕ, List, ◌++◌, Err, subst, arith, rules}
use Rattle.pt_base.proofs.Lists.{not_nil_by_length}
use Rattle.wire.specs.Limits.{IsBytes}
use Rattle.pair_runner.specs.declared.fault.RunFault.TheVariants.{Memory}
use Rattle.pair_runner.proofs.Moving.{gave_one}
use Rattle.pair_runner.proofs.Parts.{nothing}
use Rattle.pair_runner.proofs.serving.hear.Goals as goal

pub returns-in_err-feed-clause-err : goal.returns-in_err-feed-clause-err
returns-in_err-feed-clause-err g c =
    let is : c.from_residual-in_err-feed.result ≡ Err Memory = search rules in
    rw is (
      c.in_ok-piece.piece.items,
      subst IsBytes c.as_slice-bytes.ensures.value c.are_bytes.ensures,
      omega (arith, c.in_ok-piece.ensures.length, c.in_ok-piece.piece.ok.0),
      record { given_so = c.in_ok-piece.ensures.ok; sent_so = nothing _ _ _ c.in_ok-piece.ensures.sent },
    )

pub returns-clause-ok : goal.returns-clause-ok
returns-clause-ok g c = (
  c.in_ok-piece.piece.items,
  subst (λ (l : List ℕ). l ≡ _ → ⊥) c.as_slice-bytes.ensures.value (not_nil_by_length _ _ c.is_empty.ensures c.if-is_empty.false),
  subst IsBytes c.as_slice-bytes.ensures.value c.are_bytes.ensures,
  omega (arith, c.in_ok-piece.ensures.length, c.in_ok-piece.piece.ok.0),
  subst (λ (l : List ℕ). c.feed.new.self ≡ record { unread = c.args.reader.now.unread ++ l; offset = c.args.reader.now.offset; fault = c.args.reader.now.fault }) c.as_slice-bytes.ensures.value c.in_ok-feed.ensures.ok,
  gave_one g.L.Link.came g.L.Link.sent g.L.Link.given _ _ _ c.in_ok-piece.ensures.came c.in_ok-piece.ensures.sent c.in_ok-piece.ensures.ok,
)
