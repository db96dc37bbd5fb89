use Rattle.std.proofs.Common.{◌≡◌, ℕ, List, ◌++◌, Err, subst, sym, rules}
use Rattle.pt_base.proofs.Lists.{not_nil_by_length}
use Rattle.wire.specs.Limits.{IsBytes}
use Rattle.wire.specs.View.{ReaderView}
use Rattle.pair_runner.proofs.Moving.{gave_one}
use Rattle.pair_runner.proofs.Parts.{nothing}
use Rattle.slave_runner.specs.declared.fault.WorkFault.TheVariants.{Memory}
use Rattle.slave_runner.specs.Turns.{IsShort}
use Rattle.slave_runner.proofs.hearing.hear.Goals as goal

pub returns-in_err-feed-clause-err : goal.returns-in_err-feed-clause-err
returns-in_err-feed-clause-err g c =
    let is : c.from_residual-in_err-feed.result ≡ Err Memory = search rules in
    rw is (
      c.in_ok-piece.piece.items,
      subst IsBytes c.as_slice-bytes.ensures.value c.are_bytes.ensures,
      record { given_so = c.in_ok-piece.ensures.ok; sent_so = nothing _ _ _ c.in_ok-piece.ensures.sent },
    )

pub returns-clause-ok : goal.returns-clause-ok
returns-clause-ok g c = (
  c.in_ok-piece.piece.items,
  subst (λ (l : List ℕ). l ≡ _ → ⊥) c.as_slice-bytes.ensures.value (not_nil_by_length _ _ c.is_empty.ensures c.if-is_empty.false),
  subst IsBytes c.as_slice-bytes.ensures.value c.are_bytes.ensures,
  subst (λ (l : List ℕ). c.feed.new.self ≡ record { unread = c.args.reader.now.unread ++ l; offset = c.args.reader.now.offset; fault = c.args.reader.now.fault }) c.as_slice-bytes.ensures.value c.in_ok-feed.ensures.ok,
  gave_one g.L.Link.came g.L.Link.sent g.L.Link.given _ _ _ c.in_ok-piece.ensures.came c.in_ok-piece.ensures.sent c.in_ok-piece.ensures.ok,
)

pub returns-clause-short : goal.returns-clause-short
returns-clause-short g c = subst (λ (v : ReaderView). IsShort v) (sym c.in_ok-feed.ensures.ok) c.in_ok-feed.ensures.most
