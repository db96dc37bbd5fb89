-- A reply behind which the slave goes on is one that its call can have.
use Rattle.std.proofs.Common.{◌≡◌, ℕ, refl, ap, ◌∙◌, Bool, true, false, List, [], ◌∷◌, ◌++◌, if◌then◌else◌, inl, inr}
use Rattle.host_table.proofs.WholeLemmas.{both as and_true}
use Rattle.pt_base.specs.declared.end.End.{End}
use Rattle.block_memory.specs.declared.cell.Cell.{Cell}
use Rattle.wire.specs.declared.message.Message.{Message}
use Rattle.wire.specs.declared.message.ReplyBody.{ReplyBody}
use Rattle.pt_core.specs.CodeTree.{BootTree}
use Rattle.pair_protocol.specs.Sides.{going, waits}
use Rattle.pair_protocol.specs.Pair.{Both, run}
use Rattle.pair_protocol.proofs.OrderFacts.{going_waits, over_going, over_waits}
use Rattle.pair_meaning.specs.Monitors.{Monitor}
use Rattle.pair_meaning.specs.Rules.{PeerRule}
use Rattle.pair_meaning.specs.SlaveRun.{Doing, Slave, goes, is_over, is_reply_to, longest, mode_by, mode_of, slave_of, take, taken_by, waits_for, with_reply, may_take}
use Rattle.pair_meaning.specs.Pair.{the_sides, serve_all, said, slave_at}
use Rattle.pair_meaning.specs.Peer.{are_awaited, is_awaited}
use Rattle.pair_meaning.proofs.Fair.{the_sides_are_fair}
use Rattle.pair_invariant_law.specs.Laws.{CallsKeep}
use Rattle.pair_invariant_law.specs.Live.{IsKept, Setting}
use Rattle.pair_laws.proofs.PairStepsPair.{the_pair_keeps}
use Rattle.pair_laws.specs.AwaitedRepliesLaws.{RepliesAreAwaited, WhatIsSaidGrows}
use Rattle.pair_laws.proofs.AwaitedRepliesGrowing.{grows}
use Rattle.pair_laws.proofs.AwaitedRepliesTaking.{AllTaken, GoesOn, taking}

-- ---- one reply

fits_by : (x : Slave) (taken : Slave) (fits : Bool) → mode_of (if fits then taken else record x { doing = is_over }) ≡ going → fits ≡ true
fits_by x taken true e = refl
fits_by x taken false e = over_going e

awaited_by : (x : Slave) (reply : ReplyBody) (d : Doing) → mode_by d ≡ waits → mode_of (taken_by x d reply) ≡ going → may_take x d reply ≡ true
awaited_by x reply goes is e = going_waits is
awaited_by x reply (waits_for f args) is e = fits_by x (with_reply x f args reply) (is_reply_to x f args reply) e
awaited_by x reply is_over is e = over_waits is

-- ---- all of them

all_awaited : (b : BootTree) (before replies : List ReplyBody) → AllTaken the_sides (longest b) (slave_of b) before replies → are_awaited b before replies ≡ true
all_awaited b before [] h = refl
all_awaited b before (reply ∷ replies) h =
    let x = (slave_at b before (longest b)).slave in
    and_true (is_awaited x reply) (are_awaited b (before ++ reply ∷ []) replies) (awaited_by x reply x.doing h.0 h.1) (all_awaited b (before ++ reply ∷ []) replies h.2)

-- what is kept goes on
kept_goes : (w : Setting) (Own : Slave → Type 0) → GoesOn the_sides (IsKept w Own)
kept_goes w Own x m written (inl live) = ap mode_by live.beside.doing
kept_goes w Own x m written (inr late) = ap mode_by late.doing

pub replies_are_awaited : (Own : Slave → Type 0) → RepliesAreAwaited Own
replies_are_awaited Own calls w b m begins given rest e =
    all_awaited b [] (serve_all m given).replies
    (taking the_sides the_sides_are_fair (IsKept w Own) (λ both kept. the_pair_keeps Own calls w both begins.0 kept) (kept_goes w Own) (longest b) (slave_of b) m [] given rest (inl begins.1) e)

pub what_is_said_grows : WhatIsSaidGrows
what_is_said_grows b replies more = grows the_sides (longest b) (slave_of b) replies more
