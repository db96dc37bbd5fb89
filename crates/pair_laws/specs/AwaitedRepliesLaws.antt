-- Which replies an honest slave is sent.
use Rattle.std.specs.Prelude.{◌≡◌, true, List, [], ◌++◌}
use Rattle.wire.specs.declared.message.Message.{Message}
use Rattle.wire.specs.declared.message.ReplyBody.{ReplyBody}
use Rattle.pt_core.specs.CodeTree.{BootTree}
use Rattle.pair_meaning.specs.Monitors.{Monitor}
use Rattle.pair_meaning.specs.Pair.{said, serve_all}
use Rattle.pair_meaning.specs.Peer.{are_awaited}
use Rattle.pair_meaning.specs.SlaveRun.{Slave}
use Rattle.pair_invariant_law.specs.Laws.{CallsKeep}
use Rattle.pair_invariant_law.specs.Live.{Setting}
use Rattle.pair_laws.specs.PairStepsEnds.{Begins}

-- Where a monitor serves a first part of what the slave says with its replies, the slave waits for each of these replies, and its
-- call can have it.
abbrev pub RepliesAreAwaited : (Slave → Type 0) → Type 0
RepliesAreAwaited Own = CallsKeep Own → (w : Setting) (b : BootTree) (m : Monitor) → Begins Own w b m → (given rest : List Message) →
    said b (serve_all m given).replies ≡ given ++ rest → are_awaited b [] (serve_all m given).replies ≡ true

-- With more replies a slave says what it said, and maybe more.
abbrev pub WhatIsSaidGrows : Type 0
WhatIsSaidGrows = (b : BootTree) (replies more : List ReplyBody) → (rest : List Message) × (said b (replies ++ more) ≡ said b replies ++ rest)
