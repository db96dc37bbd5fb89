-- In which order the halves of a run in one process go on.
use Rattle.std.specs.Prelude.{◌≡◌, ◌⊎◌, ℕ, List, map}
use Rattle.std.specs.Io.KnownBytes.{Appends}
use Rattle.pt_base.specs.declared.end.End.{End}
use Rattle.pair_running.specs.LocalPairWhole.{HasWhole}
use Rattle.pair_running.specs.GeneratedPairGenerated as made
use Rattle.pair_running.specs.ServedPairsServed.{Session}
use Rattle.pair_running.specs.ServedPairsTurns.{HaveTurns}
use Rattle.privtrans_app.specs.Gives.{inputs_of, pair_of, shared_of}
use Rattle.privtrans_app.specs.Held.{AreHeld}
use Rattle.privtrans_app.specs.Outside.{Outside}
use Rattle.privtrans_app.specs.Sessions.{texts_from}
use Rattle.privtrans_app.specs.Words.{Command, files_of}

-- The files hold texts of a pair of which a whole run, step by step under exactly the answers that were taken from the chooser, writes
-- what came to out.
pub record IsInterleaved (c : Command) (turns window : ℕ) (b a : Outside) : Type 0 where
  pub texts : List (List ℕ)
  pub held : AreHeld b.folder.files (files_of c) texts
  pub bytes : List ℕ
  pub whole : HasWhole (pair_of texts) turns window b.answers a.answers bytes
  pub writes : Appends b.out.taken a.out.taken bytes

-- Of a generated program a whole run, step by step under exactly the answers that were taken from the chooser, writes these bytes, and
-- what is told of them came to out.
pub record IsGeneratedInterleaved (seed count : ℕ) (b a : Outside) : Type 0 where
  pub bytes : List ℕ
  pub end : End
  pub whole : HasWhole (made.texts_of seed count) made.turns made.window b.answers a.answers bytes
  pub writes : Appends b.out.taken a.out.taken (made.told seed count bytes end)

-- The files hold texts of several pairs whose sessions come to their ends turn by turn under exactly the answers that were taken from the
-- chooser, and what is told of their bytes came to out.
pub record AreInterleaved (c : Command) (turns : ℕ) (b a : Outside) : Type 0 where
  pub texts : List (List ℕ)
  pub held : AreHeld b.folder.files (files_of c) texts
  pub sessions : List Session
  pub whole : HaveTurns (shared_of texts) (inputs_of texts) turns b.answers a.answers (map (λ x. x.bytes) sessions)
  pub writes : Appends b.out.taken a.out.taken (texts_from 0 sessions)

-- the statuses of a run that came to its end
abbrev pub IsOfRun : ℕ → Type 0
IsOfRun status = (status ≡ 0) ⊎ (status ≡ 6) ⊎ (status ≡ 7) ⊎ (status ≡ 8)

-- the statuses of a call that runs nothing: words that ask for nothing, a file that isn't read, a stage with faults
abbrev pub IsOfNoRun : ℕ → Type 0
IsOfNoRun status = (status ≡ 1) ⊎ (status ≡ 2) ⊎ (status ≡ 3) ⊎ (status ≡ 5)
