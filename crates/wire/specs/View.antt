-- A reader as contracts see it.
use Rattle.std.specs.Prelude.{ℕ, List, [], Option, None}
use Rattle.wire.specs.declared.fault.FrameFault.{FrameFault}

-- the bytes that were fed and aren't read yet, the place of the first of them among all bytes fed, and
-- the fault that every call of next answers from then on
pub record ReaderView : Type 0 where
  pub unread : List ℕ
  pub offset : ℕ
  pub fault : Option FrameFault

-- nothing was fed yet
abbrev pub fresh : ReaderView
fresh = record { unread = []; offset = 0; fault = None }
