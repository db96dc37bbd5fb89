-- What the words may be, and what they ask for.
use Rattle.std.specs.Prelude.{◌≡◌, ◌≢◌, ◌⊎◌, ◌≤◌, ℕ, Bool, true, false, List, [], ◌∷◌, codes, length}
use Rattle.std.specs.Fmt.{decimal}

-- ---- the words of a command

abbrev pub IsHelp : List (List ℕ) → Type 0
IsHelp words = (words ≡ codes "--help" ∷ []) ⊎ (words ≡ codes "-h" ∷ [])

abbrev pub IsVersion : List (List ℕ) → Type 0
IsVersion words = words ≡ codes "--version" ∷ []

-- `explain` and the names of three files
pub record IsExplain (words : List (List ℕ)) (program host policy : List ℕ) : Type 0 where
  pub are : words ≡ codes "explain" ∷ program ∷ host ∷ policy ∷ []

-- `orig`, the names of three files, and a number in its range, in digits without a leading zero
pub record IsOrig (words : List (List ℕ)) (program host input : List ℕ) (turns : ℕ) : Type 0 where
  pub are : words ≡ codes "orig" ∷ program ∷ host ∷ input ∷ decimal turns ∷ []
  pub turns_most : turns ≤ 4294967295

-- `local`, the names of four files, and two numbers in their ranges, in digits without a leading zero
pub record IsLocal (words : List (List ℕ)) (program host policy input : List ℕ) (turns window : ℕ) : Type 0 where
  pub are : words ≡ codes "local" ∷ program ∷ host ∷ policy ∷ input ∷ decimal turns ∷ decimal window ∷ []
  pub turns_most : turns ≤ 4294967295
  pub window_least : 1 ≤ window
  pub window_most : window ≤ 1024

-- `run`, the names of four files, and a number in its range, in digits without a leading zero
pub record IsProcessRun (words : List (List ℕ)) (program host policy input : List ℕ) (turns : ℕ) : Type 0 where
  pub are : words ≡ codes "run" ∷ program ∷ host ∷ policy ∷ input ∷ decimal turns ∷ []
  pub turns_most : turns ≤ 4294967295

-- `split` and the names of three files, no two of them equal
pub record IsSplit (words : List (List ℕ)) (program slave monitor : List ℕ) : Type 0 where
  pub are : words ≡ codes "split" ∷ program ∷ slave ∷ monitor ∷ []
  pub slave_apart : program ≢ slave
  pub monitor_apart : program ≢ monitor
  pub halves_apart : slave ≢ monitor

abbrev pub IsSlave : List (List ℕ) → Type 0
IsSlave words = words ≡ codes "slave" ∷ []

-- `gen` and two numbers in their ranges, in digits without a leading zero
pub record IsGenerated (words : List (List ℕ)) (seed count : ℕ) : Type 0 where
  pub are : words ≡ codes "gen" ∷ decimal seed ∷ decimal count ∷ []
  pub seed_most : seed ≤ 2147483647
  pub count_least : 1 ≤ count
  pub count_most : count ≤ 2000

-- `serve`, the names of three files, a number in its range, in digits without a leading zero, and the names of 1 to 16 inputs
pub record IsServe (words : List (List ℕ)) (program host policy : List ℕ) (turns : ℕ) (inputs : List (List ℕ)) : Type 0 where
  pub are : words ≡ codes "serve" ∷ program ∷ host ∷ policy ∷ decimal turns ∷ inputs
  pub turns_most : turns ≤ 4294967295
  pub inputs_least : 1 ≤ length inputs
  pub inputs_most : length inputs ≤ 16

-- ---- commands

-- What words ask for, with the names of files and the numbers that they have.
pub data Command : Type 0 where
  help : Command
  version : Command
  check : List ℕ → Command
  explain : List ℕ → Command
  outline : List ℕ → Command
  picture : List ℕ → Command
  explain_pair : List ℕ → List ℕ → List ℕ → Command
  orig : List ℕ → List ℕ → List ℕ → ℕ → Command
  local : List ℕ → List ℕ → List ℕ → List ℕ → ℕ → ℕ → Command
  run : List ℕ → List ℕ → List ℕ → List ℕ → ℕ → Command
  split : List ℕ → List ℕ → List ℕ → Command
  slave : Command
  gen : ℕ → ℕ → Command
  serve : List ℕ → List ℕ → List ℕ → ℕ → List (List ℕ) → Command
  audit : List ℕ → Command

-- the words ask for it
abbrev pub Says : List (List ℕ) → Command → Type 0
Says words help = IsHelp words
Says words version = IsVersion words
Says words (check program) = words ≡ codes "check" ∷ program ∷ []
Says words (explain program) = words ≡ codes "explain" ∷ program ∷ []
Says words (outline program) = words ≡ codes "outline" ∷ program ∷ []
Says words (picture program) = words ≡ codes "picture" ∷ program ∷ []
Says words (explain_pair program host policy) = IsExplain words program host policy
Says words (orig program host input turns) = IsOrig words program host input turns
Says words (local program host policy input turns window) = IsLocal words program host policy input turns window
Says words (run program host policy input turns) = IsProcessRun words program host policy input turns
Says words (split program to_slave to_monitor) = IsSplit words program to_slave to_monitor
Says words slave = IsSlave words
Says words (gen seed count) = IsGenerated words seed count
Says words (serve program host policy turns inputs) = IsServe words program host policy turns inputs
Says words (audit program) = words ≡ codes "audit" ∷ program ∷ []

-- some words ask for it
abbrev pub IsAsked : Command → Type 0
IsAsked c = (words : List (List ℕ)) × Says words c

-- they ask for nothing
abbrev pub IsUsage : List (List ℕ) → Type 0
IsUsage words = (c : Command) → Says words c → ⊥

-- the names of the files that it reads, in this order
abbrev pub files_of : Command → List (List ℕ)
files_of help = []
files_of version = []
files_of (check program) = program ∷ []
files_of (explain program) = program ∷ []
files_of (outline program) = program ∷ []
files_of (picture program) = program ∷ []
files_of (explain_pair program host policy) = program ∷ host ∷ policy ∷ []
files_of (orig program host input turns) = program ∷ host ∷ input ∷ []
files_of (local program host policy input turns window) = program ∷ host ∷ policy ∷ input ∷ []
files_of (run program host policy input turns) = program ∷ host ∷ policy ∷ input ∷ []
files_of (split program to_slave to_monitor) = program ∷ []
files_of slave = []
files_of (gen seed count) = []
files_of (serve program host policy turns inputs) = program ∷ host ∷ policy ∷ inputs
files_of (audit program) = program ∷ []

-- What a command uses beside the files that it reads and the report.
pub record Uses : Type 0 where
  pub writes_files : Bool
  pub out : Bool
  pub chooser : Bool
  pub link : Bool

abbrev pub out_alone : Uses
out_alone = record { writes_files = false; out = true; chooser = false; link = false }

abbrev pub both_halves : Uses
both_halves = record { writes_files = false; out = true; chooser = true; link = false }

abbrev pub two_processes : Uses
two_processes = record { writes_files = false; out = true; chooser = false; link = true }

abbrev pub a_peer : Uses
a_peer = record { writes_files = false; out = false; chooser = false; link = true }

abbrev pub two_files : Uses
two_files = record { writes_files = true; out = false; chooser = false; link = false }

abbrev pub uses_of : Command → Uses
uses_of help = out_alone
uses_of version = out_alone
uses_of (check program) = out_alone
uses_of (explain program) = out_alone
uses_of (outline program) = out_alone
uses_of (picture program) = out_alone
uses_of (explain_pair program host policy) = out_alone
uses_of (orig program host input turns) = out_alone
uses_of (local program host policy input turns window) = both_halves
uses_of (run program host policy input turns) = two_processes
uses_of (split program to_slave to_monitor) = two_files
uses_of slave = a_peer
uses_of (gen seed count) = both_halves
uses_of (serve program host policy turns inputs) = both_halves
uses_of (audit program) = out_alone

-- what the words ask for doesn't use this
abbrev pub Never : (Uses → Bool) → List (List ℕ) → Type 0
Never used words = (c : Command) → Says words c → used (uses_of c) ≡ false

-- what the words ask for reads no file
abbrev pub NameNone : List (List ℕ) → Type 0
NameNone words = (c : Command) → Says words c → files_of c ≡ []
