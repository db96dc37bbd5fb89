-- Words that don't ask for a command as its own words would.
use Rattle.std.specs.Prelude.{◌≡◌, ◌≢◌, ℕ, List, [], ◌∷◌, codes}
use Rattle.privtrans_app.specs.Words.{IsGenerated, IsLocal, IsOrig, IsProcessRun, IsServe, IsSplit}

-- a word that asks for nothing by itself
pub record IsNoWord (word : List ℕ) : Type 0 where
  pub no_help : word ≢ codes "--help"
  pub no_short_help : word ≢ codes "-h"
  pub no_version : word ≢ codes "--version"
  pub no_slave : word ≢ codes "slave"

-- the words are not one alone
abbrev pub AreNotOne : List (List ℕ) → Type 0
AreNotOne words = (name : List ℕ) → words ≡ name ∷ [] → ⊥

-- behind `explain` the words ask for nothing: they are neither one nor three
pub record ExplainNothing (words : List (List ℕ)) : Type 0 where
  pub not_one : (program : List ℕ) → words ≡ program ∷ [] → ⊥
  pub not_three : (program host policy : List ℕ) → words ≡ program ∷ host ∷ policy ∷ [] → ⊥

abbrev pub AreNotOrig : List (List ℕ) → Type 0
AreNotOrig words = (program host input : List ℕ) (turns : ℕ) → IsOrig words program host input turns → ⊥

abbrev pub AreNotLocal : List (List ℕ) → Type 0
AreNotLocal words = (program host policy input : List ℕ) (turns window : ℕ) → IsLocal words program host policy input turns window → ⊥

abbrev pub AreNotRun : List (List ℕ) → Type 0
AreNotRun words = (program host policy input : List ℕ) (turns : ℕ) → IsProcessRun words program host policy input turns → ⊥

abbrev pub AreNotSplit : List (List ℕ) → Type 0
AreNotSplit words = (program slave monitor : List ℕ) → IsSplit words program slave monitor → ⊥

abbrev pub AreNotGenerated : List (List ℕ) → Type 0
AreNotGenerated words = (seed count : ℕ) → IsGenerated words seed count → ⊥

abbrev pub AreNotServe : List (List ℕ) → Type 0
AreNotServe words = (program host policy : List ℕ) (turns : ℕ) (inputs : List (List ℕ)) → IsServe words program host policy turns inputs → ⊥
