-- What the words of a rule are:
--     from STATE allow FUNCTION [argI in LOW..HIGH]* [at most COUNT] to STATE
use Rattle.std.specs.Prelude.{◌≡◌, ℕ, ℤ, ◌+◌, ◌<◌, Bool, ◌&&◌, nat_le, List, [], ◌∷◌, ◌++◌, length, Option, Some, None, IsTrue, codes}
use Rattle.std.specs.List.{list_all}
use Rattle.policy.specs.Numbers.{IsBound, IsCount}
use Rattle.policy.specs.Spelled.{SpelledRule}
use Rattle.policy.specs.declared.argument.ArgRange.{ArgRange}
pub use Rattle.pt_base.specs.Names.{is_word_byte as is_state_byte}

-- the name of a state: letters, digits and `_`, 1 to 64 in all
abbrev pub is_state : List ℕ → Bool
is_state word = (nat_le 1 (length word) && nat_le (length word) 64) && list_all is_state_byte word

-- `arg` and a digit from 1 to 8, for the parameters at the places 0 to 7
pub record IsParameter (word : List ℕ) (place : ℕ) : Type 0 where
  pub spelled : word ≡ codes "arg" ++ (49 + place) ∷ []
  pub small : place < 8

-- two bounds with `..` between them
pub record AreBounds (word : List ℕ) (low high : ℤ) : Type 0 where
  pub low_word : List ℕ
  pub high_word : List ℕ
  pub spelled : word ≡ low_word ++ (codes ".." ++ high_word)
  pub low_bound : IsBound low_word low
  pub high_bound : IsBound high_word high

-- `argI in LOW..HIGH`, any number of times
pub data AreRanges : List (List ℕ) → List ArgRange → Type 0 where
  none : AreRanges [] []
  more : (parameter bounds : List ℕ) (words : List (List ℕ)) (range : ArgRange) (ranges : List ArgRange)
      → IsParameter parameter range.parameter → AreBounds bounds range.low range.high → AreRanges words ranges
      → AreRanges (parameter ∷ codes "in" ∷ bounds ∷ words) (range ∷ ranges)

-- `at most COUNT`, or nothing
pub data IsLimit : List (List ℕ) → Option ℕ → Type 0 where
  without : IsLimit [] None
  at_most : (word : List ℕ) (count : ℕ) → IsCount word count → IsLimit (codes "at" ∷ codes "most" ∷ word ∷ []) (Some count)

-- the words spell the rule
pub record IsRule (words : List (List ℕ)) (rule : SpelledRule) : Type 0 where
  pub arguments : List (List ℕ)
  pub limit : List (List ℕ)
  pub spelled : words ≡ codes "from" ∷ rule.from ∷ codes "allow" ∷ rule.function ∷ (arguments ++ (limit ++ codes "to" ∷ rule.to ∷ []))
  pub from_state : IsTrue (is_state rule.from)
  pub ranges : AreRanges arguments rule.ranges
  pub most : IsLimit limit rule.most
  pub to_state : IsTrue (is_state rule.to)
