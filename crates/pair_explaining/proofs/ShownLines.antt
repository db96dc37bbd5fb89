-- The lines of a policy are those that are shown.
use Rattle.std.proofs.Common.{◌≡◌, ◌∙◌, ◌+◌, ◌-◌, ◌++◌, ℕ, zero, suc, Bool, true, false, if◌then◌else◌, List, [], ◌∷◌, ap, arith, get_or, length, refl}
use Rattle.std.specs.List.{onto_first}
use Rattle.policy.specs.Lines.{lines_of}
use Rattle.source_places.specs.Places.{is_feed, line_after}
use Rattle.pair_explaining.specs.Laws.{FaultyLineIsShown}

-- a byte more in the first line
first_onto : (b : ℕ) (lines : List (List ℕ)) (line : List ℕ) → line ≡ get_or lines 0 [] → b ∷ line ≡ get_or (onto_first b lines) 0 []
first_onto b [] line is = ap (λ xs. b ∷ xs) is
first_onto b (l ∷ ls) line is = ap (λ xs. b ∷ xs) is

later_onto : (b : ℕ) (lines : List (List ℕ)) (k : ℕ) → get_or lines (suc k) [] ≡ get_or (onto_first b lines) (suc k) []
later_onto b [] k = refl
later_onto b (l ∷ ls) k = refl

same_line : (text : List ℕ) (k : ℕ) → line_after k text ≡ get_or (lines_of text) k []
same_line [] k = refl
same_line (b ∷ bs) zero = go (is_feed b) (same_line bs zero)
  where
    go : (t : Bool) → line_after zero bs ≡ get_or (lines_of bs) zero [] → (if t then [] else b ∷ line_after zero bs) ≡ get_or (if t then [] ∷ lines_of bs else onto_first b (lines_of bs)) zero []
    go true is = refl
    go false is = first_onto b (lines_of bs) (line_after zero bs) is
same_line (b ∷ bs) (suc k) = go (is_feed b) (same_line bs k) (same_line bs (suc k))
  where
    go : (t : Bool) → line_after k bs ≡ get_or (lines_of bs) k [] → line_after (suc k) bs ≡ get_or (lines_of bs) (suc k) []
        → (if t then line_after k bs else line_after (suc k) bs) ≡ get_or (if t then [] ∷ lines_of bs else onto_first b (lines_of bs)) (suc k) []
    go true is next = is
    go false is next = next ∙ later_onto b (lines_of bs) k

-- the one behind so many others
behind : (before after : List (List ℕ)) (line : List ℕ) → get_or (before ++ line ∷ after) (length before) [] ≡ line
behind [] after line = refl
behind (l ∷ ls) after line = behind ls after line

pub shown_line : FaultyLineIsShown
shown_line signatures text fault x =
    let k = length x.before in
    let less : (k + 1) - 1 ≡ k = omega arith in
    ap (λ n. line_after (n - 1) text) x.number ∙ ap (λ n. line_after n text) less
    ∙ same_line text k ∙ ap (λ ls. get_or ls k []) x.lines ∙ behind x.before x.after x.line
