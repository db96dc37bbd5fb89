-- Words that are laid one list after the other.
use Rattle.std.proofs.Common.{◌≡◌, ℕ, ◌+◌, ◌-◌, ◌<◌, suc, List, [], ◌∷◌, ◌++◌, map, refl, sym, ap, ◌∙◌, arith}
use Rattle.std.specs.List.{flat_map, range_with_len}
use Rattle.facts.proofs.Lists.{append_grouped}
use Rattle.pt_tree.specs.ProgramTree.{ItemTree}
use Rattle.c_printer.specs.Sheets.{Written, lay}
use Rattle.c_printer.specs.Items.{item_words}
use Rattle.c_printer.proofs.Laying.{lay_both}
use Rattle.split_text.specs.Texts.{printed}

words_both : (xs ys : List ItemTree) → flat_map item_words (xs ++ ys) ≡ flat_map item_words xs ++ flat_map item_words ys
words_both [] ys = refl
words_both (x ∷ xs) ys = ap (λ l. item_words x ++ l) (words_both xs ys) ∙ sym (append_grouped (item_words x) (flat_map item_words xs) (flat_map item_words ys))

pub printed_both : (xs ys : List ItemTree) (w : Written) → printed (xs ++ ys) w ≡ printed ys (printed xs w)
printed_both xs ys w = ap (λ l. lay l w) (words_both xs ys) ∙ lay_both (flat_map item_words xs) (flat_map item_words ys) w

-- one item more
pub printed_more : (x : ItemTree) (rest : List ItemTree) (before now all : Written) (seen : ItemTree) → seen ≡ x → now ≡ lay (item_words seen) before → printed (x ∷ rest) before ≡ all → printed rest now ≡ all
printed_more x rest before now all seen is more whole =
    ap (printed rest) (more ∙ ap (λ i. lay (item_words i) before) is) ∙ sym (lay_both (item_words x) (flat_map item_words rest) before) ∙ whole

one_less : (n count : ℕ) → n < count → count - n ≡ suc (count - (n + 1))
one_less n count h = omega arith

-- the same of one that a function gives
pub printed_next : (f : ℕ → ItemTree) (n count : ℕ) (before now all : Written) (seen : ItemTree) → n < count → seen ≡ f n → now ≡ lay (item_words seen) before
    → printed (map f (range_with_len n (count - n))) before ≡ all → printed (map f (range_with_len (n + 1) (count - (n + 1)))) now ≡ all
printed_next f n count before now all seen h is more whole =
    printed_more (f n) (map f (range_with_len (n + 1) (count - (n + 1)))) before now all seen is more (ap (λ m. printed (map f (range_with_len n m)) before) (sym (one_less n count h)) ∙ whole)

pub printed_four : (a b c d : List ItemTree) (w : Written) → printed (a ++ (b ++ (c ++ d))) w ≡ printed d (printed c (printed b (printed a w)))
printed_four a b c d w = printed_both a (b ++ (c ++ d)) w ∙ printed_both b (c ++ d) (printed a w) ∙ printed_both c d (printed b (printed a w))
