use Rattle.std.proofs.Common.{◌≡◌, ◌<◌, ℕ, List, [], ◌∷◌, map, length, Bor, refl, sym, subst, arith}
use Rattle.privtrans_app.specs.Words.{IsUsage}
use Rattle.privtrans_app.proofs.Decoding.{no_words}
use Rattle.privtrans_app.proofs.words.command_of.Goals as goal

none_there : (words : List (Bor (List ℕ))) → length words < 1 → map (λ w. w.now) words ≡ []
none_there [] short = refl
none_there (w ∷ words) short = absurd (omega arith)

pub returns-in-empty : goal.returns-in-empty
returns-in-empty c = subst IsUsage (sym (none_there c.args.words.now c.in-empty.len_below)) no_words
