use Rattle.std.proofs.Common.{◌≡◌, ◌≢◌, ◌∙◌, ℕ, List, [], ◌∷◌, map, length, Bor, Bool, false, Option, Some, None, refl, sym, subst, arith}
use Rattle.std.specs.Option.{MatchOption}
use Rattle.std.specs.Prelude.{bytes_eq, codes}
use Rattle.pt_base.proofs.Booleans.{false_true_absurd}
use Rattle.std.proofs.lemmas.Slice.Eq.{bytes_eq-Decides}
use Rattle.privtrans_app.specs.Forms.{IsNoWord}
use Rattle.privtrans_app.specs.Words.{IsUsage, Says}
use Rattle.privtrans_app.specs.WordsSeen.{command_seen}
use Rattle.privtrans_app.specs.declared.words.Command.{Command}
use Rattle.privtrans_app.proofs.Decoding.{no_command, no_word}
use Rattle.privtrans_app.proofs.words.command_after.Goals as goal

alone : (o : Option Command) (w : List ℕ) (ws : List (List ℕ)) → ws ≡ [] → MatchOption o (IsNoWord w) (λ c. Says (w ∷ []) (command_seen c)) → MatchOption o (IsUsage (w ∷ ws)) (λ c. Says (w ∷ ws) (command_seen c))
alone None w ws none other = subst (λ (xs : List (List ℕ)). IsUsage (w ∷ xs)) (sym none) (no_word w other)
alone (Some c) w ws none says = subst (λ (xs : List (List ℕ)). Says (w ∷ xs) (command_seen c)) (sym none) says

none_there : (words : List (Bor (List ℕ))) → length words ≡ 0 → map (λ w. w.now) words ≡ []
none_there [] short = refl
none_there (w ∷ words) short = absurd (omega arith)

some_there : (words : List (Bor (List ℕ))) → (length words ≡ 0 → ⊥) → map (λ w. w.now) words ≢ []
some_there [] some = λ none. some refl
some_there (w ∷ words) some = λ none. cc

-- a word that isn't equal is another
differs : (w text : List ℕ) (same : Bool) → same ≡ bytes_eq w text → same ≡ false → w ≢ text
differs w text same is apart equal = false_true_absurd (sym apart ∙ is ∙ (bytes_eq-Decides w text).1 equal)

pub returns-then-is_empty : goal.returns-then-is_empty
returns-then-is_empty c =
    let none : length c.args.rest.now ≡ 0 = grind arith in
    alone c.one_word.result c.args.word.now (map (λ w. w.now) c.args.rest.now) (none_there c.args.rest.now none) c.one_word.ensures

pub returns-else-eq-11 : goal.returns-else-eq-11
returns-else-eq-11 c =
    let some : length c.args.rest.now ≡ 0 → ⊥ = λ none. grind arith in
    no_command c.args.word.now (map (λ w. w.now) c.args.rest.now) (some_there c.args.rest.now some) (record {
      no_run = differs c.args.word.now (codes "run") c.eq.result c.eq.ensures c.if-eq.false;
      no_local = differs c.args.word.now (codes "local") c.eq-else-eq.result c.eq-else-eq.ensures c.if-eq-2.false;
      no_orig = differs c.args.word.now (codes "orig") c.eq-else-eq-2.result c.eq-else-eq-2.ensures c.if-eq-3.false;
      no_check = differs c.args.word.now (codes "check") c.eq-else-eq-3.result c.eq-else-eq-3.ensures c.if-eq-4.false;
      no_explain = differs c.args.word.now (codes "explain") c.eq-else-eq-4.result c.eq-else-eq-4.ensures c.if-eq-5.false;
      no_outline = differs c.args.word.now (codes "outline") c.eq-else-eq-5.result c.eq-else-eq-5.ensures c.if-eq-6.false;
      no_picture = differs c.args.word.now (codes "picture") c.eq-else-eq-6.result c.eq-else-eq-6.ensures c.if-eq-7.false;
      no_split = differs c.args.word.now (codes "split") c.eq-else-eq-7.result c.eq-else-eq-7.ensures c.if-eq-8.false;
      no_gen = differs c.args.word.now (codes "gen") c.eq-else-eq-8.result c.eq-else-eq-8.ensures c.if-eq-9.false;
      no_serve = differs c.args.word.now (codes "serve") c.eq-else-eq-9.result c.eq-else-eq-9.ensures c.if-eq-10.false;
      no_audit = differs c.args.word.now (codes "audit") c.eq-else-eq-10.result c.eq-else-eq-10.ensures c.if-eq-11.false;
    })
