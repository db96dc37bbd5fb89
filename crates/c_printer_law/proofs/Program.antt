-- Tokens of a plain program's words give the program, positions aside.
use Rattle.std.proofs.Common.{◌≡◌, ℕ, suc, ◌+◌, List, [], ◌∷◌, ◌++◌, true, None, Some, refl, ap, ◌∙◌, subst, map, slice_get, length, arith, append-nil}
use Rattle.std.proofs.lemmas.Option.{slice_get_past}
use Rattle.std.specs.List.{list_all, flat_map}
use Rattle.pt_base.proofs.Booleans.{and_parts}
use Rattle.c_lexer.specs.declared.token.Token.{Token}
use Rattle.c_grammar.specs.declared.symbol.Symbol.TheVariants as s
use Rattle.c_grammar.specs.Part.{Part, item, items}
use Rattle.c_grammar.specs.Machine.{Entry, gives, Outcome, done, run, rule_at, on_rule, wanted}
use Rattle.pt_tree.specs.ProgramTree.{ItemTree, declares, function}
use Rattle.c_printer.specs.Pieces.{Piece, line, kind_of, value_of}
use Rattle.c_printer.specs.Items.{item_words}
use Rattle.c_printer.specs.Plain.{item_plain}
use Rattle.c_printer.specs.Unplaced as u
use Rattle.c_printer.specs.ReadsBack.{PrintedReadsBack}
use Rattle.c_printer_law.specs.LexingLaw.{LaidLexes}
use Rattle.c_printer_law.specs.Laws.{DerivesAgain}
use Rattle.c_printer_law.proofs.Classes.{begins_spec}
use Rattle.c_printer_law.proofs.Initialisers.{declaration_read}
use Rattle.c_printer_law.proofs.Functions.{function_read}
use Rattle.c_printer_law.proofs.Steps.{Comes, Has, Standing, Stands, over, split, Gives, Grows, grows_more, enters_by, builds_on, settled}

record ReadItem (tokens : List Token) (x : ItemTree) (at next : ℕ) : Type 0 where
  begins : Has tokens at begins_spec
  gives : Gives tokens s.External at next item u.item (u.item x)

item_read : (tokens : List Token) (x : ItemTree) (at next : ℕ) → item_plain x ≡ true → Stands tokens at (item_words x) next → ReadItem tokens x at next
item_read tokens (declares d) at next plain h = let x = declaration_read tokens d (line 0) at next plain h in record { begins = x.begins; gives = x.outside }
item_read tokens (function f) at next plain h = let x = function_read tokens f at next plain h in record { begins = x.begins; gives = x.gives }

-- behind all tokens a program is over
ends_there : {tokens : List Token} {at : ℕ} {rest : List Entry} {parts : List Part} {o : Outcome} → slice_get tokens at ≡ None → Comes tokens rest at parts o → Comes tokens (gives s.TranslationUnit ∷ rest) at parts o
ends_there {tokens = tokens} {at = at} {rest = rest} {parts = parts} e c = record {
  from = λ depth. let x = c.from depth in (suc x.0, ap (λ a. on_rule a at (λ n. run None tokens x.0 (wanted at n ++ rest) at depth parts)) (ap (rule_at s.TranslationUnit) e) ∙ x.1);
}

no_more_items : (tokens : List Token) (at next : ℕ) → at ≡ next → slice_get tokens next ≡ None → Grows tokens s.TranslationUnit at next items (map u.item) []
no_more_items tokens at next e none = record {
  new = [];
  alike = refl;
  from = λ before {rest} {parts} {o} c. settled e (ends_there none (subst (λ xs. Comes tokens rest next (items xs ∷ parts) o) (append-nil before) c));
}

items_are : (a b : ItemTree) (l m : List ItemTree) → a ≡ b → l ≡ m → a ∷ l ≡ b ∷ m
items_are a b l m i j = cc

program_read : (tokens : List Token) (program : List ItemTree) (at next : ℕ) → list_all item_plain program ≡ true → Stands tokens at (flat_map item_words program) next → slice_get tokens next ≡ None → Grows tokens s.TranslationUnit at next items (map u.item) (map u.item program)
program_read tokens [] at next plain h none = no_more_items tokens at next (over h) none
program_read tokens (x ∷ xs) at next plain h none =
    let both = and_parts (item_plain x) (list_all item_plain xs) plain in
    let one = split (item_words x) (flat_map item_words xs) h in
    let more = program_read tokens xs one.mid next both.1 one.right none in
    let head = item_read tokens x at one.mid both.0 one.left in
    grows_more head.gives.tree more (λ before rest parts o c. enters_by begins_spec 1 refl head.begins (head.gives.from (builds_on c))) (items_are (u.item head.gives.tree) (u.item x) (map u.item more.new) (map u.item xs) head.gives.alike more.alike)

-- tokens that have the words' kinds and values are the words
standing : (tokens behind : List Token) (words : List Piece) (n : ℕ) → ((i : ℕ) → slice_get tokens (n + i) ≡ slice_get behind i) → map (λ t. t.kind) behind ≡ map kind_of words → map (λ t. t.value) behind ≡ map value_of words → Standing tokens n words (n + length behind)
standing tokens [] [] n same kinds values = omega arith
standing tokens [] (p ∷ ps) n same kinds values = absurd (none kinds)
  where
    none : [] ≡ kind_of p ∷ map kind_of ps → ⊥
    none e = cc
standing tokens (t ∷ ts) [] n same kinds values = absurd (none kinds)
  where
    none : t.kind ∷ map (λ t. t.kind) ts ≡ [] → ⊥
    none e = cc
standing tokens (t ∷ ts) (p ∷ ps) n same kinds values = (record { token = t; there = subst (λ m. slice_get tokens m ≡ Some t) none (same 0); kind = head_kind kinds; value = head_value values }, subst (λ m. Standing tokens (n + 1) ps m) count (standing tokens ts ps (n + 1) next (tail_kinds kinds) (tail_values values)))
  where
    none : n + 0 ≡ n
    none = omega arith

    count : n + 1 + length ts ≡ n + length (t ∷ ts)
    count = omega arith

    further : (i : ℕ) → n + suc i ≡ n + 1 + i
    further i = omega arith

    next : (i : ℕ) → slice_get tokens (n + 1 + i) ≡ slice_get ts i
    next i = subst (λ m. slice_get tokens m ≡ slice_get ts i) (further i) (same (suc i))

    head_kind : t.kind ∷ map (λ t. t.kind) ts ≡ kind_of p ∷ map kind_of ps → t.kind ≡ kind_of p
    head_kind e = cc

    tail_kinds : t.kind ∷ map (λ t. t.kind) ts ≡ kind_of p ∷ map kind_of ps → map (λ t. t.kind) ts ≡ map kind_of ps
    tail_kinds e = cc

    head_value : t.value ∷ map (λ t. t.value) ts ≡ value_of p ∷ map value_of ps → t.value ≡ value_of p
    head_value e = cc

    tail_values : t.value ∷ map (λ t. t.value) ts ≡ value_of p ∷ map value_of ps → map (λ t. t.value) ts ≡ map value_of ps
    tail_values e = cc

all_done : (tokens : List Token) (at : ℕ) (parts : List Part) → Comes tokens [] at parts (done parts)
all_done tokens at parts = record { from = λ depth. (1, refl) }

stand : (tokens : List Token) (words : List Piece) → map (λ t. t.kind) tokens ≡ map kind_of words → map (λ t. t.value) tokens ≡ map value_of words → Stands tokens 0 words (0 + length tokens)
stand tokens words kinds values = record { by = standing tokens tokens words 0 (λ i. ap (slice_get tokens) (from_start i)) kinds values }
  where
    from_start : (i : ℕ) → 0 + i ≡ i
    from_start i = omega arith

pub derives_again : DerivesAgain
derives_again program tokens plain kinds values =
    let all = program_read tokens program 0 (0 + length tokens) plain (stand tokens (flat_map item_words program) kinds values) (slice_get_past tokens (0 + length tokens) (omega arith)) in
    let whole = all.from [] (all_done tokens (0 + length tokens) (items all.new ∷ [])) in
    let x = whole.from 0 in
    (all.new, x.0, x.1, all.alike)

-- the words are the tokens of the text, and derive the program
pub reads_back : LaidLexes → PrintedReadsBack
reads_back lexes comment program open_comment plain =
    let text = lexes comment program open_comment plain in
    let again = derives_again program text.0 plain text.2 text.3 in
    record { tokens = text.0; lexes = text.1; read = again.0; steps = again.1; derives = again.2; same = again.3 }
