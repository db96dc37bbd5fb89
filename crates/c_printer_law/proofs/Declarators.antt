-- The words of names and declarators read back.
use Rattle.std.proofs.Common.{ℕ, ◌+◌, List, [], ◌∷◌, ◌++◌, Bool, true, false, refl, ap, map}
use Rattle.c_lexer.specs.declared.token.Token.{Token}
use Rattle.c_lexer.specs.declared.token.TokenKind.TheVariants as k
use Rattle.c_grammar.specs.declared.symbol.Symbol.TheVariants as s
use Rattle.c_grammar.specs.Part.{names, suffix, declarator, declarators}
use Rattle.pt_tree.specs.declared.word.Word.{Word}
use Rattle.pt_tree.specs.declared.specifier.Declarator.{Declarator}
use Rattle.pt_tree.specs.declared.specifier.Suffix.{Suffix}
use Rattle.pt_tree.specs.declared.specifier.Suffix.TheVariants.{Plain, Open, Sized}
use Rattle.c_printer.specs.Specifiers.{more_names, starred, suffix_words, declarator_words, more_declarators}
use Rattle.c_printer.specs.Unplaced as u
use Rattle.c_printer_law.proofs.Classes.{only, ends_suffix, begins_declarator}
use Rattle.c_printer_law.proofs.Steps.{Has, Stands, first, behind, over, split, Gives, Grows, grows_none, grows_more, enters, enters_by, takes_it, takes_name, takes_number, builds_on, kind_here, has_here, has_at, settled, weaker}

pub more_names_read : (tokens : List Token) (ws : List Word) (at next : ℕ) → Stands tokens at (more_names ws) next → Has tokens next (only k.CloseParen) → Grows tokens s.MoreNames at next names (map u.word) (map u.word ws)
more_names_read tokens [] at next h end = grows_none (only k.CloseParen) 27 refl refl (over h) end refl
more_names_read tokens (w ∷ ws) at next h end =
    let name = first (behind h) in
    let more = more_names_read tokens ws (at + 1 + 1) next (behind (behind h)) end in
    grows_more (record { span = name.token.span; bytes = w.bytes }) more (λ before rest parts o c. enters 26 (kind_here (first h)) refl (takes_it (first h) refl (takes_name name (builds_on c)))) (ap (λ l. u.word w ∷ l) more.alike)

pub suffix_read : (tokens : List Token) (x : Suffix) (at next : ℕ) → Stands tokens at (suffix_words x) next → Has tokens next ends_suffix → Gives tokens s.Suffix at next suffix u.suffix (u.suffix x)
suffix_read tokens Plain at next h end = record { tree = Plain; alike = refl; from = λ c. enters_by ends_suffix 40 refl (has_at (over h) end) (builds_on (settled (over h) c)) }
suffix_read tokens Open at next h end = record {
  tree = Open;
  alike = refl;
  from = λ c. enters 39 (kind_here (first h)) refl (takes_it (first h) refl (enters 42 (kind_here (first (behind h))) refl (builds_on (takes_it (first (behind h)) refl (settled (over (behind (behind h))) c)))));
}
suffix_read tokens (Sized x) at next h end =
    let size = first (behind h) in
    record {
      tree = Sized (record { span = size.token.span; value = x.value; ty = x.ty });
      alike = refl;
      from = λ c. enters 39 (kind_here (first h)) refl (takes_it (first h) refl (enters 41 (kind_here size) refl (takes_number size (builds_on (takes_it (first (behind (behind h))) refl (settled (over (behind (behind (behind h)))) c))))));
    }

pub record ReadDeclarator (tokens : List Token) (d : Declarator) (at next : ℕ) : Type 0 where
  pub begins : Has tokens at begins_declarator
  pub gives : Gives tokens s.Declarator at next declarator u.declarator (u.declarator d)

declarator_is : (tokens : List Token) (star : Bool) (w : Word) (x : Suffix) (at next : ℕ) → Stands tokens at (starred star w.bytes ++ suffix_words x) next → Has tokens next ends_suffix → ReadDeclarator tokens (record { span = w.span; pointer = star; name = w; suffix = x }) at next
declarator_is tokens true w x at next h end =
    let name = first (behind h) in
    let rest = suffix_read tokens x (at + 1 + 1) next (behind (behind h)) end in
    record {
      begins = has_here begins_declarator (first h) refl;
      gives = record {
        tree = record { span = _; pointer = true; name = record { span = name.token.span; bytes = w.bytes }; suffix = rest.tree };
        alike = ap (λ z. record { span = u.nowhere; pointer = true; name = u.word w; suffix = z }) rest.alike;
        from = λ c. enters 36 (kind_here (first h)) refl (enters 37 (kind_here (first h)) refl (takes_it (first h) refl (builds_on (takes_name name (rest.from (builds_on c))))));
      };
    }
declarator_is tokens false w x at next h end =
    let name = first h in
    let rest = suffix_read tokens x (at + 1) next (behind h) end in
    record {
      begins = has_here begins_declarator (name) refl;
      gives = record {
        tree = record { span = _; pointer = false; name = record { span = name.token.span; bytes = w.bytes }; suffix = rest.tree };
        alike = ap (λ z. record { span = u.nowhere; pointer = false; name = u.word w; suffix = z }) rest.alike;
        from = λ c. enters 36 (kind_here name) refl (enters 38 (kind_here name) refl (builds_on (takes_name name (rest.from (builds_on c)))));
      };
    }

pub declarator_read : (tokens : List Token) (d : Declarator) (at next : ℕ) → Stands tokens at (declarator_words d) next → Has tokens next ends_suffix → ReadDeclarator tokens d at next
declarator_read tokens d at next h end = let x = declarator_is tokens d.pointer d.name d.suffix at next h end in record { begins = x.begins; gives = record { tree = x.gives.tree; alike = x.gives.alike; from = x.gives.from } }

pub record MoreDeclarators (tokens : List Token) (ds : List Declarator) (at next : ℕ) : Type 0 where
  pub begins : Has tokens at ends_suffix
  pub grows : Grows tokens s.MoreDeclarators at next declarators (map u.declarator) (map u.declarator ds)

pub more_declarators_read : (tokens : List Token) (ds : List Declarator) (at next : ℕ) → Stands tokens at (more_declarators ds) next → Has tokens next (only k.Semicolon) → MoreDeclarators tokens ds at next
more_declarators_read tokens [] at next h end = record { begins = has_at (over h) (weaker (only k.Semicolon) ends_suffix refl end); grows = grows_none (only k.Semicolon) 35 refl refl (over h) end refl }
more_declarators_read tokens (d ∷ ds) at next h end =
    let both = split (declarator_words d) (more_declarators ds) (behind h) in
    let more = more_declarators_read tokens ds both.mid next both.right end in
    let one = declarator_read tokens d (at + 1) both.mid both.left more.begins in
    record {
      begins = has_here ends_suffix (first h) refl;
      grows = grows_more one.gives.tree more.grows (λ before rest parts o c. enters 34 (kind_here (first h)) refl (takes_it (first h) refl (one.gives.from (builds_on c)))) (cc);
    }
