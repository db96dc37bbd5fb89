-- The words of declarations read back.
use Rattle.std.proofs.Common.{◌≡◌, ℕ, ◌+◌, List, [], ◌∷◌, ◌++◌, true, false, ◌&&◌, refl, ap, map}
use Rattle.std.specs.List.{list_all}
use Rattle.pt_base.specs.declared.span.Span.{Span}
use Rattle.pt_base.proofs.Booleans.{and_parts, false_true_absurd}
use Rattle.c_lexer.specs.declared.token.Token.{Token}
use Rattle.c_lexer.specs.declared.token.TokenKind.TheVariants as k
use Rattle.c_grammar.specs.declared.symbol.Symbol.TheVariants as s
use Rattle.c_grammar.specs.Part.{exprs, init, init_declarators, declaration, item}
use Rattle.c_grammar.specs.Machine.{stretch}
use Rattle.pt_tree.specs.declared.specifier.Declarator.{Declarator}
use Rattle.pt_tree.specs.SpecifierTree.{SpecTrees, spec_trees}
use Rattle.pt_tree.specs.ExpressionTree.{ExprTree, ExprTrees, no_exprs, expr_and, expr_trees}
use Rattle.pt_tree.specs.StatementTree.{InitTree, no_init, single, braces, InitDeclaratorTree, DeclarationTree}
use Rattle.pt_tree.specs.ProgramTree.{declares}
use Rattle.c_printer.specs.Pieces.{Gap, tight, spaced, fixed}
use Rattle.c_printer.specs.Specifiers.{specifiers, declarator_words}
use Rattle.c_printer.specs.Expressions.{expression, expressions, more_expressions}
use Rattle.c_printer.specs.Statements.{initialiser, init_declarator, more_init_declarators, init_declarators as init_declarators_words, declaration as declaration_words}
use Rattle.c_printer.specs.Plain.{expr_plain, exprs_plain, init_plain, declarator_plain, init_declarator_plain, declaration_plain, specs_plain}
use Rattle.c_printer.specs.Unplaced as u
use Rattle.c_printer_law.proofs.Classes.{only, starts, ends, ends_suffix, ends_init, begins_init, ends_specs, begins_spec, begins_declarator}
use Rattle.c_printer_law.proofs.Declarators.{ReadDeclarator, declarator_read}
use Rattle.c_printer_law.proofs.Specifiers.{specs_read}
use Rattle.c_printer_law.proofs.Operands.{whole}
use Rattle.c_printer_law.proofs.Expressions.{expr_read, exprs_are}
use Rattle.c_printer_law.proofs.Steps.{Has, Stands, first, behind, over, split, Gives, Grows, grows_none, grows_more, enters, enters_by, takes_it, builds_on, kind_here, has_here, has_at, weaker, settled, counted_from}

-- more items in braces
record MoreItems (tokens : List Token) (es : ExprTrees) (at next : ℕ) : Type 0 where
  begins : Has tokens at (ends 0)
  grows : Grows tokens s.InitItems at next exprs (λ l. u.exprs (expr_trees l)) (u.exprs es)

more_items_read : (tokens : List Token) (es : ExprTrees) (at next : ℕ) → exprs_plain es ≡ true → Stands tokens at (more_expressions es) next → Has tokens next (only k.CloseBrace) → MoreItems tokens es at next
more_items_read tokens no_exprs at next plain h end = record { begins = has_at (over h) (weaker (only k.CloseBrace) (ends 0) refl end); grows = grows_none (only k.CloseBrace) 48 refl refl (over h) end refl }
more_items_read tokens (expr_and e rest) at next plain h end =
    let both = and_parts (expr_plain e) (exprs_plain rest) plain in
    let one = split (expression e spaced) (more_expressions rest) (behind h) in
    let more = more_items_read tokens rest one.mid next both.1 one.right end in
    let x = whole (expr_read tokens e both.0) spaced (at + 1) one.mid one.left more.begins in
    record {
      begins = has_here (ends 0) (first h) refl;
      grows = grows_more x.gives.tree more.grows (λ before rest parts o c. enters 47 (kind_here (first h)) refl (takes_it (first h) refl (enters_by starts 49 refl x.begins (counted_from x.gives (builds_on c))))) (exprs_are (u.expr x.gives.tree) (u.expr e) (u.exprs (expr_trees more.grows.new)) (u.exprs rest) x.gives.alike more.grows.alike);
    }

braces_are : (a b : ExprTree) (l m : ExprTrees) → a ≡ b → l ≡ m → braces u.nowhere (expr_and a l) ≡ braces u.nowhere (expr_and b m)
braces_are a b l m i j = cc

-- an initialiser, or none
record ReadInit (tokens : List Token) (x : InitTree) (at next : ℕ) : Type 0 where
  begins : Has tokens at begins_init
  gives : Gives tokens s.Init at next init u.init (u.init x)

init_read : (tokens : List Token) (x : InitTree) (at next : ℕ) → init_plain x ≡ true → Stands tokens at (initialiser x) next → Has tokens next ends_init → ReadInit tokens x at next
init_read tokens no_init at next plain h end = record {
  begins = has_at (over h) (weaker ends_init begins_init refl end);
  gives = record { tree = no_init; alike = refl; from = λ {rest} {parts} {o} c. enters_by ends_init 44 refl (has_at (over h) end) (builds_on (settled (over h) c)) };
}
init_read tokens (single e) at next plain h end =
    let x = whole (expr_read tokens e plain) spaced (at + 1) next (behind h) (weaker ends_init (ends 0) refl end) in
    record {
      begins = has_here begins_init (first h) refl;
      gives = record {
        tree = single x.gives.tree;
        alike = ap (λ d. single d) x.gives.alike;
        from = λ {rest} {parts} {o} c. enters 43 (kind_here (first h)) refl (takes_it (first h) refl (enters_by starts 45 refl x.begins (counted_from x.gives (builds_on c))));
      };
    }
init_read tokens (braces here no_exprs) at next plain h end = absurd (false_true_absurd (and_parts false (exprs_plain no_exprs) plain).0)
init_read tokens (braces here (expr_and e rest)) at next plain h end =
    let both = and_parts (expr_plain e) (exprs_plain rest) (and_parts true (expr_plain e && exprs_plain rest) plain).1 in
    let open_brace = first (behind h) in
    let one = split (expressions (expr_and e rest)) (fixed tight k.CloseBrace ∷ []) (behind (behind h)) in
    let two = split (expression e tight) (more_expressions rest) one.left in
    let more = more_items_read tokens rest two.mid one.mid both.1 two.right (has_here (only k.CloseBrace) (first one.right) refl) in
    let x = whole (expr_read tokens e both.0) tight (at + 1 + 1) two.mid two.left more.begins in
    record {
      begins = has_here begins_init (first h) refl;
      gives = record {
        tree = braces (stretch tokens (at + 1) next) (expr_trees (x.gives.tree ∷ more.grows.new));
        alike = braces_are (u.expr x.gives.tree) (u.expr e) (u.exprs (expr_trees more.grows.new)) (u.exprs rest) x.gives.alike more.grows.alike;
        from = λ {rest} {parts} {o} c. enters 43 (kind_here (first h)) refl (takes_it (first h) refl (enters 46 (kind_here open_brace) refl (takes_it open_brace refl (counted_from x.gives (builds_on (more.grows.from (x.gives.tree ∷ []) (takes_it (first one.right) refl (settled (over (behind one.right)) (builds_on c)))))))));
      };
    }

-- a declarator with its initialiser, as two parts
pub record ReadInitDeclarator (tokens : List Token) (d : InitDeclaratorTree) (at mid next : ℕ) : Type 0 where
  pub goes_on : Has tokens mid begins_init
  pub name : ReadDeclarator tokens d.declarator at mid
  pub value : Gives tokens s.Init mid next init u.init (u.init d.init)

pub init_declarator_read : (tokens : List Token) (d : InitDeclaratorTree) (at next : ℕ) → init_declarator_plain d ≡ true → Stands tokens at (init_declarator d) next → Has tokens next ends_init → (mid : ℕ) × ReadInitDeclarator tokens d at mid next
init_declarator_read tokens d at next plain h end =
    let both = and_parts (declarator_plain d.declarator) (init_plain d.init) plain in
    let one = split (declarator_words d.declarator) (initialiser d.init) h in
    let value = init_read tokens d.init one.mid next both.1 one.right end in
    (one.mid, record { goes_on = value.begins; name = declarator_read tokens d.declarator at one.mid one.left (weaker begins_init ends_suffix refl value.begins); value = value.gives })

-- those behind the first
pub record MoreInits (tokens : List Token) (ds : List InitDeclaratorTree) (at next : ℕ) : Type 0 where
  pub begins : Has tokens at ends_init
  pub grows : Grows tokens s.More at next init_declarators (map u.init_declarator) (map u.init_declarator ds)

pub inits_are : (d e : Declarator) (i j : InitTree) (l m : List InitDeclaratorTree) → u.declarator d ≡ u.declarator e → u.init i ≡ u.init j → map u.init_declarator l ≡ map u.init_declarator m → map u.init_declarator (record { declarator = d; init = i } ∷ l) ≡ map u.init_declarator (record { declarator = e; init = j } ∷ m)
inits_are d e i j l m x y z = cc

pub more_inits_read : (tokens : List Token) (ds : List InitDeclaratorTree) (at next : ℕ) → list_all init_declarator_plain ds ≡ true → Stands tokens at (more_init_declarators ds) next → Has tokens next (only k.Semicolon) → MoreInits tokens ds at next
more_inits_read tokens [] at next plain h end = record { begins = has_at (over h) (weaker (only k.Semicolon) ends_init refl end); grows = grows_none (only k.Semicolon) 52 refl refl (over h) end refl }
more_inits_read tokens (d ∷ ds) at next plain h end =
    let both = and_parts (init_declarator_plain d) (list_all init_declarator_plain ds) plain in
    let one = split (init_declarator d) (more_init_declarators ds) (behind h) in
    let more = more_inits_read tokens ds one.mid next both.1 one.right end in
    let x = init_declarator_read tokens d (at + 1) one.mid both.0 one.left more.begins in
    record {
      begins = has_here ends_init (first h) refl;
      grows = grows_more (record { declarator = x.1.name.gives.tree; init = x.1.value.tree }) more.grows (λ before rest parts o c. enters 51 (kind_here (first h)) refl (takes_it (first h) refl (x.1.name.gives.from (x.1.value.from (builds_on c))))) (inits_are x.1.name.gives.tree d.declarator x.1.value.tree d.init more.grows.new ds x.1.name.gives.alike x.1.value.alike more.grows.alike);
    }

-- what follows the specifiers of a declaration, in a block and outside of functions
record ReadRest (tokens : List Token) (ds : List InitDeclaratorTree) (at next : ℕ) : Type 0 where
  begins : Has tokens at ends_specs
  inside : Gives tokens s.DeclarationRest at next init_declarators (map u.init_declarator) (map u.init_declarator ds)
  outside : Gives tokens s.ExternalRest at next init_declarators (map u.init_declarator) (map u.init_declarator ds)

rest_read : (tokens : List Token) (ds : List InitDeclaratorTree) (at next : ℕ) → list_all init_declarator_plain ds ≡ true → Stands tokens at (init_declarators_words ds ++ (fixed tight k.Semicolon ∷ [])) next → ReadRest tokens ds at next
rest_read tokens [] at next plain h = record {
  begins = has_here ends_specs (first h) refl;
  inside = record { tree = []; alike = refl; from = λ {rest} {parts} {o} c. enters 66 (kind_here (first h)) refl (takes_it (first h) refl (builds_on (settled (over (behind h)) c))) };
  outside = record { tree = []; alike = refl; from = λ {rest} {parts} {o} c. enters 4 (kind_here (first h)) refl (takes_it (first h) refl (builds_on (settled (over (behind h)) c))) };
}
rest_read tokens (d ∷ ds) at next plain h =
    let both = and_parts (init_declarator_plain d) (list_all init_declarator_plain ds) plain in
    let one = split (init_declarators_words (d ∷ ds)) (fixed tight k.Semicolon ∷ []) h in
    let two = split (init_declarator d) (more_init_declarators ds) one.left in
    let more = more_inits_read tokens ds two.mid one.mid both.1 two.right (has_here (only k.Semicolon) (first one.right) refl) in
    let x = init_declarator_read tokens d at two.mid both.0 two.left more.begins in
    let new = record { declarator = x.1.name.gives.tree; init = x.1.value.tree } ∷ more.grows.new in
    let same = inits_are x.1.name.gives.tree d.declarator x.1.value.tree d.init more.grows.new ds x.1.name.gives.alike x.1.value.alike more.grows.alike in
    record {
      begins = weaker begins_declarator ends_specs refl x.1.name.begins;
      inside = record { tree = new; alike = same; from = λ {rest} {parts} {o} c. enters_by begins_declarator 67 refl x.1.name.begins (x.1.name.gives.from (x.1.value.from (builds_on (more.grows.from (record { declarator = x.1.name.gives.tree; init = x.1.value.tree } ∷ []) (takes_it (first one.right) refl (settled (over (behind one.right)) c)))))) };
      outside = record { tree = new; alike = same; from = λ {rest} {parts} {o} c. enters_by begins_declarator 5 refl x.1.name.begins (x.1.name.gives.from (enters_by begins_init 7 refl x.1.goes_on (x.1.value.from (builds_on (more.grows.from (record { declarator = x.1.name.gives.tree; init = x.1.value.tree } ∷ []) (takes_it (first one.right) refl (settled (over (behind one.right)) c))))))) };
    }

-- a declaration, in a block and as an item
pub record ReadDeclaration (tokens : List Token) (d : DeclarationTree) (at next : ℕ) : Type 0 where
  pub begins : Has tokens at begins_spec
  pub inside : Gives tokens s.Declaration at next declaration u.declaration (u.declaration d)
  pub outside : Gives tokens s.External at next item u.item (u.item (declares d))

declaration_is : (at : Span) (l m : SpecTrees) (ds es : List InitDeclaratorTree) → u.specs l ≡ u.specs m → map u.init_declarator ds ≡ map u.init_declarator es → u.declaration (record { span = at; specs = l; declarators = ds }) ≡ u.declaration (record { span = at; specs = m; declarators = es })
declaration_is at l m ds es x y = cc

pub declaration_read : (tokens : List Token) (d : DeclarationTree) (gap : Gap) (at next : ℕ) → declaration_plain d ≡ true → Stands tokens at (declaration_words d gap) next → ReadDeclaration tokens d at next
declaration_read tokens d gap at next plain h =
    let both = and_parts (specs_plain d.specs) (list_all init_declarator_plain d.declarators) plain in
    let one = split (specifiers d.specs gap) (init_declarators_words d.declarators ++ (fixed tight k.Semicolon ∷ [])) h in
    let after = rest_read tokens d.declarators one.mid next both.1 one.right in
    let of = specs_read tokens d.specs gap at one.mid both.0 one.left after.begins in
    record {
      begins = of.begins;
      inside = record {
        tree = record { span = stretch tokens at next; specs = spec_trees of.gives.tree; declarators = after.inside.tree };
        alike = declaration_is (stretch tokens at next) (spec_trees of.gives.tree) d.specs after.inside.tree d.declarators of.gives.alike after.inside.alike;
        from = λ {rest} {parts} {o} c. enters_by begins_spec 65 refl of.begins (of.gives.from (after.inside.from (builds_on c)));
      };
      outside = record {
        tree = declares (record { span = stretch tokens at next; specs = spec_trees of.gives.tree; declarators = after.outside.tree });
        alike = ap (λ x. declares x) (declaration_is (stretch tokens at next) (spec_trees of.gives.tree) d.specs after.outside.tree d.declarators of.gives.alike after.outside.alike);
        from = λ {rest} {parts} {o} c. enters_by begins_spec 3 refl of.begins (of.gives.from (after.outside.from (builds_on c)));
      };
    }
