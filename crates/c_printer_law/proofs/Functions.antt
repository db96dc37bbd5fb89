-- The words of parameters and functions read back.
use Rattle.std.proofs.Common.{◌≡◌, ℕ, ◌+◌, List, [], ◌∷◌, ◌++◌, Bool, true, false, ◌&&◌, Option, None, Some, refl, ap, ◌∙◌, map, option_map}
use Rattle.std.specs.List.{list_all}
use Rattle.pt_base.specs.declared.span.Span.{Span}
use Rattle.pt_base.proofs.Booleans.{and_parts}
use Rattle.c_lexer.specs.declared.token.Token.{Token}
use Rattle.c_lexer.specs.declared.token.TokenKind.TheVariants as k
use Rattle.c_grammar.specs.declared.symbol.Symbol.TheVariants as s
use Rattle.c_grammar.specs.Part.{Part, suffix, pointer, name, param, params, body, item}
use Rattle.c_grammar.specs.Machine.{Entry, gives, Outcome, stretch}
use Rattle.pt_tree.specs.declared.word.Word.{Word}
use Rattle.pt_tree.specs.declared.specifier.Declarator.{Declarator}
use Rattle.pt_tree.specs.declared.specifier.Suffix.{Suffix}
use Rattle.pt_tree.specs.declared.specifier.Suffix.TheVariants.{Plain, Open, Sized}
use Rattle.pt_tree.specs.SpecifierTree.{SpecTrees, spec_trees}
use Rattle.pt_tree.specs.StatementTree.{StmtTree, stmt_and, stmt_trees, BlockTree}
use Rattle.pt_tree.specs.ProgramTree.{ParamTree, FunctionTree, function}
use Rattle.c_printer.specs.Pieces.{Gap, tight, spaced, fixed}
use Rattle.c_printer.specs.Specifiers.{specifiers, declarator_words, suffix_words}
use Rattle.c_printer.specs.Items.{param_name, param_words, more_params, params_words, body_words, function_gap, function_words}
use Rattle.c_printer.specs.Plain.{specs_plain, declarator_plain, param_plain, body_plain, function_plain, stmt_plain, stmts_plain}
use Rattle.c_printer.specs.Unplaced as u
use Rattle.c_printer_law.proofs.Classes.{only, begins_spec, ends_specs, ends_suffix, ends_param, after_name, begins_declarator}
use Rattle.c_printer_law.proofs.Declarators.{suffix_read, declarator_read}
use Rattle.c_printer_law.proofs.Specifiers.{specs_read}
use Rattle.c_printer_law.proofs.Statements.{block_given, stmts_read}
use Rattle.c_printer_law.proofs.Steps.{Comes, Has, Stands, first, behind, over, split, Gives, Grows, grows_none, grows_more, enters, enters_by, takes_it, takes_name, builds_on, kind_here, has_here, has_at, weaker, settled}

suffix_begins : (tokens : List Token) (x : Suffix) (at next : ℕ) → Stands tokens at (suffix_words x) next → Has tokens next ends_param → Has tokens at after_name
suffix_begins tokens Plain at next h end = has_at (over h) (weaker ends_param after_name refl end)
suffix_begins tokens Open at next h end = has_here after_name (first h) refl
suffix_begins tokens (Sized c) at next h end = has_here after_name (first h) refl

-- the star, the name and the brackets of a parameter
record ReadName (tokens : List Token) (star : Bool) (n : Option Word) (x : Suffix) (at next : ℕ) : Type 0 where
  begins : Has tokens at ends_specs
  found : Option Word
  alike : option_map u.word found ≡ option_map u.word n
  brackets : Suffix
  alike_brackets : u.suffix brackets ≡ u.suffix x
  from : {rest : List Entry} {parts : List Part} {o : Outcome} → Comes tokens rest next (suffix brackets ∷ name found ∷ pointer star ∷ parts) o → Comes tokens (gives s.Star ∷ gives s.Name ∷ gives s.Suffix ∷ rest) at parts o

name_read : (tokens : List Token) (star : Bool) (n : Option Word) (x : Suffix) (at next : ℕ) → Stands tokens at (param_name star n ++ suffix_words x) next → Has tokens next ends_param → ReadName tokens star n x at next
name_read tokens true (Some w) x at next h end =
    let id = first (behind h) in
    let y = suffix_read tokens x (at + 1 + 1) next (behind (behind h)) (weaker ends_param ends_suffix refl end) in
    record {
      begins = has_here ends_specs (first h) refl;
      found = Some (record { span = id.token.span; bytes = w.bytes });
      alike = refl;
      brackets = y.tree;
      alike_brackets = y.alike;
      from = λ {rest} {parts} {o} c. enters 37 (kind_here (first h)) refl (takes_it (first h) refl (builds_on (enters 58 (kind_here id) refl (takes_name id (builds_on (y.from c))))));
    }
name_read tokens false (Some w) x at next h end =
    let id = first h in
    let y = suffix_read tokens x (at + 1) next (behind h) (weaker ends_param ends_suffix refl end) in
    record {
      begins = has_here ends_specs (first h) refl;
      found = Some (record { span = id.token.span; bytes = w.bytes });
      alike = refl;
      brackets = y.tree;
      alike_brackets = y.alike;
      from = λ {rest} {parts} {o} c. enters 38 (kind_here id) refl (builds_on (enters 58 (kind_here id) refl (takes_name id (builds_on (y.from c)))));
    }
name_read tokens true None x at next h end =
    let y = suffix_read tokens x (at + 1) next (behind h) (weaker ends_param ends_suffix refl end) in
    let after = suffix_begins tokens x (at + 1) next (behind h) end in
    record {
      begins = has_here ends_specs (first h) refl;
      found = None;
      alike = refl;
      brackets = y.tree;
      alike_brackets = y.alike;
      from = λ {rest} {parts} {o} c. enters 37 (kind_here (first h)) refl (takes_it (first h) refl (builds_on (enters_by after_name 59 refl after (builds_on (y.from c)))));
    }
name_read tokens false None x at next h end =
    let y = suffix_read tokens x at next h (weaker ends_param ends_suffix refl end) in
    let after = suffix_begins tokens x at next h end in
    record {
      begins = weaker after_name ends_specs refl after;
      found = None;
      alike = refl;
      brackets = y.tree;
      alike_brackets = y.alike;
      from = λ {rest} {parts} {o} c. enters_by after_name 38 refl after (builds_on (enters_by after_name 59 refl after (builds_on (y.from c))));
    }

record ReadParam (tokens : List Token) (p : ParamTree) (at next : ℕ) : Type 0 where
  begins : Has tokens at begins_spec
  gives : Gives tokens s.Param at next param u.param (u.param p)

param_is : (at : Span) (star : Bool) (l m : SpecTrees) (x y : Option Word) (v w : Suffix) → u.specs l ≡ u.specs m → option_map u.word x ≡ option_map u.word y → u.suffix v ≡ u.suffix w → u.param (record { span = at; specs = l; pointer = star; name = x; suffix = v }) ≡ u.param (record { span = at; specs = m; pointer = star; name = y; suffix = w })
param_is at star l m x y v w h i j = cc

param_read : (tokens : List Token) (p : ParamTree) (gap : Gap) (at next : ℕ) → param_plain p ≡ true → Stands tokens at (param_words p gap) next → Has tokens next ends_param → ReadParam tokens p at next
param_read tokens p gap at next plain h end =
    let both = and_parts (specs_plain p.specs) _ plain in
    let one = split (specifiers p.specs gap) (param_name p.pointer p.name ++ suffix_words p.suffix) h in
    let named = name_read tokens p.pointer p.name p.suffix one.mid next one.right end in
    let of = specs_read tokens p.specs gap at one.mid both.0 one.left named.begins in
    record {
      begins = of.begins;
      gives = record {
        tree = record { span = stretch tokens at next; specs = spec_trees of.gives.tree; pointer = p.pointer; name = named.found; suffix = named.brackets };
        alike = param_is (stretch tokens at next) p.pointer (spec_trees of.gives.tree) p.specs named.found p.name named.brackets p.suffix of.gives.alike named.alike named.alike_brackets;
        from = λ {rest} {parts} {o} c. enters_by begins_spec 57 refl of.begins (of.gives.from (named.from (builds_on c)));
      };
    }

record MoreParams (tokens : List Token) (ps : List ParamTree) (at next : ℕ) : Type 0 where
  begins : Has tokens at ends_param
  grows : Grows tokens s.MoreParams at next params (map u.param) (map u.param ps)

params_are : (a b : ParamTree) (l m : List ParamTree) → a ≡ b → l ≡ m → a ∷ l ≡ b ∷ m
params_are a b l m i j = cc

more_params_read : (tokens : List Token) (ps : List ParamTree) (at next : ℕ) → list_all param_plain ps ≡ true → Stands tokens at (more_params ps) next → Has tokens next (only k.CloseParen) → MoreParams tokens ps at next
more_params_read tokens [] at next plain h end = record { begins = has_at (over h) (weaker (only k.CloseParen) ends_param refl end); grows = grows_none (only k.CloseParen) 56 refl refl (over h) end refl }
more_params_read tokens (p ∷ ps) at next plain h end =
    let both = and_parts (param_plain p) (list_all param_plain ps) plain in
    let one = split (param_words p spaced) (more_params ps) (behind h) in
    let more = more_params_read tokens ps one.mid next both.1 one.right end in
    let x = param_read tokens p spaced (at + 1) one.mid both.0 one.left more.begins in
    record {
      begins = has_here ends_param (first h) refl;
      grows = grows_more x.gives.tree more.grows (λ before rest parts o c. enters 55 (kind_here (first h)) refl (takes_it (first h) refl (x.gives.from (builds_on c)))) (params_are (u.param x.gives.tree) (u.param p) (map u.param more.grows.new) (map u.param ps) x.gives.alike more.grows.alike);
    }

params_read : (tokens : List Token) (ps : List ParamTree) (at next : ℕ) → list_all param_plain ps ≡ true → Stands tokens at (params_words ps) next → Has tokens next (only k.CloseParen) → Gives tokens s.Params at next params (map u.param) (map u.param ps)
params_read tokens [] at next plain h end = record { tree = []; alike = refl; from = λ {rest} {parts} {o} c. enters_by (only k.CloseParen) 54 refl (has_at (over h) end) (builds_on (settled (over h) c)) }
params_read tokens (p ∷ ps) at next plain h end =
    let both = and_parts (param_plain p) (list_all param_plain ps) plain in
    let one = split (param_words p tight) (more_params ps) h in
    let more = more_params_read tokens ps one.mid next both.1 one.right end in
    let x = param_read tokens p tight at one.mid both.0 one.left more.begins in
    record {
      tree = x.gives.tree ∷ more.grows.new;
      alike = params_are (u.param x.gives.tree) (u.param p) (map u.param more.grows.new) (map u.param ps) x.gives.alike more.grows.alike;
      from = λ {rest} {parts} {o} c. enters_by begins_spec 53 refl x.begins (x.gives.from (builds_on (more.grows.from (x.gives.tree ∷ []) c)));
    }

-- lists in trees
all_plain : (xs : List StmtTree) → list_all stmt_plain xs ≡ true → stmts_plain (stmt_trees xs) ≡ true
all_plain [] h = refl
all_plain (x ∷ xs) h = ap (λ b. stmt_plain x && b) (all_plain xs (and_parts (stmt_plain x) (list_all stmt_plain xs) h).1) ∙ ap (λ b. b && true) (and_parts (stmt_plain x) (list_all stmt_plain xs) h).0

same_list : (xs ys : List StmtTree) → u.stmts (stmt_trees xs) ≡ u.stmts (stmt_trees ys) → map u.stmt xs ≡ map u.stmt ys
same_list [] [] h = refl
same_list [] (y ∷ ys) h = cc
same_list (x ∷ xs) [] h = cc
same_list (x ∷ xs) (y ∷ ys) h = joined (same_list xs ys (tails h)) (heads h)
  where
    heads : stmt_and (u.stmt x) (u.stmts (stmt_trees xs)) ≡ stmt_and (u.stmt y) (u.stmts (stmt_trees ys)) → u.stmt x ≡ u.stmt y
    heads e = cc

    tails : stmt_and (u.stmt x) (u.stmts (stmt_trees xs)) ≡ stmt_and (u.stmt y) (u.stmts (stmt_trees ys)) → u.stmts (stmt_trees xs) ≡ u.stmts (stmt_trees ys)
    tails e = cc

    joined : map u.stmt xs ≡ map u.stmt ys → u.stmt x ≡ u.stmt y → u.stmt x ∷ map u.stmt xs ≡ u.stmt y ∷ map u.stmt ys
    joined i j = cc

body_read : (tokens : List Token) (b : Option BlockTree) (at next : ℕ) → body_plain b ≡ true → Stands tokens at (body_words b) next → Gives tokens s.FunctionEnd at next body (option_map u.block_tree) (option_map u.block_tree b)
body_read tokens None at next plain h = record { tree = None; alike = refl; from = λ {rest} {parts} {o} c. enters 8 (kind_here (first h)) refl (takes_it (first h) refl (builds_on (settled (over (behind h)) c))) }
body_read tokens (Some b) at next plain h =
    let x = block_given (stmts_read tokens (stmt_trees b.items) (all_plain b.items plain)) 1 0 spaced at next h in
    record {
      tree = Some x.tree;
      alike = ap (λ l. Some (record { span = u.nowhere; items = l })) (same_list x.tree.items b.items x.alike);
      from = λ {rest} {parts} {o} c. enters 9 (kind_here (first h)) refl (x.from (builds_on c));
    }

pub record ReadFunction (tokens : List Token) (f : FunctionTree) (at next : ℕ) : Type 0 where
  pub begins : Has tokens at begins_spec
  pub gives : Gives tokens s.External at next item u.item (u.item (function f))

function_is : (at : Span) (l m : SpecTrees) (c d : Declarator) (ps qs : List ParamTree) (x y : Option BlockTree) → u.specs l ≡ u.specs m → u.declarator c ≡ u.declarator d → map u.param ps ≡ map u.param qs → option_map u.block_tree x ≡ option_map u.block_tree y → u.item (function (record { span = at; specs = l; declarator = c; params = ps; body = x })) ≡ u.item (function (record { span = at; specs = m; declarator = d; params = qs; body = y }))
function_is at l m c d ps qs x y h i j v = cc

pub function_read : (tokens : List Token) (f : FunctionTree) (at next : ℕ) → function_plain f ≡ true → Stands tokens at (function_words f) next → ReadFunction tokens f at next
function_read tokens f at next plain h =
    let p1 = and_parts (specs_plain f.specs) (declarator_plain f.declarator && (list_all param_plain f.params && body_plain f.body)) plain in
    let p2 = and_parts (declarator_plain f.declarator) (list_all param_plain f.params && body_plain f.body) p1.1 in
    let p3 = and_parts (list_all param_plain f.params) (body_plain f.body) p2.1 in
    let one = split (specifiers f.specs (function_gap f.body)) (declarator_words f.declarator ++ (fixed tight k.OpenParen ∷ (params_words f.params ++ (fixed tight k.CloseParen ∷ body_words f.body)))) h in
    let two = split (declarator_words f.declarator) (fixed tight k.OpenParen ∷ (params_words f.params ++ (fixed tight k.CloseParen ∷ body_words f.body))) one.right in
    let open_paren = first two.right in
    let three = split (params_words f.params) (fixed tight k.CloseParen ∷ body_words f.body) (behind two.right) in
    let close_paren = first three.right in
    let end = body_read tokens f.body (three.mid + 1) next p3.1 (behind three.right) in
    let ps = params_read tokens f.params (two.mid + 1) three.mid p3.0 three.left (has_here (only k.CloseParen) close_paren refl) in
    let d = declarator_read tokens f.declarator one.mid two.mid two.left (has_here ends_suffix open_paren refl) in
    let of = specs_read tokens f.specs (function_gap f.body) at one.mid p1.0 one.left (weaker begins_declarator ends_specs refl d.begins) in
    record {
      begins = of.begins;
      gives = record {
        tree = function (record { span = stretch tokens at next; specs = spec_trees of.gives.tree; declarator = d.gives.tree; params = ps.tree; body = end.tree });
        alike = function_is (stretch tokens at next) (spec_trees of.gives.tree) f.specs d.gives.tree f.declarator ps.tree f.params end.tree f.body of.gives.alike d.gives.alike ps.alike end.alike;
        from = λ {rest} {parts} {o} c. enters_by begins_spec 3 refl of.begins (of.gives.from (enters_by begins_declarator 5 refl d.begins (d.gives.from (enters 6 (kind_here open_paren) refl (takes_it open_paren refl (ps.from (takes_it close_paren refl (end.from (builds_on (builds_on c))))))))));
      };
    }
