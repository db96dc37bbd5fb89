-- How many nodes the parts of the derivation have, and that their constants are in range and their
-- words short.
use Rattle.std.proofs.Common.{◌≡◌, ℕ, ◌+◌, List, [], ◌∷◌, ◌++◌, Bool, ◌&&◌, length, refl, sym, ◌∙◌, arith}
use Rattle.std.specs.Prelude.{IsTrue}
use Rattle.pt_base.specs.declared.span.Span.{Span}
use Rattle.pt_base.proofs.Booleans.{both_hold, both_hold_first, both_hold_second}
use Rattle.pt_tree.specs.declared.word.Word.{Word}
use Rattle.pt_tree.specs.declared.specifier.Declarator.{Declarator}
use Rattle.pt_tree.specs.SpecifierTree.{SpecTree, FieldTree, spec_trees, field_trees}
use Rattle.pt_tree.specs.ExpressionTree.{ExprTree, LinkTree, PostfixTree, expr_trees, link_trees, postfix_trees}
use Rattle.pt_tree.specs.StatementTree.{InitDeclaratorTree, StmtTree, SectionTree, stmt_trees, section_trees}
use Rattle.pt_tree.specs.ProgramTree.{ParamTree, ItemTree}
use Rattle.pt_tree.specs.Nodes.{suffix_nodes, declarator_nodes, declarators_nodes, spec_nodes, specs_nodes, field_nodes, fields_nodes, expr_nodes, exprs_nodes, link_nodes, links_nodes, postfix_nodes, postfixes_nodes, option_nodes, init_nodes, inits_nodes, declaration_nodes, label_nodes, for_init_nodes, stmt_nodes, else_nodes, stmts_nodes, section_nodes, sections_nodes, name_nodes, param_nodes, params_nodes, block_nodes, body_nodes, item_nodes, nodes_of}
use Rattle.pt_tree.specs.Facts.{is_sound, word_sound, words_sound, name_sound, suffix_sound, declarator_sound, declarators_sound, spec_sound, specs_sound, field_sound, fields_sound, expr_sound, exprs_sound, link_sound, links_sound, postfix_sound, postfixes_sound, option_sound, init_sound, inits_sound, declaration_sound, label_sound, for_init_sound, stmt_sound, else_sound, stmts_sound, section_sound, sections_sound, params_sound, stmt_list_sound, body_sound, item_sound, items_sound}
use Rattle.c_grammar.specs.Part.{Part, word, number, absent, names, spec, specs, fields, field, pointer, suffix, declarator, declarators, init, init_declarators, a_rest, declaration, name, param, params, body, block, item, items, stmt, stmts, otherwise, for_init, label, section, sections, expr, exprs, maybe_expr, assign_op, assignment, arms, prefix_op, links, postfixes, cast_of, group_of}
use Rattle.c_grammar.specs.Builds.{postfixed, chained}

-- one for the node that a list of links or postfixes makes of its operand
abbrev pub node_over : {A : Type 0} → List A → ℕ
node_over [] = 0
node_over (x ∷ xs) = 1

-- how many nodes a part has, and how many it is sure to make of what it stands with
abbrev pub part_nodes : Part → ℕ
part_nodes (word w) = 1
part_nodes (number c) = 1
part_nodes absent = 0
part_nodes (names ns) = length ns
part_nodes (spec s) = spec_nodes s
part_nodes (specs ss) = specs_nodes (spec_trees ss)
part_nodes (fields fs) = fields_nodes (field_trees fs)
part_nodes (field f) = field_nodes f
part_nodes (pointer p) = 0
part_nodes (suffix x) = suffix_nodes x
part_nodes (declarator d) = declarator_nodes d
part_nodes (declarators ds) = declarators_nodes ds
part_nodes (init i) = init_nodes i
part_nodes (init_declarators ds) = inits_nodes ds
part_nodes (a_rest d ps b) = declarator_nodes d + (params_nodes ps + body_nodes b)
part_nodes (declaration d) = declaration_nodes d
part_nodes (name n) = name_nodes n
part_nodes (param p) = param_nodes p
part_nodes (params ps) = params_nodes ps
part_nodes (body b) = body_nodes b
part_nodes (block b) = block_nodes b
part_nodes (item i) = item_nodes i
part_nodes (items is) = nodes_of is
part_nodes (stmt s) = stmt_nodes s
part_nodes (stmts ss) = stmts_nodes (stmt_trees ss)
part_nodes (otherwise o) = else_nodes o
part_nodes (for_init i) = for_init_nodes i
part_nodes (label l) = label_nodes l
part_nodes (section s) = section_nodes s
part_nodes (sections ss) = sections_nodes (section_trees ss)
part_nodes (expr e) = expr_nodes e
part_nodes (exprs es) = exprs_nodes (expr_trees es)
part_nodes (maybe_expr e) = option_nodes e
part_nodes (assign_op op) = 1
part_nodes (assignment op e) = 1 + expr_nodes e
part_nodes (arms a b) = 1 + (expr_nodes a + expr_nodes b)
part_nodes (prefix_op op) = 1
part_nodes (links ls) = node_over ls + links_nodes (link_trees ls)
part_nodes (postfixes ps) = node_over ps + postfixes_nodes (postfix_trees ps)
part_nodes (cast_of ss p e) = 1 + (specs_nodes (spec_trees ss) + expr_nodes e)
part_nodes (group_of e ps) = expr_nodes e + (node_over ps + postfixes_nodes (postfix_trees ps))

abbrev pub parts_nodes : List Part → ℕ
parts_nodes [] = 0
parts_nodes (p ∷ ts) = part_nodes p + parts_nodes ts

-- the constants of a part are in range, and its words are short
abbrev pub PartSound : Part → Type 0
PartSound (word w) = IsTrue (word_sound w)
PartSound (number c) = IsTrue (is_sound c)
PartSound absent = Unit {0}
PartSound (names ns) = IsTrue (words_sound ns)
PartSound (spec s) = IsTrue (spec_sound s)
PartSound (specs ss) = IsTrue (specs_sound (spec_trees ss))
PartSound (fields fs) = IsTrue (fields_sound (field_trees fs))
PartSound (field f) = IsTrue (field_sound f)
PartSound (pointer p) = Unit {0}
PartSound (suffix x) = IsTrue (suffix_sound x)
PartSound (declarator d) = IsTrue (declarator_sound d)
PartSound (declarators ds) = IsTrue (declarators_sound ds)
PartSound (init i) = IsTrue (init_sound i)
PartSound (init_declarators ds) = IsTrue (inits_sound ds)
PartSound (a_rest d ps b) = IsTrue (declarator_sound d) × IsTrue (params_sound ps) × IsTrue (body_sound b)
PartSound (declaration d) = IsTrue (declaration_sound d)
PartSound (name n) = IsTrue (name_sound n)
PartSound (param p) = IsTrue (specs_sound p.specs && (name_sound p.name && suffix_sound p.suffix))
PartSound (params ps) = IsTrue (params_sound ps)
PartSound (body b) = IsTrue (body_sound b)
PartSound (block b) = IsTrue (stmt_list_sound b.items)
PartSound (item i) = IsTrue (item_sound i)
PartSound (items is) = IsTrue (items_sound is)
PartSound (stmt s) = IsTrue (stmt_sound s)
PartSound (stmts ss) = IsTrue (stmt_list_sound ss)
PartSound (otherwise o) = IsTrue (else_sound o)
PartSound (for_init i) = IsTrue (for_init_sound i)
PartSound (label l) = IsTrue (label_sound l)
PartSound (section s) = IsTrue (section_sound s)
PartSound (sections ss) = IsTrue (sections_sound (section_trees ss))
PartSound (expr e) = IsTrue (expr_sound e)
PartSound (exprs es) = IsTrue (exprs_sound (expr_trees es))
PartSound (maybe_expr e) = IsTrue (option_sound e)
PartSound (assign_op op) = Unit {0}
PartSound (assignment op e) = IsTrue (expr_sound e)
PartSound (arms a b) = IsTrue (expr_sound a) × IsTrue (expr_sound b)
PartSound (prefix_op op) = Unit {0}
PartSound (links ls) = IsTrue (links_sound (link_trees ls))
PartSound (postfixes ps) = IsTrue (postfixes_sound (postfix_trees ps))
PartSound (cast_of ss p e) = IsTrue (specs_sound (spec_trees ss)) × IsTrue (expr_sound e)
PartSound (group_of e ps) = IsTrue (expr_sound e) × IsTrue (postfixes_sound (postfix_trees ps))

abbrev pub Sound : List Part → Type 0
Sound [] = Unit {0}
Sound (p ∷ ts) = PartSound p × Sound ts

pub nodes_append : (xs ts : List Part) → parts_nodes (xs ++ ts) ≡ parts_nodes xs + parts_nodes ts
nodes_append [] ts = omega arith
nodes_append (p ∷ xs) ts = let h = nodes_append xs ts in omega (arith, h)

pub sound_append : (xs ts : List Part) → Sound xs → Sound ts → Sound (xs ++ ts)
sound_append [] ts a b = b
sound_append (p ∷ xs) ts a b = (a.0, sound_append xs ts a.1 b)

-- one more at the end of a list
add : {A : Type 0} (f : A → ℕ) (g : List A → ℕ) → g [] ≡ 0 → ((x : A) (xs : List A) → g (x ∷ xs) ≡ f x + g xs) → (xs : List A) (x : A) → g (xs ++ x ∷ []) ≡ g xs + f x
add f g none more [] x = let h = more x [] in omega (arith, h, none)
add f g none more (y ∷ ys) x = let h = add f g none more ys x in let k = more y (ys ++ x ∷ []) in let l = more y ys in omega (arith, h, k, l)

join : {A : Type 0} (p : A → Bool) (q : List A → Bool) → IsTrue (q []) → ((x : A) (xs : List A) → q (x ∷ xs) ≡ (p x && q xs)) → (xs : List A) (x : A) → IsTrue (q xs) → IsTrue (p x) → IsTrue (q (xs ++ x ∷ []))
join p q none more [] x h k = more x [] ∙ both_hold (p x) (q []) k none
join p q none more (y ∷ ys) x h k =
    let w : IsTrue (p y && q ys) = sym (more y ys) ∙ h in
    more y (ys ++ x ∷ []) ∙ both_hold (p y) (q (ys ++ x ∷ [])) (both_hold_first (p y) (q ys) w) (join p q none more ys x (both_hold_second (p y) (q ys) w) k)

pub specs_add : (ss : List SpecTree) (s : SpecTree) → specs_nodes (spec_trees (ss ++ s ∷ [])) ≡ specs_nodes (spec_trees ss) + spec_nodes s
specs_add = add spec_nodes (λ ss. specs_nodes (spec_trees ss)) refl (λ _ _. refl)

pub specs_join : (ss : List SpecTree) (s : SpecTree) → IsTrue (specs_sound (spec_trees ss)) → IsTrue (spec_sound s) → IsTrue (specs_sound (spec_trees (ss ++ s ∷ [])))
specs_join = join spec_sound (λ ss. specs_sound (spec_trees ss)) refl (λ _ _. refl)

pub words_join : (ns : List Word) (n : Word) → IsTrue (words_sound ns) → IsTrue (word_sound n) → IsTrue (words_sound (ns ++ n ∷ []))
words_join = join word_sound words_sound refl (λ _ _. refl)

pub fields_add : (fs : List FieldTree) (f : FieldTree) → fields_nodes (field_trees (fs ++ f ∷ [])) ≡ fields_nodes (field_trees fs) + field_nodes f
fields_add = add field_nodes (λ fs. fields_nodes (field_trees fs)) refl (λ _ _. refl)

pub fields_join : (fs : List FieldTree) (f : FieldTree) → IsTrue (fields_sound (field_trees fs)) → IsTrue (field_sound f) → IsTrue (fields_sound (field_trees (fs ++ f ∷ [])))
fields_join = join field_sound (λ fs. fields_sound (field_trees fs)) refl (λ _ _. refl)

pub exprs_add : (es : List ExprTree) (e : ExprTree) → exprs_nodes (expr_trees (es ++ e ∷ [])) ≡ exprs_nodes (expr_trees es) + expr_nodes e
exprs_add = add expr_nodes (λ es. exprs_nodes (expr_trees es)) refl (λ _ _. refl)

pub exprs_join : (es : List ExprTree) (e : ExprTree) → IsTrue (exprs_sound (expr_trees es)) → IsTrue (expr_sound e) → IsTrue (exprs_sound (expr_trees (es ++ e ∷ [])))
exprs_join = join expr_sound (λ es. exprs_sound (expr_trees es)) refl (λ _ _. refl)

pub links_add : (ls : List LinkTree) (l : LinkTree) → links_nodes (link_trees (ls ++ l ∷ [])) ≡ links_nodes (link_trees ls) + link_nodes l
links_add = add link_nodes (λ ls. links_nodes (link_trees ls)) refl (λ _ _. refl)

pub links_join : (ls : List LinkTree) (l : LinkTree) → IsTrue (links_sound (link_trees ls)) → IsTrue (link_sound l) → IsTrue (links_sound (link_trees (ls ++ l ∷ [])))
links_join = join link_sound (λ ls. links_sound (link_trees ls)) refl (λ _ _. refl)

pub postfixes_add : (ps : List PostfixTree) (p : PostfixTree) → postfixes_nodes (postfix_trees (ps ++ p ∷ [])) ≡ postfixes_nodes (postfix_trees ps) + postfix_nodes p
postfixes_add = add postfix_nodes (λ ps. postfixes_nodes (postfix_trees ps)) refl (λ _ _. refl)

pub postfixes_join : (ps : List PostfixTree) (p : PostfixTree) → IsTrue (postfixes_sound (postfix_trees ps)) → IsTrue (postfix_sound p) → IsTrue (postfixes_sound (postfix_trees (ps ++ p ∷ [])))
postfixes_join = join postfix_sound (λ ps. postfixes_sound (postfix_trees ps)) refl (λ _ _. refl)

pub stmts_add : (ss : List StmtTree) (s : StmtTree) → stmts_nodes (stmt_trees (ss ++ s ∷ [])) ≡ stmts_nodes (stmt_trees ss) + stmt_nodes s
stmts_add = add stmt_nodes (λ ss. stmts_nodes (stmt_trees ss)) refl (λ _ _. refl)

pub stmts_join : (ss : List StmtTree) (s : StmtTree) → IsTrue (stmt_list_sound ss) → IsTrue (stmt_sound s) → IsTrue (stmt_list_sound (ss ++ s ∷ []))
stmts_join = join stmt_sound stmt_list_sound refl (λ _ _. refl)

pub sections_add : (ss : List SectionTree) (s : SectionTree) → sections_nodes (section_trees (ss ++ s ∷ [])) ≡ sections_nodes (section_trees ss) + section_nodes s
sections_add = add section_nodes (λ ss. sections_nodes (section_trees ss)) refl (λ _ _. refl)

pub sections_join : (ss : List SectionTree) (s : SectionTree) → IsTrue (sections_sound (section_trees ss)) → IsTrue (section_sound s) → IsTrue (sections_sound (section_trees (ss ++ s ∷ [])))
sections_join = join section_sound (λ ss. sections_sound (section_trees ss)) refl (λ _ _. refl)

pub declarators_add : (ds : List Declarator) (d : Declarator) → declarators_nodes (ds ++ d ∷ []) ≡ declarators_nodes ds + declarator_nodes d
declarators_add = add declarator_nodes declarators_nodes refl (λ _ _. refl)

pub declarators_join : (ds : List Declarator) (d : Declarator) → IsTrue (declarators_sound ds) → IsTrue (declarator_sound d) → IsTrue (declarators_sound (ds ++ d ∷ []))
declarators_join = join declarator_sound declarators_sound refl (λ _ _. refl)

pub inits_add : (ds : List InitDeclaratorTree) (d : InitDeclaratorTree) → inits_nodes (ds ++ d ∷ []) ≡ inits_nodes ds + (declarator_nodes d.declarator + init_nodes d.init)
inits_add = add (λ d. declarator_nodes d.declarator + init_nodes d.init) inits_nodes refl (λ _ _. refl)

pub inits_join : (ds : List InitDeclaratorTree) (d : InitDeclaratorTree) → IsTrue (inits_sound ds) → IsTrue (declarator_sound d.declarator && init_sound d.init) → IsTrue (inits_sound (ds ++ d ∷ []))
inits_join = join (λ d. declarator_sound d.declarator && init_sound d.init) inits_sound refl (λ _ _. refl)

pub params_add : (ps : List ParamTree) (p : ParamTree) → params_nodes (ps ++ p ∷ []) ≡ params_nodes ps + param_nodes p
params_add = add param_nodes params_nodes refl (λ _ _. refl)

pub params_join : (ps : List ParamTree) (p : ParamTree) → IsTrue (params_sound ps) → IsTrue (specs_sound p.specs && (name_sound p.name && suffix_sound p.suffix)) → IsTrue (params_sound (ps ++ p ∷ []))
params_join = join (λ p. specs_sound p.specs && (name_sound p.name && suffix_sound p.suffix)) params_sound refl (λ _ _. refl)

pub items_add : (is : List ItemTree) (i : ItemTree) → nodes_of (is ++ i ∷ []) ≡ nodes_of is + item_nodes i
items_add = add item_nodes nodes_of refl (λ _ _. refl)

pub items_join : (is : List ItemTree) (i : ItemTree) → IsTrue (items_sound is) → IsTrue (item_sound i) → IsTrue (items_sound (is ++ i ∷ []))
items_join = join item_sound items_sound refl (λ _ _. refl)

-- the statements of a block as a list and as a row
pub listed : (ss : List StmtTree) → stmts_sound (stmt_trees ss) ≡ stmt_list_sound ss
listed [] = refl
listed (s ∷ ss) = let h = listed ss in cc

-- an operand with what stands behind it, and a chain
pub postfixed_nodes : (at : Span) (e : ExprTree) (ps : List PostfixTree) → expr_nodes (postfixed at e ps) ≡ expr_nodes e + (node_over ps + postfixes_nodes (postfix_trees ps))
postfixed_nodes at e [] = omega arith
postfixed_nodes at e (p ∷ ps) = omega arith

pub postfixed_sound : (at : Span) (e : ExprTree) (ps : List PostfixTree) → IsTrue (expr_sound e) → IsTrue (postfixes_sound (postfix_trees ps)) → IsTrue (expr_sound (postfixed at e ps))
postfixed_sound at e [] h k = h
postfixed_sound at e (p ∷ ps) h k = both_hold (expr_sound e) (postfixes_sound (postfix_trees (p ∷ ps))) h k

pub chained_nodes : (at : Span) (e : ExprTree) (ls : List LinkTree) → expr_nodes (chained at e ls) ≡ expr_nodes e + (node_over ls + links_nodes (link_trees ls))
chained_nodes at e [] = omega arith
chained_nodes at e (l ∷ ls) = omega arith

pub chained_sound : (at : Span) (e : ExprTree) (ls : List LinkTree) → IsTrue (expr_sound e) → IsTrue (links_sound (link_trees ls)) → IsTrue (expr_sound (chained at e ls))
chained_sound at e [] h k = h
chained_sound at e (l ∷ ls) h k = both_hold (expr_sound e) (links_sound (link_trees (l ∷ ls))) h k

pub node_over_one : {A : Type 0} (xs : List A) (x : A) → node_over (xs ++ x ∷ []) ≡ 1
node_over_one [] x = refl
node_over_one (y ∷ ys) x = refl
