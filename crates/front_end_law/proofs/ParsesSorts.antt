-- The sorts of the parts that the derivation has: what stands at a place of its stack.
use Rattle.std.proofs.Common.{ℕ, List, [], ◌∷◌, Bool, true, false, ◌&&◌, ◌||◌, nat_eq, if◌then◌else◌, Option, None, Some}
use Rattle.c_grammar.specs.Part.{Part, word, number, absent, names, spec, specs, fields, field, pointer, suffix, declarator, declarators, init, init_declarators, a_rest, declaration, name, param, params, body, block, item, items, stmt, stmts, otherwise, for_init, label, section, sections, expr, exprs, maybe_expr, assign_op, assignment, arms, prefix_op, links, postfixes, cast_of, group_of}

-- ---- the sorts, by number

abbrev pub item_sort : ℕ
item_sort = 1

abbrev pub items_sort : ℕ
items_sort = 2

abbrev pub item_rest_sort : ℕ
item_rest_sort = 3

abbrev pub specs_sort : ℕ
specs_sort = 4

abbrev pub inits_sort : ℕ
inits_sort = 5

abbrev pub body_sort : ℕ
body_sort = 6

abbrev pub params_sort : ℕ
params_sort = 7

abbrev pub declarator_sort : ℕ
declarator_sort = 8

abbrev pub init_sort : ℕ
init_sort = 9

abbrev pub block_sort : ℕ
block_sort = 10

abbrev pub spec_sort : ℕ
spec_sort = 11

abbrev pub word_sort : ℕ
word_sort = 12

abbrev pub names_sort : ℕ
names_sort = 13

abbrev pub fields_sort : ℕ
fields_sort = 14

abbrev pub field_sort : ℕ
field_sort = 15

abbrev pub declarators_sort : ℕ
declarators_sort = 16

abbrev pub suffix_sort : ℕ
suffix_sort = 17

abbrev pub pointer_sort : ℕ
pointer_sort = 18

abbrev pub number_sort : ℕ
number_sort = 19

abbrev pub expr_sort : ℕ
expr_sort = 20

abbrev pub exprs_sort : ℕ
exprs_sort = 21

abbrev pub param_sort : ℕ
param_sort = 22

abbrev pub name_sort : ℕ
name_sort = 23

abbrev pub stmts_sort : ℕ
stmts_sort = 24

abbrev pub stmt_sort : ℕ
stmt_sort = 25

abbrev pub declaration_sort : ℕ
declaration_sort = 26

abbrev pub otherwise_sort : ℕ
otherwise_sort = 27

abbrev pub maybe_expr_sort : ℕ
maybe_expr_sort = 28

abbrev pub for_init_sort : ℕ
for_init_sort = 29

abbrev pub sections_sort : ℕ
sections_sort = 30

abbrev pub section_sort : ℕ
section_sort = 31

abbrev pub label_sort : ℕ
label_sort = 32

abbrev pub assign_tail_sort : ℕ
assign_tail_sort = 33

abbrev pub assign_op_sort : ℕ
assign_op_sort = 34

abbrev pub cond_tail_sort : ℕ
cond_tail_sort = 35

abbrev pub parens_sort : ℕ
parens_sort = 36

abbrev pub prefix_op_sort : ℕ
prefix_op_sort = 37

abbrev pub postfixes_sort : ℕ
postfixes_sort = 38

abbrev pub links_sort : ℕ
links_sort = 39

-- a part is of the sort of this number
abbrev pub fits : ℕ → Part → Bool
fits s (word a) = nat_eq s word_sort
fits s (number a) = nat_eq s number_sort
fits s absent = nat_eq s assign_tail_sort || nat_eq s cond_tail_sort
fits s (names a) = nat_eq s names_sort
fits s (spec a) = nat_eq s spec_sort
fits s (specs a) = nat_eq s specs_sort
fits s (fields a) = nat_eq s fields_sort
fits s (field a) = nat_eq s field_sort
fits s (pointer a) = nat_eq s pointer_sort
fits s (suffix a) = nat_eq s suffix_sort
fits s (declarator a) = nat_eq s declarator_sort
fits s (declarators a) = nat_eq s declarators_sort
fits s (init a) = nat_eq s init_sort
fits s (init_declarators a) = nat_eq s inits_sort || nat_eq s item_rest_sort
fits s (a_rest a b c) = nat_eq s item_rest_sort
fits s (declaration a) = nat_eq s declaration_sort
fits s (name a) = nat_eq s name_sort
fits s (param a) = nat_eq s param_sort
fits s (params a) = nat_eq s params_sort
fits s (body a) = nat_eq s body_sort
fits s (block a) = nat_eq s block_sort
fits s (item a) = nat_eq s item_sort
fits s (items a) = nat_eq s items_sort
fits s (stmt a) = nat_eq s stmt_sort
fits s (stmts a) = nat_eq s stmts_sort
fits s (otherwise a) = nat_eq s otherwise_sort
fits s (for_init a) = nat_eq s for_init_sort
fits s (label a) = nat_eq s label_sort
fits s (section a) = nat_eq s section_sort
fits s (sections a) = nat_eq s sections_sort
fits s (expr a) = nat_eq s expr_sort
fits s (exprs a) = nat_eq s exprs_sort
fits s (maybe_expr a) = nat_eq s maybe_expr_sort
fits s (assign_op a) = nat_eq s assign_op_sort
fits s (assignment a b) = nat_eq s assign_tail_sort
fits s (arms a b) = nat_eq s cond_tail_sort
fits s (prefix_op a) = nat_eq s prefix_op_sort
fits s (links a) = nat_eq s links_sort
fits s (postfixes a) = nat_eq s postfixes_sort
fits s (cast_of a b c) = nat_eq s parens_sort
fits s (group_of a b) = nat_eq s parens_sort

-- the parts on top are of these sorts, one each, and there are no others
abbrev pub shaped : List ℕ → List Part → Bool
shaped [] [] = true
shaped [] (x ∷ xs) = false
shaped (s ∷ ss) [] = false
shaped (s ∷ ss) (x ∷ xs) = fits s x && shaped ss xs

-- what is of the first sort is of the second too
abbrev pub below : ℕ → ℕ → Bool
below s t = nat_eq s t || (nat_eq s inits_sort && nat_eq t item_rest_sort)

-- what is left of a stack of sorts where these are taken off
abbrev pub taken : List ℕ → List ℕ → Option (List ℕ)
taken [] ss = Some ss
taken (t ∷ ts) [] = None
taken (t ∷ ts) (s ∷ ss) = if below s t then taken ts ss else None

abbrev pub OnTaken : Option (List ℕ) → (List ℕ → Type 0) → Type 0
OnTaken None go = ⊥
OnTaken (Some ss) go = go ss

-- one part is left, of this sort
abbrev pub ends : List ℕ → ℕ → Bool
ends [] t = false
ends (s ∷ []) t = below s t
ends (s ∷ r ∷ ss) t = false
