-- Words that are laid one list behind the other.
use Rattle.std.proofs.Common.{◌≡◌, List, [], ◌∷◌, ◌++◌, length, ◌<◌, sym, ap, ◌∙◌, subst, arith, append_assoc, Result}
use Rattle.std.specs.Prelude.{OnOk}
use Rattle.std.specs.declared.alloc.AllocError.{AllocError}
use Rattle.std.proofs.lemmas.List.Sums.{fold-append}
use Rattle.c_lexer.specs.declared.token.TokenKind.TheVariants as k
use Rattle.pt_tree.specs.SpecifierTree.{FieldTree, field_trees}
use Rattle.c_printer.specs.Pieces.{Piece, fixed, spaced, line}
use Rattle.c_printer.specs.Sheets.{Written, put, lay}
use Rattle.c_printer.specs.Specifiers.{field_words, more_fields, struct_body}

pub lay_both : (xs ys : List Piece) (w : Written) → lay (xs ++ ys) w ≡ lay ys (lay xs w)
lay_both xs ys w = fold-append (λ so_far p. put p so_far) w xs ys

-- what is written last, told as all that is written
pub laid_to : (r : Result (Unit {0}) AllocError) (new last all : Written) → OnOk r (new ≡ last) → last ≡ all → OnOk r (new ≡ all)
laid_to r new last all h e = subst (λ w. OnOk r (new ≡ w)) e h

-- the same words, written in another way
pub laid_as : (r : Result (Unit {0}) AllocError) (new old : Written) (xs ys : List Piece) → OnOk r (new ≡ lay xs old) → xs ≡ ys → OnOk r (new ≡ lay ys old)
laid_as r new old xs ys h e = laid_to r new (lay xs old) (lay ys old) h (ap (λ ps. lay ps old) e)

-- words behind others
pub laid_behind : (r : Result (Unit {0}) AllocError) (new mid old : Written) (xs ys all : List Piece) → OnOk r (new ≡ lay ys mid) → mid ≡ lay xs old → xs ++ ys ≡ all → OnOk r (new ≡ lay all old)
laid_behind r new mid old xs ys all h e is = laid_to r new (lay ys mid) (lay all old) h (ap (lay ys) e ∙ sym (lay_both xs ys old) ∙ ap (λ ps. lay ps old) is)

-- the body of a struct with fields
pub body_words : (fs : List FieldTree) → 0 < length fs → fixed spaced k.OpenBrace ∷ (more_fields (field_trees fs) ++ (fixed (line 0) k.CloseBrace ∷ [])) ≡ struct_body (field_trees fs)
body_words [] some = absurd (omega arith)
body_words (f ∷ fs) some = ap (λ ps. fixed spaced k.OpenBrace ∷ ps) (append_assoc (field_words f) (more_fields (field_trees fs)) (fixed (line 0) k.CloseBrace ∷ []))
