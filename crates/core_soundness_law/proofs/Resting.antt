-- A machine at rest fits.
use Rattle.std.proofs.Common.{◌≡◌, ◌∙◌, ◌≤◌, ◌<◌, ℕ, suc, ℤ, nat_eq, refl, ap, sym, subst, arith, Bool, true, false, Option, Some, None, List, [], ◌∷◌, map, if◌then◌else◌}
use Rattle.std.specs.Prelude.{IsTrue, ◌&&◌, nat_le}
use Rattle.std.specs.List.{list_all}
use Rattle.std.specs.Map.{lookup}
use Rattle.std.proofs.lemmas.Bool.Decides.{nat_tests}
use Rattle.pt_base.specs.declared.int_type.IntType.{IntType}
use Rattle.pt_base.proofs.Booleans.{both_hold_first, both_hold_second}
use Rattle.pt_int.specs.Conversion.{is_in_range}
use Rattle.typed_tree.specs.declared.types.VarTy.{VarTy}
use Rattle.typed_tree.specs.declared.types.StructInfo.{StructInfo}
use Rattle.typed_tree.specs.Cells.{leaves_of}
use Rattle.typed_tree.specs.WellFormed.{are_rising, cells_fit, is_plain_type, is_small}
use Rattle.block_memory.specs.declared.cell.Cell.TheVariants as cell
use Rattle.block_memory.specs.declared.cell.BlockName.TheVariants.{Local, Global, Received}
use Rattle.block_memory.specs.Block.{Block}
use Rattle.block_memory.specs.Blocks.{Blocks, no_blocks, put}
use Rattle.pt_core.specs.CodeTree.{GlobalTree, ProgramTree}
use Rattle.pt_core.specs.CoreRun.{with_globals}
use Rattle.pt_core.specs.WellFormed.{global_fits}
use Rattle.core_soundness_law.specs.Kept.{Kept}
use Rattle.core_soundness_law.specs.Fits.{IntegersFit, MemoryFits}
use Rattle.core_soundness_law.specs.Outside.{RestFits}
use Rattle.core_soundness_law.proofs.Programs.{ProgramFacts, facts_of}

-- ---- globals at their start

abbrev block_of_global : List StructInfo → GlobalTree → Block
block_of_global structs g = record { types = leaves_of structs g.var.ty; cells = map cell.Int g.cells }

abbrev numbers_of : List GlobalTree → List ℕ
numbers_of gs = map (λ g. g.id) gs

abbrev types_of : List GlobalTree → List (ℕ × VarTy)
types_of gs = map (λ g. (g.id, g.var.ty)) gs

other_global : (blocks : Blocks) (n g : ℕ) (b : Block) (t : Bool) → nat_eq n g ≡ t → (n ≡ g → ⊥) → (if t then b else blocks (Global g)) ≡ blocks (Global g)
other_global blocks n g b false e apart = refl
other_global blocks n g b true e apart = absurd (apart (same n g e))
  where
    same : (n g : ℕ) → nat_eq n g ≡ true → n ≡ g
    same n g e = grind (arith, nat_tests)

-- what lies before the first number stays
before_stays : (structs : List StructInfo) (gs : List GlobalTree) (blocks : Blocks) (first g : ℕ) → IsTrue (are_rising first (numbers_of gs)) → g < first → with_globals structs blocks gs (Global g) ≡ blocks (Global g)
before_stays structs [] blocks first g rising less = refl
before_stays structs (x ∷ xs) blocks first g rising less =
    before_stays structs xs (put blocks (Global x.id) (block_of_global structs x)) (suc x.id) g (both_hold_second (nat_le first x.id) (are_rising (suc x.id) (numbers_of xs)) rising)
    (behind first x.id g (both_hold_first (nat_le first x.id) (are_rising (suc x.id) (numbers_of xs)) rising) less)
    ∙ other_global blocks x.id g (block_of_global structs x) (nat_eq x.id g) refl (apart first x.id g (both_hold_first (nat_le first x.id) (are_rising (suc x.id) (numbers_of xs)) rising) less)
  where
    behind : (first n g : ℕ) → IsTrue (nat_le first n) → g < first → g < suc n
    behind first n g h less = let most : first ≤ n = grind (arith, nat_tests) in omega (arith, most, less)

    apart : (first n g : ℕ) → IsTrue (nat_le first n) → g < first → n ≡ g → ⊥
    apart first n g h less same = let most : first ≤ n = grind (arith, nat_tests) in omega (arith, most, less, same)

-- a block is that of a global of this type
record IsGlobals (structs : List StructInfo) (Q : GlobalTree → Bool) (ty : VarTy) (b : Block) : Type 0 where
  of : GlobalTree
  fits : IsTrue (Q of)
  typed : of.var.ty ≡ ty
  is : b ≡ block_of_global structs of

lies : (structs : List StructInfo) (Q : GlobalTree → Bool) (gs : List GlobalTree) (blocks : Blocks) (first g : ℕ) (ty : VarTy) → IsTrue (are_rising first (numbers_of gs)) → lookup (nat_eq g) (types_of gs) ≡ Some ty → IsTrue (list_all Q gs) →
    IsGlobals structs Q ty (with_globals structs blocks gs (Global g))
lies structs Q [] blocks first g ty rising is all = cc
lies structs Q (x ∷ xs) blocks first g ty rising is all = go (λ e. lies structs Q xs (put blocks (Global x.id) (block_of_global structs x)) (suc x.id) g ty later e (both_hold_second (Q x) (list_all Q xs) all)) (nat_eq g x.id) refl is
  where
    later : IsTrue (are_rising (suc x.id) (numbers_of xs))
    later = both_hold_second (nat_le first x.id) (are_rising (suc x.id) (numbers_of xs)) rising

    same : Some x.var.ty ≡ Some ty → x.var.ty ≡ ty
    same e = cc

    below : (g n : ℕ) → nat_eq g n ≡ true → g < suc n
    below g n e = let same : g ≡ n = grind (arith, nat_tests) in omega (arith, same)

    turned : (g n : ℕ) → nat_eq g n ≡ true → nat_eq n g ≡ true
    turned g n e = grind (arith, nat_tests)

    here : (t : Bool) → t ≡ true → (if t then block_of_global structs x else blocks (Global g)) ≡ block_of_global structs x
    here true e = refl
    here false e = cc

    go : (lookup (nat_eq g) (types_of xs) ≡ Some ty → IsGlobals structs Q ty (with_globals structs (put blocks (Global x.id) (block_of_global structs x)) xs (Global g))) → (t : Bool) → nat_eq g x.id ≡ t →
        (if t then Some x.var.ty else lookup (nat_eq g) (types_of xs)) ≡ Some ty → IsGlobals structs Q ty (with_globals structs (put blocks (Global x.id) (block_of_global structs x)) xs (Global g))
    go more true t e = record {
      of = x;
      fits = both_hold_first (Q x) (list_all Q xs) all;
      typed = same e;
      is = before_stays structs xs (put blocks (Global x.id) (block_of_global structs x)) (suc x.id) g later (below g x.id t) ∙ here (nat_eq x.id g) (turned g x.id t);
    }
    go more false t e = more e

-- a global that the program doesn't have has what it had
unknown_stays : (structs : List StructInfo) (gs : List GlobalTree) (blocks : Blocks) (g : ℕ) → lookup (nat_eq g) (types_of gs) ≡ None → with_globals structs blocks gs (Global g) ≡ blocks (Global g)
unknown_stays structs [] blocks g is = refl
unknown_stays structs (x ∷ xs) blocks g is = go (λ e. unknown_stays structs xs (put blocks (Global x.id) (block_of_global structs x)) g e) (nat_eq g x.id) refl is
  where
    apart : (g n : ℕ) → nat_eq g n ≡ false → n ≡ g → ⊥
    apart g n e same = let other : nat_eq g g ≡ false = subst (λ k. nat_eq g k ≡ false) same e in no other
      where
        no : nat_eq g g ≡ false → ⊥
        no h = grind (arith, nat_tests)

    go : (lookup (nat_eq g) (types_of xs) ≡ None → with_globals structs (put blocks (Global x.id) (block_of_global structs x)) xs (Global g) ≡ put blocks (Global x.id) (block_of_global structs x) (Global g)) → (t : Bool) → nat_eq g x.id ≡ t →
        (if t then Some x.var.ty else lookup (nat_eq g) (types_of xs)) ≡ None → with_globals structs (put blocks (Global x.id) (block_of_global structs x)) xs (Global g) ≡ blocks (Global g)
    go more true t e = cc
    go more false t e = more e ∙ other_global blocks x.id g (block_of_global structs x) (nat_eq x.id g) refl (apart g x.id t)

pub locals_stay : (structs : List StructInfo) (gs : List GlobalTree) (blocks : Blocks) (depth v : ℕ) → with_globals structs blocks gs (Local depth v) ≡ blocks (Local depth v)
locals_stay structs [] blocks depth v = refl
locals_stay structs (x ∷ xs) blocks depth v = locals_stay structs xs (put blocks (Global x.id) (block_of_global structs x)) depth v

pub received_stay : (structs : List StructInfo) (gs : List GlobalTree) (blocks : Blocks) (n : ℕ) → with_globals structs blocks gs (Received n) ≡ blocks (Received n)
received_stay structs [] blocks n = refl
received_stay structs (x ∷ xs) blocks n = received_stay structs xs (put blocks (Global x.id) (block_of_global structs x)) n

-- ---- what they hold

numbers_fit : (kept : Kept) (ts : List IntType) (vs : List ℤ) → IsTrue (cells_fit ts vs) → IntegersFit kept ts (map cell.Int vs)
numbers_fit kept [] [] h = tt {0}
numbers_fit kept [] (v ∷ vs) h = cc
numbers_fit kept (t ∷ ts) [] h = cc
numbers_fit kept (t ∷ ts) (v ∷ vs) h = (both_hold_first (is_in_range t v) (cells_fit ts vs) h, numbers_fit kept ts vs (both_hold_second (is_in_range t v) (cells_fit ts vs) h))

abbrev HoldsIntegers : Kept → Block → Type 0
HoldsIntegers kept b = IntegersFit kept b.types b.cells

abbrev types_in : Block → List IntType
types_in b = b.types

-- a global fits, whether the program has it or not
cells_at : (kept : Kept) (structs : List StructInfo) (gs : List GlobalTree) (g : ℕ) → IsTrue (are_rising 0 (numbers_of gs)) → IsTrue (list_all (global_fits structs) gs) → (o : Option VarTy) → lookup (nat_eq g) (types_of gs) ≡ o →
    HoldsIntegers kept (with_globals structs no_blocks gs (Global g))
cells_at kept structs gs g rising all None is = subst (HoldsIntegers kept) (sym (unknown_stays structs gs no_blocks g is)) (tt {0})
cells_at kept structs gs g rising all (Some ty) is =
    let at : IsGlobals structs (global_fits structs) ty (with_globals structs no_blocks gs (Global g)) = lies structs (global_fits structs) gs no_blocks 0 g ty rising is all in
    subst (HoldsIntegers kept) (sym at.is) (numbers_fit kept (leaves_of structs at.of.var.ty) at.of.cells
    (both_hold_second (is_plain_type _ at.of.var.ty && is_small structs at.of.var.ty) (cells_fit (leaves_of structs at.of.var.ty) at.of.cells) at.fits))

rest_memory : (kept : Kept) (monitor : Bool) (program : ProgramTree) → ProgramFacts monitor program → IsTrue (are_rising 0 (numbers_of program.globals)) → MemoryFits kept program [] (with_globals program.structs no_blocks program.globals)
rest_memory kept monitor program facts rising = record {
  locals = λ depth v. locals_stay program.structs program.globals no_blocks depth v;
  globals = λ g ty is. typed g ty (lies program.structs (global_fits program.structs) program.globals no_blocks 0 g ty rising is facts.globals);
  global_cells = λ g. cells_at kept program.structs program.globals g rising facts.globals (lookup (nat_eq g) (types_of program.globals)) refl;
  received_cells = λ n. subst (HoldsIntegers kept) (sym (received_stay program.structs program.globals no_blocks n)) (tt {0});
  beyond = λ g is. unknown_stays program.structs program.globals no_blocks g is;
}
  where
    typed : (g : ℕ) (ty : VarTy) → IsGlobals program.structs (global_fits program.structs) ty (with_globals program.structs no_blocks program.globals (Global g)) →
        (with_globals program.structs no_blocks program.globals (Global g)).types ≡ leaves_of program.structs ty
    typed g ty at = ap types_in at.is ∙ ap (leaves_of program.structs) at.typed

pub rest_fits : RestFits
rest_fits kept monitor program budget sound = record { memory = rest_memory kept monitor program facts (rising facts.order); active = tt {0}; awaited = tt {0} }
  where
    facts : ProgramFacts monitor program
    facts = facts_of monitor program sound

    rising : IsTrue (are_rising 0 (map (λ s. s.0) program.signatures) && (are_rising 0 (map (λ f. f.id) program.functions) && are_rising 0 (numbers_of program.globals))) → IsTrue (are_rising 0 (numbers_of program.globals))
    rising h = both_hold_second (are_rising 0 (map (λ f. f.id) program.functions)) (are_rising 0 (numbers_of program.globals))
        (both_hold_second (are_rising 0 (map (λ s. s.0) program.signatures)) (are_rising 0 (map (λ f. f.id) program.functions) && are_rising 0 (numbers_of program.globals)) h)
