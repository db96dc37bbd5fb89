-- Slots that are made after a pattern.
use Rattle.std.proofs.Common.{◌≡◌, ◌∙◌, ◌<◌, ℕ, zero, suc, refl, ap, sym, subst, arith, List, [], ◌∷◌, ◌++◌, length, get_or, map}
use Rattle.pt_tree.specs.declared.signature.Elem.TheVariants as e
use Rattle.typed_tree.specs.declared.types.StructInfo.{StructInfo}
use Rattle.typed_tree.specs.declared.types.VarTy.{VarTy}
use Rattle.typed_tree.specs.declared.types.VarTy.TheVariants.{Int, Struct, Array, Pointer}
use Rattle.sides.specs.declared.slots.Owner.{Owner}
use Rattle.sides.specs.declared.slots.SlotInfo.{SlotInfo}
use Rattle.sides.specs.LeafTables.{named_struct}
use Rattle.sides.specs.Leaves.{Leaf, leaves_of}
use Rattle.sides.specs.Patterns.{ArePatterns, IsPattern, pattern_of, with_owner}
use Rattle.sides.specs.Slots.{slot_of}
use Rattle.sides.proofs.LeafLemmas.{all_below}

-- ---- one pattern after the other

pub no_pattern : (structs : List StructInfo) (n : ℕ) → IsPattern structs n []
no_pattern structs n = λ pos. absurd (omega (arith, pos))

pub no_patterns : (structs : List StructInfo) (ps : List (List SlotInfo)) → ps ≡ [] → ArePatterns structs ps
no_patterns structs ps e = λ n. subst (λ (xs : List (List SlotInfo)). IsPattern structs n (get_or xs n [])) (sym e) (no_pattern structs n)

each_push : (P : ℕ → List SlotInfo → Type 0) (ps : List (List SlotInfo)) (x : List SlotInfo) → ((n : ℕ) → P n []) → ((n : ℕ) → P n (get_or ps n [])) → P (length ps) x → (n : ℕ) → P n (get_or (ps ++ x ∷ []) n [])
each_push P [] x none h last zero = last
each_push P [] x none h last (suc n) = none (suc n)
each_push P (y ∷ ps) x none h last zero = h zero
each_push P (y ∷ ps) x none h last (suc n) = each_push (λ m. P (suc m)) ps x (λ m. none (suc m)) (λ m. h (suc m)) last n

pub push_pattern : (structs : List StructInfo) (ps ps' : List (List SlotInfo)) (slots : List SlotInfo) (k : ℕ) → k ≡ length ps → ps' ≡ ps ++ slots ∷ [] → IsPattern structs k slots → ArePatterns structs ps → ArePatterns structs ps'
push_pattern structs ps ps' slots k at pushed is are = λ n.
    subst (λ (xs : List (List SlotInfo)). IsPattern structs n (get_or xs n [])) (sym pushed)
    (each_push (IsPattern structs) ps slots (no_pattern structs) are (subst (λ j. IsPattern structs j slots) at is) n)

-- ---- an object like its pattern

of_owner : (owner before : Owner) (ls : List Leaf) → map (with_owner owner) (map (slot_of before) ls) ≡ map (slot_of owner) ls
of_owner owner before [] = refl
of_owner owner before (l ∷ ls) = ap (λ xs. slot_of owner l ∷ xs) (of_owner owner before ls)

like_struct : (structs : List StructInfo) (owner : Owner) (ty : VarTy) (n : ℕ) (xs : List SlotInfo) → leaves_of structs (Struct n) ≡ leaves_of structs ty → IsPattern structs n xs → 0 < length xs →
    map (with_owner owner) xs ≡ map (slot_of owner) (leaves_of structs ty)
like_struct structs owner ty n xs same is pos = ap (map (with_owner owner)) (is pos) ∙ of_owner owner _ (leaves_of structs (Struct n)) ∙ ap (map (slot_of owner)) same

alike : (structs : List StructInfo) (ps : List (List SlotInfo)) (owner : Owner) (ty : VarTy) → ArePatterns structs ps → 0 < length (pattern_of ps (named_struct ty)) →
    map (with_owner owner) (pattern_of ps (named_struct ty)) ≡ map (slot_of owner) (leaves_of structs ty)
alike structs ps owner (Int t) are pos = absurd (omega (arith, pos))
alike structs ps owner (Struct n) are pos = like_struct structs owner (Struct n) n (get_or ps n []) refl (are n) pos
alike structs ps owner (Array (e.Int t) count) are pos = absurd (omega (arith, pos))
alike structs ps owner (Array (e.Struct n) count) are pos =
    like_struct structs owner (Array (e.Struct n) count) n (get_or ps n []) (sym (all_below structs (Struct n)) ∙ all_below structs (Array (e.Struct n) count)) (are n) pos
alike structs ps owner (Pointer (e.Int t) fixed) are pos = absurd (omega (arith, pos))
alike structs ps owner (Pointer (e.Struct n) fixed) are pos =
    like_struct structs owner (Pointer (e.Struct n) fixed) n (get_or ps n []) (sym (all_below structs (Struct n)) ∙ all_below structs (Pointer (e.Struct n) fixed)) (are n) pos

pub alike_is : (structs : List StructInfo) (ps : List (List SlotInfo)) (owner : Owner) (ty : VarTy) (pattern : List SlotInfo) → ArePatterns structs ps → pattern ≡ pattern_of ps (named_struct ty) → 0 < length pattern →
    map (with_owner owner) pattern ≡ map (slot_of owner) (leaves_of structs ty)
alike_is structs ps owner ty pattern are at pos =
    subst (λ (xs : List SlotInfo). 0 < length xs → map (with_owner owner) xs ≡ map (slot_of owner) (leaves_of structs ty)) (sym at) (alike structs ps owner ty are) pos
