-- The memory and the arguments that a served call begins with are those of its body.
use Rattle.std.proofs.Common.{◌≡◌, ◌∙◌, ℕ, zero, suc, ◌+◌, ◌≤◌, ◌<◌, nat_eq, ap, refl, arith, List, [], ◌∷◌, length, take, get_or, Bool, true, false, Option, Some, None, Ok, Err, if◌then◌else◌}
use Rattle.std.proofs.Math.Path.{fun_ext}
use Rattle.std.proofs.lemmas.Bool.Decides.{nat_tests}
use Rattle.pt_base.specs.declared.int_type.IntType.{IntType}
use Rattle.pt_base.proofs.Numbers.{nat_eq_below, nat_eq_self}
use Rattle.pt_tree.specs.declared.signature.Param.{Param}
use Rattle.typed_tree.specs.declared.types.StructInfo.{StructInfo}
use Rattle.block_memory.specs.declared.cell.Cell.{Cell}
use Rattle.block_memory.specs.declared.cell.BlockName.{BlockName}
use Rattle.block_memory.specs.declared.cell.BlockName.TheVariants.{Local, Global, Received}
use Rattle.block_memory.specs.Block.{no_block}
use Rattle.block_memory.specs.Blocks.{Blocks, put}
use Rattle.wire.specs.declared.message.CallBody.{CallBody}
use Rattle.marshalling.specs.declared.fault.BadCall.{BadCall}
use Rattle.marshalling.specs.declared.fault.BadCall.TheVariants as bad
use Rattle.marshalling.specs.declared.inputs.Inputs.{Inputs}
use Rattle.marshalling.specs.Handles.{Entries, handle_fault, inputs_unless, unpacked, unpacking}
use Rattle.marshalling.specs.Shape.{is_shaped}
use Rattle.part_views_law.specs.CrossingsCalls.{with_received}
use Rattle.pair_meaning.specs.Serving.{name_of, with_brought}

-- ---- what is opened

-- a body that opens has the right shape and no faulty handle, and these are its arguments and blocks
pub record IsOpened (store : Entries) (structs : List StructInfo) (params : List Param) (body : CallBody) (inputs : Inputs) : Type 0 where
  pub shaped : is_shaped structs params body ≡ true
  pub faultless : handle_fault store params body ≡ None
  pub inputs_are : unpacked store body ≡ inputs

pub opened_parts : (store : Entries) (structs : List StructInfo) (params : List Param) (body : CallBody) (inputs : Inputs) → unpacking store structs params body ≡ Ok inputs → IsOpened store structs params body inputs
opened_parts store structs params body inputs e = go (is_shaped structs params body) (handle_fault store params body) refl refl e
  where
    same : (a b : Inputs) → inputs_unless None a ≡ inputs_unless None b → a ≡ b
    same a b e = cc

    go : (shaped : Bool) (fault : Option BadCall) → is_shaped structs params body ≡ shaped → handle_fault store params body ≡ fault → (if shaped then inputs_unless fault (unpacked store body) else Err bad.Shape) ≡ Ok inputs → IsOpened store structs params body inputs
    go true None s f e = record { shaped = s; faultless = f; inputs_are = same (unpacked store body) inputs e }
    go true (Some fault) s f e = cc
    go false fault s f e = cc

-- ---- blocks

-- one block more
abbrev with_one : ℕ → List IntType → List Cell → Blocks → Blocks
with_one k types cells blocks = put blocks (name_of k) (record { types = types; cells = cells })

one_there : (k : ℕ) (types : List IntType) (cells : List Cell) (blocks : Blocks) → with_one k types cells blocks (Received k) ≡ record { types = types; cells = cells }
one_there k types cells blocks = ap (λ (b : Bool). if b then record { types = types; cells = cells } else blocks (Received k)) (nat_eq_self k)

one_beside : (k j : ℕ) (types : List IntType) (cells : List Cell) (blocks : Blocks) → k < j → with_one k types cells blocks (Received j) ≡ blocks (Received j)
one_beside k j types cells blocks less = ap (λ (b : Bool). if b then record { types = types; cells = cells } else blocks (Received j)) (nat_eq_below k j less)

one_below : (k j : ℕ) (types : List IntType) (cells : List Cell) (blocks : Blocks) → j < k → with_one k types cells blocks (Received j) ≡ blocks (Received j)
one_below k j types cells blocks less = ap (λ (b : Bool). if b then record { types = types; cells = cells } else blocks (Received j)) (apart k j less)
  where
    apart : (k j : ℕ) → j < k → nat_eq k j ≡ false
    apart k j h = grind (arith, nat_tests, h)

brought_below : (k j : ℕ) (types : List (List IntType)) (cells : List (List Cell)) (blocks : Blocks) → j < k → with_brought k types cells blocks (Received j) ≡ blocks (Received j)
brought_below k j [] cells blocks less = refl
brought_below k j (ts ∷ types) [] blocks less = refl
brought_below k j (ts ∷ types) (cs ∷ cells) blocks less =
    brought_below (suc k) j types cells (with_one k ts cs blocks) (omega (arith, less)) ∙ one_below k j ts cs blocks less

brought_there : (k n j : ℕ) (types : List (List IntType)) (cells : List (List Cell)) (blocks : Blocks) → j ≡ k + n → length types ≡ length cells → ((i : ℕ) → k ≤ i → blocks (Received i) ≡ no_block) →
    with_brought k types cells blocks (Received j) ≡ record { types = get_or types n []; cells = get_or cells n [] }
brought_there k n j [] [] blocks e same none = none j (omega (arith, e))
brought_there k n j [] (cs ∷ cells) blocks e same none = absurd (omega (arith, same))
brought_there k n j (ts ∷ types) [] blocks e same none = absurd (omega (arith, same))
brought_there k zero j (ts ∷ types) (cs ∷ cells) blocks e same none =
    let is : j ≡ k = omega (arith, e) in
    brought_below (suc k) j types cells (with_one k ts cs blocks) (omega (arith, is)) ∙ ap (λ i. with_one k ts cs blocks (Received i)) is ∙ one_there k ts cs blocks
brought_there k (suc n) j (ts ∷ types) (cs ∷ cells) blocks e same none =
    brought_there (suc k) n j types cells (with_one k ts cs blocks) (omega (arith, e)) (omega (arith, same))
    (λ i le. one_beside k i ts cs blocks (omega (arith, le)) ∙ none i (omega (arith, le)))

brought_local : (k d v : ℕ) (types : List (List IntType)) (cells : List (List Cell)) (blocks : Blocks) → with_brought k types cells blocks (Local d v) ≡ blocks (Local d v)
brought_local k d v [] cells blocks = refl
brought_local k d v (ts ∷ types) [] blocks = refl
brought_local k d v (ts ∷ types) (cs ∷ cells) blocks = brought_local (suc k) d v types cells (with_one k ts cs blocks)

brought_global : (k g : ℕ) (types : List (List IntType)) (cells : List (List Cell)) (blocks : Blocks) → with_brought k types cells blocks (Global g) ≡ blocks (Global g)
brought_global k g [] cells blocks = refl
brought_global k g (ts ∷ types) [] blocks = refl
brought_global k g (ts ∷ types) (cs ∷ cells) blocks = brought_global (suc k) g types cells (with_one k ts cs blocks)

-- over globals alone both are one memory
pub brought_received : (types : List (List IntType)) (cells : List (List Cell)) (m : Blocks) → length types ≡ length cells → ((d v : ℕ) → m (Local d v) ≡ no_block) → ((k : ℕ) → m (Received k) ≡ no_block) →
    with_brought 0 types cells m ≡ with_received types cells m
brought_received types cells m same free alone = fun_ext at
  where
    at : (name : BlockName) → with_brought 0 types cells m name ≡ with_received types cells m name
    at (Local d v) = brought_local 0 d v types cells m ∙ free d v
    at (Global g) = brought_global 0 g types cells m
    at (Received k) = brought_there 0 k k types cells m (omega arith) same (λ i le. alone i)

-- ---- arguments

-- all of them, where there are as many as a list from which nothing is left out
pub all_taken : {A B : Type 0} (n : ℕ) (xs : List A) (ys : List B) → length (take n xs) ≡ length xs → length ys ≡ length xs → take n ys ≡ ys
all_taken zero [] [] e h = refl
all_taken zero [] (y ∷ ys) e h = absurd (omega (arith, h))
all_taken zero (x ∷ xs) ys e h = absurd (omega (arith, e))
all_taken (suc n) [] [] e h = refl
all_taken (suc n) [] (y ∷ ys) e h = absurd (omega (arith, h))
all_taken (suc n) (x ∷ xs) [] e h = absurd (omega (arith, h))
all_taken (suc n) (x ∷ xs) (y ∷ ys) e h = ap (λ zs. y ∷ zs) (all_taken n xs ys (omega (arith, e)) (omega (arith, h)))
