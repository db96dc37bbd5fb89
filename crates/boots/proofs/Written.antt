-- A boot is written part by part.
use Rattle.std.proofs.Common.{◌≡◌, ℕ, List, [], ◌++◌, refl, subst, ◌∙◌, append_assoc}
use Rattle.pt_tree.specs.declared.signature.Signature.{Signature}
use Rattle.pt_tree.specs.declared.host_model.HostModel.{HostModel}
use Rattle.typed_tree.specs.declared.types.StructInfo.{StructInfo}
use Rattle.wire.specs.Spelling.{four_bytes}
use Rattle.pt_core.specs.CodeTree.{FunctionTree, GlobalTree, BootTree}
use Rattle.boot_fields.specs.Spelling.{list_bytes, text_bytes, numbered_bytes, struct_bytes, signature_bytes, model_bytes, function_bytes, global_bytes, spelled}
use Rattle.boot_fields.specs.Limits.{Fits32, FitsList, FitsText, FitsNumbered, FitsStruct, FitsSignature, FitsModel, FitsFunction, FitsGlobal, Spells}

regroup : (a b c d e f g : List ℕ) → (((((a ++ b) ++ c) ++ d) ++ e) ++ f) ++ g ≡ a ++ (b ++ (c ++ (d ++ (e ++ (f ++ g)))))
regroup a b c d e f g = simp append_assoc

pub written : (b : BootTree) (xs : List StructInfo) (ss : List (ℕ × Signature)) (fs : List FunctionTree) (gs : List GlobalTree) (hs : List (ℕ × HostModel)) (o0 o1 o2 o3 o4 o5 o6 o7 : List ℕ)
    → xs ≡ b.structs → ss ≡ b.signatures → fs ≡ b.functions → gs ≡ b.globals → hs ≡ b.hosts → o0 ≡ []
    → o1 ≡ o0 ++ list_bytes struct_bytes xs → FitsList FitsStruct xs
    → o2 ≡ o1 ++ list_bytes (numbered_bytes signature_bytes) ss → FitsList (FitsNumbered FitsSignature) ss
    → o3 ≡ o2 ++ list_bytes function_bytes fs → FitsList FitsFunction fs
    → o4 ≡ o3 ++ list_bytes global_bytes gs → FitsList FitsGlobal gs
    → o5 ≡ o4 ++ list_bytes (numbered_bytes model_bytes) hs → FitsList (FitsNumbered FitsModel) hs
    → o6 ≡ o5 ++ text_bytes b.input → FitsText b.input
    → o7 ≡ o6 ++ four_bytes b.turns → Fits32 b.turns → Spells b o7
unfolding Spells
written b xs ss fs gs hs o0 o1 o2 o3 o4 o5 o6 o7 x s f g h e0 e1 f1 e2 f2 e3 f3 e4 f4 e5 f5 e6 f6 e7 f7 =
    let parts : o7
    ≡ (((((list_bytes struct_bytes xs ++ list_bytes (numbered_bytes signature_bytes) ss) ++ list_bytes function_bytes fs) ++ list_bytes global_bytes gs) ++ list_bytes (numbered_bytes model_bytes) hs) ++ text_bytes b.input) ++ four_bytes b.turns
    = rw (e7, e6, e5, e4, e3, e2, e1, e0) refl in
    let all = parts ∙ regroup (list_bytes struct_bytes xs) (list_bytes (numbered_bytes signature_bytes) ss) (list_bytes function_bytes fs) (list_bytes global_bytes gs) (list_bytes (numbered_bytes model_bytes) hs) (text_bytes b.input) (four_bytes b.turns) in
    let same : list_bytes struct_bytes xs ++ (list_bytes (numbered_bytes signature_bytes) ss ++ (list_bytes function_bytes fs ++ (list_bytes global_bytes gs ++ (list_bytes (numbered_bytes model_bytes) hs ++ (text_bytes b.input ++ four_bytes b.turns))))) ≡ spelled b = rw (x, s, f, g, h) refl in (
      record {
        structs = subst (FitsList FitsStruct) x f1;
        signatures = subst (FitsList (FitsNumbered FitsSignature)) s f2;
        functions = subst (FitsList FitsFunction) f f3;
        globals = subst (FitsList FitsGlobal) g f4;
        hosts = subst (FitsList (FitsNumbered FitsModel)) h f5;
        input = f6;
        turns = f7;
      },
      all ∙ same,
    )
