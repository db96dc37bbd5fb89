-- A boot is read part by part.
use Rattle.std.proofs.Common.{◌≡◌, ℕ, List, ap, ◌∙◌}
use Rattle.std.specs.Prelude.{Ok}
use Rattle.pt_core.specs.CodeTree.{BootTree}
use Rattle.boot_fields.specs.Reading.{◌>>=◌, Reading, mapped, both, list_at, text_at, number32_at, numbered_at, struct_at, signature_at, function_at, global_at, model_at, boot_at}

both_read : {A B : Type 0} (first : List ℕ → Reading A) (second : List ℕ → Reading B) (bytes : List ℕ) (x : A) (middle : List ℕ) (y : B) (rest : List ℕ)
    → first bytes ≡ Ok (x, middle) → second middle ≡ Ok (y, rest) → both first second bytes ≡ Ok ((x, y), rest)
both_read first second bytes x middle y rest h k = ap (λ r. r >>= λ a. second a.1 >>= λ b. Ok ((a.0, b.0), b.1)) h ∙ ap (λ r. r >>= λ b. Ok ((x, b.0), b.1)) k

mapped_read : {A B : Type 0} (made : A → B) (part : List ℕ → Reading A) (bytes : List ℕ) (x : A) (rest : List ℕ) → part bytes ≡ Ok (x, rest) → mapped made part bytes ≡ Ok (made x, rest)
mapped_read made part bytes x rest h = ap (λ r. r >>= λ a. Ok (made a.0, a.1)) h

pub boot_read : (d : ℕ) (bytes r1 r2 r3 r4 r5 r6 r7 : List ℕ) (b : BootTree) → list_at struct_at bytes ≡ Ok (b.structs, r1) → list_at (numbered_at signature_at) r1 ≡ Ok (b.signatures, r2)
    → list_at (function_at d) r2 ≡ Ok (b.functions, r3) → list_at global_at r3 ≡ Ok (b.globals, r4) → list_at (numbered_at model_at) r4 ≡ Ok (b.hosts, r5) → text_at r5 ≡ Ok (b.input, r6)
    → number32_at r6 ≡ Ok (b.turns, r7) → boot_at d bytes ≡ Ok (b, r7)
unfolding boot_at
boot_read d bytes r1 r2 r3 r4 r5 r6 r7 b e1 e2 e3 e4 e5 e6 e7 =
    let t6 = both_read text_at number32_at r5 b.input r6 b.turns r7 e6 e7 in
    let t5 = both_read (list_at (numbered_at model_at)) (both text_at number32_at) r4 b.hosts r5 (b.input, b.turns) r7 e5 t6 in
    let t4 = both_read (list_at global_at) (both (list_at (numbered_at model_at)) (both text_at number32_at)) r3 b.globals r4 (b.hosts, (b.input, b.turns)) r7 e4 t5 in
    let t3 = both_read (list_at (function_at d)) (both (list_at global_at) (both (list_at (numbered_at model_at)) (both text_at number32_at))) r2 b.functions r3 (b.globals, (b.hosts, (b.input, b.turns))) r7 e3 t4 in
    let t2 = both_read (list_at (numbered_at signature_at)) (both (list_at (function_at d)) (both (list_at global_at) (both (list_at (numbered_at model_at)) (both text_at number32_at)))) r1 b.signatures r2 (b.functions, (b.globals, (b.hosts, (b.input, b.turns)))) r7 e2 t3 in
    let t1 = both_read (list_at struct_at) (both (list_at (numbered_at signature_at)) (both (list_at (function_at d)) (both (list_at global_at) (both (list_at (numbered_at model_at)) (both text_at number32_at))))) bytes b.structs r1 (b.signatures, (b.functions, (b.globals, (b.hosts, (b.input, b.turns))))) r7 e1 t2 in
    mapped_read (λ p. record { structs = p.0; signatures = p.1.0; functions = p.1.1.0; globals = p.1.1.1.0; hosts = p.1.1.1.1.0; input = p.1.1.1.1.1.0; turns = p.1.1.1.1.1.1 }) (both (list_at struct_at) (both (list_at (numbered_at signature_at)) (both (list_at (function_at d)) (both (list_at global_at) (both (list_at (numbered_at model_at)) (both text_at number32_at)))))) bytes (b.structs, (b.signatures, (b.functions, (b.globals, (b.hosts, (b.input, b.turns)))))) r7 t1
