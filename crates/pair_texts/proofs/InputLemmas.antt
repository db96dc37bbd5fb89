-- Whether the slave has the input.
use Rattle.std.proofs.Common.{◌≡◌, ◌∙◌, ◌||◌, ap, refl, sym, ℕ, List, [], ◌∷◌, true, false, if◌then◌else◌}
use Rattle.std.specs.List.{list_any}
use Rattle.pt_base.specs.declared.ids.FnId.{FnId}
use Rattle.pt_tree.specs.declared.host_model.HostModel.{HostModel}
use Rattle.pt_core.specs.CodeTree.{numbered}
use Rattle.pair_meaning.specs.Start.{input_for, reads_input}

one_reads : (models : List (FnId × HostModel)) → list_any (λ (h : ℕ × HostModel). reads_input h.1) (numbered models) ≡ list_any (λ (h : FnId × HostModel). reads_input h.1) models
one_reads [] = refl
one_reads (m ∷ ms) = ap (◌||◌ (reads_input m.1)) (one_reads ms)

pub is_given : (models : List (FnId × HostModel)) (input : List ℕ) → list_any (λ (h : FnId × HostModel). reads_input h.1) models ≡ true → input ≡ input_for (numbered models) input
is_given models input is = sym (ap (λ b. if b then input else []) (one_reads models ∙ is))

pub is_none : (models : List (FnId × HostModel)) (input : List ℕ) → list_any (λ (h : FnId × HostModel). reads_input h.1) models ≡ false → [] ≡ input_for (numbered models) input
is_none models input is = sym (ap (λ b. if b then input else []) (one_reads models ∙ is))
