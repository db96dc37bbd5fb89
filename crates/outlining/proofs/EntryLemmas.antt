-- The privileged ones of entries.
use Rattle.std.proofs.Common.{◌≡◌, ◌∙◌, ap, sym, append_assoc, Bool, true, false, List, [], ◌∷◌, ◌++◌}
use Rattle.std.specs.Prelude.{if◌then◌else◌}
use Rattle.pt_base.specs.declared.ids.FnId.{FnId}
use Rattle.pt_core.specs.declared.monitor.Entry.{Entry}
use Rattle.reach.specs.Tables.{item_if}
use Rattle.typed_tree.specs.TypedTree.{TypedTree}
use Rattle.outlining.specs.OutlineTexts.{guarded_in, is_guarded}

-- one entry more
pub guarded_on : (t : TypedTree) (e : Entry) (before rest : List Entry) (list list' all : List FnId) → before ≡ e ∷ rest → list' ≡ list ++ item_if (is_guarded t e.function) e.function →
    list ++ guarded_in t before ≡ all → list' ++ guarded_in t rest ≡ all
guarded_on t e before rest list list' all split added so_far = go (is_guarded t e.function) added (ap (λ (es : List Entry). list ++ guarded_in t es) (sym split) ∙ so_far)
  where
    go : (b : Bool) → list' ≡ list ++ item_if b e.function → list ++ (if b then e.function ∷ guarded_in t rest else guarded_in t rest) ≡ all → list' ++ guarded_in t rest ≡ all
    go true is h = ap (λ (fs : List FnId). fs ++ guarded_in t rest) is ∙ append_assoc list (e.function ∷ []) (guarded_in t rest) ∙ h
    go false is h = ap (λ (fs : List FnId). fs ++ guarded_in t rest) is ∙ append_assoc list [] (guarded_in t rest) ∙ h
