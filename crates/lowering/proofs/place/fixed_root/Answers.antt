use Rattle.std.proofs.Common.{◌∙◌, ap, sym}
use Rattle.pt_core.specs.CodeTree.{place, deref, view_expr, view_root}
use Rattle.lowering.specs.Output.{output_of, view_found}
use Rattle.lowering.proofs.PieceLemmas.{fixed_is, held_then_checked}
use Rattle.lowering.proofs.place.fixed_root.Goals as goal

pub returns : goal.returns
returns c = λ o x low h e.
    let path = c.args.place.place.path.items in
    let s = c.in-Deref.span in
    let there = ap (λ z. place (deref z s) path) c.in_ok-hold_pointer-in-Deref.ensures.pointer in
    fixed_is o (output_of c.args.lowering.now) _ x _ low (view_found c.args.place) (view_expr c.in-Deref.pointer.value) s path _ h
    (sym (ap (λ r. place (view_root r) path) c.in-Deref.is)) e there
    (held_then_checked _ _ _ _ _ _ _ c.in_ok-hold_pointer-in-Deref.ensures.output c.in_ok-add.ensures (c.in_ok-copy.ensures ∙ there))
