use Rattle.std.proofs.Common.{◌≡◌, ◌∙◌, ◌<◌, ap, arith, false, length, List, map, refl, subst, sym}
use Rattle.std.proofs.lemmas.List.{get_or_default}
use Rattle.block_memory.specs.Block.{Block}
use Rattle.machine_memory.specs.Layouts.{FrameLayout}
use Rattle.machine_memory.specs.Frames.{blocks_in, FrameState, IsSized, layout_in}
use Rattle.machine_memory.specs.Words.{local_blocks}
use Rattle.machine_memory.proofs.FrameLemmas.{AreSized-set, IsSized-read}
use Rattle.machine_memory.proofs.MemoryLemmas.{blocks_of-same}
use Rattle.machine_memory.proofs.OpenLemmas.{IsSized-opened, open-same}
use Rattle.machine_memory.proofs.memory.MachineMemory.open.Goals as goal

pub invariant_of-self-2 : goal.invariant_of-self-2
invariant_of-self-2 c =
    let m = c.args.self.now in
    let frames : List FrameState = m.frames.items in
    let layouts : List FrameLayout = m.layouts.items in
    let old : FrameState = c.index_mut.result.now in
    let new : FrameState = c.open_with.new.self in
    let seen : FrameState = c.index-2.result.now in
    let live : c.args.depth < m.live = omega arith in
    let lt : c.args.depth < length frames = omega (arith, m.sized.within) in
    let same : seen ≡ old = c.index-2.ensures ∙ get_or_default frames c.args.depth seen old lt ∙ sym c.index_mut.ensures.value in
    let own : c.in_ok-cells.cells.items ≡ map (λ (b : Block). b.cells) (local_blocks (layout_in layouts old.layout).shapes 0 0 old.words old.entries) =
    c.in_ok-cells.ensures.blocks
    ∙ ap (λ (ls : List FrameLayout). map (λ (b : Block). b.cells) (local_blocks (layout_in ls seen.layout).shapes 0 0 seen.words seen.entries)) c.deref.ensures.value
    ∙ ap (λ (f : FrameState). map (λ (b : Block). b.cells) (local_blocks (layout_in layouts f.layout).shapes 0 0 f.words f.entries)) same
    in
    record {
      sized = AreSized-set layouts frames m.live c.args.depth new m.sized
          (subst (λ n. IsSized (layout_in layouts n) new) (sym (ap (λ (f : FrameState). f.layout) c.open_with.ensures))
          (IsSized-opened (layout_in layouts old.layout) old new c.in_ok-cells.cells.items (IsSized-read layouts frames m.live c.args.depth old m.sized live c.index_mut.ensures.value) own c.open_with.ensures));
    }

pub returns-clause-blocks : goal.returns-clause-blocks
returns-clause-blocks c =
    let m = c.args.self.now in
    let frames : List FrameState = m.frames.items in
    let layouts : List FrameLayout = m.layouts.items in
    let old : FrameState = c.index_mut.result.now in
    let new : FrameState = c.open_with.new.self in
    let seen : FrameState = c.index-2.result.now in
    let first : FrameState = c.index.result.now in
    let live : c.args.depth < m.live = omega arith in
    let lt : c.args.depth < length frames = omega (arith, m.sized.within) in
    let same : seen ≡ old = c.index-2.ensures ∙ get_or_default frames c.args.depth seen old lt ∙ sym c.index_mut.ensures.value in
    let same-first : first ≡ old = c.index.ensures ∙ get_or_default frames c.args.depth first old lt ∙ sym c.index_mut.ensures.value in
    let closed : old.is_open ≡ false = ap (λ (f : FrameState). f.is_open) (sym same-first) ∙ sym c.is_open.ensures ∙ c.if-is_open.false in
    let own : c.in_ok-cells.cells.items ≡ map (λ (b : Block). b.cells) (local_blocks (layout_in layouts old.layout).shapes 0 0 old.words old.entries) =
    c.in_ok-cells.ensures.blocks
    ∙ ap (λ (ls : List FrameLayout). map (λ (b : Block). b.cells) (local_blocks (layout_in ls seen.layout).shapes 0 0 seen.words seen.entries)) c.deref.ensures.value
    ∙ ap (λ (f : FrameState). map (λ (b : Block). b.cells) (local_blocks (layout_in layouts f.layout).shapes 0 0 f.words f.entries)) same
    in
    blocks_of-same m _ c.args.depth old new
    (record { layouts = refl; frames = refl; live = refl; globals = refl; received = refl; read = c.index_mut.ensures.value; within = live })
    (ap (λ n. blocks_in (layout_in layouts n) new) (ap (λ (f : FrameState). f.layout) c.open_with.ensures)
    ∙ open-same (layout_in layouts old.layout) old new c.in_ok-cells.cells.items closed own c.open_with.ensures)
