-- A printed text that is one reads back.
use Rattle.std.proofs.Common.{◌≡◌, ℕ, List, refl, sym, subst, IsTrue, Result, Ok, Err, Vec}
use Rattle.std.specs.Prelude.{IfOk}
use Rattle.std.specs.declared.alloc.AllocError.{AllocError}
use Rattle.std.specs.declared.alloc.Global.{Global}
use Rattle.pt_tree.specs.ProgramTree.{ItemTree}
use Rattle.c_printer.specs.Items.{text_of}
use Rattle.c_printer.specs.ReadsBack.{ReadsBack}

-- what is read back of a text is read back of the bytes that are it
pub answers_read_back : (result : Result (Vec ℕ Global) AllocError) (comment : List ℕ) (program : List ItemTree) → ReadsBack (text_of comment program) program
    → IfOk result (λ text. text.items ≡ text_of comment program) → IfOk result (λ text. ReadsBack text.items program)
answers_read_back (Ok text) comment program reads is = subst (λ (bytes : List ℕ). ReadsBack bytes program) (sym is) reads
answers_read_back (Err e) comment program reads is = tt {0}
