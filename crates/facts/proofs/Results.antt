-- Values and errors.
use Rattle.std.proofs.Common.{Err, Ok, OnErr, Result}
use Rattle.std.specs.Result.{OnOk}

pub on_ok_implies : {T E : Type 0} (r : Result T E) (P Q : Type 0) → (P → Q) → OnOk r P → OnOk r Q
on_ok_implies (Ok x) P Q f h = f h
on_ok_implies (Err e) P Q f h = h

pub on_err_of : {T E P : Type 0} (r : Result T E) → P → OnErr r P
on_err_of (Ok x) p = tt
on_err_of (Err e) p = p
