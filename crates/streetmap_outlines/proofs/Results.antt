-- What holds if a call succeeds.
use Rattle.std.proofs.Common.{◌≡◌, false, Result, Ok, Err}
use Rattle.std.specs.Result.{OnOk, is_err}

pub on_ok_map : {A E P Q : Type 0} (r : Result A E) → (P → Q) → OnOk r P → OnOk r Q
on_ok_map (Ok x) f h = f h
on_ok_map (Err x) f h = h

pub on_ok_from : {A E P : Type 0} (r : Result A E) → P → OnOk r P
on_ok_from (Ok x) h = h
on_ok_from (Err x) h = tt

pub on_ok_both : {A E P Q R : Type 0} (r : Result A E) → (P → Q → R) → OnOk r P → OnOk r Q → OnOk r R
on_ok_both (Ok x) f h k = f h k
on_ok_both (Err x) f h k = h

pub on_ok_not_err : {A E P : Type 0} (r : Result A E) → is_err r ≡ false → OnOk r P → P
on_ok_not_err (Ok x) is h = h
on_ok_not_err (Err x) is h = absurd cc
