-- What is left to be read of a reader that was just given a buffer.
use Rattle.std.proofs.Common.{◌≡◌, ℕ, List, [], Option, None, Some, refl, ap, ◌∙◌}
use Rattle.std.specs.Prelude.{if◌then◌else◌, ◌==◌}
use Rattle.std.specs.declared.io.buffered.BufReader.{BufReader}
use Rattle.std.specs.Io.Buffered.{reader_buffer, reader_capacity, reader_inner, reader_remaining}
use Rattle.std.specs.Io.KnownBytes.{prepend_known}

none_before : (known : Option (List ℕ)) → prepend_known [] known ≡ known
none_before None = refl
none_before (Some bytes) = refl

-- the same as of the reader itself
pub remaining_is : {R A : Type 0} (remaining : R → Option (List ℕ)) (r : BufReader R A) (inner : R) → reader_inner r ≡ inner → reader_buffer r ≡ [] →
    reader_capacity r ≡ 8192
    → reader_remaining remaining r ≡ remaining inner
remaining_is remaining r inner is empty capacity =
    ap (λ n. if n == 0 then None else prepend_known (reader_buffer r) (remaining r.inner)) capacity
    ∙ (ap (λ bs. prepend_known bs (remaining r.inner)) empty ∙ (none_before (remaining r.inner) ∙ ap remaining is))
