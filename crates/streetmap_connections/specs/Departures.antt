-- When a client leaves.
use Rattle.std.specs.Prelude.{◌≢◌}
use Rattle.std.specs.IoError.{error_kind}
use Rattle.std.specs.declared.io.Error.{Error}
use Rattle.std.specs.declared.io.ErrorKind.TheVariants.{Interrupted, WouldBlock}

-- after this error the client does not wait for the stream, and does not make the call again
abbrev pub IsFinal : Error → Type 0
IsFinal e = (error_kind e ≢ WouldBlock) × (error_kind e ≢ Interrupted)
