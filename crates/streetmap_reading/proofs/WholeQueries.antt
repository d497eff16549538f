-- What a query that answered all its rows showed.
use Rattle.std.proofs.Common.{ℕ, List, refl}
use Rattle.sqlite.specs.Order.{Row}
use Rattle.sqlite.specs.Command.TheVariants.{Select}
use Rattle.sqlite.specs.State.{State as Seen, IsUnchanged, Shown}
use Rattle.sqlite.proofs.Callers.{reads_as}
use Rattle.streetmap_reading.specs.Candidates.{ShowsSuch}
use Rattle.streetmap_rows.proofs.KeyReads.{shown_same}

pub answered : (sql : List ℕ) (params : Row) (old new : Seen) (Are : List Row → Type 0) (shows : ShowsSuch sql params old.now Are) (given : List Row) →
    Shown sql params old new given → Are given × IsUnchanged old new
answered sql params old new Are shows given h = (
  shows.answers given (reads_as sql params old new old.now.schema refl (Select shows.program shows.names) shows.is shows.plain shows.unlisted given h),
  shown_same sql params old new given shows.plain h,
)
