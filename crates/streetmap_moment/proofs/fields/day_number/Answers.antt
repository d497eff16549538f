use Rattle.std.proofs.Common.{◌≡◌, pos, FitsSigned, w32, arith}
use Rattle.std.proofs.lemmas.Int.{to_z-of_z, ints}
use Rattle.streetmap_moment.proofs.DateFacts.{day_is, day_in_range}
use Rattle.streetmap_moment.proofs.fields.day_number.Goals as goal

pub returns-clause-value : goal.returns-clause-value
returns-clause-value c =
    let d = c.in-Ok.date in
    let e = c.in-Ok.ensures.value in
    let month : d.month ≡ c.args.month = omega (arith, ints, e.1, c.requires.month_in) in
    let day : d.day ≡ c.args.day = omega (arith, ints, e.2, c.requires.day_in) in
    let year : d.year ≡ pos c.args.year = omega (arith, ints, e.0, c.requires.year_in) in
    let fits : FitsSigned w32 c.to_unix_epoch_day.result = omega (arith, ints, c.to_unix_epoch_day.ensures.bound) in
    let same = day_is c.args.year c.args.month c.args.day d.year d.month d.day year month day (omega arith) (omega arith) (omega arith) (omega arith) in
    rw (to_z-of_z w32 c.to_unix_epoch_day.result fits, c.to_unix_epoch_day.ensures.value) same

pub returns-clause-bound : goal.returns-clause-bound
returns-clause-bound c =
    let d = c.in-Ok.date in
    let e = c.in-Ok.ensures.value in
    let year : d.year ≡ pos c.args.year = omega (arith, ints, e.0, c.requires.year_in) in
    let fits : FitsSigned w32 c.to_unix_epoch_day.result = omega (arith, ints, c.to_unix_epoch_day.ensures.bound) in
    let range = day_in_range c.args.year d.year d.month d.day year (d.year_in, d.month_in, d.day_in) in
    rw (to_z-of_z w32 c.to_unix_epoch_day.result fits, c.to_unix_epoch_day.ensures.value) range
