use Rattle.std.proofs.Common.{List, ℕ, Option, subst}
use Rattle.std.specs.Io.Buffered.{reader_remaining}
use Rattle.streetmap_loading.specs.Options.{load_value, load_skips}
use Rattle.streetmap.specs.Changes.{SkipsNone}
use Rattle.streetmap.proofs.Readers.{remaining_is}
use Rattle.streetmap.proofs.Commands.{skips_none}
use Rattle.streetmap.proofs.loads.check_from.Goals as goal

pub returns : goal.returns
returns g c ok =
    let known = c.in-Ok.ensures in
    let same = remaining_is g.R.Read.remaining c.in-Ok.reader c.args.input known.inner known.empty known.capacity in
    subst (λ (text : Option (List ℕ)). SkipsNone (load_skips (load_value c.args.load) text)) same
    (skips_none (load_skips (load_value c.args.load) (reader_remaining g.R.Read.remaining c.in-Ok.reader)) c.check_text-loaded.result (c.end.ensures.whole ok)
    (c.end.ensures.none_skipped ok) c.check_text-loaded.ensures.skips)
