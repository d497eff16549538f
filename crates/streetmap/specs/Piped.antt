-- What is guaranteed of the requests of standard input.
use Rattle.std.specs.Prelude.{Option}
use Rattle.streetmap_batch.specs.Text.{Text}
use Rattle.streetmap_ledger.specs.State.{State}
use Rattle.streetmap_web.specs.Site.{SiteValue}
use Rattle.streetmap_web.specs.declared.turns.End.{End}
use Rattle.streetmap_guarantee.specs.Streams.{GuaranteeOfStream}

-- they were served as a stream; what standard input had and standard output got is not known here
abbrev pub GuaranteeOfPipe : {Image : Type 0} → (Image → State → Type 0) → (Image → Type 0)
    → SiteValue → State → End → Type 0
GuaranteeOfPipe holds leaves site s end =
    (input_before input_after output_before output_after : Option Text)
    × GuaranteeOfStream holds leaves site s end input_before input_after output_before output_after
