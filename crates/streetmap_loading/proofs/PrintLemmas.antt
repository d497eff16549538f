-- Batches that were written, or dropped.
use Rattle.std.proofs.Common.{◌≡◌, ℕ, List, [], ◌∷◌, Option, None, Some, Result, Ok, Err, length}
use Rattle.std.proofs.Common.{take, refl, sym, subst}
use Rattle.std.proofs.KnownBytes.{Appends-nil, Appends-trans}
use Rattle.std.specs.Io.KnownBytes.{Appends}
use Rattle.streetmap_batch.specs.Text.{Text}
use Rattle.streetmap_batch.specs.BatchValue.{BatchValue}
use Rattle.streetmap_loading.specs.Places.{places_of}
use Rattle.streetmap_loading.specs.Sources.{Item}
use Rattle.streetmap_loading.specs.Sinks.{SinkTakesAll}
use Rattle.streetmap_loading.specs.Ends.{ByEnd, EndsAt, EndsWithinBatch, IsOfBatch, placed_fault}
use Rattle.streetmap_loading.specs.Loads.{Loads}
use Rattle.streetmap_loading.specs.CheckedTexts.{IsOfText}
use Rattle.streetmap_loading.specs.Prints.{line_of, IsOfWrite, Prints}
use Rattle.streetmap_loading.specs.TextPrints.{lines_of, PrintsBefore, PrintsInto, PrintsBy}
use Rattle.streetmap_loading.specs.declared.loaded.Loaded.{Loaded}
use Rattle.streetmap_loading.specs.declared.load_fault.LoadFault.{LoadFault}
use Rattle.streetmap_loading.specs.declared.load_fault.LoadFault.TheVariants.{BadKey, BadCount, BadBatch, AtFault, ReadFailed, Memory, Refused, Stopped}
use Rattle.streetmap_loading.specs.declared.load_fault.LoadFault.TheVariants.{WriteFailed}
use Rattle.streetmap_text_lines.proofs.WriteLemmas.{beginning_after}

-- a write that failed
pub write_of_batch : (fault : LoadFault) → IsOfWrite fault → IsOfBatch fault
write_of_batch (Stopped fault) is = tt
write_of_batch WriteFailed is = tt
write_of_batch (Refused why place) is = absurd is
write_of_batch (AtFault fault) is = absurd is
write_of_batch ReadFailed is = absurd is
write_of_batch Memory is = absurd is
write_of_batch BadKey is = absurd is
write_of_batch BadCount is = absurd is
write_of_batch BadBatch is = absurd is

module _ {S : Type 0} (contents : S → Option (List ℕ)) where
  abbrev pub prints : S → BatchValue → Result (Option ℕ) LoadFault → S → Type 0
  prints old b result new = Prints b result (contents old) (contents new)

  written_all :
      (first : S) (before : Option ℕ) (bs : List BatchValue) (last : S) (serial : Option ℕ) →
      SinkTakesAll prints first before bs last serial →
      Appends (contents first) (contents last) (lines_of bs)
  written_all first before [] last serial all = subst
      (λ (x : S). Appends (contents first) (contents x) []) (sym all.0)
      (Appends-nil (contents first))
  written_all first before (b ∷ bs) last serial all =
      Appends-trans (contents first) (contents all.0) (contents last) (line_of b) (lines_of bs)
      all.2.1 (written_all all.0 all.1 bs last serial all.3)

  module _ (each : ℕ) (key : Text) (first last : S) (old new : Option (List Item))
      (loaded : Loaded)
      (it : Loads prints each key first last old new loaded) where
    written : Appends (contents first) (contents it.ends.mid) (lines_of it.ends.sent)
    written = written_all first None it.ends.sent it.ends.mid loaded.serial it.ends.all

    still : last ≡ it.ends.mid → Appends (contents first) (contents last) (lines_of it.ends.sent)
    still e = subst (λ (x : S). Appends (contents first) (contents x) (lines_of it.ends.sent))
        (sym e) written

    within : EndsWithinBatch prints each key it.read it.ends.sent it.ends.mid last →
        PrintsBefore each key it.read it.ends.sent (contents first) (contents last)
    within e = record { rest = e.left; are_left = e.are_left; written = still e.still }

    at_batch : (fault : LoadFault) → EndsAt prints each key it.read it.ends.sent it.ends.mid last fault →
        PrintsInto each key it.read it.ends.sent (contents first) (contents last)
    at_batch fault e = record {
      rest = e.left;
      are_left = e.are_left;
      batch = e.batch;
      next = e.next;
      written = beginning_after (contents first) (contents it.ends.mid) (contents last)
          (lines_of it.ends.sent) (line_of e.batch) written e.refused.1;
    }

    by_end : (why : Option LoadFault) → ByEnd prints each key it.read it.ends.sent it.ends.mid last why →
        PrintsBy each key it.read it.ends.sent (contents first) (contents last) why
    by_end None e = (e.0, still e.1)
    by_end (Some (AtFault fault)) e = within e.0
    by_end (Some ReadFailed) e = within e
    by_end (Some Memory) e = within e
    by_end (Some (Refused why place)) e = refused (take (length e.batch.edits) (places_of e.left)) e.stop
        e.refused.0 e.reported where
          refused : {P : Type 0} (placed : List (Option ℕ)) (stop : LoadFault) → IsOfWrite stop →
              Refused why place ≡ placed_fault placed stop → P
          refused placed (Stopped fault) h reported = cc
          refused placed WriteFailed h reported = cc
          refused placed (Refused reason inner) h reported = absurd h
          refused placed (AtFault fault) h reported = absurd h
          refused placed ReadFailed h reported = absurd h
          refused placed Memory h reported = absurd h
          refused placed BadKey h reported = absurd h
          refused placed BadCount h reported = absurd h
          refused placed BadBatch h reported = absurd h
    by_end (Some (Stopped fault)) e = at_batch (Stopped fault) e
    by_end (Some WriteFailed) e = at_batch WriteFailed e
    by_end (Some BadKey) e = e
    by_end (Some BadCount) e = e
    by_end (Some BadBatch) e = e

    pub prints_by :
        PrintsBy each key it.read it.ends.sent (contents first) (contents last) loaded.fault
    prints_by = by_end loaded.fault it.ends.ends

never : {P : Type 0} (stop : LoadFault) (result : Result (Option ℕ) LoadFault) → result ≡ Err stop →
    result ≡ Ok None → P
never stop result e f = cc

-- a load whose batches are all dropped does not end at a batch
module _ {S : Type 0} where
  abbrev pub lets_go : S → BatchValue → Result (Option ℕ) LoadFault → S → Type 0
  lets_go old b result new = result ≡ Ok None

  pub of_text :
      (each : ℕ) (key : Text) (first last : S) (old new : Option (List Item)) (loaded : Loaded) →
      Loads lets_go each key first last old new loaded → IsOfText loaded.fault
  of_text each key first last old new loaded it = by loaded.fault it.ends.ends where
    by : (why : Option LoadFault) → ByEnd lets_go each key it.read it.ends.sent it.ends.mid last why →
        IsOfText why
    by None e = tt
    by (Some (AtFault fault)) e = tt
    by (Some ReadFailed) e = tt
    by (Some Memory) e = tt
    by (Some (Refused why place)) e = never e.stop (Err e.stop) refl e.refused
    by (Some (Stopped fault)) e = never e.stop (Err e.stop) refl e.refused
    by (Some WriteFailed) e = never e.stop (Err e.stop) refl e.refused
    by (Some BadKey) e = e
    by (Some BadCount) e = e
    by (Some BadBatch) e = e
