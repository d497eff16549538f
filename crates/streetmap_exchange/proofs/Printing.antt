-- The lines up to a serial are written.
use Rattle.std.proofs.Common.{◌≡◌, ℕ, suc, ◌+◌, ◌-◌, ◌≤◌, max, List, [], ◌++◌, length}
use Rattle.std.proofs.Common.{Option, Some, Ok, Err, sym, ap, subst, ◌∙◌, arith}
use Rattle.std.specs.Prelude.{slice_get}
use Rattle.std.specs.Io.KnownBytes.{Appends}
use Rattle.std.proofs.KnownBytes.{Appends-nil, Appends-trans}
use Rattle.streetmap_ledger.specs.Model.{Model}
use Rattle.streetmap_ledger.specs.State.{State}
use Rattle.streetmap_ledger.specs.WellFormed.{IsState}
use Rattle.streetmap_ledger.specs.declared.reply.Fault.TheVariants.{Memory, Device, Damaged, Reopen}
use Rattle.streetmap_text_lines.specs.Written.{AppendsBeginning}
use Rattle.streetmap_text_lines.proofs.WriteLemmas.{beginning_longer, beginning_after}
use Rattle.streetmap_text_lines.proofs.WriteLemmas.{beginning_all}
use Rattle.streetmap_ledger.specs.Kept.{KeyedBatch, batch_in, batch_count, batches_next}
use Rattle.streetmap_ledger.specs.Kept.{batches_after, AreNext}
use Rattle.streetmap_ledger.proofs.Nexts.{nexts_split, last_next}
use Rattle.streetmap_ledger.proofs.Serials.{found_under}
use Rattle.streetmap_exchange.specs.Printed.{lines_text}
use Rattle.streetmap_exchange.specs.ExportFaults.{IsWriteFault, IsLinesFault, lines_answer}
use Rattle.streetmap_replay.specs.Calls.{AreReads}
use Rattle.streetmap_replay.proofs.CallsInTurn.{no_fault_read, then_lost}
use Rattle.streetmap_exchange.specs.declared.fault.ExportFault.{ExportFault}
use Rattle.streetmap_exchange.specs.declared.fault.ExportFault.TheVariants.{NoCollection, Stopped, WriteFailed, FlushFailed}
use Rattle.streetmap_exchange.proofs.LineLemmas.{lines_append}

pub record Underway (s : State) (after last : ℕ) (old now : Option (List ℕ)) : Type 0 where
  pub low : after ≤ last
  pub high : last ≤ max after (batch_count s)
  pub written : Appends old now (lines_text (batches_next s after (last - after)))

pub begins : (s : State) (after : ℕ) (old : Option (List ℕ)) → Underway s after after old old
begins s after old =
    let none : 0 ≡ after - after = omega arith in
    record {
      low = omega arith;
      high = omega arith;
      written = subst (λ k. Appends old old (lines_text (batches_next s after k))) none
          (Appends-nil old);
    }

-- the batches after a serial: those up to another serial, and those after it
cut_at : (s : State) (after last : ℕ) → after ≤ last → last ≤ max after (batch_count s)
    → batches_after s after ≡ batches_next s after (last - after) ++ batches_after s last
cut_at s after last low high =
    let all : batch_count s - after ≡ (last - after) + (batch_count s - last) =
    omega (arith, low, high) in
    let there : after + (last - after) ≡ last = omega (arith, low) in
    ap (batches_next s after) all
    ∙ (nexts_split s after (last - after) (batch_count s - last)
    ∙ ap (λ n. batches_next s after (last - after) ++ batches_next s n
    (batch_count s - last)) there)

module _ (s : State) (sound : IsState s) (after last : ℕ) (old now : Option (List ℕ))
    (it : Underway s after last old now) where
  pub early : AppendsBeginning old now (lines_text (batches_after s after))
  early =
      let cut = ap lines_text (cut_at s after last it.low it.high)
      ∙ lines_append (batches_next s after (last - after)) (batches_after s last) in
      subst (AppendsBeginning old now) (sym cut) (beginning_longer old now _ _
      (beginning_all old now _ it.written))

  module _ (room : ℕ) (found : List KeyedBatch) (next : AreNext s last room found) where
    pub ends : found ≡ []
        → Appends old now (lines_text (batches_after s after)) × (last ≡ max after (batch_count s))
    ends none =
        let most = next.some none in
        let low = it.low in
        let high = it.high in
        let same : last - after ≡ batch_count s - after = omega (arith, low, high, most) in (
          subst (λ k. Appends old now (lines_text (batches_next s after k))) same it.written,
          omega (arith, low, high, most),
        )

    module _ (j : ℕ) (b : KeyedBatch) (many : length found ≡ suc j)
        (latest : slice_get found j ≡ Some b) where
      are : found ≡ batches_next s last (suc j)
      are = next.are ∙ ap (batches_next s last) many

      last_is : batch_in s (last + suc j) ≡ Some b
      last_is =
          last_next s last j b (ap length (sym are) ∙ many)
          (ap (λ bs. slice_get bs j) (sym are) ∙ latest)

      serial_is : b.1.serial ≡ last + suc j
      serial_is = (found_under s (last + suc j) b last_is).1

      within : b.1.serial ≤ batch_count s
      within = sound.to_count b.0 b.1 (found_under s (last + suc j) b last_is).0

      -- those up to its serial
      up_to : batches_next s after (b.1.serial - after)
          ≡ batches_next s after (last - after) ++ found
      up_to =
          let low = it.low in
          let all : b.1.serial - after ≡ (last - after) + suc j = omega (arith, serial_is, low) in
          let there : after + (last - after) ≡ last = omega (arith, low) in
          ap (batches_next s after) all
          ∙ (nexts_split s after (last - after) (suc j)
          ∙ (ap (λ n. batches_next s after (last - after) ++ batches_next s n (suc j)) there
          ∙ ap (λ bs. batches_next s after (last - after) ++ bs) (sym are)))

      texts_up_to : lines_text (batches_next s after (b.1.serial - after))
          ≡ lines_text (batches_next s after (last - after)) ++ lines_text found
      texts_up_to =
          ap lines_text up_to ∙ lines_append (batches_next s after (last - after)) found

      pub goes_on : (later : Option (List ℕ)) → Appends now later (lines_text found)
          → Underway s after b.1.serial old later
      goes_on later wrote =
          let low = it.low in
          let serial = serial_is in
          let most = within in
          record {
            low = omega (arith, low, serial);
            high = omega (arith, most);
            written = subst (Appends old later) (sym texts_up_to)
                (Appends-trans old now later _ _ it.written wrote);
          }

      pub breaks : (later : Option (List ℕ)) → AppendsBeginning now later (lines_text found)
          → AppendsBeginning old later (lines_text (batches_after s after))
      breaks later wrote =
          let low = it.low in
          let serial = serial_is in
          let most = within in
          let cut = ap lines_text (cut_at s after b.1.serial (omega (arith, low, serial))
          (omega (arith, most)))
          ∙ lines_append (batches_next s after (b.1.serial - after))
          (batches_after s b.1.serial) in
          subst (AppendsBeginning old later) (sym cut) (beginning_longer old later _ _
          (subst (AppendsBeginning old later) (sym texts_up_to)
          (beginning_after old now later _ _ it.written wrote)))

-- ---- the keeper

-- a write that failed
pub write_reads : {K : Type 0} {model : Model K} {a b : K} (fault : ExportFault) → IsWriteFault fault → AreReads model a b (Some (Ok tt)) →
    AreReads model a b (lines_answer {T = ℕ} (Err fault))
write_reads (Stopped Memory) is reads = then_lost reads
write_reads (Stopped Device) is reads = absurd is
write_reads (Stopped Damaged) is reads = absurd is
write_reads (Stopped Reopen) is reads = absurd is
write_reads WriteFailed is reads = no_fault_read reads
write_reads NoCollection is reads = absurd is
write_reads FlushFailed is reads = absurd is

pub write_fault : (fault : ExportFault) → IsWriteFault fault → IsLinesFault fault
write_fault (Stopped fault) is = tt
write_fault WriteFailed is = tt
write_fault NoCollection is = is
write_fault FlushFailed is = is
