-- Edits that were read, and their batches sent.
use Rattle.std.proofs.Common.{◌≡◌, ℕ, ◌+◌, ◌<◌, ◌≤◌, List, [], ◌∷◌, ◌++◌, Option, None, Some}
use Rattle.std.proofs.Common.{Result, Ok, Err, length, refl, sym, ap, subst, ◌∙◌, arith}
use Rattle.std.proofs.Common.{append_assoc, length-append}
use Rattle.std.proofs.lemmas.List.{append-nil}
use Rattle.streetmap_batch.specs.Text.{Text}
use Rattle.streetmap_batch.specs.BatchValue.{BatchValue}
use Rattle.streetmap_packing.specs.PackerView.{packing}
use Rattle.streetmap_packing.proofs.Underway.{nothing}
use Rattle.streetmap_loading.specs.Places.{PlacedValue}
use Rattle.streetmap_loading.specs.Sources.{Item, TakesOff, HasNoItem, FirstIs, SourceGives}
use Rattle.streetmap_loading.specs.LoadProgress.{Begins, IsSending, SendsWhenFull, TakesEdit, SendsTheRest, EndsAtEdit}
use Rattle.streetmap_loading.specs.LoadProgress.{EndsAtOrAfterEdit}
use Rattle.streetmap_loading.specs.Loads.{Loads, AreTakenOff, ItemsBeginWith, items_of}
use Rattle.streetmap_loading.specs.declared.text_fault.TextFault.{TextFault}
use Rattle.streetmap_loading.specs.declared.progress.Sending.{Sending}
use Rattle.streetmap_loading.specs.declared.loaded.Loaded.{Loaded}
use Rattle.streetmap_loading.specs.declared.load_fault.LoadFault.{LoadFault}
use Rattle.streetmap_loading.specs.declared.load_fault.LoadFault.TheVariants.{BadKey, BadCount, BadBatch, AtFault, ReadFailed, Memory, Refused, Stopped}
use Rattle.streetmap_loading.specs.declared.load_fault.LoadFault.TheVariants.{WriteFailed}
use Rattle.streetmap_loading.proofs.SendLemmas.{ends_at_fault, ends_unread, ends_memory}

pub takes_none : (a : Option (List Item)) → TakesOff a a []
takes_none None = tt
takes_none (Some items) = refl

pub takes_then : (a b c : Option (List Item)) (xs ys : List Item) → TakesOff a b xs →
    TakesOff b c ys → TakesOff a c (xs ++ ys)
takes_then None b c xs ys p q = tt
takes_then (Some items) None c xs ys p q = absurd p
takes_then (Some items) (Some rest) None xs ys p q = absurd q
takes_then (Some items) (Some rest) (Some more) xs ys p q = p ∙
    (ap (λ t. xs ++ t) q ∙ sym (append_assoc xs ys more))

pub none_left : (a b c : Option (List Item)) (xs : List Item) → TakesOff a b xs → HasNoItem b c →
    HasNoItem a c
none_left None b c xs h none = tt
none_left (Some items) None c xs h none = absurd h
none_left (Some items) (Some rest) None xs h none = tt
none_left (Some items) (Some rest) (Some more) xs h none = none

front : (old now : Option (List Item)) (xs : List Item) → TakesOff old now xs → ItemsBeginWith old xs
front None now xs taken = tt
front (Some items) None xs taken = absurd taken
front (Some items) (Some rest) xs taken = (rest, taken)

front_at : (old now : Option (List Item)) (xs : List Item) (fault : TextFault) →
    TakesOff old now xs → FirstIs now fault → ItemsBeginWith old (xs ++ Err fault ∷ [])
front_at None now xs fault taken is = tt
front_at (Some items) None xs fault taken is = absurd taken
front_at (Some items) (Some rest) xs fault taken is =
    (is.0, taken ∙ (ap (λ t. xs ++ t) is.1 ∙ sym (append_assoc xs (Err fault ∷ []) is.0)))

items_more : (ps : List PlacedValue) (p : PlacedValue) →
    items_of (ps ++ p ∷ []) ≡ items_of ps ++ Ok p ∷ []
items_more [] p = refl
items_more (x ∷ ps) p = ap (λ t. Ok x ∷ t) (items_more ps p)

-- if a load ended at an edit, the edits that were read are those taken from the source
are_within : (old now : Option (List Item)) (read : List PlacedValue) (fault : LoadFault) → EndsAtEdit fault →
    TakesOff old now (items_of read) → AreTakenOff old now read (Some fault)
are_within old now read Memory within taken = front old now (items_of read) taken
are_within old now read (Refused why place) within taken = taken
are_within old now read (Stopped fault) within taken = taken
are_within old now read WriteFailed within taken = taken
are_within old now read (AtFault fault) within taken = absurd within
are_within old now read ReadFailed within taken = absurd within
are_within old now read BadKey within taken = absurd within
are_within old now read BadCount within taken = absurd within
are_within old now read BadBatch within taken = absurd within

are_after : (old now : Option (List Item)) (read : List PlacedValue) (why : Option LoadFault) → EndsAtOrAfterEdit why →
    TakesOff old now (items_of read) → HasNoItem old now → AreTakenOff old now read why
are_after old now read None following taken none = (taken, none)
are_after old now read (Some fault) following taken none = are_within old now read fault following taken

module _ {S : Type 0} (takes : S → BatchValue → Result (Option ℕ) LoadFault → S → Type 0) where
  -- `count` edits were read, and their complete batches were sent
  pub record Reads (each : ℕ) (key : Text) (first last : S) (old now : Option (List Item))
      (count : ℕ) (l : Sending) : Type 0 where
    pub read : List PlacedValue
    pub counted : length read ≡ count
    pub taken : TakesOff old now (items_of read)
    pub sending : IsSending takes each key first read l last

  pub begins : (each : ℕ) (key : Text) (first : S) (old : Option (List Item)) (l : Sending) →
      1 ≤ each → Begins each key l → Reads each key first first old old 0 l
  begins each key first old l some begun = record {
    read = [];
    counted = refl;
    taken = takes_none old;
    sending = record {
      sent = [];
      done = [];
      left = [];
      split = refl;
      some = some;
      is = begun.is;
      places = begun.places;
      underway = nothing each key;
      counted = sym begun.batches;
      held = sym begun.taken;
      all = (refl, begun.serial);
    };
  }

  module _ (each : ℕ) (key : Text) (first last : S) (old now : Option (List Item)) (count : ℕ)
      (l : Sending) (it : Reads each key first last old now count l) where
    abbrev reported : Sending → (edits skipped : ℕ) → LoadFault → Loaded
    reported m edits skipped fault = record {
      edits = edits;
      batches = m.batches;
      taken = m.taken;
      serial = m.serial;
      skipped = skipped;
      fault = Some fault;
    }

    -- the current batch was sent if it was full
    pub filled : (m : Sending) (next : S) → SendsWhenFull takes each key first it.read (Ok tt) m next →
        Reads each key first next old now count m
    filled m next fills = record
        { read = it.read; counted = it.counted; taken = it.taken; sending = fills.0 }

    pub not_filled : (m : Sending) (next : S) (skipped : ℕ) (fault : LoadFault) →
        SendsWhenFull takes each key first it.read (Err fault) m next →
        Loads takes each key first next old now (reported m count skipped fault)
    not_filled m next skipped fault fills = record {
      read = it.read;
      counted = it.counted;
      are = are_within old now it.read fault fills.1
          it.taken;
      ends = fills.0;
    }

    taken_more : (later : Option (List Item)) (p : PlacedValue) → TakesOff now later (Ok p ∷ []) →
        TakesOff old later (items_of (it.read ++ p ∷ []))
    taken_more later p took = subst (λ (xs : List Item). TakesOff old later xs)
        (sym (items_more it.read p))
        (takes_then old now later (items_of it.read) (Ok p ∷ []) it.taken took)

    counted_more : (p : PlacedValue) → length (it.read ++ p ∷ []) ≡ count + 1
    counted_more p = let many = length-append it.read (p ∷ []) in let counted = it.counted in
        omega
        (arith, many, counted)

    -- an edit was added
    pub goes_further : (later : Option (List Item)) (p : PlacedValue) (m : Sending) (next : S) →
        TakesOff now later (Ok p ∷ []) → TakesEdit takes each key first it.read p (Ok tt) m next →
        Reads each key first next old later (count + 1) m
    goes_further later p m next took puts = record {
      read = it.read ++ p ∷ [];
      counted = counted_more p;
      taken = taken_more later p took;
      sending = puts;
    }

    pub stops :
        (later : Option (List Item)) (p : PlacedValue) (m : Sending) (next : S) (skipped : ℕ)
        (fault : LoadFault) →
        TakesOff now later (Ok p ∷ []) → TakesEdit takes each key first it.read p (Err fault) m next →
        Loads takes each key first next old later (reported m (count + 1) skipped fault)
    stops later p m next skipped fault took puts = record {
      read = it.read ++ p ∷ [];
      counted = counted_more p;
      are = are_within old later
          (it.read ++ p ∷ []) fault puts.1 (taken_more later p took);
      ends = puts.0;
    }

    -- no edit is left
    pub ends : (later : Option (List Item)) (loaded : Loaded) (next : S) → TakesOff now later [] →
        HasNoItem now later → loaded.edits ≡ count →
        SendsTheRest takes each key first it.read loaded next →
        Loads takes each key first next old later loaded
    ends later loaded next took none edits finishes =
        let taken = subst (λ (xs : List Item). TakesOff old later xs)
        (append-nil (items_of it.read))
        (takes_then old now later (items_of it.read) [] it.taken took) in
        record {
          read = it.read;
          counted = it.counted ∙ sym edits;
          are = are_after old later
              it.read loaded.fault finishes.1 taken
              (none_left old now later (items_of it.read) it.taken none);
          ends = finishes.0;
        }

    -- the next edit was not read, or is at fault
    pub not_read : (later : Option (List Item)) (fault : LoadFault) (skipped : ℕ) →
        SourceGives now later (Err fault) → length (packing l.packer).edits < each →
        Loads takes each key first last old later (reported l count skipped fault)
    not_read later (AtFault fault) skipped took few = record {
      read = it.read;
      counted = it.counted;
      are = front_at old now (items_of it.read) fault
          it.taken took;
      ends = ends_at_fault takes each key first it.read l last it.sending fault
          few;
    }
    not_read later ReadFailed skipped took few = record {
      read = it.read;
      counted = it.counted;
      are = front old now (items_of it.read) it.taken;
      ends = ends_unread takes each key first it.read l last it.sending;
    }
    not_read later Memory skipped took few = record {
      read = it.read;
      counted = it.counted;
      are = front old now (items_of it.read) it.taken;
      ends = ends_memory takes each key first it.read l last it.sending;
    }
    not_read later (Refused why place) skipped took few = absurd took
    not_read later (Stopped fault) skipped took few = absurd took
    not_read later WriteFailed skipped took few = absurd took
    not_read later BadKey skipped took few = absurd took
    not_read later BadCount skipped took few = absurd took
    not_read later BadBatch skipped took few = absurd took

    -- no more edits are read
    pub too_many : (skipped : ℕ) →
        Loads takes each key first last old now (reported l count skipped ReadFailed)
    too_many skipped = record {
      read = it.read;
      counted = it.counted;
      are = front old now (items_of it.read) it.taken;
      ends = ends_unread takes each key first it.read l last it.sending;
    }

  -- a load that does not begin
  pub not_begun :
      (each : ℕ) (key : Text) (first : S) (old : Option (List Item)) (skipped : ℕ) →
      Loads takes each key first first old old (record {
        edits = 0;
        batches = 0;
        taken = 0;
        serial = None;
        skipped = skipped;
        fault = Some Memory;
      })
  not_begun each key first old skipped = record {
    read = [];
    counted = refl;
    are = front old old [] (takes_none old);
    ends = record {
      sent = [];
      mid = first;
      counted = refl;
      held = refl;
      all = (refl, refl);
      ends = record {
        left = [];
        are_left = record { done = []; split = refl; packed = ([], refl, refl) };
        still
            = refl;
      };
    };
  }
