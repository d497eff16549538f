-- Steps of a load.
use Rattle.std.proofs.Common.{◌≡◌, ◌≢◌, ℕ, ◌+◌, ◌<◌, ◌≤◌, true, List, [], ◌∷◌, ◌++◌, Option, None}
use Rattle.std.proofs.Common.{Some, Result, Ok, Err, length, take, refl, sym, ap, subst, ◌∙◌, arith}
use Rattle.std.proofs.Common.{length-append, append_assoc}
use Rattle.std.proofs.lemmas.List.{append-nil}
use Rattle.streetmap_batch.specs.Text.{Text}
use Rattle.streetmap_batch.specs.BatchValue.{EditValue, BatchValue}
use Rattle.streetmap_batch.specs.BatchView.{batch_value}
use Rattle.streetmap_batch.specs.declared.batch.Batch.{Batch}
use Rattle.streetmap_packing.specs.Packs.{numbered, numbered_all, passes, PacksFirst}
use Rattle.streetmap_packing.specs.PackingState.{Packing}
use Rattle.streetmap_packing.specs.PackerView as packers
use Rattle.streetmap_packing.specs.PackerView.{packing, Adds}
use Rattle.streetmap_packing.specs.Underway.{packing_at, Underway}
use Rattle.streetmap_packing.proofs.Underway.{takes_on, sends_before, sends_full, packs_done}
use Rattle.streetmap_packing.proofs.Underway.{packs_last, one_in}
use Rattle.streetmap_packing.proofs.RunLemmas.{one_more}
use Rattle.streetmap_packing.proofs.PackLemmas.{shorter}
use Rattle.streetmap_loading.specs.Places.{PlacedValue, edits_of, places_of, text_place}
use Rattle.streetmap_loading.specs.Sinks.{SinkTakesAll}
use Rattle.streetmap_loading.specs.Ends.{AreLeft, IsNext, ByEnd, EndsBy, IsOfBatch, placed_fault}
use Rattle.streetmap_loading.specs.LoadProgress.{IsSending, Sends, SendsWhenFull, TakesEdit, EndsAtEdit}
use Rattle.streetmap_loading.specs.declared.progress.Sending.{Sending}
use Rattle.streetmap_loading.specs.declared.text_fault.TextFault.{TextFault}
use Rattle.streetmap_loading.specs.declared.load_fault.LoadFault.{LoadFault}
use Rattle.streetmap_loading.specs.declared.load_fault.LoadFault.TheVariants.{BadKey, BadCount, BadBatch, AtFault, ReadFailed, Memory, Refused, Stopped}
use Rattle.streetmap_loading.specs.declared.load_fault.LoadFault.TheVariants.{WriteFailed}
use Rattle.streetmap_loading.proofs.Sent.{length-numbered, edits-numbered, edits_more, one_numbered}
use Rattle.streetmap_loading.proofs.Sent.{edits_of_more, places_of_more, first_places, takes_more}

module _ {S : Type 0} (takes : S → BatchValue → Result (Option ℕ) LoadFault → S → Type 0) (each : ℕ)
    (key : Text) (first : S) (read : List PlacedValue) (l : Sending) (now : S)
    (it : IsSending takes each key first read l now) where
  abbrev here : Packing
  here = packing_at each key it.sent (edits_of it.left)

  abbrev batch : BatchValue
  batch = numbered key (1 + length it.sent) (edits_of it.left)

  -- the batches that were sent
  abbrev sent : List BatchValue
  sent = numbered_all key 1 it.sent

  long : length sent ≡ length it.sent
  long = length-numbered key 1 it.sent

  left_now : AreLeft each key read sent it.left
  left_now = record
      { done = it.done; split = it.split; packed = (it.sent, it.underway.done, refl) }

  left_more : (p : PlacedValue) → AreLeft each key (read ++ p ∷ []) sent (it.left ++ p ∷ [])
  left_more p =
      let more = one_more EditValue (passes each key) (shorter each key) 1 (edits_of read) it.sent
      (edits_of it.left) p.edit it.underway.done in
      let packed : PacksFirst each key (edits_of read ++ p.edit ∷ []) sent
      (edits_of it.left ++ p.edit ∷ []) = (it.sent, more, refl) in
      record {
        done = it.done;
        split = ap (λ t. t ++ p ∷ []) it.split ∙ append_assoc it.done it.left (p ∷ []);
        packed = subst
            (λ (es : List EditValue). PacksFirst each key es sent (edits_of (it.left ++ p ∷ [])))
            (sym (edits_of_more read p))
            (subst (λ (es : List EditValue). PacksFirst each key (edits_of read ++ p.edit ∷ [])
            sent
            es) (sym (edits_of_more it.left p)) packed);
      }

  -- it ends with the batches that were sent
  ends_here : (es : List PlacedValue) (last : S) (why : Option LoadFault) →
      ByEnd takes each key es sent now last why →
      EndsBy takes each key first last es l.batches l.taken l.serial why
  ends_here es last why how = record {
    sent = sent;
    mid = now;
    counted = long ∙ it.counted;
    held = edits-numbered key 1 it.sent ∙ it.held;
    all = it.all;
    ends = how;
  }

  -- out of memory
  pub ends_memory : EndsBy takes each key first now read l.batches l.taken l.serial (Some Memory)
  ends_memory = ends_here read now (Some Memory)
      (record { left = it.left; are_left = left_now; still = refl })

  ends_memory_more : (p : PlacedValue) →
      EndsBy takes each key first now (read ++ p ∷ []) l.batches l.taken l.serial (Some Memory)
  ends_memory_more p = ends_here (read ++ p ∷ []) now (Some Memory)
      (record { left = it.left ++ p ∷ []; are_left = left_more p; still = refl })

  pub ends_unread : EndsBy takes each key first now read l.batches l.taken l.serial (Some ReadFailed)
  ends_unread = ends_here read now (Some ReadFailed)
      (record { left = it.left; are_left = left_now; still = refl })

  -- at a fault, if the current batch is not full
  pub ends_at_fault : (fault : TextFault) → length (packing l.packer).edits < each →
      EndsBy takes each key first now read l.batches l.taken l.serial (Some (AtFault fault))
  ends_at_fault fault few =
      let short : length (edits_of it.left) < each = subst
      (λ (p : Packing). length p.edits < each)
      it.is few in
      let passing = it.underway.passing in
      ends_here read now (Some (AtFault fault)) (
        record { left = it.left; are_left = left_now; still = refl },
        record {
          few = short;
          passing = λ some. subst
              (λ (n : ℕ). passes each key (1 + n) (edits_of it.left) ≡ true) (sym long)
              (passing some);
        },
      )

  next_is : (rest left : List EditValue) → left ≡ edits_of it.left ++ rest →
      IsNext key (1 + length sent) left batch
  next_is rest left e =
      (rest, e, ap (λ n. (numbered key (1 + n) (edits_of it.left)).key) (sym long))

  -- at the current batch
  stops_here : (es left ps : List PlacedValue) → AreLeft each key es sent left →
      left ≡ it.left ++ ps → IsNext key (1 + length sent) (edits_of left) batch →
      (places : List (Option ℕ)) → places ≡ places_of it.left → (stop : LoadFault) (last : S) →
      takes now batch (Err stop) last → IsOfBatch stop →
      EndsBy takes each key first last es l.batches l.taken l.serial (Some (placed_fault places stop))
      × EndsAtEdit (placed_fault places stop)
  stops_here es left ps are split next places places_are stop last took of_batch =
      by stop took of_batch where
        front : places ≡ take (length (edits_of it.left)) (places_of left)
        front = places_are ∙
            (sym (first_places it.left ps) ∙ ap
            (λ (t : List PlacedValue). take (length (edits_of it.left)) (places_of t)) (sym split))

        reported : (s : LoadFault) →
            placed_fault places s ≡ placed_fault (take (length (edits_of it.left)) (places_of left)) s
        reported s = ap (λ t. placed_fault t s) front

        by : (s : LoadFault) → takes now batch (Err s) last → IsOfBatch s →
            EndsBy takes each key first last es l.batches l.taken l.serial (Some (placed_fault places s))
            × EndsAtEdit (placed_fault places s)
        by (Refused why place) t of = (
          ends_here es last (Some (Refused why (text_place places place)))
              (record {
                left = left;
                are_left = are;
                batch = batch;
                next = next;
                stop = Refused why place;
                refused = t;
                of_batch = of;
                reported = reported (Refused why place);
              }),
          tt,
        )
        by (Stopped fault) t of = (
          ends_here es last (Some (Stopped fault))
              (record {
                left = left;
                are_left = are;
                batch = batch;
                next = next;
                stop = Stopped fault;
                refused = t;
                of_batch = of;
                reported = reported (Stopped fault);
              }),
          tt,
        )
        by WriteFailed t of = (
          ends_here es last (Some WriteFailed)
              (record {
                left = left;
                are_left = are;
                batch = batch;
                next = next;
                stop = WriteFailed;
                refused = t;
                of_batch = of;
                reported = reported WriteFailed;
              }),
          tt,
        )
        by BadKey t of = absurd of
        by BadCount t of = absurd of
        by BadBatch t of = absurd of
        by (AtFault fault) t of = absurd of
        by ReadFailed t of = absurd of
        by Memory t of = absurd of

  -- the current batch was taken
  goes_further :
      (es left : List PlacedValue) (done : List PlacedValue) (n : Sending) (last : S)
      (serial : Option ℕ) →
      es ≡ done ++ left →
      packing n.packer ≡ packing_at each key (it.sent ++ edits_of it.left ∷ []) (edits_of left) →
      n.places.items ≡ places_of left →
      Underway each key (edits_of es) (it.sent ++ edits_of it.left ∷ []) (edits_of left) →
      n.batches ≡ l.batches + 1 → n.taken ≡ l.taken + length (edits_of it.left) → n.serial ≡
      serial
      →
      takes now batch (Ok serial) last → IsSending takes each key first es n last
  goes_further es left done n last serial split is places underway batches taken serial_is took =
      let one = length-append it.sent (edits_of it.left ∷ []) in
      let counted = it.counted in
      let held = it.held in
      let more = one_in it.sent (edits_of it.left) in
      let all = takes_more takes first None sent now l.serial batch serial last it.all took in
      record {
        sent = it.sent ++ edits_of it.left ∷ [];
        done = done;
        left = left;
        split = split;
        some = it.some;
        is = is;
        places = places;
        underway = underway;
        counted = omega (arith, one, counted, batches);
        held = omega (arith, held, more, taken);
        all = subst (λ (bs : List BatchValue). SinkTakesAll takes first None bs last n.serial)
            (sym (one_numbered key it.sent (edits_of it.left)))
            (subst (λ (o : Option ℕ). SinkTakesAll takes first None (sent ++ batch ∷ []) last o)
            (sym serial_is) all);
      }

  -- ---- an edit

  pub put_memory : (p : PlacedValue) (result : Result (Unit {0}) LoadFault) (m : Sending) →
      result ≡ Err Memory → m.batches ≡ l.batches → m.taken ≡ l.taken → m.serial ≡ l.serial →
      TakesEdit takes each key first read p result m now
  put_memory p result m e batches taken serial =
      let ended = ends_memory_more p in
      let moved : EndsBy takes each key first now (read ++ p ∷ []) m.batches m.taken m.serial
      (Some Memory)
      =
      record {
        sent = ended.sent;
        mid = ended.mid;
        counted = ended.counted ∙ sym batches;
        held =
            ended.held ∙ sym taken;
        all = subst (λ (o : Option ℕ). SinkTakesAll takes first None ended.sent ended.mid o)
            (sym serial) ended.all;
        ends = ended.ends;
      } in
      subst (λ (r : Result (Unit {0}) LoadFault). TakesEdit takes each key first read p r m now) (sym e)
      (moved, tt)

  pub put_none : (p : PlacedValue) (m : Sending) →
      Adds (packing l.packer) p.edit (Ok None) (packing m.packer) →
      m.places.items ≡ l.places.items ++ p.place ∷ [] → m.batches ≡ l.batches → m.taken ≡ l.taken
      →
      m.serial ≡ l.serial → IsSending takes each key first (read ++ p ∷ []) m now
  put_none p m adds places batches taken serial =
      let says = subst (λ (x : Packing). Adds x p.edit (Ok None) (packing m.packer)) it.is adds in
      let on = takes_on each key (edits_of read) it.sent (edits_of it.left) it.underway p.edit
      says.0 in
      record {
        sent = it.sent;
        done = it.done;
        left = it.left ++ p ∷ [];
        split = ap (λ t. t ++ p ∷ []) it.split ∙ append_assoc it.done it.left (p ∷ []);
        some = it.some;
        is = says.1 ∙ ap (λ es. packing_at each key it.sent es) (sym (edits_of_more it.left p));
        places = places ∙
            (ap (λ t. t ++ p.place ∷ []) it.places ∙ sym (places_of_more it.left p));
        underway = subst
            (λ (es : List EditValue). Underway each key es it.sent (edits_of (it.left ++ p ∷ [])))
            (sym (edits_of_more read p))
            (subst (λ (es : List EditValue). Underway each key (edits_of read ++ p.edit ∷ [])
            it.sent es) (sym (edits_of_more it.left p)) on);
        counted = it.counted ∙ sym batches;
        held = it.held ∙ sym taken;
        all = subst (λ (o : Option ℕ). SinkTakesAll takes first None sent now o) (sym serial) it.all;
      }

  moves : (es : List PlacedValue) (m : Sending) (last : S) (fault : LoadFault) → m.batches ≡ l.batches →
      m.taken ≡ l.taken → m.serial ≡ l.serial →
      EndsBy takes each key first last es l.batches l.taken l.serial (Some fault) × EndsAtEdit fault → EndsBy
      takes each key first last es m.batches m.taken m.serial (Some fault) × EndsAtEdit fault
  moves es m last fault batches taken serial ended = (
    record {
      sent = ended.0.sent;
      mid = ended.0.mid;
      counted = ended.0.counted ∙ sym batches;
      held = ended.0.held ∙ sym taken;
      all = subst (λ (o : Option ℕ). SinkTakesAll takes first None ended.0.sent ended.0.mid o)
          (sym serial) ended.0.all;
      ends = ended.0.ends;
    },
    ended.1,
  )

  pub put_some :
      (p : PlacedValue) (b : Batch) (m n : Sending) (result : Result (Unit {0}) LoadFault) (last : S)
      (places : List (Option ℕ)) →
      Adds (packing l.packer) p.edit (Ok (Some b)) (packing m.packer) → m.places.items ≡ p.place ∷
      [] → m.batches ≡ l.batches → m.taken ≡ l.taken → m.serial ≡ l.serial →
      places ≡ l.places.items → Sends takes m now (batch_value b) places result n last → TakesEdit
      takes
      each key first read p result n last
  put_some p b m n (Ok tt) last places adds own batches taken serial places_are sends =
      let says = subst (λ (x : Packing). Adds x p.edit (Ok (Some b)) (packing m.packer)) it.is
      adds
      in
      let more = length-append it.sent (edits_of it.left ∷ []) in
      let sent_is : batch_value b ≡ batch = says.3 in
      let number : 1 + length it.sent + 1 ≡ 1 + length (it.sent ++ edits_of it.left ∷ []) = omega
      (arith, more) in
      let is : packing n.packer ≡ packing_at each key (it.sent ++ edits_of it.left ∷ [])
      (p.edit ∷ []) =
      ap (λ (x : Sending). packing x.packer) sends.2 ∙
      (says.4 ∙ ap (λ k. record { key = key; each = each; number = k; edits = p.edit ∷ [] })
      number) in
      let before = sends_before each key (edits_of read) it.sent (edits_of it.left) it.underway
      p.edit says.0 says.1 says.2 in
      goes_further (read ++ p ∷ []) (p ∷ []) read n last sends.0 refl is
      (ap (λ (x : Sending). x.places.items) sends.2 ∙ own)
      (subst (λ (es : List EditValue). Underway each key es (it.sent ++ edits_of it.left ∷ [])
      (p.edit ∷ [])) (sym (edits_of_more read p)) before)
      (ap (λ (x : Sending). x.batches) sends.2 ∙ ap (λ k. k + 1) batches)
      (ap (λ (x : Sending). x.taken) sends.2 ∙
      (ap (λ k. k + length (batch_value b).edits) taken ∙ ap
      (λ (v : BatchValue). l.taken + length v.edits) sent_is))
      (ap (λ (x : Sending). x.serial) sends.2)
      (subst (λ (v : BatchValue). takes now v (Ok sends.0) last) sent_is sends.1)
  put_some p b m n (Err fault) last places adds own batches taken serial places_are sends =
      let says = subst (λ (x : Packing). Adds x p.edit (Ok (Some b)) (packing m.packer)) it.is
      adds
      in
      let sent_is : batch_value b ≡ batch = says.3 in
      let stopped = stops_here (read ++ p ∷ []) (it.left ++ p ∷ []) (p ∷ []) (left_more p) refl
      (next_is (p.edit ∷ []) (edits_of (it.left ++ p ∷ [])) (edits_of_more it.left p))
      places (places_are ∙ it.places) sends.0 last
      (subst (λ (v : BatchValue). takes now v (Err sends.0) last) sent_is sends.1) sends.4 in
      moves (read ++ p ∷ []) n last fault (ap (λ (x : Sending). x.batches) sends.3 ∙ batches)
      (ap (λ (x : Sending). x.taken) sends.3 ∙ taken)
      (ap (λ (x : Sending). x.serial) sends.3 ∙ serial)
      (subst (λ (x : LoadFault). EndsBy takes each key first last (read ++ p ∷ []) l.batches l.taken
      l.serial (Some x) × EndsAtEdit x) (sym sends.2) stopped)

  -- ---- a full batch

  pub fill_memory : (result : Result (Unit {0}) LoadFault) (m : Sending) → result ≡ Err Memory →
      m.batches ≡ l.batches → m.taken ≡ l.taken → m.serial ≡ l.serial →
      SendsWhenFull takes each key first read result m now
  fill_memory result m e batches taken serial =
      subst (λ (r : Result (Unit {0}) LoadFault). SendsWhenFull takes each key first read r m now) (sym e)
      (moves read m now Memory batches taken serial (ends_memory, tt))

  some_left : (left : List EditValue) → each ≤ length left → left ≢ []
  some_left [] many none = let some = it.some in absurd (omega (arith, some, many))
  some_left (e ∷ left) many none = cc

  pub fill_some :
      (b : Batch) (m n : Sending) (result : Result (Unit {0}) LoadFault) (last : S)
      (places : List (Option ℕ)) →
      packers.Fills (packing l.packer) (Ok (Some b)) (packing m.packer) → m.places.items ≡ [] →
      m.batches ≡ l.batches → m.taken ≡ l.taken → m.serial ≡ l.serial →
      places ≡ l.places.items → Sends takes m now (batch_value b) places result n last → SendsWhenFull
      takes
      each key first read result n last
  fill_some b m n (Ok tt) last places fills own batches taken serial places_are sends =
      let says = subst (λ (x : Packing). packers.Fills x (Ok (Some b)) (packing m.packer)) it.is
      fills in
      let more = length-append it.sent (edits_of it.left ∷ []) in
      let sent_is : batch_value b ≡ batch = says.1 in
      let number : 1 + length it.sent + 1 ≡ 1 + length (it.sent ++ edits_of it.left ∷ []) = omega
      (arith, more) in
      let is : packing n.packer ≡ packing_at each key (it.sent ++ edits_of it.left ∷ []) [] =
      ap (λ (x : Sending). packing x.packer) sends.2 ∙
      (says.2 ∙ ap (λ k. record { key = key; each = each; number = k; edits = [] }) number)
      in
      let some = it.some in (
        goes_further read [] read n last sends.0 (sym (append-nil read)) is
            (ap (λ (x : Sending). x.places.items) sends.2 ∙ own)
            (sends_full each key (edits_of read) it.sent (edits_of it.left) it.underway
            (some_left (edits_of it.left) says.0) says.0)
            (ap (λ (x : Sending). x.batches) sends.2 ∙ ap (λ k. k + 1) batches)
            (ap (λ (x : Sending). x.taken) sends.2 ∙
            (ap (λ k. k + length (batch_value b).edits) taken ∙ ap
            (λ (v : BatchValue). l.taken + length v.edits) sent_is))
            (ap (λ (x : Sending). x.serial) sends.2)
            (subst (λ (v : BatchValue). takes now v (Ok sends.0) last) sent_is sends.1),
        subst (λ (x : Packing). length x.edits < each) (sym is) (omega (arith, some)),
      )
  fill_some b m n (Err fault) last places fills own batches taken serial places_are sends =
      let says = subst (λ (x : Packing). packers.Fills x (Ok (Some b)) (packing m.packer)) it.is
      fills in
      let sent_is : batch_value b ≡ batch = says.1 in
      let stopped = stops_here read it.left [] left_now (sym (append-nil it.left))
      (next_is [] (edits_of it.left) (sym (append-nil (edits_of it.left))))
      places (places_are ∙ it.places) sends.0 last
      (subst (λ (v : BatchValue). takes now v (Err sends.0) last) sent_is sends.1) sends.4 in
      moves read n last fault (ap (λ (x : Sending). x.batches) sends.3 ∙ batches)
      (ap (λ (x : Sending). x.taken) sends.3 ∙ taken)
      (ap (λ (x : Sending). x.serial) sends.3 ∙ serial)
      (subst (λ (x : LoadFault). EndsBy takes each key first last read l.batches l.taken l.serial (Some x) ×
      EndsAtEdit x) (sym sends.2) stopped)

  -- ---- the last batch

  pub finish_none : packers.Finishes (packing l.packer) (Ok None) →
      EndsBy takes each key first now read l.batches l.taken l.serial None
  finish_none finishes =
      let none = subst (λ (x : Packing). packers.Finishes x (Ok None)) it.is finishes in
      ends_here read now None
      (packs_done each key (edits_of read) it.sent (edits_of it.left) it.underway none, refl)

  pub finish_ok : (b : Batch) (serial : Option ℕ) (last : S) (count : ℕ) →
      packers.Finishes (packing l.packer) (Ok (Some b)) →
      takes now (batch_value b) (Ok serial) last →
      count ≡ length (batch_value b).edits → EndsBy takes each key first last read (l.batches + 1)
      (l.taken + count) serial None
  finish_ok b serial last count finishes took counted_is =
      let says = subst (λ (x : Packing). packers.Finishes x (Ok (Some b))) it.is finishes in
      let sent_is : batch_value b ≡ batch = says.1 in
      let one = length-append sent (batch ∷ []) in
      let counted = it.counted in
      let many = long in
      let held = it.held in
      let numbered_held = edits-numbered key 1 it.sent in
      let more = edits_more sent batch in
      let same : count ≡ length (edits_of it.left) = counted_is ∙ ap
      (λ (v : BatchValue). length v.edits) sent_is in
      record {
        sent = sent ++ batch ∷ [];
        mid = last;
        counted = omega (arith, one, many, counted);
        held = omega (arith, more, numbered_held, held, same);
        all = takes_more takes first None sent now l.serial batch serial last it.all
            (subst (λ (v : BatchValue). takes now v (Ok serial) last) sent_is took);
        ends = (
          packs_last each key (edits_of read) it.sent (edits_of it.left) it.underway says.0,
          refl,
        );
      }

  pub finish_stop : (b : Batch) (stop : LoadFault) (last : S) (places : List (Option ℕ)) (fault : LoadFault) →
      packers.Finishes (packing l.packer) (Ok (Some b)) → places ≡ l.places.items →
      takes now (batch_value b) (Err stop) last → IsOfBatch stop → fault ≡ placed_fault places stop →
      EndsBy takes each key first last read l.batches l.taken l.serial (Some fault) × EndsAtEdit fault
  finish_stop b stop last places fault finishes places_are took of_batch reported =
      let says = subst (λ (x : Packing). packers.Finishes x (Ok (Some b))) it.is finishes in
      let stopped = stops_here read it.left [] left_now (sym (append-nil it.left))
      (next_is [] (edits_of it.left) (sym (append-nil (edits_of it.left))))
      places (places_are ∙ it.places) stop last
      (subst (λ (v : BatchValue). takes now v (Err stop) last) says.1 took) of_batch in
      subst (λ (x : LoadFault). EndsBy takes each key first last read l.batches l.taken l.serial (Some x) ×
      EndsAtEdit x) (sym reported) stopped
