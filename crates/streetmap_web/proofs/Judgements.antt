-- Answers by a verdict on the state's tag, which was read before.
use Rattle.std.proofs.Common.{◌≡◌, ◌≢◌, ◌⊎◌, ℕ, Bool, true, false, refl, sym, ap, subst, ◌∙◌, Option, Some, Result, Ok, Err, inl, inr, IfOk, OnErr}
use Rattle.std.specs.Prelude.{if◌then◌else◌}
use Rattle.std.specs.declared.alloc.AllocError.{AllocError}
use Rattle.streetmap_batch.specs.Text.{Text}
use Rattle.streetmap_batch.specs.BatchValue.{BatchValue}
use Rattle.streetmap_ledger.specs.State.{State}
use Rattle.streetmap_ledger.specs.Model.{Model}
use Rattle.streetmap_ledger.specs.Batches.{act}
use Rattle.streetmap_ledger.specs.Kept.{batch_count}
use Rattle.streetmap_ledger.specs.Keep.{IsRead, IsWrite, LeavesEither}
use Rattle.streetmap_ledger.specs.declared.reply.Cause.{Cause}
use Rattle.streetmap_ledger.specs.declared.reply.Fault.{Fault}
use Rattle.streetmap_ledger.specs.declared.reply.Fault.TheVariants as faults
use Rattle.streetmap_ledger.specs.declared.reply.Reply.{Reply}
use Rattle.streetmap_routes.specs.Operations.{OperationValue, batch}
use Rattle.streetmap_bodies.specs.declared.request_fault.RequestFault.TheVariants.{Keeper}
use Rattle.streetmap_tags.specs.Keys.{is_used, IsKeyUsed}
use Rattle.streetmap_web.specs.Response.{ResponseValue, plainly, tagged, instead, changed, is_batch, needs_state, judged, read_judged, state_by, state_in, response_in, replied, fault_response}
use Rattle.streetmap_web.specs.Judging.{RespondsBy, RespondsByReply, tag_after, in_place_by, probe}
use Rattle.streetmap_web.specs.Responds.{Responds, RespondsIn, FaultsIn, FaultsShut, FaultsAny, AppliesBy, IsResponse, response_value}
use Rattle.streetmap_web.specs.declared.response.Response.{Response}
use Rattle.streetmap_web.specs.declared.verdict.Verdict.{Verdict}
use Rattle.streetmap_web.specs.declared.verdict.Verdict.TheVariants.{Holds, NotModified, Changed}
use Rattle.streetmap_web.specs.Conditions.{ByCalls}
use Rattle.streetmap_web.proofs.CallsInARow.{no_calls, calls_then, by_call}
use Rattle.streetmap_web.proofs.ReadResponses.{open_not_shut, shut_by, any_by, read_in, write_in}
use Rattle.streetmap_web.proofs.Statuses.{tagged_well, reply_well, changed_well, instead_well, in_place_well}
use Rattle.streetmap_web.proofs.Verdicts.{tag_kept, serial_of, used_stays, read_stays, read_by, read_is_judged, probe_same, probe_reads, probe_needs, needed_shut}

-- ---- batches

-- the same batch
to_judged : {A : Type 0} (b c : BatchValue) (verdict : Verdict) (Is : A → ResponseValue → Type 0) (result : Result A Fault)
    (applies : BatchValue → Result Reply Fault → Type 0) (uncalled : Type 0)
    → batch b ≡ batch c → RespondsByReply b.key verdict Is result (applies b) uncalled → RespondsByReply c.key verdict Is result (applies c) uncalled
to_judged b c verdict Is result applies uncalled e h =
    let same : b ≡ c = cc in subst (λ (d : BatchValue). RespondsByReply d.key verdict Is result (applies d) uncalled) same h

-- two verdicts that do not let a batch act
modified_differs : NotModified ≢ Holds
modified_differs e = cc

changed_differs : Changed ≢ Holds
changed_differs e = cc

-- what holds by one of them holds by the other
under_modified : {A : Type 0} (key : Text) (Is : A → ResponseValue → Type 0) (result : Result A Fault) (applies : Result Reply Fault → Type 0) (uncalled : Type 0)
    → RespondsByReply key Changed Is result applies uncalled → RespondsByReply key NotModified Is result applies uncalled
under_modified key Is (Ok r) applies uncalled says = elim says [
  | inl it ↦ inl it
  | inr it ↦ inr (modified_differs, it.1, it.2)
]
under_modified key Is (Err fault) applies uncalled says = says

-- ---- a batch that is acted on

module _ {K : Type 0} {model : Model K} {old new : K} (root : Text) (b : BatchValue) (n : ℕ) where
  pub reply_judged : (reply : Reply) (response : Response) → IsWrite model old new b (Ok reply)
      → response_value response ≡ tagged (tag_after n reply) (replied b.key reply)
      → RespondsBy model root (batch b) Holds n IsResponse old new (Ok response)
  reply_judged reply response write is = record {
    calls = by_call write.call;
    in_state = λ clean s h tag.
        let acted = write.writes clean s h in
        let same : tag_after n (act s b).reply ≡ batch_count (act s b).state = ap (λ k. tag_after k (act s b).reply) tag ∙ sym (tag_kept s b) in
        (is ∙ ap (λ r. tagged (tag_after n r) (replied b.key r)) acted.0 ∙ ap (λ k. tagged k (replied b.key (act s b).reply)) same, acted.1);
    shut = λ why e. open_not_shut _ why write.call.faults.0 e;
    any = (
      tagged (tag_after n reply) (replied b.key reply),
      (λ plain. absurd (let bad : true ≡ false = plain in cc), λ has_request e. tagged_well (tag_after n reply) (replied b.key reply) (reply_well b.key reply) e),
      is,
    );
    to_batch = λ c e.
        to_judged b c Holds IsResponse (Ok response) (λ d r. AppliesBy model true old d r new) (ByCalls model old new) e
        (inl (reply, tag_after n reply, (old, no_calls model old, write.applied), serial_of n reply, is));
  }

  pub fault_judged : (fault : Fault) → IsWrite model old new b (Err fault) → RespondsBy {A = Response} model root (batch b) Holds n IsResponse old new (Err fault)
  fault_judged fault write = record {
    calls = by_call write.call;
    in_state = λ clean s h tag. write_in root b fault s write.call (write.writes clean s h);
    shut = λ why e. shut_by root (batch b) refl fault why refl e write.call;
    any = any_by root (batch b) refl fault write.call;
    to_batch = λ c e.
        to_judged {A = Response} b c Holds IsResponse (Err fault) (λ d r. AppliesBy model true old d r new) (ByCalls model old new) e
        (inl (old, no_calls model old, write.applied));
  }

-- memory ran out before a call
pub not_judged : {K : Type 0} (model : Model K) (root : Text) (operation : OperationValue) (verdict : Verdict) (n : ℕ) (k : K)
    → RespondsBy {A = Response} model root operation verdict n IsResponse k k (Err faults.Memory)
not_judged model root operation verdict n k = record {
  calls = no_calls model k;
  in_state = λ clean s h tag. h;
  shut = λ why e. (tt, e, λ o. (λ left. left, λ left. left));
  any = tt;
  to_batch = λ b e. inr (no_calls model k);
}

-- ---- after a read

module _ {K T : Type 0} {model : Model K} {old mid : K} {x : T} {Shows : State → T → Type 0} (read : IsRead model old mid (Ok x) Shows) where
  -- what was responded between the second keeper and a third
  pub later_in : {A : Type 0} (new : K) (Is : A → ResponseValue → Type 0) (s next : State) (operation : OperationValue) (answer : ResponseValue) (result : Result A Fault)
      → ByCalls model mid new → RespondsIn model s operation answer next Is mid new result → RespondsIn model s operation answer next Is old new result
  later_in new Is s next operation answer (Ok r) calls says = says
  later_in new Is s next operation answer (Err faults.Memory) calls says = says
  later_in new Is s next operation answer (Err faults.Device) calls says =
      (says.0, says.1, model.fails_later old mid new read.call.preserved calls.preserved says.2, says.3)
  later_in new Is s next operation answer (Err faults.Damaged) calls says = says
  later_in new Is s next operation answer (Err faults.Reopen) calls says = says

  -- by another verdict, which lets the batch act if the first does
  pub later_batch : {A : Type 0} (new : K) (Is : A → ResponseValue → Type 0) (b : BatchValue) (one other : Verdict) (result : Result A Fault)
      → (one ≢ Holds → other ≢ Holds) → RespondsByReply b.key one Is result (λ r. AppliesBy model true mid b r new) (ByCalls model mid new)
      → RespondsByReply b.key other Is result (λ r. AppliesBy model true old b r new) (ByCalls model old new)
  later_batch new Is b one other (Ok r) differs says = elim says [
    | inl it ↦ inl (it.0, it.1, (it.2.0, calls_then model old mid it.2.0 (by_call read.call) it.2.1, it.2.2), it.3, it.4)
    | inr it ↦ inr (differs it.0, calls_then model old mid new (by_call read.call) it.1, it.2)
  ]
  later_batch new Is b one other (Err fault) differs says = elim says [
    | inl it ↦ inl (it.0, calls_then model old mid it.0 (by_call read.call) it.1, it.2)
    | inr it ↦ inr (calls_then model old mid new (by_call read.call) it)
  ]

  module _ {A : Type 0} {new : K} {Is : A → ResponseValue → Type 0} (root : Text) (operation : OperationValue) (n : ℕ) (result : Result A Fault) where
    -- with another verdict that comes to the same in what was read
    pub judged_then : (one other : Verdict)
        → ((s : State) → Shows s x → (judged root s operation one ≡ judged root s operation other) × (state_by s operation one ≡ state_by s operation other))
        → (one ≢ Holds → other ≢ Holds) → RespondsBy model root operation one n Is mid new result → RespondsBy model root operation other n Is old new result
    judged_then one other same differs says = record {
      calls = calls_then model old mid new (by_call read.call) says.calls;
      in_state = λ clean s h tag.
          let seen = read.reads (says.calls.began_clean clean) s h in
          let alike = same s seen.0 in
          let here = says.in_state clean s seen.1 tag in
          let answered = subst (λ (r : ResponseValue). RespondsIn model s operation r (state_by s operation one) Is mid new result) alike.0 here in
          later_in new Is s (state_by s operation other) operation (judged root s operation other) result says.calls
          (subst (λ (t : State). RespondsIn model s operation (judged root s operation other) t Is mid new result) alike.1 answered);
      shut = λ why e. open_not_shut _ why read.call.faults.0 e;
      any = says.any;
      to_batch = λ b e. later_batch new Is b one other result differs (says.to_batch b e);
    }

-- ---- a read that failed

module _ {K T : Type 0} {model : Model K} {old new : K} {Shows : State → T → Type 0} (fault : Fault) (read : IsRead {T = T} model old new (Err fault) Shows)
    (root : Text) (operation : OperationValue) (needed : needs_state operation ≡ true) where
  pub failed_judged : (verdict : Verdict) (n : ℕ) → RespondsBy {A = Response} model root operation verdict n IsResponse old new (Err fault)
  failed_judged verdict n = record {
    calls = by_call read.call;
    in_state = λ clean s h tag. read_in root operation needed fault s (state_by s operation verdict) (Shows s) read.call (read.reads clean s h);
    shut = λ why e. shut_by root operation needed fault why (needed_shut root operation needed) e read.call;
    any = any_by root operation needed fault read.call;
    to_batch = λ b e. inr (by_call read.call);
  }

-- ---- a batch that is held back

-- its key was used
used_alike : (root : Text) (b : BatchValue) (s : State) → is_used s b.key ≡ true
    → (judged root s (batch b) Holds ≡ judged root s (batch b) Changed) × (state_by s (batch b) Holds ≡ state_by s (batch b) Changed)
used_alike root b s used = (
  ap (λ (t : State). tagged (batch_count t) (replied b.key (act s b).reply)) (used_stays s b used)
      ∙ ap (λ (u : Bool). if u then tagged (batch_count s) (replied b.key (act s b).reply) else changed) (sym used),
  used_stays s b used,
)

module _ {K : Type 0} {model : Model K} {old new : K} (root : Text) (b : BatchValue) (n : ℕ) where
  pub used_judged : {mid : K} (key : Text) (used : Bool) (result : Result Response Fault) → key ≡ b.key → used ≡ true → IsRead model old mid (Ok used) (IsKeyUsed key)
      → RespondsBy model root (batch b) Holds n IsResponse mid new result → RespondsBy model root (batch b) Changed n IsResponse old new result
  used_judged key used result same is read says =
      judged_then read root (batch b) n result Holds Changed (λ s shown. used_alike root b s (ap (is_used s) (sym same) ∙ sym shown ∙ is)) (λ no. absurd (no refl)) says

  -- for another verdict under which the batch is not acted on
  pub held_judged : (verdict : Verdict) (result : Result Response Fault) → (verdict ≡ NotModified) ⊎ (verdict ≡ Changed)
      → RespondsBy model root (batch b) Changed n IsResponse old new result → RespondsBy model root (batch b) verdict n IsResponse old new result
  held_judged verdict result (inl is) says = subst (λ (v : Verdict). RespondsBy model root (batch b) v n IsResponse old new result) (sym is) (record {
    calls = says.calls;
    in_state = says.in_state;
    shut = says.shut;
    any = says.any;
    to_batch = λ c e. under_modified c.key IsResponse result (λ r. AppliesBy model true old c r new) (ByCalls model old new) (says.to_batch c e);
  })
  held_judged verdict result (inr is) says = subst (λ (v : Verdict). RespondsBy model root (batch b) v n IsResponse old new result) (sym is) says

  -- its key is new
  pub new_judged : (key : Text) (used : Bool) (found : Result Response AllocError) (result : Result Response Fault) → key ≡ b.key → used ≡ false
      → IsRead model old new (Ok used) (IsKeyUsed key) → IfOk found (λ r. response_value r ≡ changed) → IfOk found (λ r. result ≡ Ok r) → OnErr found (result ≡ Err faults.Memory)
      → RespondsBy model root (batch b) Changed n IsResponse old new result
  new_judged key used (Ok r) result at unused read is same none = subst (λ (it : Result Response Fault). RespondsBy model root (batch b) Changed n IsResponse old new it) (sym same) (record {
    calls = by_call read.call;
    in_state = λ clean s h tag.
        let seen = read.reads clean s h in
        let fresh : false ≡ is_used s b.key = sym unused ∙ seen.0 ∙ ap (is_used s) at in
        (is ∙ ap (λ (u : Bool). if u then tagged (batch_count s) (replied b.key (act s b).reply) else changed) fresh, seen.1);
    shut = λ why e. open_not_shut _ why read.call.faults.0 e;
    any = (changed, (λ plain. absurd (let bad : true ≡ false = plain in cc), λ has_request e. changed_well e), is);
    to_batch = λ c e. inr (changed_differs, by_call read.call, is);
  })
  new_judged key used (Err w) result at unused read is same none = subst (λ (it : Result Response Fault). RespondsBy model root (batch b) Changed n IsResponse old new it) (sym none) (record {
    calls = by_call read.call;
    in_state = λ clean s h tag. (read.reads clean s h).1;
    shut = λ why e. open_not_shut _ why read.call.faults.0 e;
    any = tt;
    to_batch = λ c e. inr (by_call read.call);
  })

-- ---- reads

-- a shut keeper's answer has no tag, and nothing takes its place
tagged_reopen : (n : ℕ) → tagged n (fault_response (Keeper faults.Reopen)) ≡ fault_response (Keeper faults.Reopen)
unfolding fault_response
tagged_reopen n = refl

instead_reopen : (p : ResponseValue) → instead p (fault_response (Keeper faults.Reopen)) ≡ fault_response (Keeper faults.Reopen)
unfolding fault_response
instead_reopen p = refl

placed_so : (n : ℕ) (r : ResponseValue) (verdict : Verdict) → verdict ≢ Holds → instead (in_place_by n verdict) r ≡ read_judged n r verdict
placed_so n r Holds other = absurd (other refl)
placed_so n r NotModified other = refl
placed_so n r Changed other = refl

no_batch : {A : Type 0} (operation : OperationValue) → is_batch operation ≡ false → (b : BatchValue) → operation ≡ batch b → A
no_batch operation read b e = absurd (let bad : false ≡ true = sym read ∙ ap is_batch e in cc)

probe_stays : (s : State) (operation : OperationValue) (verdict : Verdict) → is_batch operation ≡ false → state_in s (probe operation) ≡ state_by s operation verdict
probe_stays s operation verdict read = read_stays s (probe operation) (probe_reads operation read) ∙ sym (read_by s operation verdict read)

fails_in : {K : Type 0} (model : Model K) (old new : K) (operation : OperationValue) (verdict : Verdict) → is_batch operation ≡ false → needs_state operation ≡ true
    → (fault : Fault) (s : State) → FaultsIn model s (probe operation) (state_in s (probe operation)) old new fault
    → FaultsIn model s operation (state_by s operation verdict) old new fault
fails_in model old new operation verdict read needed faults.Memory s says = says
fails_in model old new operation verdict read needed faults.Device s says =
    (needed, says.1, says.2, subst (λ (t : State). LeavesEither (model.may_leave new) (Some s) (Some t)) (probe_stays s operation verdict read) says.3)
fails_in model old new operation verdict read needed faults.Damaged s says = says
fails_in model old new operation verdict read needed faults.Reopen s says = says

fails_shut : (root : Text) (operation : OperationValue) → needs_state operation ≡ true → (fault : Fault) → FaultsShut root (probe operation) fault → FaultsShut root operation fault
fails_shut root operation needed faults.Memory says = says
fails_shut root operation needed faults.Device says = says
fails_shut root operation needed faults.Damaged says = says
fails_shut root operation needed faults.Reopen says = needed_shut root operation needed

fails_any : (operation : OperationValue) → needs_state operation ≡ true → (fault : Fault) (cause : Option Cause) → FaultsAny (probe operation) fault cause
    → FaultsAny operation fault cause
fails_any operation needed faults.Memory cause says = says
fails_any operation needed faults.Device cause says = (needed, says.1)
fails_any operation needed faults.Damaged cause says = (needed, says.1)
fails_any operation needed faults.Reopen cause says = (needed, says.1)

module _ {K : Type 0} {model : Model K} {old new : K} (root : Text) (operation : OperationValue) (n : ℕ)
    (read : is_batch operation ≡ false) (needed : needs_state operation ≡ true) where
  pub tagged_judged : (response with_tag : Response) → Responds model root (plainly operation) IsResponse old new (Ok response)
      → response_value with_tag ≡ tagged n (response_value response) → RespondsBy model root operation Holds n IsResponse old new (Ok with_tag)
  tagged_judged response with_tag says is = record {
    calls = says.calls;
    in_state = λ clean s h tag.
        let here = says.in_state clean s h in
        (is ∙ ap (tagged n) here.0 ∙ ap (λ k. tagged k (response_in root s operation)) tag ∙ sym (read_is_judged root s operation Holds read), here.1);
    shut = λ why e.
        let here = says.shut why e in
        let reopen = needed_shut root operation needed in
        (is ∙ ap (tagged n) (here.0 ∙ reopen) ∙ tagged_reopen n ∙ sym reopen, here.1, here.2);
    any = (
      tagged n says.any.0,
      (λ plain. absurd (let bad : true ≡ false = sym needed ∙ plain in cc), λ has_request e. tagged_well n says.any.0 (says.any.1.1 has_request) e),
      is ∙ ap (tagged n) says.any.2,
    );
    to_batch = λ b e. no_batch operation read b e;
  }

  pub failed_by : (fault : Fault) → Responds {A = Response} model root (plainly operation) IsResponse old new (Err fault)
      → RespondsBy {A = Response} model root operation Holds n IsResponse old new (Err fault)
  failed_by fault says = record {
    calls = says.calls;
    in_state = λ clean s h tag. says.in_state clean s h;
    shut = says.shut;
    any = says.any;
    to_batch = λ b e. no_batch operation read b e;
  }

  module _ (verdict : Verdict) (other : verdict ≢ Holds) where
    pub instead_judged : (response : Response) (found : Result Response AllocError) (result : Result Response Fault)
        → Responds model root (plainly (probe operation)) IsResponse old new (Ok response)
        → IfOk found (λ r. response_value r ≡ instead (in_place_by n verdict) (response_value response))
        → IfOk found (λ r. result ≡ Ok r) → OnErr found (result ≡ Err faults.Memory)
        → RespondsBy model root operation verdict n IsResponse old new result
    instead_judged response (Ok r) result says is same none =
        let q : ResponseValue = in_place_by n verdict in
        subst (λ (it : Result Response Fault). RespondsBy model root operation verdict n IsResponse old new it) (sym same) (record {
          calls = says.calls;
          in_state = λ clean s h tag.
              let here = says.in_state clean s h in
              let asked : ResponseValue = response_in root s operation in (
                is ∙ ap (instead q) here.0 ∙ probe_same root s operation q ∙ placed_so n asked verdict other
                    ∙ ap (λ k. read_judged k asked verdict) tag ∙ sym (read_is_judged root s operation verdict read),
                subst (model.represents new) (probe_stays s operation verdict read) here.1,
              );
          shut = λ why e.
              let here = says.shut why e in (
                is ∙ ap (instead q) (here.0 ∙ needed_shut root (probe operation) (probe_needs operation ∙ needed)) ∙ instead_reopen q ∙ sym (needed_shut root operation needed),
                here.1,
                here.2,
              );
          any = (
            instead q says.any.0,
            (
              λ plain. absurd (let bad : true ≡ false = sym needed ∙ plain in cc),
              λ has_request e. instead_well q says.any.0 (in_place_well n verdict) (says.any.1.1 (probe_needs operation ∙ needed)) e,
            ),
            is ∙ ap (instead q) says.any.2,
          );
          to_batch = λ b e. no_batch operation read b e;
        })
    instead_judged response (Err w) result says is same none =
        subst (λ (it : Result Response Fault). RespondsBy model root operation verdict n IsResponse old new it) (sym none) (record {
          calls = says.calls;
          in_state = λ clean s h tag. subst (model.represents new) (read_stays s (probe operation) (probe_reads operation read)) (says.in_state clean s h).1;
          shut = λ why e.
              let here = says.shut why e in
              (tt, here.1, here.2);
          any = tt;
          to_batch = λ b e. no_batch operation read b e;
        })

    pub failed_probe : (fault : Fault) → Responds {A = Response} model root (plainly (probe operation)) IsResponse old new (Err fault)
        → RespondsBy {A = Response} model root operation verdict n IsResponse old new (Err fault)
    failed_probe fault says = record {
      calls = says.calls;
      in_state = λ clean s h tag. fails_in model old new operation verdict read needed fault s (says.in_state clean s h);
      shut = λ why e.
          let here = says.shut why e in
          (fails_shut root operation needed fault here.0, here.1, here.2);
      any = fails_any operation needed fault (model.cause new) says.any;
      to_batch = λ b e. no_batch operation read b e;
    }
