-- Batches that their texts reproduce, one after the other.
use Rattle.std.proofs.Common.{◌≡◌, ℕ, zero, suc, ◌+◌, ◌<◌, ◌≤◌, Bool, true, false, cond, List, []}
use Rattle.std.proofs.Common.{◌∷◌, ◌++◌, length, map, take, Option, None, Some, option_map}
use Rattle.std.proofs.Common.{Result, Ok, Err, refl, sym, ap, ap₂, subst, ◌∙◌, nat_eq, nat_lt, arith}
use Rattle.std.proofs.Common.{inl, inr, ◌⊎◌, ◌-◌, get_or, length-append}
use Rattle.std.specs.Prelude.{slice_get}
use Rattle.std.specs.Option.{option_to_list}
use Rattle.std.specs.Cmp.Lexicographic.{pointwise, nat_list_cmp_total}
use Rattle.std.specs.FinMap.{get, len, len-empty, same_map}
use Rattle.std.proofs.lemmas.Bool.{cases_lt}
use Rattle.std.proofs.lemmas.List.{map-append, length-map, take_all}
use Rattle.std.proofs.lemmas.Option.{slice_get_read, slice_get-map}
use Rattle.streetmap_batch.specs.ParsedBatches.{batch_of}
use Rattle.streetmap_batch.specs.BatchText.{batch_text}
use Rattle.streetmap_batch.specs.BatchValue.{BatchValue}
use Rattle.streetmap_batch.specs.Text.{Text, text_cmp}
use Rattle.streetmap_batch.specs.declared.batch_fault.BatchFault.{BatchFault}
use Rattle.streetmap_ledger.specs.Kept.{KeyedBatch, batch_count, batch_in, batches_next}
use Rattle.streetmap_ledger.specs.KeptView.{keyed_batch, keyed_batches}
use Rattle.streetmap_ledger.specs.declared.kept_batch.KeptBatch.{KeptBatch}
use Rattle.streetmap_ledger.proofs.AllThere.{kept_there}
use Rattle.streetmap_ledger.proofs.Nexts.{nexts_short, last_next, at_most}
use Rattle.streetmap_ledger.proofs.Serials.{found_of as found_under_key, found_under}
use Rattle.streetmap_ledger.specs.Batches.{Outcome, act, by_key, counts_of, edited, fresh, kept_for}
use Rattle.streetmap_ledger.specs.Batches.{most_batches}
use Rattle.streetmap_ledger.specs.Laws.{is_accepted}
use Rattle.streetmap_ledger.specs.State.{State, AcceptedBatch, opening_state}
use Rattle.streetmap_ledger.specs.WellFormed.{IsState}
use Rattle.streetmap_ledger.specs.declared.reply.Counts.{Counts}
use Rattle.streetmap_ledger.specs.declared.reply.Refusal.{Refusal}
use Rattle.streetmap_ledger.specs.declared.reply.Reply.{Reply}
use Rattle.streetmap_ledger.specs.declared.reply.Reply.TheVariants.{Accepted, Repeated, Refused}
use Rattle.streetmap_ledger.proofs.Repeat.{either, act_keeps}
use Rattle.streetmap_ledger.proofs.TextMaps.{one_text}
use Rattle.streetmap_replay.specs.FollowedLines.{Arrives, unless_refused, acted}
use Rattle.streetmap_replay.specs.FollowedLines.{goes_on, follow}
use Rattle.streetmap_replay.specs.Journal.{journal, kept_text}
use Rattle.streetmap_replay.specs.Lines.{Line, bare}
use Rattle.streetmap_replay.proofs.Accepted.{added}
use Rattle.streetmap_replay.proofs.AllThere.{journal_is_whole}
use Rattle.streetmap_replay.proofs.Replays.{follow_on}
use Rattle.streetmap_replay.specs.Given.{found_of, read_of, given_by, state_by, given_again}
use Rattle.streetmap_replay.specs.Given.{GivesFirst, GivesAll, BreaksAt}

-- ---- the reply to a batch that is accepted

abbrev ReportsOutcome : State → BatchValue → Outcome → Type 0
ReportsOutcome s b o = (counts : Counts) (serial : ℕ) → o.reply ≡ Accepted counts serial →
    (counts ≡ counts_of b.edits) × (serial ≡ len s.keys + 1)

fresh_reported : (s : State) (b : BatchValue) (r : Result State (ℕ × Refusal)) →
    ReportsOutcome s b (fresh s b (len s.keys + 1) r)
fresh_reported s b (Ok t) counts serial e = (cc, cc)
fresh_reported s b (Err x) counts serial e = absurd cc

by_key_reported : (s : State) (b : BatchValue) (o : Option AcceptedBatch) → ReportsOutcome s b (by_key s b o)
by_key_reported s b (Some kept) =
    either (ReportsOutcome s b) (pointwise nat_eq kept.text (batch_text b)) _ _ (λ counts serial e. absurd cc)
    (λ counts serial e. absurd cc)
by_key_reported s b None =
    either (ReportsOutcome s b) (nat_lt (len s.keys) most_batches) _ _
    (fresh_reported s b (edited 1 s b.edits)) (λ counts serial e. absurd cc)

reported : (s : State) (b : BatchValue) → ReportsOutcome s b (act s b)
reported s b = by_key_reported s b (get s.keys b.key)

-- ---- one text

abbrev pub row_with : BatchValue → Counts → ℕ → KeyedBatch
row_with b counts serial =
    (b.key, record { text = batch_text b; counts = counts; serial = serial })

accepted_given : (t : State) (b : BatchValue) (counts : Counts) (serial : ℕ) →
    (act t b).reply ≡ Accepted counts serial →
    given_by t (Some b) ≡ Some (row_with b counts serial)
accepted_given t b counts serial e =
    let is = reported t b counts serial e in
    ap (λ (r : Reply). cond (is_accepted r) (Some (b.key, kept_for b (len t.keys + 1))) None) e
    ∙ ap₂ (λ (n : Counts) (k : ℕ). Some (row_with b n k)) (sym is.0) (sym is.1)

pub row_is : (t : State) (b : BatchValue) (counts : Counts) (serial : ℕ) (batch : KeyedBatch)
    (read : Option BatchValue) → read ≡ Some b → (act t b).reply ≡ Accepted counts serial →
    batch ≡ row_with b counts serial → given_by t read ≡ Some batch
row_is t b counts serial batch read is e same =
    ap (given_by t) is ∙ (accepted_given t b counts serial e
    ∙ ap (λ (x : KeyedBatch). Some x) (sym same))

pub not_accepted : (t : State) (b : BatchValue) (batch : KeyedBatch) (reply : Reply)
    (read : Option BatchValue) → read ≡ Some b → (act t b).reply ≡ reply →
    is_accepted reply ≡ false → given_by t read ≡ Some batch → ⊥
not_accepted t b batch reply read is e not h =
    let row = λ (r : Bool). cond {A = Option KeyedBatch} r
    (Some (b.key, kept_for b (len t.keys + 1))) None in
    let none : given_by t read ≡ None =
    ap (given_by t) is ∙ (ap (λ (r : Reply). row (is_accepted r)) e ∙ ap row not) in
    let both : None ≡ Some batch = sym none ∙ h in
    absurd cc

pub not_read : (t : State) (batch : KeyedBatch) (read : Option BatchValue) → read ≡ None →
    given_by t read ≡ Some batch → ⊥
not_read t batch None is h = absurd cc
not_read t batch (Some b) is h = absurd cc

pub same_state : (t : State) (b : BatchValue) (read : Option BatchValue) → read ≡ Some b →
    (act t b).state ≡ state_by t read
same_state t b read is = ap (state_by t) (sym is)

-- ---- one after the other

pub begins : (s : State) → IsState s → GivesFirst s 0 opening_state
begins s sound = record {
  within = omega arith;
  followed = record { there = refl; whole = refl };
  kept = λ key k found low.
      (let one = sound.from_one key k found in absurd (omega (arith, low, one)));
  count = len-empty text_cmp AcceptedBatch;
}

pub line_at : (s : State) → IsState s → (n : ℕ) (batch : KeyedBatch) →
    batch_in s (n + 1) ≡ Some batch → slice_get (journal s) n ≡ Some batch.1.text
line_at s sound n batch there =
    sym ((journal_is_whole s sound).1 n) ∙ ap (option_map kept_text) there

take_line : {A : Type 0} (n : ℕ) (xs : List A) (x : A) → slice_get xs n ≡ Some x →
    take (n + 1) xs ≡ take n xs ++ x ∷ []
take_line n xs x h = let next : n + 1 ≡ suc n = omega arith in
    ap (λ (m : ℕ). take m xs) next ∙ by n xs x h
  where
    by : {A : Type 0} (n : ℕ) (xs : List A) (x : A) → slice_get xs n ≡ Some x →
        take (suc n) xs ≡ take n xs ++ x ∷ []
    by n [] x h = absurd cc
    by zero (y ∷ ys) x h = let same : y ≡ x = cc in ap (λ z. z ∷ []) same
    by (suc n) (y ∷ ys) x h = ap (λ l. y ∷ l) (by n ys x h)

-- the line of a batch that is accepted
accepted_by : (t : State) (b : BatchValue) (r : Reply) → is_accepted r ≡ true → (u : State) →
    Arrives (goes_on t (unless_refused u r) (λ v. follow v [])) u
accepted_by t b (Accepted counts serial) e u = record { there = refl; whole = refl }
accepted_by t b (Repeated counts serial) e u = absurd cc
accepted_by t b (Refused why place) e u = absurd cc

accepted_line : (t : State) (b : BatchValue) (text : Text) → batch_of text ≡ Ok b →
    is_accepted (act t b).reply ≡ true → Arrives (follow t (bare text ∷ [])) (act t b).state
accepted_line t b text is e =
    subst (λ (r : Result BatchValue BatchFault).
    Arrives (goes_on t (acted t r) (λ v. follow v [])) (act t b).state) (sym is)
    (accepted_by t b (act t b).reply e (act t b).state)

module _ (s : State) (sound : IsState s) (n : ℕ) (t : State) (first : GivesFirst s n t)
    (batch : KeyedBatch) (there : batch_in s (n + 1) ≡ Some batch) where
  -- the batch is accepted
  module _ (b : BatchValue) (is : batch_of batch.1.text ≡ Ok b)
      (e : is_accepted (act t b).reply ≡ true)
      (same : (b.key, kept_for b (len t.keys + 1)) ≡ batch) where
    u : State
    u = (act t b).state

    kept_further : (key : Text) (k : AcceptedBatch) → get s.keys key ≡ Some k →
        k.serial ≤ n + 1 → get (act t b).state.keys key ≡ Some k
    kept_further key k found low = by (cases_lt n k.serial) where
      by : (n < k.serial) ⊎ (k.serial ≤ n) → get (act t b).state.keys key ≡ Some k
      by (inr less) = act_keeps t b key k (first.kept key k found less)
      by (inl more) =
          let next : k.serial ≡ n + 1 = omega (arith, more, low) in
          let one : Some (key, k) ≡ Some batch =
          sym (found_under_key s key k sound found) ∙ (ap (batch_in s) next ∙ there) in
          let row : (b.key, kept_for b (len t.keys + 1)) ≡ (key, k) = cc in
          let its_key : b.key ≡ key = ap (λ (x : KeyedBatch). x.0) row in
          let its_kept : kept_for b (len t.keys + 1) ≡ k = ap (λ (x : KeyedBatch). x.1) row in
          ap (get (act t b).state.keys) (sym its_key)
          ∙ ((added t b e).kept ∙ ap (λ (x : AcceptedBatch). Some x) its_kept)

    further : GivesFirst s (n + 1) (act t b).state
    further =
        let at = line_at s sound n batch there in
        let under = found_under s (n + 1) batch there in
        let most = sound.to_count batch.0 batch.1 under.0 in
        let serial = under.1 in
        let more = (added t b e).more in
        let count = first.count in
        record {
          within = omega (arith, most, serial);
          followed = subst (λ (ls : List Line). Arrives (follow opening_state ls) (act t b).state)
              (sym (ap (map bare) (take_line n (journal s) batch.1.text at)
              ∙ map-append bare (take n (journal s)) (batch.1.text ∷ [])))
              (follow_on t (act t b).state (map bare (take n (journal s)))
              (bare batch.1.text ∷ []) (accepted_line t b batch.1.text is e) opening_state
              first.followed);
          kept = kept_further;
          count = omega (arith, more, count);
        }

  further_by : (b : BatchValue) → batch_of batch.1.text ≡ Ok b → (r : Bool) →
      is_accepted (act t b).reply ≡ r →
      cond r (Some (b.key, kept_for b (len t.keys + 1))) None ≡ Some batch →
      GivesFirst s (n + 1) (act t b).state
  further_by b is true e h =
      let same : (b.key, kept_for b (len t.keys + 1)) ≡ batch = cc in further b is e same
  further_by b is false e h = absurd cc

  pub goes_further : given_again t batch ≡ Some batch →
      GivesFirst s (n + 1) (state_by t (read_of batch.1.text))
  goes_further h = by (batch_of batch.1.text) refl h where
    by : (r : Result BatchValue BatchFault) → batch_of batch.1.text ≡ r →
        given_by t (found_of r) ≡ Some batch →
        GivesFirst s (n + 1) (state_by t (found_of r))
    by (Ok b) is h = further_by b is (is_accepted (act t b).reply) refl h
    by (Err fault) is h = absurd cc

  pub stops : (serial : ℕ) → serial ≡ n + 1 → (given_again t batch ≡ Some batch → ⊥) →
      BreaksAt s serial
  stops serial is other = record {
    before = n;
    next = is;
    state = t;
    first = first;
    batch = batch;
    there = ap (batch_in s) is ∙ there;
    other = other;
  }

-- ---- parts of the kept batches

get_first : {A : Type 0} (xs ys : List A) (i : ℕ) → i < length xs →
    slice_get (xs ++ ys) i ≡ slice_get xs i
get_first [] ys i low = absurd (omega (arith, low))
get_first (x ∷ xs) ys zero low = refl
get_first (x ∷ xs) ys (suc i) low = get_first xs ys i (omega (arith, low))

-- one of the next batches, if as many exist as were requested
nth_by : (s : State) (n k i : ℕ) (b : KeyedBatch) → length (batches_next s n (suc k)) ≡ suc k →
    i < suc k → slice_get (batches_next s n (suc k)) i ≡ Some b →
    (length (batches_next s n k) ≡ k → i < k → slice_get (batches_next s n k) i ≡ Some b →
    batch_in s (n + suc i) ≡ Some b) → (i < k) ⊎ (k ≤ i) → batch_in s (n + suc i) ≡ Some b
nth_by s n k i b full low at rest (inl less) =
    let last = option_to_list (batch_in s (n + suc k)) in
    let size = length-append (batches_next s n k) last in
    let one = at_most (batch_in s (n + suc k)) in
    let short = nexts_short s n k in
    let long : length (batches_next s n k) ≡ k = omega (arith, full, size, one, short) in
    rest long less (sym (get_first (batches_next s n k) last i (omega (arith, long, less))) ∙ at)
nth_by s n k i b full low at rest (inr more) =
    let same : i ≡ k = omega (arith, low, more) in
    let here = ap (slice_get (batches_next s n (suc k))) (sym same) ∙ at in
    ap (λ (j : ℕ). batch_in s (n + suc j)) same ∙ last_next s n k b full here

nth_next : (s : State) (n k i : ℕ) (b : KeyedBatch) → length (batches_next s n k) ≡ k → i < k →
    slice_get (batches_next s n k) i ≡ Some b → batch_in s (n + suc i) ≡ Some b
nth_next s n zero i b full low at = absurd (omega (arith, low))
nth_next s n (suc k) i b full low at =
    nth_by s n k i b full low at (λ long less there. nth_next s n k i b long less there)
    (cases_lt i k)

-- a batch of a part
pub in_part : (s : State) (n i : ℕ) (part : List KeptBatch) (a : KeptBatch) →
    keyed_batches part ≡ batches_next s n (length part) → i < length part → a ≡ get_or part i a →
    batch_in s (n + i + 1) ≡ Some (keyed_batch a)
in_part s n i part a are low is =
    let size = length-map part keyed_batch in
    let long : length (batches_next s n (length part)) ≡ length part =
    sym (ap length are) ∙ size in
    let at : slice_get (keyed_batches part) i ≡ Some (keyed_batch a) =
    slice_get-map keyed_batch part i
    ∙ ap (option_map keyed_batch) (slice_get_read part (length part) i a refl low is) in
    let next : n + i + 1 ≡ n + suc i = omega arith in
    ap (batch_in s) next ∙ nth_next s n (length part) i (keyed_batch a) long low
    (ap (λ (l : List KeyedBatch). slice_get l i) (sym are) ∙ at)

last_at : {A : Type 0} (xs : List A) (x : A) → slice_get xs (length xs - 1) ≡ Some x →
    length xs ≡ suc (length xs - 1)
last_at [] x h = absurd cc
last_at (y ∷ xs) x h = omega arith

-- the last one of a part
pub last_serial : (s : State) (n : ℕ) (part : List KeptBatch) (a : KeptBatch) →
    keyed_batches part ≡ batches_next s n (length part) →
    slice_get part (length part - 1) ≡ Some a → a.serial ≡ n + length part
last_serial s n part a are at =
    let j = length part - 1 in
    let long = last_at part a at in
    let size : length (batches_next s n (length part)) ≡ length part =
    sym (ap length are) ∙ length-map part keyed_batch in
    let full : length (batches_next s n (suc j)) ≡ suc j =
    ap (λ (k : ℕ). length (batches_next s n k)) (sym long) ∙ (size ∙ long) in
    let here : slice_get (batches_next s n (suc j)) j ≡ Some (keyed_batch a) =
    ap (λ (k : ℕ). slice_get (batches_next s n k) j) (sym long)
    ∙ (ap (λ (l : List KeyedBatch). slice_get l j) (sym are)
    ∙ (slice_get-map keyed_batch part j ∙ ap (option_map keyed_batch) at)) in
    let serial = (found_under s (n + suc j) (keyed_batch a)
    (last_next s n j (keyed_batch a) full here)).1 in
    omega (arith, serial, long)

pub part_are : (s : State) (n : ℕ) (part : List KeptBatch) →
    keyed_batches part ≡ batches_next s n (length (keyed_batches part)) →
    keyed_batches part ≡ batches_next s n (length part)
part_are s n part are = are ∙ ap (batches_next s n) (length-map part keyed_batch)

pub none_last : {A : Type 0} (xs : List A) → slice_get xs (length xs - 1) ≡ None → xs ≡ []
none_last [] h = refl
none_last (x ∷ xs) h = absurd (no_last (length xs) x xs refl h) where
  there : {A : Type 0} (n : ℕ) (x : A) (xs : List A) → length xs ≡ n →
      slice_get (x ∷ xs) n ≡ None → ⊥
  there zero x xs long h = absurd cc
  there (suc n) x [] long h = absurd (omega (arith, long))
  there (suc n) x (y ∷ xs) long h = there n y xs (omega (arith, long)) h

  no_last : {A : Type 0} (n : ℕ) (x : A) (xs : List A) → length xs ≡ n →
      slice_get (x ∷ xs) (suc n - 1) ≡ None → ⊥
  no_last n x xs long h =
      let at : suc n - 1 ≡ n = omega arith in
      there n x xs long (ap (slice_get (x ∷ xs)) (sym at) ∙ h)

pub at_count : (s t : State) (n m : ℕ) → n ≡ m → GivesFirst s n t → GivesFirst s m t
at_count s t n m same first = subst (λ (k : ℕ). GivesFirst s k t) same first

-- ---- all of them

module _ (s : State) (sound : IsState s) (n : ℕ) (t : State) (after : IsState t)
    (first : GivesFirst s n t) (no_more : batch_count s ≤ n) where
  -- what the second keeps is kept by the first
  kept_back : (q : Text) (v : AcceptedBatch) → get t.keys q ≡ Some v → get s.keys q ≡ Some v
  kept_back q v found =
      let one = after.from_one q v found in
      let most = after.to_count q v found in
      let count = first.count in
      let within = first.within in
      let it = kept_there s sound v.serial one (omega (arith, most, count, within)) in
      let under = found_under s v.serial it.0 it.1 in
      let serial = under.1 in
      let there = first.kept it.0.0 it.0.1 under.0 (omega (arith, serial, most, count)) in
      let named : q ≡ it.0.0 = after.one_each q it.0.0 v it.0.1 found there (sym serial) in
      let both : Some v ≡ Some it.0.1 = sym found ∙ (ap (get t.keys) named ∙ there) in
      let same : v ≡ it.0.1 = cc in
      ap (get s.keys) named ∙ (under.0 ∙ ap (λ (x : AcceptedBatch). Some x) (sym same))

  kept_by : (q : Text) (o p : Option AcceptedBatch) → get s.keys q ≡ o → get t.keys q ≡ p → p ≡ o
  kept_by q (Some k) p e f =
      let most = sound.to_count q k e in
      sym f ∙ first.kept q k e (omega (arith, most, no_more))
  kept_by q None None e f = refl
  kept_by q None (Some v) e f =
      let both : None ≡ Some v = sym e ∙ kept_back q v f in absurd cc

  pub ends : GivesAll s t
  ends =
      let long = (journal_is_whole s sound).0 in
      record {
        followed = subst (λ (ts : List Text). Arrives (follow opening_state (map bare ts)) t)
            (take_all n (journal s) (omega (arith, long, no_more))) first.followed;
        keys = same_map nat_list_cmp_total one_text t.keys s.keys
            (λ q. kept_by q (get s.keys q) (get t.keys q) refl refl);
      }
