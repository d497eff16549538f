-- The collections of two states, by their descriptions.
use Rattle.std.proofs.Common.{◌≡◌, ℕ, zero, suc, ◌+◌, ◌<◌, Bool, true, false, ◌||◌, List, []}
use Rattle.std.proofs.Common.{◌∷◌, ◌++◌, All, length, map, take, get_or, Option, None, Some, refl}
use Rattle.std.proofs.Common.{option_map, sym, ap, subst, ◌∙◌, arith, Result, Ok, Err, IsTrue}
use Rattle.std.specs.Prelude.{slice_get, bytes_eq, IfSome, IfOk, string_bytes}
use Rattle.std.specs.Bool.{Decides}
use Rattle.std.specs.List.{list_any}
use Rattle.std.specs.Cmp.Lexicographic.{nat_list_cmp_total}
use Rattle.std.specs.FinMap.{get, entries, values, same_map}
use Rattle.std.proofs.lemmas.List.{length-map, take_all}
use Rattle.std.proofs.lemmas.List.Elements.{All-nil, All-cons, All-head, All-tail, All-append, All-map}
use Rattle.std.proofs.lemmas.Option.{slice_get_read, slice_get-map}
use Rattle.streetmap_batch.specs.Text.{Text}
use Rattle.streetmap_ledger.specs.State.{State, Collection}
use Rattle.streetmap_ledger.specs.Summaries.{SummaryValue, summary_of, summary_in, summaries_in}
use Rattle.streetmap_ledger.specs.SummaryView.{summary_value, summary_values}
use Rattle.streetmap_ledger.specs.WellFormed.{IsState}
use Rattle.streetmap_ledger.specs.declared.summary.Summary.{Summary}
use Rattle.streetmap_ledger.proofs.TextMaps.{one_text}
use Rattle.streetmap_replay.proofs.ItemsByPlace.{get_map, get_low}
use Rattle.streetmap_replay.specs.Alike.{AreSame, IsSame, Differs, Compares}
use Rattle.streetmap_replay.specs.Alike.{IsUnlike, is_named}
use Rattle.streetmap_replay.specs.Stops.{kept_end, fresh_end, IsStop}
use Rattle.streetmap_replay.specs.declared.fault.ReplayFault.{ReplayFault}
use Rattle.streetmap_replay.specs.declared.fault.ReplayFault.TheVariants.{Kept, Fresh, Memory}
use Rattle.streetmap_replay.specs.declared.fault.ReplayFault.TheVariants.{Batch, Collection as Other}
use Rattle.streetmap_replay.proofs.TextMaps.{at_place, of_key, has_key, has_key_found, no_key_none}
use Rattle.streetmap_replay.proofs.Pages.{same_collection}

-- ---- comparisons

pub decided_as : (P Q : Type 0) (r : Result Bool ReplayFault) → (P → Q) → (Q → P) → IfOk r (λ b. Decides b P) → IfOk r (λ b. Decides b Q)
decided_as P Q (Ok b) to of h = (λ yes. to (h.0 yes), λ q. h.1 (of q))
decided_as P Q (Err stop) to of h = h

pub compares_as : (s t : State) (P Q : Type 0) (fault : ReplayFault) → Compares {T = Unit {0}} s t P (Err fault) → Compares {T = Unit {0}} s t Q (Err fault)
compares_as s t P Q (Kept fault) h = h
compares_as s t P Q (Fresh fault) h = h
compares_as s t P Q Memory h = h
compares_as s t P Q (Batch serial) h = h
compares_as s t P Q (Other name) h = h

-- a comparison that did not complete
pub stop_compares : (s t : State) (Same : Type 0) (fault : ReplayFault) → IsStop fault → Compares {T = Unit {0}} s t Same (Err fault)
stop_compares s t Same (Kept fault) is = tt
stop_compares s t Same (Fresh fault) is = tt
stop_compares s t Same Memory is = tt
stop_compares s t Same (Batch serial) is = absurd is
stop_compares s t Same (Other name) is = absurd is

-- a collection differs: no keeper failed
pub unlike_kept : (name : Text) (fault : ReplayFault) → IsUnlike name fault → kept_end {T = Unit {0}} (Err fault) ≡ None
unlike_kept name (Kept fault) is = absurd is
unlike_kept name (Fresh fault) is = absurd is
unlike_kept name Memory is = refl
unlike_kept name (Batch serial) is = absurd is
unlike_kept name (Other text) is = refl

pub unlike_fresh : (name : Text) (fault : ReplayFault) → IsUnlike name fault → fresh_end {T = Unit {0}} (Err fault) ≡ None
unlike_fresh name (Kept fault) is = absurd is
unlike_fresh name (Fresh fault) is = absurd is
unlike_fresh name Memory is = refl
unlike_fresh name (Batch serial) is = absurd is
unlike_fresh name (Other text) is = refl

pub unlike_compares : (s t : State) (Same : Type 0) (name : Text) (fault : ReplayFault) → IsUnlike name fault → ((text : Text) → text ≡ name → Differs s t text)
    → Compares {T = Unit {0}} s t Same (Err fault)
unlike_compares s t Same name (Kept fault) is differs = tt
unlike_compares s t Same name (Fresh fault) is differs = tt
unlike_compares s t Same name Memory is differs = tt
unlike_compares s t Same name (Batch serial) is differs = absurd is
unlike_compares s t Same name (Other text) is differs = differs (string_bytes text) is

-- ---- one collection

-- a collection with this description
pub record IsReported (s : State) (name : Text) (a : SummaryValue) : Type 0 where
  pub collection : Collection
  pub there : get s.collections name ≡ Some collection
  pub title : a.title ≡ collection.title
  pub time : a.time ≡ collection.time

pub reported_of : (s : State) (name : Text) (a : SummaryValue) → summary_in s name ≡ Some a →
    IsReported s name a
reported_of s name a h = by (get s.collections name) refl h where
  by : (o : Option Collection) → get s.collections name ≡ o →
      option_map (summary_of name) o ≡ Some a → IsReported s name a
  by None is e = absurd cc
  by (Some c) is e =
      let same : summary_of name c ≡ a = cc in
      record {
        collection = c;
        there = is;
        title = ap (λ (x : SummaryValue). x.title) (sym same);
        time = ap (λ (x : SummaryValue). x.time) (sym same);
      }

pub same_by_features : (s t : State) (name : Text) (c d : Collection) → IsState s → IsState t →
    get s.collections name ≡ Some c → get t.collections name ≡ Some d → c.title ≡ d.title →
    c.time ≡ d.time → (values c.features ≡ values d.features → IsSame s t name)
    × (IsSame s t name → values c.features ≡ values d.features)
same_by_features s t name c d sound after there here title time = (
  same_collection s t name c d sound after there here title time,
  λ same. (
      let both : Some c ≡ Some d = sym there ∙ (same ∙ here) in
      let one : c ≡ d = cc in ap (λ (x : Collection). values x.features) one
      ),
)

-- ---- a collection at a place

pub record Place (s : State) (i : ℕ) (a : Summary) : Type 0 where
  pub entry : Text × Collection
  pub at : slice_get (entries s.collections) i ≡ Some entry
  pub named : entry.0 ≡ string_bytes a.id
  pub reported : summary_in s (string_bytes a.id) ≡ Some (summary_value a)

place_by : (s : State) (ours : List Summary) (i : ℕ) (a : Summary) →
    summary_values ours ≡ summaries_in s → slice_get ours i ≡ Some a → Place s i a
place_by s ours i a reported at =
    let value : slice_get (summaries_in s) i ≡ Some (summary_value a) =
    ap (λ (l : List SummaryValue). slice_get l i) (sym reported)
    ∙ (slice_get-map summary_value ours i ∙ ap (option_map summary_value) at) in
    let it = get_map (λ (e : Text × Collection). summary_of e.0 e.1) (entries s.collections) i
    (summary_value a) value in
    let e = it.0 in
    let name : e.0 ≡ string_bytes a.id = ap (λ (x : SummaryValue). x.id) (sym it.2) in
    let there : get s.collections e.0 ≡ Some e.1 = at_place s.collections i e it.1 in
    record {
      entry = e;
      at = it.1;
      named = name;
      reported = subst (λ (q : Text). summary_in s q ≡ Some (summary_value a)) name
          (ap (option_map (summary_of e.0)) there ∙ ap (λ (x : SummaryValue). Some x) (sym it.2));
    }

pub place_of : (s : State) (ours : List Summary) (i : ℕ) (a : Summary) →
    summary_values ours ≡ summaries_in s → i < length ours → a ≡ get_or ours i a → Place s i a
place_of s ours i a reported low is =
    place_by s ours i a reported (slice_get_read ours (length ours) i a refl low is)

-- ---- one after the other

take_entry : {A : Type 0} (n : ℕ) (xs : List A) (x : A) → slice_get xs n ≡ Some x →
    take (suc n) xs ≡ take n xs ++ x ∷ []
take_entry n [] x h = absurd cc
take_entry zero (y ∷ ys) x h = let same : y ≡ x = cc in ap (λ z. z ∷ []) same
take_entry (suc n) (y ∷ ys) x h = ap (λ l. y ∷ l) (take_entry n ys x h)

pub one_more : (s t : State) (i : ℕ) (a : Summary) → Place s i a →
    AreSame s t (take i (entries s.collections)) → IsSame s t (string_bytes a.id) →
    AreSame s t (take (i + 1) (entries s.collections))
one_more s t i a place before same =
    let P = λ (e : Text × Collection). IsSame s t e.0 in
    let next : i + 1 ≡ suc i = omega arith in
    subst (λ (l : List (Text × Collection)). All P l)
    (sym (ap (λ (n : ℕ). take n (entries s.collections)) next
    ∙ take_entry i (entries s.collections) place.entry place.at))
    (All-append P (take i (entries s.collections)) (place.entry ∷ []) before
    (All-cons P place.entry [] (subst (λ (q : Text). IsSame s t q) (sym place.named) same)
    (All-nil P)))

pub differs_at : (s t : State) (i : ℕ) (a : Summary) (name : Text) → Place s i a →
    AreSame s t (take i (entries s.collections)) → name ≡ string_bytes a.id →
    (IsSame s t (string_bytes a.id) → ⊥) → Differs s t name
differs_at s t i a name place before is other = record {
  other = λ same. other (subst (λ (q : Text). IsSame s t q) is same);
  place = i;
  before = before;
  here = subst (λ (o : Option (Text × Collection)). IfSome o (λ e. e.0 ≡ name)) (sym place.at)
      (place.named ∙ sym is);
}

pub all_places : (s t : State) (ours : List Summary) → summary_values ours ≡ summaries_in s →
    AreSame s t (take (length ours) (entries s.collections)) →
    AreSame s t (entries s.collections)
all_places s t ours reported h =
    let mine = length-map ours summary_value in
    let its = length-map (entries s.collections)
    (λ (e : Text × Collection). summary_of e.0 e.1) in
    let size = ap length reported in
    subst (λ (l : List (Text × Collection)). All (λ e. IsSame s t e.0) l)
    (take_all (length ours) (entries s.collections) (omega (arith, mine, its, size))) h

-- ---- collections of the second alone

-- one of the described collections has this id
reported_named : (xs : List Summary) (q : Text) →
    is_named q xs ≡ list_any (λ (a : SummaryValue). bytes_eq a.id q) (summary_values xs)
reported_named [] q = refl
reported_named (x ∷ xs) q = ap (λ b. bytes_eq (string_bytes x.id) q || b) (reported_named xs q)

named_key : (es : List (Text × Collection)) (q : Text) →
    list_any (λ (a : SummaryValue). bytes_eq a.id q)
    (map (λ (e : Text × Collection). summary_of e.0 e.1) es) ≡ has_key q es
named_key [] q = refl
named_key (e ∷ es) q = ap (λ b. bytes_eq e.0 q || b) (named_key es q)

is_key : (s : State) (ours : List Summary) (q : Text) → summary_values ours ≡ summaries_in s →
    is_named q ours ≡ has_key q (entries s.collections)
is_key s ours q reported =
    reported_named ours q
    ∙ (ap (list_any (λ (a : SummaryValue). bytes_eq a.id q)) reported
    ∙ named_key (entries s.collections) q)

past : {A : Type 0} (xs : List A) → slice_get xs (length xs) ≡ None
past [] = refl
past (x ∷ xs) = past xs

pub differs_alone : (s t : State) (ours theirs : List Summary) (place : ℕ) (a : Summary)
    (name : Text) → summary_values ours ≡ summaries_in s → summary_values theirs ≡ summaries_in t →
    slice_get theirs place ≡ Some a →
    is_named (string_bytes a.id) ours ≡ false →
    AreSame s t (entries s.collections) → name ≡ string_bytes a.id → Differs s t name
differs_alone s t ours theirs place a name reported its at alone all is =
    let it = place_by t theirs place a its at in
    let there = at_place t.collections place it.entry it.at in
    let none : get s.collections (string_bytes a.id) ≡ None =
    no_key_none s.collections (string_bytes a.id)
    (sym (is_key s ours (string_bytes a.id) reported) ∙ alone) in
    record {
      other = λ same. (
          let here : get t.collections (string_bytes a.id) ≡ Some it.entry.1 =
          ap (get t.collections) (sym it.named) ∙ there in
          let both : None ≡ Some it.entry.1 =
          sym none ∙ (ap (get s.collections) (sym is) ∙ (same ∙ (ap (get t.collections) is ∙ here)))
          in absurd cc
          );
      place = length (entries s.collections);
      before = subst (λ (l : List (Text × Collection)). All (λ e. IsSame s t e.0) l)
          (sym (take_all (length (entries s.collections)) (entries s.collections) (omega arith)))
          all;
      here = subst (λ (o : Option (Text × Collection)). IfSome o (λ e. e.0 ≡ name))
          (sym (past (entries s.collections))) tt;
    }

-- one that was found among those of the second
abbrev pub IsAlone : List Summary → List Summary → ℕ → Type 0
IsAlone ours theirs place =
    (other : Summary) × (slice_get theirs place ≡ Some other)
    × (is_named (string_bytes other.id) ours ≡ false)

pub alone_differs : (s t : State) (ours theirs our_list their_list : List Summary) (place : ℕ)
    (a : Summary) (name : Text) → summary_values ours ≡ summaries_in s →
    summary_values theirs ≡ summaries_in t → our_list ≡ ours → their_list ≡ theirs →
    IsAlone our_list their_list place → a ≡ get_or theirs place a →
    AreSame s t (entries s.collections) → name ≡ string_bytes a.id → Differs s t name
alone_differs s t ours theirs our_list their_list place a name reported its e f found is all named =
    let one = subst (λ (l : List Summary). IsAlone l their_list place) e found in
    let it = subst (λ (l : List Summary). IsAlone ours l place) f one in
    let low = get_low theirs place it.0 it.1 in
    let at = slice_get_read theirs (length theirs) place a refl low is in
    let both : Some a ≡ Some it.0 = sym at ∙ it.1 in
    let same : a ≡ it.0 = cc in
    differs_alone s t ours theirs place it.0 name reported its it.1 it.2 all
    (named ∙ ap (λ (x : Summary). string_bytes x.id) same)

of_values : (P : Text → Type 0) (es : List (Text × Collection)) →
    All (λ (a : SummaryValue). P a.id) (map (λ (e : Text × Collection). summary_of e.0 e.1) es) →
    All (λ (e : Text × Collection). P e.0) es
of_values P [] h = All-nil (λ (e : Text × Collection). P e.0)
of_values P (e ∷ es) h =
    let Q = λ (a : SummaryValue). P a.id in
    let rest = map (λ (e : Text × Collection). summary_of e.0 e.1) es in
    All-cons (λ (e : Text × Collection). P e.0) e es (All-head Q (summary_of e.0 e.1) rest h)
    (of_values P es (All-tail Q (summary_of e.0 e.1) rest h))

module _ (s t : State) (ours theirs : List Summary) (reported : summary_values ours ≡ summaries_in s)
    (its : summary_values theirs ≡ summaries_in t) (all : AreSame s t (entries s.collections))
    (named : All (λ (a : Summary). IsTrue (is_named (string_bytes a.id) ours))
    theirs) where
  keyed : All (λ (e : Text × Collection). IsTrue (is_named e.0 ours))
      (entries t.collections)
  keyed =
      let P = λ (q : Text). IsTrue (is_named q ours) in
      of_values P (entries t.collections)
      (subst (λ (l : List SummaryValue). All (λ (a : SummaryValue). P a.id) l) its
      (All-map (λ (a : SummaryValue). P a.id) summary_value theirs named))

  same_by : (q : Text) (o p : Option Collection) → get s.collections q ≡ o →
      get t.collections q ≡ p → o ≡ p
  same_by q (Some c) p e f = sym e ∙ (of_key (λ (n : Text). IsSame s t n) s.collections q c all e ∙ f)
  same_by q None None e f = refl
  same_by q None (Some d) e f =
      let yes = of_key (λ (n : Text). IsTrue (is_named n ours)) t.collections q d
      keyed f in
      let key : has_key q (entries s.collections) ≡ true =
      sym (is_key s ours q reported) ∙ yes in
      absurd (has_key_found s.collections q key e)

  pub all_the_same : s.collections ≡ t.collections
  all_the_same = same_map nat_list_cmp_total one_text s.collections t.collections
      (λ q. same_by q (get s.collections q) (get t.collections q) refl refl)
