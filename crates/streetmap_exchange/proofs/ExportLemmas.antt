-- An export goes on page by page.
use Rattle.std.proofs.Common.{◌≡◌, ℕ, List, [], ◌∷◌, ◌++◌, map, Bool, true, false, ◌||◌, not, Option, None, Some, Result, Ok, Err, length, codes, refl, sym, ap}
use Rattle.std.proofs.Common.{subst, ◌∙◌, arith, append_assoc, append-nil, length-append, ◌<◌, inl, inr}
use Rattle.std.specs.Prelude.{IfErr, OnOk, OnErr, ◌==◌}
use Rattle.streetmap_geojson.specs.FeatureView.{feature_value}
use Rattle.std.specs.Option.{option_map}
use Rattle.std.specs.FinMap.{get, values}
use Rattle.std.specs.Io.KnownBytes.{Appends}
use Rattle.std.proofs.KnownBytes.{Appends-trans}
use Rattle.serde_json.specs.View.{items_of}
use Rattle.serde_json.specs.Written.{comma_if, compact_text, items_text}
use Rattle.std.proofs.lemmas.Bool.Decides.{nat_tests}
use Rattle.std.proofs.lemmas.List.{map-id}
use Rattle.streetmap_geojson.specs.FeatureValue.{FeatureValue}
use Rattle.streetmap_feature_text.specs.Written.{feature_data}
use Rattle.streetmap_feature_text.proofs.WrittenParts.{collection_text_is}
use Rattle.streetmap_query.specs.QueryValue.{QueryValue}
use Rattle.streetmap_batch.specs.Text.{Text}
use Rattle.streetmap_ledger.specs.Model.{Model}
use Rattle.streetmap_replay.specs.Calls.{AreReads}
use Rattle.streetmap_replay.proofs.CallsInTurn.{then_lost}
use Rattle.streetmap_ledger.specs.State.{State, Collection}
use Rattle.streetmap_ledger.specs.WellFormed.{IsState}
use Rattle.streetmap_ledger.specs.Pages.{PageValue, page_over, page_in}
use Rattle.streetmap_ledger.specs.Walks.{page_after, IsWalk, ends, goes_on, shown}
use Rattle.streetmap_ledger.proofs.Walking.{walks_show_all}
use Rattle.streetmap_ledger.specs.declared.reply.Fault.TheVariants.{Memory, Device, Damaged, Reopen}
use Rattle.streetmap_exchange.specs.declared.fault.ExportFault.{ExportFault}
use Rattle.streetmap_exchange.specs.declared.fault.ExportFault.TheVariants.{NoCollection, Stopped}
use Rattle.streetmap_exchange.specs.declared.fault.ExportFault.TheVariants.{WriteFailed, FlushFailed}
use Rattle.streetmap_exchange.specs.ExportFaults.{IsWriteFault, IsEndFault, export_answer}
use Rattle.streetmap_exchange.specs.Exports.{export_text, features_in, WritesAll, WritesSome}
use Rattle.streetmap_exchange.specs.Exports.{WritesLess, WritesSomeIf, Exports, ShowsPart}
use Rattle.streetmap_exchange.specs.Exports.{part_query, part_text}
use Rattle.streetmap_text_lines.specs.Written.{AppendsBeginning, AppendsLess}
use Rattle.streetmap_text_lines.proofs.WriteLemmas.{beginning_longer, beginning_after}
use Rattle.streetmap_text_lines.proofs.WriteLemmas.{beginning_all, less_longer, less_after}
use Rattle.streetmap_text_lines.proofs.WriteLemmas.{less_none}
use Rattle.streetmap_replay.proofs.Pages.{all_selected, last}

-- ---- the text in parts

abbrev pub opening : List ℕ
opening = codes "{\"features\":["

abbrev pub closing : List ℕ
closing = codes "],\"type\":\"FeatureCollection\"}\n"

-- whether features come before
abbrev pub is_any : List FeatureValue → Bool
is_any [] = false
is_any (f ∷ fs) = true

items_as_parts : (later : Bool) (fs : List FeatureValue) (g : List ℕ) → items_text later (items_of (map feature_data fs)) ++ g ≡ part_text later fs ++ 93 ∷ g
items_as_parts later [] g = refl
items_as_parts later (f ∷ fs) g =
    let first = comma_if later in
    let this = compact_text (feature_data f) in
    append_assoc first (this ++ items_text true (items_of (map feature_data fs))) g
    ∙ ap (λ l. first ++ l) (append_assoc this (items_text true (items_of (map feature_data fs))) g ∙ ap (λ l. this ++ l) (items_as_parts true fs g)
    ∙ sym (append_assoc this (part_text true fs) (93 ∷ g)))
    ∙ sym (append_assoc first (this ++ part_text true fs) (93 ∷ g))

text_in_parts : (fs : List FeatureValue) → export_text fs ≡ opening ++ (part_text false fs ++ closing)
text_in_parts fs =
    let items = items_text false (items_of (map feature_data fs)) in
    let kind = codes ",\"type\":\"FeatureCollection\"}" in
    ap (λ l. l ++ 10 ∷ []) (sym (collection_text_is fs)) ∙ ap (λ l. opening ++ l) (append_assoc items kind (10 ∷ [])
    ∙ items_as_parts false fs (kind ++ 10 ∷ []))

or_false : (b : Bool) → (b || false) ≡ b
or_false true = refl
or_false false = refl

or_true : (b : Bool) → (b || true) ≡ true
or_true true = refl
or_true false = refl

-- features after features
part_text-append : (later : Bool) (fs gs : List FeatureValue) → part_text later (fs ++ gs) ≡ part_text later fs ++ part_text (later || is_any fs) gs
part_text-append later [] gs = ap (λ b. part_text b gs) (sym (or_false later))
part_text-append later (f ∷ fs) gs =
    let first = comma_if later in
    let this = compact_text (feature_data f) in
    let more = part_text true gs in
    ap (λ l. first ++ l) (ap (λ l. this ++ l) (part_text-append true fs gs) ∙ sym (append_assoc this (part_text true fs) more))
    ∙ sym (append_assoc first (this ++ part_text true fs) more)
    ∙ ap (λ b. (first ++ (this ++ part_text true fs)) ++ part_text b gs) (sym (or_true later))

is_any-append : (fs gs : List FeatureValue) → is_any (fs ++ gs) ≡ (is_any fs || is_any gs)
is_any-append [] gs = refl
is_any-append (f ∷ fs) gs = refl

-- ---- the pages

abbrev all : QueryValue
all = part_query None

-- the pages before this one are written; from it on the walk shows the rest
pub record Underway (s : State) (name : Text) (old new : Option (List ℕ)) (later : Bool) (page : PageValue) : Type 0 where
  pub collection : Collection
  pub there : get s.collections name ≡ Some collection
  pub front : List FeatureValue
  pub after : Option Text
  pub pages : List PageValue
  pub walk : IsWalk all (values collection.features) after pages
  pub whole : front ++ shown pages ≡ values collection.features
  pub here : page ≡ page_after all (values collection.features) after
  pub following : later ≡ is_any front
  pub written : Appends old new (opening ++ part_text false front)

-- the collection of a page
collection_of : (s : State) (name : Text) (after : Option Text) (page : PageValue) → page_in s name (part_query after) ≡ Some page → (c : Collection)
    × (get s.collections name ≡ Some c) × (page ≡ page_after all (values c.features) after)
collection_of s name after page h = by (get s.collections name) refl h where
  by : (o : Option Collection) → get s.collections name ≡ o → option_map (λ (c : Collection). page_over (part_query after) (values c.features)) o ≡ Some page →
      (c : Collection) × (get s.collections name ≡ Some c) × (page ≡ page_after all (values c.features) after)
  by None is e = absurd cc
  by (Some c) is e = let same : page ≡ page_over (part_query after) (values c.features) = cc in (c, is, same)

-- an export begins
pub begins : (s : State) (name : Text) (old new : Option (List ℕ)) (page : PageValue) → IsState s → page_in s name (part_query None) ≡ Some page →
    Appends old new opening → Underway s name old new false page
begins s name old new page sound h w =
    let c = collection_of s name None page h in
    let law = walks_show_all s name c.0 all sound c.1 (omega arith) in
    let walk = law.1 in
    record {
      collection = c.0;
      there = c.1;
      front = [];
      after = None;
      pages = walk.0;
      walk = walk.1;
      whole = (law.0 walk.0 walk.1).whole ∙ all_selected (values c.0.features);
      here = c.2;
      following = refl;
      written = subst (Appends old new) (sym (append-nil opening)) w;
    }

-- the rest of a walk after its first page
record Turned (fs : List FeatureValue) (after : Option Text) (pages : List PageValue) (id : Text) : Type 0 where
  more : List PageValue
  walk : IsWalk all fs (Some id) more
  shows : shown pages ≡ (page_after all fs after).features ++ shown more

turned : (fs : List FeatureValue) (after : Option Text) (pages : List PageValue) (id : Text) → IsWalk all fs after pages → (page_after all fs after).next
    ≡ Some id → Turned fs after pages id
turned fs _ _ id (ends after none) h = absurd cc
turned fs _ _ id (goes_on after reported pages next walk) h =
    let same : reported ≡ id = cc in
    record { more = pages; walk = subst (λ i. IsWalk all fs (Some i) pages) same walk; shows = refl }

-- the page shows the first of what the walk shows
front_of : (fs : List FeatureValue) (after : Option Text) (pages : List PageValue) → IsWalk all fs after pages → (more : List FeatureValue)
    × (shown pages ≡ (page_after all fs after).features ++ more)
front_of fs _ _ (ends after none) = ([], refl)
front_of fs _ _ (goes_on after reported pages next walk) = (shown pages, refl)

-- the text, split into the features in front, a part, and the rest
text_split : (front part rest fs : List FeatureValue) → front ++ (part ++ rest) ≡ fs → export_text fs ≡ (opening ++ part_text false front)
    ++ (part_text (is_any front) part ++ (part_text (is_any front || is_any part) rest ++ closing))
text_split front part rest fs whole =
    let b = is_any front in
    let one = part_text false front in
    let two = part_text b part in
    let three = part_text (b || is_any part) rest in
    let parts : part_text false fs ≡ one ++ (two ++ three) = ap (part_text false) (sym whole) ∙ part_text-append false front (part ++ rest)
    ∙ ap (λ l. one ++ l) (part_text-append b part rest) in
    text_in_parts fs ∙ ap (λ l. opening ++ (l ++ closing)) parts
    ∙ ap (λ l. opening ++ l) (append_assoc one (two ++ three) closing ∙ ap (λ l. one ++ l) (append_assoc two three closing))
    ∙ sym (append_assoc opening one (two ++ (three ++ closing)))

-- ---- from page to page

same_collection : (o : Option Collection) (c d : Collection) → o ≡ Some c → o ≡ Some d → d ≡ c
same_collection o c d h k = cc

pub goes_further : (s : State) (name : Text) (old a b : Option (List ℕ)) (later : Bool) (page next : PageValue) (id : Text) → Underway s name old a later page →
    page.next ≡ Some id
    → page_in s name (part_query (Some id)) ≡ Some next → Appends a b (part_text later page.features) →
    Underway s name old b (later || is_any page.features) next
goes_further s name old a b later page next id u more h w =
    let fs = values u.collection.features in
    let reported : (page_after all fs u.after).next ≡ Some id = ap (λ (p : PageValue). p.next) (sym u.here) ∙ more in
    let t = turned fs u.after u.pages id u.walk reported in
    let shows : shown u.pages ≡ page.features ++ shown t.more = t.shows ∙ ap (λ (p : PageValue). p.features ++ shown t.more) (sym u.here) in
    let c = collection_of s name (Some id) next h in
    let same : c.0 ≡ u.collection = same_collection (get s.collections name) u.collection c.0 u.there c.1 in
    let front = u.front ++ page.features in
    let texts : (opening ++ part_text false u.front) ++ part_text later page.features ≡ opening ++ part_text false front =
    append_assoc opening (part_text false u.front) (part_text later page.features)
    ∙ ap (λ l. opening ++ l) (ap (λ x. part_text false u.front ++ part_text x page.features) u.following ∙ sym (part_text-append false u.front page.features))
    in
    record {
      collection = u.collection;
      there = u.there;
      front = front;
      after = Some id;
      pages = t.more;
      walk = t.walk;
      whole = append_assoc u.front page.features (shown t.more) ∙ ap (λ gs. u.front ++ gs) (sym shows) ∙ u.whole;
      here = c.2 ∙ ap (λ (d : Collection). page_after all (values d.features) (Some id)) same;
      following = ap (λ x. x || is_any page.features) u.following ∙ sym (is_any-append u.front page.features);
      written = subst (Appends old b) texts (Appends-trans old a b (opening ++ part_text false u.front) (part_text later page.features) u.written w);
    }

-- what is left to write after the pages before this one
record Left (s : State) (name : Text) (later : Bool) (page : PageValue) (before rest : List ℕ) : Type 0 where
  features : List FeatureValue
  reported : features_in s name ≡ Some features
  text : export_text features ≡ before ++ (part_text later page.features ++ rest)
  some : 0 < length rest

left_of : (s : State) (name : Text) (old a : Option (List ℕ)) (later : Bool) (page : PageValue) → (u : Underway s name old a later page) → (rest : List ℕ)
    × Left s name later page (opening ++ part_text false u.front) rest
left_of s name old a later page u =
    let fs = values u.collection.features in
    let m = front_of fs u.after u.pages u.walk in
    let shows : shown u.pages ≡ page.features ++ m.0 = m.1 ∙ ap (λ (p : PageValue). p.features ++ m.0) (sym u.here) in
    let rest = part_text (is_any u.front || is_any page.features) m.0 ++ closing in (
      rest,
      record {
        features = fs;
        reported = ap (option_map (λ (c : Collection). values c.features)) u.there;
        text = text_split u.front page.features m.0 fs (ap (λ gs. u.front ++ gs) (sym shows) ∙ u.whole)
            ∙ ap (λ x. (opening ++ part_text false u.front) ++ (part_text x page.features ++ rest)) (sym u.following);
        some = omega (arith, length-append (part_text (is_any u.front || is_any page.features) m.0) closing);
      },
    )

-- the same at the last page
left_last : (s : State) (name : Text) (old a : Option (List ℕ)) (later : Bool) (page : PageValue) → (u : Underway s name old a later page) → page.next ≡ None →
    Left s name later page (opening ++ part_text false u.front) closing
left_last s name old a later page u none =
    let fs = values u.collection.features in
    let reported : (page_after all fs u.after).next ≡ None = ap (λ (p : PageValue). p.next) (sym u.here) ∙ none in
    let shows : shown u.pages ≡ page.features ++ [] = last fs u.after u.pages u.walk reported ∙ ap (λ (p : PageValue). p.features) (sym u.here)
    ∙ sym (append-nil page.features) in
    record {
      features = fs;
      reported = ap (option_map (λ (c : Collection). values c.features)) u.there;
      text = text_split u.front page.features [] fs (ap (λ gs. u.front ++ gs) (sym shows) ∙ u.whole)
          ∙ ap (λ x. (opening ++ part_text false u.front) ++ (part_text x page.features ++ closing)) (sym u.following);
      some = omega arith;
    }

all_of : (o : Option (List FeatureValue)) (fs : List FeatureValue) (old new : Option (List ℕ)) → o ≡ Some fs → Appends old new (export_text fs) →
    WritesAll o old new
all_of o fs old new is w = subst (λ (p : Option (List FeatureValue)). WritesAll p old new) (sym is) w

some_of : (o : Option (List FeatureValue)) (fs : List FeatureValue) (old new : Option (List ℕ)) →
    o ≡ Some fs → AppendsBeginning old new (export_text fs) → WritesSome o old new
some_of o fs old new is w = subst (λ (p : Option (List FeatureValue)). WritesSome p old new) (sym is) w

less_of : (o : Option (List FeatureValue)) (fs : List FeatureValue) (old new : Option (List ℕ)) →
    o ≡ Some fs → AppendsLess old new (export_text fs) → WritesLess o old new
less_of o fs old new is w = subst (λ (p : Option (List FeatureValue)). WritesLess p old new) (sym is) w

-- the last page and the end are written
pub finished : (s : State) (name : Text) (old a b c : Option (List ℕ)) (later : Bool) (page : PageValue) → Underway s name old a later page → page.next ≡ None
    → Appends a b (part_text later page.features) → Appends b c closing → WritesAll (features_in s name) old c
finished s name old a b c later page u none w v =
    let l = left_last s name old a later page u none in
    let both = Appends-trans a b c (part_text later page.features) closing w v in
    all_of (features_in s name) l.features old c l.reported (subst (Appends old c) (sym l.text)
    (Appends-trans old a c (opening ++ part_text false u.front) (part_text later page.features ++ closing) u.written both))

-- the last page and a prefix of the end are written
pub ends_early : (s : State) (name : Text) (old a b c : Option (List ℕ)) (later : Bool) (page : PageValue) → Underway s name old a later page → page.next ≡ None
    → Appends a b (part_text later page.features) → AppendsBeginning b c closing
    → WritesSome (features_in s name) old c
ends_early s name old a b c later page u none w v =
    let l = left_last s name old a later page u none in
    let both = beginning_after a b c (part_text later page.features) closing w v in
    some_of (features_in s name) l.features old c l.reported
    (subst (AppendsBeginning old c) (sym l.text)
    (beginning_after old a c (opening ++ part_text false u.front)
    (part_text later page.features ++ closing) u.written both))

-- a prefix of the page is written
pub breaks_off : (s : State) (name : Text) (old a b : Option (List ℕ)) (later : Bool) (page : PageValue) → Underway s name old a later page
    → AppendsBeginning a b (part_text later page.features) → WritesSome (features_in s name) old b
breaks_off s name old a b later page u w =
    let l = left_of s name old a later page u in
    let part = part_text later page.features in
    some_of (features_in s name) l.1.features old b l.1.reported
    (subst (AppendsBeginning old b) (sym l.1.text)
    (beginning_after old a b (opening ++ part_text false u.front) (part ++ l.0) u.written
    (beginning_longer a b part l.0 w)))

-- a prefix of the page is written, and not all of it
pub breaks_off_less : (s : State) (name : Text) (old a b : Option (List ℕ)) (later : Bool) (page : PageValue) → Underway s name old a later page
    → AppendsLess a b (part_text later page.features) → WritesLess (features_in s name) old b
breaks_off_less s name old a b later page u w =
    let l = left_of s name old a later page u in
    let part = part_text later page.features in
    less_of (features_in s name) l.1.features old b l.1.reported
    (subst (AppendsLess old b) (sym l.1.text)
    (less_after old a b (opening ++ part_text false u.front) (part ++ l.0) u.written
    (less_longer a b part l.0 w)))

-- the page is not written yet, so not all of the text is
pub less_written : (s : State) (name : Text) (old a : Option (List ℕ)) (later : Bool) (page : PageValue) → Underway s name old a later page →
    WritesLess (features_in s name) old a
less_written s name old a later page u =
    let l = left_of s name old a later page u in
    let part = part_text later page.features in
    let some : 0 < length (part ++ l.0) = omega (arith, length-append part l.0, l.1.some) in
    less_of (features_in s name) l.1.features old a l.1.reported
    (subst (AppendsLess old a) (sym l.1.text)
    (less_after old a a (opening ++ part_text false u.front) (part ++ l.0) u.written
    (less_none a (part ++ l.0) some)))

-- the last page and a prefix of the end are written, and not all of the end
pub ends_less : (s : State) (name : Text) (old a b c : Option (List ℕ)) (later : Bool) (page : PageValue) → Underway s name old a later page → page.next ≡ None
    → Appends a b (part_text later page.features) → AppendsLess b c closing
    → WritesLess (features_in s name) old c
ends_less s name old a b c later page u none w v =
    let l = left_last s name old a later page u none in
    let both = less_after a b c (part_text later page.features) closing w v in
    less_of (features_in s name) l.features old c l.reported
    (subst (AppendsLess old c) (sym l.text)
    (less_after old a c (opening ++ part_text false u.front)
    (part_text later page.features ++ closing) u.written both))

-- a prefix of what comes before the pages is written
pub begins_early : (s : State) (name : Text) (old new : Option (List ℕ)) (page : PageValue) →
    page_in s name (part_query None) ≡ Some page → AppendsBeginning old new opening →
    WritesSome (features_in s name) old new
begins_early s name old new page h w =
    let c = collection_of s name None page h in
    let fs = values c.0.features in
    some_of (features_in s name) fs old new (ap (option_map (λ (d : Collection). values d.features)) c.1)
    (subst (AppendsBeginning old new) (sym (text_in_parts fs))
    (beginning_longer old new opening (part_text false fs ++ closing) w))

-- and not all of it
pub begins_less : (s : State) (name : Text) (old new : Option (List ℕ)) (page : PageValue) →
    page_in s name (part_query None) ≡ Some page → AppendsLess old new opening →
    WritesLess (features_in s name) old new
begins_less s name old new page h w =
    let c = collection_of s name None page h in
    let fs = values c.0.features in
    less_of (features_in s name) fs old new (ap (option_map (λ (d : Collection). values d.features)) c.1)
    (subst (AppendsLess old new) (sym (text_in_parts fs))
    (less_longer old new opening (part_text false fs ++ closing) w))

-- the page is written, and nothing after it
pub part_written : (s : State) (name : Text) (old a b : Option (List ℕ)) (later : Bool) (page : PageValue) → Underway s name old a later page
    → Appends a b (part_text later page.features) → WritesSome (features_in s name) old b
part_written s name old a b later page u w =
    breaks_off s name old a b later page u (beginning_all a b (part_text later page.features) w)

-- ---- how an export ends

some_if : (o : Option (List FeatureValue)) (old new : Option (List ℕ)) → WritesSome o old new → WritesSomeIf o old new
some_if None old new h = absurd h
some_if (Some fs) old new h = h

-- by a write that failed
write_ends-by : (T : Type 0) (s : State) (name : Text) (e : ExportFault) (old new : Option (List ℕ)) → IsWriteFault e → WritesSome (features_in s name) old new
    → (e ≡ WriteFailed → WritesLess (features_in s name) old new) → Exports {T = T} s name (Err e) old new
write_ends-by T s name NoCollection old new f w less = absurd f
write_ends-by T s name WriteFailed old new f w less = less refl
write_ends-by T s name FlushFailed old new f w less = absurd f
write_ends-by T s name (Stopped fault) old new f w less = some_if (features_in s name) old new w

-- or by a flush after it
end_ends-by : (T : Type 0) (s : State) (name : Text) (e : ExportFault) (old new : Option (List ℕ)) → IsEndFault e → WritesSome (features_in s name) old new
    → (e ≡ WriteFailed → WritesLess (features_in s name) old new) → (e ≡ FlushFailed → WritesAll (features_in s name) old new) →
    Exports {T = T} s name (Err e) old new
end_ends-by T s name FlushFailed old new f w less whole = whole refl
end_ends-by T s name NoCollection old new (inl f) w less whole = absurd f
end_ends-by T s name NoCollection old new (inr f) w less whole = absurd f
end_ends-by T s name WriteFailed old new f w less whole = less refl
end_ends-by T s name (Stopped fault) old new f w less whole = some_if (features_in s name) old new w

is_there : (o : Option Collection) (after : Option Text) (old new : Option (List ℕ)) → option_map
    (λ (c : Collection). page_over (part_query after) (values c.features)) o ≡ None → WritesSome (option_map (λ (c : Collection). values c.features) o) old new
    → ⊥
is_there None after old new h w = w
is_there (Some c) after old new h w = cc

pub write_ends : {T : Type 0} (s : State) (name : Text) (r : Result T ExportFault) (e : ExportFault) (old new : Option (List ℕ)) → r ≡ Err e → IsWriteFault e →
    WritesSome (features_in s name) old new
    → (e ≡ WriteFailed → WritesLess (features_in s name) old new) → Exports s name r old new
write_ends {T} s name r e old new is f w less = subst (λ (x : Result T ExportFault). Exports s name x old new) (sym is)
    (write_ends-by T s name e old new f w less)

-- by a page that was not shown, after others
page_ends-by : (T : Type 0) (s : State) (name : Text) (after : Option Text) (e : ExportFault) (old new : Option (List ℕ)) → ShowsPart s name after (Err e) →
    WritesSome (features_in s name) old new → Exports {T = T} s name (Err e) old new
page_ends-by T s name after NoCollection old new h w = absurd (is_there (get s.collections name) after old new h w)
page_ends-by T s name after WriteFailed old new h w = absurd h
page_ends-by T s name after FlushFailed old new h w = absurd h
page_ends-by T s name after (Stopped fault) old new h w = some_if (features_in s name) old new w

pub page_ends : {T : Type 0} (s : State) (name : Text) (after : Option Text) (r : Result T ExportFault) (e : ExportFault) (old new : Option (List ℕ)) → r
    ≡ Err e → ShowsPart s name after (Err e) → WritesSome (features_in s name) old new → Exports s name r old new
page_ends {T} s name after r e old new is h w = subst (λ (x : Result T ExportFault). Exports s name x old new) (sym is)
    (page_ends-by T s name after e old new h w)

not_there : (o : Option Collection) (after : Option Text) → option_map (λ (c : Collection). page_over (part_query after) (values c.features)) o ≡ None →
    option_map (λ (c : Collection). values c.features) o ≡ None
not_there None after h = refl
not_there (Some c) after h = cc

-- by what comes after the features
pub end_exports : {T : Type 0} (s : State) (name : Text) (old a b c : Option (List ℕ)) (later : Bool) (page : PageValue) (r : Result T ExportFault) →
    Underway s name old a later page → page.next ≡ None
    → Appends a b (part_text later page.features) → OnOk r (Appends b c closing)
    → OnErr r (AppendsBeginning b c closing) → (r ≡ Err WriteFailed → AppendsLess b c closing)
    → (r ≡ Err FlushFailed → Appends b c closing) → IfErr r IsEndFault
    → Exports s name r old c
end_exports s name old a b c later page (Ok done) u none w ok err less whole f = finished s name old a b c later page u none w ok
end_exports {T} s name old a b c later page (Err e) u none w ok err less whole f =
    end_ends-by T s name e old c f (ends_early s name old a b c later page u none w err)
    (λ is. ends_less s name old a b c later page u none w (less (ap (λ x. Err x) is)))
    (λ is. finished s name old a b c later page u none w (whole (ap (λ x. Err x) is)))

-- ---- the keeper

module _ {K T : Type 0} {model : Model K} {a b : K} where
  -- a write failed
  pub write_reads : (r : Result T ExportFault) (e : ExportFault) → r ≡ Err e → IsWriteFault e → AreReads model a b (Some (Ok tt)) →
      AreReads model a b (export_answer r)
  write_reads r e is f reads = subst (λ (x : Result T ExportFault). AreReads model a b (export_answer x)) (sym is) (by_fault e f) where
    by_fault : (e : ExportFault) → IsWriteFault e → AreReads model a b (export_answer {T = T} (Err e))
    by_fault NoCollection f = reads
    by_fault WriteFailed f = reads
    by_fault FlushFailed f = reads
    by_fault (Stopped Memory) f = then_lost reads
    by_fault (Stopped Device) f = absurd f
    by_fault (Stopped Damaged) f = absurd f
    by_fault (Stopped Reopen) f = absurd f

  -- or not, or a flush did
  pub end_reads : (r : Result T ExportFault) → IfErr r IsEndFault → AreReads model a b (Some (Ok tt)) → AreReads model a b (export_answer r)
  end_reads (Ok done) f reads = reads
  end_reads (Err NoCollection) f reads = reads
  end_reads (Err WriteFailed) f reads = reads
  end_reads (Err FlushFailed) f reads = reads
  end_reads (Err (Stopped Memory)) f reads = then_lost reads
  end_reads (Err (Stopped Device)) (inl f) reads = absurd f
  end_reads (Err (Stopped Device)) (inr f) reads = absurd f
  end_reads (Err (Stopped Damaged)) (inl f) reads = absurd f
  end_reads (Err (Stopped Damaged)) (inr f) reads = absurd f
  end_reads (Err (Stopped Reopen)) (inl f) reads = absurd f
  end_reads (Err (Stopped Reopen)) (inr f) reads = absurd f

-- the features of a page, as they were passed on
pub page_part : (later : Bool) (fs gs : List FeatureValue) → fs ≡ gs → part_text later fs ≡ part_text later gs
page_part later fs gs h = ap (part_text later) h

-- whether features come before the next page: some came before this one, or it has some
pub some_before : (b b' x : Bool) → b ≡ true → b' ≡ b → (b || x) ≡ b'
some_before true b' x h k = sym k
some_before false b' x h k = absurd cc

pub some_here : (b b' empty : Bool) (fs : List FeatureValue) (n : ℕ) → b ≡ false → length fs ≡ n → empty ≡ (n == 0) → b' ≡ not empty → (b || is_any fs) ≡ b'
some_here true b' empty fs n h len e k = absurd cc
some_here false b' empty [] n h len e k = sym (k ∙ ap not (e ∙ ap (λ m. m == 0) (sym len)))
some_here false b' empty (f ∷ fs) n h len e k = let some : (length (f ∷ fs) == 0) ≡ false = grind (arith, nat_tests) in
    sym (k ∙ ap not (e ∙ ap (λ m. m == 0) (sym len) ∙ some))
