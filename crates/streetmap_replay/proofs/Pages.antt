-- The features of a collection in two states, page by page.
use Rattle.std.proofs.Common.{◌≡◌, List, [], ◌∷◌, ◌++◌, All, map, Option, None, Some}
use Rattle.std.proofs.Common.{option_map, Ok, refl, sym, ap, subst, ◌∙◌, arith}
use Rattle.std.proofs.Common.{append-nil, append_assoc}
use Rattle.std.specs.FinMap.{get, values, entries}
use Rattle.std.proofs.lemmas.List.Elements.{All-head, All-tail, All-take, All-filter, All-weaker}
use Rattle.serde_json.specs.Data.{Data}
use Rattle.serde_json.specs.View.{items_of}
use Rattle.serde_json.specs.Written.{compact_text}
use Rattle.streetmap_batch.specs.Text.{Text}
use Rattle.streetmap_feature_text.specs.Written.{feature_data, collection_data}
use Rattle.streetmap_feature_text.proofs.Again.{feature_again}
use Rattle.streetmap_feature_text.proofs.WrittenCollections.{collection_is_json}
use Rattle.streetmap_geojson.specs.FeatureInvariant.{IsFeature}
use Rattle.streetmap_geojson.specs.FeatureMeaning.{ReadsAs}
use Rattle.streetmap_geojson.specs.FeatureValue.{FeatureValue, untimed}
use Rattle.streetmap_geojson.specs.JsonText.{json_of}
use Rattle.streetmap_geojson.specs.ParsedGeometries.{list_of}
use Rattle.streetmap_geojson.specs.Times.{time_of}
use Rattle.streetmap_geojson.proofs.Lists.{list_of-items_of}
use Rattle.streetmap_geojson.proofs.Wholes.{reads_once}
use Rattle.streetmap_ledger.specs.Pages.{PageValue, page_in, page_over, selects, comes_after, selected}
use Rattle.streetmap_ledger.specs.State.{State, Collection}
use Rattle.streetmap_ledger.specs.Walks.{page_after, IsWalk, ends, goes_on, shown}
use Rattle.streetmap_ledger.specs.WellFormed.{IsState, IsPlaced}
use Rattle.streetmap_ledger.proofs.Walking.{walks_show_all}
use Rattle.streetmap_query.specs.QueryValue.{QueryValue}
use Rattle.streetmap_replay.specs.Alike.{part_query, SameText, PagesEndAs}
use Rattle.streetmap_replay.specs.declared.features.PageEnd.{PageEnd}
use Rattle.streetmap_replay.specs.declared.features.PageEnd.TheVariants.{Last}
use Rattle.streetmap_replay.proofs.TextMaps.{each, all_values, same_values}

-- ---- features with one text

-- a feature, with the time that this property of it states
pub record Placed (property : Option Text) (f : FeatureValue) : Type 0 where
  pub is : IsFeature f
  pub timed : time_of property f.properties ≡ Ok f.time

all_placed : (s : State) (name : Text) (c : Collection) → IsState s →
    get s.collections name ≡ Some c → All (Placed c.time) (values c.features)
all_placed s name c sound there =
    all_values (Placed c.time) (IsPlaced c.time)
    (λ id f h. record { is = h.is; timed = h.timed }) (entries c.features)
    (each (IsPlaced c.time) c.features (sound.made name c there).holds)

one_same : (property : Option Text) (f g : FeatureValue) → Placed property f → Placed property g →
    feature_data f ≡ feature_data g → f ≡ g
one_same property f g a b e =
    let same : untimed f ≡ untimed g =
    reads_once None (feature_data f) (untimed f) (untimed g) (feature_again f a.is)
    (subst (λ (d : Data). ReadsAs None d (untimed g)) (sym e) (feature_again g b.is)) in
    let id : f.id ≡ g.id = ap (λ (x : FeatureValue). x.id) same in
    let geometry : f.geometry ≡ g.geometry = ap (λ (x : FeatureValue). x.geometry) same in
    let properties : f.properties ≡ g.properties =
    ap (λ (x : FeatureValue). x.properties) same in
    let reported : Ok f.time ≡ Ok g.time =
    sym a.timed ∙ (ap (time_of property) properties ∙ b.timed) in
    let time : f.time ≡ g.time = cc in
    λ i. record {
      id = id i;
      geometry = geometry i;
      properties = properties i;
      time = time i;
    }

each_same : (property : Option Text) (fs gs : List FeatureValue) → All (Placed property) fs →
    All (Placed property) gs → map feature_data fs ≡ map feature_data gs → fs ≡ gs
each_same property [] [] a b h = refl
each_same property [] (g ∷ gs) a b h = absurd cc
each_same property (f ∷ fs) [] a b h = absurd cc
each_same property (f ∷ fs) (g ∷ gs) a b h =
    let head : feature_data f ≡ feature_data g = cc in
    let tail : map feature_data fs ≡ map feature_data gs = cc in
    let one = one_same property f g (All-head (Placed property) f fs a)
    (All-head (Placed property) g gs b) head in
    let rest = each_same property fs gs (All-tail (Placed property) f fs a)
    (All-tail (Placed property) g gs b) tail in
    λ i. one i ∷ rest i

same_data : (fs gs : List FeatureValue) → collection_data fs ≡ collection_data gs →
    map feature_data fs ≡ map feature_data gs
same_data fs gs h =
    let items : items_of (map feature_data fs) ≡ items_of (map feature_data gs) = cc in
    sym (list_of-items_of (map feature_data fs))
    ∙ (ap list_of items ∙ list_of-items_of (map feature_data gs))

text_same : (property : Option Text) (fs gs : List FeatureValue) → All (Placed property) fs →
    All (Placed property) gs →
    compact_text (collection_data fs) ≡ compact_text (collection_data gs) → fs ≡ gs
text_same property fs gs a b h =
    let read : Ok (collection_data fs) ≡ Ok (collection_data gs) =
    sym (collection_is_json fs (All-weaker (Placed property) IsFeature (λ f p. p.is) fs a))
    ∙ (ap json_of h
    ∙ collection_is_json gs (All-weaker (Placed property) IsFeature (λ f p. p.is) gs b)) in
    let same : collection_data fs ≡ collection_data gs = cc in
    each_same property fs gs a b (same_data fs gs same)

-- ---- pages

abbrev pub all : QueryValue
all = part_query None

pub page_is : (s : State) (name : Text) (c : Collection) (after : Option Text)
    (p : Option PageValue) → get s.collections name ≡ Some c →
    p ≡ page_in s name (part_query after) → p ≡ Some (page_after all (values c.features) after)
page_is s name c after p there h =
    h ∙ ap (option_map (λ (d : Collection). page_over (part_query after) (values d.features))) there

page_placed : (P : FeatureValue → Type 0) (fs : List FeatureValue) (after : Option Text) →
    All P fs → All P (page_after all fs after).features
page_placed P fs after h =
    All-take P 1000 _ (All-filter (comes_after after) P _
    (All-filter (selects (part_query after)) P fs h))

pub all_selected : (fs : List FeatureValue) → selected all fs ≡ fs
all_selected [] = refl
all_selected (f ∷ fs) = ap (λ gs. f ∷ gs) (all_selected fs)

-- the features up to an id are the same, and walks show the rest
pub record SameSoFar (fs gs : List FeatureValue) (after : Option Text) : Type 0 where
  front : List FeatureValue
  ours : List PageValue
  theirs : List PageValue
  our_walk : IsWalk all fs after ours
  their_walk : IsWalk all gs after theirs
  our_whole : front ++ shown ours ≡ fs
  their_whole : front ++ shown theirs ≡ gs

pub begins : (s t : State) (name : Text) (c d : Collection) → IsState s → IsState t →
    get s.collections name ≡ Some c → get t.collections name ≡ Some d →
    SameSoFar (values c.features) (values d.features) None
begins s t name c d sound after there here =
    let law = walks_show_all s name c all sound there (omega arith) in
    let other = walks_show_all t name d all after here (omega arith) in
    record {
      front = [];
      ours = law.1.0;
      theirs = other.1.0;
      our_walk = law.1.1;
      their_walk = other.1.1;
      our_whole = (law.0 law.1.0 law.1.1).whole ∙ all_selected (values c.features);
      their_whole = (other.0 other.1.0 other.1.1).whole ∙ all_selected (values d.features);
    }

-- what holds of a walk at its page
record Turned (fs : List FeatureValue) (after : Option Text) (pages : List PageValue) (id : Text) :
    Type 0 where
  more : List PageValue
  walk : IsWalk all fs (Some id) more
  shows : shown pages ≡ (page_after all fs after).features ++ shown more

turned : (fs : List FeatureValue) (after : Option Text) (pages : List PageValue) (id : Text) →
    IsWalk all fs after pages → (page_after all fs after).next ≡ Some id →
    Turned fs after pages id
turned fs _ _ id (ends after none) h = absurd cc
turned fs _ _ id (goes_on after reported pages next walk) h =
    let same : reported ≡ id = cc in
    record {
      more = pages;
      walk = subst (λ i. IsWalk all fs (Some i) pages) same walk;
      shows = refl;
    }

pub last : (fs : List FeatureValue) (after : Option Text) (pages : List PageValue) →
    IsWalk all fs after pages → (page_after all fs after).next ≡ None →
    shown pages ≡ (page_after all fs after).features
last fs _ _ (ends after none) h = append-nil _
last fs _ _ (goes_on after reported pages next walk) h = absurd cc

module _ (s t : State) (name : Text) (c d : Collection) (sound : IsState s) (after_all : IsState t)
    (there : get s.collections name ≡ Some c) (here : get t.collections name ≡ Some d)
    (one : c.time ≡ d.time) (after : Option Text)
    (so : SameSoFar (values c.features) (values d.features) after) where
  ours : PageValue
  ours = page_after all (values c.features) after

  theirs : PageValue
  theirs = page_after all (values d.features) after

  page_same : SameText (page_after all (values c.features) after)
      (page_after all (values d.features) after) →
      (page_after all (values c.features) after).features
      ≡ (page_after all (values d.features) after).features
  page_same h =
      let their = subst (λ (p : Option Text). All (Placed p) (values d.features)) (sym one)
      (all_placed t name d after_all here) in
      text_same c.time _ _
      (page_placed (Placed c.time) (values c.features) after (all_placed s name c sound there))
      (page_placed (Placed c.time) (values d.features) after their) h

  pub goes_further : (id : Text) →
      SameText (page_after all (values c.features) after)
      (page_after all (values d.features) after) →
      (page_after all (values c.features) after).next ≡ Some id →
      (page_after all (values d.features) after).next ≡ Some id →
      SameSoFar (values c.features) (values d.features) (Some id)
  goes_further id text next other =
      let mine = turned (values c.features) after so.ours id so.our_walk next in
      let their = turned (values d.features) after so.theirs id so.their_walk other in
      let page = (page_after all (values c.features) after).features in
      let same = page_same text in
      record {
        front = so.front ++ page;
        ours = mine.more;
        theirs = their.more;
        our_walk = mine.walk;
        their_walk = their.walk;
        our_whole = append_assoc so.front page (shown mine.more)
            ∙ (ap (λ l. so.front ++ l) (sym mine.shows) ∙ so.our_whole);
        their_whole = append_assoc so.front page (shown their.more)
            ∙ (ap (λ l. so.front ++ (l ++ shown their.more)) same
            ∙ (ap (λ l. so.front ++ l) (sym their.shows) ∙ so.their_whole));
      }

  pub all_same :
      SameText (page_after all (values c.features) after)
      (page_after all (values d.features) after) →
      (page_after all (values c.features) after).next ≡ None →
      (page_after all (values d.features) after).next ≡ None →
      values c.features ≡ values d.features
  all_same text next other =
      let mine = last (values c.features) after so.ours so.our_walk next in
      let their = last (values d.features) after so.theirs so.their_walk other in
      sym so.our_whole
      ∙ (ap (λ l. so.front ++ l) (mine ∙ (page_same text ∙ sym their)) ∙ so.their_whole)

  at_ours : (p : PageValue) → Some p ≡ page_in s name (part_query after) →
      p ≡ page_after all (values c.features) after
  at_ours p h =
      let both : Some p ≡ Some (page_after all (values c.features) after) =
      page_is s name c after (Some p) there h in cc

  at_theirs : (q : PageValue) → Some q ≡ page_in t name (part_query after) →
      q ≡ page_after all (values d.features) after
  at_theirs q h =
      let both : Some q ≡ Some (page_after all (values d.features) after) =
      page_is t name d after (Some q) here h in cc

  moved : (end : PageEnd) (p q : PageValue) → Some p ≡ page_in s name (part_query after) →
      Some q ≡ page_in t name (part_query after) → PagesEndAs p q end →
      PagesEndAs (page_after all (values c.features) after)
      (page_after all (values d.features) after) end
  moved end p q e f h =
      subst (λ (y : PageValue). PagesEndAs (page_after all (values c.features) after) y end)
      (at_theirs q f) (subst (λ (x : PageValue). PagesEndAs x q end) (at_ours p e) h)

  pub last_same : (p q : PageValue) → Some p ≡ page_in s name (part_query after) →
      Some q ≡ page_in t name (part_query after) → PagesEndAs p q Last →
      values c.features ≡ values d.features
  last_same p q e f h = let it = moved Last p q e f h in all_same it.0 it.1 it.2

  pub next_same : (id : Text) (p q : PageValue) → Some p ≡ page_in s name (part_query after) →
      Some q ≡ page_in t name (part_query after) →
      SameText p q × (p.next ≡ Some id) × (q.next ≡ Some id) →
      SameSoFar (values c.features) (values d.features) (Some id)
  next_same id p q e f h =
      let one : SameText (page_after all (values c.features) after) q
      × ((page_after all (values c.features) after).next ≡ Some id) × (q.next ≡ Some id) =
      subst (λ (x : PageValue). SameText x q × (x.next ≡ Some id) × (q.next ≡ Some id))
      (at_ours p e) h in
      let two = subst (λ (y : PageValue). SameText (page_after all (values c.features) after) y
      × ((page_after all (values c.features) after).next ≡ Some id) × (y.next ≡ Some id))
      (at_theirs q f) one in
      goes_further id two.0 two.1 two.2

-- ---- collections with the same features

pub same_collection : (s t : State) (name : Text) (c d : Collection) → IsState s → IsState t →
    get s.collections name ≡ Some c → get t.collections name ≡ Some d → c.title ≡ d.title →
    c.time ≡ d.time → values c.features ≡ values d.features →
    get s.collections name ≡ get t.collections name
same_collection s t name c d sound after there here title time h =
    let features = same_values (λ (f : FeatureValue). f.id) c.features d.features
    (λ id f e. ((sound.made name c there).holds id f e).named)
    (λ id f e. ((after.made name d here).holds id f e).named) h in
    let same : c ≡ d = (λ i. record {
      title = title i;
      time = time i;
      features = features i;
    }) in
    there ∙ (ap (λ (x : Collection). Some x) same ∙ sym here)
