-- A state whose features are put in, one after the other.
use Rattle.std.proofs.Common.{◌≡◌, ◌≢◌, inl, inr, List, [], ◌∷◌, false, cond, Option, Some, None, option_map, Result, Ok, Err, refl, sym, ap, subst, ◌∙◌}
use Rattle.std.specs.Prelude.{option_and_then}
use Rattle.std.specs.FinMap.{get, insert, get-insert, same_map}
use Rattle.std.specs.Cmp.Lexicographic.{nat_list_cmp_total}
use Rattle.std.proofs.lemmas.Bool.{cases_Bool, false_from_ne_true, true≢false}
use Rattle.sqlite.specs.Order.{Row}
use Rattle.sqlite_rules.proofs.ListLemmas.{all_has, all_from}
use Rattle.streetmap_geojson.specs.FeatureValue.{FeatureValue}
use Rattle.streetmap_batch.specs.Text.{Text}
use Rattle.streetmap_ledger.specs.State.{State, Collection, timed, with_features}
use Rattle.streetmap_ledger.specs.WellFormed.{IsState, IsPlaced}
use Rattle.streetmap_ledger.specs.declared.reply.Refusal.{Refusal}
use Rattle.streetmap_rows.specs.Holds.{KeyPair, same_text}
use Rattle.streetmap_rows.proofs.TextKeys.{one_text, text_is}
use Rattle.streetmap_rows.specs.Rows.{feature_at}
use Rattle.streetmap_tables.specs.Old.{old_cells}
use Rattle.sqlite.specs.Store.{Ghosts}
use Rattle.sqlite.specs.Held.{Held}
use Rattle.streetmap_tables.specs.Part.{PutsEach, bare, emptied, pair_in, AreRowsOf, Lacks}
use Rattle.streetmap_tables.proofs.OldRows.{is_pair, pair_same, pair_own}
use Rattle.streetmap_tables.proofs.RemadeTables.{get_emptied, no_feature}

-- ---- none of them is in

pub lacks_all : (s : State) (rows : List Row) → AreRowsOf s rows → Lacks rows s (emptied s)
lacks_all s rows are = record {
  keys = refl;
  heads = λ name. ap (option_map bare) (get_emptied s name) ∙ twice (get s.collections name);
  each = are.each;
  apart = are.apart;
  missing = all_from _ rows (λ r h. no_feature s (pair_in r));
  within = λ p f h. absurd (let e = sym (no_feature s p) ∙ h in cc);
  all = λ p f is. inr (are.all p f is);
}
  where
    twice : (o : Option Collection) → option_map bare (option_map bare o) ≡ option_map bare o
    twice None = refl
    twice (Some c) = refl

-- ---- all of them are in

module _ (s t : State) (l : Lacks [] s t) where
  same_at : (p : KeyPair) → feature_at t p ≡ feature_at s p
  same_at p = go (feature_at t p) (feature_at s p) refl refl
    where
      go : (a b : Option FeatureValue) → feature_at t p ≡ a → feature_at s p ≡ b → feature_at t p ≡ feature_at s p
      go (Some f) b is at = is ∙ sym (l.within p f is)
      go None None is at = is ∙ sym at
      go None (Some f) is at = elim (l.all p f at) [ inl was ↦ was ∙ sym at | inr none ↦ absurd none ]

  module _ (name : Text) where
    same_features : (d c : Collection) → get t.collections name ≡ Some d → get s.collections name ≡ Some c → d.features ≡ c.features
    same_features d c is at = same_map nat_list_cmp_total one_text d.features c.features (λ id. let e = same_at (name, id) in rw (is, at) at e)

    same_collection : (a b : Option Collection) → get t.collections name ≡ a → get s.collections name ≡ b → option_map bare a ≡ option_map bare b → a ≡ b
    same_collection None None is at h = refl
    same_collection None (Some c) is at h = absurd (cc)
    same_collection (Some d) None is at h = absurd (cc)
    same_collection (Some d) (Some c) is at h =
        let heads : bare d ≡ bare c = cc in
        let features = same_features d c is at in
        λ i. Some (record { title = (heads i).title; time = (heads i).time; features = features i })

  pub lacks_none : t ≡ s
  lacks_none =
      let collections = same_map nat_list_cmp_total one_text t.collections s.collections
      (λ name. same_collection name (get t.collections name) (get s.collections name) refl refl (l.heads name)) in
      λ i. record { collections = collections i; keys = l.keys i }

-- ---- one more is in

-- the feature of a row, and its collection in the state that lacks it
pub record ToPut (row : Row) (s t : State) : Type 0 where
  pub p : KeyPair
  pub f : FeatureValue
  pub own : feature_at s p ≡ Some f
  pub row_is : row ≡ old_cells p f
  pub c : Collection
  pub there : get t.collections p.0 ≡ Some c
  pub absent : get c.features p.1 ≡ None
  pub placed : IsPlaced c.time p.1 f

module _ (s t : State) (row : Row) (more : List Row) (l : Lacks (row ∷ more) s t) where
  pair_is : (p : KeyPair) (f : FeatureValue) → row ≡ old_cells p f → pair_in row ≡ p
  pair_is p f is = ap pair_in is

  pub to_put : IsState s → ToPut row s t
  to_put well = go (get s.collections p.0) refl is
    where
      p : KeyPair
      p = l.each.0.0

      f : FeatureValue
      f = l.each.0.1

      is : feature_at s p ≡ Some f
      is = l.each.0.2

      row_is : row ≡ old_cells p f
      row_is = l.each.0.3

      lacks : feature_at t p ≡ None
      lacks = ap (feature_at t) (sym (pair_is p f row_is)) ∙ l.missing.0

      found : (c : Collection) → get s.collections p.0 ≡ Some c → get c.features p.1 ≡ Some f → (o : Option Collection) → get t.collections p.0 ≡ o →
          option_map bare o ≡ Some (bare c) → ToPut row s t
      found c at has None is h = absurd (cc)
      found c at has (Some d) there h =
          let heads : bare d ≡ bare c = cc in
          let placed = (well.made p.0 c at).holds p.1 f has in
          record {
            p = p;
            f = f;
            own = is;
            row_is = row_is;
            c = d;
            there = there;
            absent = rw there at lacks;
            placed = subst (λ time. IsPlaced time p.1 f) (ap (λ (x : Collection). x.time) (sym heads)) placed;
          }

      go : (o : Option Collection) → get s.collections p.0 ≡ o → option_and_then (λ (c : Collection). get c.features p.1) o ≡ Some f → ToPut row s t
      go None at h = absurd (cc)
      go (Some c) at h = found c at h (get t.collections p.0) refl (l.heads p.0 ∙ ap (option_map bare) at)

  module _ (it : ToPut row s t) where
    abbrev pub after : State
    after = with_features t it.p.0 it.c (insert it.c.features it.p.1 it.f)

    stored : (q : KeyPair) → feature_at after q ≡ cond (is_pair q it.p) (Some it.f) (feature_at t q)
    stored q =
        ap (λ o. option_and_then (λ (x : Collection). get x.features q.1) o) (get-insert nat_list_cmp_total t.collections it.p.0
        (record it.c { features = insert it.c.features it.p.1 it.f }) q.0) ∙ elim (cases_Bool (same_text q.0 it.p.0)) [
          | inl here ↦ rw here (get-insert nat_list_cmp_total it.c.features it.p.1 it.f q.1 ∙ elim (cases_Bool (same_text q.1 it.p.1)) [
            | inl also ↦ rw also refl
            | inr other ↦ rw (other, text_is q.0 it.p.0 here, it.there) refl
          ])
          | inr other ↦ rw other refl
        ]

    elsewhere : (q : KeyPair) → is_pair q it.p ≡ false → feature_at after q ≡ feature_at t q
    elsewhere q other = stored q ∙ (rw other refl)

    heads_after : (name : Text) → option_map bare (get after.collections name) ≡ option_map bare (get t.collections name)
    heads_after name = ap (option_map bare) (get-insert nat_list_cmp_total t.collections it.p.0 (record it.c { features = insert it.c.features it.p.1 it.f })
        name) ∙ elim (cases_Bool (same_text name it.p.0)) [
          | inl here ↦ rw (here, text_is name it.p.0 here, it.there) refl
          | inr other ↦ rw other refl
        ]

    pub lacks_after : Lacks more s after
    lacks_after = record {
      keys = l.keys;
      heads = λ name. heads_after name ∙ l.heads name;
      each = l.each.1;
      apart = l.apart.1;
      missing = all_from _ more (λ r h. elsewhere (pair_in r) (false_from_ne_true (is_pair (pair_in r) it.p)
          (λ same. all_has (λ x. pair_in row ≢ pair_in x) more r l.apart.0 h (pair_is it.p it.f it.row_is ∙ sym (pair_same (pair_in r) it.p same))))
          ∙ all_has (λ x. feature_at t (pair_in x) ≡ None) more r l.missing.1 h);
      within = λ q g h. elim (cases_Bool (is_pair q it.p)) [
        | inl here ↦
            (let some : Some it.f ≡ Some g = sym (stored q ∙ (rw here refl)) ∙ h in
            ap (feature_at s) (pair_same q it.p here) ∙ it.own ∙ some)
        | inr other ↦ l.within q g (sym (elsewhere q other) ∙ h)
      ];
      all = λ q g is. elim (cases_Bool (is_pair q it.p)) [
        | inl here ↦ inl (stored q ∙ (rw here refl) ∙ sym it.own ∙ ap (feature_at s) (sym (pair_same q it.p here)) ∙ is)
        | inr other ↦ elim (l.all q g is) [
          | inl was ↦ inl (elsewhere q other ∙ was)
          | inr has ↦ elim has [
            | inl same ↦
                (let at : q ≡ it.p = ap pair_in same ∙ pair_is it.p it.f it.row_is in
                absurd (true≢false (sym (pair_own q) ∙ ap (is_pair q) at ∙ other)))
            | inr later ↦ inr later
          ]
        ]
      ];
    }

-- ---- what is put is the feature with its time

same_feature : (f g : FeatureValue) → ◌≡◌ {A = Result FeatureValue Refusal} (Ok f) (Ok g) → g ≡ f
same_feature f g h = let same : f ≡ g = cc in sym same

timed_is : (property : Option Text) (id : Text) (f : FeatureValue) → IsPlaced property id f → timed property f ≡ Ok f
timed_is property id f it = rw it.timed refl

pub put_is : (property : Option Text) (id : Text) (f g : FeatureValue) → IsPlaced property id f → timed property f ≡ Ok g → g ≡ f
put_is property id f g it h = same_feature f g (sym (timed_is property id f it) ∙ h)

pub never_untimed : (property : Option Text) (id : Text) (f : FeatureValue) (why : Refusal) → IsPlaced property id f → timed property f ≡ Err why → ⊥
never_untimed property id f why it h = absurd (let e = sym (timed_is property id f it) ∙ h in cc)

-- what is put in for the rows that are left completes what was put in for all of them
abbrev pub Continues : {S : Type 0} → Ghosts S → List Row → List Row → Held S → Held S → Type 0
Continues {S} g rows left start now = (last : Held S) → PutsEach g left now last → PutsEach g rows start last
