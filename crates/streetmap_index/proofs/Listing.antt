-- The summaries of all collections, from what is known of them.
use Rattle.std.proofs.Common.{◌≡◌, List, [], ◌∷◌, ◌++◌, Bool, true, false, cond, T, Option, None, Some, IsSome, String, string_bytes, map, refl, sym, ap, subst}
use Rattle.std.proofs.Common.{◌∙◌, append-nil}
use Rattle.std.specs.Option.{option_map}
use Rattle.std.specs.String.{string_cmp}
use Rattle.std.specs.Ordering.{is_lt, is_eq}
use Rattle.std.specs.declared.cmp.Ordering.{Ordering}
use Rattle.std.specs.declared.cmp.Ordering.TheVariants.{Less, Equal, Greater}
use Rattle.std.specs.declared.alloc.Global.{Global}
use Rattle.std.specs.Cmp.Lexicographic.{nat_list_cmp_total}
use Rattle.std.specs.List.{AllByRecursion, flat_map}
use Rattle.std.specs.List.Sorted.{IsStrictlySortedBy}
use Rattle.std.specs.Map.{keys_of}
use Rattle.std.specs.FinMap.{get, entries, entries_sorted, find, is_sorted, from_sorted, same_map, get-entries, get-from_sorted, entries-from_sorted}
use Rattle.std.specs.FinMap.Entries.{below_all}
use Rattle.streetmap_batch.specs.Text.{Text, text_cmp}
use Rattle.streetmap_ledger.specs.State.{State, Collection}
use Rattle.streetmap_ledger.specs.Summaries.{SummaryValue, summary_of, summary_in, summaries_in}
use Rattle.streetmap_ledger.specs.SummaryView.{summary_value, summary_values}
use Rattle.streetmap_ledger.specs.declared.summary.Summary.{Summary}
use Rattle.streetmap_ledger.proofs.TextMaps.{one_text, first, second}
use Rattle.streetmap_index.specs.Index.{IsOutlinedIf, AreKnown, KnowsAll, known_under}
use Rattle.streetmap_index.specs.declared.outlined.OutlinedCollection.{OutlinedCollection}
use Rattle.streetmap_index.proofs.Known.{Known}
use Rattle.streetmap_outlines.proofs.InChunks.{both}
use Rattle.streetmap_outlines.proofs.Pairing.{each_found}

-- ---- keys in their order
-- entries of which the keys alone count
abbrev marks : {X : Type 0} → List (Text × X) → List (Text × Unit {0})
marks es = map (λ e. (e.0, tt)) es

abbrev names : {X : Type 0} → List (Text × X) → List Text
names es = map (λ e. e.0) es

abbrev has : {X : Type 0} → Option X → Option (Unit {0})
has o = option_map (λ x. tt) o

module _ {X : Type 0} where
  below_marks : (k : Text) (es : List (Text × X)) → T (below_all text_cmp k es) → T (below_all text_cmp k (marks es))
  below_marks k [] h = tt
  below_marks k (e ∷ es) h = both _ _ (first _ _ h) (below_marks k es (second _ _ h))

  sorted_marks : (es : List (Text × X)) → T (is_sorted text_cmp es) → T (is_sorted text_cmp (marks es))
  sorted_marks [] h = tt
  sorted_marks (e ∷ es) h = both _ _ (below_marks e.0 es (first _ _ h)) (sorted_marks es (second _ _ h))

  has_by : (b : Bool) (x : X) (o : Option X) → cond b (Some tt) (has o) ≡ has (cond b (Some x) o)
  has_by true x o = refl
  has_by false x o = refl

  find_marks : (q : Text) (es : List (Text × X)) → find text_cmp q (marks es) ≡ has (find text_cmp q es)
  find_marks q [] = refl
  find_marks q (e ∷ es) = ap (cond (is_eq (text_cmp q e.0)) (Some tt)) (find_marks q es) ∙ has_by (is_eq (text_cmp q e.0)) e.1 (find text_cmp q es)

  names_of_marks : (es : List (Text × X)) → names (marks es) ≡ names es
  names_of_marks [] = refl
  names_of_marks (e ∷ es) = ap (λ ks. e.0 ∷ ks) (names_of_marks es)

-- entries in order of two maps that have the same keys have them in the same order
same_names : {X Y : Type 0} (es : List (Text × X)) (fs : List (Text × Y)) → T (is_sorted text_cmp es) → T (is_sorted text_cmp fs) →
    ((q : Text) → has (find text_cmp q es) ≡ has (find text_cmp q fs)) → names es ≡ names fs
same_names es fs up more same =
    let one = sorted_marks es up in
    let other = sorted_marks fs more in
    let all : from_sorted (marks es) ≡ from_sorted (marks fs) = same_map nat_list_cmp_total one_text (from_sorted (marks es)) (from_sorted (marks fs)) (λ q.
    get-from_sorted text_cmp (marks es) q one ∙ (find_marks q es ∙ (same q ∙ (sym (find_marks q fs) ∙ sym (get-from_sorted text_cmp (marks fs) q other))))) in
    sym (names_of_marks es)
    ∙ (ap names (sym (entries-from_sorted text_cmp (marks es) one)) ∙ (ap (λ m. names (entries m)) all
    ∙ (ap names (entries-from_sorted text_cmp (marks fs) other) ∙ names_of_marks fs)))

-- ---- what is known, by text
abbrev pub by_text : Known → List (Text × OutlinedCollection)
by_text es = map (λ e. (string_bytes e.0, e.1)) es

below : (k : String Global) (es : Known) → AllByRecursion (λ y. string_cmp k y ≡ Less) (keys_of es) → T (below_all text_cmp (string_bytes k) (by_text es))
below k [] h = tt
below k (e ∷ es) h = both _ _ (subst (λ r. T (is_lt r)) (sym h.0) tt) (below k es h.1)

ascending : (es : Known) → IsStrictlySortedBy string_cmp (keys_of es) → T (is_sorted text_cmp (by_text es))
unfolding IsStrictlySortedBy
ascending [] h = tt
ascending (e ∷ es) h = both _ _ (below e.0 es h.0) (ascending es h.1)

found_by_text : (q : Text) (es : Known) → find text_cmp q (by_text es) ≡ known_under q es
found_by_text q [] = refl
found_by_text q (e ∷ es) = ap (cond (is_eq (text_cmp q (string_bytes e.0))) (Some e.1)) (found_by_text q es)

-- what is known exists
there : (o : OutlinedCollection) (c : Option Collection) → IsOutlinedIf o c → Some tt ≡ has c
there o None h = absurd h
there o (Some c) h = refl

has_both : (known : Option OutlinedCollection) (c : Option Collection) → ((o : OutlinedCollection) → known ≡ Some o → IsOutlinedIf o c) →
    ((d : Collection) → c ≡ Some d → IsSome known) → has known ≡ has c
has_both None None is all = refl
has_both None (Some c) is all = let none : IsSome {T = OutlinedCollection} None = all c refl in absurd cc
has_both (Some o) c is all = there o c (is o refl)

-- ---- the summaries under names
abbrev option_list : {X : Type 0} → Option X → List X
option_list None = []
option_list (Some x) = x ∷ []

abbrev pub reported_under : State → List Text → List SummaryValue
reported_under s ks = flat_map (λ k. option_list (summary_in s k)) ks

reported_entries : (s : State) (es : List (Text × Collection)) → AllByRecursion (λ e. get s.collections e.0 ≡ Some e.1) es → reported_under s (names es)
    ≡ map (λ e. summary_of e.0 e.1) es
reported_entries s [] h = refl
reported_entries s (e ∷ es) h =
    ap (λ o. option_list (option_map (summary_of e.0) o) ++ reported_under s (names es)) h.0 ∙ ap (λ ss. summary_of e.0 e.1 ∷ ss) (reported_entries s es h.1)

-- if all is known, the summaries under the names known are those of all
pub reported_of_all : (s : State) (es : Known) → IsStrictlySortedBy string_cmp (keys_of es) → AreKnown es s → KnowsAll es s →
    reported_under s (names (by_text es)) ≡ summaries_in s
reported_of_all s es up known all =
    let cs = entries s.collections in
    let same = same_names (by_text es) cs (ascending es up) (entries_sorted s.collections) (λ q.
    ap has (found_by_text q es) ∙ (has_both (known_under q es) (get s.collections q) (λ o is. known q o is) (λ c is. all q c is)
    ∙ ap has (get-entries s.collections q))) in
    ap (reported_under s) same
    ∙ reported_entries s cs (each_found (λ k c. get s.collections k ≡ Some c) cs (entries_sorted s.collections) (λ k c is. get-entries s.collections k ∙ is))

-- each part of what is known is true
pub each_known : (s : State) (es : Known) → IsStrictlySortedBy string_cmp (keys_of es) → AreKnown es s →
    AllByRecursion (λ e. IsOutlinedIf e.1 (get s.collections e.0)) (by_text es)
each_known s es up known = each_found (λ k o. IsOutlinedIf o (get s.collections k)) (by_text es) (ascending es up)
    (λ k o is. known k o (sym (found_by_text k es) ∙ is))

-- ---- one more collection is listed
more_reported : (reported : List Summary) (one : Summary) (rest : List SummaryValue) → summary_values (reported ++ one ∷ []) ++ rest ≡ summary_values reported
    ++ summary_value one ∷ rest
more_reported [] one rest = refl
more_reported (t ∷ reported) one rest = ap (λ ss. summary_value t ∷ ss) (more_reported reported one rest)

-- these collections are listed, and those under the names known are left
pub record IsReporting (s : State) (reported : List Summary) (left : Known) : Type 0 where
  pub whole : summary_values reported ++ reported_under s (names (by_text left)) ≡ summaries_in s
  pub known : AllByRecursion (λ e. IsOutlinedIf e.1 (get s.collections e.0)) (by_text left)

pub reports_on : (s : State) (reported next : List Summary) (key : String Global) (o : OutlinedCollection) (left : Known) (one : Summary) →
    IsReporting s reported ((key, o) ∷ left) → next ≡ reported ++ one ∷ []
    → ((c : Collection) → get s.collections (string_bytes key) ≡ Some c → IsOutlinedIf o (Some c) → summary_value one ≡ summary_of (string_bytes key) c) →
    IsReporting s next left
reports_on s reported next key o left one telling is reports = by (get s.collections (string_bytes key)) refl telling.known.0 where
  by : (c : Option Collection) → get s.collections (string_bytes key) ≡ c → IsOutlinedIf o c → IsReporting s next left
  by None at known = absurd known
  by (Some c) at known = record {
    whole = ap (λ ts. summary_values ts ++ reported_under s (names (by_text left))) is
        ∙ (more_reported reported one (reported_under s (names (by_text left)))
        ∙ (ap (λ v. summary_values reported ++ v ∷ reported_under s (names (by_text left))) (reports c at known)
        ∙ (ap (λ x. summary_values reported ++ (option_list (option_map (summary_of (string_bytes key)) x) ++ reported_under s (names (by_text left)))) (sym at)
        ∙ telling.whole)));
    known = telling.known.1;
  }

-- ---- names that are all known
abbrev pub IsNamed : Known → Summary → Type 0
IsNamed es summary = IsSome (known_under (string_bytes summary.id) es)

pub all_named : (es : Known) (s : State) (reported : List Summary) → summary_values reported ≡ summaries_in s → AllByRecursion (IsNamed es) reported →
    KnowsAll es s
all_named es s reported is named name c at = by (entries s.collections) reported is named (sym (get-entries s.collections name) ∙ at) where
  at_name : (k : Text) (xs : List (Text × Collection)) (d : Collection) (r : Ordering) → text_cmp name k ≡ r → IsSome (known_under k es) →
      (find text_cmp name xs ≡ Some c → IsSome (known_under name es)) → cond (is_eq r) (Some d) (find text_cmp name xs) ≡ Some c → IsSome (known_under name es)
  at_name k xs d Less e here later at = later at
  at_name k xs d Greater e here later at = later at
  at_name k xs d Equal e here later at = subst (λ n. IsSome (known_under n es)) (sym (one_text name k e)) here

  by : (xs : List (Text × Collection)) (ts : List Summary) → summary_values ts ≡ map (λ x. summary_of x.0 x.1) xs → AllByRecursion (IsNamed es) ts →
      find text_cmp name xs ≡ Some c → IsSome (known_under name es)
  by [] ts is named at = absurd cc
  by (x ∷ xs) [] is named at = absurd cc
  by (x ∷ xs) (t ∷ ts) is named at =
      let head : summary_value t ≡ summary_of x.0 x.1 = cc in
      let tail : summary_values ts ≡ map (λ x. summary_of x.0 x.1) xs = cc in
      at_name x.0 xs x.1 (text_cmp name x.0) refl (subst (λ n. IsSome (known_under n es)) (ap (λ (v : SummaryValue). v.id) head) named.0)
      (by xs ts tail named.1) at

-- none is left to list
pub none_left : (s : State) (reported : List Summary) → IsReporting s reported [] → summary_values reported ≡ summaries_in s
none_left s reported telling = sym (append-nil (summary_values reported)) ∙ telling.whole
