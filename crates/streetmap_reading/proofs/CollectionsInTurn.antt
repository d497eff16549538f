-- Collections read one after the other.
use Rattle.std.proofs.Common.{◌≤◌, ◌≡◌, List, [], ◌∷◌, ◌++◌, map, Some}
use Rattle.std.proofs.Common.{None, IsTrue, refl, sym, ap, subst, ◌∙◌, append-nil}
use Rattle.std.proofs.Common.{append_assoc, length, arith}
use Rattle.std.specs.List.{AllByRecursion}
use Rattle.std.specs.FinMap.{get, entries}
use Rattle.sqlite.specs.State.{State as Seen, HasCleanDisk, IsUnchanged, Survives}
use Rattle.sqlite.proofs.Callers.{unchanged_then}
use Rattle.sqlite.proofs.StateLemmas.{unchanged}
use Rattle.streetmap_batch.specs.Text.{Text}
use Rattle.streetmap_ledger.specs.State.{State, Collection}
use Rattle.streetmap_ledger.specs.Summaries.{summary_of, summaries_in}
use Rattle.streetmap_ledger.specs.SummaryView.{summary_value, summary_values}
use Rattle.streetmap_ledger.specs.declared.summary.Summary.{Summary}
use Rattle.streetmap_rows.specs.KeptStates.{Keeps}
use Rattle.streetmap_rows.specs.TableReads.{Stays}
use Rattle.streetmap_reading.proofs.BetweenRows.{map_append, survives_still}
use Rattle.streetmap_rows.proofs.ReadsInTurn.{clean_before, survives_both}
use Rattle.streetmap_reading.specs.Held.{head_of}
use Rattle.streetmap_reading.specs.PassResults.{CompletesHead}
use Rattle.streetmap_reading.proofs.ShownOutlines.{found_each}

-- the summaries that were read and those that are left are of all collections
pub record IsReporting (s : State) (left reported : List Summary) : Type 0 where
  pub rest : List (Text × Collection)
  pub whole : summary_values reported ++ map (λ e. summary_of e.0 e.1) rest ≡ summaries_in s
  pub heads : summary_values left ≡ map (λ e. head_of e.0 e.1) rest
  pub there : AllByRecursion (λ e. get s.collections e.0 ≡ Some e.1) rest

-- the reads so far
pub record SoFar (old now : Seen) (heads left reported : List Summary) : Type 0 where
  pub survives : Survives old now (λ _. Unit {0})
  pub stays : Stays old now
  pub same : HasCleanDisk now → (s : State) → old.step_limit ≡ None → Keeps s old.now → now.now ≡ old.now
  pub unchanged : HasCleanDisk now → (s : State) → old.step_limit ≡ None → Keeps s old.now → IsTrue old.is_open → IsUnchanged old now
  pub reports : HasCleanDisk now → (s : State) → old.step_limit ≡ None → Keeps s old.now → summary_values heads
      ≡ map (λ e. head_of e.0 e.1) (entries s.collections) → IsReporting s left reported

pub begins : (old : Seen) (heads left reported : List Summary) → left ≡ heads → reported ≡ [] → SoFar old old heads left reported
begins old heads left reported same none = record {
  survives = survives_still old (λ _. Unit {0});
  stays = λ clean s limit keeps trees leaves. leaves;
  same = λ clean s limit keeps. refl;
  unchanged = λ clean s limit keeps live. unchanged old live;
  reports = λ clean s limit keeps are. record {
    rest = entries s.collections;
    whole = ap
        (λ l. summary_values l ++ map (λ e. summary_of e.0 e.1) (entries s.collections)) none;
    heads = ap summary_values same ∙ are;
    there =
        found_each old.now s keeps;
  };
}

-- one more collection was read
telling_on : (s : State) (h : Summary) (left reported : List Summary) (summary : Summary) → IsReporting s (h ∷ left) reported → CompletesHead h s summary →
    IsReporting s left (reported ++ summary ∷ [])
telling_on s h left reported summary t new = go t.rest t.whole t.heads t.there
  where
    go : (rest : List (Text × Collection)) → summary_values reported ++ map (λ e. summary_of e.0 e.1) rest ≡ summaries_in s → summary_value h
        ∷ summary_values left ≡ map (λ e. head_of e.0 e.1) rest → AllByRecursion (λ e. get s.collections e.0 ≡ Some e.1) rest
        → IsReporting s left (reported ++ summary ∷ [])
    go [] whole heads there = absurd (cc)
    go (e ∷ rest) whole heads there =
        let first : summary_value h ≡ head_of e.0 e.1 = cc in
        let later : summary_values left ≡ map (λ e. head_of e.0 e.1) rest = cc in
        let is : summary_value summary ≡ summary_of e.0 e.1 = new e.0 e.1 there.0 first in
        record {
          rest = rest;
          whole = ap (λ l. l ++ map (λ e. summary_of e.0 e.1) rest) (map_append summary_value reported (summary ∷ []))
              ∙ append_assoc (summary_values reported) (summary_value summary ∷ []) (map (λ e. summary_of e.0 e.1) rest)
              ∙ ap (λ v. summary_values reported ++ v ∷ map (λ e. summary_of e.0 e.1) rest) is ∙ whole;
          heads = later;
          there = there.1;
        }

module _ (old mid new : Seen) (heads : List Summary) (h : Summary) (left reported : List Summary) (so : SoFar old mid heads (h ∷ left) reported)
    (survives : Survives mid new (λ _. Unit {0})) (s : State) (limit : old.step_limit ≡ None) (keeps : Keeps s old.now) (clean : HasCleanDisk new) where
  pub early : HasCleanDisk mid
  early = clean_before mid new (λ _. Unit {0}) survives clean

  pub limited : mid.step_limit ≡ None
  limited = so.survives.limit ∙ limit

  pub kept : Keeps s mid.now
  kept = subst (Keeps s) (sym (so.same early s limit keeps)) keeps

-- the state of the loop, with one more read
pub goes_on : (old mid new : Seen) (heads : List Summary) (h : Summary) (left reported next : List Summary) (summary : Summary) →
    SoFar old mid heads (h ∷ left) reported → Survives mid new (λ _. Unit {0}) → Stays mid new
    → (HasCleanDisk new → (s : State) → mid.step_limit ≡ None → Keeps s mid.now → CompletesHead h s summary × IsUnchanged mid new) → next ≡ reported ++ summary
    ∷ [] → SoFar old new heads left next
goes_on old mid new heads h left reported next summary so survives stays shows more = record {
  survives = survives_both old mid new so.survives survives;
  stays = λ clean s limit keeps trees leaves. so.stays (early old mid new heads h left reported so survives s limit keeps clean) s limit keeps trees
      (stays clean s (limited old mid new heads h left reported so survives s limit keeps clean)
      (kept old mid new heads h left reported so survives s limit keeps clean) trees leaves);
  same = λ clean s limit keeps. (shows clean s (limited old mid new heads h left reported so survives s limit keeps clean)
      (kept old mid new heads h left reported so survives s limit keeps clean)).1.0.now_is
      ∙ so.same (early old mid new heads h left reported so survives s limit keeps clean) s limit keeps;
  unchanged = λ clean s limit keeps live. unchanged_then old mid new (so.unchanged (early old mid new heads h left reported so survives s limit keeps clean) s
      limit keeps live) (shows clean s (limited old mid new heads h left reported so survives s limit keeps clean)
      (kept old mid new heads h left reported so survives s limit keeps clean)).1;
  reports = λ clean s limit keeps are. subst (IsReporting s left) (sym more)
      (telling_on s h left reported summary (so.reports (early old mid new heads h left reported so survives s limit keeps clean) s limit keeps are)
      (shows clean s (limited old mid new heads h left reported so survives s limit keeps clean)
      (kept old mid new heads h left reported so survives s limit keeps clean)).0);
}

-- no collection is left
pub reported_all : (s : State) (left reported : List Summary) → left ≡ [] → IsReporting s left reported → summary_values reported ≡ summaries_in s
reported_all s left reported none t = go t.rest t.whole (sym (ap summary_values none) ∙ t.heads)
  where
    go : (rest : List (Text × Collection)) → summary_values reported ++ map (λ e. summary_of e.0 e.1) rest ≡ summaries_in s → []
        ≡ map (λ e. head_of e.0 e.1) rest → summary_values reported ≡ summaries_in s
    go [] whole heads = sym (append-nil (summary_values reported)) ∙ whole
    go (e ∷ rest) whole heads = absurd (cc)

pub none_left : (xs : List Summary) → length xs ≡ 0 → xs ≡ []
none_left [] h = refl
none_left (x ∷ xs) h = absurd (omega arith)
