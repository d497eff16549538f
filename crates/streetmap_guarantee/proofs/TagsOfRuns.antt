-- Tags across crashes and openings.
use Rattle.std.proofs.Common.{◌≡◌, inl, inr, ℕ, List, [], ◌∷◌, ◌++◌, sym, ap, subst, ◌∙◌, arith}
use Rattle.streetmap_batch.specs.BatchValue.{BatchValue}
use Rattle.streetmap_ledger.specs.State.{State}
use Rattle.streetmap_ledger.specs.Batches.{after_all}
use Rattle.streetmap_ledger.specs.Kept.{batch_count}
use Rattle.streetmap_web.specs.Site.{SiteValue}
use Rattle.streetmap_guarantee.specs.Histories.{Event, acknowledged}
use Rattle.streetmap_guarantee.specs.Tagging.{state_after}
use Rattle.streetmap_guarantee.specs.Restarts.{Runs, LeadTo}
use Rattle.streetmap_guarantee.specs.Restarts.Runs.{none, more}
use Rattle.streetmap_guarantee.specs.TagsOfRuns.{Names, NamesInRuns, OneTagInAllRuns}
use Rattle.streetmap_guarantee.proofs.Restarts.{after_append}
use Rattle.streetmap_guarantee.proofs.Tagging.{Grow, all_grow, state_append, append_one, tag_happens, one_tag_one_state}

grow_then : (s t u : State) → Grow s t → Grow t u → Grow s u
grow_then s t u one other = record {
  more = omega (arith, one.more, other.more);
  stays = λ same.
      let back : batch_count u ≡ batch_count t = omega (arith, same, one.more, other.more) in
      let first : batch_count t ≡ batch_count s = omega (arith, same, back) in
      other.stays back ∙ one.stays first;
}

module _ (site : SiteValue) (s : State) (history : List Event) (n : ℕ) (named : State) (it : Names site s history n named) where
  -- the tag is the number of its batches
  counted : n ≡ batch_count named
  counted = tag_happens site s history it.before it.event n it.happens it.tag ∙ ap batch_count (sym it.is)

  -- the state came after the first one
  from_start : Grow s named
  from_start = subst (λ (t : State). Grow s t) (sym it.is) (all_grow s (acknowledged (it.before ++ it.event ∷ [])))

  -- and what the run led to came after it
  to_end : (extra : List BatchValue) → Grow named (after_all s (acknowledged history ++ extra))
  to_end extra =
      let first : List Event = it.before ++ it.event ∷ [] in
      let whole : history ≡ first ++ it.happens.later = it.happens.is ∙ sym (append_one it.before it.happens.later it.event) in
      let run : state_after s history ≡ after_all (state_after s first) (acknowledged it.happens.later) =
      ap (state_after s) whole ∙ state_append s first it.happens.later in
      let last : after_all s (acknowledged history ++ extra) ≡ after_all (after_all named (acknowledged it.happens.later)) extra =
      after_append s (acknowledged history) extra
      ∙ ap (λ (t : State). after_all t extra) (run ∙ ap (λ (t : State). after_all t (acknowledged it.happens.later)) (sym it.is)) in
      subst (λ (t : State). Grow named t) (sym last)
      (grow_then named (after_all named (acknowledged it.happens.later)) (after_all (after_all named (acknowledged it.happens.later)) extra)
      (all_grow named (acknowledged it.happens.later)) (all_grow (after_all named (acknowledged it.happens.later)) extra))

-- what is known of a state that a tag of some run names
record Follows (s : State) (n : ℕ) (named : State) : Type 0 where
  counted : n ≡ batch_count named
  after : Grow s named

follows : {Image : Type 0} (holds : Image → State → Type 0) (site : SiteValue) (first last : Image) (runs : Runs holds site first last) (s t : State)
    (led : LeadTo runs s t) (n : ℕ) (named : State) → NamesInRuns runs s t led n named → Follows s n named
follows holds site first last none s t led n named it = absurd it
follows holds site first last (more {left = left} run runs) s t (held, extra, few, led) n named (inl it) = record {
  counted = counted site s (run.guarantee s held).history n named it;
  after = from_start site s (run.guarantee s held).history n named it;
}
follows holds site first last (more {left = left} run runs) s t (held, extra, few, led) n named (inr it) =
    let from = after_all s (acknowledged (run.guarantee s held).history ++ extra) in
    let rest = follows holds site left last runs from t led n named it in
    record {
      counted = rest.counted;
      after = grow_then s from named (all_grow s (acknowledged (run.guarantee s held).history ++ extra)) rest.after;
    }

-- a state that an earlier run named is one that a later run named, if both have one tag
earlier_is_later : (site : SiteValue) (s : State) (history : List Event) (extra : List BatchValue) (n : ℕ) (named other : State)
    → Names site s history n named → Follows (after_all s (acknowledged history ++ extra)) n other → other ≡ named
earlier_is_later site s history extra n named other it later =
    (grow_then named (after_all s (acknowledged history ++ extra)) other (to_end site s history n named it extra) later.after).stays
    (sym later.counted ∙ counted site s history n named it)

pub one_tag_in_all_runs : OneTagInAllRuns
one_tag_in_all_runs Image holds site first last none s t led n named other one two = absurd one
one_tag_in_all_runs Image holds site first last (more run runs) s t (held, extra, few, led) n named other (inl one) (inl two) =
    one.is ∙ one_tag_one_state site s (run.guarantee s held).history one.before two.before one.event two.event n one.happens two.happens one.tag two.tag ∙ sym two.is
one_tag_in_all_runs Image holds site first last (more {left = left} run runs) s t (held, extra, few, led) n named other (inl one) (inr two) =
    let from = after_all s (acknowledged (run.guarantee s held).history ++ extra) in
    sym (earlier_is_later site s (run.guarantee s held).history extra n named other one (follows holds site left last runs from t led n other two))
one_tag_in_all_runs Image holds site first last (more {left = left} run runs) s t (held, extra, few, led) n named other (inr one) (inl two) =
    let from = after_all s (acknowledged (run.guarantee s held).history ++ extra) in
    earlier_is_later site s (run.guarantee s held).history extra n other named two (follows holds site left last runs from t led n named one)
one_tag_in_all_runs Image holds site first last (more {left = left} run runs) s t (held, extra, few, led) n named other (inr one) (inr two) =
    one_tag_in_all_runs Image holds site left last runs (after_all s (acknowledged (run.guarantee s held).history ++ extra)) t led n named other one two
