-- Times of a client, one after the other.
use Rattle.std.proofs.Common.{◌≡◌, ◌<◌, ◌≤◌, ◌∙◌, ℕ, sym, subst, Bool, true, false, cond, Option, List, Result, Ok, Err, IfOk, IfErr, MatchResult, IsErrAnd, ap, refl, arith}
use Rattle.std.proofs.Math.Logic.{⊎_elim}
use Rattle.std.proofs.Math.Nat.{eq-or-lt_of_le}
use Rattle.streetmap_connections.specs.declared.client.Client.{Client}
use Rattle.streetmap_connections.specs.Clients.{place_of}
use Rattle.streetmap_connections.specs.Timers.{IsTimedFrom, Times, restarted}

less_than_itself : (n : ℕ) → ¬ (n < n)
less_than_itself n less = omega arith

timed_here : (now : ℕ) (a : Times) → IsTimedFrom now a a
timed_here now a = record {
  more = omega arith;
  waits = λ same. omega arith;
  done = λ less. absurd (less_than_itself a.done less);
  renewed = λ same less. absurd (less_than_itself a.pieces less);
  kept = λ same pieces. refl;
  request = λ same. refl;
}

pub timed_same : (now : ℕ) (a b : Times) → b ≡ a → IsTimedFrom now a b
timed_same now a b same = subst (λ (x : Times). IsTimedFrom now a x) (sym same) (timed_here now a)

-- times one after the other, as numbers
module _ (now aw bw cw ad bd cd ap bp cp : ℕ) (more1 : ad ≤ bd) (more2 : bd ≤ cd) (waits1 : bd ≡ ad → ap ≤ bp) (waits2 : cd ≡ bd → bp ≤ cp)
    (done1 : ad < bd → bw ≡ now) (done2 : bd < cd → cw ≡ now) (renewed1 : bd ≡ ad → ap < bp → bw ≡ now) (renewed2 : cd ≡ bd → bp < cp → cw ≡ now)
    (kept1 : bd ≡ ad → bp ≡ ap → bw ≡ aw) (kept2 : cd ≡ bd → cp ≡ bp → cw ≡ bw) where
  -- if nothing was done in the second stretch, the time of the first stays, or is renewed
  later : cd ≡ bd → bw ≡ now → cw ≡ now
  later same was = ⊎_elim (λ (e : bp ≡ cp). kept2 same (sym e) ∙ was) (λ (l : bp < cp). renewed2 same l) (eq-or-lt_of_le (waits2 same))

  done_then : ad < cd → cw ≡ now
  done_then less = ⊎_elim (λ (e : bd ≡ cd). later (sym e) (done1 (omega arith))) (λ (l : bd < cd). done2 l) (eq-or-lt_of_le more2)

  renewed_then : cd ≡ ad → ap < cp → cw ≡ now
  renewed_then same less =
      let first : bd ≡ ad = omega arith in
      let second : cd ≡ bd = omega arith in
      ⊎_elim (λ (e : ap ≡ bp). renewed2 second (omega arith)) (λ (l : ap < bp). later second (renewed1 first l)) (eq-or-lt_of_le (waits1 first))

  kept_then : cd ≡ ad → cp ≡ ap → cw ≡ aw
  kept_then same pieces =
      let first : bd ≡ ad = omega arith in
      let second : cd ≡ bd = omega arith in
      let low : ap ≤ bp = waits1 first in
      let high : bp ≤ cp = waits2 second in
      kept2 second (omega arith) ∙ kept1 first (omega arith)

request_then : (now aw bw cw ad bd cd : ℕ) → ad ≤ bd → bd ≤ cd → (ad < bd → bw ≡ now) → (bd < cd → cw ≡ now) → (cd ≡ bd → cw ≡ bw) → ad < cd → cw ≡ now
request_then now aw bw cw ad bd cd more1 more2 done1 done2 kept2 less = ⊎_elim (λ (e : bd ≡ cd). kept2 (sym e) ∙ done1 (omega arith)) (λ (l : bd < cd). done2 l) (eq-or-lt_of_le more2)

pub timed_then : (now : ℕ) (a b c : Times) → IsTimedFrom now a b → IsTimedFrom now b c → IsTimedFrom now a c
timed_then now a b c before after = record {
  more = omega arith;
  waits = λ same. omega arith;
  done = λ less. (
    done_then now a.since b.since c.since a.done b.done c.done a.pieces b.pieces c.pieces before.more after.more before.waits after.waits
        (λ l. (before.done l).0) (λ l. (after.done l).0) before.renewed after.renewed before.kept after.kept less,
    request_then now a.request_since b.request_since c.request_since a.done b.done c.done before.more after.more (λ l. (before.done l).1) (λ l. (after.done l).1) after.request less,
  );
  renewed = renewed_then now a.since b.since c.since a.done b.done c.done a.pieces b.pieces c.pieces before.more after.more before.waits after.waits
      (λ l. (before.done l).0) (λ l. (after.done l).0) before.renewed after.renewed before.kept after.kept;
  kept = kept_then now a.since b.since c.since a.done b.done c.done a.pieces b.pieces c.pieces before.more after.more before.waits after.waits
      (λ l. (before.done l).0) (λ l. (after.done l).0) before.renewed after.renewed before.kept after.kept;
  request = λ same. omega arith;
}

-- the place of a client stays while its times change
pub place_restarts : {S : Type 0} (remaining contents : S → Option (List ℕ)) (now : ℕ) (b : Bool) (x y : Client S) → y ≡ cond b (restarted now x) x
    → place_of remaining contents y ≡ place_of remaining contents x
place_restarts {S} remaining contents now true x y e = ap (λ (c : Client S). place_of remaining contents c) e
place_restarts {S} remaining contents now false x y e = ap (λ (c : Client S). place_of remaining contents c) e

-- a call that took nothing or failed for good leaves a stream that is gone
pub gone_by_send : {E : Type 0} (r : Result ℕ E) (Final : E → Type 0) (Some Gone : Type 0) → Some → MatchResult r (λ n. n ≡ 0) Final
    → IfOk r (λ n. n ≡ 0 → Some → Gone) → IfErr r (λ e. Final e → Gone) → Gone
gone_by_send (Ok n) Final Some Gone some ends none gone = none ends some
gone_by_send (Err e) Final Some Gone some ends none gone = gone ends

pub gone_by_receive : {E : Type 0} (r : Result ℕ E) (Final : E → Type 0) (Gone : Type 0) → IsErrAnd r Final → IfErr r (λ e. Final e → Gone) → Gone
gone_by_receive (Ok n) Final Gone ends gone = absurd ends
gone_by_receive (Err e) Final Gone ends gone = gone ends
