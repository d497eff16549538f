-- What holds of a result, by what holds of each of its cases.
use Rattle.std.proofs.Common.{◌≡◌, Result, Ok, Err, IfOk, IfErr, OnOk, IsOkAnd, IsErrAnd, MatchResult, sym, subst}

pub by_result : {A E : Type 0} (r : Result A E) (P P' : A → Type 0) (Q Q' : E → Type 0) → IfOk r P → IfErr r Q → ((a : A) → P a → P' a) → ((e : E) → Q e → Q' e)
    → MatchResult r P' Q'
by_result (Ok a) P P' Q Q' ok err shown reported = shown a ok
by_result (Err e) P P' Q Q' ok err shown reported = reported e err

pub by_either : {A E : Type 0} (r : Result A E) (P : A → Type 0) (Q : E → Type 0) (R : Type 0) → IfOk r P → IfErr r Q → ((a : A) → P a → R) →
    ((e : E) → Q e → R) → R
by_either (Ok a) P Q R ok err shown reported = shown a ok
by_either (Err e) P Q R ok err shown reported = reported e err

pub on_ok : {A E : Type 0} (r : Result A E) (P : A → Type 0) (R : Type 0) → IfOk r P → ((a : A) → P a → R) → OnOk r R
on_ok (Ok a) P R ok shown = shown a ok
on_ok (Err e) P R ok shown = tt

-- the error of a result whose value was mapped
pub if_err : {A B E : Type 0} (r : Result A E) (q : Result B E) (P : A → B → Type 0) (Q Q' : E → Type 0) → MatchResult r (λ a. IsOkAnd q (P a)) (λ e. q ≡ Err e)
    → IfErr r Q → ((e : E) → Q e → Q' e) → IfErr q Q'
if_err (Ok a) (Ok b) P Q Q' mapped err reported = tt
if_err (Ok a) (Err e) P Q Q' mapped err reported = absurd mapped
if_err (Err e) (Ok b) P Q Q' mapped err reported = absurd (cc)
if_err (Err e) (Err f) P Q Q' mapped err reported = let same : f ≡ e = cc in subst Q' (sym same) (reported e err)

-- the error that a `?` hands on
pub handed_on : {A E : Type 0} (r : Result A E) (e : E) (P : A → Type 0) (Q : E → Type 0) → IsErrAnd r (λ x. x ≡ e) → Q e → MatchResult r P Q
handed_on (Ok a) e P Q same reported = absurd same
handed_on (Err x) e P Q same reported = subst Q (sym same) reported

pub err_handed_on : {A E : Type 0} (r : Result A E) (e : E) (Q : E → Type 0)
    → IsErrAnd r (λ x. x ≡ e) → Q e → IfErr r Q
err_handed_on (Ok a) e Q same reported = absurd same
err_handed_on (Err x) e Q same reported = subst Q (sym same) reported
