-- An acknowledged batch is kept, and a batch that is kept is repeated.
use Rattle.std.proofs.Common.{◌≡◌, ℕ, ◌+◌, List, [], ◌∷◌, ◌++◌, Bool, true, false, cond, All}
use Rattle.std.proofs.Common.{refl, sym, ap, subst, ◌∙◌}
use Rattle.std.specs.FinMap.{get}
use Rattle.std.proofs.lemmas.List.Elements.{All-nil, All-cons, All-head, All-tail}
use Rattle.streetmap_batch.specs.BatchValue.{BatchValue}
use Rattle.streetmap_ledger.specs.State.{State}
use Rattle.streetmap_ledger.specs.Batches.{Outcome, act, after_all}
use Rattle.streetmap_ledger.specs.Laws.{IsAcknowledged, is_accepted, accepted_of}
use Rattle.streetmap_ledger.specs.declared.reply.Reply.{Reply}
use Rattle.streetmap_ledger.specs.declared.reply.Reply.TheVariants.{Accepted, Repeated, Refused}
use Rattle.streetmap_ledger.proofs.Repeat.{IsThere, again, all_keep}
use Rattle.streetmap_ledger.proofs.Repeat.{acknowledged_there, there_again}
use Rattle.streetmap_ledger.proofs.Acceptance.{by_key_stays}

abbrev Stays : State → Outcome → Type 0
Stays s o = is_accepted o.reply ≡ false → o.state ≡ s

pub act_stays : (s : State) (b : BatchValue) → Stays s (act s b)
act_stays s b = by_key_stays s b (get s.keys b.key)

-- ---- one batch

stays_there : (s : State) (bs : List BatchValue) (b : BatchValue) → IsThere s b →
    IsThere (after_all s bs) b
stays_there s bs b h = (h.0, all_keep s bs b.key h.0 h.1, h.2)

pub accepted_reported : (r : Reply) → is_accepted r ≡ true → IsAcknowledged r
accepted_reported (Accepted counts serial) e = tt
accepted_reported (Repeated counts serial) e = tt
accepted_reported (Refused why place) e = absurd cc

-- ---- lists of batches

-- each is acknowledged in the state that the ones before it left
abbrev pub AreAcknowledged : State → List BatchValue → Type 0
AreAcknowledged s [] = Unit {0}
AreAcknowledged s (b ∷ bs) = IsAcknowledged (act s b).reply × AreAcknowledged (act s b).state bs

-- those that are kept are repeated
pub all_there : (t : State) (bs : List BatchValue) → All (IsThere t) bs →
    AreAcknowledged t bs × (after_all t bs ≡ t)
all_there t [] h = (tt, refl)
all_there t (b ∷ bs) h =
    let head = All-head (IsThere t) b bs h in
    let same = again t b head in
    let more = all_there t bs (All-tail (IsThere t) b bs h) in (
      (there_again t b head, subst (λ (u : State). AreAcknowledged u bs) (sym same) more.0),
      ap (λ (u : State). after_all u bs) same ∙ more.1,
    )

accepted_by : (s : State) (b : BatchValue) (rest : List BatchValue) →
    AreAcknowledged (act s b).state rest → (t : Bool) → is_accepted (act s b).reply ≡ t →
    AreAcknowledged s (cond t (b ∷ rest) rest)
accepted_by s b rest h true e = (accepted_reported (act s b).reply e, h)
accepted_by s b rest h false e = subst (λ (u : State). AreAcknowledged u rest) (act_stays s b e) h

pub accepted_are : (s : State) (bs : List BatchValue) → AreAcknowledged s (accepted_of s bs)
accepted_are s [] = tt
accepted_are s (b ∷ bs) =
    accepted_by s b (accepted_of (act s b).state bs) (accepted_are (act s b).state bs)
    (is_accepted (act s b).reply) refl

pub parts : (s : State) (xs ys : List BatchValue) → AreAcknowledged s (xs ++ ys) →
    AreAcknowledged s xs × AreAcknowledged (after_all s xs) ys
parts s [] ys h = (tt, h)
parts s (x ∷ xs) ys h = let more = parts (act s x).state xs ys h.1 in ((h.0, more.0), more.1)

pub joined : (s : State) (xs ys : List BatchValue) → AreAcknowledged s xs →
    AreAcknowledged (after_all s xs) ys → AreAcknowledged s (xs ++ ys)
joined s [] ys h k = k
joined s (x ∷ xs) ys h k = (h.0, joined (act s x).state xs ys h.1 k)

-- those that were acknowledged are kept
pub are_there : (s : State) (bs : List BatchValue) → AreAcknowledged s bs →
    All (IsThere (after_all s bs)) bs
are_there s [] h = All-nil (IsThere s)
are_there s (b ∷ bs) h =
    All-cons (IsThere (after_all s (b ∷ bs))) b bs
    (stays_there (act s b).state bs b (acknowledged_there s b h.0))
    (are_there (act s b).state bs h.1)

all_by : (P : BatchValue → Type 0) (b : BatchValue) (rest : List BatchValue) (t : Bool) → P b →
    All P rest → All P (cond t (b ∷ rest) rest)
all_by P b rest true p h = All-cons P b rest p h
all_by P b rest false p h = h

pub all_accepted : (P : BatchValue → Type 0) (s : State) (bs : List BatchValue) → All P bs →
    All P (accepted_of s bs)
all_accepted P s [] h = h
all_accepted P s (b ∷ bs) h =
    all_by P b (accepted_of (act s b).state bs) (is_accepted (act s b).reply) (All-head P b bs h)
    (all_accepted P (act s b).state bs (All-tail P b bs h))
