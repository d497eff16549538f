-- What an import into a keeper does, by its parts.
use Rattle.std.proofs.Common.{◌≡◌, Bool, true, false, None, Result, Ok, Err, String, refl, subst, sym}
use Rattle.std.specs.declared.alloc.Global.{Global}
use Rattle.streetmap_batch.specs.Text.{Text}
use Rattle.streetmap_batch.specs.BatchValue.{BatchValue}
use Rattle.streetmap_ledger.specs.State.{State}
use Rattle.streetmap_ledger.specs.Model.{Model}
use Rattle.streetmap_ledger.specs.Keep.{Writes, IsCall}
use Rattle.streetmap_ledger.specs.declared.reply.Fault.{Fault}
use Rattle.streetmap_ledger.specs.declared.reply.Reply.{Reply}
use Rattle.streetmap_ledger.specs.declared.reply.Reply.TheVariants as replies
use Rattle.streetmap_exchange.specs.declared.fault.ImportFault.{ImportFault}
use Rattle.streetmap_exchange.specs.declared.fault.ImportFault.TheVariants.{BadKey, BadBatch, TextTooLarge, NotJson, WrongType, BadFeature, TooManyEdits}
use Rattle.streetmap_exchange.specs.declared.fault.ImportFault.TheVariants.{Memory, Refused, Stopped}
use Rattle.streetmap_exchange.specs.ImportFaults.{FailsToRead}
use Rattle.streetmap_exchange.specs.KeeperImports.{IsReported, ImportsBatch, Imports, import_answer, IsOfReply}
use Rattle.streetmap_replay.specs.Calls.{AreCalls}
use Rattle.streetmap_replay.proofs.CallsInTurn.{answered}

-- ---- a reply is returned as its body or as its refusal

-- the faults that come before the keeper receives a request
abbrev pub is_unread : ImportFault → Bool
is_unread (Refused why place) = false
is_unread (Stopped fault) = false
is_unread fault = true

never_unread : (key : Text) (reply : Reply) (fault : ImportFault) → is_unread fault ≡ true → IsReported key reply (Err fault) → ⊥
never_unread key (replies.Accepted counts serial) fault is h = h
never_unread key (replies.Repeated counts serial) fault is h = h
never_unread key (replies.Refused why place) (Refused w p) is h = cc
never_unread key (replies.Refused why place) (Stopped f) is h = cc
never_unread key (replies.Refused why place) BadKey is h = cc
never_unread key (replies.Refused why place) BadBatch is h = cc
never_unread key (replies.Refused why place) TextTooLarge is h = cc
never_unread key (replies.Refused why place) NotJson is h = cc
never_unread key (replies.Refused why place) WrongType is h = cc
never_unread key (replies.Refused why place) (BadFeature at cause) is h = cc
never_unread key (replies.Refused why place) TooManyEdits is h = cc
never_unread key (replies.Refused why place) Memory is h = cc

never_stopped : (key : Text) (reply : Reply) (fault : Fault) → IsReported key reply (Err (Stopped fault)) → ⊥
never_stopped key (replies.Accepted counts serial) fault h = h
never_stopped key (replies.Repeated counts serial) fault h = h
never_stopped key (replies.Refused why place) fault h = cc

module _ {K : Type 0} (model : Model K) (a b : K) where
  pub reported_batch : (s : State) (batch : BatchValue) (reply : Reply) (r : Result (String Global) ImportFault) → IsReported batch.key reply r →
      Writes model a b s batch (Ok reply) → ImportsBatch model a b s batch r
  reported_batch s batch reply (Ok body) reported h = (subst (λ (x : Reply). IsReported batch.key x (Ok body)) h.0 reported, h.1)
  reported_batch s batch reply (Err BadKey) reported h = absurd (never_unread batch.key reply BadKey refl reported)
  reported_batch s batch reply (Err BadBatch) reported h = absurd (never_unread batch.key reply BadBatch refl reported)
  reported_batch s batch reply (Err TextTooLarge) reported h = absurd (never_unread batch.key reply TextTooLarge refl reported)
  reported_batch s batch reply (Err NotJson) reported h = absurd (never_unread batch.key reply NotJson refl reported)
  reported_batch s batch reply (Err WrongType) reported h = absurd (never_unread batch.key reply WrongType refl reported)
  reported_batch s batch reply (Err (BadFeature place cause)) reported h = absurd (never_unread batch.key reply (BadFeature place cause) refl reported)
  reported_batch s batch reply (Err TooManyEdits) reported h = absurd (never_unread batch.key reply TooManyEdits refl reported)
  reported_batch s batch reply (Err Memory) reported h = absurd (never_unread batch.key reply Memory refl reported)
  reported_batch s batch reply (Err (Refused why place)) reported h = (
    subst (λ (x : Reply). IsReported batch.key x (Err (Refused why place))) h.0 reported,
    h.1,
  )
  reported_batch s batch reply (Err (Stopped fault)) reported h = absurd (never_stopped batch.key reply fault reported)

  pub reported_calls : (key : Text) (reply : Reply) (r : Result (String Global) ImportFault) → IsReported key reply r → IsCall model a b (Ok reply) →
      AreCalls model a b (import_answer r)
  reported_calls key reply (Ok body) reported call = answered call
  reported_calls key reply (Err BadKey) reported call = absurd (never_unread key reply BadKey refl reported)
  reported_calls key reply (Err BadBatch) reported call = absurd (never_unread key reply BadBatch refl reported)
  reported_calls key reply (Err TextTooLarge) reported call = absurd (never_unread key reply TextTooLarge refl reported)
  reported_calls key reply (Err NotJson) reported call = absurd (never_unread key reply NotJson refl reported)
  reported_calls key reply (Err WrongType) reported call = absurd (never_unread key reply WrongType refl reported)
  reported_calls key reply (Err (BadFeature place cause)) reported call = absurd (never_unread key reply (BadFeature place cause) refl reported)
  reported_calls key reply (Err TooManyEdits) reported call = absurd (never_unread key reply TooManyEdits refl reported)
  reported_calls key reply (Err Memory) reported call = absurd (never_unread key reply Memory refl reported)
  reported_calls key reply (Err (Refused why place)) reported call = answered call
  reported_calls key reply (Err (Stopped fault)) reported call = absurd (never_stopped key reply fault reported)

  -- ---- what a text's batch does is what the import does

  pub batch_imports : (s : State) (read : Result BatchValue ImportFault) (batch : BatchValue) (r : Result (String Global) ImportFault) → read ≡ Ok batch →
      ImportsBatch model a b s batch r
      → Imports model a b s read r
  batch_imports s read batch (Ok body) e h = (batch, e, h)
  batch_imports s read batch (Err BadKey) e h = absurd h
  batch_imports s read batch (Err BadBatch) e h = absurd h
  batch_imports s read batch (Err TextTooLarge) e h = absurd h
  batch_imports s read batch (Err NotJson) e h = absurd h
  batch_imports s read batch (Err WrongType) e h = absurd h
  batch_imports s read batch (Err (BadFeature place cause)) e h = absurd h
  batch_imports s read batch (Err TooManyEdits) e h = absurd h
  batch_imports s read batch (Err Memory) e h = absurd h
  batch_imports s read batch (Err (Refused why place)) e h = (batch, e, h)
  batch_imports s read batch (Err (Stopped fault)) e h = (batch, e, h)

  -- ---- a text that reads as a batch is imported as that batch

  pub read_imports : (s : State) (read : Result BatchValue ImportFault) (batch : BatchValue) (r : Result (String Global) ImportFault) → read ≡ Ok batch →
      Imports model a b s (Ok batch) r
      → Imports model a b s read r
  read_imports s read batch r e h = subst (λ (x : Result BatchValue ImportFault). Imports model a b s x r) (sym e) h

-- ---- a text that is not read

pub unread_answer : {Y : Type 0} (fault : ImportFault) (read : Result Y ImportFault) → FailsToRead fault read → import_answer (Err fault) ≡ None
unread_answer BadKey read h = refl
unread_answer BadBatch read h = refl
unread_answer TextTooLarge read h = refl
unread_answer NotJson read h = refl
unread_answer WrongType read h = refl
unread_answer (BadFeature place cause) read h = refl
unread_answer TooManyEdits read h = refl
unread_answer Memory read h = refl
unread_answer (Refused why place) read h = absurd h
unread_answer (Stopped fault) read h = absurd h

pub unread_imports : {K : Type 0} (model : Model K) (a : K) (s : State) (fault : ImportFault) (read : Result BatchValue ImportFault) → FailsToRead fault read →
    model.represents a s → Imports model a a s read (Err fault)
unread_imports model a s BadKey read h e = (h, e)
unread_imports model a s BadBatch read h e = (h, e)
unread_imports model a s TextTooLarge read h e = (h, e)
unread_imports model a s NotJson read h e = (h, e)
unread_imports model a s WrongType read h e = (h, e)
unread_imports model a s (BadFeature place cause) read h e = (h, e)
unread_imports model a s TooManyEdits read h e = (h, e)
unread_imports model a s Memory read h e = (h, e)
unread_imports model a s (Refused why place) read h e = absurd h
unread_imports model a s (Stopped fault) read h e = absurd h

pub unread_reply : {Y : Type 0} (key : Text) (came : Result Reply Fault → Type 0) (same : Type 0) (fault : ImportFault) (read : Result Y ImportFault) →
    FailsToRead fault read → same → IsOfReply key came same (Err fault)
unread_reply key came same BadKey read h e = e
unread_reply key came same BadBatch read h e = e
unread_reply key came same TextTooLarge read h e = e
unread_reply key came same NotJson read h e = e
unread_reply key came same WrongType read h e = e
unread_reply key came same (BadFeature place cause) read h e = e
unread_reply key came same TooManyEdits read h e = e
unread_reply key came same Memory read h e = e
unread_reply key came same (Refused why place) read h e = absurd h
unread_reply key came same (Stopped fault) read h e = absurd h

-- ---- what is returned is what the keeper replied

pub reported_of_reply : {K : Type 0} (applies : K → BatchValue → Result Reply Fault → K → Type 0)
    (b : BatchValue) (reply : Reply) (r : Result (String Global) ImportFault) (old new : K)
    → IsReported b.key reply r → applies old b (Ok reply) new
    → IsOfReply b.key (λ x. applies old b x new) (new ≡ old) r
reported_of_reply applies b reply (Ok body) old new reported h = (reply, h, reported)
reported_of_reply applies b reply (Err BadKey) old new reported h = absurd (never_unread b.key reply BadKey refl reported)
reported_of_reply applies b reply (Err BadBatch) old new reported h = absurd (never_unread b.key reply BadBatch refl reported)
reported_of_reply applies b reply (Err TextTooLarge) old new reported h = absurd (never_unread b.key reply TextTooLarge refl reported)
reported_of_reply applies b reply (Err NotJson) old new reported h = absurd (never_unread b.key reply NotJson refl reported)
reported_of_reply applies b reply (Err WrongType) old new reported h = absurd (never_unread b.key reply WrongType refl reported)
reported_of_reply applies b reply (Err (BadFeature place cause)) old new reported h = absurd (never_unread b.key reply (BadFeature place cause) refl reported)
reported_of_reply applies b reply (Err TooManyEdits) old new reported h = absurd (never_unread b.key reply TooManyEdits refl reported)
reported_of_reply applies b reply (Err Memory) old new reported h = absurd (never_unread b.key reply Memory refl reported)
reported_of_reply applies b reply (Err (Refused why place)) old new reported h = (reply, h, reported)
reported_of_reply applies b reply (Err (Stopped fault)) old new reported h = absurd (never_stopped b.key reply fault reported)
