-- Codes, sentences and keys are written as they are.
use Rattle.std.proofs.Common.{◌≡◌, ℕ, ◌≤◌, true, List, [], ◌∷◌, ◌++◌, length, ap, sym, refl, ◌∙◌, ◌&&◌, IsTrue, arith, lit≤, subst, Some}
use Rattle.std.proofs.lemmas.Grind.{common_steps}
use Rattle.std.specs.Option.{ForSome}
use Rattle.std.specs.List.{list_all}
use Rattle.json.specs.Print.{escape, escape_byte}
use Rattle.streetmap_geojson.specs.declared.fault.Fault.{Fault}
use Rattle.streetmap_geojson.specs.declared.fault.Fault.TheVariants as feature_faults
use Rattle.streetmap_geojson.specs.FaultCodes.{fault_code}
use Rattle.streetmap_query.specs.declared.fault.QueryFault.{QueryFault}
use Rattle.streetmap_query.specs.declared.fault.QueryFault.TheVariants as query_faults
use Rattle.streetmap_query.specs.Faults as query
use Rattle.streetmap_batch.specs.declared.batch_fault.BatchFault.{BatchFault}
use Rattle.streetmap_batch.specs.declared.batch_fault.BatchFault.TheVariants as batch_faults
use Rattle.streetmap_batch.specs.BatchFaults as batch
use Rattle.streetmap_batch.specs.Names.{is_key, is_key_byte}
use Rattle.streetmap_ledger.specs.declared.reply.Refusal.{Refusal}
use Rattle.streetmap_ledger.specs.declared.reply.Refusal.TheVariants as refusal_kinds
use Rattle.streetmap_ledger.specs.Refusals as refusals
use Rattle.streetmap_ledger.specs.declared.reply.Fault as ledger_fault
use Rattle.streetmap_ledger.specs.declared.reply.Fault.TheVariants as keeper_faults
use Rattle.streetmap_http.specs.Faults as framing
use Rattle.streetmap_http.specs.declared.fault.FramingFault.{FramingFault}
use Rattle.streetmap_http.specs.declared.fault.FramingFault.TheVariants as framing_faults
use Rattle.streetmap_bodies.specs.RequestFaults as request
use Rattle.streetmap_bodies.specs.declared.request_fault.RequestFault.{RequestFault}
use Rattle.streetmap_bodies.specs.declared.request_fault.RequestFault.TheVariants as request_faults
use Rattle.streetmap_bodies.specs.Plain.{IsPlain, IsEscapeFree}
use Rattle.streetmap_batch.proofs.NameFacts.{both_true}

pub query_code : (f : QueryFault) → IsPlain (query.code_of f)
unfolding escape_byte
query_code query_faults.UnknownParameter = (refl, lit≤ tt)
query_code query_faults.RepeatedParameter = (refl, lit≤ tt)
query_code query_faults.BadLimit = (refl, lit≤ tt)
query_code query_faults.BadBbox = (refl, lit≤ tt)
query_code query_faults.BadDatetime = (refl, lit≤ tt)
query_code query_faults.BadAfter = (refl, lit≤ tt)
query_code query_faults.Memory = (refl, lit≤ tt)

pub query_description : (f : QueryFault) → IsPlain (query.description_of f)
unfolding escape_byte
query_description query_faults.UnknownParameter = (refl, lit≤ tt)
query_description query_faults.RepeatedParameter = (refl, lit≤ tt)
query_description query_faults.BadLimit = (refl, lit≤ tt)
query_description query_faults.BadBbox = (refl, lit≤ tt)
query_description query_faults.BadDatetime = (refl, lit≤ tt)
query_description query_faults.BadAfter = (refl, lit≤ tt)
query_description query_faults.Memory = (refl, lit≤ tt)

pub batch_code : (f : BatchFault) → IsPlain (batch.code_of f)
unfolding escape_byte batch.code_of
batch_code (batch_faults.BadBatch place) = (refl, lit≤ tt)
batch_code batch_faults.BadKey = (refl, lit≤ tt)
batch_code batch_faults.TooManyEdits = (refl, lit≤ tt)
batch_code (batch_faults.BadFeature place cause) = (refl, lit≤ tt)
batch_code batch_faults.Memory = (refl, lit≤ tt)

pub batch_description : (f : BatchFault) → IsPlain (batch.description_of f)
unfolding escape_byte batch.description_of
batch_description (batch_faults.BadBatch place) = (refl, lit≤ tt)
batch_description batch_faults.BadKey = (refl, lit≤ tt)
batch_description batch_faults.TooManyEdits = (refl, lit≤ tt)
batch_description (batch_faults.BadFeature place cause) = (refl, lit≤ tt)
batch_description batch_faults.Memory = (refl, lit≤ tt)

pub feature_code : (f : Fault) → IsPlain (fault_code f)
unfolding escape_byte
feature_code feature_faults.NotJson = (refl, lit≤ tt)
feature_code feature_faults.WrongType = (refl, lit≤ tt)
feature_code feature_faults.BadId = (refl, lit≤ tt)
feature_code feature_faults.BadGeometry = (refl, lit≤ tt)
feature_code feature_faults.BadPosition = (refl, lit≤ tt)
feature_code feature_faults.Fraction = (refl, lit≤ tt)
feature_code feature_faults.NestedCollection = (refl, lit≤ tt)
feature_code feature_faults.BadProperties = (refl, lit≤ tt)
feature_code feature_faults.TooDeep = (refl, lit≤ tt)
feature_code feature_faults.TooManyPositions = (refl, lit≤ tt)
feature_code feature_faults.OutOfGrid = (refl, lit≤ tt)
feature_code feature_faults.ShortLine = (refl, lit≤ tt)
feature_code feature_faults.ShortRing = (refl, lit≤ tt)
feature_code feature_faults.OpenRing = (refl, lit≤ tt)
feature_code feature_faults.BadTime = (refl, lit≤ tt)
feature_code feature_faults.EmptyInterval = (refl, lit≤ tt)

pub refusal_code : (r : Refusal) → IsPlain (refusals.code_of r)
unfolding escape_byte refusals.code_of
refusal_code refusal_kinds.NoCollection = (refl, lit≤ tt)
refusal_code refusal_kinds.CollectionExists = (refl, lit≤ tt)
refusal_code refusal_kinds.FeatureExists = (refl, lit≤ tt)
refusal_code refusal_kinds.NoFeature = (refl, lit≤ tt)
refusal_code refusal_kinds.BadTime = (refl, lit≤ tt)
refusal_code refusal_kinds.KeyUsed = (refl, lit≤ tt)
refusal_code refusal_kinds.Full = (refl, lit≤ tt)

pub refusal_description : (r : Refusal) → IsPlain (refusals.description_of r)
unfolding escape_byte refusals.description_of
refusal_description refusal_kinds.NoCollection = (refl, lit≤ tt)
refusal_description refusal_kinds.CollectionExists = (refl, lit≤ tt)
refusal_description refusal_kinds.FeatureExists = (refl, lit≤ tt)
refusal_description refusal_kinds.NoFeature = (refl, lit≤ tt)
refusal_description refusal_kinds.BadTime = (refl, lit≤ tt)
refusal_description refusal_kinds.KeyUsed = (refl, lit≤ tt)
refusal_description refusal_kinds.Full = (refl, lit≤ tt)

-- ---- keys

plain_byte : (b : ℕ) → is_key_byte b ≡ true → escape_byte b ≡ b ∷ []
unfolding escape_byte
plain_byte b h = grind (arith, common_steps)

plain_bytes : (s : List ℕ) → list_all is_key_byte s ≡ true → IsEscapeFree s
plain_bytes [] h = refl
plain_bytes (b ∷ s) h =
    let both = both_true (is_key_byte b) (list_all is_key_byte s) h in
    ap (λ l. l ++ escape s) (plain_byte b both.0) ∙ ap (λ l. b ∷ l) (plain_bytes s both.1)

pub key_plain : (key : List ℕ) → IsTrue (is_key key) → IsEscapeFree key
unfolding is_key
key_plain key h = plain_bytes key (both_true _ _ h).1

pub key_short : (key : List ℕ) → IsTrue (is_key key) → length key ≤ 64
unfolding is_key
key_short key h = grind (arith, common_steps)

-- ---- for callers

pub plain_along : {s t : List ℕ} → s ≡ t → IsPlain t → IsPlain s
plain_along {s} {t} e h = let P : List ℕ → Type 0 = λ l. IsPlain l in subst P (sym e) h

pub some_plain : {s : List ℕ} → IsPlain s → (x : List ℕ) → Some s ≡ Some x → IsPlain x
some_plain {s} h x e = let same : s ≡ x = cc in let P : List ℕ → Type 0 = λ l. IsPlain l in subst P same h

-- ---- faults of requests

pub framing_code : (f : FramingFault) → IsPlain (framing.code_of f)
unfolding escape_byte framing.code_of
framing_code framing_faults.HeadTooLarge = (refl, lit≤ tt)
framing_code framing_faults.BadRequest = (refl, lit≤ tt)
framing_code framing_faults.TransferEncoding = (refl, lit≤ tt)
framing_code framing_faults.BadLength = (refl, lit≤ tt)
framing_code framing_faults.BadHost = (refl, lit≤ tt)
framing_code framing_faults.BodyTooLarge = (refl, lit≤ tt)
framing_code framing_faults.LengthRequired = (refl, lit≤ tt)

pub keeper_code : (f : ledger_fault.Fault) → IsPlain (refusals.fault_code f)
unfolding escape_byte refusals.fault_code
keeper_code keeper_faults.Memory = (refl, lit≤ tt)
keeper_code keeper_faults.Device = (refl, lit≤ tt)
keeper_code keeper_faults.Damaged = (refl, lit≤ tt)
keeper_code keeper_faults.Reopen = (refl, lit≤ tt)

pub request_code : (f : RequestFault) → IsPlain (request.code_of f)
unfolding escape_byte request.code_of
request_code (request_faults.Framing fault) = framing_code fault
request_code request_faults.BadTarget = (refl, lit≤ tt)
request_code request_faults.NotFound = (refl, lit≤ tt)
request_code (request_faults.MethodNotAllowed methods) = (refl, lit≤ tt)
request_code (request_faults.Query fault) = query_code fault
request_code request_faults.BadSerial = (refl, lit≤ tt)
request_code (request_faults.Batch fault) = batch_code fault
request_code (request_faults.Refused refusal place) = refusal_code refusal
request_code request_faults.BadCondition = (refl, lit≤ tt)
request_code request_faults.Changed = (refl, lit≤ tt)
request_code request_faults.Fenced = (refl, lit≤ tt)
request_code request_faults.Follower = (refl, lit≤ tt)
request_code (request_faults.Keeper fault) = keeper_code fault

pub framing_description : (f : FramingFault) → IsPlain (framing.description_of f)
unfolding escape_byte framing.description_of
framing_description framing_faults.HeadTooLarge = (refl, lit≤ tt)
framing_description framing_faults.BadRequest = (refl, lit≤ tt)
framing_description framing_faults.TransferEncoding = (refl, lit≤ tt)
framing_description framing_faults.BadLength = (refl, lit≤ tt)
framing_description framing_faults.BadHost = (refl, lit≤ tt)
framing_description framing_faults.BodyTooLarge = (refl, lit≤ tt)
framing_description framing_faults.LengthRequired = (refl, lit≤ tt)

pub keeper_description : (f : ledger_fault.Fault) → IsPlain (refusals.fault_description f)
unfolding escape_byte refusals.fault_description
keeper_description keeper_faults.Memory = (refl, lit≤ tt)
keeper_description keeper_faults.Device = (refl, lit≤ tt)
keeper_description keeper_faults.Damaged = (refl, lit≤ tt)
keeper_description keeper_faults.Reopen = (refl, lit≤ tt)

pub request_description : (f : RequestFault) → IsPlain (request.description_of f)
unfolding escape_byte request.description_of
request_description (request_faults.Framing fault) = framing_description fault
request_description request_faults.BadTarget = (refl, lit≤ tt)
request_description request_faults.NotFound = (refl, lit≤ tt)
request_description (request_faults.MethodNotAllowed methods) = (refl, lit≤ tt)
request_description (request_faults.Query fault) = query_description fault
request_description request_faults.BadSerial = (refl, lit≤ tt)
request_description (request_faults.Batch fault) = batch_description fault
request_description (request_faults.Refused refusal place) = refusal_description refusal
request_description request_faults.BadCondition = (refl, lit≤ tt)
request_description request_faults.Changed = (refl, lit≤ tt)
request_description request_faults.Fenced = (refl, lit≤ tt)
request_description request_faults.Follower = (refl, lit≤ tt)
request_description (request_faults.Keeper fault) = keeper_description fault

pub request_cause : (f : RequestFault) → ForSome (request.cause_of f) IsPlain
request_cause (request_faults.Batch (batch_faults.BadFeature place cause)) = some_plain (feature_code cause)
request_cause (request_faults.Batch (batch_faults.BadBatch place)) = λ x e. cc
request_cause (request_faults.Batch batch_faults.BadKey) = λ x e. cc
request_cause (request_faults.Batch batch_faults.TooManyEdits) = λ x e. cc
request_cause (request_faults.Batch batch_faults.Memory) = λ x e. cc
request_cause (request_faults.Framing fault) = λ x e. cc
request_cause request_faults.BadTarget = λ x e. cc
request_cause request_faults.NotFound = λ x e. cc
request_cause (request_faults.MethodNotAllowed methods) = λ x e. cc
request_cause (request_faults.Query fault) = λ x e. cc
request_cause request_faults.BadSerial = λ x e. cc
request_cause (request_faults.Refused refusal place) = λ x e. cc
request_cause request_faults.BadCondition = λ x e. cc
request_cause request_faults.Changed = λ x e. cc
request_cause request_faults.Fenced = λ x e. cc
request_cause request_faults.Follower = λ x e. cc
request_cause (request_faults.Keeper fault) = λ x e. cc
