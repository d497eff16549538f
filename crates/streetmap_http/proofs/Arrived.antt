-- What received bytes hold of a request is one thing.
use Rattle.std.proofs.Common.{◌≡◌, ◌≤◌, ◌<◌, ◌+◌, ◌-◌, ◌∙◌, ◌++◌, ℕ, List, Bool, true, false, length, take, drop, sym, ap, subst, refl, arith, take-append-drop, append_assoc, append-nil, [], length-append, length-take-le, length-drop, inl, inr}
use Rattle.std.proofs.lemmas.List.{take-append-le}
use Rattle.std.proofs.Math.Seq.{take-add, take-append-add}
use Rattle.std.specs.Prelude.{nat_le}
use Rattle.streetmap_http.specs.declared.limits.TheConstants.{HEAD_LIMIT}
use Rattle.streetmap_http.specs.declared.head.HeadProgress.{HeadProgress}
use Rattle.streetmap_http.specs.declared.fault.FramingFault.{FramingFault}
use Rattle.streetmap_http.specs.declared.fault.FramingFault.TheVariants.{HeadTooLarge}
use Rattle.streetmap_http.specs.declared.arrival.Arrival.{Arrival}
use Rattle.streetmap_http.specs.declared.arrival.Arrival.TheVariants.{Request, Head, Body}
use Rattle.streetmap_http.specs.declared.arrival.HeadScan.{HeadScan}
use Rattle.streetmap_http.specs.Head.{IsHead, HasNoHead}
use Rattle.streetmap_http.specs.Progress.{HasReached}
use Rattle.streetmap_http.specs.Framing.{HeadValue, Framing, broken, sized, Frames, Breaks, no_end, rule, IsRequest}
use Rattle.streetmap_http.specs.Streams.{LacksOfBody}
use Rattle.streetmap_http.specs.Arrivals.{IsAnswered, HoldsOf, HasScanned, SplitsAs}
use Rattle.streetmap_http.proofs.OneHead.{head_unique}
use Rattle.streetmap_http.proofs.Fronts.{Shape, framed, large, short, shape_unique, le_true, le_false, after_same, frames_unique, no_head_at, no_head_within}

-- ---- one thing

abbrev pub arrival_sized : List ℕ → List ℕ → HeadValue → Bool → Arrival
arrival_sized head following h true = Request (length head + h.len)
arrival_sized head following h false = Body (h.len - length following)

abbrev pub arrival_by_head : List ℕ → List ℕ → Framing → Arrival
arrival_by_head head following (broken bare fault) = Request (length head)
arrival_by_head head following (sized h) = arrival_sized head following h (nat_le h.len (length following))

abbrev pub arrival_by_limit : List ℕ → Arrival
arrival_by_limit bytes = Request HEAD_LIMIT

abbrev pub arrival_by_progress : HeadProgress → Arrival
arrival_by_progress progress = Head

abbrev ArrivalShape : List ℕ → Arrival → Type 0
ArrivalShape bytes arrival = Shape arrival_by_head arrival_by_limit arrival_by_progress bytes arrival

whole_shape : (bytes : List ℕ) (n : ℕ) (h : HeadValue) (body : List ℕ) → n ≤ length bytes → IsRequest (take n bytes) h body → ArrivalShape bytes (Request n)
whole_shape bytes n h body within r =
    let following : List ℕ = body ++ drop n bytes in
    let joined : bytes ≡ r.head ++ following = sym (take-append-drop n bytes) ∙ ap (λ l. l ++ drop n bytes) r.parts ∙ append_assoc r.head body (drop n bytes) in
    let enough : nat_le h.len (length following) ≡ true = le_true h.len (length following) (omega (arith, length-append body (drop n bytes), r.len)) in
    let size : n ≡ length r.head + h.len = omega (arith, length-take-le n bytes within, ap length r.parts, length-append r.head body, r.len) in
    framed r.head following (sized h) joined r.cut r.framed (ap Request size ∙ ap (arrival_sized r.head following h) (sym enough))

refused_shape : (bytes : List ℕ) (n : ℕ) (bare : Bool) (fault : FramingFault) → n ≤ length bytes → Breaks (take n bytes) bare fault → ArrivalShape bytes (Request n)
refused_shape bytes n bare fault within (no_end long none bared is) =
    let size : n ≡ HEAD_LIMIT = omega (arith, length-take-le n bytes within, long) in
    large (omega arith) (subst (λ k. HasNoHead (take k bytes)) size none) (ap Request size)
refused_shape bytes n bare fault within (rule cut says) =
    framed (take n bytes) (drop n bytes) (broken bare fault) (sym (take-append-drop n bytes)) cut says (ap Request (sym (length-take-le n bytes within)))

arrival_shape : (bytes : List ℕ) (arrival : Arrival) → HoldsOf arrival bytes → ArrivalShape bytes arrival
arrival_shape bytes (Request n) (within, inl (h, body, r)) = whole_shape bytes n h body within r
arrival_shape bytes (Request n) (within, inr (bare, fault, breaks)) = refused_shape bytes n bare fault within breaks
arrival_shape bytes Head (less, none) = short less none refl
arrival_shape bytes (Body missing) (some, lacks) =
    let less : nat_le lacks.value.len (length lacks.came) ≡ false = le_false lacks.value.len (length lacks.came) (omega (arith, lacks.len)) in
    let size : missing ≡ lacks.value.len - length lacks.came = omega (arith, lacks.len) in
    framed lacks.head lacks.came (sized lacks.value) lacks.parts lacks.cut lacks.framed (ap Body size ∙ ap (arrival_sized lacks.head lacks.came lacks.value) (sym less))

pub arrival_unique : (bytes : List ℕ) (a b : Arrival) → HoldsOf a bytes → HoldsOf b bytes → a ≡ b
arrival_unique bytes a b one other =
    shape_unique arrival_by_head arrival_by_limit arrival_by_progress bytes a b (arrival_shape bytes a one) (arrival_shape bytes b other)

-- ---- what the code finds

pub whole_held : (bytes : List ℕ) (n : ℕ) (h : HeadValue) → n ≤ length bytes → IsHead (take n bytes) → Frames (take n bytes) (sized h) → h.len ≤ length bytes - n → HoldsOf (Request (n + h.len)) bytes
whole_held bytes n h within cut says enough =
    let request : IsRequest (take (n + h.len) bytes) h (take h.len (drop n bytes)) = record {
      head = take n bytes;
      parts = take-add n h.len bytes;
      cut = cut;
      framed = says;
      len = length-take-le h.len (drop n bytes) (omega (arith, length-drop n bytes));
    } in
    (omega arith, inl (h, take h.len (drop n bytes), request))

pub lacking_held : (bytes : List ℕ) (n : ℕ) (h : HeadValue) → n ≤ length bytes → IsHead (take n bytes) → Frames (take n bytes) (sized h) → length bytes - n < h.len → HoldsOf (Body (h.len - (length bytes - n))) bytes
lacking_held bytes n h within cut says less = (
  omega arith,
  record {
    head = take n bytes;
    came = drop n bytes;
    value = h;
    parts = sym (take-append-drop n bytes);
    cut = cut;
    framed = says;
    len = omega (arith, length-drop n bytes);
  },
)

-- ---- more bytes after the received ones

pub scans_go_on : (scan : HeadScan) (bytes more : List ℕ) → HasScanned scan bytes → HasScanned scan (bytes ++ more)
scans_go_on scan bytes more s = record {
  within = omega (arith, length-append bytes more, s.within);
  short = s.short;
  progress = subst (HasReached scan.progress) (sym (take-append-le scan.scanned bytes more s.within)) s.progress;
  unfinished = s.unfinished;
}

pub requests_stay : (bytes more : List ℕ) (n : ℕ) → HoldsOf (Request n) bytes → HoldsOf (Request n) (bytes ++ more)
requests_stay bytes more n (within, answered) =
    (omega (arith, length-append bytes more, within), subst IsAnswered (sym (take-append-le n bytes more within)) answered)

still_lacks : (bytes more : List ℕ) (missing : ℕ) → LacksOfBody missing bytes → length more < missing → HoldsOf (Body (missing - length more)) (bytes ++ more)
still_lacks bytes more missing lacks less = (
  omega arith,
  record {
    head = lacks.head;
    came = lacks.came ++ more;
    value = lacks.value;
    parts = ap (λ l. l ++ more) lacks.parts ∙ append_assoc lacks.head lacks.came more;
    cut = lacks.cut;
    framed = lacks.framed;
    len = omega (arith, length-append lacks.came more, lacks.len, less);
  },
)

now_whole : (bytes more : List ℕ) (missing : ℕ) → LacksOfBody missing bytes → missing ≤ length more → HoldsOf (Request (length bytes + missing)) (bytes ++ more)
now_whole bytes more missing lacks enough =
    let joined : take (length bytes + missing) (bytes ++ more) ≡ lacks.head ++ (lacks.came ++ take missing more) =
    take-append-add bytes more missing ∙ ap (λ l. l ++ take missing more) lacks.parts ∙ append_assoc lacks.head lacks.came (take missing more) in
    let request : IsRequest (take (length bytes + missing) (bytes ++ more)) lacks.value (lacks.came ++ take missing more) = record {
      head = lacks.head;
      parts = joined;
      cut = lacks.cut;
      framed = lacks.framed;
      len = omega (arith, length-append lacks.came (take missing more), length-take-le missing more enough, lacks.len);
    } in
    (omega (arith, length-append bytes more), inl (lacks.value, lacks.came ++ take missing more, request))

pub bodies_fill : (bytes more : List ℕ) (missing : ℕ) → HoldsOf (Body missing) bytes
    → (length more < missing → HoldsOf (Body (missing - length more)) (bytes ++ more)) × (missing ≤ length more → HoldsOf (Request (length bytes + missing)) (bytes ++ more))
bodies_fill bytes more missing (some, lacks) = (still_lacks bytes more missing lacks, now_whole bytes more missing lacks)

-- ---- the bytes of one request

-- they are the head and the body
pub splits : (bytes : List ℕ) (n : ℕ) (f : Framing) → n ≤ length bytes → IsHead (take n bytes) → Frames (take n bytes) f → IsAnswered bytes → SplitsAs f (drop n bytes) bytes
splits bytes n f within cut says (inl (h, body, r)) =
    let streams : take n bytes ++ drop n bytes ≡ r.head ++ body = take-append-drop n bytes ∙ r.parts in
    let heads : take n bytes ≡ r.head = head_unique (take n bytes) r.head (drop n bytes) body cut r.cut streams in
    let bodies : drop n bytes ≡ body = after_same (take n bytes) r.head (drop n bytes) body heads streams in
    let same : f ≡ sized h = frames_unique r.head f (sized h) (subst (λ l. Frames l f) heads says) r.framed in
    subst (λ g. SplitsAs g (drop n bytes) bytes) (sym same) (subst (λ l. IsRequest bytes h l) (sym bodies) r)
splits bytes n f within cut says (inr (bare, fault, no_end long none bared is)) = absurd (no_head_at bytes (take n bytes) (drop n bytes) (sym (take-append-drop n bytes)) cut none)
splits bytes n f within cut says (inr (bare, fault, rule whole framing)) =
    let streams : take n bytes ++ drop n bytes ≡ bytes ++ [] = take-append-drop n bytes ∙ sym (append-nil bytes) in
    let heads : take n bytes ≡ bytes = head_unique (take n bytes) bytes (drop n bytes) [] cut whole streams in
    let bodies : drop n bytes ≡ [] = after_same (take n bytes) bytes (drop n bytes) [] heads streams in
    let same : f ≡ broken bare fault = frames_unique bytes f (broken bare fault) (subst (λ l. Frames l f) heads says) framing in
    subst (λ g. SplitsAs g (drop n bytes) bytes) (sym same) (rule whole framing, bodies)

-- they are as many as a head may have, and no head ends in them
pub splits_none : (bytes : List ℕ) → HasNoHead (take HEAD_LIMIT bytes) → IsAnswered bytes → Breaks bytes false HeadTooLarge
splits_none bytes none (inl (h, body, r)) = absurd (no_head_within bytes r.head body r.parts r.cut none)
splits_none bytes none (inr (bare, fault, no_end long headless bared is)) = no_end long headless refl refl
splits_none bytes none (inr (bare, fault, rule whole framing)) = absurd (no_head_within bytes bytes [] (sym (append-nil bytes)) whole none)
