-- The front of a stream is one thing, and a stream is cut in one way.
use Rattle.std.proofs.Common.{◌≡◌, ◌≢◌, ◌≤◌, ◌<◌, ◌+◌, ◌-◌, ◌∙◌, ◌++◌, ◌∷◌, [], ℕ, List, Bool, true, false, length, take, drop, map, sym, ap, subst, refl, arith, append_assoc, append-nil, length-append, inl, inr, ◌⊎◌}
use Rattle.std.proofs.lemmas.Grind.{common_steps}
use Rattle.std.proofs.lemmas.List.Elements.{All-head, All-tail}
use Rattle.std.proofs.Math.Seq.{take-append_seam, drop-append_seam, take-append-add}
use Rattle.std.specs.Prelude.{nat_le}
use Rattle.std.specs.List.{flat_map}
use Rattle.httparse.specs.Spans.{name_and_value}
use Rattle.httparse.proofs.GrammarLemmas.{request_unique}
use Rattle.streetmap_http.specs.declared.limits.TheConstants.{HEAD_LIMIT}
use Rattle.streetmap_http.specs.declared.head.HeadProgress.{HeadProgress}
use Rattle.streetmap_http.specs.declared.head.HeadProgress.TheVariants.{Blank, BlankCr, Text, Start, StartCr, Done}
use Rattle.streetmap_http.specs.declared.fault.FramingFault.{FramingFault}
use Rattle.streetmap_http.specs.declared.fault.FramingFault.TheVariants.{HeadTooLarge}
use Rattle.streetmap_http.specs.Head.{IsHead, HasNoHead}
use Rattle.streetmap_http.specs.Progress.{HasReached}
use Rattle.streetmap_http.specs.Framing.{HeadValue, Framing, broken, sized, Frames, many, unread, read, framing_in, Breaks, no_end, rule}
use Rattle.streetmap_http.specs.Streams.{Request, IsWholeRequest, BeginsWith, IsUnfinished, in_head, in_body, StreamEnd, refused, ended, truncated, EndsAs, Front, request, stops, IsFront, BeginsWithAll, IsCut}
use Rattle.streetmap_http.proofs.Heads.{progress_after}
use Rattle.streetmap_http.proofs.ByLines.{reached_is, reached}
use Rattle.streetmap_http.proofs.OneHead.{not_ended, head_unique}

-- a head says one thing
pub frames_unique : (head : List ℕ) (f g : Framing) → Frames head f → Frames head g → f ≡ g
frames_unique head f g (many m e) (many n d) = e ∙ sym d
frames_unique head f g (many m e) (unread n never d) = absurd (omega arith)
frames_unique head f g (many m e) (read h n w d) = absurd (omega arith)
frames_unique head f g (unread n never e) (many m d) = absurd (omega arith)
frames_unique head f g (unread n never e) (unread m neither d) = e ∙ sym d
frames_unique head f g (unread n never e) (read h m w d) = absurd (never h w)
frames_unique head f g (read h n w e) (many m d) = absurd (omega arith)
frames_unique head f g (read h n w e) (unread m never d) = absurd (never h w)
frames_unique head f g (read h n w e) (read k m v d) =
    e ∙ ap (λ t. framing_in t.method t.target t.minor (map name_and_value t.fields)) (request_unique head h k [] [] w v).0 ∙ sym d

-- what comes after equal fronts of equal streams is equal
pub after_same : (a b x y : List ℕ) → a ≡ b → a ++ x ≡ b ++ y → x ≡ y
after_same a b x y same e =
    sym (drop-append_seam a x) ∙ ap (λ n. drop n (a ++ x)) (ap length same) ∙ ap (drop (length b)) e ∙ drop-append_seam b y

-- a front of n bytes
pub take_front : (stream a x : List ℕ) (n : ℕ) → stream ≡ a ++ x → length a ≡ n → take n stream ≡ a
take_front stream a x n e long = ap (take n) e ∙ ap (λ k. take k (a ++ x)) (sym long) ∙ take-append_seam a x

-- bytes that begin with a head do not lack one
pub no_head_at : (stream a x : List ℕ) → stream ≡ a ++ x → IsHead a → HasNoHead stream → ⊥
no_head_at stream a x e h none = none a x e h

take_over : (n : ℕ) (xs ys : List ℕ) → length xs ≤ n → take n (xs ++ ys) ≡ xs ++ take (n - length xs) ys
take_over n xs ys h =
    let sum : n ≡ length xs + (n - length xs) = omega arith in
    ap (λ k. take k (xs ++ ys)) sum ∙ take-append-add xs ys (n - length xs)

-- and neither do their first bytes, as many as a head may have
pub no_head_within : (stream a x : List ℕ) → stream ≡ a ++ x → IsHead a → HasNoHead (take HEAD_LIMIT stream) → ⊥
no_head_within stream a x e h none =
    no_head_at (take HEAD_LIMIT stream) a _ (ap (take HEAD_LIMIT) e ∙ take_over HEAD_LIMIT a x h.short) h none

-- Bytes by their front: a head and what it says, or the most bytes of a head without one, or fewer.
-- A result that is defined for each of these cases is unique.
pub data Shape {A : Type 0} (by_head : List ℕ → List ℕ → Framing → A) (by_limit : List ℕ → A) (by_progress : HeadProgress → A) (stream : List ℕ) (a : A) : Type 0 where
  framed : (head following : List ℕ) (f : Framing) → stream ≡ head ++ following → IsHead head → Frames head f → a ≡ by_head head following f → Shape by_head by_limit by_progress stream a
  large : HEAD_LIMIT ≤ length stream → HasNoHead (take HEAD_LIMIT stream) → a ≡ by_limit (take HEAD_LIMIT stream) → Shape by_head by_limit by_progress stream a
  short : length stream < HEAD_LIMIT → HasNoHead stream → a ≡ by_progress (progress_after Blank stream) → Shape by_head by_limit by_progress stream a

pub shape_unique : {A : Type 0} (by_head : List ℕ → List ℕ → Framing → A) (by_limit : List ℕ → A) (by_progress : HeadProgress → A) (stream : List ℕ) (a b : A)
    → Shape by_head by_limit by_progress stream a → Shape by_head by_limit by_progress stream b → a ≡ b
shape_unique by_head by_limit by_progress stream a b (framed head following f e cut says is) (framed head2 behind2 f2 e2 cut2 says2 is2) =
    let streams : head ++ following ≡ head2 ++ behind2 = sym e ∙ e2 in
    let heads : head ≡ head2 = head_unique head head2 following behind2 cut cut2 streams in
    let rests : following ≡ behind2 = after_same head head2 following behind2 heads streams in
    let framings : f ≡ f2 = frames_unique head2 f f2 (subst (λ h. Frames h f) heads says) says2 in
    is ∙ ap (λ h. by_head h following f) heads ∙ ap (λ r. by_head head2 r f) rests ∙ ap (λ g. by_head head2 behind2 g) framings ∙ sym is2
shape_unique by_head by_limit by_progress stream a b (framed head following f e cut says is) (large long none is2) = absurd (no_head_within stream head following e cut none)
shape_unique by_head by_limit by_progress stream a b (framed head following f e cut says is) (short less none is2) = absurd (no_head_at stream head following e cut none)
shape_unique by_head by_limit by_progress stream a b (large long none is) (framed head following f e cut says is2) = absurd (no_head_within stream head following e cut none)
shape_unique by_head by_limit by_progress stream a b (large long none is) (large long2 none2 is2) = is ∙ sym is2
shape_unique by_head by_limit by_progress stream a b (large long none is) (short less none2 is2) = absurd (omega arith)
shape_unique by_head by_limit by_progress stream a b (short less none is) (framed head following f e cut says is2) = absurd (no_head_at stream head following e cut none)
shape_unique by_head by_limit by_progress stream a b (short less none is) (large long none2 is2) = absurd (omega arith)
shape_unique by_head by_limit by_progress stream a b (short less none is) (short less2 none2 is2) = is ∙ sym is2

-- the front, given these
abbrev pub front_sized : List ℕ → List ℕ → HeadValue → Bool → Front
front_sized head following h true = request (record { bytes = head ++ take h.len following; head = h; body = take h.len following })
front_sized head following h false = stops truncated

abbrev pub front_by_head : List ℕ → List ℕ → Framing → Front
front_by_head head following (broken bare fault) = stops (refused head bare fault)
front_by_head head following (sized h) = front_sized head following h (nat_le h.len (length following))

abbrev pub front_by_limit : List ℕ → Front
front_by_limit bytes = stops (refused bytes false HeadTooLarge)

abbrev pub front_by_progress : HeadProgress → Front
front_by_progress Blank = stops ended
front_by_progress BlankCr = stops truncated
front_by_progress Text = stops truncated
front_by_progress Start = stops truncated
front_by_progress StartCr = stops truncated
front_by_progress Done = stops truncated

not_blank : (p : HeadProgress) → p ≢ Blank → stops truncated ≡ front_by_progress p
not_blank Blank h = absurd (h refl)
not_blank BlankCr h = refl
not_blank Text h = refl
not_blank Start h = refl
not_blank StartCr h = refl
not_blank Done h = refl

pub le_true : (n m : ℕ) → n ≤ m → nat_le n m ≡ true
le_true n m h = grind (arith, common_steps)

pub le_false : (n m : ℕ) → m < n → nat_le n m ≡ false
le_false n m h = grind (arith, common_steps)

request_same : (r q : Request) → r.bytes ≡ q.bytes → r.head ≡ q.head → r.body ≡ q.body → request r ≡ request q
request_same r q a b c =
    ap (λ v. request (record { bytes = v; head = r.head; body = r.body })) a
    ∙ ap (λ v. request (record { bytes = q.bytes; head = v; body = r.body })) b
    ∙ ap (λ v. request (record { bytes = q.bytes; head = q.head; body = v })) c

abbrev FrontShape : List ℕ → Front → Type 0
FrontShape stream front = Shape front_by_head front_by_limit front_by_progress stream front

request_shape : (stream : List ℕ) (r : Request) → IsWholeRequest r → BeginsWith stream r.bytes → FrontShape stream (request r)
request_shape stream r whole (rest, e) =
    let following : List ℕ = r.body ++ rest in
    let front : take r.head.len following ≡ r.body = take_front following r.body rest r.head.len refl whole.len in
    let enough : nat_le r.head.len (length following) ≡ true = le_true r.head.len (length following) (omega (arith, length-append r.body rest, whole.len)) in
    let bytes : r.bytes ≡ whole.head ++ take r.head.len following = whole.parts ∙ ap (λ l. whole.head ++ l) (sym front) in
    let sized_so : request r ≡ front_sized whole.head following r.head true = request_same r (record { bytes = whole.head ++ take r.head.len following; head = r.head; body = take r.head.len following }) bytes refl (sym front) in
    framed whole.head following (sized r.head) (e ∙ ap (λ l. l ++ rest) whole.parts ∙ append_assoc whole.head r.body rest) whole.cut whole.framed
    (sized_so ∙ ap (front_sized whole.head following r.head) (sym enough))

refused_shape : (stream bytes : List ℕ) (bare : Bool) (fault : FramingFault) → Breaks bytes bare fault → BeginsWith stream bytes → FrontShape stream (stops (refused bytes bare fault))
refused_shape stream bytes bare fault (no_end long none bared is) (rest, e) =
    let front : take HEAD_LIMIT stream ≡ bytes = take_front stream bytes rest HEAD_LIMIT e long in
    large (omega (arith, ap length e, length-append bytes rest, long)) (subst HasNoHead (sym front) none)
    (ap (λ b. stops (refused bytes b fault)) bared ∙ ap (λ f. stops (refused bytes false f)) is ∙ ap (λ l. stops (refused l false HeadTooLarge)) (sym front))
refused_shape stream bytes bare fault (rule cut says) (rest, e) = framed bytes rest (broken bare fault) e cut says refl

truncated_shape : (stream : List ℕ) → IsUnfinished stream → FrontShape stream (stops truncated)
truncated_shape stream (in_head less none some) =
    short less none (not_blank (progress_after Blank stream) (λ e. some (record { short = less; blank = subst (λ p. HasReached p stream) e (reached stream) })))
truncated_shape stream (in_body missing some lacks) =
    let less : length lacks.came < lacks.value.len = omega (arith, lacks.len) in
    framed lacks.head lacks.came (sized lacks.value) lacks.parts lacks.cut lacks.framed
    (ap (front_sized lacks.head lacks.came lacks.value) (sym (le_false lacks.value.len (length lacks.came) less)))

end_shape : (stream : List ℕ) (end : StreamEnd) → EndsAs stream end → FrontShape stream (stops end)
end_shape stream (refused bytes bare fault) (breaks, begins) = refused_shape stream bytes bare fault breaks begins
end_shape stream ended blank = short blank.short (not_ended Blank stream blank.blank (λ e. cc)) (ap front_by_progress (sym (reached_is Blank stream blank.blank)))
end_shape stream truncated unfinished = truncated_shape stream unfinished

front_shape : (stream : List ℕ) (front : Front) → IsFront stream front → FrontShape stream front
front_shape stream (request r) (whole, begins) = request_shape stream r whole begins
front_shape stream (stops end) ends = end_shape stream end ends

-- the front of a stream is one thing
pub front_unique : (stream : List ℕ) (f g : Front) → IsFront stream f → IsFront stream g → f ≡ g
front_unique stream f g a b = shape_unique front_by_head front_by_limit front_by_progress stream f g (front_shape stream f a) (front_shape stream g b)

-- ---- lists of requests

abbrev bytes_of : List Request → List ℕ
bytes_of requests = flat_map (λ r. r.bytes) requests

-- a list that begins with a request
first_is : (stream : List ℕ) (r : Request) (rs : List Request) (rest : List ℕ) → BeginsWithAll stream (r ∷ rs) rest → IsFront stream (request r)
first_is stream r rs rest b = (All-head IsWholeRequest r rs b.whole, (bytes_of rs ++ rest, b.joined ∙ append_assoc r.bytes (bytes_of rs) rest))

others_are : (stream following : List ℕ) (r : Request) (rs : List Request) (rest : List ℕ) → following ≡ bytes_of rs ++ rest → BeginsWithAll stream (r ∷ rs) rest → BeginsWithAll following rs rest
others_are stream following r rs rest e b = record { whole = All-tail IsWholeRequest r rs b.whole; joined = e }

nothing_more : (stream : List ℕ) (requests : List Request) (x y : List ℕ) → BeginsWithAll stream [] x → BeginsWithAll stream requests y → BeginsWithAll x requests y
nothing_more stream requests x y a b = record { whole = b.whole; joined = sym a.joined ∙ b.joined }

abbrev Agree : List ℕ → List Request → List Request → List ℕ → List ℕ → Type 0
Agree stream one other x y =
    ((more : List Request) × (other ≡ one ++ more) × BeginsWithAll x more y) ⊎ ((more : List Request) × (one ≡ other ++ more) × BeginsWithAll y more x)

one_more : (stream following : List ℕ) (r q : Request) (rs qs : List Request) (x y : List ℕ) → r ≡ q → Agree following rs qs x y → Agree stream (r ∷ rs) (q ∷ qs) x y
one_more stream following r q rs qs x y same (inl (more, e, rest)) = inl (more, ap (λ h. h ∷ qs) (sym same) ∙ ap (λ t. r ∷ t) e, rest)
one_more stream following r q rs qs x y same (inr (more, e, rest)) = inr (more, ap (λ h. h ∷ rs) same ∙ ap (λ t. q ∷ t) e, rest)

pub beginnings_agree : (stream : List ℕ) (one other : List Request) (x y : List ℕ) → BeginsWithAll stream one x → BeginsWithAll stream other y → Agree stream one other x y
beginnings_agree stream [] other x y a b = inl (other, refl, nothing_more stream other x y a b)
beginnings_agree stream (r ∷ rs) [] x y a b = inr (r ∷ rs, refl, nothing_more stream (r ∷ rs) y x b a)
beginnings_agree stream (r ∷ rs) (q ∷ qs) x y a b =
    let fronts : request r ≡ request q = front_unique stream (request r) (request q) (first_is stream r rs x a) (first_is stream q qs y b) in
    let same : r ≡ q = cc in
    let following : List ℕ = bytes_of rs ++ x in
    let streams : r.bytes ++ following ≡ q.bytes ++ (bytes_of qs ++ y) =
    sym (append_assoc r.bytes (bytes_of rs) x) ∙ sym a.joined ∙ b.joined ∙ append_assoc q.bytes (bytes_of qs) y in
    let rests : following ≡ bytes_of qs ++ y = after_same r.bytes q.bytes following (bytes_of qs ++ y) (ap (λ t. t.bytes) same) streams in
    one_more stream following r q rs qs x y same (beginnings_agree following rs qs x y (others_are stream following r rs x refl a) (others_are stream following q qs y rests b))

-- if a stream goes on in this way, no further request follows
no_further : (x y : List ℕ) (more : List Request) (e f : StreamEnd) → BeginsWithAll x more y → EndsAs x e → EndsAs y f → (more ≡ []) × (e ≡ f)
no_further x y [] e f b one other =
    let same : stops e ≡ stops f = front_unique x (stops e) (stops f) one (subst (λ l. EndsAs l f) (sym b.joined) other) in
    (refl, cc)
no_further x y (r ∷ rs) e f b one other =
    let same : stops e ≡ request r = front_unique x (stops e) (request r) one (first_is x r rs y b) in
    cc

cut_by : (one other : List Request) (e f : StreamEnd) (x y stream : List ℕ) → Agree stream one other x y → EndsAs x e → EndsAs y f → (one ≡ other) × (e ≡ f)
cut_by one other e f x y stream (inl (more, is, b)) here there =
    let last = no_further x y more e f b here there in
    (sym (is ∙ ap (λ l. one ++ l) last.0 ∙ append-nil one), last.1)
cut_by one other e f x y stream (inr (more, is, b)) here there =
    let last = no_further y x more f e b there here in
    (is ∙ ap (λ l. other ++ l) last.0 ∙ append-nil other, sym last.1)

-- a stream is cut in one way
pub cut_unique : (stream : List ℕ) (one other : List Request) (e f : StreamEnd) → IsCut stream one e → IsCut stream other f → (one ≡ other) × (e ≡ f)
cut_unique stream one other e f a b = cut_by one other e f a.rest b.rest stream (beginnings_agree stream one other a.rest b.rest a.begins b.begins) a.ends b.ends
