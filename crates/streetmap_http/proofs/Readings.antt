-- The bytes read, or received, are the front of the stream.
use Rattle.std.proofs.Common.{◌≡◌, ◌<◌, ◌-◌, ◌∙◌, ◌++◌, [], ℕ, List, length, take, drop, sym, ap, subst, refl, arith, take-append-drop, append_assoc, append-nil, length-append, inl, inr, ◌⊎◌}
use Rattle.std.specs.Prelude.{Some, IfSome}
use Rattle.streetmap_http.specs.declared.limits.TheConstants.{HEAD_LIMIT}
use Rattle.streetmap_http.specs.declared.head.HeadProgress.{HeadProgress}
use Rattle.streetmap_http.specs.declared.head.HeadProgress.TheVariants.{Blank, BlankCr, Text, Start, StartCr, Done}
use Rattle.streetmap_http.specs.declared.head.HeadEnd.{HeadEnd}
use Rattle.streetmap_http.specs.declared.head.HeadEnd.TheVariants.{Whole, TooLarge, Ended, Truncated, Failed}
use Rattle.streetmap_http.specs.declared.body.BodyEnd.{BodyEnd}
use Rattle.streetmap_http.specs.declared.body.BodyEnd.TheVariants as bodies
use Rattle.streetmap_http.specs.declared.arrival.Arrival.{Arrival}
use Rattle.streetmap_http.specs.declared.arrival.Arrival.TheVariants.{Request, Head, Body}
use Rattle.streetmap_http.specs.Head.{IsHead, HasNoHead, IsBlank, HeadSays}
use Rattle.streetmap_http.specs.Progress.{HasReached}
use Rattle.streetmap_http.specs.Framing.{HeadValue, Frames, sized, no_end}
use Rattle.streetmap_http.specs.Body.{BodySays}
use Rattle.streetmap_http.specs.Streams.{IsUnfinished, in_head, in_body, refused, ended, truncated, EndsAs, Front, request, stops, IsFront}
use Rattle.streetmap_http.specs.Arrivals.{HoldsOf}
use Rattle.streetmap_http.specs.Laws.{end_by, front_by, IsOfArrival}
use Rattle.streetmap_http.proofs.Heads.{progress_after}
use Rattle.streetmap_http.proofs.ByLines.{reached}
use Rattle.streetmap_http.proofs.OneHead.{not_blank}

-- all that is left was read
all_read : (stream bytes left : List ℕ) → stream ≡ bytes ++ left → left ≡ [] → stream ≡ bytes
all_read stream bytes left e none = e ∙ ap (λ l. bytes ++ l) none ∙ append-nil bytes

pub heads_read_are_fronts : (stream bytes left : List ℕ) (end : HeadEnd) → stream ≡ bytes ++ left → HeadSays end bytes (Some left) → IfSome (end_by end bytes) (EndsAs stream)
heads_read_are_fronts stream bytes left Whole e says = tt
heads_read_are_fronts stream bytes left TooLarge e says = (no_end says.0 says.1 refl refl, (left, e))
heads_read_are_fronts stream bytes left Ended e says = subst IsBlank (sym (all_read stream bytes left e says.1)) says.0
heads_read_are_fronts stream bytes left Truncated e says = subst IsUnfinished (sym (all_read stream bytes left e says.3)) (in_head says.0 says.1 says.2)
heads_read_are_fronts stream bytes left Failed e says = tt

lacks_is : (stream head came : List ℕ) (h : HeadValue) → stream ≡ head ++ came → IsHead head → Frames head (sized h) → length came < h.len → IsUnfinished stream
lacks_is stream head came h e cut says less =
    in_body (h.len - length came) (omega arith) (record { head = head; came = came; value = h; parts = e; cut = cut; framed = says; len = omega (arith, less) })

pub bodies_read_are_fronts : (stream head came left : List ℕ) (h : HeadValue) (end : BodyEnd) → stream ≡ head ++ (came ++ left) → IsHead head → Frames head (sized h)
    → BodySays end (length came) h.len (Some left) → IfSome (front_by end h head came) (IsFront stream)
bodies_read_are_fronts stream head came left h bodies.Whole e cut says read =
    (record { head = head; parts = refl; cut = cut; framed = says; len = read }, (left, e ∙ sym (append_assoc head came left)))
bodies_read_are_fronts stream head came left h bodies.Truncated e cut says read =
    lacks_is stream head came h (e ∙ ap (λ l. head ++ (came ++ l)) read.1 ∙ ap (λ l. head ++ l) (append-nil came)) cut says read.0
bodies_read_are_fronts stream head came left h bodies.Failed e cut says read = tt

-- no head ends in the bytes, but one may yet
waits : (bytes : List ℕ) (p : HeadProgress) → HasReached p bytes → length bytes < HEAD_LIMIT → HasNoHead bytes → (front : Front) × IsFront bytes front × ((front ≡ stops ended) ⊎ (front ≡ stops truncated))
waits bytes Blank s less none = (stops ended, record { short = less; blank = s }, inl refl)
waits bytes BlankCr s less none = (stops truncated, in_head less none (not_blank BlankCr bytes s (λ e. cc)), inr refl)
waits bytes Text s less none = (stops truncated, in_head less none (not_blank Text bytes s (λ e. cc)), inr refl)
waits bytes Start s less none = (stops truncated, in_head less none (not_blank Start bytes s (λ e. cc)), inr refl)
waits bytes StartCr s less none = (stops truncated, in_head less none (not_blank StartCr bytes s (λ e. cc)), inr refl)
waits bytes Done (head, rest, lines, h, e) less none =
    absurd (none head rest e (record { short = omega (arith, ap length e, length-append head rest); lines = lines; are = h }))

pub arrivals_are_fronts : (bytes : List ℕ) (arrival : Arrival) → HoldsOf arrival bytes → (front : Front) × IsFront bytes front × IsOfArrival arrival bytes front
arrivals_are_fronts bytes (Request n) (within, inl (h, body, r)) =
    (request (record { bytes = take n bytes; head = h; body = body }), (r, (drop n bytes, sym (take-append-drop n bytes))), refl)
arrivals_are_fronts bytes (Request n) (within, inr (bare, fault, breaks)) =
    (stops (refused (take n bytes) bare fault), (breaks, (drop n bytes, sym (take-append-drop n bytes))), (bare, fault, refl))
arrivals_are_fronts bytes Head (less, none) = waits bytes (progress_after Blank bytes) (reached bytes) less none
arrivals_are_fronts bytes (Body missing) (some, lacks) = (stops truncated, in_body missing some lacks, refl)
