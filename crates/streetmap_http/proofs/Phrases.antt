-- Phrases of statuses are short.
use Rattle.std.proofs.Common.{◌≡◌, ◌∙◌, ◌≤◌, ℕ, List, [], Bool, true, false, length, lit≤, ap}
use Rattle.std.specs.Prelude.{Option, Some, None, IfSome, option_map, unwrap_or, codes, ◌==◌, if◌then◌else◌}
use Rattle.http.specs.StatusCode.{reason_phrase}

pub data Short (phrase : Option (List ℕ)) : Type 0 where
  short : IfSome phrase (λ p. length p ≤ 40) → Short phrase

is_short : (b : Bool) (p : List ℕ) (others : Option (List ℕ)) → length p ≤ 40 → Short others → Short (if b then Some p else others)
is_short true p others fits rest = short fits
is_short false p others fits rest = rest

pub phrases_are_short : (n : ℕ) → Short (reason_phrase n)
phrases_are_short n =
    is_short (n == 100) (codes "Continue") _ (lit≤ tt) (
    is_short (n == 101) (codes "Switching Protocols") _ (lit≤ tt) (
    is_short (n == 102) (codes "Processing") _ (lit≤ tt) (
    is_short (n == 103) (codes "Early Hints") _ (lit≤ tt) (
    is_short (n == 200) (codes "OK") _ (lit≤ tt) (
    is_short (n == 201) (codes "Created") _ (lit≤ tt) (
    is_short (n == 202) (codes "Accepted") _ (lit≤ tt) (
    is_short (n == 203) (codes "Non Authoritative Information") _ (lit≤ tt) (
    is_short (n == 204) (codes "No Content") _ (lit≤ tt) (
    is_short (n == 205) (codes "Reset Content") _ (lit≤ tt) (
    is_short (n == 206) (codes "Partial Content") _ (lit≤ tt) (
    is_short (n == 207) (codes "Multi-Status") _ (lit≤ tt) (
    is_short (n == 208) (codes "Already Reported") _ (lit≤ tt) (
    is_short (n == 226) (codes "IM Used") _ (lit≤ tt) (
    is_short (n == 300) (codes "Multiple Choices") _ (lit≤ tt) (
    is_short (n == 301) (codes "Moved Permanently") _ (lit≤ tt) (
    is_short (n == 302) (codes "Found") _ (lit≤ tt) (
    is_short (n == 303) (codes "See Other") _ (lit≤ tt) (
    is_short (n == 304) (codes "Not Modified") _ (lit≤ tt) (
    is_short (n == 305) (codes "Use Proxy") _ (lit≤ tt) (
    is_short (n == 307) (codes "Temporary Redirect") _ (lit≤ tt) (
    is_short (n == 308) (codes "Permanent Redirect") _ (lit≤ tt) (
    is_short (n == 400) (codes "Bad Request") _ (lit≤ tt) (
    is_short (n == 401) (codes "Unauthorized") _ (lit≤ tt) (
    is_short (n == 402) (codes "Payment Required") _ (lit≤ tt) (
    is_short (n == 403) (codes "Forbidden") _ (lit≤ tt) (
    is_short (n == 404) (codes "Not Found") _ (lit≤ tt) (
    is_short (n == 405) (codes "Method Not Allowed") _ (lit≤ tt) (
    is_short (n == 406) (codes "Not Acceptable") _ (lit≤ tt) (
    is_short (n == 407) (codes "Proxy Authentication Required") _ (lit≤ tt) (
    is_short (n == 408) (codes "Request Timeout") _ (lit≤ tt) (
    is_short (n == 409) (codes "Conflict") _ (lit≤ tt) (
    is_short (n == 410) (codes "Gone") _ (lit≤ tt) (
    is_short (n == 411) (codes "Length Required") _ (lit≤ tt) (
    is_short (n == 412) (codes "Precondition Failed") _ (lit≤ tt) (
    is_short (n == 413) (codes "Payload Too Large") _ (lit≤ tt) (
    is_short (n == 414) (codes "URI Too Long") _ (lit≤ tt) (
    is_short (n == 415) (codes "Unsupported Media Type") _ (lit≤ tt) (
    is_short (n == 416) (codes "Range Not Satisfiable") _ (lit≤ tt) (
    is_short (n == 417) (codes "Expectation Failed") _ (lit≤ tt) (
    is_short (n == 418) (codes "I'm a teapot") _ (lit≤ tt) (
    is_short (n == 421) (codes "Misdirected Request") _ (lit≤ tt) (
    is_short (n == 422) (codes "Unprocessable Entity") _ (lit≤ tt) (
    is_short (n == 423) (codes "Locked") _ (lit≤ tt) (
    is_short (n == 424) (codes "Failed Dependency") _ (lit≤ tt) (
    is_short (n == 425) (codes "Too Early") _ (lit≤ tt) (
    is_short (n == 426) (codes "Upgrade Required") _ (lit≤ tt) (
    is_short (n == 428) (codes "Precondition Required") _ (lit≤ tt) (
    is_short (n == 429) (codes "Too Many Requests") _ (lit≤ tt) (
    is_short (n == 431) (codes "Request Header Fields Too Large") _ (lit≤ tt) (
    is_short (n == 451) (codes "Unavailable For Legal Reasons") _ (lit≤ tt) (
    is_short (n == 500) (codes "Internal Server Error") _ (lit≤ tt) (
    is_short (n == 501) (codes "Not Implemented") _ (lit≤ tt) (
    is_short (n == 502) (codes "Bad Gateway") _ (lit≤ tt) (
    is_short (n == 503) (codes "Service Unavailable") _ (lit≤ tt) (
    is_short (n == 504) (codes "Gateway Timeout") _ (lit≤ tt) (
    is_short (n == 505) (codes "HTTP Version Not Supported") _ (lit≤ tt) (
    is_short (n == 506) (codes "Variant Also Negotiates") _ (lit≤ tt) (
    is_short (n == 507) (codes "Insufficient Storage") _ (lit≤ tt) (
    is_short (n == 508) (codes "Loop Detected") _ (lit≤ tt) (
    is_short (n == 510) (codes "Not Extended") _ (lit≤ tt) (
    is_short (n == 511) (codes "Network Authentication Required") _ (lit≤ tt) (
    short tt))))))))))))))))))))))))))))))))))))))))))))))))))))))))))))))

-- a phrase by reference; empty if none is known
pub stated : {B : Type 0} (view : B → List ℕ) (found : Option B) (other : B) (phrase : Option (List ℕ)) → option_map view found ≡ phrase → view other ≡ [] → view (unwrap_or found other) ≡ unwrap_or phrase []
stated view None other phrase e none = none ∙ ap (λ p. unwrap_or p []) e
stated view (Some b) other phrase e none = ap (λ p. unwrap_or p []) e

pub stated_short : (phrase : Option (List ℕ)) → Short phrase → length (unwrap_or phrase []) ≤ 40
stated_short None (short h) = lit≤ tt
stated_short (Some p) (short h) = h
