-- The answers with a keeper's fault, as they are written.
use Rattle.std.proofs.Common.{◌≡◌, refl, true, codes}
use Rattle.std.specs.Fmt.{digits}
use Rattle.json.specs.Print.{escape_byte}
use Rattle.streetmap_http.specs.HeadLines.{phrase_of}
use Rattle.streetmap_http.specs.AnswerHead.{head_text}
use Rattle.streetmap_ledger.specs.Refusals.{fault_code, fault_description}
use Rattle.streetmap_ledger.specs.declared.reply.Fault.TheVariants as faults
use Rattle.streetmap_bodies.specs.RequestFaults.{code_of, description_of, fault_body}
use Rattle.streetmap_web.specs.Response.{fault_response, head_of}
use Rattle.streetmap_bodies.specs.declared.request_fault.RequestFault.TheVariants.{Keeper}

pub memory_body : codes "{\"code\":\"memory\",\"description\":\"Memory was refused; the call may be made again.\"}" ≡ (fault_response (Keeper faults.Memory)).body
unfolding fault_response fault_body code_of description_of fault_code fault_description escape_byte
memory_body = refl

pub device_body : codes "{\"code\":\"device\",\"description\":\"The store failed and must be opened again.\"}" ≡ (fault_response (Keeper faults.Device)).body
unfolding fault_response fault_body code_of description_of fault_code fault_description escape_byte
device_body = refl

pub damaged_body : codes "{\"code\":\"damaged\",\"description\":\"The store holds a row that cannot be read.\"}" ≡ (fault_response (Keeper faults.Damaged)).body
unfolding fault_response fault_body code_of description_of fault_code fault_description escape_byte
damaged_body = refl

pub reopen_body : codes "{\"code\":\"reopen\",\"description\":\"The store is shut and must be opened again.\"}" ≡ (fault_response (Keeper faults.Reopen)).body
unfolding fault_response fault_body code_of description_of fault_code fault_description escape_byte
reopen_body = refl

pub memory_head : codes "HTTP/1.1 503 Service Unavailable\r\nContent-Type: application/json\r\nContent-Length: 81\r\nConnection: close\r\n\r\n" ≡ head_text (head_of true (fault_response (Keeper faults.Memory)))
unfolding fault_response fault_body code_of description_of fault_code fault_description escape_byte phrase_of digits
memory_head = refl

pub device_head : codes "HTTP/1.1 500 Internal Server Error\r\nContent-Type: application/json\r\nContent-Length: 76\r\nConnection: close\r\n\r\n" ≡ head_text (head_of true (fault_response (Keeper faults.Device)))
unfolding fault_response fault_body code_of description_of fault_code fault_description escape_byte phrase_of digits
device_head = refl

pub damaged_head : codes "HTTP/1.1 500 Internal Server Error\r\nContent-Type: application/json\r\nContent-Length: 77\r\nConnection: close\r\n\r\n" ≡ head_text (head_of true (fault_response (Keeper faults.Damaged)))
unfolding fault_response fault_body code_of description_of fault_code fault_description escape_byte phrase_of digits
damaged_head = refl

pub reopen_head : codes "HTTP/1.1 500 Internal Server Error\r\nContent-Type: application/json\r\nContent-Length: 77\r\nConnection: close\r\n\r\n" ≡ head_text (head_of true (fault_response (Keeper faults.Reopen)))
unfolding fault_response fault_body code_of description_of fault_code fault_description escape_byte phrase_of digits
reopen_head = refl
