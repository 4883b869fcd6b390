-- What a record of a trace means: which octet is which kind, where each field stands, and what its values say. All of
-- it is the paper's, written out; nothing here names the reader's tables. Each statement is a type; `proofs/Means.antt`
-- has its proof.
use Rattle.std.specs.Prelude.{Some, None, Ok, ℕ, ◌+◌, ◌*◌, List, [], Bool, true, false, ◌≡◌, get_or, take, drop}
use Rattle.services.specs.declared.ByService.{ByService}
use Rattle.event.specs.declared.Event.{Event}
use Rattle.facility_rules.specs.declared.What.{What}
use Rattle.rights.specs.declared.Rights.{Rights}
use Rattle.sent.specs.declared.side.Side.{Side}
use Rattle.services.specs.declared.Given.{Given}
use Rattle.services.specs.declared.Request.{Request}
use Rattle.trace.specs.declared.kind.RecordKind.{RecordKind}
use Rattle.trace.specs.declared.Entry.{Entry}
use Rattle.trace.specs.Kind.{record_kind_of}
use Rattle.trace.specs.Reading.{record_of, element_of}

-- "One octet of kind: 1 SETUP, 2 ALERTING, 3 CONNECT, 4 USER INFORMATION, 5 FACILITY, 6 DISCONNECT, 7 RELEASE COMPLETE,
-- 8 tick."
abbrev pub kind_number : RecordKind → ℕ
kind_number RecordKind.Setup = 1
kind_number RecordKind.Alerting = 2
kind_number RecordKind.Connect = 3
kind_number RecordKind.Information = 4
kind_number RecordKind.Facility = 5
kind_number RecordKind.Disconnect = 6
kind_number RecordKind.ReleaseComplete = 7
kind_number RecordKind.Tick = 8

-- KINDS. Every number is known as its kind, and no other number is.
pub record Kinds : Type 0 where
  pub known : (k : RecordKind) → record_kind_of (kind_number k) ≡ Some k
  pub only : (x : ℕ) (k : RecordKind) → record_kind_of x ≡ Some k → x ≡ kind_number k

-- late and leave
pub data FlagIs : ℕ → Bool → Type 0 where
  no : FlagIs 0 false
  yes : FlagIs 1 true

-- "side (0 calling)"
pub data SideIs : ℕ → Side → Type 0 where
  calling : SideIs 0 Side.Calling
  called : SideIs 1 Side.Called

-- "three requests (0 none, 1 preferred, 2 required)"
pub data RequestIs : ℕ → Request → Type 0 where
  unasked : RequestIs 0 Request.Unasked
  preferred : RequestIs 1 Request.Preferred
  required : RequestIs 2 Request.Required

-- "three answers (0 none, 1 accept, 2 reject)"
pub data AnswerIs : ℕ → Given → Type 0 where
  silent : AnswerIs 0 Given.Silent
  accepted : AnswerIs 1 Given.Accepted
  rejected : AnswerIs 2 Given.Rejected

-- "what (0 preferred request, 1 accept, 2 reject, 3 required request)"
pub data WhatIs : ℕ → What → Type 0 where
  preferred : WhatIs 0 What.Preferred
  accept : WhatIs 1 What.Accept
  reject : WhatIs 2 What.Reject
  required : WhatIs 3 What.Required

-- "Bodies start with the reference, high octet first. Then: 1: services, late, leave, limit, X, Y," so, the octet of
-- kind being octet 0:
abbrev pub reference_in : List ℕ → ℕ
reference_in t = get_or t 1 0 * 256 + get_or t 2 0

pub record RightsIn (t : List ℕ) (r : Rights) : Type 0 where
  pub services : r.services ≡ get_or t 3 0
  pub late : FlagIs (get_or t 4 0) r.late
  pub leave : FlagIs (get_or t 5 0) r.leave
  pub limit : r.limit ≡ get_or t 6 0
  pub x : r.burst ≡ get_or t 7 0
  pub y : r.refill ≡ get_or t 8 0

-- three of them, from octet p on
pub record RequestsAt (p : ℕ) (t : List ℕ) (q : ByService Request) : Type 0 where
  pub one : RequestIs (get_or t p 0) q.one
  pub two : RequestIs (get_or t (p + 1) 0) q.two
  pub three : RequestIs (get_or t (p + 2) 0) q.three

pub record AnswersAt (p : ℕ) (t : List ℕ) (a : ByService Given) : Type 0 where
  pub one : AnswerIs (get_or t p 0) a.one
  pub two : AnswerIs (get_or t (p + 1) 0) a.two
  pub three : AnswerIs (get_or t (p + 2) 0) a.three

-- "An element field is n, the n octets, .."
abbrev pub element_at : ℕ → List ℕ → List ℕ
element_at p t = take (get_or t p 0) (drop (p + 1) t)

-- the kind, the event and the element that the octets say. "1: .., three requests, element. 2 and 3: three answers,
-- element. 4: side, element. 5: side, what. 6: side, cause, answers, element. 7: side." More data is in no trace.
pub data Says (t : List ℕ) : RecordKind → Event → List ℕ → Type 0 where
  setup :
      {r : Rights} {q : ByService Request} → get_or t 0 0 ≡ 1 → RightsIn t r → RequestsAt 9 t q
      → Says t RecordKind.Setup (Event.Setup (reference_in t) r q) (element_at 12 t)
  alerting : {a : ByService Given} → get_or t 0 0 ≡ 2 → AnswersAt 3 t a → Says t RecordKind.Alerting (Event.Alerting a) (element_at 6 t)
  connect : {a : ByService Given} → get_or t 0 0 ≡ 3 → AnswersAt 3 t a → Says t RecordKind.Connect (Event.Connect a) (element_at 6 t)
  information :
      {s : Side} → get_or t 0 0 ≡ 4 → SideIs (get_or t 3 0) s
      → Says t RecordKind.Information (Event.Information s false) (element_at 4 t)
  facility :
      {s : Side} {w : What} → get_or t 0 0 ≡ 5 → SideIs (get_or t 3 0) s → WhatIs (get_or t 4 0) w
      → Says t RecordKind.Facility (Event.Facility s w) []
  disconnect :
      {s : Side} {a : ByService Given} → get_or t 0 0 ≡ 6 → SideIs (get_or t 3 0) s → AnswersAt 5 t a
      → Says t RecordKind.Disconnect (Event.Disconnect s (get_or t 4 0) a) (element_at 8 t)
  complete :
      {s : Side} → get_or t 0 0 ≡ 7 → SideIs (get_or t 3 0) s
      → Says t RecordKind.ReleaseComplete (Event.ReleaseComplete s) []
  tick : get_or t 0 0 ≡ 8 → Says t RecordKind.Tick Event.Tick []

pub record Meant (t : List ℕ) (x : Entry) : Type 0 where
  pub reference : x.reference ≡ reference_in t
  pub says : Says t x.kind x.event (element_of x t)

-- MEANS. A record that is taken is taken for what its octets say; and a trace ends only where there are no octets.
pub record Means : Type 0 where
  pub taken : (t : List ℕ) (x : Entry) → record_of t ≡ Some (Ok x) → Meant t x
  pub ended : (t : List ℕ) → record_of t ≡ None → t ≡ []
