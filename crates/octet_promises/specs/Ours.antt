-- Which elements of a message are ours, and what is given back of them: over the places of its octets, and without the
-- functions that the reader's definition is made of. What the body of one Cause or Facility element says is theirs.
use Rattle.std.specs.Prelude.{Option, Some, None, ℕ, suc, ◌+◌, ◌<◌, ◌≤◌, List, ◌⊎◌, Bool, true, false, ◌≡◌, length, get_or, take, drop}
use Rattle.message_fields.specs.declared.Place.{Place}
use Rattle.cause.specs.Element.{cause_of}
use Rattle.facility.specs.declared.Component.{Component}
use Rattle.facility.specs.Forms.{facility_of}
use Rattle.message_types.specs.declared.Kind.{Kind}
use Rattle.message_fields.specs.declared.Single.{Single}
use Rattle.message_fields.specs.declared.Facilities.{Facilities}

-- Where the element at p ends: "an octet of 80 or more stands alone; otherwise a length octet and that many octets
-- follow."
pub data Ends (m : List ℕ) (p : ℕ) : ℕ → Type 0 where
  alone : 0x80 ≤ get_or m p 0 → Ends m p (p + 1)
  lengthy : get_or m p 0 < 0x80 → Ends m p (p + 2 + get_or m (p + 1) 0)

-- "a locking shift (90 to 97)", "a non-locking shift (98 to 9F)", and no shift
abbrev pub Locking : ℕ → Type 0
Locking x = (0x90 ≤ x) × (x ≤ 0x97)

abbrev pub NonLocking : ℕ → Type 0
NonLocking x = (0x98 ≤ x) × (x ≤ 0x9F)

abbrev pub NoShift : ℕ → Type 0
NoShift x = (x < 0x90) ⊎ (0x9F < x)

-- The scan has come to the element at p, which is passed over or not; the element at r is one that it looks at.
pub data Looks (m : List ℕ) : ℕ → Bool → ℕ → Type 0 where
  -- at the element where it stands, if that is not passed over
  here : {p : ℕ} → p < length m → Looks m p false p
  -- "passed over", "a shift too": the one after it is not
  passed : {p q r : ℕ} → Ends m p q → Looks m q false r → Looks m p true r
  -- "A non-locking shift (98 to 9F) makes the next element passed over"
  shifted : {p q r : ℕ} → NonLocking (get_or m p 0) → Ends m p q → Looks m q true r → Looks m p false r
  -- any element but a shift: "After a locking shift (90 to 97) the scan for our elements stops"
  onward : {p q r : ℕ} → NoShift (get_or m p 0) → Ends m p q → Looks m q false r → Looks m p false r

-- "08, the reference length (1 or 2), the reference, the type, the elements": where the elements start
abbrev pub start : List ℕ → ℕ
start m = get_or m 1 0 + 3

-- the scan starts there, and passes nothing over yet
abbrev pub Ours : List ℕ → ℕ → Type 0
Ours m p = Looks m (start m) false p

-- the octets after an element's length octet
abbrev pub body_at : List ℕ → ℕ → List ℕ
body_at m p = take (get_or m (p + 1) 0) (drop (p + 2) m)

-- What each of our elements says. "Used: Cause 08, Facility 1C, User-user 7E, More data A0, Congestion level B0 (ready)
-- and BF (not ready). All others are passed over."
pub record SaysCause (m : List ℕ) (p : ℕ) (c : Option ℕ) : Type 0 where
  pub ours : Ours m p
  pub octet : get_or m p 0 ≡ 0x08
  pub says : cause_of (body_at m p) ≡ c

-- "An unreadable Facility element, one that is not exactly one component, or a reject component counts as absent."
pub record SaysComponent (m : List ℕ) (p : ℕ) (c : Component) : Type 0 where
  pub ours : Ours m p
  pub octet : get_or m p 0 ≡ 0x1C
  pub says : facility_of (body_at m p) ≡ Some c

-- the whole element, with its first two octets
pub record SaysPlace (m : List ℕ) (p : ℕ) (u : Option Place) : Type 0 where
  pub ours : Ours m p
  pub octet : get_or m p 0 ≡ 0x7E
  pub says : Some (record { at = p; size = (get_or m (p + 1) 0 + 2) }) ≡ u

-- "More data belongs to USER INFORMATION only, and a congestion level to CONGESTION CONTROL; elsewhere the reader
-- passes them over."
pub data IsSingle : Kind → ℕ → Single → Type 0 where
  more : IsSingle Kind.UserInformation 0xA0 Single.MoreData
  ready : IsSingle Kind.CongestionControl 0xB0 Single.Ready
  not_ready : IsSingle Kind.CongestionControl 0xBF Single.NotReady

pub record SaysSingle (m : List ℕ) (k : Kind) (p : ℕ) (s : Single) : Type 0 where
  pub ours : Ours m p
  pub says : IsSingle k (get_or m p 0) s

-- the first from place i on that says anything stands at p and says a; none from there on says anything
pub record Next {A : Type 0} (says : ℕ → A → Type 0) (i p : ℕ) (a : A) : Type 0 where
  pub since : i ≤ p
  pub said : says p a
  pub before : (q : ℕ) (b : A) → i ≤ q → q < p → says q b → ⊥

abbrev pub Silent : {A : Type 0} → (ℕ → A → Type 0) → ℕ → Type 0
Silent {A} says i = (q : ℕ) (b : A) → i ≤ q → says q b → ⊥

-- "The first User-user element counts", "The first Cause and level count."
pub data First {A : Type 0} (says : ℕ → A → Type 0) (absent : A) (i : ℕ) : A → Type 0 where
  first : {p : ℕ} {a : A} → Next says i p a → First says absent i a
  none : Silent says i → First says absent i absent

-- "and the first three Facility elements in order"
pub data Three (says : ℕ → Component → Type 0) (i : ℕ) : Facilities → Type 0 where
  silent : Silent says i → Three says i Facilities.Zero
  one : {p : ℕ} {a : Component} → Next says i p a → Silent says (suc p) → Three says i (Facilities.One a)
  two : {p q : ℕ} {a b : Component} → Next says i p a → Next says (suc p) q b → Silent says (suc q) → Three says i (Facilities.Two a b)
  three : {p q r : ℕ} {a b c : Component} → Next says i p a → Next says (suc p) q b → Next says (suc q) r c → Three says i (Facilities.Three a b c)

-- OURS. What is given back of a message that is taken.
abbrev pub GivesCause : List ℕ → Option ℕ → Type 0
GivesCause m = First (SaysCause m) None (start m)

abbrev pub GivesSingle : List ℕ → Kind → Single → Type 0
GivesSingle m k = First (SaysSingle m k) Single.Absent (start m)

abbrev pub GivesFacilities : List ℕ → Facilities → Type 0
GivesFacilities m = Three (SaysComponent m) (start m)

abbrev pub GivesPlace : List ℕ → Option Place → Type 0
GivesPlace m = First (SaysPlace m) None (start m)
