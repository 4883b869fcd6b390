-- What an octet of a field says, and the octet that says it.
use Rattle.std.specs.Prelude.{Option, Some, None, ℕ, ◌+◌, Bool, true, false, cond, not, eqb, ◌≡◌, refl, List, get_or}
use Rattle.facility_rules.specs.declared.What.{What}
use Rattle.sent.specs.declared.side.Side.{Side}
use Rattle.services.specs.declared.Given.{Given}
use Rattle.services.specs.declared.Request.{Request}

-- octet i of the field at a place; 0 where a kind has no such field
abbrev pub octet_in : Option ℕ → ℕ → List ℕ → ℕ
octet_in None i t = 0
octet_in (Some p) i t = get_or t (p + i) 0

-- late and leave: 0 or 1
unfoldable pub flag_of : ℕ → Bool
flag_of x = not (eqb x 0)

-- "side (0 calling)"
unfoldable pub side_of : ℕ → Side
side_of x = cond (eqb x 0) Side.Calling Side.Called

-- "three requests (0 none, 1 preferred, 2 required)"
unfoldable pub request_of : ℕ → Request
request_of x = cond (eqb x 0) Request.Unasked (cond (eqb x 1) Request.Preferred Request.Required)

-- "three answers (0 none, 1 accept, 2 reject)"
unfoldable pub given_of : ℕ → Given
given_of x = cond (eqb x 0) Given.Silent (cond (eqb x 1) Given.Accepted Given.Rejected)

-- "what (0 preferred request, 1 accept, 2 reject, 3 required request)"
unfoldable pub what_of : ℕ → What
what_of x =
    cond (eqb x 0) What.Preferred (cond (eqb x 1) What.Accept (cond (eqb x 2) What.Reject What.Required))

-- the octets that say so: each number as above
abbrev pub flag_octet : Bool → ℕ
flag_octet false = 0
flag_octet true = 1

abbrev pub side_octet : Side → ℕ
side_octet Side.Calling = 0
side_octet Side.Called = 1

abbrev pub request_octet : Request → ℕ
request_octet Request.Unasked = 0
request_octet Request.Preferred = 1
request_octet Request.Required = 2

abbrev pub given_octet : Given → ℕ
given_octet Given.Silent = 0
given_octet Given.Accepted = 1
given_octet Given.Rejected = 2

abbrev pub what_octet : What → ℕ
what_octet What.Preferred = 0
what_octet What.Accept = 1
what_octet What.Reject = 2
what_octet What.Required = 3

-- what is written reads back
pub flag_back : (b : Bool) → flag_of (flag_octet b) ≡ b
unfolding flag_of
flag_back false = refl
flag_back true = refl

pub side_back : (s : Side) → side_of (side_octet s) ≡ s
unfolding side_of
side_back Side.Calling = refl
side_back Side.Called = refl

pub request_back : (q : Request) → request_of (request_octet q) ≡ q
unfolding request_of
request_back Request.Unasked = refl
request_back Request.Preferred = refl
request_back Request.Required = refl

pub given_back : (g : Given) → given_of (given_octet g) ≡ g
unfolding given_of
given_back Given.Silent = refl
given_back Given.Accepted = refl
given_back Given.Rejected = refl

pub what_back : (w : What) → what_of (what_octet w) ≡ w
unfolding what_of
what_back What.Preferred = refl
what_back What.Accept = refl
what_back What.Reject = refl
what_back What.Required = refl
