-- A text read octet by octet: what has been read, and what is still to be, make the whole.
use Prim.Native.Nat.{ℕ, suc, ◌+◌, ◌-◌, ◌<◌, ◌≤◌}
use mathlib.Core.List.{List, [], ◌∷◌, ◌++◌, append_assoc, append-nil}
use mathlib.Core.Bool.{Bool, true, false}
use mathlib.Core.Path.{◌≡◌, refl, sym, ap, ◌∙◌}
use native.Mathlib.Omega.{arith}
use native.Mathlib.Nat.{zero-add, add_assoc}
use native.Mathlib.Numerals.{add-one}
use borrow.Author.Tests.{le-leb, lt-leb, leb-true, leb-false}
use lib.Dec.{leb}
use lib.ListN.{length, get_or, drop, set, length-append, drop_of_length-le}
use lib.Seq.{drop-cons}
use Rattle.memory.specs.Putting.{Put}
use Rattle.memory.proofs.Pieces.{no_put, puts, put_length}
use Rattle.text.specs.declared.octets.Reading.{Reading}
use Rattle.text.specs.declared.octets.Step.{Step}
use Rattle.text.specs.Octets.{step_of, unread_of, Spelling, after, stopped, read_of, Spells}
use Rattle.text.proofs.Pieced.{octet}

-- nothing before what is read
after_nothing : (r : Spelling) → after 0 [] r ≡ r
after_nothing r = ap (λ (n : ℕ). record { used = n; octets = r.octets; reading = r.reading; fault = r.fault }) (zero-add r.used)

after_after : (i j : ℕ) (v w : List ℕ) (r : Spelling) → after i v (after j w r) ≡ after (i + j) (v ++ w) r
after_after i j v w r =
    ap (λ (n : ℕ). record { used = n; octets = v ++ (w ++ r.octets); reading = r.reading; fault = r.fault }) (sym (add_assoc i j r.used))
    ∙ ap (λ (l : List ℕ). record { used = i + j + r.used; octets = l; reading = r.reading; fault = r.fault }) (sym (append_assoc v w r.octets))

-- one octet of the text
module _ (x : ℕ) (t : List ℕ) (room : ℕ) (s : Reading) where
  goes_on : {n : Reading} → Step.On n ≡ step_of s x → read_of (x ∷ t) room s ≡ after 1 [] (read_of t room n)
  unfolding read_of
  goes_on e = rw (← e) refl

  writes : {y : ℕ} → Step.Whole y ≡ step_of s x → 1 ≤ room → read_of (x ∷ t) room s ≡ after 1 (y ∷ []) (read_of t (room - 1) unread_of)
  unfolding read_of
  writes e h = rw (← e, le-leb 1 room h) refl

  has_no_room : {y : ℕ} → Step.Whole y ≡ step_of s x → room < 1 → read_of (x ∷ t) room s ≡ stopped s false
  unfolding read_of
  has_no_room e h = rw (← e, lt-leb 1 room h) refl

  breaks_off : Step.Fault ≡ step_of s x → read_of (x ∷ t) room s ≡ stopped s true
  unfolding read_of
  breaks_off e = rw (← e) refl

pub record Going (text : List ℕ) (s : Reading) (l buf : List ℕ) (i n : ℕ) (at : Reading) : Type 0 where
  pub some : i ≤ length text
  pub done : List ℕ
  pub put : Put 0 done l buf n
  pub fits : length done ≤ length l
  pub whole : read_of text (length l) s ≡ after i done (read_of (drop i text) (length l - n) at)

module _ {text : List ℕ} {s : Reading} {l : List ℕ} where
  pub begins : Going text s l l 0 0 s
  begins =
      record {
        some = omega arith;
        done = [];
        put = no_put;
        fits = omega arith;
        whole = let e : length l - 0 ≡ length l = omega arith in rw e (sym (after_nothing (read_of text (length l) s)));
      }

  module _ {buf : List ℕ} {i n : ℕ} {at : Reading} (g : Going text s l buf i n at) where
    -- a buffer is as long as before
    pub as_long : length buf ≡ length l
    as_long = put_length {at = 0} {p = g.done} {l = l} (omega (arith, g.fits)) g.put

    next : i < length text → drop i text ≡ get_or text i 0 ∷ drop (suc i) text
    next h = drop-cons text i 0 h

    pub takes : {r : Reading} → i < length text → Step.On r ≡ step_of at (get_or text i 0) → Going text s l buf (i + 1) n r
    takes {r} h e =
        record {
          some = omega arith;
          done = g.done;
          put = g.put;
          fits = g.fits;
          whole =
              g.whole
              ∙ rw (next h, goes_on (get_or text i 0) (drop (suc i) text) (length l - n) at e, after_after, append-nil, add-one) refl;
        }

    pub spells : {y : ℕ} → i < length text → n < length buf → Step.Whole y ≡ step_of at (get_or text i 0) → Going text s l (set buf n y) (i + 1) (n + 1) unread_of
    spells {y} h k e =
        let p = g.put.end in
        let m = as_long in
        let z : length l - n - 1 ≡ length l - (n + 1) = omega arith in
        record {
          some = omega arith;
          done = g.done ++ (y ∷ []);
          put = puts (omega (arith, g.fits)) g.put (octet {x = y} (omega arith));
          fits = simp length-append (omega arith);
          whole =
              g.whole
              ∙ rw (next h, writes (get_or text i 0) (drop (suc i) text) (length l - n) at e (omega arith), after_after, z, add-one) refl;
        }

    -- where reading ends, what is read of the rest is nothing
    module _ {f : Bool} (e : read_of (drop i text) (length l - n) at ≡ stopped at f) where
      all : read_of text (length l) s ≡ record { used = i; octets = g.done; reading = at; fault = f }
      all = g.whole ∙ rw (e, append-nil) (ap (λ (m : ℕ). record { used = m; octets = g.done; reading = at; fault = f }) (omega arith))

      pub ends : Spells text s l buf (record { used = i; wrote = n; reading = at; fault = f })
      ends = record { answer = rw (all) (let q = g.put.end in ap (λ (m : ℕ). record { used = i; wrote = m; reading = at; fault = f }) (omega arith)); buffer = rw all g.put.octets }

    pub ends_whole : length text ≤ i → Spells text s l buf (record { used = length text; wrote = n; reading = at; fault = false })
    unfolding read_of
    ends_whole h =
        let e : i ≡ length text = omega (arith, g.some) in
        rw e at (ends {f = false} (rw (drop_of_length-le text {i = i} h) refl))

    pub ends_full : {y : ℕ} → i < length text → length buf ≤ n → Step.Whole y ≡ step_of at (get_or text i 0) → Spells text s l buf (record { used = i; wrote = n; reading = at; fault = false })
    ends_full h k e = ends (rw (next h) (has_no_room (get_or text i 0) (drop (suc i) text) (length l - n) at e (omega (arith, as_long))))

    pub ends_wrong : i < length text → Step.Fault ≡ step_of at (get_or text i 0) → Spells text s l buf (record { used = i; wrote = n; reading = at; fault = true })
    ends_wrong h e = ends (rw (next h) (breaks_off (get_or text i 0) (drop (suc i) text) (length l - n) at e))

-- a text of which all is used, and the next one, are read as both in one
abbrev pub Together : List ℕ → List ℕ → ℕ → Reading → Type 0
Together t u room s =
    let w = read_of t room s in
    w.used ≡ length t → read_of (t ++ u) room s ≡ after (length t) w.octets (read_of u (room - length w.octets) w.reading)

module _ (x : ℕ) (t u : List ℕ) (room : ℕ) (s : Reading) (ih : (r : ℕ) (q : Reading) → Together t u r q) where
  one_more : (i : ℕ) → 1 + i ≡ suc i
  one_more i = omega arith

  with_room : (p : Bool) {y : ℕ} → leb 1 room ≡ p → Step.Whole y ≡ step_of s x → Together (x ∷ t) u room s
  with_room true {y} k e h =
      let a = writes x t room s e (leb-true 1 room k) in
      let w = read_of t (room - 1) unread_of in
      let z : room - 1 - length w.octets ≡ room - suc (length w.octets) = omega arith in
      let g = rw a at h in
      writes x (t ++ u) room s e (leb-true 1 room k)
      ∙ ap (after 1 (y ∷ [])) (ih (room - 1) unread_of (omega arith))
      ∙ after_after 1 (length t) (y ∷ []) w.octets _
      ∙ rw (a, one_more (length t), z) refl
  with_room false k e h = let g = rw (has_no_room x t room s e (leb-false 1 room k)) at h in absurd (omega arith)

  together : (p : Step) → p ≡ step_of s x → Together (x ∷ t) u room s
  together (Step.On n) e h =
      let a = goes_on x t room s e in
      let w = read_of t room n in
      let g = rw a at h in
      goes_on x (t ++ u) room s e
      ∙ ap (after 1 []) (ih room n (omega arith))
      ∙ after_after 1 (length t) [] w.octets _
      ∙ rw (a, one_more (length t)) refl
  together (Step.Whole y) e h = with_room (leb 1 room) refl e h
  together Step.Fault e h = let g = rw (breaks_off x t room s e) at h in absurd (omega arith)

pub reads_on : (t u : List ℕ) (room : ℕ) (s : Reading) → Together t u room s
unfolding read_of
reads_on [] u room s h = let e : room - 0 ≡ room = omega arith in rw e (sym (after_nothing (read_of u room s)))
reads_on (x ∷ t) u room s h = together x t u room s (λ (r : ℕ) (q : Reading). reads_on t u r q) (step_of s x) refl h
