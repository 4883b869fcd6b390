-- The promises, kept.
use Rattle.std.specs.Prelude.{Result, Ok, Err}
use Rattle.message_fields.specs.declared.Reading.{Reading}
use Rattle.message_fields.specs.declared.Fault.{Fault}
use Prim.Native.Nat.{ℕ, ◌+◌}
use mathlib.Core.List.{List, ◌++◌}
use mathlib.Core.Bool.{Bool, true, false, true≢false}
use mathlib.Core.Logic.{inl, inr}
use mathlib.Core.Path.{◌≡◌, refl, sym, ap, ◌∙◌}
use native.Mathlib.Omega.{arith}
use native.Mathlib.Nat.{zero-add}
use borrow.Author.Tests.{leb-true, leb-false}
use lib.ListN.{length, take, drop}
use lib.Seq.{take-append_seam}
use lib.Dec.{leb}
use Rattle.logic.proofs.Only.{exactly}
use Rattle.memory.specs.Room.{placed, wrote_of, left_of}
use Rattle.message_fields.specs.declared.Message.{Message}
use Rattle.message.specs.Reading.{read_of}
use Rattle.message.specs.Parts.{user_user_of}
use Rattle.writer.specs.Fitting.{message_fits}
use Rattle.writer.specs.Writing.{message_octets}
use Rattle.octet_promises.specs.Promises.{read_rows, Reads, WholeElement, answer_of, buffer_of, write_rows, Write, Writes, Back, RoundTrip, Alike}
use Rattle.octet_promises.proofs.Table.{read_rows_lem}
use Rattle.octet_promises.proofs.Whole.{whole_element_lem}
use Rattle.octet_promises.proofs.Range.{in_range_lem, range_fits}
use Rattle.octet_promises.proofs.Trip.{message_back, element_back}

pub reads : Reads
reads m = exactly (read_rows m) _ (read_rows_lem m)

pub element : WholeElement
element m p n e = whole_element_lem m p n e

-- WRITES, by whether the fields are in range and whether the buffer is long enough
module _ (w : Message) (u l : List ℕ) where
  front_placed : (p : List ℕ) → placed 0 p l ≡ p ++ drop (length p) l
  unfolding placed
  front_placed p = simp zero-add

  written : (f r : Bool) → message_fits w u ≡ f → leb (0 + length (message_octets w u)) (length l) ≡ r → Write w u l
  unfolding wrote_of left_of
  written false r e t =
      record {
        number = exactly (write_rows w u l) _ (rw e (inl ((λ i. true≢false (sym (range_fits w u i) ∙ e)), refl)));
        refused = λ _. rw e refl;
        taken = λ z. absurd (let y : ◌≡◌ {A = ℕ} 7 0 = rw e at z in omega arith);
      }
  written true false e t =
      let s = leb-false (0 + length (message_octets w u)) (length l) t in
      record {
        number = exactly (write_rows w u l) _ (rw (e, t) (inr ((λ n. n (in_range_lem w u e)), inl (omega arith, refl))));
        refused = λ _. rw (e, t) refl;
        taken = λ z. absurd (let y : ◌≡◌ {A = ℕ} 6 0 = rw (e, t) at z in omega arith);
      }
  written true true e t =
      let s = leb-true (0 + length (message_octets w u)) (length l) t in
      record {
        number = exactly (write_rows w u l) _ (rw (e, t) (inr ((λ n. n (in_range_lem w u e)), inr ((λ k. omega arith), refl))));
        refused = λ n. absurd (n (rw (e, t) refl));
        taken = λ _. rw (e, t) (front_placed (message_octets w u));
      }

pub writes : Writes
writes w u l = written w u l _ _ refl refl

-- ROUND TRIP
module _ (w : Message) (u l : List ℕ) (n : ℕ) where
  back : (f r : Bool) → message_fits w u ≡ f → leb (0 + length (message_octets w u)) (length l) ≡ r → answer_of w u l ≡ Ok n → Back w u (take n (buffer_of w u l))
  unfolding wrote_of left_of
  back false r e t a = absurd (let b = rw e at a in let z : ◌≡◌ {A = ℕ} 0 1 = cc in omega arith)
  back true false e t a = absurd (let b = rw (e, t) at a in let z : ◌≡◌ {A = ℕ} 0 1 = cc in omega arith)
  back true true e t a =
      let b = rw (e, t) at a in
      let z : n ≡ length (message_octets w u) = (let y : n ≡ 0 + length (message_octets w u) = cc in omega arith) in
      let m : take n (left_of (message_fits w u) 0 (message_octets w u) l) ≡ message_octets w u = rw (e, t, front_placed w u l (message_octets w u), z) (take-append_seam (message_octets w u) _) in
      record { message = rw m (message_back w u e); element = rw m (element_back w u e) }

pub round_trip : RoundTrip
round_trip w u l n a = back w u l n _ _ refl refl a

-- ALIKE: the message is found again in what is read
module _ (other : Message) where
  message_in : Result Reading Fault → Message
  message_in (Ok r) = r.message
  message_in (Err f) = other

  found_again : (w : Message) (u : List ℕ) → message_fits w u ≡ true → message_in (read_of (message_octets w u)) ≡ w
  unfolding message_in
  found_again w u h = rw (message_back w u h) refl

pub alike : Alike
alike w w' u u' h h' e =
    (sym (found_again w w u h) ∙ ap (λ (m : List ℕ). message_in w (read_of m)) e ∙ found_again w w' u' h', sym (element_back w u h) ∙ ap user_user_of e ∙ element_back w' u' h')
