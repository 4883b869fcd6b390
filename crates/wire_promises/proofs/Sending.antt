-- What a call says is in range for the writer, and so is written and read back.
use Rattle.std.proofs.Common.{Option, Some, None, ℕ, ◌≤◌, List, [], ◌∷◌, Bool, true, false, cond, ◌⊎◌, inl, inr, ⊎_elim, ◌≡◌, refl, sym, ap, ◌∙◌, arith, length}
use Rattle.services.specs.declared.ByService.{ByService}
use Rattle.services.specs.declared.Request.{Request}
use Rattle.answering_rules.specs.declared.Fate.{Fate}
use Rattle.facility.specs.declared.Component.{Component}
use Rattle.rights.specs.declared.Service.{Service}
use Rattle.facility.specs.Facility.{invoke_number}
use Rattle.memory.specs.Numbers.{wrote_number}
use Rattle.message_fields.specs.declared.Message.{Message as LineMessage}
use Rattle.message_fields.specs.declared.Single.{Single}
use Rattle.elements.specs.Meaning.{and_says, first_three}
use Rattle.octet_promises.specs.Promises.{SingleIn, CauseIn, FacilitiesIn, InRange, answer_of}
use Rattle.octet_promises.proofs.Promises.{reads, round_trip, writes}
use Rattle.octet_promises.proofs.Range.{range_fits}
use Rattle.octet_promises.proofs.Trip.{message_back}
use Rattle.writer.specs.Writing.{message_octets}
use Rattle.message_fields.specs.Numbers.{read_number}
use Rattle.user_element.specs.declared.Note.{Note}
use Rattle.user_element.specs.declared.Seen.{Seen}
use Rattle.rights.specs.declared.Rights.{Rights}
use Rattle.services.specs.declared.Said.{Said}
use Rattle.answer.specs.declared.Answer.{Answer}
use Rattle.message_types.specs.declared.Kind.{Kind}
use Rattle.sent.specs.declared.Level.{Level}
use Rattle.sent.specs.declared.Message.{Message}
use Rattle.phases.specs.declared.Phase.{Phase}
use Rattle.sent.specs.declared.side.Side.{Side}
use Rattle.call.specs.declared.Call.{Call}
use Rattle.event.specs.declared.Event.{Event}
use Rattle.call.specs.declared.reply.Reply.{Reply}
use Rattle.flow_meter.specs.declared.passage.Passage.{Passage}
use Rattle.user_element.specs.Element.{whole_of}
use Rattle.setup_rules.specs.Requests.{lacks_of, to_caller_of, to_called_of}
use Rattle.answering_rules.specs.Effects.{failed_of}
use Rattle.sent.specs.Message.{saying_of, bare_of, congestion_of, informs_of, only_if_of}
use Rattle.information_rules.specs.Messages.{passes_of, marks_of}
use Rattle.call.specs.Answering.{goes_on_of, clears_of, answering_of, answered_of, alerting_of, connect_of}
use Rattle.call.specs.Disconnect.{passed_on_of, disconnect_of, ends_of, release_complete_of}
use Rattle.facility_rules.specs.Messages.{about_three_of}
use Rattle.call.specs.Facility.{passes_facility_of, facility_of}
use Rattle.call.specs.Information.{information_passage_of, carried_of, with_element_of, information_of}
use Rattle.call.specs.Reply.{refused_of, reply_of}
use Rattle.call.specs.Setup.{proceeds_of, setup_of}
use Rattle.call.specs.Sound.{sound_of}
use Rattle.call.specs.Step.{not_an_event_of, step_of}
use Rattle.call.specs.Tick.{passes_tick_of, tick_of}
use Rattle.call_promises.specs.Ranges.{Live}
use Rattle.call_promises.specs.Numbers.{WellFormed}
use Rattle.call_promises.specs.Notes.{limit_for}
use Rattle.call_promises.specs.Refusals.{sent_to}
use Rattle.call_promises.specs.Handling.{handed_in, handed_to}
use Rattle.wire_promises.specs.Sending.{single_for, component_for, Host, HostInRange, facilities_for, wire_of, Sending}
use Rattle.logic.proofs.Decide.{by_cond, both, le}
use Rattle.call_promises.proofs.Heard.{Heard, through, barred, heard}
use Rattle.call_promises.proofs.Phases.{requested, connectable, talking, active, up, live}
use Rattle.call_promises.proofs.Ranges.{reference_range, rights_range, in_range_lem}
use Rattle.call_promises.proofs.Handling.{unaltered}
use Rattle.user_element.specs.Writable.{UserElement}
use Rattle.flow_meter.specs.CallMeters.{ready_of}

-- components with invoke numbers in range
abbrev Numbered : List Component → Type 0
Numbered [] = Unit {0}
Numbered (k ∷ ks) = (invoke_number k ≤ 127) × Numbered ks

three_in_lem : (ks : List Component) → Numbered ks → FacilitiesIn (first_three ks)
three_in_lem [] n = tt
three_in_lem (a ∷ []) n = n.0
three_in_lem (a ∷ b ∷ []) n = (n.0, n.1.0)
three_in_lem (a ∷ b ∷ d ∷ ks) n = (n.0, n.1.0, n.1.1.0)

says_in : (id : ℕ) (k : Service) (s : Said) (ks : List Component) → id ≤ 127 → Numbered ks → Numbered (and_says (component_for id k s) ks)
says_in id k Said.Nothing ks i n = n
says_in id k Said.Preferred ks i n = (i, n)
says_in id k Said.Required ks i n = (i, n)
says_in id k Said.Accepted ks i n = (i, n)
says_in id k Said.ByUser ks i n = (i, n)
says_in id k Said.ByNetwork ks i n = (i, n)

facilities_in : (h : Host) (s : ByService Said) → HostInRange h → FacilitiesIn (facilities_for h s)
facilities_in h s i =
    let last = and_says (component_for h.three Service.Three s.three) [] in
    let later = and_says (component_for h.two Service.Two s.two) last in
    three_in_lem (and_says (component_for h.one Service.One s.one) later)
    (says_in h.one Service.One s.one later i.one
    (says_in h.two Service.Two s.two last i.two (says_in h.three Service.Three s.three [] i.three tt)))

-- whether a single octet is More data
abbrev pub more_in : Single → Bool
more_in Single.Absent = false
more_in Single.MoreData = true
more_in Single.Ready = false
more_in Single.NotReady = false

-- a message that the writer takes, once the host's numbers and the element are in range; and the limit on the element
-- is
pub record Fits (limit : ℕ) (m : Message) : Type 0 where
  most : limit ≤ 131
  single : SingleIn m.kind (single_for m.level m.more)
  pub more : more_in (single_for m.level m.more) ≡ m.more
  cause : CauseIn m.cause

abbrev Sends : ℕ → Option Message → Type 0
Sends limit None = Unit {0}
Sends limit (Some m) = Fits limit m

record Speaks (limit : ℕ) (r : Reply) : Type 0 where
  calling : Sends limit r.dispatch.calling
  called : Sends limit r.dispatch.called

refused_speaks : (limit : ℕ) (c : Call) (x : Answer) (note : Note) → Speaks limit (refused_of c x note)
unfolding refused_of
refused_speaks limit c x note = record { calling = tt; called = tt }

heard_speaks : (limit : ℕ) (c : Call) (a g : Bool) (r : Reply) {s : Reply} → Heard c a g r s → (sound_of c ≡ true → a ≡ true → g ≡ true → Speaks limit r) → Speaks limit s
heard_speaks limit c a g r (through s h k) f = f s h k
heard_speaks limit c a g r (barred _ x) f = refused_speaks limit c _ _

-- an event that only a live record takes
live_speaks : (c : Call) (a g : Bool) (r : Reply) {s : Reply} → Heard c a g r s → (a ≡ true → Live c.phase) → (c.rights.limit ≤ 131 → g ≡ true → Speaks c.rights.limit r) → Speaks c.rights.limit s
live_speaks c a g r h v f =
    heard_speaks _ c a g r h (λ s t k. f (in_range_lem c s (v t)).rights.limit.1 k)

module _ (limit : ℕ) (most : limit ≤ 131) where
  only_sends : (b : Bool) (s : Option Message) → Sends limit s → Sends limit (only_if_of b s)
  unfolding only_if_of
  only_sends b s p = by_cond (Sends limit) b (λ _. p) (λ _. tt)

  saying_sends : (kind : Kind) (cause : Option ℕ) (said : ByService Said) (element : Bool) → SingleIn kind Single.Absent → CauseIn cause → Sends limit (saying_of kind cause said element)
  unfolding saying_of
  saying_sends kind cause said element s k = record { most = most; single = s; more = refl; cause = k }

  informs_sends : (more : Bool) → Sends limit (informs_of more)
  unfolding informs_of
  informs_sends true = record { most = most; single = inr refl; more = refl; cause = tt }
  informs_sends false = record { most = most; single = inl refl; more = refl; cause = tt }

  congestion_sends : (level : Level) → (single_for level false ≡ Single.Ready) ⊎ (single_for level false ≡ Single.NotReady) → more_in (single_for level false) ≡ false → Sends limit (congestion_of level)
  unfolding congestion_of
  congestion_sends level s k = record { most = most; single = s; more = k; cause = omega arith }

  side_speaks : (side : Side) (d : Call) (a : Answer) (note : Note) (back on : Option Message) (x : Option Service) → Sends limit back → Sends limit on → Speaks limit (reply_of side d a note back on x)
  unfolding reply_of
  side_speaks Side.Calling d a note back on x p w = record { calling = p; called = w }
  side_speaks Side.Called d a note back on x p w = record { calling = w; called = p }

  setup_speaks : (reference : ℕ) (rights : Rights) (q : ByService Request) (seen : Seen) → Speaks limit (proceeds_of reference rights q seen)
  unfolding proceeds_of to_caller_of to_called_of
  setup_speaks reference rights q seen =
      record {
        calling =
            by_cond (Sends limit) (lacks_of rights q) (λ _. saying_sends _ _ _ _ refl (omega arith)) (λ _. saying_sends _ _ _ _ refl tt);
        called = by_cond (Sends limit) (lacks_of rights q) (λ _. tt) (λ _. saying_sends _ _ _ _ refl tt);
      }

  outcome_speaks : (c : Call) (kind : Kind) (next : Phase) (f : ByService Fate) (seen : Seen) (x : Bool) → SingleIn kind Single.Absent → Speaks limit (answering_of c kind next f seen x)
  unfolding goes_on_of clears_of bare_of
  outcome_speaks c kind next f seen false s = record { calling = saying_sends _ _ _ _ s tt; called = tt }
  outcome_speaks c kind next f seen true s =
      record { calling = saying_sends _ _ _ _ refl (omega arith); called = saying_sends _ _ _ _ refl (omega arith) }

  answered_speaks : (c : Call) (kind : Kind) (next : Phase) (f : ByService Fate) (l : List ℕ) → SingleIn kind Single.Absent → Speaks limit (answered_of c kind next f l)
  unfolding answered_of
  answered_speaks c kind next f l s = outcome_speaks c kind next f _ (failed_of f) s

  carried_speaks : (c : Call) (side : Side) (more : Bool) (p : Passage) → Speaks limit (carried_of c side more p)
  unfolding carried_of
  carried_speaks c side more p =
      side_speaks side _ _ _ _ _ _ (only_sends (marks_of p) _ (congestion_sends Level.NotReady (inr refl) refl))
      (only_sends (passes_of p) _ (informs_sends more))

  element_speaks : (c : Call) (side : Side) (more : Bool) (seen : Seen) → Speaks limit (with_element_of c seen (carried_of c side more (information_passage_of c side)))
  unfolding with_element_of
  element_speaks c side more seen =
      by_cond (Speaks limit) (whole_of seen) (λ _. carried_speaks c side more (information_passage_of c side))
      (λ _. refused_speaks limit c _ _)

  tick_speaks : (c : Call) → Speaks limit (passes_tick_of c)
  unfolding passes_tick_of ready_of
  tick_speaks c =
      record {
        calling = only_sends _ _ (congestion_sends Level.Ready (inl refl) refl);
        called = only_sends _ _ (congestion_sends Level.Ready (inl refl) refl);
      }

-- any event
speaks : (c : Call) (e : Event) (l : List ℕ) → Speaks (limit_for c e) (step_of c e l)
unfolding setup_of alerting_of connect_of information_of facility_of passes_facility_of about_three_of disconnect_of passed_on_of release_complete_of ends_of bare_of tick_of not_an_event_of
speaks c (Event.Setup reference rights q) l =
    heard_speaks _ c _ _ _ (heard c _ _ _)
    (λ _ _ g. setup_speaks _ ((both _ _ (reference_range reference) (rights_range rights)).so g).1.limit.1 reference rights q _)
speaks c (Event.Alerting answers) l =
    live_speaks c _ _ _ (heard c _ _ _) (λ h. inl (inl ((requested c.phase).so h)))
    (λ k _. answered_speaks _ k c Kind.Alerting _ _ l refl)
speaks c (Event.Connect answers) l =
    live_speaks c _ _ _ (heard c _ _ _) (λ h. inl (⊎_elim (λ e. inl e) (λ e. inr (inl e)) ((connectable c.phase).so h)))
    (λ k _. answered_speaks _ k c Kind.Connect _ _ l refl)
speaks c (Event.Information side more) l =
    live_speaks c _ _ _ (heard c _ _ _) (λ h. inl (inr ((talking c.phase).so h))) (λ k _. element_speaks _ k c side more _)
speaks c (Event.Facility side what) l =
    live_speaks c _ _ _ (heard c _ _ _) (λ h. inl (inr (inr ((active c.phase).so h))))
    (λ k _.
    side_speaks _ k side _ _ _ _ _ _ (only_sends _ k _ _ (saying_sends _ k _ _ _ _ refl tt))
    (only_sends _ k _ _ (saying_sends _ k _ _ _ _ refl tt)))
speaks c (Event.Disconnect side cause answers) l =
    live_speaks c _ _ _ (heard c _ _ _) (λ h. inl ((up c.phase).so h))
    (λ k g. side_speaks _ k side _ _ _ _ _ _ tt (saying_sends _ k _ _ _ _ refl ((le cause 127).so g)))
speaks c (Event.ReleaseComplete side) l =
    live_speaks c _ _ _ (heard c _ _ _) (λ h. (live c.phase).so h)
    (λ k _. side_speaks _ k side _ _ _ _ _ _ tt (saying_sends _ k _ _ _ _ refl tt))
speaks c Event.Tick l = live_speaks c _ _ _ (heard c _ _ _) (λ h. (live c.phase).so h) (λ k _. tick_speaks _ k c)
speaks c Event.CallProceeding l = refused_speaks _ c _ _
speaks c Event.CongestionControl l = refused_speaks _ c _ _

-- the message to a side
module _ (c : Call) (e : Event) (l : List ℕ) where
  pub sent_fits : (side : Side) (m : Message) → sent_to (step_of c e l) side ≡ Some m → Fits (limit_for c e) m
  sent_fits Side.Calling m h = let p = (speaks c e l).calling in rw h at p
  sent_fits Side.Called m h = let p = (speaks c e l).called in rw h at p

-- the element
formed_user : (l : List ℕ) (limit : ℕ) → WellFormed l → length l ≤ limit → limit ≤ 131 → UserElement l
formed_user l limit w k m =
    record { least = let x = w.least in omega arith; most = omega arith; first = w.first; second = w.second }

non_empty : (x : ℕ) (xs : List ℕ) → x ∷ xs ≡ [] → ⊥
non_empty x xs h = let z : length (x ∷ xs) ≡ 0 = ap length h in omega arith

goes_user : (c : Call) (e : Event) (l : List ℕ) (side : Side) (m : Message) → sent_to (step_of c e l) side ≡ Some m → m.element ≡ true → (length l ≡ 0) ⊎ UserElement l
goes_user c e [] side m h g = inl refl
goes_user c e (x ∷ xs) side m h g =
    let own : handed_to step_of c e (x ∷ xs) side ≡ x ∷ xs = rw (h, g) refl in
    let w = unaltered c e (x ∷ xs) side (λ n. non_empty x xs (sym own ∙ n)) in
    inr (formed_user _ (limit_for c e) w.formed w.limit (sent_fits c e (x ∷ xs) side m h).most)

handed_user : (c : Call) (e : Event) (l : List ℕ) (side : Side) (m : Message) → sent_to (step_of c e l) side ≡ Some m → (length (handed_in (Some m) l) ≡ 0) ⊎ UserElement (handed_in (Some m) l)
handed_user c e l side m h =
    by_cond (λ (u : List ℕ). (length u ≡ 0) ⊎ UserElement u) m.element (goes_user c e l side m h) (λ _. inl refl)

pub laid_out : (c : Call) (e : Event) (l : List ℕ) (side : Side) (m : Message) → sent_to (step_of c e l) side ≡ Some m → (h : Host) → HostInRange h → InRange (wire_of h m) (handed_in (Some m) l)
laid_out c e l side m s h i =
    let f = sent_fits c e l side m s in
    record {
      reference = i.reference;
      single = f.single;
      cause = f.cause;
      facility = facilities_in h m.said i;
      user = handed_user c e l side m s;
    }

-- 7 is the writer's first row, and 6 the second
module _ (w : LineMessage) (u : List ℕ) (i : InRange w u) where
  not_seven : (b : List ℕ) → wrote_number (answer_of w u b) ≡ 7 → ⊥
  not_seven b n =
      ⊎_elim (λ x. x.0 i) (λ x. ⊎_elim (λ y. six y.1) (λ y. zero y.1) x.1) (((writes w u b).number 7).0 n)
    where
      six : ◌≡◌ {A = ℕ} 7 6 → ⊥
      six z = omega arith

      zero : ◌≡◌ {A = ℕ} 7 0 → ⊥
      zero z = omega arith

  -- what is read is not too long
  short : length (message_octets w u) ≤ 260
  short =
      ⊎_elim (λ x. absurd (two x.1)) (λ x. omega (arith, x.0))
      ((reads (message_octets w u) 0).0 (ap read_number (message_back w u (range_fits w u i))))
    where
      two : ◌≡◌ {A = ℕ} 0 2 → ⊥
      two z = omega arith

  enough : (b : List ℕ) → 260 ≤ length b → wrote_number (answer_of w u b) ≡ 0
  enough b k = ((writes w u b).number 0).1 (inr ((λ n. n i), inr ((λ t. omega (arith, short)), refl)))

pub sending : Sending
sending c e l side m s h i b =
    let r = laid_out c e l side m s h i in
    record {
      ranged = not_seven _ _ r b;
      room = enough _ _ r b;
      back = λ n a. round_trip _ _ b n a;
      own = λ n a g. (round_trip _ _ b n a).element ∙ ap (λ (t : Bool). cond t l []) g;
    }
